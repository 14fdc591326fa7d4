-- What the changes of a table keep: what is named is still there, and ids are still ids.
use Rattle.std.proofs.Common.{◌≡◌, ℕ, ◌≤◌, Bool, true, leb, List, [], ◌∷◌, map, is_some, is_ok, Some, refl, ◌∙◌, arith, sym}
use Rattle.std.proofs.lemmas.Bool.{cond_both, le-leb}
use Rattle.std.proofs.lemmas.Grind.{common_steps}
use Rattle.std.proofs.lemmas.List.Folds.{list_all-map}
use Rattle.table.specs.Entries.{lookup, inserted, replaced}
use Rattle.table.specs.Tables.{insert_reply, insert_after}
use Rattle.figures.specs.declared.standing.Resource.{Resource}
use Rattle.figures.specs.Named.{all_named}
use Rattle.figures.specs.Owners.{among}
use Rattle.daybook.specs.Numbers.{every, all_ids}

module _ {E : Type 0} (key : E → ℕ) where
  pub among-found : (k : ℕ) (xs : List E) → is_some (lookup key k xs) ≡ true → among (map key xs) k ≡ true
  among-found k [] h = cc
  among-found k (x ∷ xs) h = let ih = among-found k xs in grind (arith, common_steps)

  among-inserted : (e : E) (k : ℕ) (xs : List E) → among (map key xs) k ≡ true → among (map key (inserted key e xs)) k ≡ true
  among-inserted e k [] h = cc
  among-inserted e k (x ∷ xs) h = let ih = among-inserted e k xs in grind (arith, common_steps)

  named_inserted : (of : Resource → ℕ) (e : E) (xs : List E) (rs : List Resource) → all_named of (map key xs) rs ≡ true → all_named of (map key (inserted key e xs)) rs ≡ true
  named_inserted of e xs [] h = refl
  named_inserted of e xs (r ∷ rs) h = let ih = named_inserted of e xs rs in let here = among-inserted e (of r) xs in grind (arith, common_steps)

  -- whether the insertion is granted or not
  module _ (e : E) (xs : List E) (n : ℕ) where
    pub named_after : (of : Resource → ℕ) (rs : List Resource) → all_named of (map key xs) rs ≡ true → all_named of (map key (insert_after key e xs n)) rs ≡ true
    named_after of rs h = cond_both (is_ok (insert_reply key e xs n)) (inserted key e xs) xs (λ ys. all_named of (map key ys) rs ≡ true) (λ _. named_inserted of e xs rs h) (λ _. h)

-- what all entries pass, where the one that goes in or takes another's place does too
module _ {E : Type 0} (key : E → ℕ) (p : E → Bool) where
  module _ (e : E) (passes : p e ≡ true) where
    every_inserted : (xs : List E) → every p xs ≡ true → every p (inserted key e xs) ≡ true
    every_inserted [] h = grind (arith, common_steps)
    every_inserted (x ∷ xs) h = let ih = every_inserted xs in grind (arith, common_steps)

    pub every-after : (xs : List E) (n : ℕ) → every p xs ≡ true → every p (insert_after key e xs n) ≡ true
    every-after xs n h = cond_both (is_ok (insert_reply key e xs n)) (inserted key e xs) xs (λ ys. every p ys ≡ true) (λ _. every_inserted xs h) (λ _. h)

    pub every-replaced : (xs : List E) → every p xs ≡ true → every p (replaced key e xs) ≡ true
    every-replaced [] h = refl
    every-replaced (x ∷ xs) h = let ih = every-replaced xs in grind (arith, common_steps)

  pub found_passes : (k : ℕ) (xs : List E) (e : E) → lookup key k xs ≡ Some e → every p xs ≡ true → p e ≡ true
  found_passes k [] e is h = cc
  found_passes k (x ∷ xs) e is h = let ih = found_passes k xs e in grind (arith, common_steps)

pub ids_after : {E : Type 0} (key : E → ℕ) (e : E) (xs : List E) (n : ℕ) → 1 ≤ key e → all_ids (map key xs) ≡ true → all_ids (map key (insert_after key e xs n)) ≡ true
ids_after key e xs n one h =
    list_all-map (leb 1) key (insert_after key e xs n)
    ∙ every-after key (λ x. leb 1 (key x)) e (le-leb 1 (key e) one) xs n (sym (list_all-map (leb 1) key xs) ∙ h)
