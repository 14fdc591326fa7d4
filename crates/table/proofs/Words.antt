-- The words of specs/ by the library's words for the same lists.
use Rattle.std.proofs.Common.{◌≡◌, ℕ, suc, ◌+◌, ◌&&◌, eqb, ltb, cond, List, [], ◌∷◌, length, set, Some, refl, sym, ap, ◌∙◌, arith}
use Rattle.std.specs.List as lists
use Rattle.std.proofs.lemmas.Iterator.Adapters.{position_from-zero}
use Rattle.std.proofs.lemmas.Bool.{cond_both, cond-true, cond-false}
use Rattle.std.proofs.lemmas.Bool.Decides.{nat_tests}
use Rattle.table.specs.Entries.{position_from, position, lookup, inserted, replaced, same_keys}

module _ {E : Type 0} (key : E → ℕ) where
  position_from-is : (k i : ℕ) (xs : List E) → position_from key k i xs ≡ lists.position_from (λ x. eqb (key x) k) i xs
  position_from-is k i [] = refl
  position_from-is k i (x ∷ xs) = ap (cond (eqb (key x) k) (Some i)) (position_from-is k (i + 1) xs)

  pub position-is : (k : ℕ) (xs : List E) → lists.position (λ x. eqb (key x) k) xs ≡ position key k xs
  position-is k xs = position_from-zero (λ x. eqb (key x) k) xs ∙ sym (position_from-is k 0 xs)

  pub lookup-is : (k : ℕ) (xs : List E) → lookup key k xs ≡ lists.find (λ x. eqb (key x) k) xs
  lookup-is k [] = refl
  lookup-is k (x ∷ xs) = ap (cond (eqb (key x) k) (Some x)) (lookup-is k xs)

  pub replaced-is : (e : E) (xs : List E) → replaced key e xs ≡ set xs (lists.position_or_len (λ x. eqb (key x) (key e)) xs) e
  replaced-is e [] = refl
  replaced-is e (x ∷ xs) = let ih = replaced-is e xs in grind (arith, nat_tests)

  pub inserted-is : (e : E) (xs : List E) → inserted key e xs ≡ lists.insert xs (lists.prefix_len (λ x. ltb (key x) (key e)) xs) e
  inserted-is e [] = refl
  inserted-is e (x ∷ xs) =
      let n = lists.prefix_len (λ y. ltb (key y) (key e)) xs in
      let next : suc n ≡ 1 + n = omega arith in
      cond_both (ltb (key x) (key e)) (x ∷ inserted key e xs) (e ∷ (x ∷ xs)) (λ ys. ys ≡ lists.insert (x ∷ xs) (lists.prefix_len (λ y. ltb (key y) (key e)) (x ∷ xs)) e)
      (λ t. ap (λ ys. x ∷ ys) (inserted-is e xs) ∙ ap (λ m. lists.insert (x ∷ xs) m e) (next ∙ sym (cond-true _ _ _ t)))
      (λ f. ap (λ m. lists.insert (x ∷ xs) m e) (sym (cond-false _ _ _ f)))

  pub same_keys-is : (xs ys : List E) → same_keys key xs ys ≡ (eqb (length xs) (length ys) && lists.list_all (λ p. eqb (key p.0) (key p.1)) (lists.zip xs ys))
  same_keys-is [] [] = refl
  same_keys-is [] (y ∷ ys) = grind (arith, nat_tests)
  same_keys-is (x ∷ xs) [] = grind (arith, nat_tests)
  same_keys-is (x ∷ xs) (y ∷ ys) = let ih = same_keys-is xs ys in grind (arith, nat_tests)
