-- What the position of a key tells of the look-up and of a replacement.
use Rattle.std.proofs.Common.{◌≡◌, ℕ, suc, ◌+◌, ◌<◌, Bool, false, eqb, List, [], ◌∷◌, length, get_or, take, set, is_some, Some, None, Option, sym, refl, ap, ◌∙◌, ⊎_elim, arith}
use lib.Seq.{take-set-lt}
use Rattle.std.specs.List.{position_or_len}
use Rattle.std.proofs.lemmas.List.{length-take}
use Rattle.std.proofs.lemmas.Option.{cond_some}
use Rattle.std.proofs.lemmas.Bool.{ltb-true, cond-true, cond-false, cases_Bool, true≢false}
use Rattle.std.proofs.lemmas.Bool.Decides.{nat_tests}
use Rattle.table.specs.Entries.{position_from, position, lookup, replaced}
use Rattle.table.proofs.Words.{position-is, replaced-is}

none_from : {X : Type 0} (o : Option X) → is_some o ≡ false → None ≡ o
none_from None h = refl
none_from (Some x) h = absurd (true≢false h)

module _ {E : Type 0} (key : E → ℕ) where
  abbrev first : ℕ → List E → ℕ
  first k xs = position_or_len (λ x. eqb (key x) k) xs

  found : (k j : ℕ) (xs : List E) → Some j ≡ position key k xs → (first k xs < length xs) × (j ≡ first k xs)
  found k j xs h = let p = cond_some _ _ _ (position-is key k xs ∙ sym h) in (ltb-true _ _ p.0, sym p.1)

  pub found_within : (k j : ℕ) (xs : List E) → Some j ≡ position key k xs → j < length xs
  found_within k j xs h = let f = found k j xs h in omega (arith, f.0, f.1)

  -- the entries are the first n slots
  pub found-sets : (e : E) (k j n : ℕ) (slots : List E) → k ≡ key e → Some j ≡ position key k (take n slots) → take n (set slots j e) ≡ replaced key e (take n slots)
  found-sets e k j n slots q h =
      let f = found k j (take n slots) h in
      take-set-lt n slots j e (omega (arith, f.0, f.1, length-take n slots))
      ∙ ap (λ i. set (take n slots) i e) (f.1 ∙ ap (λ m. first m (take n slots)) q) ∙ sym (replaced-is key e (take n slots))

  some_from : (k i : ℕ) (xs : List E) → is_some (position_from key k i xs) ≡ is_some (lookup key k xs)
  some_from k i [] = refl
  some_from k i (x ∷ xs) = let ih = some_from k (i + 1) xs in grind (arith, nat_tests)

  record Looks (k i j : ℕ) (xs : List E) : Type 0 where
    at : ℕ
    is : j ≡ i + at
    looks : (d : E) → lookup key k xs ≡ Some (get_or xs at d)

  looks_from : (k i j : ℕ) (xs : List E) → position_from key k i xs ≡ Some j → Looks k i j xs
  looks_from k i j [] h = let z : ◌≡◌ {A = ℕ} 0 1 = cc in absurd (omega arith)
  looks_from k i j (x ∷ xs) h =
      ⊎_elim
      (λ t.
      let here : Some i ≡ Some j = sym (cond-true _ _ _ t) ∙ h in
      let e : i ≡ j = cc in
      record { at = 0; is = omega arith; looks = λ d. cond-true _ (Some x) (lookup key k xs) t })
      (λ f.
      let n = looks_from k (i + 1) j xs (sym (cond-false _ _ _ f) ∙ h) in
      record { at = suc n.at; is = omega (arith, n.is); looks = λ d. cond-false _ _ _ f ∙ n.looks d })
      (cases_Bool (eqb (key x) k))

  pub found-looks : (k j : ℕ) (xs : List E) (d : E) → Some j ≡ position key k xs → Some (get_or xs j d) ≡ lookup key k xs
  found-looks k j xs d h =
      let l = looks_from k 0 j xs (sym h) in
      let at : j ≡ l.at = omega (arith, l.is) in
      ap (λ i. Some (get_or xs i d)) at ∙ sym (l.looks d)

  pub missing-looks : (k : ℕ) (xs : List E) → None ≡ position key k xs → None ≡ lookup key k xs
  missing-looks k xs h = none_from (lookup key k xs) (sym (some_from k 0 xs) ∙ ap is_some (sym h))

  pub told : (b : Bool) (o : Option ℕ) (e : E) (k : ℕ) (xs : List E) → b ≡ is_some o → o ≡ position key k xs → k ≡ key e → b ≡ is_some (lookup key (key e) xs)
  told b o e k xs h p q = h ∙ ap is_some p ∙ some_from k 0 xs ∙ ap (λ n. is_some (lookup key n xs)) q

  pub missing-stays : (e : E) (xs : List E) → false ≡ is_some (lookup key (key e) xs) → xs ≡ replaced key e xs
  missing-stays e [] h = refl
  missing-stays e (x ∷ xs) h = let ih = missing-stays e xs in grind (arith, nat_tests)
