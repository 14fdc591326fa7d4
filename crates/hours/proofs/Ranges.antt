-- The check of a list of fields by its first that does not fit, and a value made of fields that all fit.
use Rattle.std.proofs.Common.{◌≡◌, ℕ, ◌+◌, Bool, true, false, not, List, [], ◌∷◌, Some, None, Ok, Err, Result, sym, refl, ap, ◌∙◌, arith}
use Rattle.std.specs.List.{position, position_from}
use Rattle.std.proofs.lemmas.Iterator.Adapters.{position_from-zero}
use mathlib.Core.Path.{path_j'}
use Rattle.hours.specs.declared.range.Field.{Field}
use Rattle.hours.specs.declared.range.OutOfRange.{OutOfRange}
use Rattle.hours.specs.Ranges.{fits, all_fit, first_out, out_of_range, when_true, made, Inside, Outside}

abbrev pub fits_not : Field → Bool
fits_not f = not (fits f)

-- the search, where the list starts at index i
found_from : (fs : List Field) (i k : ℕ) → position_from fits_not i fs ≡ Some k → (all_fit fs ≡ false) × (first_out (i + 1) fs ≡ k + 1)
found_from [] i k e = cc
found_from (f ∷ fs) i k e = grind (arith, found_from fs (i + 1) k)

none_from : (fs : List Field) (i : ℕ) → position_from fits_not i fs ≡ None → all_fit fs ≡ true
none_from [] i e = refl
none_from (f ∷ fs) i e = grind (arith, none_from fs (i + 1))

pub field_out : (fs : List Field) (i : ℕ) → position fits_not fs ≡ Some i → (all_fit fs ≡ false) × (first_out 1 fs ≡ i + 1)
field_out fs i e = found_from fs 0 i (sym (position_from-zero fits_not fs) ∙ e)

pub all_fit_none_out : (fs : List Field) → position fits_not fs ≡ None → all_fit fs ≡ true
all_fit_none_out fs e = none_from fs 0 (sym (position_from-zero fits_not fs) ∙ e)

-- A check of the fields fs, as the code writes them, is one of the same fields as the rules write them.
module _ {X : Type 0} (fs gs : List Field) (same : fs ≡ gs) (make : all_fit gs ≡ true → X) where
  pub fit_too : Inside fs → all_fit gs ≡ true
  fit_too h = ap all_fit (sym same) ∙ h.test

  pub made-is : (x : X) (h : all_fit gs ≡ true) → x ≡ make h → Ok x ≡ made gs make
  made-is x h e =
      ap Ok e
      ∙ path_j' (λ b p. (f : b ≡ true → X) (o : Result X OutOfRange) → Ok (f p) ≡ when_true b (λ q. Ok (f q)) o) (λ f o. refl) h make (Err (out_of_range gs))

  pub refused-is : (r : Result X OutOfRange) (y e : OutOfRange) → r ≡ Err y → y ≡ e → Outside fs e → r ≡ made gs make
  refused-is r y e was id out =
      was ∙ ap Err (id ∙ out.first ∙ ap out_of_range same)
      ∙ path_j' (λ b p. (f : b ≡ true → X) (o : Result X OutOfRange) → o ≡ when_true b (λ q. Ok (f q)) o) (λ f o. refl) (ap all_fit (sym same) ∙ out.test) make (Err (out_of_range gs))
