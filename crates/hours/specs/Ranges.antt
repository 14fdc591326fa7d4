-- Numbers handed in, each with its range, and what is made of them where all fit.
--
--   field       a number with its range
--   fits        the number lies in its range
--   all_fit     every one does
--   first_out   the position of the first that does not, counted on from n
--   checked     nothing, or the first field out of range
--   made        a value made of fields that all fit, or the first one out of range
--   AllIn       that all fit, as orders
use Rattle.std.specs.Prelude.{◌≡◌, ℕ, ◌+◌, Bool, true, false, cond, ◌&&◌, T, List, [], ◌∷◌, ℤ, ◌≤ℤ◌, Ok, Err, Result, int_le, refl}
use Rattle.std.proofs.Common.{sym, subst}
use Rattle.std.proofs.lemmas.Bool.{and_parts}
use Rattle.hours.specs.declared.range.Field.{Field}
use Rattle.hours.specs.declared.range.OutOfRange.{OutOfRange}

abbrev pub field : ℤ → ℤ → ℤ → Field
field value least most = (value, least, most)

abbrev pub fits : Field → Bool
fits f = int_le f.1 f.0 && int_le f.0 f.2

abbrev pub all_fit : List Field → Bool
all_fit [] = true
all_fit (f ∷ fs) = fits f && all_fit fs

abbrev pub first_out : ℕ → List Field → ℕ
first_out n [] = n
first_out n (f ∷ fs) = cond (fits f) (first_out (n + 1) fs) n

abbrev pub out_of_range : List Field → OutOfRange
out_of_range fs = record { field = first_out 1 fs }

abbrev pub checked : List Field → Result (Unit {0}) OutOfRange
checked fs = cond (all_fit fs) (Ok tt) (Err (out_of_range fs))

-- what is made may rest on the test
abbrev pub when_true : {X : Type 0} (b : Bool) → (b ≡ true → X) → X → X
when_true true make other = make refl
when_true false make other = other

abbrev pub made : {X : Type 0} (fs : List Field) → (all_fit fs ≡ true → X) → Result X OutOfRange
made fs make = when_true (all_fit fs) (λ h. Ok (make h)) (Err (out_of_range fs))

-- what the test tells of each number
abbrev pub InRange : Field → Type 0
InRange f = (f.1 ≤ℤ f.0) × (f.0 ≤ℤ f.2)

abbrev pub AllIn : List Field → Type 0
AllIn [] = Unit {0}
AllIn (f ∷ fs) = InRange f × AllIn fs

-- the two outcomes of a check
pub record Inside (fs : List Field) : Type 0 where
  pub test : all_fit fs ≡ true
  pub all : AllIn fs

pub record Outside (fs : List Field) (e : OutOfRange) : Type 0 where
  pub test : all_fit fs ≡ false
  pub first : e ≡ out_of_range fs

at_most : (a b : ℤ) → int_le a b ≡ true → a ≤ℤ b
at_most a b h = record { le = subst T (sym h) tt }

pub all_in : (fs : List Field) → all_fit fs ≡ true → AllIn fs
all_in [] h = tt
all_in (f ∷ fs) h =
    let k = and_parts (fits f) (all_fit fs) h in
    let r = and_parts (int_le f.1 f.0) (int_le f.0 f.2) k.0 in
    ((at_most _ _ r.0, at_most _ _ r.1), all_in fs k.1)
