-- What is read of two lists of numbers, one behind the other.
use Rattle.std.proofs.Common.{◌≡◌, ℕ, suc, ◌+◌, ◌^◌, ◌<◌, ◌≤◌, Bool, true, false, List, [], ◌∷◌, ◌++◌, length, ℤ, IfErr, Ok, Err, Result, sym, refl, ap, ◌∙◌, zero-add, arith, w64, SFits, to_z, of_z, MatchResult}
use Rattle.std.proofs.lemmas.Int.{to_z-of_z}
use Rattle.std.proofs.lemmas.Grind.{common_steps}
use Rattle.refusal.specs.declared.cause.Refusal.{Refusal}
use Rattle.refusal.specs.declared.cause.Refusal.TheVariants.{FieldOutOfRange}
use Rattle.hours.specs.declared.range.Field.{Field}
use Rattle.hours.specs.declared.range.OutOfRange.{OutOfRange}
use Rattle.hours.specs.Ranges.{all_fit, first_out, out_of_range, when_true, made}
use Rattle.hours.proofs.Ranges.{made-is, refused-is}
use Rattle.daybook.specs.Readings.{Reading, both, into, read, behind, front, back}

-- all fit, or the first that does not is told
told : {X : Type 0} (b : Bool) (f : b ≡ true → X) (o : OutOfRange) (n : ℕ) (r : Result X Refusal) → behind n (when_true b (λ h. Ok (f h)) (Err o)) ≡ r
    → MatchResult r (λ x. (h : b ≡ true) × (x ≡ f h)) (λ e. (b ≡ false) × (e ≡ FieldOutOfRange (n + o.field)))
told true f o n (Ok x) e = (refl, cc)
told true f o n (Err y) e = cc
told false f o n (Ok x) e = cc
told false f o n (Err y) e = (refl, cc)

fit_join : (fs gs : List Field) → all_fit fs ≡ true → all_fit gs ≡ true → all_fit (fs ++ gs) ≡ true
fit_join [] gs h k = k
fit_join (f ∷ fs) gs h k = let ih = fit_join fs gs in grind (arith, common_steps)

out-before : (fs gs : List Field) (n : ℕ) → all_fit fs ≡ false → (all_fit (fs ++ gs) ≡ false) × (first_out n (fs ++ gs) ≡ first_out n fs)
out-before [] gs n h = cc
out-before (f ∷ fs) gs n h = let ih = out-before fs gs (n + 1) in (grind (arith, common_steps), grind (arith, common_steps))

out-behind : (fs gs : List Field) (n : ℕ) → all_fit fs ≡ true → all_fit gs ≡ false → (all_fit (fs ++ gs) ≡ false) × (first_out n (fs ++ gs) ≡ first_out (length fs + n) gs)
out-behind [] gs n h k = (k, ap (λ m. first_out m gs) (sym (zero-add n)))
out-behind (f ∷ fs) gs n h k =
    let ih = out-behind fs gs (n + 1) in
    let m : length fs + (n + 1) ≡ suc (length fs) + n = omega arith in
    (grind (arith, common_steps), grind (arith, common_steps))

counted_on : (fs : List Field) (n m : ℕ) → first_out (n + m) fs ≡ n + first_out m fs
counted_on [] n m = refl
counted_on (f ∷ fs) n m =
    let ih = counted_on fs n (m + 1) in
    let e : n + m + 1 ≡ n + (m + 1) = omega arith in
    grind (arith, common_steps)

within : (fs : List Field) (n : ℕ) → first_out n fs ≤ n + length fs
within [] n = omega arith
within (f ∷ fs) n = let ih = within fs (n + 1) in grind (arith, common_steps)

-- a position is small, so that the numbers before it can be added
pub small : {X : Type 0} (n : ℕ) (fs : List Field) (make : all_fit fs ≡ true → X) (r : Result X OutOfRange) → r ≡ made fs make → n + length fs < 1000
    → IfErr r (λ e. n + e.field < 2 ^ 64)
small n fs make (Ok x) is few = tt
small n fs make (Err e) is few =
    let k = told (all_fit fs) make (out_of_range fs) 0 (Err (FieldOutOfRange (0 + e.field))) (ap (behind 0) (sym is)) in
    let same : 0 + e.field ≡ 0 + first_out 1 fs = (let p = k.1 in cc) in
    omega (arith, same, within fs 1)

-- numbers that are handed on are the numbers that came in
module _ {X : Type 0} where
  pub handed : (f : ℤ → X) (a : ℤ) → SFits w64 a → f (to_z w64 (of_z w64 a)) ≡ f a
  handed f a p i = f (to_z-of_z w64 a p i)

  pub handed_two : (f : ℤ → ℤ → X) (a b : ℤ) → SFits w64 a → SFits w64 b → f (to_z w64 (of_z w64 a)) (to_z w64 (of_z w64 b)) ≡ f a b
  handed_two f a b p q i = f (to_z-of_z w64 a p i) (to_z-of_z w64 b q i)

  pub handed_three : (f : ℤ → ℤ → ℤ → X) (a b c : ℤ) → SFits w64 a → SFits w64 b → SFits w64 c → f (to_z w64 (of_z w64 a)) (to_z w64 (of_z w64 b)) (to_z w64 (of_z w64 c)) ≡ f a b c
  handed_three f a b c p q r i = f (to_z-of_z w64 a p i) (to_z-of_z w64 b q i) (to_z-of_z w64 c r i)

  pub handed_four : (f : ℤ → ℤ → ℤ → ℤ → X) (a b c d : ℤ) → SFits w64 a → SFits w64 b → SFits w64 c → SFits w64 d
      → f (to_z w64 (of_z w64 a)) (to_z w64 (of_z w64 b)) (to_z w64 (of_z w64 c)) (to_z w64 (of_z w64 d)) ≡ f a b c d
  handed_four f a b c d p q r s i = f (to_z-of_z w64 a p i) (to_z-of_z w64 b q i) (to_z-of_z w64 c r i) (to_z-of_z w64 d s i)

-- what is read where all fit, and where one does not
module _ {X : Type 0} (r : Reading X) (n : ℕ) where
  pub read_at : (h : all_fit r.fields ≡ true) → Ok (r.value h) ≡ behind n (made r.fields r.value)
  read_at h = ap (behind n) (made-is r.fields r.fields refl r.value (r.value h) h refl)

  out_at : all_fit r.fields ≡ false → Err (FieldOutOfRange (n + first_out 1 r.fields)) ≡ behind n (made r.fields r.value)
  out_at h = ap (behind n) (refused-is r.fields r.fields refl r.value (Err (out_of_range r.fields)) (out_of_range r.fields) (out_of_range r.fields) refl refl (record { test = h; first = refl }))

  pub tells : (x : Result X Refusal) → x ≡ behind n (made r.fields r.value)
      → MatchResult x (λ a. (h : all_fit r.fields ≡ true) × (a ≡ r.value h)) (λ e. (all_fit r.fields ≡ false) × (e ≡ FieldOutOfRange (n + first_out 1 r.fields)))
  tells x is = told (all_fit r.fields) r.value (out_of_range r.fields) n x (sym is)

module _ {A B : Type 0} (r : Reading A) (s : Reading B) where
  pub read-first-out : (e : Refusal) → Err e ≡ read r → Err e ≡ read (both r s)
  read-first-out e is =
      let t = tells r 0 (Err e) is in
      let o = out-before r.fields s.fields 1 t.0 in
      ap Err (t.1 ∙ ap (λ m. FieldOutOfRange (0 + m)) (sym o.1)) ∙ out_at (both r s) 0 o.0

  -- n is how many numbers come before the second reading
  module _ (n : ℕ) (many : n ≡ length r.fields) (a : A) (is : Ok a ≡ read r) where
    pub read_second_out : (e : Refusal) → Err e ≡ behind n (made s.fields s.value) → Err e ≡ read (both r s)
    read_second_out e out =
        let t = tells s n (Err e) out in
        let o = out-behind r.fields s.fields 1 (tells r 0 (Ok a) is).0 t.0 in
        let at : n + first_out 1 s.fields ≡ 0 + first_out 1 (r.fields ++ s.fields) =
        sym (counted_on s.fields n 1) ∙ ap (λ m. first_out (m + 1) s.fields) many ∙ sym o.1 ∙ sym (zero-add _) in
        ap Err (t.1 ∙ ap FieldOutOfRange at) ∙ out_at (both r s) 0 o.0

    pub read-both : (b : B) → Ok b ≡ behind n (made s.fields s.value) → Ok (a, b) ≡ read (both r s)
    read-both b was =
        let h = fit_join r.fields s.fields (tells r 0 (Ok a) is).0 (tells s n (Ok b) was).0 in
        let one : Ok a ≡ Ok (r.value (front r.fields s.fields h)) = is ∙ sym (read_at r 0 (front r.fields s.fields h)) in
        let two : Ok b ≡ Ok (s.value (back r.fields s.fields h)) = was ∙ sym (read_at s n (back r.fields s.fields h)) in
        let a-is : a ≡ r.value (front r.fields s.fields h) = cc in
        let b-is : b ≡ s.value (back r.fields s.fields h) = cc in
        (λ i. Ok (a-is i, b-is i)) ∙ read_at (both r s) 0 h

-- what is read of the same numbers as something else
module _ {A B : Type 0} (f : A → B) (r : Reading A) where
  pub read-into : (a : A) → Ok a ≡ read r → Ok (f a) ≡ read (into f r)
  read-into a is = let t = tells r 0 (Ok a) is in ap (λ x. Ok (f x)) t.1 ∙ read_at (into f r) 0 t.0

  pub into-out : (e : Refusal) → Err e ≡ read r → Err e ≡ read (into f r)
  into-out e is = let t = tells r 0 (Err e) is in ap Err t.1 ∙ out_at (into f r) 0 t.0

-- a call that is read in two steps
module _ {A B C : Type 0} (f : A × B → C) (r : Reading A) (s : Reading B) where
  pub first_out_lem : (e : Refusal) → Err e ≡ read r → Err e ≡ read (into f (both r s))
  first_out_lem e is = into-out f (both r s) e (read-first-out r s e is)

  pub second_out : (n : ℕ) → n ≡ length r.fields → (a : A) → Ok a ≡ read r → (e : Refusal) → Err e ≡ behind n (made s.fields s.value) → Err e ≡ read (into f (both r s))
  second_out n many a is e out = into-out f (both r s) e (read_second_out r s n many a is e out)

  pub both_read : (n : ℕ) → n ≡ length r.fields → (a : A) → Ok a ≡ read r → (b : B) → Ok b ≡ behind n (made s.fields s.value) → Ok (f (a, b)) ≡ read (into f (both r s))
  both_read n many a is b was = read-into f (both r s) (a, b) (read-both r s n many a is b was)

-- what was read, back from what was made of it
module _ {A C : Type 0} (f : A → C) (r : Reading A) where
  pub from-into : (y : C) → Ok y ≡ read (into f r) → (a : A) × (Ok a ≡ read r) × (y ≡ f a)
  from-into y is = let t = tells (into f r) 0 (Ok y) is in (r.value t.0, read_at r 0 t.0, t.1)

pub from-both : {A B C : Type 0} (f : A × B → C) (r : Reading A) (s : Reading B) (y : C) → Ok y ≡ read (into f (both r s)) → (a : A) × (b : B) × (Ok a ≡ read r) × (y ≡ f (a, b))
from-both f r s y is =
    let t = tells (into f (both r s)) 0 (Ok y) is in
    (r.value (front r.fields s.fields t.0), s.value (back r.fields s.fields t.0), read_at r 0 (front r.fields s.fields t.0), t.1)
