-- The hours of a day, each beside what stands for it: `(1..).zip(slots)`.
use Rattle.std.proofs.Common.{◌≡◌, ℕ, ◌+◌, ◌-◌, ◌≤◌, Bool, ◌&&◌, ◌||◌, leb, List, [], ◌∷◌, length, Option, None, Some, refl, ap, subst, ⊎_elim, arith, Iter, Bor}
use Rattle.std.specs.List.{enumerate_from, list_any}
use Rattle.std.specs.Option.{MatchOption}
use Rattle.std.specs.Iterator.Adapters.{zip_first, zip_second}
use Rattle.std.specs.Slice.Iter.{iter_rest}
use Rattle.std.specs.declared.iter.Zip.{Zip}
use Rattle.std.specs.declared.ops.RangeFrom.{RangeFrom}
use Rattle.std.proofs.iter.Yields.{fronts}
use Rattle.std.proofs.lemmas.Iterator.{YieldsList, zips}
use Rattle.std.proofs.lemmas.Iterator.Splits.{YieldsList-from_shown_while}
use Rattle.std.proofs.lemmas.List.FromFn.{length-enumerate_from}
use Rattle.commitment.specs.declared.stretch.Stretch.{Stretch}
use Rattle.tariff.specs.declared.cost.HourKind.{HourKind}
use Rattle.tariff.specs.Costs.{is_self_committed, self_in}

-- the steps of `h..` at a `u8`
abbrev pub ups : RangeFrom ℕ → Option ℕ → RangeFrom ℕ → Type 0
ups s r t = MatchOption r ((255 - s.start ≡ 0) × (t ≡ s)) (λ x. (x ≡ s.start) × (t.start ≡ x + 1))

abbrev Hours : Type 0 → Type 0
Hours A = Zip (RangeFrom ℕ) (Iter A)

module _ {A : Type 0} where
  abbrev shown : Hours A → List (ℕ × A)
  shown s = enumerate_from (zip_first s).start (iter_rest (zip_second s))

  abbrev Room : Hours A → Type 0
  Room s = (zip_first s).start + length (iter_rest (zip_second s)) ≤ 255

  none_left : (s t : Hours A) → Room s → zips ups fronts s None t → length (shown s) ≡ 0
  none_left s t room done =
      let e = length-enumerate_from (zip_first s).start (iter_rest (zip_second s)) in
      ⊎_elim (λ a. let k = a.1.0 in omega arith) (λ b. let k = b.1.0 in omega arith) done

  one_off : (s : Hours A) (x : ℕ × Bor A) (t : Hours A) → Room s → zips ups fronts s (Some x) t → Room t × (shown s ≡ (x.0, x.1.now) ∷ shown t)
  one_off s x t room step =
      let long = ap length step.1 in
      let hour = step.0.0 in
      let next = step.0.1 in
      let here = ap (enumerate_from (zip_first s).start) step.1 in
      (omega arith, cc)

  pub numbered : (s : Hours A) (h : ℕ) (xs : List A) → (zip_first s).start ≡ h → iter_rest (zip_second s) ≡ xs → h + length xs ≤ 255
      → YieldsList (zips ups fronts) (λ p. (p.0, p.1.now)) s (enumerate_from h xs)
  numbered s h xs first second room =
      let e : shown s ≡ enumerate_from h xs = λ i. enumerate_from (first i) (second i) in
      let long = ap length second in
      subst (YieldsList (zips ups fronts) (λ p. (p.0, p.1.now)) s) e
      (YieldsList-from_shown_while (zips ups fronts) (λ p. (p.0, p.1.now)) shown Room none_left one_off s (omega arith))

-- whether this hour of the run is self-committed
abbrev pub own_hour : Stretch → ℕ × HourKind → Bool
own_hour run p = (leb run.first p.0 && leb p.0 run.last) && is_self_committed p.1

pub self_in_any : (run : Stretch) (h : ℕ) (ks : List HourKind) → list_any (own_hour run) (enumerate_from h ks) ≡ self_in run h ks
self_in_any run h [] = refl
self_in_any run h (k ∷ ks) = ap (λ b. own_hour run (h, k) || b) (self_in_any run (h + 1) ks)
