-- The area under a bid is the sum of the step price over each kWh.
use Rattle.std.proofs.Common.{◌≡◌, ℕ, zero, suc, ◌+◌, ◌-◌, ◌*◌, ◌^◌, ◌<◌, ◌≤◌, max, ℤ, pos, ◌+ℤ◌, ◌*ℤ◌, nat_abs, sym, ap, ◌∙◌, subst, ⊎_elim, arith, w64, SFits, to_z, of_z}
use lib.IntN.{suc_ℤ-*ℤ, zero-*ℤ}
use Rattle.std.proofs.lemmas.Bool.{cases_lt, cond-true, cond-false, lt-ltb, le-ltb}
use Rattle.std.proofs.lemmas.Int.{ints, to_z-of_z, fits_signed_from_abs}
use Rattle.money.proofs.Products.{abs-mul-le, abs-add-le}
use Rattle.tariff.specs.declared.generator.EnergyBid.{EnergyBid}
use Rattle.tariff.specs.Bids.{between, area, price_at, one_by_one, Priced}

-- three parts at three prices
abbrev three : ℕ → ℕ → ℕ → ℤ → ℤ → ℤ → ℤ
three x y z p q r = pos x *ℤ p +ℤ pos y *ℤ q +ℤ pos z *ℤ r

area-at : (b : EnergyBid) (v d x y z : ℕ) → between 0 b.u1 v d ≡ x → between b.u1 b.u2 v d ≡ y → d - max b.u2 v ≡ z → area b v d ≡ three x y z b.b1 b.b2 b.b3
area-at b v d x y z e f g = cc

-- one kWh more in one of the parts
first_more : (x y z : ℕ) (p q r : ℤ) → three (suc x) y z p q r ≡ three x y z p q r +ℤ p
first_more x y z p q r = let m = suc_ℤ-*ℤ (pos x) p in omega (arith, ints)

second_more : (x y z : ℕ) (p q r : ℤ) → three x (suc y) z p q r ≡ three x y z p q r +ℤ q
second_more x y z p q r = let m = suc_ℤ-*ℤ (pos y) q in omega (arith, ints)

third_more : (x y z : ℕ) (p q r : ℤ) → three x y (suc z) p q r ≡ three x y z p q r +ℤ r
third_more x y z p q r = let m = suc_ℤ-*ℤ (pos z) r in omega (arith, ints)

module _ (b : EnergyBid) (v n : ℕ) where
  more : area b v (v + suc n) ≡ area b v (v + n) +ℤ price_at b (v + n)
  more =
      let ok = b.bounds.steps in
      let x = between 0 b.u1 v (v + n) in
      let y = between b.u1 b.u2 v (v + n) in
      let z = v + n - max b.u2 v in
      ⊎_elim
      (λ low. area-at b v (v + suc n) (suc x) y z (omega arith) (omega arith) (omega arith)
      ∙ first_more x y z b.b1 b.b2 b.b3
      ∙ ap (λ p. area b v (v + n) +ℤ p) (sym (cond-true _ _ _ (lt-ltb _ _ low))))
      (λ past. ⊎_elim
      (λ mid. area-at b v (v + suc n) x (suc y) z (omega arith) (omega arith) (omega arith)
      ∙ second_more x y z b.b1 b.b2 b.b3
      ∙ ap (λ p. area b v (v + n) +ℤ p) (sym (cond-false _ _ _ (le-ltb _ _ past) ∙ cond-true _ _ _ (lt-ltb _ _ mid))))
      (λ high. area-at b v (v + suc n) x y (suc z) (omega arith) (omega arith) (omega arith)
      ∙ third_more x y z b.b1 b.b2 b.b3
      ∙ ap (λ p. area b v (v + n) +ℤ p) (sym (cond-false _ _ _ (le-ltb _ _ past) ∙ cond-false _ _ _ (le-ltb _ _ high))))
      (cases_lt (v + n) b.u2))
      (cases_lt (v + n) b.u1)

nothing : (b : EnergyBid) (v d : ℕ) → d ≤ v → area b v d ≡ pos 0
nothing b v d h =
    area-at b v d 0 0 0 (omega arith) (omega arith) (omega arith)
    ∙ (λ i. zero-*ℤ b.b1 i +ℤ zero-*ℤ b.b2 i +ℤ zero-*ℤ b.b3 i)

summed : (b : EnergyBid) (v n : ℕ) → area b v (v + n) ≡ one_by_one b v n
summed b v zero = nothing b v (v + 0) (omega arith)
summed b v (suc n) = more b v n ∙ ap (λ s. s +ℤ price_at b (v + n)) (summed b v n)

pub priced : (b : EnergyBid) (v d : ℕ) → Priced b v d (area b v d)
priced b v d = record {
  sum_of_step_prices = λ h. let e : v + (d - v) ≡ d = omega arith in subst (λ u. area b v u ≡ one_by_one b v (d - v)) e (summed b v (d - v));
  nothing_if_not_above = nothing b v d;
}

-- the first two parts
abbrev pub two_parts : EnergyBid → ℕ → ℕ → ℤ
two_parts b v d = pos (between 0 b.u1 v d) *ℤ b.b1 +ℤ pos (between b.u1 b.u2 v d) *ℤ b.b2

-- no kWh costs more than 200,000 thousandths
pub record PartsSize (b : EnergyBid) (v d : ℕ) : Type 0 where
  pub two : nat_abs (two_parts b v d) ≤ d * 200000
  pub all : nat_abs (area b v d) ≤ d * 200000

pub parts-size : (b : EnergyBid) (v d : ℕ) → PartsSize b v d
parts-size b v d =
    let x = between 0 b.u1 v d in
    let y = between b.u1 b.u2 v d in
    let z = d - max b.u2 v in
    let steps = b.bounds.steps in
    let first = abs-mul-le (pos x) b.b1 x 200000 (omega arith) b.bounds.prices.0 in
    let second = abs-mul-le (pos y) b.b2 y 200000 (omega arith) b.bounds.prices.1 in
    let third = abs-mul-le (pos z) b.b3 z 200000 (omega arith) b.bounds.prices.2 in
    let two = abs-add-le (pos x *ℤ b.b1) (pos y *ℤ b.b2) in
    let all = abs-add-le (two_parts b v d) (pos z *ℤ b.b3) in
    record { two = omega arith; all = omega arith }

-- the parts added up, as numbers of 64 bits: no sum wraps, and they are the area
pub record Added (b : EnergyBid) (v d : ℕ) (first second third : ℤ) : Type 0 where
  pub two_fit : SFits w64 (first +ℤ second)
  pub all_fit : SFits w64 (to_z w64 (of_z w64 (first +ℤ second)) +ℤ third)
  pub is : to_z w64 (of_z w64 (to_z w64 (of_z w64 (first +ℤ second)) +ℤ third)) ≡ area b v d

pub added : (b : EnergyBid) (v d : ℕ) (first second third : ℤ) → d < 2 ^ 32
    → first ≡ pos (between 0 b.u1 v d) *ℤ b.b1 → second ≡ pos (between b.u1 b.u2 v d) *ℤ b.b2 → third ≡ pos (d - max b.u2 v) *ℤ b.b3
    → Added b v d first second third
added b v d first second third few e f g =
    let size = parts-size b v d in
    let two : first +ℤ second ≡ two_parts b v d = λ i. e i +ℤ f i in
    let two_fit = subst (SFits w64) (sym two) (fits_signed_from_abs w64 _ (omega (arith, size.two))) in
    let all : to_z w64 (of_z w64 (first +ℤ second)) +ℤ third ≡ area b v d = λ i. (to_z-of_z w64 _ two_fit ∙ two) i +ℤ g i in
    let all_fit = subst (SFits w64) (sym all) (fits_signed_from_abs w64 _ (omega (arith, size.all))) in
    record { two_fit = two_fit; all_fit = all_fit; is = to_z-of_z w64 _ all_fit ∙ all }
