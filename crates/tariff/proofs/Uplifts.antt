-- An uplift is paid exactly when cost passes revenue by half a cent or more.
use Rattle.std.proofs.Common.{◌≡◌, ℕ, zero, suc, ◌<◌, ◌≤◌, ℤ, pos, negsuc, ◌-ℤ◌, neg_ℤ, ◌≤ℤ◌, refl, arith}
use Rattle.std.proofs.lemmas.Int.{ints}
use Rattle.money.specs.Amounts.{or_zero}
use Rattle.money.specs.Rounding.{nearest, rounded}
use Rattle.tariff.specs.Costs.{Uplifted}

nothing_below : (m : ℕ) → or_zero (neg_ℤ (pos m)) ≡ 0
nothing_below zero = refl
nothing_below (suc m) = refl

paid_above : (z : ℤ) → 0 < or_zero (rounded z) → pos 500 ≤ℤ z
paid_above (pos n) h = let k : 500 ≤ n = omega arith in omega (arith, ints)
paid_above (negsuc n) h = absurd (omega (arith, nothing_below (nearest (suc n))))

above_paid : (z : ℤ) → pos 500 ≤ℤ z → 0 < or_zero (rounded z)
above_paid (pos n) h = let k : 500 ≤ n = omega (arith, ints) in omega arith
above_paid (negsuc n) h = absurd (omega (arith, ints))

pub uplifted : (cost earned : ℤ) → Uplifted cost earned (or_zero (rounded (cost -ℤ earned)))
uplifted cost earned = record {
  paid_only_if_cost_passes = λ h. let k = paid_above (cost -ℤ earned) h in omega (arith, ints);
  paid_whenever_cost_passes = λ h. above_paid (cost -ℤ earned) (omega (arith, ints));
}
