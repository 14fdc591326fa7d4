-- The amounts of a day's hours, added up by `fold(0, plus)`.
use Rattle.std.proofs.Common.{◌≡◌, ◌≤◌, List, map, length, get_or, ℤ, pos, nat_abs, None, Option, ap, ◌∙◌, arith, w64, SFits, to_z, of_z}
use Rattle.std.specs.List.{fold, zip}
use Rattle.std.proofs.lemmas.Slice.Zip.{get_or-zip, length-zip}
use Rattle.money.proofs.Sums.{held}
use Rattle.hours.specs.declared.records.HourRecord.{HourRecord}
use Rattle.hours.specs.declared.records.Price.{Price}
use Rattle.hours.specs.Days.{counted, price_or0, record_at, price_at}
use Rattle.hours.proofs.Sums.{held_day}
use Rattle.tariff.specs.declared.cost.HourKind.{HourKind}
use Rattle.tariff.specs.declared.cost.HourKind.TheVariants.{Off}
use Rattle.tariff.specs.declared.generator.Generator.{Generator}
use Rattle.tariff.specs.Costs.{hour_cost, hour_revenue, cost_at, costs, revenue_at, revenues}
use Rattle.tariff.proofs.Sizes.{cost_size, revenue-size}

abbrev pub pair_cost : Generator → HourKind × Option HourRecord → ℤ
pair_cost g p = hour_cost g p.0 (counted p.1)

abbrev pub triple_revenue : Generator → (HourKind × Option HourRecord) × Option Price → ℤ
triple_revenue g p = hour_revenue g p.0.0 (counted p.0.1) (price_or0 p.1)

module _ (g : Generator) (ks : List HourKind) (slots : List (Option HourRecord)) (h : length ks ≡ 24) (k : length slots ≡ 24) (r : ℤ) (fits : SFits w64 r) where
  abbrev pairs : List (HourKind × Option HourRecord)
  pairs = zip ks slots

  abbrev none : HourKind × Option HourRecord
  none = (Off, None)

  pub costs_is : r ≡ fold held (pos 0) (map (pair_cost g) pairs) → (to_z w64 (of_z w64 r) ≡ costs g ks slots) × (nat_abs (to_z w64 (of_z w64 r)) ≤ 504000000000)
  costs_is =
      held_day (cost_at g ks slots) 21000000000 (λ i. cost_size g (get_or ks i Off) (record_at slots i)) (omega arith) (pair_cost g) none
      pairs (omega (arith, length-zip ks slots)) (λ i below. ap (pair_cost g) (get_or-zip ks slots i none (omega arith) (omega arith))) r fits

  pub revenues_is : (prices : List (Option Price)) → length prices ≡ 24 → r ≡ fold held (pos 0) (map (triple_revenue g) (zip pairs prices))
      → (to_z w64 (of_z w64 r) ≡ revenues g ks slots prices) × (nat_abs (to_z w64 (of_z w64 r)) ≤ 480000000000)
  revenues_is prices l =
      let two : length pairs ≡ 24 = omega (arith, length-zip ks slots) in
      held_day (revenue_at g ks slots prices) 20000000000 (λ i. revenue-size g (get_or ks i Off) (record_at slots i) (price_at prices i)) (omega arith) (triple_revenue g) (none, None)
      (zip pairs prices) (omega (arith, length-zip pairs prices)) (λ i below.
      ap (triple_revenue g) (get_or-zip pairs prices i (none, None) (omega arith) (omega arith))
      ∙ ap (λ p. triple_revenue g (p, get_or prices i None)) (get_or-zip ks slots i none (omega arith) (omega arith))) r fits
