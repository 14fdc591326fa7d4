-- A day of twenty-four hours. Outside, hours count from 1.
--
--   hour_of    an hour of the day, or that the number is none
--   slot_at    what stands for an hour
--   placed     the slots with one of them changed
--   zeros      the record that an hour without one counts as
--   counted    the record that an hour counts as; price_or0 the same of a price
--   over_day   the sum over the twenty-four hours; add_day the same of quantities
use Rattle.std.specs.Prelude.{◌≡◌, ℕ, zero, suc, ◌+◌, ◌-◌, true, false, List, [], ◌∷◌, ℤ, pos, ◌+ℤ◌, Some, None, Option, Result, slice_index_or, slice_set, unsigned_abs}
use Rattle.std.proofs.Common.{arith}
use Rattle.std.proofs.lemmas.Int.{ints}
use Rattle.hours.specs.declared.day.Hour.{Hour}
use Rattle.hours.specs.declared.range.Field.{Field}
use Rattle.hours.specs.declared.range.OutOfRange.{OutOfRange}
use Rattle.hours.specs.declared.records.HourRecord.{HourRecord}
use Rattle.hours.specs.declared.records.Price.{Price}
use Rattle.hours.specs.Bounds.{LimitBounds}
use Rattle.hours.specs.Ranges.{field, all_fit, made, all_in}

abbrev pub hour_fields : ℤ → List Field
hour_fields hour = field hour (pos 1) (pos 24) ∷ []

pub hour_bounds : (hour : ℤ) → all_fit (hour_fields hour) ≡ true → LimitBounds (unsigned_abs hour)
hour_bounds hour h = let k = all_in (hour_fields hour) h in (omega (arith, ints), omega (arith, ints))

abbrev pub hour_made : (hour : ℤ) → all_fit (hour_fields hour) ≡ true → Hour
hour_made hour h = record { number = unsigned_abs hour; bounds = hour_bounds hour h }

abbrev pub hour_of : ℤ → Result Hour OutOfRange
hour_of hour = made (hour_fields hour) (hour_made hour)

abbrev pub slot_at : {X : Type 0} → List (Option X) → ℕ → Option X
slot_at slots hour = slice_index_or slots (hour - 1) None

abbrev pub placed : {X : Type 0} → List (Option X) → ℕ → Option X → List (Option X)
placed slots hour slot = slice_set slots (hour - 1) slot

abbrev pub zeros : HourRecord
zeros = record { day_ahead = pos 0; meter = pos 0; self_schedule = 0; committed = false; bounds = (omega arith, omega arith, omega arith) }

abbrev pub counted : Option HourRecord → HourRecord
counted (Some r) = r
counted None = zeros

abbrev pub no_price : Price
no_price = record { day_ahead = pos 0; real_time = pos 0; bounds = (omega arith, omega arith) }

abbrev pub price_or0 : Option Price → Price
price_or0 (Some p) = p
price_or0 None = no_price

unfoldable pub over_hours : (ℕ → ℤ) → ℕ → ℤ
over_hours f zero = pos 0
over_hours f (suc n) = over_hours f n +ℤ f n

abbrev pub over_day : (ℕ → ℤ) → ℤ
over_day f = over_hours f 24

-- the same of quantities
unfoldable pub add_hours : (ℕ → ℕ) → ℕ → ℕ
add_hours f zero = 0
add_hours f (suc n) = add_hours f n + f n

abbrev pub add_day : (ℕ → ℕ) → ℕ
add_day f = add_hours f 24

-- the record and the price of the hour that follows the first i
abbrev pub record_at : List (Option HourRecord) → ℕ → HourRecord
record_at slots i = counted (slice_index_or slots i None)

abbrev pub price_at : List (Option Price) → ℕ → Price
price_at prices i = price_or0 (slice_index_or prices i None)
