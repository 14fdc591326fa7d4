-- What an hour record comes to in energy: two lines in cents, a demand and a deviation in kWh.
--
--   day_ahead_line              the schedule at the day-ahead price
--   real_time_line              what the meter is off the schedule, at the real-time price; each line is rounded by itself
--   hour_demand                 what the meter drew
--   hour_deviation              what the meter is below the schedule
--   energy, demand, deviation   the same over a resource's day
use Rattle.std.specs.Prelude.{ℕ, List, ℤ, ◌+ℤ◌, ◌-ℤ◌, ◌*ℤ◌, neg_ℤ, Option}
use Rattle.money.specs.Amounts.{or_zero}
use Rattle.money.specs.Rounding.{rounded}
use Rattle.hours.specs.declared.records.HourRecord.{HourRecord}
use Rattle.hours.specs.declared.records.Price.{Price}
use Rattle.hours.specs.Days.{over_day, add_day, record_at, price_at}

abbrev pub day_ahead_line : HourRecord → Price → ℤ
day_ahead_line r p = rounded (r.day_ahead *ℤ p.day_ahead)

abbrev pub real_time_line : HourRecord → Price → ℤ
real_time_line r p = rounded ((r.meter -ℤ r.day_ahead) *ℤ p.real_time)

abbrev pub hour_energy : HourRecord → Price → ℤ
hour_energy r p = day_ahead_line r p +ℤ real_time_line r p

abbrev pub hour_demand : HourRecord → ℕ
hour_demand r = or_zero (neg_ℤ r.meter)

abbrev pub hour_deviation : HourRecord → ℕ
hour_deviation r = or_zero (r.day_ahead -ℤ r.meter)

abbrev pub energy_at : List (Option HourRecord) → List (Option Price) → ℕ → ℤ
energy_at slots prices i = hour_energy (record_at slots i) (price_at prices i)

abbrev pub energy : List (Option HourRecord) → List (Option Price) → ℤ
energy slots prices = over_day (energy_at slots prices)

abbrev pub demand_at : List (Option HourRecord) → ℕ → ℕ
demand_at slots i = hour_demand (record_at slots i)

abbrev pub demand : List (Option HourRecord) → ℕ
demand slots = add_day (demand_at slots)

abbrev pub deviation_at : List (Option HourRecord) → ℕ → ℕ
deviation_at slots i = hour_deviation (record_at slots i)

abbrev pub deviation : List (Option HourRecord) → ℕ
deviation slots = add_day (deviation_at slots)
