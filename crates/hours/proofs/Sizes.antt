-- How large the energy of an hour can be.
use Rattle.std.proofs.Common.{◌≤◌, ◌-ℤ◌, ◌*ℤ◌, neg_ℤ, nat_abs, arith}
use Rattle.std.proofs.lemmas.Int.{ints}
use Rattle.money.proofs.Products.{abs-mul-le, abs-add-le, abs_negℤ}
use Rattle.money.proofs.Rounds.{rounded-size, or_zero-size}
use Rattle.hours.specs.declared.records.HourRecord.{HourRecord}
use Rattle.hours.specs.declared.records.Price.{Price}
use Rattle.hours.specs.Energy.{day_ahead_line, real_time_line, hour_energy, hour_demand, hour_deviation}

pub day_ahead_size : (r : HourRecord) (p : Price) → nat_abs (day_ahead_line r p) ≤ 20000000
day_ahead_size r p = rounded-size (r.day_ahead *ℤ p.day_ahead) 20000000 (omega (arith, abs-mul-le r.day_ahead p.day_ahead 100000 200000 r.bounds.0 p.bounds.0))

pub real_time_size : (r : HourRecord) (p : Price) → nat_abs (real_time_line r p) ≤ 40000000
real_time_size r p =
    let h = r.bounds in
    rounded-size ((r.meter -ℤ r.day_ahead) *ℤ p.real_time) 40000000 (omega (arith, abs-mul-le (r.meter -ℤ r.day_ahead) p.real_time 200000 200000 (omega (arith, ints)) p.bounds.1))

pub energy_size : (r : HourRecord) (p : Price) → nat_abs (hour_energy r p) ≤ 60000000
energy_size r p = omega (arith, day_ahead_size r p, real_time_size r p, abs-add-le (day_ahead_line r p) (real_time_line r p))

pub demand-size : (r : HourRecord) → hour_demand r ≤ 100000
demand-size r = let h = r.bounds in omega (arith, or_zero-size (neg_ℤ r.meter), abs_negℤ r.meter)

pub deviation-size : (r : HourRecord) → hour_deviation r ≤ 200000
deviation-size r = let h = r.bounds in let k : nat_abs (r.day_ahead -ℤ r.meter) ≤ 200000 = omega (arith, ints) in omega (arith, or_zero-size (r.day_ahead -ℤ r.meter))
