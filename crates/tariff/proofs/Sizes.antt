-- How large the amounts of an hour can be.
use Rattle.std.proofs.Common.{◌-◌, ◌*◌, ◌≤◌, pos, nat_abs, arith}
use Rattle.money.specs.Amounts.{or_zero}
use Rattle.money.proofs.Products.{abs-mul-le, abs-add-le}
use Rattle.money.proofs.Rounds.{or_zero-size}
use Rattle.tariff.specs.declared.cost.HourKind.{HourKind}
use Rattle.tariff.specs.declared.cost.HourKind.TheVariants.{Off, Committed, SelfCommitted}
use Rattle.tariff.specs.declared.generator.Generator.{Generator}
use Rattle.hours.specs.declared.records.HourRecord.{HourRecord}
use Rattle.hours.specs.declared.records.Price.{Price}
use Rattle.tariff.specs.Bids.{area}
use Rattle.tariff.specs.Costs.{taken, hour_cost, hour_revenue}
use Rattle.tariff.proofs.Areas.{parts-size}

pub cost_size : (g : Generator) (k : HourKind) (r : HourRecord) → nat_abs (hour_cost g k r) ≤ 21000000000
cost_size g SelfCommitted r =
    let h = r.bounds in
    omega (arith, or_zero-size r.day_ahead, (parts-size g.bid (taken g r) (or_zero r.day_ahead)).all)
cost_size g Committed r =
    let h = r.bounds in
    let k = g.bounds.costs in
    let a = area g.bid g.min_load (or_zero r.day_ahead) in
    omega (arith, or_zero-size r.day_ahead, (parts-size g.bid g.min_load (or_zero r.day_ahead)).all, abs-add-le (pos (1000 * g.load_cost)) a)
cost_size g Off r = omega arith

pub revenue-size : (g : Generator) (k : HourKind) (r : HourRecord) (p : Price) → nat_abs (hour_revenue g k r p) ≤ 20000000000
revenue-size g SelfCommitted r p =
    let h = r.bounds in
    let d = r.day_ahead in
    omega (arith, abs-mul-le (pos (or_zero d - taken g r)) p.day_ahead 100000 200000 (omega (arith, or_zero-size d)) p.bounds.0)
revenue-size g Committed r p = omega (arith, abs-mul-le r.day_ahead p.day_ahead 100000 200000 r.bounds.0 p.bounds.0)
revenue-size g Off r p = omega arith
