use Rattle.std.proofs.Common.{◌^◌, arith, rules, tests}
use Rattle.std.proofs.lemmas.Iterator.{YieldsList-from_slice, YieldsList-from_map}
use Rattle.hours.specs.Energy.{hour_deviation}
use Rattle.hours.proofs.Sizes.{deviation-size}
use Rattle.hours.proofs.Sums.{added_fits, added_day}
use Rattle.hours.proofs.energy.Day+HourRecord.deviation.Goals as goal

pub sum-requires-clause-fits : goal.sum-requires-clause-fits
sum-requires-clause-fits c =
    let slots = c.args.self.now.slots in
    added_fits hour_deviation 200000 slots (omega arith) deviation-size
    (YieldsList-from_map _ _ (YieldsList-from_slice slots cc) c.map.ensures.closure (λ x r q k. search (rules, tests))) (2 ^ 64) (omega arith)

pub returns : goal.returns
returns c =
    let slots = c.args.self.now.slots in
    let all = added_day hour_deviation 200000 slots (omega arith) deviation-size
    (YieldsList-from_map _ _ (YieldsList-from_slice slots cc) c.map.ensures.closure (λ x r q k. search (rules, tests))) c.sum.result c.sum.ensures.ran in
    record { value = all.0; bound = all.1 }
