use Rattle.std.proofs.Common.{◌+◌, sym, arith, rules}
use Rattle.commitment.specs.Stretches.{listed}
use Rattle.tariff.specs.Costs.{kinds_from}
use Rattle.hours.proofs.Arrays.{all_made}
use Rattle.tariff.proofs.HourKinds.{length-kinds_from, get_or-kinds_from}
use Rattle.tariff.proofs.cost.account.kinds_in.Goals as goal

pub returns : goal.returns
returns c =
    let periods = listed c.args.periods.now in
    let slots = c.args.slots.now in
    let kinds = kinds_from 1 periods slots in
    let long = length-kinds_from 1 periods slots in
    all_made _ _ _ kinds (λ i y q k. (search rules, λ below d. search (rules, sym (get_or-kinds_from 1 periods slots i (i + 1) d (omega arith) (omega arith)))))
    24 c.from_fn.ensures.items (omega arith)
