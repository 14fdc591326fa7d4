use Rattle.std.proofs.Common.{None, arith, rules}
use Rattle.tariff.proofs.Arrays.{made_of}
use Rattle.tariff.specs.Schedules.{flagged}
use Rattle.tariff.proofs.schedule.flags.Goals as goal

pub returns : goal.returns
returns c = made_of _ flagged _ c.args.slots.now _ None (λ i y q k. (search rules, λ below. search rules)) 24 c.from_fn.ensures.items (omega arith)
