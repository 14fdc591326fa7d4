use Rattle.std.proofs.Common.{arith, rules}
use Rattle.tariff.proofs.Arrays.{made_of}
use Rattle.tariff.specs.declared.cost.HourKind.TheVariants.{Off}
use Rattle.tariff.specs.Costs.{is_on}
use Rattle.tariff.proofs.cost.account.marks.Goals as goal

pub returns : goal.returns
returns c = made_of _ is_on _ c.args.kinds.now _ Off (λ i y q k. (search rules, λ below. search rules)) 24 c.from_fn.ensures.items (omega arith)
