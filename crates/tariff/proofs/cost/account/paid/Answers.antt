use Rattle.std.proofs.Common.{rules}
use Rattle.std.proofs.lemmas.Int.{to_z-of_z}
use Rattle.tariff.proofs.cost.account.paid.Goals as goal

pub returns-clause-value : goal.returns-clause-value
returns-clause-value c = search (rules, to_z-of_z)
