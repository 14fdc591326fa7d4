use Rattle.std.proofs.Common.{rules}
use Rattle.sharing.proofs.Nobody.{nobody_exactly}
use Rattle.sharing.proofs.admission.admit.Goals as goal

pub returns-then-demand-gt-MOST_ENERGY-clause-nobody : goal.returns-then-demand-gt-MOST_ENERGY-clause-nobody
returns-then-demand-gt-MOST_ENERGY-clause-nobody c = nobody_exactly c.args.total c.args.rows.now c.args.there _ (search rules)

pub returns-then-demand-eq0-clause-nobody : goal.returns-then-demand-eq0-clause-nobody
returns-then-demand-eq0-clause-nobody c = nobody_exactly c.args.total c.args.rows.now c.args.there _ (search rules)

pub returns-clause-nobody : goal.returns-clause-nobody
returns-clause-nobody c = nobody_exactly c.args.total c.args.rows.now c.args.there _ (search rules)
