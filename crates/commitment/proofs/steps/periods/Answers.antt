use Rattle.commitment.proofs.Commits.{self_committed}
use Rattle.commitment.proofs.steps.periods.Goals as goal

pub returns-clause-law : goal.returns-clause-law
returns-clause-law c = self_committed c.args.mrt c.args.mdt c.args.mds _ _
