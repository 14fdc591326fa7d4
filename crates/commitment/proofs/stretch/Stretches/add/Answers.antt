use Rattle.commitment.proofs.Scans.{add_none, add-full}
use Rattle.commitment.proofs.stretch.Stretches.add.Goals as goal

pub returns-in_default : goal.returns-in_default
returns-in_default c = let s = c.args.self.now in add_none s.items s.count c.args.p s.few s.room c.in_default.is

pub returns-else-self-lt24 : goal.returns-else-self-lt24
returns-else-self-lt24 c = let s = c.args.self.now in add-full s.items s.count c.args.p c.if-self-lt24.false s.room
