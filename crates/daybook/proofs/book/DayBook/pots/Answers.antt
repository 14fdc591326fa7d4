use Rattle.daybook.specs.Held.{held}
use Rattle.daybook.proofs.Pooling.{pooled, made-both}
use Rattle.daybook.proofs.book.DayBook.pots.Goals as goal

pub returns-clause-law : goal.returns-clause-law
returns-clause-law c =
    let b = c.args.self.now in
    let l = c.standing.ensures in
    made-both c.pots.result _ _ _ (pooled (held b) b.members_rise b.owned _ _ l.places l.resources) c.pots.ensures.members c.pots.ensures.bound
