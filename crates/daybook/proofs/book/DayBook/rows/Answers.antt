use Rattle.std.proofs.Common.{◌≤◌, length, sym, ◌∙◌, subst, arith}
use Rattle.table.specs.Tables.{entries}
use Rattle.table.proofs.Laws.{never_over}
use Rattle.figures.specs.Entries.{ids_of_members}
use Rattle.figures.specs.Owners.{member_rows, RowsOfAll}
use Rattle.daybook.specs.Held.{held}
use Rattle.daybook.specs.Questions.{Shareable}
use Rattle.daybook.proofs.Pooling.{shareable}
use Rattle.daybook.proofs.book.DayBook.rows.Goals as goal

pub returns-clause-law : goal.returns-clause-law
returns-clause-law c =
    let b = c.args.self.now in
    let l = c.roll.ensures in
    let value = c.rows.ensures.value ∙ (λ i. member_rows (l.records.resources i) (ids_of_members (l.members i))) in
    let few : length (entries b.members) ≤ 16 = omega (arith, never_over b.members, b.rooms.0) in
    subst (Shareable (held b)) (sym value) (shareable (held b) b.members_rise b.owned few (subst RowsOfAll l.records.resources c.rows.ensures.together))
