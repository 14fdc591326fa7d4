use Rattle.std.proofs.Common.{ap, ◌∙◌}
use Rattle.table.specs.Tables.{entries}
use Rattle.figures.specs.Entries.{resource_key, ids_of_members, ids_of_places}
use Rattle.figures.specs.Named.{all_members, all_placed}
use Rattle.figures.specs.Owners.{among}
use Rattle.daybook.specs.Numbers.{every, has_whole_hours}
use Rattle.daybook.proofs.Keeping.{every-replaced}
use Rattle.daybook.proofs.book.DayBook.keep_resource.Goals as goal

pub invariant_of-self-clause-owned : goal.invariant_of-self-clause-owned
invariant_of-self-clause-owned c =
    let b = c.args.self.now in
    let ms = ids_of_members (entries b.members) in
    ap (all_members ms) c.replace.ensures.after ∙ every-replaced resource_key (λ r. among ms r.member) c.args.resource c.requires.owned (entries b.resources) b.owned

pub invariant_of-self-clause-placed : goal.invariant_of-self-clause-placed
invariant_of-self-clause-placed c =
    let b = c.args.self.now in
    let ps = ids_of_places (entries b.places) in
    ap (all_placed ps) c.replace.ensures.after ∙ every-replaced resource_key (λ r. among ps r.place) c.args.resource c.requires.placed (entries b.resources) b.placed

pub invariant_of-self-clause-hours_whole : goal.invariant_of-self-clause-hours_whole
invariant_of-self-clause-hours_whole c =
    let b = c.args.self.now in
    ap (every has_whole_hours) c.replace.ensures.after ∙ every-replaced resource_key has_whole_hours c.args.resource c.requires.whole (entries b.resources) b.hours_whole
