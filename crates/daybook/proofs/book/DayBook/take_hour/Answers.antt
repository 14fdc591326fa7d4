use Rattle.std.proofs.Common.{is_some, None, sym, refl, ap, ◌∙◌}
use Rattle.std.specs.Option.{option_map}
use Rattle.refusal.specs.declared.cause.Refusal.TheVariants.{NotRegistered, DraftOut, NothingToStrike}
use Rattle.refusal.specs.declared.kinds.Kind.TheVariants.{Resource}
use Rattle.table.specs.Entries.{lookup, replaced}
use Rattle.table.specs.Tables.{entries}
use Rattle.figures.specs.Entries.{resource_key, ids_of_members, ids_of_places}
use Rattle.figures.specs.Owners.{among}
use Rattle.daybook.specs.Changes.{with_hour}
use Rattle.daybook.specs.Held.{held, with_resources}
use Rattle.daybook.proofs.Acts.{accepted, found_ok, found-is, nothing-due}
use Rattle.daybook.proofs.Keeping.{found_passes}
use Rattle.daybook.proofs.Slots.{hour_stands}
use Rattle.daybook.proofs.Updates.{put_back, with_hours}
use Rattle.daybook.proofs.book.DayBook.take_hour.Goals as goal

pub keep_resource-requires-clause-owned : goal.keep_resource-requires-clause-owned
keep_resource-requires-clause-owned c =
    let b = c.args.self.now in
    let there = found-is _ _ _ c.in_ok-found.ensures in
    found_passes resource_key (λ r. among (ids_of_members (entries b.members)) r.member) c.args.slot.id.number (entries b.resources) c.in_ok-found.found there b.owned

pub keep_resource-requires-clause-placed : goal.keep_resource-requires-clause-placed
keep_resource-requires-clause-placed c =
    let b = c.args.self.now in
    let there = found-is _ _ _ c.in_ok-found.ensures in
    found_passes resource_key (λ r. among (ids_of_places (entries b.places)) r.place) c.args.slot.id.number (entries b.resources) c.in_ok-found.found there b.placed

pub returns : goal.returns
returns c =
    let b = c.args.self.now in
    let rs = entries b.resources in
    let k = c.args.slot.id.number in
    let h = c.args.slot.hour.number in
    let x = c.in_ok-found.found in
    let there = found-is (lookup resource_key k rs) x _ c.in_ok-found.ensures in
    let stood = hour_stands (held b) k c.args.slot.hour x there ∙ ap is_some (sym c.strike.ensures.reply) ∙ found_ok _ _ _ c.in_ok-ok_or.ensures.value in
    let free = nothing-due _ _ (option_map DraftOut b.out) (NotRegistered k Resource) (NothingToStrike k h) (ap is_some there) c.in_ok-no_draft_out.ensures stood in
    accepted _ _ _ free
    (c.keep_resource.ensures
    ∙ ap (λ d. with_resources (held b) (replaced resource_key (with_hours x d) rs)) c.strike.ensures.after
    ∙ ap (with_resources (held b)) (put_back resource_key k (with_hour h None) x rs there refl))
