use Rattle.std.proofs.Common.{◌≡◌, ◌≤◌, true, map, sym, ap, ◌∙◌, subst}
use Rattle.table.specs.Tables.{entries, room}
use Rattle.figures.specs.Entries.{member_key, place_key, resource_key, ids_of_members, ids_of_places}
use Rattle.figures.specs.Named.{all_members, all_placed}
use Rattle.figures.specs.Owners.{among}
use Rattle.daybook.specs.Numbers.{every, all_ids, has_whole_hours}
use Rattle.daybook.specs.Calls.{brings}
use Rattle.daybook.specs.Held.{held}
use Rattle.daybook.specs.Records.{resource}
use Rattle.daybook.proofs.Acts.{refused, found_ok}
use Rattle.daybook.proofs.Keeping.{ids_after, every-after, among-found}
use Rattle.daybook.proofs.book.DayBook.enter_resource.Goals as goal

pub returns-in_err-may_add : goal.returns-in_err-may_add
returns-in_err-may_add c =
    let there = found_ok _ _ _ c.in_ok-member.ensures in
    let lies = found_ok _ _ _ c.in_ok-place.ensures in
    refused (brings (resource c.args.ids.own.number c.args.ids.member.number c.args.ids.place.number c.args.unit)) (held c.args.self.now) _ c.from_residual-in_err-may_add.ensures.1
    (rw (there, lies) c.in_err-may_add.ensures)

pub invariant_of-self-clause-owned : goal.invariant_of-self-clause-owned
invariant_of-self-clause-owned c =
    let b = c.args.self.now in
    let ms = ids_of_members (entries b.members) in
    let owner : among ms c.new.result.member ≡ true =
    subst (λ r. among ms r.member ≡ true) (sym c.new.ensures) (among-found member_key _ (entries b.members) (found_ok _ _ _ c.in_ok-member.ensures)) in
    ap (all_members ms) c.insert.ensures.after ∙ every-after resource_key (λ r. among ms r.member) c.new.result owner (entries b.resources) (room b.resources) b.owned

pub invariant_of-self-clause-placed : goal.invariant_of-self-clause-placed
invariant_of-self-clause-placed c =
    let b = c.args.self.now in
    let ps = ids_of_places (entries b.places) in
    let spot : among ps c.new.result.place ≡ true =
    subst (λ r. among ps r.place ≡ true) (sym c.new.ensures) (among-found place_key _ (entries b.places) (found_ok _ _ _ c.in_ok-place.ensures)) in
    ap (all_placed ps) c.insert.ensures.after ∙ every-after resource_key (λ r. among ps r.place) c.new.result spot (entries b.resources) (room b.resources) b.placed

pub invariant_of-self-clause-resource_ids : goal.invariant_of-self-clause-resource_ids
invariant_of-self-clause-resource_ids c =
    let b = c.args.self.now in
    let one : 1 ≤ resource_key c.new.result = subst (λ r. 1 ≤ resource_key r) (sym c.new.ensures) c.args.ids.own.bounds in
    ap (λ xs. all_ids (map resource_key xs)) c.insert.ensures.after ∙ ids_after resource_key c.new.result (entries b.resources) (room b.resources) one b.resource_ids

pub invariant_of-self-clause-hours_whole : goal.invariant_of-self-clause-hours_whole
invariant_of-self-clause-hours_whole c =
    let b = c.args.self.now in
    let whole : has_whole_hours c.new.result ≡ true = ap has_whole_hours c.new.ensures in
    ap (every has_whole_hours) c.insert.ensures.after ∙ every-after resource_key has_whole_hours c.new.result whole (entries b.resources) (room b.resources) b.hours_whole
