use Rattle.std.proofs.Common.{◌≡◌, Some, refl, ap, ◌∙◌, arith}
use Rattle.std.proofs.lemmas.Grind.{common_steps}
use Rattle.std.specs.Option.{option_map}
use Rattle.refusal.specs.declared.cause.Refusal.TheVariants.{NotRegistered, DraftOut}
use Rattle.refusal.specs.declared.kinds.Kind.TheVariants.{Resource}
use Rattle.table.specs.Entries.{replaced}
use Rattle.table.specs.Tables.{entries}
use Rattle.figures.specs.Entries.{resource_key, ids_of_members, ids_of_places, is_generator}
use Rattle.figures.specs.Owners.{among}
use Rattle.daybook.specs.Changes.{with_hour, hour_changed}
use Rattle.daybook.specs.Due.{is_load}
use Rattle.daybook.specs.Held.{held, with_resources}
use Rattle.daybook.proofs.Acts.{accepted, found_is_a, post_free}
use Rattle.daybook.proofs.Keeping.{found_passes}
use Rattle.daybook.proofs.Updates.{with_hours, put_back}
use Rattle.daybook.proofs.book.DayBook.enter_hour.Given as given
use Rattle.daybook.proofs.book.DayBook.enter_hour.Goals as goal
use Rattle.daybook.proofs.book.DayBook.enter_hour.Goals.{After-keep_resource}

pub returns-in_err-found-clause-generators : goal.returns-in_err-found-clause-generators
returns-in_err-found-clause-generators g c = λ tells. let f = c.in_err-found.ensures.value is_generator tells in grind (arith, common_steps)

pub returns-in_err-found-clause-loads : goal.returns-in_err-found-clause-loads
returns-in_err-found-clause-loads g c = λ tells. let f = c.in_err-found.ensures.value is_load tells in grind (arith, common_steps)

pub returns-in_err-no_draft_out-clause-generators : goal.returns-in_err-no_draft_out-clause-generators
returns-in_err-no_draft_out-clause-generators g c = λ tells. let f = c.in_ok-found.ensures.value is_generator tells in grind (arith, common_steps)

pub returns-in_err-no_draft_out-clause-loads : goal.returns-in_err-no_draft_out-clause-loads
returns-in_err-no_draft_out-clause-loads g c = λ tells. let f = c.in_ok-found.ensures.value is_load tells in grind (arith, common_steps)

pub keep_resource-requires-clause-owned : goal.keep_resource-requires-clause-owned
keep_resource-requires-clause-owned g c =
    let b = c.args.self.now in
    found_passes resource_key (λ r. among (ids_of_members (entries b.members)) r.member) c.args.slot.id.number (entries b.resources) c.in_ok-found.found c.in_ok-found.ensures.there b.owned

pub keep_resource-requires-clause-placed : goal.keep_resource-requires-clause-placed
keep_resource-requires-clause-placed g c =
    let b = c.args.self.now in
    found_passes resource_key (λ r. among (ids_of_places (entries b.places)) r.place) c.args.slot.id.number (entries b.resources) c.in_ok-found.found c.in_ok-found.ensures.there b.placed

changed : (g : given.Over) (c : After-keep_resource g) → held c.keep_resource.new.self ≡ hour_changed c.args.slot.id.number c.args.slot.hour.number (Some c.args.record) (held c.args.self.now)
changed g c =
    let b = c.args.self.now in
    let x = c.in_ok-found.found in
    c.keep_resource.ensures
    ∙ ap (λ d. with_resources (held b) (replaced resource_key (with_hours x d) (entries b.resources))) c.set.ensures
    ∙ ap (with_resources (held b)) (put_back resource_key c.args.slot.id.number (with_hour c.args.slot.hour.number (Some c.args.record)) x (entries b.resources) c.in_ok-found.ensures.there refl)

pub returns-clause-generators : goal.returns-clause-generators
returns-clause-generators g c = λ tells.
    let k = c.args.slot.id.number in
    let there = found_is_a is_generator k _ _ (c.in_ok-found.ensures.value is_generator tells) in
    accepted _ _ _ (post_free _ (option_map DraftOut c.args.self.now.out) (NotRegistered k Resource) there c.in_ok-no_draft_out.ensures) (changed g c)

pub returns-clause-loads : goal.returns-clause-loads
returns-clause-loads g c = λ tells.
    let k = c.args.slot.id.number in
    let there = found_is_a is_load k _ _ (c.in_ok-found.ensures.value is_load tells) in
    accepted _ _ _ (post_free _ (option_map DraftOut c.args.self.now.out) (NotRegistered k Resource) there c.in_ok-no_draft_out.ensures) (changed g c)
