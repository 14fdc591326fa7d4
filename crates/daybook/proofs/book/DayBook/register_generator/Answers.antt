use Rattle.std.proofs.Common.{◌≡◌, Ok, refl, ap, ◌∙◌, lit<}
use Rattle.tariff.specs.declared.generator.Generator.{Generator as Machine}
use Rattle.tariff.specs.Generators.{generator_fields, generator_made}
use Rattle.figures.specs.declared.standing.Unit.TheVariants.{Generator}
use Rattle.daybook.specs.declared.id.Id.{Id}
use Rattle.daybook.specs.Calls.{register_generator, Act, ids_from, generator_from, brings_resource}
use Rattle.daybook.specs.Readings.{read, behind}
use Rattle.daybook.proofs.Followed.{out_of_range, carried_out}
use Rattle.daybook.proofs.Taking.{small, first_out_lem, second_out, both_read, handed_three}
use Rattle.daybook.proofs.book.DayBook.register_generator.Goals as goal
use Rattle.daybook.proofs.book.DayBook.register_generator.Goals.{In_ok-ids}

abbrev act : (Id × Id × Id) × Machine → Act
act x = brings_resource x.0 (Generator x.1)

the-ids : (c : In_ok-ids) → Ok (c.in_ok-ids.ids.own, c.in_ok-ids.ids.member, c.in_ok-ids.ids.place) ≡ read (ids_from c.args.id c.args.member c.args.place)
the-ids c = c.in_ok-ids.ensures ∙ handed_three (λ i j k. read (ids_from i j k)) c.args.id c.args.member c.args.place c.ranges.id c.ranges.member c.ranges.place

pub returns-in_err-ids-clause-follows : goal.returns-in_err-ids-clause-follows
returns-in_err-ids-clause-follows c =
    let id = c.args.id in let m = c.args.member in let p = c.args.place in let form = c.args.form.now in
    let out = first_out_lem act (ids_from id m p) (generator_from form) _ (c.in_err-ids.ensures ∙ handed_three (λ i j k. read (ids_from i j k)) id m p c.ranges.id c.ranges.member c.ranges.place) in
    out_of_range (register_generator id m p form) c.args.self.now _ c.from_residual.ensures.1 out

pub behind-requires : goal.behind-requires
behind-requires c = let form = c.args.form.now in small 3 (generator_fields form) (generator_made form) _ c.register.ensures (lit< tt)

pub returns-in_err-generator-clause-follows : goal.returns-in_err-generator-clause-follows
returns-in_err-generator-clause-follows c =
    let id = c.args.id in let m = c.args.member in let p = c.args.place in let form = c.args.form.now in
    let out = second_out act (ids_from id m p) (generator_from form) 3 refl _ (the-ids (goal.at.returns-in_err-generator-clause-follows c).In_ok-ids) _ (c.in_err-generator.ensures ∙ ap (behind 3) c.register.ensures) in
    out_of_range (register_generator id m p form) c.args.self.now _ c.from_residual-in_err-generator.ensures.1 out

pub returns : goal.returns
returns c =
    let id = c.args.id in let m = c.args.member in let p = c.args.place in let form = c.args.form.now in
    let is = both_read act (ids_from id m p) (generator_from form) 3 refl _ (the-ids (goal.at.returns c).In_ok-ids) _ (c.in_ok-generator.ensures ∙ ap (behind 3) c.register.ensures) in
    let f = carried_out (register_generator id m p form) c.args.self.now _ _ _ is c.enter_resource.ensures in
    record { follows = f.0; law = f.1 }
