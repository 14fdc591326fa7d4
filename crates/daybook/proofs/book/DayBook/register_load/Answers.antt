use Rattle.std.proofs.Common.{◌∙◌}
use Rattle.figures.specs.declared.standing.Unit.TheVariants.{Load}
use Rattle.daybook.specs.Calls.{register_load, ids_from, brings_resource}
use Rattle.daybook.specs.Readings.{read}
use Rattle.daybook.proofs.Followed.{out_of_range, carried_out}
use Rattle.daybook.proofs.Taking.{into-out, read-into, handed_three}
use Rattle.daybook.proofs.book.DayBook.register_load.Goals as goal

pub returns-in_err-ids-clause-follows : goal.returns-in_err-ids-clause-follows
returns-in_err-ids-clause-follows c =
    let id = c.args.id in let m = c.args.member in let p = c.args.place in
    let out = into-out (λ x. brings_resource x Load) (ids_from id m p) _ (c.in_err-ids.ensures ∙ handed_three (λ i j k. read (ids_from i j k)) id m p c.ranges.id c.ranges.member c.ranges.place) in
    out_of_range (register_load id m p) c.args.self.now _ c.from_residual.ensures.1 out

pub returns : goal.returns
returns c =
    let id = c.args.id in let m = c.args.member in let p = c.args.place in
    let is = read-into (λ x. brings_resource x Load) (ids_from id m p) _ (c.in_ok-ids.ensures ∙ handed_three (λ i j k. read (ids_from i j k)) id m p c.ranges.id c.ranges.member c.ranges.place) in
    let f = carried_out (register_load id m p) c.args.self.now _ _ _ is c.enter_resource.ensures in
    record { follows = f.0; law = f.1 }
