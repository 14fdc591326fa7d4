use Rattle.std.proofs.Common.{nat_abs, refl}
use Rattle.std.proofs.lemmas.Int.{to_z-of_z}
use Rattle.hours.proofs.Ranges.{fit_too, made-is}
use Rattle.daybook.specs.Readings.{id_fields, id_made, id_bounds}
use Rattle.daybook.proofs.Made.{same_id}
use Rattle.daybook.proofs.id.Id.new.Goals as goal

pub returns : goal.returns
returns c =
    let n = c.args.number in let f = c.ranges.number in
    let h = fit_too _ (id_fields n) (simp to_z-of_z) (id_made n) c.in_ok-check.ensures.cases in
    made-is _ (id_fields n) refl (id_made n) _ h (same_id _ (nat_abs n) _ (id_bounds n h) (simp to_z-of_z))
