use Rattle.std.proofs.Common.{nat_abs, refl}
use Rattle.std.proofs.lemmas.Int.{to_z-of_z}
use Rattle.hours.specs.Days.{hour_fields, hour_made, hour_bounds}
use Rattle.hours.proofs.Ranges.{fit_too, made-is}
use Rattle.hours.proofs.Made.{same_number}
use Rattle.hours.proofs.day.Hour.new.Goals as goal

pub returns : goal.returns
returns c =
    let hour = c.args.hour in let f = c.ranges.hour in
    let h = fit_too _ (hour_fields hour) (simp to_z-of_z) (hour_made hour) c.in_ok-check.ensures.cases in
    made-is _ (hour_fields hour) refl (hour_made hour) _ h (same_number _ (nat_abs hour) _ (hour_bounds hour h) (simp to_z-of_z))
