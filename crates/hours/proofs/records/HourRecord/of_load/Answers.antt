use Rattle.std.proofs.Common.{false, refl, arith, w32, SFits}
use Rattle.std.proofs.lemmas.Int.{to_z-of_z, fits_signed_from_abs}
use Rattle.hours.specs.Records.{load_hour_fields, load_hour_of, load_hour_bounds}
use Rattle.hours.proofs.Ranges.{fit_too, made-is}
use Rattle.hours.proofs.Made.{same_hour}
use Rattle.hours.proofs.records.HourRecord.of_load.Goals as goal

pub returns : goal.returns
returns c =
    let da = c.args.day_ahead in let meter = c.args.meter in
    let f₁ = c.ranges.day_ahead in let f₂ = c.ranges.meter in
    let h = fit_too _ (load_hour_fields da meter) (simp to_z-of_z) (load_hour_of da meter) c.in_ok-check.ensures.cases in
    let b = load_hour_bounds da meter h in
    let s₁ : SFits w32 da = fits_signed_from_abs w32 da (omega arith) in
    let s₂ : SFits w32 meter = fits_signed_from_abs w32 meter (omega arith) in
    made-is _ (load_hour_fields da meter) refl (load_hour_of da meter) _ h (same_hour (_, _, _, _) (da, meter, 0, false) _ b (simp to_z-of_z))
