use Rattle.std.proofs.Common.{pos, nat_abs, refl, arith, w32, SFits}
use lib.Signed.{lt_z}
use Rattle.std.proofs.lemmas.Int.{to_z-of_z, fits_signed_from_abs}
use Rattle.hours.specs.Records.{generator_hour_fields, generator_hour_of, generator_hour_bounds}
use Rattle.hours.proofs.Ranges.{fit_too, made-is}
use Rattle.hours.proofs.Made.{same_hour}
use Rattle.hours.proofs.records.HourRecord.of_generator.Goals as goal

pub returns : goal.returns
returns c =
    let da = c.args.day_ahead in let meter = c.args.meter in let own = c.args.self_schedule in let commit = c.args.commit in
    let f₁ = c.ranges.day_ahead in let f₂ = c.ranges.meter in let f₃ = c.ranges.self_schedule in let f₄ = c.ranges.commit in
    let h = fit_too _ (generator_hour_fields da meter own commit) (simp to_z-of_z) (generator_hour_of da meter own commit) c.in_ok-check.ensures.cases in
    let b = generator_hour_bounds da meter own commit h in
    let s₁ : SFits w32 da = fits_signed_from_abs w32 da (omega arith) in
    let s₂ : SFits w32 meter = fits_signed_from_abs w32 meter (omega arith) in
    made-is _ (generator_hour_fields da meter own commit) refl (generator_hour_of da meter own commit) _ h
    (same_hour (_, _, _, _) (da, meter, nat_abs own, lt_z (pos 0) commit) _ b (simp to_z-of_z))
