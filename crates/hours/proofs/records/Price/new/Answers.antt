use Rattle.std.proofs.Common.{refl, arith, w32, SFits}
use Rattle.std.proofs.lemmas.Int.{to_z-of_z, fits_signed_from_abs}
use Rattle.hours.specs.Records.{price_fields, price_made, price_bounds}
use Rattle.hours.proofs.Ranges.{fit_too, made-is}
use Rattle.hours.proofs.Made.{same_price}
use Rattle.hours.proofs.records.Price.new.Goals as goal

pub returns : goal.returns
returns c =
    let da = c.args.day_ahead in let rt = c.args.real_time in
    let f₁ = c.ranges.day_ahead in let f₂ = c.ranges.real_time in
    let h = fit_too _ (price_fields da rt) (simp to_z-of_z) (price_made da rt) c.in_ok-check.ensures.cases in
    let b = price_bounds da rt h in
    let s₁ : SFits w32 da = fits_signed_from_abs w32 da (omega arith) in
    let s₂ : SFits w32 rt = fits_signed_from_abs w32 rt (omega arith) in
    made-is _ (price_fields da rt) refl (price_made da rt) _ h (same_price (_, _) (da, rt) _ b (simp to_z-of_z))
