use Rattle.std.proofs.Common.{pos, ◌^◌, ◌*ℤ◌, arith, rules, w64, SFits}
use Rattle.std.specs.Int.Signed.{nat_abs-le}
use Rattle.std.proofs.lemmas.Int.{to_z-of_z, fits_signed_mul}
use Rattle.money.proofs.amount.cost.Goals as goal

pub returns : goal.returns
returns c =
    let f = c.ranges.kwh in
    let fits : SFits w64 (pos c.args.kwh *ℤ c.args.price) = fits_signed_mul w64 (pos c.args.kwh) c.args.price 4294967295 (2 ^ 31) (omega arith) (nat_abs-le c.args.price c.ranges.price.sfits) (omega arith) in
    search (rules, to_z-of_z)
