-- How large a rounded amount can be.
use Rattle.std.proofs.Common.{ℕ, suc, ◌*◌, ◌≤◌, ℤ, pos, negsuc, nat_abs, arith}
use Rattle.money.specs.Amounts.{or_zero}
use Rattle.money.specs.Rounding.{nearest, rounded}
use Rattle.money.proofs.Products.{abs_neg}

pub rounded-size : (z : ℤ) (n : ℕ) → nat_abs z ≤ 1000 * n → nat_abs (rounded z) ≤ n
rounded-size (pos k) n h = omega arith
rounded-size (negsuc k) n h = omega (arith, abs_neg (nearest (suc k)))

pub or_zero-size : (z : ℤ) → or_zero z ≤ nat_abs z
or_zero-size (pos n) = omega arith
or_zero-size (negsuc n) = omega arith
