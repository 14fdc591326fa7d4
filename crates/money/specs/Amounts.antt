-- Signed amounts.
--
--   or_zero   the amount, or nothing where it is below zero
use Rattle.std.specs.Prelude.{ℕ, ℤ, pos, negsuc}

abbrev pub or_zero : ℤ → ℕ
or_zero (pos n) = n
or_zero (negsuc n) = 0
