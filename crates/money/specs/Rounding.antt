-- Thousandths of a cent to whole cents.
--
--   nearest   a size in thousandths, in cents: the nearest, a half going up
--   rounded   the same of a signed amount: by size, the sign kept, so that a half goes away from zero
--   Nearest   what a rounded amount is, in the subject's words
use Rattle.std.specs.Prelude.{◌≡◌, ℕ, suc, ◌+◌, ◌*◌, ◌/◌, ◌<◌, ◌≤◌, ℤ, pos, negsuc, ◌-ℤ◌, ◌*ℤ◌, neg_ℤ, unsigned_abs}

abbrev pub nearest : ℕ → ℕ
nearest n = (n + 500) / 1000

abbrev pub rounded : ℤ → ℤ
rounded (pos n) = pos (nearest n)
rounded (negsuc n) = neg_ℤ (pos (nearest (suc n)))

pub record Nearest (thousandths cents : ℤ) : Type 0 where
  -- no other whole number of cents is nearer
  pub within_half_a_cent : unsigned_abs (thousandths -ℤ cents *ℤ pos 1000) ≤ 500
  -- at a half the greater size is taken
  pub half_goes_away : unsigned_abs thousandths < unsigned_abs cents * 1000 + 500
  -- what is charged is rounded as what is paid
  pub odd : rounded (neg_ℤ thousandths) ≡ neg_ℤ cents
