-- The ranges that stored numbers keep, for the ghost fields of their structs.
--
--   HourBounds    an hour record: energy of at most 100,000 kWh in size
--   PriceBounds   a price: at most 200,000 cents per MWh in size
--   LimitBounds   an hour of the day, and a limit in hours: 1 to 24
use Rattle.std.specs.Prelude.{ℕ, ◌≤◌, ℤ, unsigned_abs}

abbrev pub HourBounds : ℤ → ℤ → ℕ → Type 0
HourBounds da meter own = (unsigned_abs da ≤ 100000) × (unsigned_abs meter ≤ 100000) × (own ≤ 100000)

abbrev pub PriceBounds : ℤ → ℤ → Type 0
PriceBounds da rt = (unsigned_abs da ≤ 200000) × (unsigned_abs rt ≤ 200000)

abbrev pub LimitBounds : ℕ → Type 0
LimitBounds n = (1 ≤ n) × (n ≤ 24)
