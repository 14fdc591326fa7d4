-- The area under an energy bid: what the bid asks for the energy between two quantities.
--
--   between      how much of the energy from v to d lies between a and b
--   area         each step's part of the energy from v to d, at its price
--   price_at     the price of the kWh that follows the first k
--   one_by_one   the prices of n kWh from v on, added up
--   Priced       what an area is, in the subject's words
use Rattle.std.specs.Prelude.{◌≡◌, ℕ, zero, suc, ◌+◌, ◌-◌, ◌≤◌, min, max, cond, ℤ, pos, ◌+ℤ◌, ◌*ℤ◌, nat_lt}
use Rattle.tariff.specs.declared.generator.EnergyBid.{EnergyBid}

abbrev pub between : ℕ → ℕ → ℕ → ℕ → ℕ
between a b v d = min b d - max a v

abbrev pub area : EnergyBid → ℕ → ℕ → ℤ
area b v d =
    pos (between 0 b.u1 v d) *ℤ b.b1
    +ℤ pos (between b.u1 b.u2 v d) *ℤ b.b2
    +ℤ pos (d - max b.u2 v) *ℤ b.b3

abbrev pub price_at : EnergyBid → ℕ → ℤ
price_at b k = cond (nat_lt k b.u1) b.b1 (cond (nat_lt k b.u2) b.b2 b.b3)

abbrev pub one_by_one : EnergyBid → ℕ → ℕ → ℤ
one_by_one b v zero = pos 0
one_by_one b v (suc n) = one_by_one b v n +ℤ price_at b (v + n)

pub record Priced (b : EnergyBid) (v d : ℕ) (cost : ℤ) : Type 0 where
  pub sum_of_step_prices : v ≤ d → cost ≡ one_by_one b v (d - v)
  pub nothing_if_not_above : d ≤ v → cost ≡ pos 0
