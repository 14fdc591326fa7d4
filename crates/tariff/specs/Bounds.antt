-- The ranges that stored numbers keep, for the ghost fields of their structs.
--
--   BidPrices         the prices of a bid
--   BidRises          none of them below the one before
--   BidSteps          the steps of a bid: none below the one before
--   BidBounds         all that a bid keeps
--   CostBounds        a generator's minimum load, its cost, and the cost of a start-up
--   GeneratorBounds   all that a generator keeps: these, its limits, and a bid that begins with the minimum load
use Rattle.std.specs.Prelude.{◌≡◌, ℕ, ◌≤◌, true, ℤ, int_le, unsigned_abs}
use Rattle.hours.specs.Bounds.{LimitBounds}

abbrev pub BidPrices : ℤ → ℤ → ℤ → Type 0
BidPrices b1 b2 b3 = (unsigned_abs b1 ≤ 200000) × (unsigned_abs b2 ≤ 200000) × (unsigned_abs b3 ≤ 200000)

abbrev pub BidRises : ℤ → ℤ → ℤ → Type 0
BidRises b1 b2 b3 = (int_le b1 b2 ≡ true) × (int_le b2 b3 ≡ true)

abbrev pub BidSteps : ℕ → ℕ → Type 0
BidSteps u1 u2 = (u1 ≤ u2) × (u2 ≤ 100000)

abbrev pub CostBounds : ℕ → ℕ → ℕ → Type 0
CostBounds load cost start = (load ≤ 100000) × (cost ≤ 1000000) × (start ≤ 10000000)

pub record BidBounds (b1 : ℤ) (u1 : ℕ) (b2 : ℤ) (u2 : ℕ) (b3 : ℤ) : Type 0 where
  pub prices : BidPrices b1 b2 b3
  pub rises : BidRises b1 b2 b3
  pub steps : BidSteps u1 u2

pub record GeneratorBounds (min_load load_cost start_up mrt mdt mds u1 : ℕ) : Type 0 where
  pub costs : CostBounds min_load load_cost start_up
  pub run : LimitBounds mrt
  pub down : LimitBounds mdt
  pub starts : LimitBounds mds
  pub above : min_load ≤ u1
