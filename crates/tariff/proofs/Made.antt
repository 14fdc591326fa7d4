-- Two generators that differ only in the proofs of their bounds are one.
use Rattle.std.proofs.Common.{◌≡◌, ℕ, Bool, ℤ}
use mathlib.Core.Bool.{Bool-set}
use Rattle.hours.proofs.Made.{le_once, limit_once, same_made}
use Rattle.tariff.specs.declared.generator.Generator.{Generator}
use Rattle.tariff.specs.Bounds.{BidBounds, GeneratorBounds}

-- the numbers of a generator: minimum load, its cost, start-up; MRT, MDT, MDS; carried in; the bid
abbrev pub Numbers : Type 0
Numbers = (ℕ × ℕ × ℕ) × (ℕ × ℕ × ℕ) × Bool × (ℤ × ℕ × ℤ × ℕ × ℤ)

pub record NumbersBounds (n : Numbers) : Type 0 where
  pub bid : BidBounds n.3.0 n.3.1 n.3.2 n.3.3 n.3.4
  pub own : GeneratorBounds n.0.0 n.0.1 n.0.2 n.1.0 n.1.1 n.1.2 n.3.1

abbrev pub generator : (n : Numbers) → NumbersBounds n → Generator
generator n p = record {
  min_load = n.0.0;
  load_cost = n.0.1;
  start_up = n.0.2;
  mrt = n.1.0;
  mdt = n.1.1;
  mds = n.1.2;
  carried_in = n.2;
  bid = record { b1 = n.3.0; u1 = n.3.1; b2 = n.3.2; u2 = n.3.3; b3 = n.3.4; bounds = p.bid };
  bounds = p.own;
}

bounds_once : (n : Numbers) (p q : NumbersBounds n) → p ≡ q
bounds_once n p q i = record {
  bid = record {
    prices = (le_once p.bid.prices.0 q.bid.prices.0 i, le_once p.bid.prices.1 q.bid.prices.1 i, le_once p.bid.prices.2 q.bid.prices.2 i);
    rises = (Bool-set _ _ p.bid.rises.0 q.bid.rises.0 i, Bool-set _ _ p.bid.rises.1 q.bid.rises.1 i);
    steps = (le_once p.bid.steps.0 q.bid.steps.0 i, le_once p.bid.steps.1 q.bid.steps.1 i);
  };
  own = record {
    costs = (le_once p.own.costs.0 q.own.costs.0 i, le_once p.own.costs.1 q.own.costs.1 i, le_once p.own.costs.2 q.own.costs.2 i);
    run = limit_once _ p.own.run q.own.run i;
    down = limit_once _ p.own.down q.own.down i;
    starts = limit_once _ p.own.starts q.own.starts i;
    above = le_once p.own.above q.own.above i;
  };
}

pub same_generator : (n m : Numbers) (p : NumbersBounds n) (q : NumbersBounds m) → n ≡ m → generator n p ≡ generator m q
same_generator = same_made bounds_once generator
