-- Worked cases, shown of the definitions.
--
--   flags_at           the day whose flagged hours are these
--   from_to            a period from its first to its last hour
--   IfMade             what holds of a value that is made of numbers in range
--   worked_generator   minimum load 10,000 kWh for 40,000 cents, start-up 50,000 cents, all energy bid at 5,000 cents per MWh
--   worked_hour        committed, schedule 20,000 and meter 19,000 kWh, with a self-schedule
--   worked_price       4,000 cents per MWh day-ahead, 4,500 in real time
use Rattle.std.specs.Prelude.{◌≡◌, ℕ, Bool, true, false, ◌||◌, List, [], ◌∷◌, map, replicate, ℤ, pos, neg_ℤ, Some, None, Ok, Err, Option, Result, ◌==◌}
use Rattle.std.specs.List.{range_with_len}
use Rattle.money.specs.Rounding.{rounded}
use Rattle.tariff.specs.declared.generator.Generator.{Generator}
use Rattle.hours.specs.declared.range.OutOfRange.{OutOfRange}
use Rattle.hours.specs.declared.records.HourRecord.{HourRecord}
use Rattle.hours.specs.declared.records.Price.{Price}
use Rattle.commitment.specs.declared.stretch.Stretch.{Stretch}
use Rattle.commitment.specs.Commitment.{periods}
use Rattle.tariff.specs.Costs.{uplift}
use Rattle.hours.specs.Days.{placed}
use Rattle.tariff.specs.Generators.{generator_of}
use Rattle.hours.specs.Records.{generator_hour, price_of}

abbrev pub has : List ℕ → ℕ → Bool
has [] h = false
has (x ∷ xs) h = x == h || has xs h

abbrev pub flags_at : List ℕ → List Bool
flags_at hs = map (has hs) (range_with_len 1 24)

abbrev pub from_to : ℕ → ℕ → Stretch
from_to p q = record { first = p; last = q }

abbrev pub IfMade : {X : Type 0} → Result X OutOfRange → (X → Type 0) → Type 0
IfMade (Ok x) P = P x
IfMade (Err e) P = ⊥

abbrev pub slot : {X : Type 0} → Result X OutOfRange → Option X
slot (Ok x) = Some x
slot (Err e) = None

abbrev pub worked_generator : Result Generator OutOfRange
worked_generator = generator_of (record {
  min_load = pos 10000;
  load_cost = pos 40000;
  start_up = pos 50000;
  mrt = pos 1;
  mdt = pos 1;
  mds = pos 1;
  carried = pos 0;
  b1 = pos 5000;
  u1 = pos 30000;
  b2 = pos 5000;
  u2 = pos 30000;
  b3 = pos 5000;
})

abbrev pub worked_hour : ℤ → Result HourRecord OutOfRange
worked_hour own = generator_hour (pos 20000) (pos 19000) own (pos 1)

abbrev pub worked_price : Result Price OutOfRange
worked_price = price_of (pos 4000) (pos 4500)

-- the same in hours 2 and 3
abbrev pub in_two_hours : {X : Type 0} → Option X → Option X → List (Option X)
in_two_hours second third = placed (placed (replicate 24 None) 2 second) 3 third

abbrev pub UpliftIs : List (Option HourRecord) → ℕ → Type 0
UpliftIs slots cents = IfMade worked_generator (λ g. uplift g slots (in_two_hours (slot worked_price) (slot worked_price)) ≡ cents)

pub record Worked : Type 0 where
  pub less_than_half_a_cent : rounded (pos 499) ≡ pos 0
  pub half_a_cent : rounded (pos 500) ≡ pos 1
  pub half_a_cent_owed : rounded (neg_ℤ (pos 500)) ≡ neg_ℤ (pos 1)
  pub held_by_run_time : periods 3 1 24 false (flags_at (3 ∷ 5 ∷ [])) ≡ from_to 3 5 ∷ []
  pub gap_of_down_time_kept : periods 1 3 24 false (flags_at (2 ∷ 6 ∷ [])) ≡ from_to 2 2 ∷ from_to 6 6 ∷ []
  pub gap_below_down_time_filled : periods 1 4 24 false (flags_at (2 ∷ 6 ∷ [])) ≡ from_to 2 6 ∷ []
  pub earliest_gap_joined : periods 1 1 2 false (flags_at (1 ∷ 5 ∷ 9 ∷ [])) ≡ from_to 1 5 ∷ from_to 9 9 ∷ []
  pub carried_in_period_not_counted : periods 1 1 2 true (flags_at (1 ∷ 5 ∷ 9 ∷ [])) ≡ from_to 1 1 ∷ from_to 5 5 ∷ from_to 9 9 ∷ []
  pub committed_for_two_hours : UpliftIs (in_two_hours (slot (worked_hour (pos 0))) (slot (worked_hour (pos 0)))) 70000
  pub self_scheduled_in_the_first : UpliftIs (in_two_hours (slot (worked_hour (pos 10000))) (slot (worked_hour (pos 0)))) 20000
