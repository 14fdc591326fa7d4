-- What a generator's day costs by its bid and earns day-ahead, in thousandths of a cent.
--
--   kinds          of every hour: self-committed, else committed, else off
--   taken          what a self-committed hour runs at without being asked: the larger of minimum load and self-schedule
--   hour_cost      what the hour's energy costs by the bid
--   hour_revenue   what it earns at the day-ahead price
--   runs           the longest stretches of hours that are on
--   paid_start     whether a run's start-up is paid: no hour of it is self-committed, and it was not carried in
--   start_ups      how many runs have theirs paid
--   bid_cost       the cost of all hours and of the paid start-ups
--   revenue        the revenue of all hours
--   uplift         what cost is above revenue, in cents, or nothing
--   Uplifted       what an uplift is, in the subject's words
use Rattle.std.specs.Prelude.{ℕ, ◌+◌, ◌-◌, ◌*◌, ◌<◌, max, Bool, true, false, cond, not, ◌&&◌, ◌||◌, List, [], ◌∷◌, map, ℤ, pos, ◌+ℤ◌, ◌-ℤ◌, ◌*ℤ◌, ◌≤ℤ◌, count_by, Option, ◌==◌, nat_le, slice_index_or}
use Rattle.money.specs.Amounts.{or_zero}
use Rattle.money.specs.Rounding.{rounded}
use Rattle.tariff.specs.declared.cost.HourKind.{HourKind}
use Rattle.tariff.specs.declared.cost.HourKind.TheVariants.{Off, Committed, SelfCommitted}
use Rattle.tariff.specs.declared.generator.Generator.{Generator}
use Rattle.hours.specs.declared.records.HourRecord.{HourRecord}
use Rattle.hours.specs.declared.records.Price.{Price}
use Rattle.commitment.specs.declared.stretch.Stretch.{Stretch}
use Rattle.tariff.specs.Bids.{area}
use Rattle.tariff.specs.Schedules.{periods_of}
use Rattle.hours.specs.Days.{counted, over_day, record_at, price_at}
use Rattle.commitment.specs.Stretches.{covers, stretches}

abbrev pub kind_of : Bool → Bool → HourKind
kind_of belongs committed = cond belongs SelfCommitted (cond committed Committed Off)

abbrev pub kinds_from : ℕ → List Stretch → List (Option HourRecord) → List HourKind
kinds_from h periods [] = []
kinds_from h periods (slot ∷ slots) = kind_of (covers periods h) (counted slot).committed ∷ kinds_from (h + 1) periods slots

abbrev pub kinds : Generator → List (Option HourRecord) → List HourKind
kinds g slots = kinds_from 1 (periods_of g slots) slots

abbrev pub taken : Generator → HourRecord → ℕ
taken g r = max g.min_load r.self_schedule

abbrev pub hour_cost : Generator → HourKind → HourRecord → ℤ
hour_cost g SelfCommitted r = area g.bid (taken g r) (or_zero r.day_ahead)
hour_cost g Committed r = pos (1000 * g.load_cost) +ℤ area g.bid g.min_load (or_zero r.day_ahead)
hour_cost g Off r = pos 0

abbrev pub hour_revenue : Generator → HourKind → HourRecord → Price → ℤ
hour_revenue g SelfCommitted r p = pos (or_zero r.day_ahead - taken g r) *ℤ p.day_ahead
hour_revenue g Committed r p = r.day_ahead *ℤ p.day_ahead
hour_revenue g Off r p = pos 0

abbrev pub is_on : HourKind → Bool
is_on SelfCommitted = true
is_on Committed = true
is_on Off = false

abbrev pub is_self_committed : HourKind → Bool
is_self_committed SelfCommitted = true
is_self_committed Committed = false
is_self_committed Off = false

abbrev pub runs : List HourKind → List Stretch
runs ks = stretches (map is_on ks)

-- some hour of the run is self-committed; the kinds are those from the hour h on
abbrev pub self_in : Stretch → ℕ → List HourKind → Bool
self_in run h [] = false
self_in run h (k ∷ ks) = ((nat_le run.first h && nat_le h run.last) && is_self_committed k) || self_in run (h + 1) ks

abbrev pub paid_start : Bool → List HourKind → Stretch → Bool
paid_start carried ks run = not (carried && run.first == 1) && not (self_in run 1 ks)

abbrev pub start_ups : Bool → List HourKind → ℕ
start_ups carried ks = count_by (paid_start carried ks) (runs ks)

abbrev pub cost_at : Generator → List HourKind → List (Option HourRecord) → ℕ → ℤ
cost_at g ks slots i = hour_cost g (slice_index_or ks i Off) (record_at slots i)

abbrev pub costs : Generator → List HourKind → List (Option HourRecord) → ℤ
costs g ks slots = over_day (cost_at g ks slots)

abbrev pub revenue_at : Generator → List HourKind → List (Option HourRecord) → List (Option Price) → ℕ → ℤ
revenue_at g ks slots prices i = hour_revenue g (slice_index_or ks i Off) (record_at slots i) (price_at prices i)

abbrev pub revenues : Generator → List HourKind → List (Option HourRecord) → List (Option Price) → ℤ
revenues g ks slots prices = over_day (revenue_at g ks slots prices)

abbrev pub cost_of : Generator → List HourKind → List (Option HourRecord) → ℤ
cost_of g ks slots = costs g ks slots +ℤ pos (start_ups g.carried_in ks * (1000 * g.start_up))

abbrev pub bid_cost : Generator → List (Option HourRecord) → ℤ
bid_cost g slots = cost_of g (kinds g slots) slots

abbrev pub revenue : Generator → List (Option HourRecord) → List (Option Price) → ℤ
revenue g slots prices = revenues g (kinds g slots) slots prices

abbrev pub uplift : Generator → List (Option HourRecord) → List (Option Price) → ℕ
uplift g slots prices = or_zero (rounded (bid_cost g slots -ℤ revenue g slots prices))

-- half a cent is 500 thousandths; that it is not below zero, its type says
pub record Uplifted (cost earned : ℤ) (paid : ℕ) : Type 0 where
  pub paid_only_if_cost_passes : 0 < paid → (earned +ℤ pos 500) ≤ℤ cost
  pub paid_whenever_cost_passes : (earned +ℤ pos 500) ≤ℤ cost → 0 < paid
