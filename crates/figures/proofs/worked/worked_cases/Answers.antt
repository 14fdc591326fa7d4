use Rattle.std.proofs.Common.{refl}
use Rattle.hours.specs.Days.{over_hours}
use Rattle.figures.proofs.worked.worked_cases.Goals as goal

pub returns : goal.returns
unfolding over_hours
returns c = record {
  rounding_periods_and_uplift = record {
    less_than_half_a_cent = refl;
    half_a_cent = refl;
    half_a_cent_owed = refl;
    held_by_run_time = refl;
    gap_of_down_time_kept = refl;
    gap_below_down_time_filled = refl;
    earliest_gap_joined = refl;
    carried_in_period_not_counted = refl;
    committed_for_two_hours = refl;
    self_scheduled_in_the_first = refl;
  };
  shares = record {
    ten_over_equal_demands = refl;
    zero_over_no_demand = refl;
    one_over_no_demand = refl;
    no_demand_is_14 = refl;
    a_tier_of_rate_20 = refl;
  };
}
