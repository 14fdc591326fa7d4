-- What the records of a resource and of a member come to: cents of energy and uplift, kWh of demand and deviation.
--
--   resource_energy   the energy lines of a resource at the prices of its place
--   resource_uplift   the uplift of a generator at the prices of its place; a load has none
--   resource_demand   what its hour records add to demand; resource_deviation to deviation
--   total_by          a sum of amounts over a list; the sum of quantities is sum_by
--   member_energy     the same over the resources of a member; member_uplift, member_demand, member_deviation
--   member_row        what a sharing rule is told of a member
use Rattle.std.specs.Prelude.{ℕ, List, ℤ, pos, ◌+ℤ◌, fold, sum_by, Option}
use Rattle.hours.specs.declared.records.HourRecord.{HourRecord}
use Rattle.hours.specs.declared.records.Price.{Price}
use Rattle.hours.specs.Energy.{energy, demand, deviation}
use Rattle.sharing.specs.declared.rows.MemberRow.{MemberRow}
use Rattle.tariff.specs.Costs.{uplift}
use Rattle.figures.specs.declared.standing.Place.{Place}
use Rattle.figures.specs.declared.standing.Resource.{Resource}
use Rattle.figures.specs.declared.standing.Unit.{Unit}
use Rattle.figures.specs.declared.standing.Unit.TheVariants.{Generator, Load}
use Rattle.figures.specs.Prices.{prices_at}
use Rattle.figures.specs.Standing.{of_member}

abbrev pub resource_energy : List Place → Resource → ℤ
resource_energy places r = energy r.hours.slots (prices_at places r.place)

abbrev pub unit_uplift : Unit → List (Option HourRecord) → List (Option Price) → ℕ
unit_uplift (Generator g) slots prices = uplift g slots prices
unit_uplift Load slots prices = 0

abbrev pub resource_uplift : List Place → Resource → ℕ
resource_uplift places r = unit_uplift r.unit r.hours.slots (prices_at places r.place)

abbrev pub resource_demand : Resource → ℕ
resource_demand r = demand r.hours.slots

abbrev pub resource_deviation : Resource → ℕ
resource_deviation r = deviation r.hours.slots

abbrev pub total_by : {X : Type 0} → (X → ℤ) → List X → ℤ
total_by f xs = fold (λ a x. a +ℤ f x) (pos 0) xs

abbrev pub member_energy : List Place → List Resource → ℕ → ℤ
member_energy places rs id = total_by (resource_energy places) (of_member id rs)

abbrev pub member_uplift : List Place → List Resource → ℕ → ℕ
member_uplift places rs id = sum_by (resource_uplift places) (of_member id rs)

abbrev pub member_demand : List Resource → ℕ → ℕ
member_demand rs id = sum_by resource_demand (of_member id rs)

abbrev pub member_deviation : List Resource → ℕ → ℕ
member_deviation rs id = sum_by resource_deviation (of_member id rs)

abbrev pub member_row : List Resource → ℕ → MemberRow
member_row rs id = record { id = id; demand = member_demand rs id; deviation = member_deviation rs id }
