-- What a day book answers. Nothing is changed by it, and a draft that is out has no part in it.
--
--   given             an answer that needs another one; its refusal is handed on
--   member_asked      the member of an id, as it is handed in
--   generator_asked   the generator of an id, with its entry; a load is none
--   row_asked         a member's row
--   energy_asked      a member's energy, unless a price is missing
--   periods_asked     a generator's self-commitment periods
--   bid_cost_asked    its bid cost for the day; revenue_asked its revenue, uplift_asked its uplift, unless a price is missing
--   rows_of           the rows of all members, by rising id
--   pots_of           both pots, unless a price is missing
--   Pooled            what the two pots are, member by member, and that a sharing rule takes them
--   Shareable         what the rows of all members add up to, and that a sharing rule takes them
use Rattle.std.specs.Prelude.{◌≡◌, ℕ, ◌≤◌, List, length, ℤ, Ok, Err, sum_by, sum, Result, unsigned_abs}
use Rattle.std.specs.Option.{option_map, ok_or}
use Rattle.refusal.specs.declared.cause.Refusal.{Refusal}
use Rattle.refusal.specs.declared.cause.Refusal.TheVariants.{NotRegistered}
use Rattle.refusal.specs.declared.kinds.Kind.TheVariants.{Member, Resource}
use Rattle.commitment.specs.declared.stretch.Stretch.{Stretch}
use Rattle.tariff.specs.declared.generator.Generator.{Generator}
use Rattle.tariff.specs.Costs.{bid_cost, revenue, uplift}
use Rattle.tariff.specs.Schedules.{periods_of}
use Rattle.sharing.specs.declared.rows.MemberRow.{MemberRow}
use Rattle.sharing.specs.Admission.{most_total, most_rows, most_energy}
use Rattle.sharing.specs.Rows.{demands, deviations}
use Rattle.table.specs.Entries.{lookup}
use Rattle.figures.specs.declared.standing.Member.{Member as Party}
use Rattle.figures.specs.declared.standing.Resource.{Resource as Entry}
use Rattle.figures.specs.Entries.{member_key, resource_key, ids_of_members, generator_in}
use Rattle.figures.specs.Figures.{resource_demand, resource_deviation, total_by, member_energy, member_uplift, member_row}
use Rattle.figures.specs.Owners.{member_rows}
use Rattle.figures.specs.Pots.{pots, unless_missing}
use Rattle.figures.specs.Prices.{prices_at, resource_missing, missing}
use Rattle.figures.specs.Standing.{of_member}
use Rattle.daybook.specs.declared.id.Id.{Id}
use Rattle.daybook.specs.Held.{Held}
use Rattle.daybook.specs.Readings.{id_from, read}

abbrev pub given : {A B : Type 0} → Result A Refusal → (A → Result B Refusal) → Result B Refusal
given (Ok a) f = f a
given (Err e) f = Err e

abbrev pub member_of : Held → Id → Result Party Refusal
member_of v id = ok_or (lookup member_key id.number v.members) (NotRegistered id.number Member)

abbrev pub member_asked : Held → ℤ → Result Party Refusal
member_asked v id = given (read (id_from id)) (member_of v)

abbrev pub resource_of : Held → Id → Result Entry Refusal
resource_of v id = ok_or (lookup resource_key id.number v.resources) (NotRegistered id.number Resource)

abbrev pub as_generator : ℕ → Entry → Result (Generator × Entry) Refusal
as_generator id r = ok_or (option_map (λ g. (g, r)) (generator_in r.unit)) (NotRegistered id Resource)

abbrev pub generator_of : Held → Id → Result (Generator × Entry) Refusal
generator_of v id = given (resource_of v id) (as_generator id.number)

abbrev pub generator_asked : Held → ℤ → Result (Generator × Entry) Refusal
generator_asked v id = given (read (id_from id)) (generator_of v)

abbrev pub row_asked : Held → ℤ → Result MemberRow Refusal
row_asked v id = given (member_asked v id) (λ m. Ok (member_row v.resources m.id))

abbrev pub energy_asked : Held → ℤ → Result ℤ Refusal
energy_asked v id = given (member_asked v id) (λ m. unless_missing (missing v.places (of_member m.id v.resources)) (member_energy v.places v.resources m.id))

abbrev pub periods_asked : Held → ℤ → Result (List Stretch) Refusal
periods_asked v id = given (generator_asked v id) (λ x. Ok (periods_of x.0 x.1.hours.slots))

abbrev pub bid_cost_asked : Held → ℤ → Result ℤ Refusal
bid_cost_asked v id = given (generator_asked v id) (λ x. Ok (bid_cost x.0 x.1.hours.slots))

abbrev pub revenue_asked : Held → ℤ → Result ℤ Refusal
revenue_asked v id = given (generator_asked v id) (λ x. unless_missing (resource_missing v.places x.1) (revenue x.0 x.1.hours.slots (prices_at v.places x.1.place)))

abbrev pub uplift_asked : Held → ℤ → Result ℕ Refusal
uplift_asked v id = given (generator_asked v id) (λ x. unless_missing (resource_missing v.places x.1) (uplift x.0 x.1.hours.slots (prices_at v.places x.1.place)))

abbrev pub rows_of : Held → List MemberRow
rows_of v = member_rows v.resources (ids_of_members v.members)

abbrev pub pots_of : Held → Result (ℤ × ℕ) Refusal
pots_of v = pots v.places v.resources

pub record Pooled (v : Held) (p : ℤ × ℕ) : Type 0 where
  pub energies_add_up : total_by (member_energy v.places v.resources) (ids_of_members v.members) ≡ p.0
  pub uplifts_add_up : sum_by (member_uplift v.places v.resources) (ids_of_members v.members) ≡ p.1
  pub neutrality_in_range : unsigned_abs p.0 ≤ most_total
  pub uplift_in_range : p.1 ≤ most_total

pub record Shareable (v : Held) (rows : List MemberRow) : Type 0 where
  pub few_rows : length rows ≤ most_rows
  pub demands_add_up : sum (demands rows) ≡ sum_by resource_demand v.resources
  pub deviations_add_up : sum (deviations rows) ≡ sum_by resource_deviation v.resources
  pub demand_in_range : sum (demands rows) ≤ most_energy
  pub deviation_in_range : sum (deviations rows) ≤ most_energy
