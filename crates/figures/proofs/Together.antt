-- The rows of all members together.
use Rattle.std.proofs.Common.{◌≡◌, ℕ, ◌*◌, ◌≤◌, List, [], ◌∷◌, map, length, Some, sum_by, sum, refl, ap, ◌∙◌, arith}
use mathlib.Core.List.{map-map}
use Rattle.std.specs.List.{AllByRecursion}
use Rattle.std.proofs.lemmas.Nat.{mul-le}
use Rattle.std.proofs.lemmas.List.Sums.{sum-map}
use Rattle.std.proofs.ByRecursion.{sum_by_le}
use Rattle.hours.specs.Days.{record_at}
use Rattle.hours.specs.Energy.{demand_at, deviation_at}
use Rattle.hours.proofs.Sizes.{demand-size, deviation-size}
use Rattle.hours.proofs.Sums.{add-size}
use Rattle.sharing.specs.declared.rows.MemberRow.{MemberRow}
use Rattle.figures.specs.declared.standing.Resource.{Resource}
use Rattle.figures.specs.Figures.{resource_demand, resource_deviation, member_row}
use Rattle.figures.specs.Owners.{Owners, RowsOfAll, member_rows}
use Rattle.figures.specs.Standing.{counts, of_member}
use Rattle.figures.proofs.Adding.{quantities, length_kept}
use Rattle.figures.proofs.Exchange.{exchange}

demand_of : (r : Resource) → resource_demand r ≤ 2400000
demand_of r = add-size (demand_at r.hours.slots) 100000 (λ i. demand-size (record_at r.hours.slots i)) 24

deviation_of : (r : Resource) → resource_deviation r ≤ 4800000
deviation_of r = add-size (deviation_at r.hours.slots) 200000 (λ i. deviation-size (record_at r.hours.slots i)) 24

each : {X : Type 0} (P : X → Type 0) → ((x : X) → P x) → (xs : List X) → AllByRecursion P xs
each P h [] = tt
each P h (x ∷ xs) = (h x, each P h xs)

all-size : (f : Resource → ℕ) (n : ℕ) → ((r : Resource) → f r ≤ n) → (rs : List Resource) → length rs ≤ 32 → sum_by f rs ≤ 32 * n
all-size f n small rs few =
    let k = sum_by_le f n rs (each (λ r. f r ≤ n) small rs) in
    let m = mul-le (length rs) n 32 n few (omega arith) in
    omega arith

-- what a member's resources come to
pub demand_within : (rs : List Resource) → length rs ≤ 32 → (id : ℕ) → sum_by resource_demand (of_member id rs) ≤ 76800000
demand_within rs few id = all-size resource_demand 2400000 demand_of (of_member id rs) (omega (arith, length_kept (counts (Some id)) rs))

pub deviation_within : (rs : List Resource) → length rs ≤ 32 → (id : ℕ) → sum_by resource_deviation (of_member id rs) ≤ 153600000
deviation_within rs few id = all-size resource_deviation 4800000 deviation_of (of_member id rs) (omega (arith, length_kept (counts (Some id)) rs))

-- a column of the rows that is what each member's resources come to
column : (f : Resource → ℕ) (g : MemberRow → ℕ) (rs : List Resource) → ((id : ℕ) → g (member_row rs id) ≡ sum_by f (of_member id rs))
    → (ids : List ℕ) → Owners ids rs → sum (map g (member_rows rs ids)) ≡ sum_by f rs
column f g rs is ids owners =
    ap sum (map-map g (member_row rs) ids)
    ∙ sum-map (λ id. g (member_row rs id)) ids
    ∙ (λ i. sum_by (λ id. is id i) ids)
    ∙ exchange quantities f ids rs owners

pub rows_of_all : (rs : List Resource) → length rs ≤ 32 → RowsOfAll rs
rows_of_all rs few = record {
  demand = column resource_demand (λ r. r.demand) rs (λ _. refl);
  deviation = column resource_deviation (λ r. r.deviation) rs (λ _. refl);
  demand_within = omega (arith, all-size resource_demand 2400000 demand_of rs few);
  deviation_within = all-size resource_deviation 4800000 deviation_of rs few;
}
