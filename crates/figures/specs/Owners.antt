-- What the members of a pool come to together.
--
--   among         an id is one of these
--   apart         no id is there twice
--   all_owned     the member of every resource is one of these
--   Owners        ids of which both hold, as those of a pool's members do
--   member_rows   the row of each member
--   ByMembers     the members' energies and uplifts add up to the two pots
--   RowsOfAll     the members' rows add up to what all resources come to, within what a sharing rule takes
use Rattle.std.specs.Prelude.{◌≡◌, ℕ, ◌≤◌, Bool, true, false, not, ◌&&◌, ◌||◌, List, [], ◌∷◌, map, ℤ, sum_by, sum, ◌==◌}
use Rattle.sharing.specs.declared.rows.MemberRow.{MemberRow}
use Rattle.sharing.specs.Admission.{most_energy}
use Rattle.sharing.specs.Rows.{demands, deviations}
use Rattle.figures.specs.declared.standing.Place.{Place}
use Rattle.figures.specs.declared.standing.Resource.{Resource}
use Rattle.figures.specs.Figures.{resource_demand, resource_deviation, total_by, member_energy, member_uplift, member_row}

abbrev pub among : List ℕ → ℕ → Bool
among [] k = false
among (id ∷ ids) k = k == id || among ids k

abbrev pub apart : List ℕ → Bool
apart [] = true
apart (id ∷ ids) = not (among ids id) && apart ids

abbrev pub all_owned : List ℕ → List Resource → Bool
all_owned ids [] = true
all_owned ids (r ∷ rs) = among ids r.member && all_owned ids rs

pub record Owners (ids : List ℕ) (rs : List Resource) : Type 0 where
  pub nobody_twice : apart ids ≡ true
  pub nobody_left_out : all_owned ids rs ≡ true

pub record ByMembers (places : List Place) (rs : List Resource) (pots : ℤ × ℕ) : Type 0 where
  pub energies : (ids : List ℕ) → Owners ids rs → total_by (member_energy places rs) ids ≡ pots.0
  pub uplifts : (ids : List ℕ) → Owners ids rs → sum_by (member_uplift places rs) ids ≡ pots.1

abbrev pub member_rows : List Resource → List ℕ → List MemberRow
member_rows rs ids = map (member_row rs) ids

pub record RowsOfAll (rs : List Resource) : Type 0 where
  pub demand : (ids : List ℕ) → Owners ids rs → sum (demands (member_rows rs ids)) ≡ sum_by resource_demand rs
  pub deviation : (ids : List ℕ) → Owners ids rs → sum (deviations (member_rows rs ids)) ≡ sum_by resource_deviation rs
  pub demand_within : sum_by resource_demand rs ≤ most_energy
  pub deviation_within : sum_by resource_deviation rs ≤ most_energy
