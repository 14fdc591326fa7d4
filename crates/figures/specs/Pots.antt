-- What is to be shared among the members of a pool, in cents.
--
--   neutrality_pot   the energy of all resources
--   uplift_pot       the uplift of all resources
--   pots             both, or the refusal that tells the first missing price
use Rattle.std.specs.Prelude.{ℕ, List, ℤ, Some, None, Ok, Err, sum_by, Option, Result}
use Rattle.refusal.specs.declared.cause.Refusal.{Refusal}
use Rattle.refusal.specs.declared.cause.Refusal.TheVariants.{PriceMissing}
use Rattle.figures.specs.declared.standing.MissingPrice.{MissingPrice}
use Rattle.figures.specs.declared.standing.Place.{Place}
use Rattle.figures.specs.declared.standing.Resource.{Resource}
use Rattle.figures.specs.Figures.{resource_energy, resource_uplift, total_by}
use Rattle.figures.specs.Prices.{missing}

abbrev pub neutrality_pot : List Place → List Resource → ℤ
neutrality_pot places rs = total_by (resource_energy places) rs

abbrev pub uplift_pot : List Place → List Resource → ℕ
uplift_pot places rs = sum_by (resource_uplift places) rs

abbrev pub unless_missing : {X : Type 0} → Option MissingPrice → X → Result X Refusal
unless_missing None x = Ok x
unless_missing (Some m) x = Err (PriceMissing m.resource m.hour)

abbrev pub pots : List Place → List Resource → Result (ℤ × ℕ) Refusal
pots places rs = unless_missing (missing places rs) (neutrality_pot places rs, uplift_pot places rs)
