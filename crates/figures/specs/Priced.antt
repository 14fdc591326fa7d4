-- A price that is missing, as a refusal.
--
--   refusal_of   the refusal that tells it
--   priced_day   the prices of a resource's place, unless one is missing
use Rattle.std.specs.Prelude.{List, Result}
use Rattle.hours.specs.declared.day.Day.{Day}
use Rattle.hours.specs.declared.records.Price.{Price}
use Rattle.refusal.specs.declared.cause.Refusal.{Refusal}
use Rattle.refusal.specs.declared.cause.Refusal.TheVariants.{PriceMissing}
use Rattle.figures.specs.declared.standing.MissingPrice.{MissingPrice}
use Rattle.figures.specs.declared.standing.Place.{Place}
use Rattle.figures.specs.declared.standing.Resource.{Resource}
use Rattle.figures.specs.Pots.{unless_missing}
use Rattle.figures.specs.Prices.{prices_at, resource_missing}

abbrev pub refusal_of : MissingPrice → Refusal
refusal_of m = PriceMissing m.resource m.hour

abbrev pub priced_day : List Place → Resource → Result (Day Price) Refusal
priced_day places r = unless_missing (resource_missing places r) (record { slots = prices_at places r.place })
