-- What is found under an id.
--
--   found_as   the resource, if it is of that kind; otherwise the id is not registered as it
--   Tells      a test answers as a kind decides
use Rattle.std.specs.Prelude.{◌≡◌, ℕ, Bool, cond, Some, None, Ok, Err, Option, Result}
use Rattle.refusal.specs.declared.cause.Refusal.{Refusal}
use Rattle.refusal.specs.declared.cause.Refusal.TheVariants.{NotRegistered}
use Rattle.refusal.specs.declared.kinds.Kind.TheVariants.{Resource}
use Rattle.figures.specs.declared.standing.Resource.{Resource as Entry}
use Rattle.figures.specs.declared.standing.Unit.{Unit}

abbrev pub found_as : (Unit → Bool) → ℕ → Option Entry → Result Entry Refusal
found_as kind id None = Err (NotRegistered id Resource)
found_as kind id (Some r) = cond (kind r.unit) (Ok r) (Err (NotRegistered id Resource))

abbrev pub Tells : (Unit → Bool → Type 0) → (Unit → Bool) → Type 0
Tells answers kind = (unit : Unit) (b : Bool) → answers unit b → b ≡ kind unit
