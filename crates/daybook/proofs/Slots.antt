-- Whether an hour record stands, as the resource's day has it.
use Rattle.std.proofs.Common.{◌≡◌, ℕ, is_some, Some, None, Option, refl, ap, ◌∙◌}
use Rattle.std.specs.Option.{option_map}
use Rattle.hours.specs.declared.day.Hour.{Hour}
use Rattle.hours.specs.Days.{slot_at}
use Rattle.table.specs.Entries.{lookup}
use Rattle.figures.specs.declared.standing.Resource.{Resource}
use Rattle.figures.specs.Entries.{resource_key}
use Rattle.daybook.specs.Held.{Held}
use Rattle.daybook.specs.Records.{the_hour, posted_to, hour_in, in_entry, standing}

pub some_mapped : {X Y : Type 0} (f : X → Y) (o : Option X) → is_some (option_map f o) ≡ is_some o
some_mapped f None = refl
some_mapped f (Some x) = refl

pub hour_stands : (v : Held) (k : ℕ) (h : Hour) (r : Resource) → lookup resource_key k v.resources ≡ Some r → is_some (standing v (the_hour k h)) ≡ is_some (slot_at r.hours.slots h.number)
hour_stands v k h r there = ap (λ o. is_some (in_entry (hour_in h) o)) there ∙ some_mapped (posted_to r.unit r.id h) (slot_at r.hours.slots h.number)
