-- What is read together, part by part, or its refusal.
--
--   slot_parts   the id and the hour of a slot
--   ids_parts    the three ids of a resource: its own, its member's, its place's
use Rattle.std.specs.Prelude.{Ok, Err, Result}
use Rattle.refusal.specs.declared.cause.Refusal.{Refusal}
use Rattle.hours.specs.declared.day.Hour.{Hour}
use Rattle.daybook.specs.declared.id.Id.{Id}
use Rattle.daybook.specs.declared.id.Slot.{Slot}
use Rattle.daybook.specs.declared.id.ResourceIds.{ResourceIds}

abbrev pub slot_parts : Result Slot Refusal → Result (Id × Hour) Refusal
slot_parts (Ok s) = Ok (s.id, s.hour)
slot_parts (Err e) = Err e

abbrev pub ids_parts : Result ResourceIds Refusal → Result (Id × Id × Id) Refusal
ids_parts (Ok ids) = Ok (ids.own, ids.member, ids.place)
ids_parts (Err e) = Err e
