-- What stands in a day book, and the name that it is known by.
--
--   Record     a member, a place, a resource, a price of a place in an hour, a generator's or a load's hour record
--   Name       what tells one record from another: the id of what is registered, the place and hour of a price, the resource
--              and hour of an hour record
--   name_of    the name of a record
--   standing   the record that stands in a book under a name
use Rattle.std.specs.Prelude.{ℕ, cond, Some, None, Option}
use Rattle.std.specs.Option.{option_map}
use Rattle.table.specs.Entries.{lookup}
use Rattle.hours.specs.Days.{slot_at}
use Rattle.hours.specs.declared.day.Hour.{Hour}
use Rattle.hours.specs.declared.records.HourRecord.{HourRecord}
use Rattle.hours.specs.declared.records.Price.{Price}
use Rattle.figures.specs.declared.standing.Member.{Member}
use Rattle.figures.specs.declared.standing.Place.{Place}
use Rattle.figures.specs.declared.standing.Resource.{Resource}
use Rattle.figures.specs.declared.standing.Unit.{Unit}
use Rattle.figures.specs.Entries.{member_key, place_key, resource_key, is_generator}
use Rattle.daybook.specs.Held.{Held}

-- a resource has its id, its member, its place and what it is registered as
pub data Record : Type 0 where
  member : ℕ → Record
  place : ℕ → Record
  resource : ℕ → ℕ → ℕ → Unit → Record
  price : ℕ → Hour → Price → Record
  generator_hour : ℕ → Hour → HourRecord → Record
  load_hour : ℕ → Hour → HourRecord → Record

pub data Name : Type 0 where
  the_member : ℕ → Name
  the_place : ℕ → Name
  the_resource : ℕ → Name
  the_price : ℕ → Hour → Name
  the_hour : ℕ → Hour → Name

abbrev pub name_of : Record → Name
name_of (member id) = the_member id
name_of (place id) = the_place id
name_of (resource id m p unit) = the_resource id
name_of (price p h x) = the_price p h
name_of (generator_hour r h x) = the_hour r h
name_of (load_hour r h x) = the_hour r h

abbrev pub member_in : Member → Record
member_in m = member m.id

abbrev pub place_in : Place → Record
place_in p = place p.id

abbrev pub resource_in : Resource → Record
resource_in r = resource r.id r.member r.place r.unit

abbrev pub price_in : Hour → Place → Option Record
price_in h p = option_map (price p.id h) (slot_at p.prices.slots h.number)

abbrev pub posted_to : Unit → ℕ → Hour → HourRecord → Record
posted_to unit r h x = cond (is_generator unit) (generator_hour r h x) (load_hour r h x)

abbrev pub hour_in : Hour → Resource → Option Record
hour_in h r = option_map (posted_to r.unit r.id h) (slot_at r.hours.slots h.number)

abbrev pub in_entry : {X : Type 0} → (X → Option Record) → Option X → Option Record
in_entry f None = None
in_entry f (Some x) = f x

abbrev pub standing : Held → Name → Option Record
standing v (the_member id) = option_map member_in (lookup member_key id v.members)
standing v (the_place id) = option_map place_in (lookup place_key id v.places)
standing v (the_resource id) = option_map resource_in (lookup resource_key id v.resources)
standing v (the_price p h) = in_entry (price_in h) (lookup place_key p v.places)
standing v (the_hour r h) = in_entry (hour_in h) (lookup resource_key r v.resources)
