-- What a table of members, places or resources holds.
--
--   member_key, place_key, resource_key   the id that an entry is kept under
--   ids_of_members, ids_of_places         the ids of members and of places, in their order
--   new_member, new_place, new_resource   an entry as it is registered: nothing stated, no prices, no hour records
--   vacant_resource                       what fills a table's memory before it is lent
--   generator_in                          the generator that a resource is registered as; a load has none
--   is_generator                          whether there is one
use Rattle.std.specs.Prelude.{ℕ, Bool, List, map, replicate, pos, is_some, Some, None, Option}
use Rattle.std.proofs.Common.{arith}
use Rattle.tariff.specs.declared.generator.Generator.{Generator as Machine}
use Rattle.figures.specs.declared.standing.Member.{Member}
use Rattle.figures.specs.declared.standing.Place.{Place}
use Rattle.figures.specs.declared.standing.Resource.{Resource}
use Rattle.figures.specs.declared.standing.Unit.{Unit}
use Rattle.figures.specs.declared.standing.Unit.TheVariants.{Generator, Load}

abbrev pub member_key : Member → ℕ
member_key m = m.id

abbrev pub place_key : Place → ℕ
place_key p = p.id

abbrev pub resource_key : Resource → ℕ
resource_key r = r.id

abbrev pub ids_of_members : List Member → List ℕ
ids_of_members ms = map member_key ms

abbrev pub ids_of_places : List Place → List ℕ
ids_of_places ps = map place_key ps

abbrev pub new_member : ℕ → Member
new_member id = record { id = id; stated = pos 0; drafted = None; bound = omega arith }

abbrev pub new_place : ℕ → Place
new_place id = record { id = id; prices = record { slots = replicate 24 None } }

abbrev pub new_resource : ℕ → ℕ → ℕ → Unit → Resource
new_resource id member place unit = record { id = id; member = member; place = place; unit = unit; hours = record { slots = replicate 24 None } }

abbrev pub vacant_resource : Resource
vacant_resource = new_resource 0 0 0 Load

abbrev pub generator_in : Unit → Option Machine
generator_in (Generator g) = Some g
generator_in Load = None

abbrev pub is_generator : Unit → Bool
is_generator unit = is_some (generator_in unit)
