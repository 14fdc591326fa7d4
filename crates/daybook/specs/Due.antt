-- The refusal that is due to a call on a book, one word for each cause, and their order.
--
--   Cited               what an act names: a member, a place, a resource of either kind, a generator, a load
--   registered          whether the book has it
--   cites               what an act names that has to be registered
--   registers           what an act registers, if it does
--   not_registered      an id is not registered as that kind
--   in_use              an id is in use
--   full                the table has no room for one more
--   draft_out           a draft is out
--   nothing_to_strike   there is no record to strike
--   due_to              the refusal that is due to an act: the first of these
--   due                 the refusal that is due to a call; a field out of range comes first
use Rattle.std.specs.Prelude.{ℕ, Bool, false, cond, not, List, [], ◌∷◌, length, is_some, Some, None, Ok, Err, Option, Result, ◌==◌}
use Rattle.std.specs.Option.{option_map}
use Rattle.table.specs.Entries.{lookup}
use Rattle.refusal.specs.declared.cause.Refusal.{Refusal}
use Rattle.refusal.specs.declared.cause.Refusal.TheVariants.{NotRegistered, InUse, Full, DraftOut, NothingToStrike}
use Rattle.refusal.specs.declared.kinds.Kind.{Kind}
use Rattle.refusal.specs.declared.kinds.Kind.TheVariants.{Member, Place, Resource}
use Rattle.refusal.specs.declared.kinds.Store.TheVariants.{Table}
use Rattle.figures.specs.declared.standing.Resource.{Resource as Entry}
use Rattle.figures.specs.declared.standing.Unit.{Unit}
use Rattle.figures.specs.Entries.{member_key, place_key, resource_key, is_generator}
use Rattle.figures.specs.Prices.{first}
use Rattle.daybook.specs.Calls.{Call, Act, brings, takes, asked}
use Rattle.daybook.specs.Held.{Held}
use Rattle.daybook.specs.Records.{member, place, resource, price, generator_hour, load_hour, the_hour, standing}

pub data Cited : Type 0 where
  a_member : ℕ → Cited
  a_place : ℕ → Cited
  a_resource : ℕ → Cited
  a_generator : ℕ → Cited
  a_load : ℕ → Cited

abbrev pub cited_id : Cited → ℕ
cited_id (a_member id) = id
cited_id (a_place id) = id
cited_id (a_resource id) = id
cited_id (a_generator id) = id
cited_id (a_load id) = id

-- generators and loads are both resources
abbrev pub cited_kind : Cited → Kind
cited_kind (a_member id) = Member
cited_kind (a_place id) = Place
cited_kind (a_resource id) = Resource
cited_kind (a_generator id) = Resource
cited_kind (a_load id) = Resource

abbrev pub is_a : (Unit → Bool) → Option Entry → Bool
is_a kind None = false
is_a kind (Some r) = kind r.unit

abbrev pub is_load : Unit → Bool
is_load unit = not (is_generator unit)

abbrev pub registered : Held → Cited → Bool
registered v (a_member id) = is_some (lookup member_key id v.members)
registered v (a_place id) = is_some (lookup place_key id v.places)
registered v (a_resource id) = is_some (lookup resource_key id v.resources)
registered v (a_generator id) = is_a is_generator (lookup resource_key id v.resources)
registered v (a_load id) = is_a is_load (lookup resource_key id v.resources)

abbrev pub cites : Act → List Cited
cites (brings (member id)) = []
cites (brings (place id)) = []
cites (brings (resource id m p unit)) = a_member m ∷ a_place p ∷ []
cites (brings (price p h x)) = a_place p ∷ []
cites (brings (generator_hour r h x)) = a_generator r ∷ []
cites (brings (load_hour r h x)) = a_load r ∷ []
cites (takes r h) = a_resource r ∷ []

abbrev pub registers : Act → Option Cited
registers (brings (member id)) = Some (a_member id)
registers (brings (place id)) = Some (a_place id)
registers (brings (resource id m p unit)) = Some (a_resource id)
registers (brings (price p h x)) = None
registers (brings (generator_hour r h x)) = None
registers (brings (load_hour r h x)) = None
registers (takes r h) = None

abbrev pub unless_registered : Held → Cited → Option Refusal
unless_registered v c = cond (registered v c) None (Some (NotRegistered (cited_id c) (cited_kind c)))

abbrev pub not_registered : Held → Act → Option Refusal
not_registered v a = first (unless_registered v) (cites a)

abbrev pub unless_free : Held → Option Cited → Option Refusal
unless_free v None = None
unless_free v (Some c) = cond (registered v c) (Some (InUse (cited_id c) (cited_kind c))) None

abbrev pub in_use : Held → Act → Option Refusal
in_use v a = unless_free v (registers a)

abbrev pub is_full : Held → Kind → Bool
is_full v Member = length v.members == v.member_room
is_full v Place = length v.places == v.place_room
is_full v Resource = length v.resources == v.resource_room

abbrev pub unless_room : Held → Option Cited → Option Refusal
unless_room v None = None
unless_room v (Some c) = cond (is_full v (cited_kind c)) (Some (Full (Table (cited_kind c)))) None

abbrev pub full : Held → Act → Option Refusal
full v a = unless_room v (registers a)

abbrev pub draft_out : Held → Act → Option Refusal
draft_out v (brings r) = option_map DraftOut v.out
draft_out v (takes r h) = option_map DraftOut v.out

abbrev pub nothing_to_strike : Held → Act → Option Refusal
nothing_to_strike v (brings r) = None
nothing_to_strike v (takes r h) = cond (is_some (standing v (the_hour r h))) None (Some (NothingToStrike r h.number))

abbrev pub due_to : Held → Act → Option Refusal
due_to v a = first (λ o. o) (not_registered v a ∷ in_use v a ∷ full v a ∷ draft_out v a ∷ nothing_to_strike v a ∷ [])

abbrev pub due_if : Held → Result Act Refusal → Option Refusal
due_if v (Ok a) = due_to v a
due_if v (Err out_of_range) = Some out_of_range

abbrev pub due : Held → Call → Option Refusal
due v c = due_if v (asked c)
