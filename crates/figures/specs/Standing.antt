-- The records that stand, as they are lent, and whose they are.
--
--   places_in, resources_in   the places and the resources that are lent
--   lent                      both, or nothing where there are more than 32 resources
--   counts                    a resource is the member's; where no member is told, every resource counts
--   counted                   the resources that count, in their order
--   of_member                 the resources of a member
use Rattle.std.specs.Prelude.{ℕ, Bool, true, cond, List, length, Some, None, filter, Option, ◌==◌, nat_le}
use Rattle.std.specs.Option.{option_map}
use Rattle.figures.specs.declared.standing.Place.{Place}
use Rattle.figures.specs.declared.standing.Resource.{Resource}
use Rattle.figures.specs.declared.standing.Standing.{Standing}

abbrev pub places_in : Standing → List Place
places_in s = s.places.now

abbrev pub resources_in : Standing → List Resource
resources_in s = s.resources.now

-- what is lent, without the loan
abbrev pub seen : Option Standing → Option (List Place × List Resource)
seen o = option_map (λ s. (places_in s, resources_in s)) o

abbrev pub lent : List Place → List Resource → Option (List Place × List Resource)
lent places resources = cond (nat_le (length resources) 32) (Some (places, resources)) None

abbrev pub counts : Option ℕ → Resource → Bool
counts None r = true
counts (Some id) r = r.member == id

abbrev pub counted : Option ℕ → List Resource → List Resource
counted member rs = filter (counts member) rs

abbrev pub of_member : ℕ → List Resource → List Resource
of_member id rs = counted (Some id) rs
