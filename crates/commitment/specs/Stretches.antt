-- Stretches of hours. Hours count from 1.
--
--   listed           the stretches that a list of them holds
--   added            the same and one more, if there is one
--   ended            the stretch that the hour h closes, if the hour before lay in one and h is not marked
--   going            where the stretch began that the hour h lies in, if it is marked
--   stretches_from   the stretches from the hour h on; the first may have begun before
--   stretches        the longest stretches of marked hours of a day, in order
--   covers           whether an hour lies in one of the stretches
--   hours            how many hours a stretch has
--   gap, gaps        the hours between a stretch and the next; between each and its next
use Rattle.std.specs.Prelude.{ℕ, ◌+◌, ◌-◌, Bool, false, cond, ◌&&◌, List, [], ◌∷◌, ◌++◌, take, Some, None, Option, nat_le}
use Rattle.std.specs.List.{list_any}
use Rattle.std.specs.Option.{option_to_list}
use Rattle.commitment.specs.declared.stretch.Stretch.{Stretch}
use Rattle.commitment.specs.declared.stretch.Stretches.{Stretches}

abbrev pub listed : Stretches → List Stretch
listed l = take l.count l.items

-- there is room for one an hour
abbrev pub added : List Stretch → Option Stretch → List Stretch
added ps p = take 24 (ps ++ option_to_list p)

abbrev pub ended : ℕ → Option ℕ → Bool → Option Stretch
ended h None marked = None
ended h (Some first) marked = cond marked None (Some (record { first = first; last = h - 1 }))

abbrev pub going : ℕ → Option ℕ → Bool → Option ℕ
going h None marked = cond marked (Some h) None
going h (Some first) marked = cond marked (Some first) None

abbrev pub stretches_from : ℕ → Option ℕ → List Bool → List Stretch
stretches_from h began [] = option_to_list (ended h began false)
stretches_from h began (marked ∷ rest) = option_to_list (ended h began marked) ++ stretches_from (h + 1) (going h began marked) rest

abbrev pub stretches : List Bool → List Stretch
stretches marks = stretches_from 1 None marks

abbrev pub covers : List Stretch → ℕ → Bool
covers ps h = list_any (λ p. nat_le p.first h && nat_le h p.last) ps

abbrev pub hours : Stretch → ℕ
hours p = p.last + 1 - p.first

abbrev pub gap : Stretch → Stretch → ℕ
gap p q = q.first - p.last - 1

abbrev pub gaps_after : Stretch → List Stretch → List ℕ
gaps_after p [] = []
gaps_after p (q ∷ qs) = gap p q ∷ gaps_after q qs

abbrev pub gaps : List Stretch → List ℕ
gaps [] = []
gaps (p ∷ ps) = gaps_after p ps
