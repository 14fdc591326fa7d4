-- The prices of a place, and the hour record that lacks its price.
--
--   first              the first answer that a question gets along a list
--   prices_at          the prices of the first place with an id; none in any hour where there is no such place
--   unpriced           an hour record stands and its hour has no price
--   hours_before       the hours of the day, each told by how many are before it
--   missing_hour       the first unpriced hour, counted from 1
--   resource_missing   the first hour record of a resource that lacks its price
--   missing            the same along resources: by their order, then by rising hour
use Rattle.std.specs.Prelude.{ℕ, ◌+◌, Bool, cond, not, ◌&&◌, List, [], ◌∷◌, replicate, is_some, Some, None, Option, ◌==◌, slice_index_or}
use Rattle.std.specs.List.{range_with_len}
use Rattle.std.specs.Option.{option_map, option_or, unwrap_or}
use Rattle.hours.specs.declared.records.HourRecord.{HourRecord}
use Rattle.hours.specs.declared.records.Price.{Price}
use Rattle.figures.specs.declared.standing.MissingPrice.{MissingPrice}
use Rattle.figures.specs.declared.standing.Place.{Place}
use Rattle.figures.specs.declared.standing.Resource.{Resource}

abbrev pub first : {X Y : Type 0} → (X → Option Y) → List X → Option Y
first f [] = None
first f (x ∷ xs) = option_or (f x) (first f xs)

-- a place answers if it is asked for
abbrev pub prices_if : ℕ → Place → Option (List (Option Price))
prices_if id place = cond (place.id == id) (Some place.prices.slots) None

abbrev pub prices_at : List Place → ℕ → List (Option Price)
prices_at places id = unwrap_or (first (prices_if id) places) (replicate 24 None)

-- of the hour that follows the first i
abbrev pub unpriced : List (Option HourRecord) → List (Option Price) → ℕ → Bool
unpriced slots prices i = is_some (slice_index_or slots i None) && not (is_some (slice_index_or prices i None))

abbrev pub hour_if : (ℕ → Bool) → ℕ → Option ℕ
hour_if test i = cond (test i) (Some (i + 1)) None

unfoldable pub hours_before : List ℕ
hours_before = range_with_len 0 24

abbrev pub missing_hour : List (Option HourRecord) → List (Option Price) → Option ℕ
missing_hour slots prices = first (hour_if (unpriced slots prices)) hours_before

abbrev pub missing_at : ℕ → ℕ → MissingPrice
missing_at id hour = record { resource = id; hour = hour }

abbrev pub resource_missing : List Place → Resource → Option MissingPrice
resource_missing places r = option_map (missing_at r.id) (missing_hour r.hours.slots (prices_at places r.place))

abbrev pub missing : List Place → List Resource → Option MissingPrice
missing places rs = first (resource_missing places) rs
