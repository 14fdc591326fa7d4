-- What holds of the numbers in a book, for its ghost fields.
--
--   every        all entries pass a test
--   all_ids      every id is at least 1; that it is at most 65,535, its type says
--   whole_day    a day has twenty-four slots; has_whole_prices, has_whole_hours: those of a place and of a resource do
--   draft_fits   at most 9,999 numbers are used, and the draft that is out has one of them
use Rattle.std.specs.Prelude.{ℕ, Bool, ◌&&◌, List, length, Some, None, Option, ◌==◌, nat_le}
use Rattle.std.specs.List.{list_all}
use Rattle.figures.specs.declared.standing.Place.{Place}
use Rattle.figures.specs.declared.standing.Resource.{Resource}

abbrev pub every : {E : Type 0} → (E → Bool) → List E → Bool
every p xs = list_all p xs

abbrev pub all_ids : List ℕ → Bool
all_ids ids = list_all (nat_le 1) ids

abbrev pub whole_day : {X : Type 0} → List (Option X) → Bool
whole_day slots = length slots == 24

abbrev pub has_whole_prices : Place → Bool
has_whole_prices p = whole_day p.prices.slots

abbrev pub has_whole_hours : Resource → Bool
has_whole_hours r = whole_day r.hours.slots

abbrev pub draft_fits : Option ℕ → ℕ → Bool
draft_fits None used = nat_le used 9999
draft_fits (Some n) used = (nat_le 1 n && nat_le n used) && nat_le used 9999
