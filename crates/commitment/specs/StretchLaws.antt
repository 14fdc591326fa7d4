-- What stretches of hours are, in the words of the rules.
--
--   Marked    the hour is marked; the marks are those of hours 1, 2 and on
--   Within    the hour is among those of the stretch
--   In        the hour lies in one of the stretches
--   Longest   the stretches are the longest ones of marked hours
use Rattle.std.specs.Prelude.{◌≡◌, ℕ, ◌-◌, ◌≤◌, Bool, true, false, ◌⊎◌, List, [], ◌∷◌, slice_index_or}
use Rattle.std.specs.List.{AllByRecursion}
use Rattle.commitment.specs.declared.stretch.Stretch.{Stretch}
use Rattle.commitment.specs.Stretches.{gaps}

abbrev pub Marked : List Bool → ℕ → Type 0
Marked marks h = (1 ≤ h) × (slice_index_or marks (h - 1) false ≡ true)

abbrev pub Within : Stretch → ℕ → Type 0
Within p h = (p.first ≤ h) × (h ≤ p.last)

abbrev pub In : List Stretch → ℕ → Type 0
In [] h = ⊥
In (p ∷ ps) h = Within p h ⊎ In ps h

pub record Longest (marks : List Bool) (ps : List Stretch) : Type 0 where
  pub marked_hours_lie_in_one : (h : ℕ) → Marked marks h → In ps h
  pub their_hours_are_marked : (h : ℕ) → In ps h → Marked marks h
  -- so that none could be longer
  pub an_hour_lies_between : AllByRecursion (λ g. 1 ≤ g) (gaps ps)
