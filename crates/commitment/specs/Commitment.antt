-- Self-commitment: the periods that a generator's own schedule binds it to. An hour is flagged if its self-schedule is above zero.
-- MRT and MDT are its minimum run and down time in hours, MDS its maximum daily start-ups.
--
--   stays      step 1, one hour: flagged, or the hour before belongs to a period that began fewer than MRT hours ago
--   held       step 1: which hours belong
--   join       two periods and the gap between them, as one
--   fill       the gaps that are chosen are filled, by their position and their hours
--   Chooses    the calls of a function answer as a choice does, at every gap of a day
--   bridged    step 2: every gap of fewer than MDT hours is filled
--   smallest   the smallest gap, the earliest on a tie, if there is a gap
--   joined     the two periods with that gap are joined
--   limit_of   how many periods may remain
--   periods    all three steps in order
use Rattle.std.specs.Prelude.{ℕ, zero, suc, ◌≡◌, ◌+◌, ◌-◌, ◌<◌, Bool, cond, ◌&&◌, ◌||◌, List, [], ◌∷◌, length, Some, None, Option, ◌==◌, nat_lt}
use Rattle.commitment.specs.declared.gaps.Gap.{Gap}
use Rattle.commitment.specs.declared.stretch.Stretch.{Stretch}
use Rattle.commitment.specs.Stretches.{stretches, covers, gap, gaps}

-- `ran` is how many hours ago the period began that the hour before belongs to, 0 if it belongs to none
abbrev pub stays : ℕ → ℕ → Bool → Bool
stays mrt ran flag = flag || (nat_lt 0 ran && nat_lt ran mrt)

abbrev pub held_from : ℕ → ℕ → List Bool → List Bool
held_from mrt ran [] = []
held_from mrt ran (flag ∷ rest) = stays mrt ran flag ∷ held_from mrt (cond (stays mrt ran flag) (ran + 1) 0) rest

abbrev pub held : ℕ → List Bool → List Bool
held mrt flags = held_from mrt 0 flags

abbrev pub join : Stretch → Stretch → Stretch
join p q = record { first = p.first; last = q.last }

-- `p` is the period at hand, and the gap behind it has the position i: the next period is joined to it, or it is left as it is
abbrev pub fill_from : (ℕ → ℕ → Bool) → ℕ → Stretch → List Stretch → List Stretch
fill_from chosen i p [] = p ∷ []
fill_from chosen i p (q ∷ qs) =
    cond (chosen i (gap p q)) (fill_from chosen (i + 1) (join p q) qs) (p ∷ fill_from chosen (i + 1) q qs)

abbrev pub fill : (ℕ → ℕ → Bool) → List Stretch → List Stretch
fill chosen [] = []
fill chosen (p ∷ ps) = fill_from chosen 0 p ps

-- `answers i g r` says that a call may answer r; a day has fewer than 24 gaps, of fewer than 256 hours
abbrev pub Chooses : (ℕ → ℕ → Bool → Type 0) → (ℕ → ℕ → Bool) → Type 0
Chooses answers chosen = (i g : ℕ) (r : Bool) → i < 24 → g < 256 → answers i g r → r ≡ chosen i g

abbrev pub bridged : ℕ → List Stretch → List Stretch
bridged mdt ps = fill (λ i g. nat_lt g mdt) ps

abbrev pub smaller : Option Gap → Gap → Option Gap
smaller None g = Some g
smaller (Some least) g = cond (nat_lt g.hours least.hours) (Some g) (Some least)

abbrev pub smallest_from : ℕ → Option Gap → List ℕ → Option Gap
smallest_from i least [] = least
smallest_from i least (g ∷ gs) = smallest_from (i + 1) (smaller least (record { at = i; hours = g })) gs

abbrev pub smallest : List ℕ → Option Gap
smallest gs = smallest_from 0 None gs

abbrev pub joined_at : Option Gap → List Stretch → List Stretch
joined_at None ps = ps
joined_at (Some g) ps = fill (λ i h. i == g.at) ps

abbrev pub joined : List Stretch → List Stretch
joined ps = joined_at (smallest (gaps ps)) ps

abbrev pub joins : ℕ → List Stretch → List Stretch
joins zero ps = ps
joins (suc n) ps = joins n (joined ps)

-- a generator that was carried in has no start to count for the period of hour 1
abbrev pub limit_of : ℕ → Bool → List Stretch → ℕ
limit_of mds carried ps = cond (carried && covers ps 1) (mds + 1) mds

-- each join leaves one period fewer
abbrev pub limited : ℕ → List Stretch → List Stretch
limited limit ps = joins (length ps - limit) ps

abbrev pub after_mrt : ℕ → List Bool → List Stretch
after_mrt mrt flags = stretches (held mrt flags)

abbrev pub after_mdt : ℕ → ℕ → List Bool → List Stretch
after_mdt mrt mdt flags = bridged mdt (after_mrt mrt flags)

abbrev pub periods : ℕ → ℕ → ℕ → Bool → List Bool → List Stretch
periods mrt mdt mds carried flags =
    limited (limit_of mds carried (after_mdt mrt mdt flags)) (after_mdt mrt mdt flags)
