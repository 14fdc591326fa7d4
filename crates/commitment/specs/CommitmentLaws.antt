-- What the three steps of self-commitment come to, in the words of the rules.
--
--   Flagged         the hour's self-schedule is above zero
--   Between         the hour lies in a gap between two neighbours, of a size that `Size` holds of
--   HeldOn          the period that the hour lies in began fewer than MRT hours earlier
--   Joined          one join: the two neighbours with the smallest gap, the earliest on a tie
--   JoinedDown      joins, while there are more periods than the limit
--   SelfCommitted   the laws of a day
use Rattle.std.specs.Prelude.{◌≡◌, ℕ, ◌+◌, ◌<◌, ◌≤◌, Bool, ◌⊎◌, List, [], ◌∷◌, ◌++◌, length}
use Rattle.std.specs.List.{AllByRecursion}
use Rattle.commitment.specs.declared.stretch.Stretch.{Stretch}
use Rattle.commitment.specs.Stretches.{hours, gap, gaps}
use Rattle.commitment.specs.StretchLaws.{Marked, Within, In}
use Rattle.commitment.specs.Commitment.{join, limit_of, after_mrt, after_mdt, periods}

abbrev pub Flagged : List Bool → ℕ → Type 0
Flagged flags h = Marked flags h

abbrev pub BetweenAfter : (ℕ → Type 0) → Stretch → List Stretch → ℕ → Type 0
BetweenAfter Size p [] h = ⊥
BetweenAfter Size p (q ∷ qs) h = ((p.last < h) × (h < q.first) × Size (gap p q)) ⊎ BetweenAfter Size q qs h

abbrev pub Between : (ℕ → Type 0) → List Stretch → ℕ → Type 0
Between Size [] h = ⊥
Between Size (p ∷ ps) h = BetweenAfter Size p ps h

abbrev pub HeldOn : ℕ → List Stretch → ℕ → Type 0
HeldOn mrt [] h = ⊥
HeldOn mrt (p ∷ ps) h = (Within p h × (h < p.first + mrt)) ⊎ HeldOn mrt ps h

pub record Joined (ps qs : List Stretch) : Type 0 where
  pub before : List Stretch
  pub one : Stretch
  pub next : Stretch
  pub after : List Stretch
  pub were : ps ≡ before ++ (one ∷ (next ∷ after))
  pub are : qs ≡ before ++ (join one next ∷ after)
  pub smallest_gap : AllByRecursion (λ g. gap one next ≤ g) (gaps ps)
  pub earliest_on_a_tie : AllByRecursion (λ g. gap one next < g) (gaps (before ++ (one ∷ [])))

pub data JoinedDown (limit : ℕ) : List Stretch → List Stretch → Type 0 where
  few_enough : (ps : List Stretch) → length ps ≤ limit → JoinedDown limit ps ps
  too_many : (ps qs rs : List Stretch) → limit < length ps → Joined ps qs → JoinedDown limit qs rs → JoinedDown limit ps rs

pub record SelfCommitted (mrt mdt mds : ℕ) (carried : Bool) (flags : List Bool) : Type 0 where
  pub flagged_hours_belong : (h : ℕ) → Flagged flags h → In (periods mrt mdt mds carried flags) h
  -- flagged, held by minimum run time, in a gap shorter than MDT, or in a gap that a join filled
  pub others_have_a_reason : (h : ℕ) → In (periods mrt mdt mds carried flags) h
      → Flagged flags h ⊎ (HeldOn mrt (after_mrt mrt flags) h ⊎ (Between (λ g. g < mdt) (after_mrt mrt flags) h ⊎ Between (λ _. Unit {0}) (after_mdt mrt mdt flags) h))
  pub long_enough : AllByRecursion (λ p. (mrt ≤ hours p) ⊎ (p.last ≡ length flags)) (after_mrt mrt flags)
  pub far_apart : AllByRecursion (λ g. mdt ≤ g) (gaps (after_mdt mrt mdt flags))
  pub joined_down : JoinedDown (limit_of mds carried (after_mdt mrt mdt flags)) (after_mdt mrt mdt flags) (periods mrt mdt mds carried flags)
  pub few_remain : length (periods mrt mdt mds carried flags) ≤ limit_of mds carried (after_mdt mrt mdt flags)
