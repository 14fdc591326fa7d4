-- The loops of a day, turn by turn.
use Rattle.std.proofs.Common.{◌≡◌, ℕ, suc, ◌+◌, ◌-◌, ◌<◌, ◌≤◌, Bool, true, false, cond, List, ◌++◌, length, get_or, take, drop, set, Some, ap, ◌∙◌, append_assoc, arith}
use Rattle.std.proofs.lemmas.List.{take_more_set, drop-set-lt, at_drop_more, at_drop_all}
use Rattle.commitment.specs.declared.stretch.Stretch.{Stretch}
use Rattle.commitment.specs.Stretches.{added, gap}
use Rattle.commitment.specs.Commitment.{stays, held_from, join, fill_from, joined, joins}
use Rattle.commitment.proofs.Scans.{added-all}

-- an hour of the day becomes whether it is held
pub held_more : (mrt ran next i : ℕ) (hours : List Bool) (on : Bool) → i < length hours → on ≡ stays mrt ran (get_or hours i false) → next ≡ cond on (ran + 1) 0
    → take (i + 1) (set hours i on) ++ held_from mrt next (drop (i + 1) (set hours i on)) ≡ take i hours ++ held_from mrt ran (drop i hours)
held_more mrt ran next i hours on h e n =
    grind (arith, at_drop_more (held_from mrt ran) hours i false, take_more_set hours i on, drop-set-lt (i + 1) hours i on, append_assoc)

-- one more period, where the gap behind the one at hand is filled and where it is left
module _ (out : List Stretch) (chosen : ℕ → ℕ → Bool) (rest : List Stretch) (i : ℕ) (p : Stretch) where
  pub fill_joins : (d : Stretch) → i < length rest → true ≡ chosen i (gap p (get_or rest i d))
      → out ++ fill_from chosen (i + 1) (join p (get_or rest i d)) (drop (i + 1) rest) ≡ out ++ fill_from chosen i p (drop i rest)
  fill_joins d h e = grind (arith, at_drop_more (fill_from chosen i p) rest i d)

  module _ (out' : List Stretch) (few : length out < 24) (f : out' ≡ added out (Some p)) where
    pub fill_leaves : (d : Stretch) → i < length rest → false ≡ chosen i (gap p (get_or rest i d))
        → out' ++ fill_from chosen (i + 1) (get_or rest i d) (drop (i + 1) rest) ≡ out ++ fill_from chosen i p (drop i rest)
    fill_leaves d h e =
        grind (arith, at_drop_more (fill_from chosen i p) rest i d, f ∙ added-all out (Some p) (omega arith), append_assoc)

    pub fill_end : length rest ≤ i → out' ≡ out ++ fill_from chosen i p (drop i rest)
    fill_end h =
        grind (arith, at_drop_all (fill_from chosen i p) rest i h, f ∙ added-all out (Some p) (omega arith))

pub joins_step : (n k : ℕ) (ps next goal : List Stretch) → k < n → next ≡ joined ps → joins (n - k) ps ≡ goal → joins (n - (k + 1)) next ≡ goal
joins_step n k ps next goal h e inv =
    let m : n - k ≡ suc (n - (k + 1)) = omega arith in cc (ap (λ (j : ℕ). joins j ps) m)
