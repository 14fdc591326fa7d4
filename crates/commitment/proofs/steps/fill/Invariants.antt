use Rattle.std.proofs.Common.{◌≡◌, ℕ, ◌≤◌, Bool, ◌++◌, length, drop}
use Rattle.commitment.specs.Stretches.{listed}
use Rattle.commitment.specs.Commitment.{fill_from, fill, Chooses}
use Rattle.commitment.proofs.steps.fill.Given as goal

abbrev pub invariant-loop-at : goal.invariant-loop-at
invariant-loop-at g l = record {
  few : length (listed l.out) ≤ l.at;
  filled : (c : ℕ → ℕ → Bool) → Chooses (goal.F-post g l.chosen) c
      → listed l.out ++ fill_from c l.at l.current (drop l.at l.rest) ≡ fill c l.periods;
}
