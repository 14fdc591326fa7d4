use Rattle.std.proofs.Common.{◌≡◌, ◌≤◌, ◌++◌, length, take, drop}
use Rattle.commitment.specs.Commitment.{held_from, held}
use Rattle.commitment.proofs.steps.held.Given as goal

abbrev pub invariant-loop-hour : goal.invariant-loop-hour
invariant-loop-hour l = record {
  so_far : take l.hour-index l.hour-items ++ held_from l.mrt l.ran (drop l.hour-index l.hour-items) ≡ held l.mrt l.flags;
  ran : l.ran ≤ l.hour-index;
  all : length l.hour-items ≡ 24;
}
