use Rattle.std.proofs.Common.{◌≡◌, ◌-◌}
use Rattle.commitment.specs.Stretches.{listed}
use Rattle.commitment.specs.Commitment.{joins}
use Rattle.commitment.proofs.steps.join_down.Given as goal

abbrev pub invariant-loop : goal.invariant-loop
invariant-loop l = joins (l.surplus - l.counter) (listed l.joined) ≡ joins l.surplus (listed l.initial.joined)
