use Rattle.commitment.specs.Stretches.{listed}
use Rattle.commitment.proofs.Turns.{joins_step}
use Rattle.commitment.proofs.steps.join_down.Goals as goal

pub loop-preserved : goal.loop-preserved
loop-preserved c =
    joins_step c.saturating_sub-surplus.result c.loop.counter (listed c.loop.joined) _ _ c.loop-test.true c.join_smallest-joined.ensures c.loop.invariant
