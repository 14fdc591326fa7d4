use Rattle.std.proofs.Common.{arith}
use Rattle.std.proofs.lemmas.Grind.{common_steps}
use Rattle.commitment.proofs.Turns.{held_more}
use Rattle.commitment.proofs.steps.held.Goals as goal

pub loop-hour-preserved : goal.loop-hour-preserved
loop-hour-preserved c = grind (arith, common_steps, held_more c.args.mrt c.loop-hour.ran _ c.loop-hour.hour-index c.loop-hour.hour-items _ (omega arith) c.stays_on-on.ensures c.ran_on-ran.ensures)
