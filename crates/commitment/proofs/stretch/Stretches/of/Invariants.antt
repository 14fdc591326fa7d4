use Rattle.commitment.specs.Stretches.{listed}
use Rattle.commitment.proofs.Scans.{Scanned}
use Rattle.commitment.proofs.stretch.Stretches.of.Given as goal

abbrev pub invariant-loop-hour : goal.invariant-loop-hour
invariant-loop-hour l = Scanned l.marks (listed l.found) l.began l.hour-iterator.a.start l.hour-iterator.b.rest.now
