use Rattle.std.proofs.Common.{◌≡◌, [], sym, subst, ⊎_elim, arith}
use Rattle.std.proofs.lemmas.List.{nil_from_length}
use Rattle.commitment.specs.StretchLaws.{Longest}
use Rattle.commitment.specs.Stretches.{listed}
use Rattle.commitment.proofs.Holding.{longest}
use Rattle.commitment.proofs.Scans.{scan_more, scan_end}
use Rattle.commitment.proofs.stretch.Stretches.of.Goals as goal

pub loop-hour-preserved : goal.loop-hour-preserved
loop-hour-preserved c = let turn = c.in-Some.ensures.steps in
    scan_more c.args.marks.now (listed c.loop-hour.found) _ c.loop-hour.began _ c.loop-hour.hour-iterator.a.start _ c.in-Some.marked.now
    c.loop-hour.hour-iterator.b.rest.now _ c.ended_at.result turn.1 (omega arith) (rw turn.0.0 at c.ended_at.ensures) c.add.ensures (rw turn.0.0 at c.going_at-began.ensures) c.loop-hour.invariant

pub returns : goal.returns
returns c =
    let left = c.loop-hour.hour-iterator.b.rest.now in
    let none = ⊎_elim {C = ◌≡◌ left []} (λ top. absurd (omega (arith, top.1.0))) (λ done. nil_from_length left done.1.0) c.in-None.ensures.steps in
    let value =
    scan_end c.args.marks.now (listed c.loop-hour.found) _ c.loop-hour.began c.loop-hour.hour-iterator.a.start left c.ended_at-2.result
    none c.ended_at-2.ensures c.add-2.ensures c.loop-hour.invariant in
    record { value = value; law = subst (Longest c.args.marks.now) (sym value) (longest c.args.marks.now) }
