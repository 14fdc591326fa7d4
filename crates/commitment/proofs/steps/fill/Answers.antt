use Rattle.std.proofs.Common.{sym, ap, ◌∙◌, arith}
use Rattle.commitment.specs.Stretches.{listed}
use Rattle.commitment.proofs.Scans.{added_few}
use Rattle.commitment.proofs.Turns.{fill_joins, fill_leaves, fill_end}
use Rattle.commitment.proofs.steps.fill.Goals.{then-chosen, else-chosen}
use Rattle.commitment.proofs.steps.fill.Goals as goal

pub loop-at-preserved : goal.loop-at-preserved
loop-at-preserved g c = let l = c.loop-at in
    let room = c.in-Some.ensures.cases in
    elim c.if-chosen.branch [
      | then-chosen w ↦ rw (w.out-is, w.current-is) (record {
        few = omega arith;
        filled = λ chosen says.
            fill_joins (listed l.out) chosen c.in-Some.rest.now l.at l.current _ c.loop-at-test.true
            (sym w.if-chosen.true ∙ says l.at c.gap.result c.chosen.result (omega arith) (omega arith) c.chosen.ensures ∙ ap (chosen l.at) c.gap.ensures)
            ∙ l.invariant.filled chosen says;
      })
      | else-chosen w ↦ rw (w.out-is, w.current-is) (record {
        few = omega (arith, added_few (listed l.out) _ l.current w.add.ensures);
        filled = λ chosen says.
            fill_leaves (listed l.out) chosen c.in-Some.rest.now l.at l.current _ (omega arith) w.add.ensures _ c.loop-at-test.true
            (sym w.if-chosen.false ∙ says l.at c.gap.result c.chosen.result (omega arith) (omega arith) c.chosen.ensures ∙ ap (chosen l.at) c.gap.ensures)
            ∙ l.invariant.filled chosen says;
      })
    ]

pub returns : goal.returns
returns g c = λ chosen says. let l = c.loop-at in
    let room = c.in-Some.ensures.cases in
    fill_end (listed l.out) chosen c.in-Some.rest.now l.at l.current _ (omega arith) c.add-2.ensures c.loop-at-test.false ∙ l.invariant.filled chosen says
