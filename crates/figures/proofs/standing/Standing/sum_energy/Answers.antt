use Rattle.std.proofs.Common.{nat_abs, ap, ◌∙◌, rules, tests, arith, w64}
use Rattle.std.proofs.lemmas.Int.{to_z-of_z}
use Rattle.std.proofs.lemmas.Iterator.{YieldsList-from_slice}
use Rattle.std.proofs.lemmas.Iterator.Consumers.{YieldsList-from_filter}
use Rattle.figures.specs.Figures.{resource_energy}
use Rattle.figures.specs.Standing.{counts}
use Rattle.figures.proofs.Adding.{fold_held, length_kept}
use Rattle.figures.proofs.standing.Standing.sum_energy.Goals as goal

pub returns : goal.returns
returns c =
    let s = c.args.self.now in
    let few = length_kept (counts c.args.member) s.resources.now in
    let sum = fold_held _ (resource_energy s.places.now) 1440000000 c.fold.result c.fold.ensures.ran (YieldsList-from_filter _ (counts c.args.member) (YieldsList-from_slice s.resources.now cc) c.filter.ensures.closure (λ x r q k. search (rules, tests))) (omega arith) (λ a x b q k. search rules) (omega (arith, s.few)) in
    let back = to_z-of_z w64 c.fold.result (record { sfits = c.fold.type_inv }) in
    record { value = back ∙ sum.0; bound = omega (arith, ap nat_abs back) }
