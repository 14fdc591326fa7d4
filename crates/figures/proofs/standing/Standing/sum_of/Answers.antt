use Rattle.std.proofs.Common.{rules}
use Rattle.std.proofs.lemmas.Iterator.{YieldsList-from_slice}
use Rattle.std.proofs.lemmas.Iterator.Adapters.{at_most_from_Filter, at_most_from_yields_List}
use Rattle.figures.proofs.Adding.{sum_small}
use Rattle.figures.proofs.standing.Standing.sum_of.Goals as goal

pub returns-clause-bound : goal.returns-clause-bound
returns-clause-bound g c =
    let s = c.args.self.now in
    sum_small _ _ c.sum.result c.sum.ensures.ran (at_most_from_Filter _ (at_most_from_yields_List (YieldsList-from_slice s.resources.now cc) s.few)) c.map.ensures.closure (λ x r q k. search rules)
