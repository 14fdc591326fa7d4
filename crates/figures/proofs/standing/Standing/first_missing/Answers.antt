use Rattle.std.proofs.Common.{rules, tests}
use Rattle.std.proofs.lemmas.Iterator.{YieldsList-from_slice}
use Rattle.std.proofs.lemmas.Iterator.Consumers.{YieldsList-from_filter}
use Rattle.figures.specs.Prices.{resource_missing}
use Rattle.figures.specs.Standing.{counts}
use Rattle.figures.proofs.First.{first_from_find_map}
use Rattle.figures.proofs.standing.Standing.first_missing.Goals as goal

pub returns : goal.returns
returns c = first_from_find_map _ (resource_missing c.args.self.now.places.now) _ (λ x r q k. search rules) c.find_map.result c.find_map.ensures.runs (YieldsList-from_filter _ (counts c.args.member) (YieldsList-from_slice c.args.self.now.resources.now cc) c.filter.ensures.closure (λ x r q k. search (rules, tests)))
