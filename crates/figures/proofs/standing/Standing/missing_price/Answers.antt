use Rattle.std.proofs.Common.{ap, ◌∙◌}
use Rattle.figures.specs.Prices.{missing}
use Rattle.figures.proofs.Exchange.{all_count}
use Rattle.figures.proofs.standing.Standing.missing_price.Goals as goal

pub returns : goal.returns
returns c = c.first_missing.ensures ∙ ap (missing c.args.self.now.places.now) (all_count c.args.self.now.resources.now)
