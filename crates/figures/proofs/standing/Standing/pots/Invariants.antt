use Rattle.figures.specs.Figures.{resource_uplift}
use Rattle.figures.specs.Standing.{places_in}
use Rattle.figures.proofs.standing.Standing.pots.Given as goal

abbrev pub ghost-sum_of : goal.ghost-sum_of
ghost-sum_of a = resource_uplift (places_in a.self.now)
