use Rattle.figures.specs.Figures.{resource_demand, resource_deviation}
use Rattle.figures.proofs.standing.Standing.row_of.Given as goal

abbrev pub ghost-sum_of : goal.ghost-sum_of
ghost-sum_of a = resource_demand

abbrev pub ghost-sum_of-2 : goal.ghost-sum_of-2
ghost-sum_of-2 a = resource_deviation
