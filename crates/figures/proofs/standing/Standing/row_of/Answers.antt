use Rattle.std.proofs.Common.{arith}
use Rattle.figures.proofs.Together.{demand_within, deviation_within, rows_of_all}
use Rattle.figures.proofs.standing.Standing.row_of.Goals as goal

pub overflow_cast-result : goal.overflow_cast-result
overflow_cast-result c = let s = c.args.self.now in omega (arith, demand_within s.resources.now s.few c.args.member)

pub overflow_cast-result-2 : goal.overflow_cast-result-2
overflow_cast-result-2 c = let s = c.args.self.now in omega (arith, deviation_within s.resources.now s.few c.args.member)

pub returns-clause-together : goal.returns-clause-together
returns-clause-together c = rows_of_all c.args.self.now.resources.now c.args.self.now.few

pub returns-clause-bound : goal.returns-clause-bound
returns-clause-bound c =
    let s = c.args.self.now in (
      omega (arith, demand_within s.resources.now s.few c.args.member),
      omega (arith, deviation_within s.resources.now s.few c.args.member),
    )
