use Rattle.std.proofs.Common.{◌≡◌, map, arith}
use Rattle.std.proofs.lemmas.Grind.{common_steps}
use Rattle.sharing.specs.ProRata.{pro_rata}
use Rattle.sharing.specs.Quotients.{pro_rata_up_to}
use Rattle.sharing.proofs.weights.pro_rata.Goals as goal

pub returns-clause-law : goal.returns-clause-law
returns-clause-law g c =
    let weights = map g.w c.args.levy.rows.now in
    let after : c.loop-i.shares ≡ pro_rata c.args.levy.total weights = grind (arith, common_steps) in
    rw after (pro_rata_up_to c.args.levy.total weights)
