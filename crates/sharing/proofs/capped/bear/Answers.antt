use Rattle.std.proofs.Common.{◌<◌, ◌^◌, sum, arith, rules}
use Rattle.std.proofs.iter.runs.Made.{chains}
use Rattle.sharing.specs.Tiers.{own_within}
use Rattle.sharing.proofs.capped.bear.Goals as goal

pub sum-requires-clause-fits : goal.sum-requires-clause-fits
sum-requires-clause-fits c =
    let levy = c.args.levy in
    let within = own_within c.args.rate levy.total levy.rows.now in
    let fits : sum c.iter.result.rest.now < 2 ^ 64 =
    rw (c.iter.ensures.rest, c.hold_to_caps.ensures, c.pro_rata.ensures.after) (omega (arith, levy.due.total_in_range)) in
    search (rules, chains)
