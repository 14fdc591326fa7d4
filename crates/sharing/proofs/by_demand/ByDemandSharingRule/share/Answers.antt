use Rattle.std.proofs.Common.{◌≡◌, ℕ, List, ◌++◌, nat_abs, rules}
use Rattle.sharing.specs.Rows.{demands}
use Rattle.sharing.specs.ProRata.{UpTo}
use Rattle.sharing.specs.Rules.{by_demand}
use Rattle.sharing.specs.Demanded.{by_demand_up_to}
use Rattle.sharing.proofs.by_demand.ByDemandSharingRule.share.Goals as goal

pub returns-clause-law : goal.returns-clause-law
returns-clause-law c =
    let total = nat_abs c.args.total in
    let rows = c.args.rows.now in
    let after : c.by_demand.new.shares ≡ by_demand total rows = search rules in
    let law : (rest : List ℕ) → UpTo total (demands rows) (c.by_demand.new.shares ++ rest) = λ rest. rw after (by_demand_up_to total rows rest) in
    search (rules, law)
