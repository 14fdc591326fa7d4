use Rattle.std.proofs.Common.{arith}
use Rattle.sharing.specs.Tiers.{capped_fair}
use Rattle.sharing.proofs.capped.share_in_tier.Goals as goal

pub add_each-requires-clause-fits : goal.add_each-requires-clause-fits
add_each-requires-clause-fits g c =
    let levy = c.args.levy in
    let left = c.without.ensures in
    let own = c.bear-borne.ensures in
    let fair = rw (left.total, left.rows, own.reply) at c.share_due.ensures.law in
    let whole = capped_fair c.args.rate levy.total levy.rows.now (g.R.SharingRule.meaning c.args.below.now) fair in
    rw (own.after, c.share_due.ensures.after, left.total, left.rows, own.reply) (omega (arith, whole.adds_up, levy.due.total_in_range))
