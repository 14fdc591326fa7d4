use Rattle.std.proofs.Common.{eqb, rules, tests, ap, ◌∙◌}
use Rattle.std.proofs.lemmas.Iterator.{YieldsList-from_slice}
use Rattle.std.proofs.lemmas.Iterator.Search.{position_from_yields_List}
use Rattle.table.specs.Entries.{position}
use Rattle.table.proofs.Words.{position-is}
use Rattle.table.proofs.table.Table.find.Goals as goal

pub returns : goal.returns
returns g c =
    let key = g.E.Keyed.key in
    let k = g.E.Key.Rank.rank c.args.wanted in
    let xs = c.all.result.now in
    position_from_yields_List (λ x. eqb (key x) k) _ _ c.position.result c.position.ensures.ran (YieldsList-from_slice xs cc) (λ x b q h. search (rules, tests))
    ∙ position-is key k xs ∙ ap (position key k) c.all.ensures
