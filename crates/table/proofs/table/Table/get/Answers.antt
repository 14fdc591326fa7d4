use Rattle.std.proofs.Common.{eqb, rules, tests, sym, ap, ◌∙◌}
use Rattle.std.proofs.lemmas.Iterator.{YieldsList-from_slice}
use Rattle.std.proofs.lemmas.Iterator.Search.{find_from_yields_List}
use Rattle.table.specs.Entries.{lookup}
use Rattle.table.proofs.Words.{lookup-is}
use Rattle.table.proofs.table.Table.get.Goals as goal

pub returns : goal.returns
returns g c =
    let key = g.E.Keyed.key in
    let k = g.E.Key.Rank.rank c.args.wanted in
    let xs = c.all.result.now in
    c.copied.ensures
    ∙ find_from_yields_List (λ x. eqb (key x) k) _ _ c.find.result c.find.ensures.ran (YieldsList-from_slice xs cc) (λ x b q h. search (rules, tests))
    ∙ sym (lookup-is key k xs) ∙ ap (lookup key k) c.all.ensures
