use Rattle.std.proofs.Common.{◌≡◌, Bool, ltb, rules, tests, arith, sym, ap, ◌∙◌}
use Rattle.std.specs.List as lists
use Rattle.std.proofs.lemmas.List.Folds.{length-prefix_len}
use Rattle.std.proofs.lemmas.List.Sums.{prefix_len-le-length}
use Rattle.std.proofs.lemmas.Iterator.{YieldsList-from_slice}
use Rattle.std.proofs.lemmas.Iterator.Consumers.{count_from_yields_List}
use Rattle.std.proofs.lemmas.Iterator.Search.{YieldsList-from_take_while}
use Rattle.table.proofs.Words.{inserted-is}
use Rattle.table.proofs.table.slots.place.Goals as goal

pub returns : goal.returns
returns g c =
    let key = g.E.Keyed.key in
    let item = c.args.item in
    let rows = c.args.rows.now in
    let p : g.row.E.Denot → Bool = λ x. ltb (key x) (key item) in
    let n : c.count.result ≡ lists.prefix_len p rows = count_from_yields_List c.take_while.result _ c.count.ensures.ran (YieldsList-from_take_while _ p (YieldsList-from_slice rows cc) c.take_while.ensures.closure c.take_while.ensures.done (λ x b q k. search (rules, tests))) ∙ length-prefix_len p rows in
    record { within = omega (arith, n, prefix_len-le-length p rows); splits = inserted-is key item rows ∙ ap (λ i. lists.insert rows i item) (sym n) }
