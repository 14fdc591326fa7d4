use Rattle.std.proofs.Common.{◌∙◌, arith, rules, tests}
use Rattle.std.proofs.lemmas.Iterator.Search.{any_from_yields_List}
use Rattle.tariff.proofs.Hours.{numbered, own_hour, self_in_any}
use Rattle.tariff.proofs.cost.account.self_in.Goals as goal

pub returns : goal.returns
returns c =
    let ks = c.args.kinds.now in
    let chain = numbered c.zip.result 1 ks (search rules) (search rules) (omega arith) in
    any_from_yields_List (own_hour c.args.run) c.any.new.self _ c.any.result c.any.ensures.ran chain (λ x b q k. search (rules, tests))
    ∙ self_in_any c.args.run 1 ks
