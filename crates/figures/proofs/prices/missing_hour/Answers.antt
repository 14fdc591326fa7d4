use Rattle.std.proofs.Common.{◌≡◌, ◌+◌, sym, ap, ◌∙◌, rules, tests, arith}
use Rattle.std.specs.Option.{option_map}
use Rattle.std.specs.List.{zip}
use Rattle.std.proofs.lemmas.Iterator.{YieldsList-from_slice, YieldsList-from_zip}
use Rattle.std.proofs.lemmas.Iterator.Adapters.{position_from-zero}
use Rattle.std.proofs.lemmas.Iterator.Consumers.{YieldsList-at}
use Rattle.std.proofs.lemmas.Iterator.Search.{position_from_yields_List}
use Rattle.figures.proofs.First.{bare, first_bare}
use Rattle.figures.proofs.prices.missing_hour.Goals as goal

pub returns : goal.returns
returns c =
    let told : c.map.result ≡ option_map (λ i. i + 1) c.position.result = search rules in
    let found = position_from_yields_List bare c.position.new.self _ c.position.result c.position.ensures.ran (YieldsList-from_zip (YieldsList-at c.zip.ensures.first (YieldsList-from_slice c.args.slots.now cc)) (YieldsList-from_slice c.args.prices.now cc)) (λ x b q k. search (rules, tests)) in
    told ∙ ap (option_map (λ i. i + 1)) (found ∙ position_from-zero bare (zip c.args.slots.now c.args.prices.now)) ∙ sym (first_bare c.args.slots.now c.args.prices.now (omega arith) (omega arith))
