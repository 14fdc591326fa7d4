use Rattle.std.proofs.Common.{pos, rules}
use Rattle.std.proofs.lemmas.Iterator.{YieldsList-from_slice, YieldsList-from_zip, YieldsList-from_map}
use Rattle.std.proofs.lemmas.Iterator.Consumers.{fold_from_yields_List, YieldsList-at}
use Rattle.money.proofs.Sums.{held}
use Rattle.tariff.proofs.Sums.{pair_cost, costs_is}
use Rattle.tariff.proofs.generator.Generator.costs.Goals as goal

pub returns : goal.returns
returns c =
    let g = c.args.self.now in
    let ks = c.args.kinds.now in
    let slots = c.args.slots.now in
    let pairs = YieldsList-from_zip {s = c.zip.result} (YieldsList-from_slice ks (search rules)) (YieldsList-from_slice slots (search rules)) in
    let all = costs_is g ks slots c.told-kinds c.told-slots c.fold.result (record { sfits = c.fold.type_inv }) (fold_from_yields_List _ held (pos 0) c.fold.result c.fold.ensures.ran
    (YieldsList-from_map {s = c.map.result} _ (pair_cost g) (YieldsList-at c.map.ensures.source pairs) c.map.ensures.closure (λ x r q k. search rules))
    (λ a x b q k. search rules)) in
    record { value = all.0; bound = all.1 }
