use Rattle.std.proofs.Common.{◌≡◌, ◌≤◌, nat_abs, sym, subst, w64, to_z, of_z, rules}
use Rattle.std.proofs.lemmas.Int.{to_z-of_z}
use Rattle.tariff.specs.Costs.{hour_revenue}
use Rattle.tariff.proofs.Sizes.{revenue-size}
use Rattle.tariff.proofs.generator.Generator.hour_revenue.Goals as goal

pub returns-in-SelfCommitted-clause-bound : goal.returns-in-SelfCommitted-clause-bound
returns-in-SelfCommitted-clause-bound c =
    let e : to_z w64 (of_z w64 c.cost.result) ≡ hour_revenue c.args.self.now c.args.kind c.args.hour.now c.args.price.now = search (rules, to_z-of_z) in
    subst (λ z. nat_abs z ≤ 20000000000) (sym e) (revenue-size c.args.self.now c.args.kind c.args.hour.now c.args.price.now)

pub returns-in-Committed-clause-bound : goal.returns-in-Committed-clause-bound
returns-in-Committed-clause-bound c =
    let e : to_z w64 (of_z w64 c.product.result) ≡ hour_revenue c.args.self.now c.args.kind c.args.hour.now c.args.price.now = search (rules, to_z-of_z) in
    subst (λ z. nat_abs z ≤ 20000000000) (sym e) (revenue-size c.args.self.now c.args.kind c.args.hour.now c.args.price.now)
