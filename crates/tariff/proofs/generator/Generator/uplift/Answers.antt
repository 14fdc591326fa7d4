use Rattle.std.proofs.Common.{◌≡◌, ◌-ℤ◌, sym, ap, ◌∙◌, subst, w64, to_z, of_z}
use Rattle.std.proofs.lemmas.Int.{to_z-of_z}
use Rattle.money.specs.Amounts.{or_zero}
use Rattle.money.specs.Rounding.{rounded}
use Rattle.tariff.specs.Costs.{cost_of, bid_cost, revenues, revenue, Uplifted}
use Rattle.tariff.proofs.Uplifts.{uplifted}
use Rattle.tariff.proofs.generator.Generator.uplift.Goals as goal

pub returns : goal.returns
returns c =
    let g = c.args.self.now in
    let slots = c.args.day.now.slots in
    let prices = c.args.prices.now.slots in
    let cost : to_z w64 (of_z w64 c.cost_of-cost.result) ≡ bid_cost g slots =
    to_z-of_z w64 _ (record { sfits = c.cost_of-cost.type_inv }) ∙ c.cost_of-cost.ensures.value ∙ ap (λ ks. cost_of g ks slots) c.kinds-kinds.ensures in
    let earned : to_z w64 (of_z w64 c.revenues-earned.result) ≡ revenue g slots prices =
    to_z-of_z w64 _ (record { sfits = c.revenues-earned.type_inv }) ∙ c.revenues-earned.ensures.value ∙ ap (λ ks. revenues g ks slots prices) c.kinds-kinds.ensures in
    let value = c.paid.ensures.value ∙ (λ i. or_zero (rounded (cost i -ℤ earned i))) in
    record {
      value = value;
      law = subst (Uplifted (bid_cost g slots) (revenue g slots prices)) (sym value) (uplifted (bid_cost g slots) (revenue g slots prices));
      bound = c.paid.ensures.bound;
    }
