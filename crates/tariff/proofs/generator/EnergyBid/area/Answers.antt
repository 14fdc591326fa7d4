use Rattle.std.proofs.Common.{◌*◌, ◌≤◌, nat_abs, sym, subst, arith, w64, to_z, of_z, rules}
use Rattle.std.proofs.lemmas.Int.{to_z-of_z}
use Rattle.tariff.specs.Bids.{Priced}
use Rattle.tariff.proofs.Areas.{priced, parts-size, Added, added}
use Rattle.tariff.proofs.generator.EnergyBid.area.Goals as goal

sum : (c : goal.After-cost-third) → Added c.args.self.now c.args.from c.args.to (to_z w64 (of_z w64 c.cost-first.result)) (to_z w64 (of_z w64 c.cost-second.result)) (to_z w64 (of_z w64 c.cost-third.result))
sum c = added c.args.self.now c.args.from c.args.to _ _ _ (omega arith) (search (rules, to_z-of_z)) (search (rules, to_z-of_z)) (search (rules, to_z-of_z))

pub overflow_add-result : goal.overflow_add-result
overflow_add-result c = (sum c).two_fit

pub overflow_add-result-2 : goal.overflow_add-result-2
overflow_add-result-2 c = (sum c).all_fit

pub returns : goal.returns
returns c =
    let b = c.args.self.now in
    let e = (sum c).is in
    record {
      value = e;
      law = subst (Priced b c.args.from c.args.to) (sym e) (priced b c.args.from c.args.to);
      bound = subst (λ z. nat_abs z ≤ c.args.to * 200000) (sym e) (parts-size b c.args.from c.args.to).all;
    }
