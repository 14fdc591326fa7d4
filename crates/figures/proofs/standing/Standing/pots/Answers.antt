use Rattle.std.proofs.Common.{◌≡◌, None, Ok, sum_by, sym, ap, ◌∙◌, rules, w64, to_z, of_z}
use Rattle.std.proofs.lemmas.Int.{to_z-of_z}
use Rattle.figures.specs.Figures.{resource_energy, resource_uplift, total_by}
use Rattle.figures.specs.Pots.{neutrality_pot, uplift_pot, unless_missing}
use Rattle.figures.proofs.Adding.{amounts, quantities}
use Rattle.figures.proofs.Exchange.{all_count, exchange}
use Rattle.figures.proofs.standing.Standing.pots.Goals as goal

energy : (c : goal.After-sum_energy) → to_z w64 (of_z w64 c.sum_energy.result) ≡ neutrality_pot c.args.self.now.places.now c.args.self.now.resources.now
energy c =
    let s = c.args.self.now in
    to_z-of_z w64 c.sum_energy.result (record { sfits = c.sum_energy.type_inv }) ∙ c.sum_energy.ensures.value ∙ ap (total_by (resource_energy s.places.now)) (all_count s.resources.now)

uplift : (c : goal.After-sum_energy) → c.sum_of-uplift.result ≡ uplift_pot c.args.self.now.places.now c.args.self.now.resources.now
uplift c = let s = c.args.self.now in c.sum_of-uplift.ensures.value ∙ ap (sum_by (resource_uplift s.places.now)) (all_count s.resources.now)

pub returns-clause-reply : goal.returns-clause-reply
returns-clause-reply c =
    let s = c.args.self.now in
    let none : c.missing_price.result ≡ None = search rules in
    (λ k. Ok (energy c k, uplift c k)) ∙ ap (λ o. unless_missing o (neutrality_pot s.places.now s.resources.now, uplift_pot s.places.now s.resources.now)) (sym none ∙ c.missing_price.ensures)

pub returns-clause-members : goal.returns-clause-members
returns-clause-members c =
    let s = c.args.self.now in
    record {
      energies = λ ids owners. exchange amounts (resource_energy s.places.now) ids s.resources.now owners ∙ sym (energy c);
      uplifts = λ ids owners. exchange quantities (resource_uplift s.places.now) ids s.resources.now owners ∙ sym (uplift c);
    }
