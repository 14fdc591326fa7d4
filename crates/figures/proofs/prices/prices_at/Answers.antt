use Rattle.std.proofs.Common.{◌≡◌, ◌==◌, rules, tests}
use Rattle.std.proofs.lemmas.Iterator.{YieldsList-from_slice}
use Rattle.std.proofs.lemmas.Iterator.Search.{find_from_yields_List}
use Rattle.std.specs.List.{find}
use Rattle.std.specs.Option.{option_map}
use Rattle.std.proofs.lemmas.Grind.{common_steps}
use Rattle.std.proofs.Common.{arith}
use Rattle.figures.specs.declared.standing.Place.{Place}
use Rattle.figures.proofs.First.{first_found}
use Rattle.figures.proofs.prices.prices_at.Goals as goal

pub returns : goal.returns
returns c =
    let found : option_map (λ p. p.now) c.find.result ≡ find (λ (p : Place). p.id == c.args.id) c.args.places.now = find_from_yields_List (λ (p : Place). p.id == c.args.id) _ _ c.find.result c.find.ensures.ran (YieldsList-from_slice c.args.places.now cc) (λ x b q k. search (rules, tests)) in
    let first = first_found (λ (p : Place). p.id == c.args.id) (λ p. p.prices.slots) c.args.places.now in
    grind (arith, common_steps)
