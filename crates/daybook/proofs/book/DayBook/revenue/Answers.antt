use Rattle.std.proofs.Common.{◌≡◌, Ok, Err, ap, ◌∙◌, w64}
use Rattle.std.proofs.lemmas.Result.{err_from_is_err_and}
use Rattle.std.proofs.lemmas.Int.{to_z-of_z}
use Rattle.tariff.specs.Costs.{revenue}
use Rattle.figures.specs.Priced.{priced_day}
use Rattle.figures.specs.Prices.{prices_at}
use Rattle.daybook.specs.Held.{held}
use Rattle.daybook.specs.Questions.{generator_asked}
use Rattle.daybook.proofs.Priced.{figure-out, figure_in}
use Rattle.daybook.proofs.book.DayBook.revenue.Goals as goal
use Rattle.daybook.proofs.book.DayBook.revenue.Goals.{In_ok-generator}

the-generator : (c : In_ok-generator) → Ok (c.in_ok-generator.generator, c.in_ok-generator.resource) ≡ generator_asked (held c.args.self.now) c.args.generator
the-generator c = c.in_ok-generator.ensures ∙ ap (generator_asked (held c.args.self.now)) (to_z-of_z w64 c.args.generator c.ranges.generator)

pub returns-in_err-prices : goal.returns-in_err-prices
returns-in_err-prices c =
    let v = held c.args.self.now in
    let y = err_from_is_err_and c.from_residual-in_err-prices.result c.from_residual-in_err-prices.ensures.1 in
    let out = c.in_err-prices.ensures ∙ ap (λ ps. priced_day ps c.in_ok-generator.resource) c.all.ensures in
    y.1 ∙ ap Err y.2 ∙ figure-out v c.args.generator (λ x. revenue x.0 x.1.hours.slots (prices_at v.places x.1.place)) _ (the-generator (goal.at.returns-in_err-prices c).In_ok-generator) _ out

pub returns : goal.returns
returns c =
    let v = held c.args.self.now in
    let g = c.in_ok-generator.generator in
    let r = c.in_ok-generator.resource in
    let was = c.in_ok-prices.ensures ∙ ap (λ ps. priced_day ps r) c.all.ensures in
    let k = figure_in v c.args.generator (λ x. revenue x.0 x.1.hours.slots (prices_at v.places x.1.place)) (g, r) (the-generator (goal.at.returns c).In_ok-generator) c.in_ok-prices.prices was in
    let back = to_z-of_z w64 c.revenue.result (record { sfits = c.revenue.type_inv }) in
    ap Ok (back ∙ c.revenue.ensures.value ∙ ap (revenue g r.hours.slots) k.0) ∙ k.1
