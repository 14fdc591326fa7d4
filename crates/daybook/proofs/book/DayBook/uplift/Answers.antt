use Rattle.std.proofs.Common.{◌≡◌, Ok, Err, sym, ap, ◌∙◌, subst, w64}
use Rattle.std.proofs.lemmas.Result.{err_from_is_err_and, IfOk-from_err}
use Rattle.std.proofs.lemmas.Int.{to_z-of_z}
use Rattle.tariff.specs.Costs.{bid_cost, revenue, uplift, Uplifted}
use Rattle.figures.specs.Priced.{priced_day}
use Rattle.figures.specs.Prices.{prices_at}
use Rattle.daybook.specs.Held.{held}
use Rattle.daybook.specs.Questions.{generator_asked}
use Rattle.daybook.proofs.Priced.{figure-out, figure_in, one-generator}
use Rattle.daybook.proofs.book.DayBook.uplift.Goals as goal
use Rattle.daybook.proofs.book.DayBook.uplift.Goals.{In_ok-generator}

the-generator : (c : In_ok-generator) → Ok (c.in_ok-generator.generator, c.in_ok-generator.resource) ≡ generator_asked (held c.args.self.now) c.args.generator
the-generator c = c.in_ok-generator.ensures ∙ ap (generator_asked (held c.args.self.now)) (to_z-of_z w64 c.args.generator c.ranges.generator)

pub returns-in_err-prices : goal.returns-in_err-prices
returns-in_err-prices c =
    let v = held c.args.self.now in
    let y = err_from_is_err_and c.from_residual-in_err-prices.result c.from_residual-in_err-prices.ensures.1 in
    let out = c.in_err-prices.ensures ∙ ap (λ ps. priced_day ps c.in_ok-generator.resource) c.all.ensures in
    record {
      value = y.1 ∙ ap Err y.2 ∙ figure-out v c.args.generator (λ x. uplift x.0 x.1.hours.slots (prices_at v.places x.1.place)) _ (the-generator (goal.at.returns-in_err-prices c).In_ok-generator) _ out;
      law = IfOk-from_err c.from_residual-in_err-prices.result _ c.from_residual-in_err-prices.ensures.0;
    }

pub returns : goal.returns
returns c =
    let v = held c.args.self.now in
    let g = c.in_ok-generator.generator in
    let r = c.in_ok-generator.resource in
    let is = the-generator (goal.at.returns c).In_ok-generator in
    let was = c.in_ok-prices.ensures ∙ ap (λ ps. priced_day ps r) c.all.ensures in
    let k = figure_in v c.args.generator (λ x. uplift x.0 x.1.hours.slots (prices_at v.places x.1.place)) (g, r) is c.in_ok-prices.prices was in
    record {
      value = ap Ok (c.uplift.ensures.value ∙ ap (uplift g r.hours.slots) k.0) ∙ k.1;
      law = λ g' r' e.
          let one = one-generator v c.args.generator (g, r) is g' r' e in
          subst (λ m. Uplifted (bid_cost m r'.hours.slots) (revenue m r'.hours.slots (prices_at v.places r'.place)) c.uplift.result) (sym one.0)
          (subst (λ x. Uplifted (bid_cost g x.hours.slots) (revenue g x.hours.slots (prices_at v.places x.place)) c.uplift.result) (sym one.1)
          (subst (λ ps. Uplifted (bid_cost g r.hours.slots) (revenue g r.hours.slots ps) c.uplift.result) k.0 c.uplift.ensures.law));
    }
