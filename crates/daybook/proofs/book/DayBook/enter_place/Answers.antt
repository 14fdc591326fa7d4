use Rattle.std.proofs.Common.{◌≡◌, ◌≤◌, true, sym, ap, ◌∙◌, subst}
use Rattle.table.specs.Tables.{entries, room}
use Rattle.figures.specs.Entries.{place_key, ids_of_places}
use Rattle.figures.specs.Named.{all_placed}
use Rattle.daybook.specs.Numbers.{every, all_ids, has_whole_prices}
use Rattle.daybook.specs.Calls.{brings}
use Rattle.daybook.specs.Held.{held}
use Rattle.daybook.specs.Records.{place}
use Rattle.daybook.proofs.Acts.{refused}
use Rattle.daybook.proofs.Keeping.{named_after, ids_after, every-after}
use Rattle.daybook.proofs.book.DayBook.enter_place.Goals as goal

pub returns-in_err-may_add : goal.returns-in_err-may_add
returns-in_err-may_add c = refused (brings (place c.args.id.number)) (held c.args.self.now) _ c.from_residual.ensures.1 c.in_err-may_add.ensures

pub invariant_of-self-clause-placed : goal.invariant_of-self-clause-placed
invariant_of-self-clause-placed c =
    let b = c.args.self.now in
    ap (λ xs. all_placed (ids_of_places xs) (entries b.resources)) c.insert.ensures.after
    ∙ named_after place_key c.new.result (entries b.places) (room b.places) (λ r. r.place) (entries b.resources) b.placed

pub invariant_of-self-clause-place_ids : goal.invariant_of-self-clause-place_ids
invariant_of-self-clause-place_ids c =
    let b = c.args.self.now in
    let one : 1 ≤ place_key c.new.result = subst (λ p. 1 ≤ place_key p) (sym c.new.ensures) c.args.id.bounds in
    ap (λ xs. all_ids (ids_of_places xs)) c.insert.ensures.after ∙ ids_after place_key c.new.result (entries b.places) (room b.places) one b.place_ids

pub invariant_of-self-clause-prices_whole : goal.invariant_of-self-clause-prices_whole
invariant_of-self-clause-prices_whole c =
    let b = c.args.self.now in
    let whole : has_whole_prices c.new.result ≡ true = ap has_whole_prices c.new.ensures in
    ap (every has_whole_prices) c.insert.ensures.after ∙ every-after place_key has_whole_prices c.new.result whole (entries b.places) (room b.places) b.prices_whole
