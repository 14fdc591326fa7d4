use Rattle.std.proofs.Common.{is_some, refl, ap, ◌∙◌}
use Rattle.std.specs.Option.{option_map}
use Rattle.refusal.specs.declared.cause.Refusal.TheVariants.{NotRegistered, DraftOut}
use Rattle.refusal.specs.declared.kinds.Kind.TheVariants.{Place}
use Rattle.table.specs.Entries.{lookup, replaced}
use Rattle.table.specs.Tables.{entries}
use Rattle.figures.specs.Entries.{place_key}
use Rattle.daybook.specs.Changes.{with_price}
use Rattle.daybook.specs.Held.{held, with_places}
use Rattle.daybook.proofs.Acts.{accepted, found-is, post_free}
use Rattle.daybook.proofs.Updates.{put_back}
use Rattle.daybook.proofs.book.DayBook.enter_price.Goals as goal

pub returns : goal.returns
returns c =
    let b = c.args.self.now in
    let p = c.args.slot.id.number in
    let there = found-is (lookup place_key p (entries b.places)) c.in_ok-found.found _ c.in_ok-found.ensures in
    let free = post_free _ (option_map DraftOut b.out) (NotRegistered p Place) (ap is_some there) c.in_ok-no_draft_out.ensures in
    accepted _ _ _ free
    (c.keep_place.ensures
    ∙ ap (λ e. with_places (held b) (replaced place_key e (entries b.places))) (ap (λ d. record { id = c.in_ok-found.found.id; prices = d }) c.set.ensures)
    ∙ ap (with_places (held b)) (put_back place_key p (with_price c.args.slot.hour.number c.args.price) c.in_ok-found.found (entries b.places) there refl))
