use Rattle.std.proofs.Common.{◌≡◌, ℤ, Ok, Result, refl, ap, ◌∙◌, lit<, w64, to_z, of_z}
use Rattle.refusal.specs.declared.cause.Refusal.{Refusal}
use Rattle.hours.specs.Records.{price_fields, price_made, price_of}
use Rattle.daybook.specs.Calls.{post_price, slot_from, price_from, brings_hour}
use Rattle.daybook.specs.Changes.{Follows}
use Rattle.daybook.specs.Held.{Held}
use Rattle.daybook.specs.Laws.{SecondCounts}
use Rattle.daybook.specs.Readings.{read, behind}
use Rattle.daybook.specs.Records.{price}
use Rattle.daybook.proofs.Again.{counts, price-twice}
use Rattle.daybook.proofs.Followed.{out_of_range, carried_out}
use Rattle.daybook.proofs.Taking.{small, first_out_lem, second_out, both_read, handed_two}
use Rattle.daybook.proofs.book.DayBook.post_price.Goals as goal
use Rattle.daybook.proofs.book.DayBook.post_price.Goals.{In_ok-slot}

the-slot : (c : In_ok-slot) → Ok (c.in_ok-slot.slot.id, c.in_ok-slot.slot.hour) ≡ read (slot_from c.args.place c.args.hour)
the-slot c = c.in_ok-slot.ensures ∙ handed_two (λ y z. read (slot_from y z)) c.args.place c.args.hour c.ranges.place c.ranges.hour

module _ (k h a b : ℤ) (v w : Held) (reply : Result (Unit {0}) Refusal) (follows : Follows (post_price k h a b) v w reply) where
  counted : (oa ob : ℤ) → SecondCounts (post_price k h oa ob) (post_price k h a b) v w reply
  counted oa ob = counts price (post_price k h oa ob) (post_price k h a b) k h (price_from oa ob) (price_from a b) refl refl price-twice v w reply follows

pub returns-in_err-slot-clause-follows : goal.returns-in_err-slot-clause-follows
returns-in_err-slot-clause-follows c =
    let k = c.args.place in let h = c.args.hour in let a = c.args.day_ahead in let b = c.args.real_time in
    let out = first_out_lem (brings_hour price) (slot_from k h) (price_from a b) _ (c.in_err-slot.ensures ∙ handed_two (λ y z. read (slot_from y z)) k h c.ranges.place c.ranges.hour) in
    out_of_range (post_price k h a b) c.args.self.now _ c.from_residual.ensures.1 out

pub behind-requires : goal.behind-requires
behind-requires c = small 2 (price_fields (to_z w64 (of_z w64 c.args.day_ahead)) (to_z w64 (of_z w64 c.args.real_time))) (price_made (to_z w64 (of_z w64 c.args.day_ahead)) (to_z w64 (of_z w64 c.args.real_time))) _ c.new.ensures (lit< tt)

pub returns-in_err-price-clause-follows : goal.returns-in_err-price-clause-follows
returns-in_err-price-clause-follows c =
    let k = c.args.place in let h = c.args.hour in let a = c.args.day_ahead in let b = c.args.real_time in
    let was = c.in_err-price.ensures ∙ ap (behind 2) c.new.ensures ∙ handed_two (λ za zb. behind 2 (price_of za zb)) a b c.ranges.day_ahead c.ranges.real_time in
    let out = second_out (brings_hour price) (slot_from k h) (price_from a b) 2 refl _ (the-slot (goal.at.returns-in_err-price-clause-follows c).In_ok-slot) _ was in
    out_of_range (post_price k h a b) c.args.self.now _ c.from_residual-in_err-price.ensures.1 out

pub returns : goal.returns
returns c =
    let k = c.args.place in let h = c.args.hour in let a = c.args.day_ahead in let b = c.args.real_time in
    let was = c.in_ok-price.ensures ∙ ap (behind 2) c.new.ensures ∙ handed_two (λ za zb. behind 2 (price_of za zb)) a b c.ranges.day_ahead c.ranges.real_time in
    let is = both_read (brings_hour price) (slot_from k h) (price_from a b) 2 refl _ (the-slot (goal.at.returns c).In_ok-slot) _ was in
    let f = carried_out (post_price k h a b) c.args.self.now _ _ _ is c.enter_price.ensures in
    record { follows = f.0; law = f.1; again = counted k h a b _ _ _ f.0 }
