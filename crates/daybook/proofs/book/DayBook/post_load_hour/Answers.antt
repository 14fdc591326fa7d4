use Rattle.std.proofs.Common.{◌≡◌, ℤ, Ok, Result, refl, ap, ◌∙◌, lit<, rules, w64, to_z, of_z}
use Rattle.refusal.specs.declared.cause.Refusal.{Refusal}
use Rattle.hours.specs.Records.{load_hour_fields, load_hour_of, load_hour as made-hour}
use Rattle.daybook.specs.Calls.{post_load_hour, slot_from, load_hour_from, brings_hour}
use Rattle.daybook.specs.Changes.{Follows}
use Rattle.daybook.specs.Held.{Held}
use Rattle.daybook.specs.Laws.{SecondCounts}
use Rattle.daybook.specs.Readings.{read, behind}
use Rattle.daybook.specs.Records.{load_hour}
use Rattle.daybook.proofs.Again.{counts, load_twice}
use Rattle.daybook.proofs.Followed.{out_of_range, carried_out}
use Rattle.daybook.proofs.Taking.{small, first_out_lem, second_out, both_read, handed_two}
use Rattle.daybook.proofs.book.DayBook.post_load_hour.Goals as goal
use Rattle.daybook.proofs.book.DayBook.post_load_hour.Goals.{In_ok-slot}

the-slot : (c : In_ok-slot) → Ok (c.in_ok-slot.slot.id, c.in_ok-slot.slot.hour) ≡ read (slot_from c.args.resource c.args.hour)
the-slot c = c.in_ok-slot.ensures ∙ handed_two (λ y z. read (slot_from y z)) c.args.resource c.args.hour c.ranges.resource c.ranges.hour

module _ (k h a b : ℤ) (v w : Held) (reply : Result (Unit {0}) Refusal) (follows : Follows (post_load_hour k h a b) v w reply) where
  counted : (oa ob : ℤ) → SecondCounts (post_load_hour k h oa ob) (post_load_hour k h a b) v w reply
  counted oa ob = counts load_hour (post_load_hour k h oa ob) (post_load_hour k h a b) k h (load_hour_from oa ob) (load_hour_from a b) refl refl load_twice v w reply follows

pub returns-in_err-slot-clause-follows : goal.returns-in_err-slot-clause-follows
returns-in_err-slot-clause-follows c =
    let k = c.args.resource in let h = c.args.hour in let a = c.args.day_ahead in let b = c.args.meter in
    let out = first_out_lem (brings_hour load_hour) (slot_from k h) (load_hour_from a b) _ (c.in_err-slot.ensures ∙ handed_two (λ y z. read (slot_from y z)) k h c.ranges.resource c.ranges.hour) in
    out_of_range (post_load_hour k h a b) c.args.self.now _ c.from_residual.ensures.1 out

pub behind-requires : goal.behind-requires
behind-requires c = small 2 (load_hour_fields (to_z w64 (of_z w64 c.args.day_ahead)) (to_z w64 (of_z w64 c.args.meter))) (load_hour_of (to_z w64 (of_z w64 c.args.day_ahead)) (to_z w64 (of_z w64 c.args.meter))) _ c.of_load.ensures (lit< tt)

pub returns-in_err-record-clause-follows : goal.returns-in_err-record-clause-follows
returns-in_err-record-clause-follows c =
    let k = c.args.resource in let h = c.args.hour in let a = c.args.day_ahead in let b = c.args.meter in
    let was = c.in_err-record.ensures ∙ ap (behind 2) c.of_load.ensures ∙ handed_two (λ za zb. behind 2 (made-hour za zb)) a b c.ranges.day_ahead c.ranges.meter in
    let out = second_out (brings_hour load_hour) (slot_from k h) (load_hour_from a b) 2 refl _ (the-slot (goal.at.returns-in_err-record-clause-follows c).In_ok-slot) _ was in
    out_of_range (post_load_hour k h a b) c.args.self.now _ c.from_residual-in_err-record.ensures.1 out

pub returns : goal.returns
returns c =
    let k = c.args.resource in let h = c.args.hour in let a = c.args.day_ahead in let b = c.args.meter in
    let was = c.in_ok-record.ensures ∙ ap (behind 2) c.of_load.ensures ∙ handed_two (λ za zb. behind 2 (made-hour za zb)) a b c.ranges.day_ahead c.ranges.meter in
    let is = both_read (brings_hour load_hour) (slot_from k h) (load_hour_from a b) 2 refl _ (the-slot (goal.at.returns c).In_ok-slot) _ was in
    let f = carried_out (post_load_hour k h a b) c.args.self.now _ _ _ is (c.enter_hour.ensures.loads (λ unit b p. search rules)) in
    record { follows = f.0; law = f.1; again = counted k h a b _ _ _ f.0 }
