use Rattle.std.proofs.Common.{◌≡◌, ℤ, Ok, Result, refl, ap, ◌∙◌, lit<, rules, w64, to_z, of_z}
use Rattle.refusal.specs.declared.cause.Refusal.{Refusal}
use Rattle.hours.specs.Records.{generator_hour_fields, generator_hour_of, generator_hour as made-hour}
use Rattle.daybook.specs.Calls.{post_generator_hour, slot_from, generator_hour_from, brings_hour}
use Rattle.daybook.specs.Changes.{Follows}
use Rattle.daybook.specs.Held.{Held}
use Rattle.daybook.specs.Laws.{SecondCounts}
use Rattle.daybook.specs.Readings.{read, behind}
use Rattle.daybook.specs.Records.{generator_hour}
use Rattle.daybook.proofs.Again.{counts, generator-twice}
use Rattle.daybook.proofs.Followed.{out_of_range, carried_out}
use Rattle.daybook.proofs.Taking.{small, first_out_lem, second_out, both_read, handed_two, handed_four}
use Rattle.daybook.proofs.book.DayBook.post_generator_hour.Goals as goal
use Rattle.daybook.proofs.book.DayBook.post_generator_hour.Goals.{In_ok-slot}

the-slot : (c : In_ok-slot) → Ok (c.in_ok-slot.slot.id, c.in_ok-slot.slot.hour) ≡ read (slot_from c.args.resource c.args.hour)
the-slot c = c.in_ok-slot.ensures ∙ handed_two (λ y z. read (slot_from y z)) c.args.resource c.args.hour c.ranges.resource c.ranges.hour

module _ (k h a b d e : ℤ) (v w : Held) (reply : Result (Unit {0}) Refusal) (follows : Follows (post_generator_hour k h a b d e) v w reply) where
  counted : (oa ob od oe : ℤ) → SecondCounts (post_generator_hour k h oa ob od oe) (post_generator_hour k h a b d e) v w reply
  counted oa ob od oe = counts generator_hour (post_generator_hour k h oa ob od oe) (post_generator_hour k h a b d e) k h (generator_hour_from oa ob od oe) (generator_hour_from a b d e) refl refl generator-twice v w reply follows

pub returns-in_err-slot-clause-follows : goal.returns-in_err-slot-clause-follows
returns-in_err-slot-clause-follows c =
    let k = c.args.resource in let h = c.args.hour in let a = c.args.day_ahead in let b = c.args.meter in let d = c.args.self_schedule in let e = c.args.commit in
    let out = first_out_lem (brings_hour generator_hour) (slot_from k h) (generator_hour_from a b d e) _ (c.in_err-slot.ensures ∙ handed_two (λ y z. read (slot_from y z)) k h c.ranges.resource c.ranges.hour) in
    out_of_range (post_generator_hour k h a b d e) c.args.self.now _ c.from_residual.ensures.1 out

pub behind-requires : goal.behind-requires
behind-requires c = small 2 (generator_hour_fields (to_z w64 (of_z w64 c.args.day_ahead)) (to_z w64 (of_z w64 c.args.meter)) (to_z w64 (of_z w64 c.args.self_schedule)) (to_z w64 (of_z w64 c.args.commit))) (generator_hour_of (to_z w64 (of_z w64 c.args.day_ahead)) (to_z w64 (of_z w64 c.args.meter)) (to_z w64 (of_z w64 c.args.self_schedule)) (to_z w64 (of_z w64 c.args.commit))) _ c.of_generator-posted.ensures (lit< tt)

pub returns-in_err-record-clause-follows : goal.returns-in_err-record-clause-follows
returns-in_err-record-clause-follows c =
    let k = c.args.resource in let h = c.args.hour in let a = c.args.day_ahead in let b = c.args.meter in let d = c.args.self_schedule in let e = c.args.commit in
    let was = c.in_err-record.ensures ∙ ap (behind 2) c.of_generator-posted.ensures ∙ handed_four (λ za zb zd ze. behind 2 (made-hour za zb zd ze)) a b d e c.ranges.day_ahead c.ranges.meter c.ranges.self_schedule c.ranges.commit in
    let out = second_out (brings_hour generator_hour) (slot_from k h) (generator_hour_from a b d e) 2 refl _ (the-slot (goal.at.returns-in_err-record-clause-follows c).In_ok-slot) _ was in
    out_of_range (post_generator_hour k h a b d e) c.args.self.now _ c.from_residual-in_err-record.ensures.1 out

pub returns : goal.returns
returns c =
    let k = c.args.resource in let h = c.args.hour in let a = c.args.day_ahead in let b = c.args.meter in let d = c.args.self_schedule in let e = c.args.commit in
    let was = c.in_ok-record.ensures ∙ ap (behind 2) c.of_generator-posted.ensures ∙ handed_four (λ za zb zd ze. behind 2 (made-hour za zb zd ze)) a b d e c.ranges.day_ahead c.ranges.meter c.ranges.self_schedule c.ranges.commit in
    let is = both_read (brings_hour generator_hour) (slot_from k h) (generator_hour_from a b d e) 2 refl _ (the-slot (goal.at.returns c).In_ok-slot) _ was in
    let f = carried_out (post_generator_hour k h a b d e) c.args.self.now _ _ _ is (c.enter_hour.ensures.generators (λ unit b p. search rules)) in
    record { follows = f.0; law = f.1; again = counted k h a b d e _ _ _ f.0 }
