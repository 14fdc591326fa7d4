use Rattle.std.proofs.Common.{ℤ, Result, refl, ◌∙◌}
use Rattle.refusal.specs.declared.cause.Refusal.{Refusal}
use Rattle.daybook.specs.Calls.{strike, post_generator_hour, post_load_hour, slot_from, generator_hour_from, load_hour_from, takes}
use Rattle.daybook.specs.Changes.{Follows}
use Rattle.daybook.specs.Held.{Held}
use Rattle.daybook.specs.Laws.{AsIfNever}
use Rattle.daybook.specs.Readings.{read}
use Rattle.daybook.specs.Records.{generator_hour, load_hour}
use Rattle.daybook.proofs.Again.{unposted}
use Rattle.daybook.proofs.Followed.{out_of_range, carried_out}
use Rattle.daybook.proofs.Taking.{into-out, read-into, handed_two}
use Rattle.daybook.proofs.book.DayBook.strike.Goals as goal

struck-again : (r h : ℤ) (before next : Held) (reply : Result (Unit {0}) Refusal) → Follows (strike r h) before next reply → AsIfNever r h before next reply
struck-again r h before next reply f = record {
  generators_hour = λ da meter own commit. unposted generator_hour (post_generator_hour r h da meter own commit) r h (generator_hour_from da meter own commit) refl (λ _ _ _ _. refl) before next reply f;
  loads_hour = λ da meter. unposted load_hour (post_load_hour r h da meter) r h (load_hour_from da meter) refl (λ _ _ _ _. refl) before next reply f;
}

pub returns-in_err-slot-clause-follows : goal.returns-in_err-slot-clause-follows
returns-in_err-slot-clause-follows c =
    let r = c.args.resource in let h = c.args.hour in
    let out = into-out (λ x. takes x.0.number x.1) (slot_from r h) _ (c.in_err-slot.ensures ∙ handed_two (λ y z. read (slot_from y z)) r h c.ranges.resource c.ranges.hour) in
    out_of_range (strike r h) c.args.self.now _ c.from_residual.ensures.1 out

pub returns : goal.returns
returns c =
    let r = c.args.resource in let h = c.args.hour in
    let is = read-into (λ x. takes x.0.number x.1) (slot_from r h) _ (c.in_ok-slot.ensures ∙ handed_two (λ y z. read (slot_from y z)) r h c.ranges.resource c.ranges.hour) in
    let f = carried_out (strike r h) c.args.self.now _ _ _ is c.take_hour.ensures in
    record { follows = f.0; law = f.1; never = struck-again r h _ _ _ f.0 }
