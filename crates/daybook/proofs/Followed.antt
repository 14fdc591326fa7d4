-- A call whose numbers are read, and one that has a number out of range.
use Rattle.std.proofs.Common.{◌≡◌, Ok, Err, Result, ap, ◌∙◌, IsErrAnd}
use Rattle.std.proofs.lemmas.Result.{err_from_is_err_and}
use Rattle.refusal.specs.declared.cause.Refusal.{Refusal}
use Rattle.daybook.specs.declared.book.DayBook.{DayBook}
use Rattle.daybook.specs.Calls.{Call, Act, asked}
use Rattle.daybook.specs.Changes.{replied, after_if, Answers, Follows}
use Rattle.daybook.specs.Due.{due_if}
use Rattle.daybook.specs.Held.{Held, held}
use Rattle.daybook.specs.Laws.{Recorded}
use Rattle.daybook.proofs.Lawful.{recorded}

module _ (c : Call) (b : DayBook) where
  -- a `?` that hands on the refusal of a number
  pub out_of_range : {e : Refusal} (r : Result (Unit {0}) Refusal) → IsErrAnd r (λ y. y ≡ e) → Err e ≡ asked c → Follows c (held b) (held b) r
  out_of_range r told out =
      let y = err_from_is_err_and r told in
      record { reply = y.1 ∙ ap Err y.2 ∙ ap (λ x. replied (due_if (held b) x)) out; holds = ap (after_if (held b)) out }

  pub carried_out : (a : Act) (w : Held) (r : Result (Unit {0}) Refusal) → Ok a ≡ asked c → Answers a (held b) w r → Follows c (held b) w r × Recorded c (held b) w r
  carried_out a w r is told =
      let f : Follows c (held b) w r = record { reply = told.reply ∙ ap (λ x. replied (due_if (held b) x)) is; holds = told.holds ∙ ap (after_if (held b)) is } in
      (f, recorded c (held b) w r f b.prices_whole b.hours_whole)
