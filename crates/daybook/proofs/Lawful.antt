-- What a call's answer and effect tell of the records that stand.
use Rattle.std.proofs.Common.{◌≡◌, true, Some, None, Ok, Err, Result, sym, refl, ap, ◌∙◌, subst}
use Rattle.refusal.specs.declared.cause.Refusal.{Refusal}
use Rattle.daybook.specs.Calls.{Call, Act, asked}
use Rattle.daybook.specs.Changes.{unless, done, after_if, Follows}
use Rattle.daybook.specs.Due.{due_to, due_if, due}
use Rattle.daybook.specs.Held.{Held}
use Rattle.daybook.specs.Laws.{Acted, Recorded}
use Rattle.daybook.specs.Numbers.{every, has_whole_prices, has_whole_hours}
use Rattle.daybook.proofs.Acts.{due-from, free-from}
use Rattle.daybook.proofs.Standing.{acted}

-- a call that is refused, by its numbers or by the book
refused-stays : (v : Held) (x : Result Act Refusal) (e : Refusal) → due_if v x ≡ Some e → after_if v x ≡ v
refused-stays v (Ok a) e h = ap (λ o. unless o (done a v) v) h
refused-stays v (Err d) e h = refl

module _ (c : Call) (v w : Held) (r : Result (Unit {0}) Refusal) (follows : Follows c v w r) where
  pub nothing_was_due : r ≡ Ok tt → due v c ≡ None
  nothing_was_due ok = free-from (due v c) (sym ok ∙ follows.reply)

  pub recorded : every has_whole_prices v.places ≡ true → every has_whole_hours v.resources ≡ true → Recorded c v w r
  recorded prices hours = record {
    refused_changes_nothing = λ e was. follows.holds ∙ refused-stays v (asked c) e (due-from (due v c) e (sym was ∙ follows.reply));
    done_as_asked = λ a ok is.
        let none : due_to v a ≡ None = ap (due_if v) (sym is) ∙ nothing_was_due ok in
        let next : w ≡ done a v = follows.holds ∙ ap (after_if v) is ∙ ap (λ o. unless o (done a v) v) none in
        subst (Acted a v) (sym next) (acted v prices hours a none);
  }
