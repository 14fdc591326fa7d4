-- What an act answers, by what its tests told.
use Rattle.std.proofs.Common.{◌≡◌, ℕ, Bool, true, cond, [], ◌∷◌, is_some, Some, None, Ok, Err, Option, sym, refl, ap, ◌∙◌, arith, IsErrAnd, Result}
use Rattle.std.proofs.lemmas.Result.{err_from_is_err_and}
use Rattle.std.specs.Option.{option_or, ok_or}
use Rattle.refusal.specs.declared.cause.Refusal.{Refusal}
use Rattle.figures.specs.declared.standing.Unit.{Unit as Sort}
use Rattle.std.proofs.lemmas.Grind.{common_steps}
use Rattle.figures.specs.declared.standing.Resource.{Resource as Entry}
use Rattle.figures.specs.Prices.{first}
use Rattle.daybook.specs.Calls.{Act}
use Rattle.daybook.specs.Changes.{unless, replied, done, Answers}
use Rattle.daybook.specs.Due.{due_to, is_a}
use Rattle.daybook.specs.Finding.{found_as}
use Rattle.daybook.specs.Held.{Held}

pub due-from : (o : Option Refusal) (e : Refusal) → Err e ≡ replied o → o ≡ Some e
due-from None e h = cc
due-from (Some d) e h = cc

pub free-from : (o : Option Refusal) → Ok tt ≡ replied o → o ≡ None
free-from None h = refl
free-from (Some d) h = cc

-- a `?` that hands on the refusal
pub refused : (a : Act) (v : Held) {e : Refusal} (r : Result (Unit {0}) Refusal) → IsErrAnd r (λ y. y ≡ e) → Err e ≡ replied (due_to v a) → Answers a v v r
refused a v r told h =
    let y = err_from_is_err_and r told in
    let is : r ≡ replied (due_to v a) = y.1 ∙ ap Err y.2 ∙ h in
    record { reply = is; holds = ap (λ o. unless o (done a v) v) (sym (due-from (due_to v a) _ h)) }

pub found_ok : {X : Type 0} (o : Option X) (x : X) (e : Refusal) → Ok x ≡ ok_or o e → is_some o ≡ true
found_ok None x e h = cc
found_ok (Some y) x e h = refl

pub accepted : (a : Act) (v w : Held) → due_to v a ≡ None → w ≡ done a v → Answers a v w (Ok tt)
accepted a v w free is = record {
  reply = ap replied (sym free);
  holds = is ∙ ap (λ o. unless o (done a v) v) (sym free);
}

pub found_is_a : (kind : Sort → Bool) (id : ℕ) (o : Option Entry) (r : Entry) → Ok r ≡ found_as kind id o → is_a kind o ≡ true
found_is_a kind id None r h = cc
found_is_a kind id (Some x) r h = grind (arith, common_steps)

pub found-is : {X : Type 0} (o : Option X) (x : X) (e : Refusal) → Ok x ≡ ok_or o e → o ≡ Some x
found-is None x e h = cc
found-is (Some y) x e h = cc

-- nothing is due once what is named is there, no draft is out, and there is something to strike
pub nothing-due : (there stands : Bool) (draft : Option Refusal) (unknown empty : Refusal) → there ≡ true → Ok tt ≡ replied draft → stands ≡ true
    → first (λ o. o) (first (λ b. cond b None (Some unknown)) (there ∷ []) ∷ None ∷ None ∷ draft ∷ cond stands None (Some empty) ∷ []) ≡ None
nothing-due there stands draft unknown empty t d s i =
    option_or (option_or (cond (t i) None (Some unknown)) None) (option_or None (option_or None (option_or (free-from draft d i) (option_or (cond (s i) None (Some empty)) None))))

pub post_free : (there : Bool) (draft : Option Refusal) (unknown : Refusal) → there ≡ true → Ok tt ≡ replied draft
    → first (λ o. o) (first (λ b. cond b None (Some unknown)) (there ∷ []) ∷ None ∷ None ∷ draft ∷ None ∷ []) ≡ None
post_free there draft unknown t d i = option_or (option_or (cond (t i) None (Some unknown)) None) (option_or None (option_or None (option_or (free-from draft d i) (option_or None None))))
