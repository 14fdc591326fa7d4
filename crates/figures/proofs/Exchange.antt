-- What is added up member by member is what all resources come to.
use Rattle.std.proofs.Common.{◌≡◌, ℕ, true, false, cond, not, eqb, List, [], ◌∷◌, Some, None, sym, refl, ap, ◌∙◌, ⊎_elim}
use Rattle.std.proofs.lemmas.Bool.{cond-true, cond-false, and_parts, or_cases, or_parts, eqb-true, not-true, cases_Bool, both_ways, true≢false}
use Rattle.figures.specs.declared.standing.Resource.{Resource}
use Rattle.figures.specs.Owners.{among, apart, all_owned, Owners}
use Rattle.figures.specs.Standing.{counts, counted, of_member}
use Rattle.figures.proofs.Adding.{Sums, over, part, over-cons, over_kept}

-- where no member is told, every resource counts
pub all_count : (rs : List Resource) → counted None rs ≡ rs
all_count [] = refl
all_count (r ∷ rs) = ap (λ l. r ∷ l) (all_count rs)

module _ {A : Type 0} (s : Sums A) where
  over_none : {X : Type 0} (xs : List X) → over s (λ _. s.none) xs ≡ s.none
  over_none [] = refl
  over_none (x ∷ xs) = over-cons s (λ _. s.none) x xs ∙ s.idl (over s (λ _. s.none) xs) ∙ over_none xs

  swap_inner : (a b c d : A) → s.plus (s.plus a b) (s.plus c d) ≡ s.plus (s.plus a c) (s.plus b d)
  swap_inner a b c d =
      s.assoc a b (s.plus c d)
      ∙ ap (s.plus a) (sym (s.assoc b c d) ∙ ap (λ e. s.plus e d) (s.comm b c) ∙ s.assoc c b d)
      ∙ sym (s.assoc a c (s.plus b d))

  over-both : {X : Type 0} (g h : X → A) (xs : List X) → over s (λ x. s.plus (g x) (h x)) xs ≡ s.plus (over s g xs) (over s h xs)
  over-both g h [] = sym (s.idl s.none)
  over-both g h (x ∷ xs) =
      over-cons s (λ y. s.plus (g y) (h y)) x xs
      ∙ ap (s.plus (s.plus (g x) (h x))) (over-both g h xs)
      ∙ swap_inner (g x) (h x) (over s g xs) (over s h xs)
      ∙ sym (λ i. s.plus (over-cons s g x xs i) (over-cons s h x xs i))

  -- what the owner of a resource gets of it; the others get nothing
  abbrev due : ℕ → A → ℕ → A
  due k a id = cond (eqb k id) a s.none

  nobody_gets : (k : ℕ) (a : A) (ids : List ℕ) → among ids k ≡ false → over s (due k a) ids ≡ s.none
  nobody_gets k a [] h = refl
  nobody_gets k a (id ∷ ids) h =
      let apart = or_parts (eqb k id) (among ids k) h in
      over-cons s (due k a) id ids
      ∙ ap (λ b. s.plus b (over s (due k a) ids)) (cond-false _ _ _ apart.0)
      ∙ s.idl (over s (due k a) ids)
      ∙ nobody_gets k a ids apart.1

  owner_gets : (k : ℕ) (a : A) (ids : List ℕ) → apart ids ≡ true → among ids k ≡ true → over s (due k a) ids ≡ a
  owner_gets k a [] once there = absurd (true≢false (sym there))
  owner_gets k a (id ∷ ids) once there =
      let both = and_parts (not (among ids id)) (apart ids) once in
      over-cons s (due k a) id ids
      ∙ ⊎_elim
      (λ e. (λ i. s.plus (cond-true (eqb k id) a s.none e i) (nobody_gets k a ids (ap (among ids) (eqb-true k id e) ∙ not-true _ both.0) i)) ∙ s.idr a)
      (λ e. ap (λ b. s.plus b (over s (due k a) ids)) (cond-false (eqb k id) a s.none e) ∙ s.idl (over s (due k a) ids)
      ∙ owner_gets k a ids both.1 (⊎_elim (λ y. absurd (both_ways _ e y)) (λ y. y) (or_cases (eqb k id) (among ids k) there)))
      (cases_Bool (eqb k id))

  by_parts : (f : Resource → A) (ids : List ℕ) (rs : List Resource) → apart ids ≡ true → all_owned ids rs ≡ true → over s (λ id. over s (part s (counts (Some id)) f) rs) ids ≡ over s f rs
  by_parts f ids [] once owned = over_none ids
  by_parts f ids (r ∷ rs) once owned =
      let both = and_parts (among ids r.member) (all_owned ids rs) owned in
      (λ i. over s (λ id. over-cons s (part s (counts (Some id)) f) r rs i) ids)
      ∙ over-both (due r.member (f r)) (λ id. over s (part s (counts (Some id)) f) rs) ids
      ∙ (λ i. s.plus (owner_gets r.member (f r) ids once both.0 i) (by_parts f ids rs once both.1 i))
      ∙ sym (over-cons s f r rs)

  pub exchange : (f : Resource → A) (ids : List ℕ) (rs : List Resource) → Owners ids rs → over s (λ id. over s f (of_member id rs)) ids ≡ over s f rs
  exchange f ids rs owners =
      (λ i. over s (λ id. over_kept s (counts (Some id)) f rs i) ids) ∙ by_parts f ids rs owners.nobody_twice owners.nobody_left_out
