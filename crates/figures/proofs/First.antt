-- The first answer along a list, as `find`, `find_map` and `position` come to it.
use Rattle.std.proofs.Common.{◌≡◌, ℕ, zero, suc, ◌+◌, ◌<◌, Bool, true, cond, not, ◌&&◌, is_some, List, [], ◌∷◌, length, get_or, Some, None, Option, sym, refl, ap, subst, ◌∙◌, arith}
use denote.Param.Members.{Mut}
use Rattle.std.specs.Fn.{Called}
use Rattle.std.specs.Iterator.{Yields, AlwaysYields}
use Rattle.std.specs.Iterator.Runs.{SomeRun, AllItemsGive, IsFirstToGive}
use Rattle.std.specs.List.{find, position_from, range_with_len, slice_get, zip}
use Rattle.std.specs.Option.{option_map, option_or, MatchOption, IsSomeAnd}
use Rattle.std.proofs.iter.runs.Made.{took, at-is, each_of}
use Rattle.std.proofs.iter.runs.Lists.{Everywhere}
use Rattle.std.proofs.lemmas.Iterator.{YieldsList}
use Rattle.std.proofs.lemmas.Slice.Zip.{get_or-zip, length-zip}
use Rattle.hours.specs.declared.records.HourRecord.{HourRecord}
use Rattle.hours.specs.declared.records.Price.{Price}
use Rattle.figures.specs.Prices.{first, hour_if, hours_before, unpriced, missing_hour}

-- a test is a question that h answers where it passes
pub first_found : {X Y : Type 0} (test : X → Bool) (h : X → Y) (xs : List X) → first (λ x. cond (test x) (Some (h x)) None) xs ≡ option_map h (find test xs)
first_found test h [] = refl
first_found test h (x ∷ xs) = grind (arith, first_found test h xs)

-- hours are told from 1, places from 0
first_hour : {X : Type 0} (test : X → Bool) (p : ℕ → Bool) (xs : List X) (d : X) (n : ℕ) → ((i : ℕ) → i < length xs → p (n + i) ≡ test (get_or xs i d)) → first (hour_if p) (range_with_len n (length xs)) ≡ option_map (λ i. i + 1) (position_from test n xs)
first_hour test p [] d n same = refl
first_hour test p (x ∷ xs) d n same = grind (arith, first_hour test p xs d (n + 1) (λ i h. let e : n + 1 + i ≡ n + suc i = omega arith in ap p e ∙ same (suc i) (omega arith)), same 0)

abbrev pub bare : Option HourRecord × Option Price → Bool
bare p = is_some p.0 && not (is_some p.1)

pub first_bare : (slots : List (Option HourRecord)) (prices : List (Option Price)) → length slots ≡ 24 → length prices ≡ 24 → missing_hour slots prices ≡ option_map (λ i. i + 1) (position_from bare 0 (zip slots prices))
unfolding hours_before
first_bare slots prices a b =
    let both : length (zip slots prices) ≡ 24 = omega (arith, length-zip slots prices) in
    ap (λ n. first (hour_if (unpriced slots prices)) (range_with_len 0 n)) (sym both)
    ∙ first_hour bare (unpriced slots prices) (zip slots prices) (None, None) 0 (λ i h. let e : 0 + i ≡ i = omega arith in ap (unpriced slots prices) e ∙ sym (ap bare (get_or-zip slots prices i (None, None) (omega arith) (omega arith))))

-- `find_map` calls f, which answers h of what v reads of an item
module _ {A B C F : Type 0} {v : A → B} (g : Mut F (A × Unit {0}) (Option C)) (h : B → Option C) (f : F) (call : (x : A) (r : Option C) (q : F) → Called g f (x, tt) r q → (q ≡ f) × (r ≡ h (v x))) where
  abbrev pub Says : Option C → A → Type 0
  Says r x = Called g f (x, tt) r f

  passed : (x : A) (y : B) (ys : List B) → Says None x → v x ≡ y → first h (y ∷ ys) ≡ first h ys
  passed x y ys k is = ap (λ o. option_or o (first h ys)) (sym ((call x None f k).1 ∙ ap h is))

  module _ {S : Type 0} (steps : S → Option A → S → Type 0) where
    unanswered : (xs : List A) (s t : S) (ys : List B) → Yields steps s xs t → ((u : S) × steps t None u) → AlwaysYields steps v s ys → Everywhere xs (Says None) → first h ys ≡ None
    unanswered [] s t [] gave end road none = refl
    unanswered [] s t (y ∷ ys) gave end road none = absurd (road.0 end.0 (subst (λ q. steps q None end.0) (sym gave) end.1))
    unanswered (x ∷ xs) s t [] gave end road none = absurd (road x gave.0 gave.1)
    unanswered (x ∷ xs) s t (y ∷ ys) gave end road none =
        let turn = road.1 x gave.0 gave.1 in
        passed x y ys (none 0) turn.0 ∙ unanswered xs gave.0 t ys gave.2 end turn.1 (λ k. none (suc k))

    answered : (c : C) (i : ℕ) (xs : List A) (s t : S) (ys : List B) → Yields steps s xs t → AlwaysYields steps v s ys → ((k : ℕ) → k < i → IsSomeAnd (slice_get xs k) (Says None)) → IsSomeAnd (slice_get xs i) (Says (Some c)) → first h ys ≡ Some c
    answered c i [] s t ys gave road none there = absurd there
    answered c i (x ∷ xs) s t [] gave road none there = absurd (road x gave.0 gave.1)
    answered c zero (x ∷ xs) s t (y ∷ ys) gave road none there = ap (λ o. option_or o (first h ys)) (sym ((call x (Some c) f there).1 ∙ ap h (road.1 x gave.0 gave.1).0))
    answered c (suc i) (x ∷ xs) s t (y ∷ ys) gave road none there =
        let turn = road.1 x gave.0 gave.1 in
        passed x y ys (none 0 (omega arith)) turn.0 ∙ answered c i xs gave.0 t ys gave.2 turn.1 (λ k l. none (suc k) (omega arith)) there

  pub first_from_find_map : {S : Type 0} {steps : S → Option A → S → Type 0} {s : S} {ys : List B} (r : Option C) → SomeRun steps s (λ p. MatchOption r ((p.whole ≡ true) × AllItemsGive p g f None) (λ c. (i : ℕ) × (i < p.len) × (p.len ≡ i + 1) × IsFirstToGive p g f (Some c) None i)) → YieldsList steps v s ys → r ≡ first h ys
  first_from_find_map {S} {steps} {s} {ys} None ran road =
      let p = ran.0 in
      let gave = took p in
      let at_start = subst (λ q. AlwaysYields steps v q ys) (sym ran.1) road.runs in
      sym (unanswered steps p.items p.from gave.0 ys gave.1 (gave.2 ran.2.0) at_start (each_of p (Says None) (ran.2.1 (λ a r q k. (call a.0 r q k).0))))
  first_from_find_map {S} {steps} {s} {ys} (Some c) ran road =
      let p = ran.0 in
      let gave = took p in
      let at_start = subst (λ q. AlwaysYields steps v q ys) (sym ran.1) road.runs in
      let said = ran.2.3 (λ a r q k. (call a.0 r q k).0) in
      sym (answered steps c ran.2.0 p.items p.from gave.0 ys gave.1 at_start (λ k l. subst (λ o. IsSomeAnd o (Says None)) (at-is p k) (said.1 k l)) (subst (λ o. IsSomeAnd o (Says (Some c))) (at-is p ran.2.0) said.0))
