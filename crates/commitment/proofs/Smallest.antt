-- The chain over the neighbours of a list of periods gives its smallest gap.
use Rattle.std.proofs.Common.{◌≡◌, ℕ, ◌+◌, ◌<◌, ◌≤◌, cond, ltb, List, [], ◌∷◌, map, length, get_or, take, drop, Some, None, Option, sym, refl, ap, ◌∙◌, subst, arith}
use Rattle.std.specs.Fn.{CalledAt}
use Rattle.std.specs.Iterator.{KeyTurn, PicksMinByKey}
use Rattle.std.specs.List.{FoldsTo, fold, reduce, enumerate_from}
use Rattle.std.specs.Ordering.{nat_cmp, min_by_ordering}
use Rattle.std.specs.Slice.ArrayWindows.{array_windows_parts, array_windows_steps}
use Rattle.std.specs.Slice.Iter.{windows_rest, windows_size}
use Rattle.std.specs.declared.cmp.Ordering.{Ordering}
use Rattle.std.specs.declared.cmp.Ordering.TheVariants.{Less, Equal, Greater}
use Rattle.std.specs.declared.slice.ArrayWindows.{ArrayWindows}
use Rattle.std.proofs.lemmas.Iterator.{YieldsList}
use Rattle.std.proofs.lemmas.Iterator.Splits.{YieldsList-from_shown_while}
use Rattle.std.proofs.lemmas.Iterator.Consumers.{reduce_from_yields_List}
use Rattle.std.proofs.lemmas.Bool.Decides.{nat_tests}
use denote.Param.Members.{Mut}
use denote.Ref.{Bor}
use Rattle.commitment.specs.declared.gaps.Gap.{Gap}
use Rattle.commitment.specs.declared.stretch.Stretch.{Stretch}
use Rattle.commitment.specs.Stretches.{gap, gaps}
use Rattle.commitment.specs.Commitment.{smallest_from, smallest}

abbrev nowhere : Stretch
nowhere = record { first = 0; last = 0 }

-- the gap between the two of a window
abbrev pub within : List Stretch → ℕ
within pair = gap (get_or pair 0 nowhere) (get_or pair 1 nowhere)

no-gaps : (ps : List Stretch) → length ps < 2 → length (gaps ps) ≡ 0
no-gaps [] l = refl
no-gaps (p ∷ []) l = refl
no-gaps (p ∷ (q ∷ qs)) l = absurd (omega arith)

first-gap : (n : ℕ) (ps pair rest : List Stretch) → n ≡ 2 → 2 ≤ length ps → pair ≡ take n ps → rest ≡ drop 1 ps → gaps ps ≡ within pair ∷ gaps rest
first-gap n [] pair rest e l t d = absurd (omega arith)
first-gap n (p ∷ []) pair rest e l t d = absurd (omega arith)
first-gap n (p ∷ (q ∷ qs)) pair rest e l t d =
    cc (ap (λ m. take m (p ∷ (q ∷ qs))) e)

pub windows_give : {s : ArrayWindows Stretch 2} (ps : List Stretch) → windows_rest (array_windows_parts s) ≡ ps → windows_size (array_windows_parts s) ≡ 2
    → YieldsList (array_windows_steps {A = Stretch} {n = 2}) (λ w. within w.now) s (gaps ps)
windows_give {s} ps e two =
    subst (λ qs. YieldsList (array_windows_steps {A = Stretch} {n = 2}) (λ w. within w.now) s (gaps qs)) e
    (YieldsList-from_shown_while (array_windows_steps {A = Stretch} {n = 2}) (λ w. within w.now) (λ t. gaps (windows_rest (array_windows_parts t))) (λ t. windows_size (array_windows_parts t) ≡ 2)
    (λ t u n h. no-gaps (windows_rest (array_windows_parts t)) (omega arith))
    (λ t w u n h. (h.0 ∙ n, first-gap (windows_size (array_windows_parts t)) (windows_rest (array_windows_parts t)) w.now (windows_rest (array_windows_parts u)) n (omega arith) h.1.1 h.1.2))
    s two)

-- the gaps with their positions, and the lesser of two, the first where they are equal
abbrev pub placed : ℕ × ℕ → Gap
placed p = record { at = p.0; hours = p.1 }

abbrev lesser : Gap → Gap → Gap
lesser least g = cond (ltb g.hours least.hours) g least

smallest-fold : (gs : List ℕ) (i : ℕ) (least : Gap) → smallest_from i (Some least) gs ≡ Some (fold lesser least (map placed (enumerate_from i gs)))
smallest-fold [] i least = refl
smallest-fold (g ∷ gs) i least =
    grind (arith, nat_tests, smallest-fold gs (i + 1) (placed (i, g)), smallest-fold gs (i + 1) least)

as-smallest : (gs : List ℕ) → reduce lesser (map placed (enumerate_from 0 gs)) ≡ smallest gs
as-smallest [] = refl
as-smallest (g ∷ gs) = sym (smallest-fold gs 1 (placed (0, g)))

picks : (a x : Gap) → min_by_ordering (nat_cmp a.hours x.hours) a x ≡ lesser a x
picks a x = grind (arith, nat_tests)

keeps-key : (o : Ordering) (a x : Gap) → min_by_ordering o a.hours x.hours ≡ (min_by_ordering o a x).hours
keeps-key Less a x = refl
keeps-key Equal a x = refl
keeps-key Greater a x = refl

-- what `min_by_key` answers, over a chain that gives the gaps and a key that is the gap's hours
module _ {F : Type 0} (call : Mut F (Bor Gap × Unit {0}) ℕ) (f : F) (key : (x : Gap) (k : ℕ) (q : F) → CalledAt call f x k q → (q ≡ f) × (k ≡ x.hours)) where
  picked : (xs : List Gap) (p q : (F × ℕ) × Gap) → p.0.0 ≡ f → p.0.1 ≡ p.1.hours → FoldsTo (KeyTurn min_by_ordering min_by_ordering call nat_cmp) p xs q → FoldsTo (λ a x b. b ≡ lesser a x) p.1 xs q.1
  picked [] p q same is h = ap (λ r. r.1) h
  picked (x ∷ xs) p q same is (j, (k, o, called, cmp, j-key, j-best), more) =
      let now = key x k j.0.0 (subst (λ e. CalledAt call e x k j.0.0) same called) in
      let o-is : o ≡ nat_cmp p.1.hours x.hours = cc in
      let keyed : j.0.1 ≡ j.1.hours = cc (keeps-key o p.1 x) in
      (j.1, j-best ∙ ap (λ r. min_by_ordering r p.1 x) o-is ∙ picks p.1 x, picked xs j q now.0 keyed more)

  pub smallest_from_chain : {S : Type 0} {steps : S → Option Gap → S → Type 0} (s : S) (r : Option Gap) (gs : List ℕ)
      → PicksMinByKey steps call nat_cmp s f r → YieldsList steps (λ g. g) s (map placed (enumerate_from 0 gs)) → r ≡ smallest gs
  smallest_from_chain {S} {steps} s None gs d road = reduce_from_yields_List {steps = steps} lesser s None d road ∙ as-smallest gs
  smallest_from_chain {S} {steps} s (Some y) gs (x, xs, k, f', q, d, first, more) road =
      let start = key x k f' first in
      reduce_from_yields_List {steps = steps} lesser s (Some y) (x, xs, d, picked xs ((f', k), x) (q, y) start.0 start.1 more) road ∙ as-smallest gs
