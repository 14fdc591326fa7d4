-- Step 3: each join is of the two periods with the smallest gap, the earliest on a tie, and joins are made while there are too many periods.
use Rattle.std.proofs.Common.{◌≡◌, ℕ, zero, suc, ◌+◌, ◌-◌, ◌<◌, ◌≤◌, ltb, eqb, ◌⊎◌, List, [], ◌∷◌, ◌++◌, length, Some, sym, refl, ap, subst, inl, inr, arith, length-append}
use Rattle.std.specs.List.{AllByRecursion}
use Rattle.std.proofs.lemmas.Bool.Decides.{nat_tests}
use Rattle.std.proofs.lemmas.Bool.{cond_both, ltb-true, ltb-false, eq-eqb, ne_eqb}
use Rattle.commitment.specs.declared.gaps.Gap.{Gap}
use Rattle.commitment.specs.declared.stretch.Stretch.{Stretch}
use Rattle.commitment.specs.Stretches.{gap, gaps, gaps_after}
use Rattle.commitment.specs.Commitment.{join, fill_from, fill, smallest_from, joined, joined_at, joins}
use Rattle.commitment.specs.StretchLaws.{In}
use Rattle.commitment.specs.CommitmentLaws.{Joined, JoinedDown, few_enough, too_many}
use Rattle.commitment.proofs.Holding.{Rising}
use Rattle.commitment.proofs.Fills.{Fills, empty, single, fill-fills, fills_rising, fills_in, AnySize, Reach, fills_reach}

-- g is f, and no gap of xs is smaller; or g is smaller than f, it has the position i or a later one, and `Later` holds
abbrev Best : Gap → Gap → ℕ → List ℕ → Type 0 → Type 0
Best g f i xs Later = ((g.at ≡ f.at) × (g.hours ≡ f.hours) × AllByRecursion (λ y. f.hours ≤ y) xs) ⊎ ((i ≤ g.at) × (g.hours < f.hours) × Later)

-- g is the smallest gap, the earliest on a tie; the positions count from i
abbrev Least : Gap → ℕ → List ℕ → Type 0
Least g i [] = ⊥
Least g i (x ∷ xs) = Best g (record { at = i; hours = x }) (i + 1) xs (Least g (i + 1) xs)

smallest_best : (xs : List ℕ) (i : ℕ) (f : Gap) → (g : Gap) × (smallest_from i (Some f) xs ≡ Some g) × Best g f i xs (Least g i xs)
smallest_best [] i f = (f, refl, inl (refl, refl, tt))
smallest_best (x ∷ xs) i f =
    cond_both (ltb x f.hours) _ _ (λ o. (g : Gap) × (smallest_from (i + 1) o xs ≡ Some g) × Best g f i (x ∷ xs) (Least g i (x ∷ xs)))
    (λ e. let (g, same, b) = smallest_best xs (i + 1) (record { at = i; hours = x }) in (g, same, inr (grind (arith, b), grind (arith, b, ltb-true x f.hours e), b)))
    (λ e. let (g, same, b) = smallest_best xs (i + 1) f in (g, same, grind (arith, b, ltb-false x f.hours e)))

-- the gap at that position is filled, and no other
fill-past : (at i : ℕ) (p : Stretch) (qs : List Stretch) → at < i → fill_from (λ i h. eqb i at) i p qs ≡ p ∷ qs
fill-past at i p [] l = refl
fill-past at i p (q ∷ qs) l = grind (arith, nat_tests, fill-past at (i + 1) q qs)

gaps-before : (p q a : Stretch) (before qs rest : List Stretch) → q ∷ qs ≡ before ++ (a ∷ rest) → gaps_after p (before ++ (a ∷ [])) ≡ gap p q ∷ gaps (before ++ (a ∷ []))
gaps-before p q a [] qs rest e = cc
gaps-before p q a (b ∷ bs) qs rest e = cc

-- a join that fills a gap of n hours
abbrev JoinedOver : ℕ → List Stretch → List Stretch → Type 0
JoinedOver n ps qs = (j : Joined ps qs) × (gap j.one j.next ≡ n)

join_now : (n : ℕ) (p q : Stretch) (qs rs : List Stretch) → n ≡ gap p q → AllByRecursion (λ x. gap p q ≤ x) (gaps_after q qs) → rs ≡ join p q ∷ qs → JoinedOver n (p ∷ (q ∷ qs)) rs
join_now n p q qs rs over least same = (
  record {
    before = [];
    one = p;
    next = q;
    after = qs;
    were = refl;
    are = same;
    smallest_gap = (omega arith, least);
    earliest_on_a_tie = tt;
  },
  sym over,
)

join_later : (n : ℕ) (p q : Stretch) (qs rs : List Stretch) → n < gap p q → JoinedOver n (q ∷ qs) rs → JoinedOver n (p ∷ (q ∷ qs)) (p ∷ rs)
join_later n p q qs rs large (j, over) = (
  record {
    before = p ∷ j.before;
    one = j.one;
    next = j.next;
    after = j.after;
    were = ap (λ xs. p ∷ xs) j.were;
    are = ap (λ xs. p ∷ xs) j.are;
    smallest_gap = (omega arith, j.smallest_gap);
    earliest_on_a_tie = rw (gaps-before p q j.one j.before qs _ j.were) (omega arith, j.earliest_on_a_tie);
  },
  over,
)

least_join : (g : Gap) (qs : List Stretch) (i : ℕ) (p : Stretch) → Least g i (gaps_after p qs) → JoinedOver g.hours (p ∷ qs) (fill_from (λ i h. eqb i g.at) i p qs)
least_join g [] i p l = absurd l
least_join g (q ∷ qs) i p (inl now) =
    rw (eq-eqb i g.at (sym now.0)) (join_now g.hours p q qs _ now.1 now.2 (fill-past g.at (i + 1) (join p q) qs (omega arith)))
least_join g (q ∷ qs) i p (inr later) =
    rw (ne_eqb i g.at (λ e. omega arith)) (join_later g.hours p q qs _ later.1 (least_join g qs (i + 1) q later.2))

joined-fill : (p q : Stretch) (qs : List Stretch) → (g : Gap) × (joined (p ∷ (q ∷ qs)) ≡ fill (λ i h. eqb i g.at) (p ∷ (q ∷ qs))) × Least g 0 (gaps (p ∷ (q ∷ qs)))
joined-fill p q qs = let (g, same, least) = smallest_best (gaps_after q qs) 1 (record { at = 0; hours = gap p q }) in
    (g, ap (λ o. joined_at o (p ∷ (q ∷ qs))) same, least)

joined-joins : (p q : Stretch) (qs : List Stretch) → Joined (p ∷ (q ∷ qs)) (joined (p ∷ (q ∷ qs)))
joined-joins p q qs = let (g, same, least) = joined-fill p q qs in
    subst (Joined (p ∷ (q ∷ qs))) (sym same) (least_join g (q ∷ qs) 0 p least).0

-- each join leaves one period fewer, so that as many are made as there are periods too many
joined_length : (ps qs : List Stretch) → Joined ps qs → length ps ≡ length qs + 1
joined_length ps qs j =
    grind (arith, simp length-append at (ap length j.were), simp length-append at (ap length j.are))

pub joins-down : (limit : ℕ) → 1 ≤ limit → (n : ℕ) (ps : List Stretch) → n ≡ length ps - limit → JoinedDown limit ps (joins n ps)
joins-down limit l zero ps e = few_enough ps (omega arith)
joins-down limit l (suc n) [] e = absurd (omega arith)
joins-down limit l (suc n) (p ∷ []) e = absurd (omega arith)
joins-down limit l (suc n) (p ∷ (q ∷ qs)) e =
    let j = joined-joins p q qs in
    let fewer = joined_length _ _ j in
    too_many _ _ _ (omega arith) j (joins-down limit l n (joined (p ∷ (q ∷ qs))) (omega arith))

pub down_few : {limit : ℕ} {ps rs : List Stretch} → JoinedDown limit ps rs → length rs ≤ limit
down_few (few_enough ps l) = l
down_few (too_many ps qs rs l j down) = down_few down

-- a join is a filling of gaps, so that joins lose no hour and reach no other
joined-fills : (ps : List Stretch) → Fills AnySize ps (joined ps)
joined-fills [] = empty
joined-fills (p ∷ []) = single
joined-fills (p ∷ (q ∷ qs)) = let (g, same, least) = joined-fill p q qs in
    subst (Fills AnySize (p ∷ (q ∷ qs))) (sym same) (fill-fills AnySize (λ i h. eqb i g.at) (λ _ _ _. tt) (p ∷ (q ∷ qs)))

pub joins_in : (n low : ℕ) (ps : List Stretch) → Rising low ps → (h : ℕ) → In ps h → In (joins n ps) h
joins_in zero low ps r h i = i
joins_in (suc n) low ps r h i = let fs = joined-fills ps in
    joins_in n low (joined ps) (fills_rising fs low r) h (fills_in fs low r h i)

pub joins_reach : (n : ℕ) (ps : List Stretch) (h : ℕ) → Reach AnySize (joins n ps) h → Reach AnySize ps h
joins_reach zero ps h x = x
joins_reach (suc n) ps h x = fills_reach AnySize h (joined-fills ps) (joins_reach n (joined ps) h x)
