-- Filling gaps: the periods stay in order, no hour is lost, and the hours gained lie in gaps that were filled.
use Rattle.std.proofs.Common.{◌≡◌, ℕ, ◌+◌, ◌<◌, ◌≤◌, Bool, true, ltb, ◌⊎◌, List, [], ◌∷◌, inl, inr, ⊎_elim, arith}
use Rattle.std.specs.List.{AllByRecursion}
use Rattle.std.proofs.lemmas.Bool.{cases_lt, cond_both, ltb-true, ltb-false}
use Rattle.commitment.specs.declared.stretch.Stretch.{Stretch}
use Rattle.commitment.specs.Stretches.{gap, gaps, gaps_after}
use Rattle.commitment.specs.Commitment.{join, fill_from, fill, bridged}
use Rattle.commitment.specs.StretchLaws.{Within, In}
use Rattle.commitment.specs.CommitmentLaws.{Between, BetweenAfter}
use Rattle.commitment.proofs.Holding.{Rising}

-- some neighbours are joined, over gaps that `Filled` holds of
pub data Fills (Filled : ℕ → Type 0) : List Stretch → List Stretch → Type 0 where
  empty : Fills Filled [] []
  single : {p : Stretch} → Fills Filled (p ∷ []) (p ∷ [])
  fills : {p q : Stretch} {qs rs : List Stretch} → Filled (gap p q) → Fills Filled (join p q ∷ qs) rs → Fills Filled (p ∷ (q ∷ qs)) rs
  leaves : {p q : Stretch} {qs rs : List Stretch} → Fills Filled (q ∷ qs) rs → Fills Filled (p ∷ (q ∷ qs)) (p ∷ rs)

module _ (Filled : ℕ → Type 0) (chosen : ℕ → ℕ → Bool) (filled : (i g : ℕ) → chosen i g ≡ true → Filled g) where
  fill_from-fills : (i : ℕ) (p : Stretch) (qs : List Stretch) → Fills Filled (p ∷ qs) (fill_from chosen i p qs)
  fill_from-fills i p [] = single
  fill_from-fills i p (q ∷ qs) =
      cond_both (chosen i (gap p q)) _ _ (Fills Filled (p ∷ (q ∷ qs)))
      (λ e. fills (filled i _ e) (fill_from-fills (i + 1) (join p q) qs))
      (λ _. leaves (fill_from-fills (i + 1) q qs))

  pub fill-fills : (ps : List Stretch) → Fills Filled ps (fill chosen ps)
  fill-fills [] = empty
  fill-fills (p ∷ ps) = fill_from-fills 0 p ps

-- the periods stay in order, and no hour is lost
rising_join : (low : ℕ) (p q : Stretch) (qs : List Stretch) → Rising low (p ∷ (q ∷ qs)) → Rising low (join p q ∷ qs)
rising_join low p q qs r = (r.0, omega arith, r.2.2)

in_join : (low : ℕ) (p q : Stretch) (qs : List Stretch) → Rising low (p ∷ (q ∷ qs)) → (h : ℕ) → In (p ∷ (q ∷ qs)) h → In (join p q ∷ qs) h
in_join low p q qs r h (inl w) = inl (omega arith)
in_join low p q qs r h (inr (inl w)) = inl (omega arith)
in_join low p q qs r h (inr (inr i)) = inr i

module _ {Filled : ℕ → Type 0} where
  pub fills_rising : {ps rs : List Stretch} → Fills Filled ps rs → (low : ℕ) → Rising low ps → Rising low rs
  fills_rising empty low r = r
  fills_rising single low r = r
  fills_rising (fills s fs) low r = fills_rising fs low (rising_join low _ _ _ r)
  fills_rising (leaves fs) low r = (r.0, r.1, fills_rising fs _ r.2)

  pub fills_in : {ps rs : List Stretch} → Fills Filled ps rs → (low : ℕ) → Rising low ps → (h : ℕ) → In ps h → In rs h
  fills_in empty low r h i = i
  fills_in single low r h i = i
  fills_in (fills s fs) low r h i = fills_in fs low (rising_join low _ _ _ r) h (in_join low _ _ _ r h i)
  fills_in (leaves fs) low r h i = ⊎_elim inl (λ j. inr (fills_in fs _ r.2 h j)) i

  -- the first period begins where it did, so the gap before it is as it was
  begins : {q : Stretch} {qs rs : List Stretch} → Fills Filled (q ∷ qs) rs → (P : List Stretch → Type 0) → ((last : ℕ) (ts : List Stretch) → P (record { first = q.first; last = last } ∷ ts)) → P rs
  begins (single {p}) P at = at p.last []
  begins (fills s fs) P at = begins fs P at
  begins (leaves {p} fs) P at = at p.last _

  gaps-after : {q : Stretch} {qs rs : List Stretch} → Fills Filled (q ∷ qs) rs → (p : Stretch) (P : ℕ → Type 0) → P (gap p q) → AllByRecursion P (gaps rs) → AllByRecursion P (gaps_after p rs)
  gaps-after fs p P now = begins fs (λ rs. AllByRecursion P (gaps rs) → AllByRecursion P (gaps_after p rs)) (λ _ _ more. (now, more))

  between-after : {q : Stretch} {qs rs : List Stretch} → Fills Filled (q ∷ qs) rs → (p : Stretch) (Size : ℕ → Type 0) (h : ℕ) → BetweenAfter Size p rs h → ((p.last < h) × (h < q.first) × Size (gap p q)) ⊎ Between Size rs h
  between-after {q} fs p Size h = begins fs (λ rs. BetweenAfter Size p rs h → ((p.last < h) × (h < q.first) × Size (gap p q)) ⊎ Between Size rs h) (λ _ _ b. b)

-- in a period, or in a gap of such a size
abbrev pub AnySize : ℕ → Type 0
AnySize g = Unit {0}

abbrev pub Reach : (ℕ → Type 0) → List Stretch → ℕ → Type 0
Reach Size ps h = In ps h ⊎ Between Size ps h

-- what is reached was reached before
module _ (Size : ℕ → Type 0) (h : ℕ) where
  reach_after : (p q : Stretch) (qs : List Stretch) → Reach Size (q ∷ qs) h → Reach Size (p ∷ (q ∷ qs)) h
  reach_after p q qs = ⊎_elim (λ i. inl (inr i)) (λ b. inr (inr b))

  within-join : (p q : Stretch) (qs : List Stretch) → Size (gap p q) → Within (join p q) h → Reach Size (p ∷ (q ∷ qs)) h
  within-join p q qs s w =
      grind (arith, s, cases_lt p.last h, cases_lt h q.first)

  after-join : (p q : Stretch) (qs : List Stretch) → BetweenAfter Size (join p q) qs h → BetweenAfter Size q qs h
  after-join p q [] b = b
  after-join p q (r ∷ rs) b = b

  reach_join : (p q : Stretch) (qs : List Stretch) → Size (gap p q) → Reach Size (join p q ∷ qs) h → Reach Size (p ∷ (q ∷ qs)) h
  reach_join p q qs s (inl (inl w)) = within-join p q qs s w
  reach_join p q qs s (inl (inr i)) = inl (inr (inr i))
  reach_join p q qs s (inr b) = inr (inr (after-join p q qs b))

  pub fills_reach : {ps rs : List Stretch} → Fills Size ps rs → Reach Size rs h → Reach Size ps h
  fills_reach empty x = x
  fills_reach single x = x
  fills_reach (fills s fs) x = reach_join _ _ _ s (fills_reach fs x)
  fills_reach (leaves fs) (inl (inl w)) = inl (inl w)
  fills_reach (leaves fs) (inl (inr i)) = reach_after _ _ _ (fills_reach fs (inl i))
  fills_reach (leaves fs) (inr b) =
      ⊎_elim (λ now. inr (inl now)) (λ more. reach_after _ _ _ (fills_reach fs (inr more))) (between-after fs _ Size h b)

-- step 2 fills gaps of fewer than mdt hours, and leaves none of them
module _ (mdt : ℕ) where
  pub bridged-fills : (ps : List Stretch) → Fills (λ g. g < mdt) ps (bridged mdt ps)
  bridged-fills = fill-fills (λ g. g < mdt) (λ i g. ltb g mdt) (λ i g. ltb-true g mdt)

  fill_from-apart : (i : ℕ) (p : Stretch) (qs : List Stretch) → AllByRecursion (λ g. mdt ≤ g) (gaps (fill_from (λ i g. ltb g mdt) i p qs))
  fill_from-apart i p [] = tt
  fill_from-apart i p (q ∷ qs) =
      let fs = fill_from-fills AnySize (λ i g. ltb g mdt) (λ _ _ _. tt) (i + 1) q qs in
      cond_both (ltb (gap p q) mdt) _ _ (λ rs. AllByRecursion (λ g. mdt ≤ g) (gaps rs))
      (λ _. fill_from-apart (i + 1) (join p q) qs)
      (λ e. gaps-after fs p (λ g. mdt ≤ g) (ltb-false _ _ e) (fill_from-apart (i + 1) q qs))

  pub bridged-apart : (ps : List Stretch) → AllByRecursion (λ g. mdt ≤ g) (gaps (bridged mdt ps))
  bridged-apart [] = tt
  bridged-apart (p ∷ ps) = fill_from-apart 0 p ps
