-- Step 1: the periods are in order and long enough, they hold every flagged hour, and every other hour of theirs is held on.
use Rattle.std.proofs.Common.{◌≡◌, ℕ, suc, ◌+◌, ◌-◌, ◌<◌, ◌≤◌, Bool, true, false, cond, ltb, ◌⊎◌, List, [], ◌∷◌, length, get_or, Some, None, Option, sym, refl, ap, ◌∙◌, subst, inl, inr, ⊎_elim, arith}
use Rattle.std.specs.List.{AllByRecursion}
use Rattle.std.proofs.lemmas.Bool.Decides.{nat_tests}
use Rattle.std.proofs.lemmas.Bool.{cases_lt, lt-ltb, le-ltb, and_from, and_right, false≢true}
use Rattle.commitment.specs.declared.stretch.Stretch.{Stretch}
use Rattle.commitment.specs.Stretches.{hours, gaps, gaps_after, stretches_from, stretches}
use Rattle.commitment.specs.Commitment.{held_from, after_mrt}
use Rattle.commitment.specs.StretchLaws.{Within, In, Longest}
use Rattle.commitment.specs.CommitmentLaws.{Flagged, HeldOn}

-- the hours from `first` on that lie before the hour h
abbrev up_to : ℕ → ℕ → Stretch
up_to first h = record { first = first; last = h - 1 }

-- hour after hour, from the hour h on: where the period began that is found running, if one is, and the periods that come of the flags
data Runs (mrt : ℕ) : ℕ → Option ℕ → List Bool → List Stretch → Type 0 where
  ends_idle : {h : ℕ} → Runs mrt h None [] []
  ends_running : {h f : ℕ} → f < h → Runs mrt h (Some f) [] (up_to f h ∷ [])
  idles : {h : ℕ} {rest : List Bool} {ps : List Stretch} → Runs mrt (h + 1) None rest ps → Runs mrt h None (false ∷ rest) ps
  starts : {h : ℕ} {rest : List Bool} {ps : List Stretch} → Runs mrt (h + 1) (Some h) rest ps → Runs mrt h None (true ∷ rest) ps
  goes_on : {h f : ℕ} {flag : Bool} {rest : List Bool} {ps : List Stretch} → f < h → (flag ≡ true) ⊎ (h < f + mrt) → Runs mrt (h + 1) (Some f) rest ps → Runs mrt h (Some f) (flag ∷ rest) ps
  stops : {h f : ℕ} {rest : List Bool} {ps : List Stretch} → f < h → f + mrt ≤ h → Runs mrt (h + 1) None rest ps → Runs mrt h (Some f) (false ∷ rest) (up_to f h ∷ ps)

-- the periods of step 1 come so: `ran` is how many hours the period has run
module _ (mrt : ℕ) where
  mutual
    idle : (flags : List Bool) (h : ℕ) → Runs mrt h None flags (stretches_from h None (held_from mrt 0 flags))
    idle [] h = ends_idle
    idle (true ∷ rest) h = starts (running rest (h + 1) h 1 (omega arith) (omega arith))
    idle (false ∷ rest) h = idles (idle rest (h + 1))

    running : (flags : List Bool) (h f ran : ℕ) → f + ran ≡ h → 0 < ran → Runs mrt h (Some f) flags (stretches_from h (Some f) (held_from mrt ran flags))
    running [] h f ran e l = ends_running (omega arith)
    running (true ∷ rest) h f ran e l = goes_on (omega arith) (inl refl) (running rest (h + 1) f (ran + 1) (omega arith) (omega arith))
    running (false ∷ rest) h f ran e l =
        let Next : Bool → Type 0 = λ b. Runs mrt h (Some f) (false ∷ rest) (stretches_from h (Some f) (b ∷ held_from mrt (cond b (ran + 1) 0) rest)) in
        let more = running rest (h + 1) f (ran + 1) (omega arith) (omega arith) in
        ⊎_elim
        (λ short. subst Next (sym (and_from _ _ (lt-ltb 0 ran l) (lt-ltb ran mrt short))) (goes_on (omega arith) (inr (omega arith)) more))
        (λ long. subst Next (sym (and_right (ltb 0 ran) _ (le-ltb ran mrt long))) (stops (omega arith) (omega arith) (idle rest (h + 1))))
        (cases_lt ran mrt)

-- in order, and not before the hour `low`
abbrev pub Rising : ℕ → List Stretch → Type 0
Rising low [] = Unit {0}
Rising low (p ∷ ps) = (low ≤ p.first) × (p.first ≤ p.last) × Rising (p.last + 1) ps

abbrev from : ℕ → Option ℕ → ℕ
from h None = h
from h (Some f) = f

runs_rising : {mrt h : ℕ} {began : Option ℕ} {flags : List Bool} {ps : List Stretch} → Runs mrt h began flags ps → (low : ℕ) → low ≤ from h began → Rising low ps
runs_rising ends_idle low le = tt
runs_rising (ends_running lt) low le = (le, omega arith, tt)
runs_rising (idles r) low le = runs_rising r low (omega arith)
runs_rising (starts r) low le = runs_rising r low (omega arith)
runs_rising (goes_on lt why r) low le = runs_rising r low le
runs_rising (stops lt long r) low le = (le, omega arith, runs_rising r _ (omega arith))

-- the flag of the hour k, where the flags are those from the hour h on
abbrev flag_at : ℕ → List Bool → ℕ → Bool
flag_at h flags k = get_or flags (k - h) false

flag_now : (h : ℕ) (flag : Bool) (rest : List Bool) (k : ℕ) → k ≡ h → flag_at h (flag ∷ rest) k ≡ flag
flag_now h flag rest k e = let none : k - h ≡ 0 = omega arith in ap (λ n. get_or (flag ∷ rest) n false) none

flag_later : (h : ℕ) (flag : Bool) (rest : List Bool) (k : ℕ) → h + 1 ≤ k → flag_at h (flag ∷ rest) k ≡ flag_at (h + 1) rest k
flag_later h flag rest k l = let more : k - h ≡ suc (k - (h + 1)) = omega arith in ap (λ n. get_or (flag ∷ rest) n false) more

-- every flagged hour lies in a period
abbrev Due : ℕ → List Bool → ℕ → Type 0
Due h flags k = h ≤ k → flag_at h flags k ≡ true

due_later : (h : ℕ) (flag : Bool) (rest : List Bool) (k : ℕ) → Due h (flag ∷ rest) k → Due (h + 1) rest k
due_later h flag rest k due l = sym (flag_later h flag rest k l) ∙ due (omega arith)

due-after : (h : ℕ) (rest : List Bool) (k : ℕ) → Due h (false ∷ rest) k → h ≤ k → h + 1 ≤ k
due-after h rest k due l = grind (arith, due l, flag_now h false rest k)

runs_in : {mrt h : ℕ} {began : Option ℕ} {flags : List Bool} {ps : List Stretch} → Runs mrt h began flags ps → (k : ℕ) → from h began ≤ k → Due h flags k → In ps k
runs_in ends_idle k l due = absurd (false≢true (due l))
runs_in (ends_running {h} lt) k l due = ⊎_elim (λ b. inl (l, omega arith)) (λ a. absurd (false≢true (due a))) (cases_lt k h)
runs_in (idles r) k l due = runs_in r k (due-after _ _ k due l) (due_later _ _ _ k due)
runs_in (starts r) k l due = runs_in r k l (due_later _ _ _ k due)
runs_in (goes_on lt why r) k l due = runs_in r k l (due_later _ _ _ k due)
runs_in (stops {h} lt long r) k l due = ⊎_elim (λ b. inl (l, omega arith)) (λ a. inr (runs_in r k (due-after _ _ k due a) (due_later _ _ _ k due))) (cases_lt k h)

-- every hour of a period is flagged or held on; F holds of the flagged hours
module _ (F : ℕ → Type 0) (mrt : ℕ) where
  abbrev Flags : ℕ → List Bool → Type 0
  Flags h flags = (k : ℕ) → h ≤ k → flag_at h flags k ≡ true → F k

  flags_later : (h : ℕ) (flag : Bool) (rest : List Bool) → Flags h (flag ∷ rest) → Flags (h + 1) rest
  flags_later h flag rest fs k l t = fs k (omega arith) (flag_later h flag rest k l ∙ t)

  flags_now : (h : ℕ) (flag : Bool) (rest : List Bool) → Flags h (flag ∷ rest) → flag ≡ true → F h
  flags_now h flag rest fs t = fs h (omega arith) (flag_now h flag rest h refl ∙ t)

  abbrev Explained : ℕ → ℕ → Type 0
  Explained f h = (k : ℕ) → f ≤ k → k < h → F k ⊎ (k < f + mrt)

  explained_later : (f h : ℕ) → Explained f h → F h ⊎ (h < f + mrt) → Explained f (h + 1)
  explained_later f h x why k a b =
      ⊎_elim (x k a) (λ le. let e : h ≡ k = omega arith in rw (← e) why) (cases_lt k h)

  explained_in : (f h k : ℕ) (ps : List Stretch) → f < h → Explained f h → Within (up_to f h) k → F k ⊎ HeldOn mrt (up_to f h ∷ ps) k
  explained_in f h k ps lt x w = ⊎_elim inl (λ held. inr (inl (w, held))) (x k w.0 (omega arith))

  abbrev SoFar : ℕ → Option ℕ → Type 0
  SoFar h None = Unit {0}
  SoFar h (Some f) = Explained f h

  runs_explained : {h : ℕ} {began : Option ℕ} {flags : List Bool} {ps : List Stretch} → Runs mrt h began flags ps → Flags h flags → SoFar h began → (k : ℕ) → In ps k → F k ⊎ HeldOn mrt ps k
  runs_explained ends_idle fs x k i = absurd i
  runs_explained (ends_running lt) fs x k (inl w) = explained_in _ _ k [] lt x w
  runs_explained (ends_running lt) fs x k (inr i) = absurd i
  runs_explained (idles r) fs x k i = runs_explained r (flags_later _ _ _ fs) tt k i
  runs_explained (starts {h} r) fs x k i =
      runs_explained r (flags_later _ _ _ fs) (explained_later h h (λ j a b. absurd (omega arith)) (inl (flags_now _ _ _ fs refl))) k i
  runs_explained (goes_on lt why r) fs x k i =
      runs_explained r (flags_later _ _ _ fs) (explained_later _ _ x (⊎_elim (λ t. inl (flags_now _ _ _ fs t)) inr why)) k i
  runs_explained (stops lt long r) fs x k (inl w) = explained_in _ _ k _ lt x w
  runs_explained (stops lt long r) fs x k (inr i) = ⊎_elim inl (λ held. inr (inr held)) (runs_explained r (flags_later _ _ _ fs) tt k i)

-- every period is long enough, or lasts to the end of the day
runs_long : {mrt h : ℕ} {began : Option ℕ} {flags : List Bool} {ps : List Stretch} → Runs mrt h began flags ps → (end : ℕ) → h + length flags ≡ end + 1 → AllByRecursion (λ p. (mrt ≤ hours p) ⊎ (p.last ≡ end)) ps
runs_long ends_idle end e = tt
runs_long (ends_running lt) end e = (inr (omega arith), tt)
runs_long (idles r) end e = runs_long r end (omega arith)
runs_long (starts r) end e = runs_long r end (omega arith)
runs_long (goes_on lt why r) end e = runs_long r end (omega arith)
runs_long (stops lt long r) end e = (inl (omega arith), runs_long r end (omega arith))

-- and so of a whole day
module _ (mrt : ℕ) (flags : List Bool) where
  pub held_rising : Rising 1 (after_mrt mrt flags)
  held_rising = runs_rising (idle mrt flags 1) 1 (omega arith)

  pub flagged-held : (h : ℕ) → Flagged flags h → In (after_mrt mrt flags) h
  flagged-held h f = runs_in (idle mrt flags 1) h f.0 (λ _. f.1)

  pub held_explained : (h : ℕ) → In (after_mrt mrt flags) h → Flagged flags h ⊎ HeldOn mrt (after_mrt mrt flags) h
  held_explained = runs_explained (Flagged flags) mrt (idle mrt flags 1) (λ k l t. (l, t)) tt

  pub held_long : AllByRecursion (λ p. (mrt ≤ hours p) ⊎ (p.last ≡ length flags)) (after_mrt mrt flags)
  held_long = runs_long (idle mrt flags 1) (length flags) (omega arith)

-- an hour that does not belong lies between two periods
apart-after : (p : Stretch) (ps : List Stretch) (low : ℕ) → p.last + 2 ≤ low → Rising low ps → AllByRecursion (λ g. 1 ≤ g) (gaps ps) → AllByRecursion (λ g. 1 ≤ g) (gaps_after p ps)
apart-after p [] low l r all = tt
apart-after p (q ∷ qs) low l r all = (omega arith, all)

runs-apart : {mrt h : ℕ} {began : Option ℕ} {flags : List Bool} {ps : List Stretch} → Runs mrt h began flags ps → AllByRecursion (λ g. 1 ≤ g) (gaps ps)
runs-apart ends_idle = tt
runs-apart (ends_running lt) = tt
runs-apart (idles r) = runs-apart r
runs-apart (starts r) = runs-apart r
runs-apart (goes_on lt why r) = runs-apart r
runs-apart (stops {h} lt long r) = apart-after _ _ (h + 1) (omega arith) (runs_rising r (h + 1) (omega arith)) (runs-apart r)

-- Without a minimum run time an hour belongs if it is marked, so that the same holds of the stretches of any marks.
held-nothing : (ran : ℕ) (marks : List Bool) → held_from 0 ran marks ≡ marks
held-nothing ran [] = refl
held-nothing ran (true ∷ rest) = cc (held-nothing (ran + 1) rest)
held-nothing ran (false ∷ rest) = grind (arith, nat_tests, held-nothing 0 rest)

not-held : (ps : List Stretch) (h : ℕ) → HeldOn 0 ps h → ⊥
not-held [] h x = x
not-held (p ∷ ps) h (inl on) = omega arith
not-held (p ∷ ps) h (inr x) = not-held ps h x

pub longest : (marks : List Bool) → Longest marks (stretches marks)
longest marks = subst (λ bs. Longest marks (stretches bs)) (held-nothing 0 marks) (record {
  marked_hours_lie_in_one = flagged-held 0 marks;
  their_hours_are_marked = λ h i. ⊎_elim (λ f. f) (λ on. absurd (not-held _ h on)) (held_explained 0 marks h i);
  an_hour_lies_between = runs-apart (idle 0 marks 1);
})
