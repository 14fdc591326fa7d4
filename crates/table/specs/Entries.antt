-- Lists of entries. An entry's key stands as its rank, the number that keys are ordered by.
--
--   position    where the first entry with a key stands, if there is one
--   lookup      that entry
--   inserted    the entries and one more, before the first whose key is not below its own
--   replaced    the entries with the first that has the key of another exchanged for it, if there is one
--   same_keys   whether two lists have the same keys in the same order
--   Rising      each key is above the one before
use Rattle.std.specs.Prelude.{◌≡◌, ℕ, ◌+◌, Bool, true, false, cond, ◌&&◌, List, [], ◌∷◌, map, Some, None, Option, ◌==◌, nat_lt}

-- counted from i
abbrev pub position_from : {E : Type 0} → (E → ℕ) → ℕ → ℕ → List E → Option ℕ
position_from key k i [] = None
position_from key k i (x ∷ xs) = cond (key x == k) (Some i) (position_from key k (i + 1) xs)

abbrev pub position : {E : Type 0} → (E → ℕ) → ℕ → List E → Option ℕ
position key k xs = position_from key k 0 xs

abbrev pub lookup : {E : Type 0} → (E → ℕ) → ℕ → List E → Option E
lookup key k [] = None
lookup key k (x ∷ xs) = cond (key x == k) (Some x) (lookup key k xs)

abbrev pub inserted : {E : Type 0} → (E → ℕ) → E → List E → List E
inserted key e [] = e ∷ []
inserted key e (x ∷ xs) = cond (nat_lt (key x) (key e)) (x ∷ inserted key e xs) (e ∷ (x ∷ xs))

abbrev pub replaced : {E : Type 0} → (E → ℕ) → E → List E → List E
replaced key e [] = []
replaced key e (x ∷ xs) = cond (key x == key e) (e ∷ xs) (x ∷ replaced key e xs)

abbrev pub same_keys : {E : Type 0} → (E → ℕ) → List E → List E → Bool
same_keys key [] [] = true
same_keys key [] (y ∷ ys) = false
same_keys key (x ∷ xs) [] = false
same_keys key (x ∷ xs) (y ∷ ys) = key x == key y && same_keys key xs ys

-- the first is above k
abbrev pub rises_from : ℕ → List ℕ → Bool
rises_from k [] = true
rises_from k (n ∷ ns) = nat_lt k n && rises_from n ns

abbrev pub rises : List ℕ → Bool
rises [] = true
rises (n ∷ ns) = rises_from n ns

abbrev pub Rising : {E : Type 0} → (E → ℕ) → List E → Type 0
Rising key xs = rises (map key xs) ≡ true
