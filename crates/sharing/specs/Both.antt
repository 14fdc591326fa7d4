-- Two lists, place by place: their lengths, places and sums.
use Rattle.std.specs.Prelude.{◌≡◌, ℕ, zero, suc, ◌+◌, ◌≤◌, min, List, [], ◌∷◌, ◌++◌, length, sum, slice_index, refl}
use Rattle.std.proofs.Common.{sym, ap, arith}
use Rattle.sharing.specs.Rules.{both}
use Rattle.sharing.specs.Quotients.{sum-cons}

module _ (f : ℕ → ℕ → ℕ) where
  pub length_both : (xs ys : List ℕ) → length xs ≡ length ys → length (both f xs ys) ≡ length xs
  length_both [] ys e = refl
  length_both (x ∷ xs) [] e = absurd (omega arith)
  length_both (x ∷ xs) (y ∷ ys) e = ap suc (length_both xs ys (omega arith))

  pub get_or-both : (xs ys : List ℕ) → length xs ≡ length ys → f 0 0 ≡ 0 → (k : ℕ) → slice_index (both f xs ys) k ≡ f (slice_index xs k) (slice_index ys k)
  get_or-both [] [] e z k = sym z
  get_or-both [] (y ∷ ys) e z k = absurd (omega arith)
  get_or-both (x ∷ xs) [] e z k = absurd (omega arith)
  get_or-both (x ∷ xs) (y ∷ ys) e z zero = refl
  get_or-both (x ∷ xs) (y ∷ ys) e z (suc k) = get_or-both xs ys (omega arith) z k

  -- what goes beyond the shorter does not count
  pub both-front : (xs ys rest : List ℕ) → length xs ≡ length ys → both f (xs ++ rest) ys ≡ both f xs ys
  both-front [] [] [] e = refl
  both-front [] [] (r ∷ rest) e = refl
  both-front [] (y ∷ ys) rest e = absurd (omega arith)
  both-front (x ∷ xs) [] rest e = absurd (omega arith)
  both-front (x ∷ xs) (y ∷ ys) rest e = ap (λ l. f x y ∷ l) (both-front xs ys rest (omega arith))

  pub both-back : (xs ys rest : List ℕ) → length xs ≡ length ys → both f xs (ys ++ rest) ≡ both f xs ys
  both-back [] ys rest e = refl
  both-back (x ∷ xs) [] rest e = absurd (omega arith)
  both-back (x ∷ xs) (y ∷ ys) rest e = ap (λ l. f x y ∷ l) (both-back xs ys rest (omega arith))

pub sum_both : (xs ys : List ℕ) → length xs ≡ length ys → sum (both ◌+◌ xs ys) ≡ sum xs + sum ys
sum_both [] [] e = refl
sum_both [] (y ∷ ys) e = absurd (omega arith)
sum_both (x ∷ xs) [] e = absurd (omega arith)
sum_both (x ∷ xs) (y ∷ ys) e =
    omega (arith, sum_both xs ys (omega arith), sum-cons (x + y) (both ◌+◌ xs ys), sum-cons x xs, sum-cons y ys)

pub sum_lesser : (xs ys : List ℕ) → sum (both min xs ys) ≤ sum xs
sum_lesser [] ys = omega arith
sum_lesser (x ∷ xs) [] = omega arith
sum_lesser (x ∷ xs) (y ∷ ys) = omega (arith, sum_lesser xs ys, sum-cons (min x y) (both min xs ys), sum-cons x xs)
