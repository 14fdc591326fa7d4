-- The laws of pro rata sharing, over any weights.
use Rattle.std.specs.Prelude.{◌≡◌, ℕ, zero, suc, ◌+◌, ◌-◌, ◌*◌, ◌/◌, ◌<◌, ◌≤◌, List, [], ◌∷◌, ◌++◌, length, take, sum, slice_index, refl}
use Rattle.std.proofs.Common.{sym, ap, ◌∙◌, add-zero, zero-add, mul-zero, mul_comm, mul-le-mul_left, mul-div_cancel, div-mul-le_self, le_trans, le_of_eq, arith}
use Rattle.std.proofs.Math.Nat.{zero-div, div-zero, div-le_of_le-mul}
use Rattle.std.proofs.lemmas.Nat.{le-div}
use Rattle.std.proofs.lemmas.List.{take_all, take-append-le}
use Rattle.std.proofs.lemmas.List.Sums.{sum_by-cons}
use Rattle.sharing.specs.ProRata.{quotient, pro_rata_from, pro_rata, UpTo}

pub sum-cons : (x : ℕ) (xs : List ℕ) → sum (x ∷ xs) ≡ x + sum xs
sum-cons x xs = sum_by-cons (λ (n : ℕ). n) x xs

div-rises : (w a b : ℕ) → a ≤ b → a / w ≤ b / w
div-rises zero a b h = rw (div-zero a, div-zero b) (omega arith)
div-rises (suc w) a b h = le-div (a / suc w) b (suc w) (omega arith) (le_trans (div-mul-le_self a (suc w)) h)

module _ (total whole : ℕ) where
  pub quotient-rises : (before weight : ℕ) → quotient total whole before ≤ quotient total whole (before + weight)
  quotient-rises before weight = div-rises whole (total * before) (total * (before + weight)) (mul-le-mul_left total (omega arith))

  length_from : (before : ℕ) (weights : List ℕ) → length (pro_rata_from total whole before weights) ≡ length weights
  length_from before [] = refl
  length_from before (w ∷ ws) = ap suc (length_from (before + w) ws)

  -- what was given before counts towards the quotient
  sum-from : (k before : ℕ) (weights : List ℕ)
      → sum (take k (pro_rata_from total whole before weights)) + quotient total whole before ≡ quotient total whole (before + sum (take k weights))
  sum-from zero before ws = simp (zero-add, add-zero)
  sum-from (suc k) before [] = simp (zero-add, add-zero)
  sum-from (suc k) before (w ∷ ws) =
      let rest = sum-from k (before + w) ws in
      let here = sum-cons (quotient total whole (before + w) - quotient total whole before) (take k (pro_rata_from total whole (before + w) ws)) in
      let same : before + w + sum (take k ws) ≡ before + sum (w ∷ take k ws) = omega (arith, sum-cons w (take k ws)) in
      let end = ap (quotient total whole) same in
      omega (arith, rest, here, quotient-rises before w, end)

  idle-from : (k before : ℕ) (weights : List ℕ) → slice_index weights k ≡ 0 → slice_index (pro_rata_from total whole before weights) k ≡ 0
  idle-from k before [] none = refl
  idle-from zero before (w ∷ ws) none = ap (λ n. quotient total whole (before + n) - quotient total whole before) none ∙ simp add-zero (omega arith)
  idle-from (suc k) before (w ∷ ws) none = idle-from k (before + w) ws none

module _ (total : ℕ) (weights : List ℕ) where
  pub length-pro_rata : length (pro_rata total weights) ≡ length weights
  length-pro_rata = length_from total (sum weights) 0 weights

  pub pro_rata_up_to : UpTo total weights (pro_rata total weights)
  pro_rata_up_to k h = simp (mul-zero, zero-div, zero-add, add-zero) at (sum-from total (sum weights) k 0 weights)

  pub front_up_to : (rest : List ℕ) → UpTo total weights (pro_rata total weights ++ rest)
  front_up_to rest k h =
      let n = length-pro_rata in
      ap sum (take-append-le k (pro_rata total weights) rest (omega arith)) ∙ pro_rata_up_to k h

  -- all of them together
  sum-pro_rata : sum (pro_rata total weights) ≡ total * sum weights / sum weights
  sum-pro_rata =
      let n = length-pro_rata in
      let shares : take (length weights) (pro_rata total weights) ≡ pro_rata total weights = take_all (length weights) (pro_rata total weights) (omega arith) in
      ap sum (sym shares) ∙ pro_rata_up_to (length weights) (omega arith)
      ∙ ap (λ l. total * sum l / sum weights) (take_all (length weights) weights (omega arith))

  pub pro_rata_adds_up : 0 < sum weights → sum (pro_rata total weights) ≡ total
  pro_rata_adds_up h = sum-pro_rata ∙ mul-div_cancel total h

  -- never more than the total, whatever the weights
  pub pro_rata-within : sum (pro_rata total weights) ≤ total
  pro_rata-within = rw sum-pro_rata (div-le_of_le-mul (sum weights) (le_of_eq (mul_comm total (sum weights))))

  pub pro_rata-idle : (k : ℕ) → slice_index weights k ≡ 0 → slice_index (pro_rata total weights) k ≡ 0
  pro_rata-idle k none = idle-from total (sum weights) k 0 weights none
