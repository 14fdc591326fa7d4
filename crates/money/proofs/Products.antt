-- Sizes of signed products and sums.
use Rattle.std.proofs.Common.{◌≡◌, ℕ, zero, suc, ◌+◌, ◌*◌, ◌≤◌, ℤ, pos, negsuc, ◌+ℤ◌, ◌*ℤ◌, neg_ℤ, nat_abs, sym, refl, subst, arith}
use Rattle.std.proofs.lemmas.Int.{unsigned_abs-mul}
use Rattle.std.proofs.lemmas.Nat.{mul-le}

pub abs_neg : (n : ℕ) → nat_abs (neg_ℤ (pos n)) ≡ n
abs_neg zero = refl
abs_neg (suc n) = refl

pub abs_negℤ : (z : ℤ) → nat_abs (neg_ℤ z) ≡ nat_abs z
abs_negℤ (pos n) = abs_neg n
abs_negℤ (negsuc n) = refl

-- a product is within the product of the limits
pub abs-mul-le : (a b : ℤ) (m n : ℕ) → nat_abs a ≤ m → nat_abs b ≤ n → nat_abs (a *ℤ b) ≤ m * n
abs-mul-le a b m n h k = subst (λ z. z ≤ m * n) (sym (unsigned_abs-mul a b)) (mul-le _ _ m n h k)

pub abs-add-le : (x y : ℤ) → nat_abs (x +ℤ y) ≤ nat_abs x + nat_abs y
abs-add-le (pos a) (pos b) = omega arith
abs-add-le (pos a) (negsuc b) = grind arith
abs-add-le (negsuc a) (pos b) = grind arith
abs-add-le (negsuc a) (negsuc b) = omega arith
