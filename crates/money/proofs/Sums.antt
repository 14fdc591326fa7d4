-- A sum far from the ends of i64 is not held there.
use Rattle.std.proofs.Common.{◌≡◌, ◌^◌, ◌≤◌, ℤ, pos, negsuc, ◌+ℤ◌, nat_abs, ap, ◌∙◌, arith, w64, to_z, of_z}
use Rattle.std.specs.Int.{saturate_to_bits}
use Rattle.std.proofs.lemmas.Int.{to_z-of_z, fits_signed_from_abs}
use Rattle.money.proofs.Products.{abs-add-le}

-- what `plus` gives, of numbers read from their bits
abbrev pub held : ℤ → ℤ → ℤ
held a x = saturate_to_bits 63 (to_z w64 (of_z w64 a) +ℤ to_z w64 (of_z w64 x))

within : (z : ℤ) → nat_abs z ≤ 2 ^ 61 → saturate_to_bits 63 z ≡ z
within (pos n) h = ap pos (omega arith)
within (negsuc n) h = ap negsuc (omega arith)

pub held-exact : (a x : ℤ) → nat_abs a ≤ 2 ^ 60 → nat_abs x ≤ 2 ^ 60 → held a x ≡ a +ℤ x
held-exact a x h k =
    let e = to_z-of_z w64 a (fits_signed_from_abs w64 a (omega arith)) in
    let f = to_z-of_z w64 x (fits_signed_from_abs w64 x (omega arith)) in
    (λ i. saturate_to_bits 63 (e i +ℤ f i)) ∙ within (a +ℤ x) (omega (arith, abs-add-le a x))
