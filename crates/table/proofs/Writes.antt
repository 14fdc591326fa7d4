-- What the first slots hold after a write.
use Rattle.std.proofs.Common.{◌≡◌, ℕ, ◌+◌, ◌<◌, ◌≤◌, min, List, ◌∷◌, ◌++◌, length, take, drop, sym, ap, ◌∙◌, arith}
use Rattle.std.proofs.lemmas.List.{length-take}
use Rattle.table.specs.Entries.{inserted}

-- the first m slots are the entries, n is how many there are, and rows is a loan of them
module _ {E : Type 0} (key : E → ℕ) where
  pub grown : (e : E) (slots slots' rows : List E) (m n at room : ℕ) → m ≤ length slots → n ≡ length (take m slots) → n < room
      → rows ≡ take m slots → inserted key e rows ≡ take at rows ++ (e ∷ drop at rows)
      → take (n + 1) slots' ≡ take at (take n slots) ++ (e ∷ drop at (take n slots))
      → take (min (n + 1) room) slots' ≡ inserted key e (take m slots)
  grown e slots slots' rows m n at room l c h are splits o =
      let all : n ≡ m = omega (arith, length-take m slots) in
      let one : min (n + 1) room ≡ n + 1 = omega arith in
      let same : take n slots ≡ rows = ap (λ i. take i slots) all ∙ sym are in
      ap (λ i. take i slots') one ∙ o ∙ ap (λ ys. take at ys ++ (e ∷ drop at ys)) same ∙ sym splits ∙ ap (inserted key e) are
