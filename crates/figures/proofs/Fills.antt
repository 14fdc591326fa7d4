-- What stands at an index of a list whose elements are mapped.
use Rattle.std.proofs.Common.{◌≡◌, ℕ, zero, suc, ◌<◌, List, [], ◌∷◌, map, length, get_or, arith}
use Rattle.std.specs.List.{slice_get}
use Rattle.std.specs.Option.{IfSome}

-- y is h of the element of xs at index i, if there is one
pub of_element : {B X : Type 0} (h : X → B) (xs : List X) (i : ℕ) (y d : B) → IfSome (slice_get xs i) (λ x. y ≡ h x) → i < length (map h xs) → y ≡ get_or (map h xs) i d
of_element h [] i y d is below = absurd (omega arith)
of_element h (x ∷ xs) zero y d is below = is
of_element h (x ∷ xs) (suc i) y d is below = of_element h xs i y d is (omega arith)
