-- A total shared by weight, to the last cent.
--
--   quotient   what members of weight `upto` bear together of a total, out of a weight of `whole`; fraction dropped
--   part       one member's share: its quotient less the quotient of the members before it
--   pro_rata   every member's share; pro_rata_from the same of some members and those behind them
--   UpTo       the shares up to and with a member add up to total × (weight up to and with it) ÷ W, fraction dropped,
--              W being the weight of all
--
-- Here x / 0 is 0, so where nobody has weight all shares are zero.
use Rattle.std.specs.Prelude.{◌≡◌, ℕ, ◌+◌, ◌-◌, ◌*◌, ◌/◌, ◌≤◌, List, [], ◌∷◌, length, take, sum}

abbrev pub quotient : ℕ → ℕ → ℕ → ℕ
quotient total whole upto = total * upto / whole

abbrev pub part : ℕ → ℕ → ℕ → ℕ → ℕ
part total whole before weight = quotient total whole (before + weight) - quotient total whole before

-- `before` is the weight of those before them
abbrev pub pro_rata_from : ℕ → ℕ → ℕ → List ℕ → List ℕ
pro_rata_from total whole before [] = []
pro_rata_from total whole before (weight ∷ weights) = part total whole before weight ∷ pro_rata_from total whole (before + weight) weights

abbrev pub pro_rata : ℕ → List ℕ → List ℕ
pro_rata total weights = pro_rata_from total (sum weights) 0 weights

abbrev pub UpTo : ℕ → List ℕ → List ℕ → Type 0
UpTo total weights shares = (k : ℕ) → k ≤ length weights → sum (take k shares) ≡ total * sum (take k weights) / sum weights
