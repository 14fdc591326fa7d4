-- Our sharing rules. Each makes one share for each row, in the order of the rows.
--
--   by_demand     a total of zero gives zeros, any other is shared by demand
--   both          two lists as one, place by place, as far as the shorter goes
--   cap           the most that a member bears in a tier: deviation × rate ÷ 1,000, fraction dropped; a rate above 200,000
--                 counts as 200,000
--   caps          every member's cap
--   own_amounts   what each member bears in a tier: the lesser of its share by deviation and its cap
--   capped        a tier over another rule: each member's own amount, and its share of the rest by the rule below
use Rattle.std.specs.Prelude.{ℕ, ◌+◌, ◌-◌, ◌*◌, ◌/◌, min, cond, List, [], ◌∷◌, map, length, replicate, sum, ◌==◌}
use Rattle.sharing.specs.declared.rows.MemberRow.{MemberRow}
use Rattle.sharing.specs.Rows.{demands, deviations}
use Rattle.sharing.specs.ProRata.{pro_rata}

abbrev pub by_demand : ℕ → List MemberRow → List ℕ
by_demand total rows = cond (total == 0) (replicate (length rows) 0) (pro_rata total (demands rows))

abbrev pub both : (ℕ → ℕ → ℕ) → List ℕ → List ℕ → List ℕ
both f [] ys = []
both f (x ∷ xs) [] = []
both f (x ∷ xs) (y ∷ ys) = f x y ∷ both f xs ys

abbrev pub cap : ℕ → ℕ → ℕ
cap rate deviation = deviation * min rate 200000 / 1000

abbrev pub caps : ℕ → List MemberRow → List ℕ
caps rate rows = map (cap rate) (deviations rows)

abbrev pub own_amounts : ℕ → ℕ → List MemberRow → List ℕ
own_amounts rate total rows = both min (pro_rata total (deviations rows)) (caps rate rows)

abbrev pub capped : ℕ → (ℕ → List MemberRow → List ℕ) → ℕ → List MemberRow → List ℕ
capped rate below total rows = both ◌+◌ (own_amounts rate total rows) (below (total - sum (own_amounts rate total rows)) rows)
