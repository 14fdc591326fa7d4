-- Cases worked by hand.
--
--   outcome        the shares that a rule makes, or the refusal
--   row            a member's row; nothing hangs on the id
--   WorkedShares   the cases
use Rattle.std.specs.Prelude.{◌≡◌, ℕ, List, [], ◌∷◌, length, ℤ, pos, Ok, Err, Result}
use Rattle.refusal.specs.Refusals.{number_of}
use Rattle.refusal.specs.declared.cause.Refusal.{Refusal}
use Rattle.sharing.specs.declared.rows.MemberRow.{MemberRow}
use Rattle.sharing.specs.Admission.{admitted, answered, no_demand}
use Rattle.sharing.specs.Rules.{by_demand, capped}

abbrev pub outcome : (ℕ → List MemberRow → List ℕ) → ℤ → List MemberRow → Result (List ℕ) Refusal
outcome rule total rows = answered (admitted total rows (length rows)) (λ t. rule t rows)

abbrev pub row : ℕ → ℕ → MemberRow
row demand deviation = record { id = 1; demand = demand; deviation = deviation }

pub record WorkedShares : Type 0 where
  pub ten_over_equal_demands : outcome by_demand (pos 10) (row 1 0 ∷ row 1 0 ∷ row 1 0 ∷ []) ≡ Ok (3 ∷ 3 ∷ 4 ∷ [])
  pub zero_over_no_demand : outcome by_demand (pos 0) (row 0 0 ∷ row 0 0 ∷ []) ≡ Ok (0 ∷ 0 ∷ [])
  pub one_over_no_demand : outcome by_demand (pos 1) (row 0 0 ∷ row 0 0 ∷ []) ≡ Err no_demand
  pub no_demand_is_14 : number_of no_demand ≡ 14
  pub a_tier_of_rate_20 : outcome (capped 20 by_demand) (pos 100) (row 4000 1000 ∷ row 4000 3000 ∷ []) ≡ Ok (30 ∷ 70 ∷ [])
