-- What it tells that a call is admitted: that its total is due, and all that is due is admitted.
use Rattle.std.specs.Prelude.{◌≡◌, ℕ, ◌≤◌, List, length, ℤ, pos, negsuc, Ok}
use Rattle.std.proofs.Common.{ap, ◌∙◌, arith}
use Rattle.std.proofs.lemmas.Bool.Decides.{nat_tests}
use Rattle.sharing.specs.declared.rows.MemberRow.{MemberRow}
use Rattle.sharing.specs.Admission.{admitted, Due}

pub admitted_ok : (total : ℤ) (rows : List MemberRow) (there n : ℕ) → admitted total rows there ≡ Ok n → (total ≡ pos n) × Due n rows × (length rows ≤ there)
admitted_ok (pos t) rows there n e = (
  ap pos (grind (arith, nat_tests)),
  record {
    total_in_range = grind (arith, nat_tests);
    few_rows = grind (arith, nat_tests);
    demand_in_range = grind (arith, nat_tests);
    deviation_in_range = grind (arith, nat_tests);
    somebody_bears = λ h. grind (arith, nat_tests);
  },
  grind (arith, nat_tests),
)
admitted_ok (negsuc t) rows there n e = let z : ◌≡◌ {A = ℕ} 0 1 = cc in absurd (omega arith)

pub due-admitted : (total : ℤ) (t : ℕ) (rows : List MemberRow) (there : ℕ) → total ≡ pos t → Due t rows → length rows ≤ there → admitted total rows there ≡ Ok t
due-admitted total t rows there e due h =
    let ok : admitted (pos t) rows there ≡ Ok t = grind (arith, nat_tests) in
    ap (λ z. admitted z rows there) e ∙ ok
