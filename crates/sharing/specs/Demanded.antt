-- Sharing by demand keeps the share law.
use Rattle.std.specs.Prelude.{◌≡◌, ℕ, zero, suc, ◌+◌, List, [], ◌∷◌, ◌++◌, length, replicate, sum, ◌==◌, refl}
use Rattle.std.proofs.Common.{sym, ap, ap₂, ◌∙◌, zero-mul, arith}
use Rattle.std.proofs.Math.Nat.{zero-div}
use Rattle.std.proofs.lemmas.List.{length-map}
use Rattle.std.proofs.lemmas.Int.{ints}
use Rattle.std.proofs.lemmas.Bool.{cond_both, eqb-true}
use Rattle.sharing.specs.declared.rows.MemberRow.{MemberRow}
use Rattle.sharing.specs.Rows.{demands}
use Rattle.sharing.specs.Admission.{Due}
use Rattle.sharing.specs.ShareLaw.{Fair}
use Rattle.sharing.specs.ProRata.{part, pro_rata_from, pro_rata, UpTo}
use Rattle.sharing.specs.Rules.{by_demand}
use Rattle.sharing.specs.Quotients.{length-pro_rata, front_up_to, pro_rata_adds_up, pro_rata-within, pro_rata-idle}

zero-part : (whole before weight : ℕ) → part 0 whole before weight ≡ 0
zero-part whole before weight = simp (zero-mul, zero-div)

zero-from : (whole before : ℕ) (weights : List ℕ) → pro_rata_from 0 whole before weights ≡ replicate (length weights) 0
zero-from whole before [] = refl
zero-from whole before (w ∷ ws) = ap₂ (λ x xs. x ∷ xs) (zero-part whole before w) (zero-from whole (before + w) ws)

-- the zeros of the rule are what pro rata gives too, so what is known of pro rata serves
pub by_demand-is : (total : ℕ) (rows : List MemberRow) → by_demand total rows ≡ pro_rata total (demands rows)
by_demand-is total rows =
    let weights = demands rows in
    let n : length rows ≡ length weights = sym (length-map rows (λ (r : MemberRow). r.demand)) in
    cond_both (total == 0) (replicate (length rows) 0) (pro_rata total weights) (λ l. l ≡ pro_rata total weights)
    (λ e. ap (λ k. replicate k 0) n ∙ sym (zero-from (sum weights) 0 weights) ∙ ap (λ t. pro_rata t weights) (sym (eqb-true total 0 e)))
    (λ _. refl)

pub by_demand_up_to : (total : ℕ) (rows : List MemberRow) (rest : List ℕ) → UpTo total (demands rows) (by_demand total rows ++ rest)
by_demand_up_to total rows rest = rw (by_demand-is total rows) (front_up_to total (demands rows) rest)

pub pro_rata_fair : (total : ℕ) (rows : List MemberRow) → Due total rows → Fair total rows (pro_rata total (demands rows))
pro_rata_fair total rows due = record {
  as_many = length-pro_rata total (demands rows) ∙ length-map rows (λ (r : MemberRow). r.demand);
  adds_up = whole total due;
  nobody_below_zero = λ k. omega (arith, ints);
  idle_bear_nothing = λ k none _. pro_rata-idle total (demands rows) k none;
}
  where
    whole : (t : ℕ) → Due t rows → sum (pro_rata t (demands rows)) ≡ t
    whole zero due = omega (arith, pro_rata-within 0 (demands rows))
    whole (suc t) due = pro_rata_adds_up (suc t) (demands rows) (due.somebody_bears (omega arith))
