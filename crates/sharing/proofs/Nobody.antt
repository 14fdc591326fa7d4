-- A call is refused for want of demand just where nobody bears its total.
use Rattle.std.proofs.Common.{◌≡◌, ℕ, ◌<◌, ◌≤◌, List, [], ◌∷◌, ℤ, pos, negsuc, Ok, Err, sum, Result, refl, sym, ap, ◌∙◌, arith}
use Rattle.std.specs.List.{AllByRecursion}
use Rattle.std.proofs.lemmas.Int.{ints}
use Rattle.std.proofs.lemmas.Bool.Decides.{nat_tests}
use Rattle.refusal.specs.declared.cause.Refusal.{Refusal}
use Rattle.sharing.specs.declared.rows.MemberRow.{MemberRow}
use Rattle.sharing.specs.Rows.{demands}
use Rattle.sharing.specs.Admission.{most_total, admitted, answered, no_demand, Exactly, NobodyBears}
use Rattle.sharing.specs.Quotients.{sum-cons}

-- the sum of demand is zero just where each row's is
none_each : (rows : List MemberRow) → sum (demands rows) ≡ 0 → AllByRecursion (λ r. r.demand ≡ 0) rows
none_each [] e = tt
none_each (r ∷ rows) e =
    let s = sum-cons r.demand (demands rows) in
    (omega arith, none_each rows (omega arith))

none-sum : (rows : List MemberRow) → AllByRecursion (λ r. r.demand ≡ 0) rows → sum (demands rows) ≡ 0
none-sum [] all = refl
none-sum (r ∷ rows) all = omega (arith, sum-cons r.demand (demands rows), all.0, none-sum rows all.1)

refused_nobody : (total : ℤ) (rows : List MemberRow) (there : ℕ) → admitted total rows there ≡ Err no_demand → NobodyBears total rows there
refused_nobody (pos t) rows there e =
    let above : 0 < t = grind (arith, nat_tests) in
    let low : t ≤ most_total = grind (arith, nat_tests) in
    record {
      above_zero = omega (arith, ints);
      in_range = omega (arith, ints);
      few_rows = grind (arith, nat_tests);
      deviation_in_range = grind (arith, nat_tests);
      room = grind (arith, nat_tests);
      nobody_has_demand = none_each rows (grind (arith, nat_tests));
    }
refused_nobody (negsuc t) rows there e = let z : ◌≡◌ {A = ℕ} 0 1 = cc in absurd (omega arith)

nobody_refused : (total : ℤ) (rows : List MemberRow) (there : ℕ) → NobodyBears total rows there → admitted total rows there ≡ Err no_demand
nobody_refused (pos t) rows there n =
    let above : 0 < t = omega (arith, ints, n.above_zero) in
    let low : t ≤ most_total = omega (arith, ints, n.in_range) in
    let none = none-sum rows n.nobody_has_demand in
    grind (arith, nat_tests)
nobody_refused (negsuc t) rows there n = absurd (omega (arith, ints, n.above_zero))

module _ (total : ℤ) (rows : List MemberRow) (there : ℕ) where
  pub nobody_exactly : (r : Result ℕ Refusal) → r ≡ admitted total rows there → Exactly (r ≡ Err no_demand) (NobodyBears total rows there)
  nobody_exactly r e = (λ n. refused_nobody total rows there (sym e ∙ n), λ n. e ∙ nobody_refused total rows there n)

  -- the same of what a rule replies
  pub answered_nobody : (a : Result ℕ Refusal) → a ≡ admitted total rows there → Exactly (answered a (λ _. tt {0}) ≡ Err no_demand) (NobodyBears total rows there)
  answered_nobody (Ok t) e = (λ r. cc, λ n. let refused = nobody_refused total rows there n in cc)
  answered_nobody (Err cause) e = (
    λ r. let same : cause ≡ no_demand = cc in refused_nobody total rows there (sym e ∙ ap Err same),
    λ n. let refused = nobody_refused total rows there n in cc,
  )
