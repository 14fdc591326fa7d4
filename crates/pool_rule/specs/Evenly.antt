-- Equal parts keep the share law.
use Rattle.std.specs.Prelude.{◌≡◌, ℕ, zero, suc, ◌+◌, ◌-◌, ◌*◌, ◌/◌, ◌%◌, ◌≤◌, min, Bool, true, false, cond, List, [], ◌∷◌, length, sum, nat_lt, slice_index, refl}
use Rattle.std.proofs.Common.{sym, ap, ◌∙◌, ⊎_elim, add-mul, one-mul, mod-lt, arith}
use Rattle.std.proofs.Math.Nat.{div-add-mod}
use Rattle.std.proofs.lemmas.Int.{ints}
use Rattle.std.proofs.lemmas.List.Sums.{sum_by-cons}
use Rattle.std.proofs.lemmas.Bool.{cases_lt}
use Rattle.std.proofs.lemmas.Bool.Decides.{nat_tests}
use Rattle.sharing.specs.declared.rows.MemberRow.{MemberRow}
use Rattle.sharing.specs.Rows.{demands}
use Rattle.sharing.specs.Admission.{Due}
use Rattle.sharing.specs.ShareLaw.{Fair}
use Rattle.sharing.specs.Quotients.{sum-cons}
use Rattle.pool_rule.specs.EqualParts.{bears, bearers, part_of, left_after, parts_from, equal_parts}

bearers-cons : (r : MemberRow) (rows : List MemberRow) → bearers (r ∷ rows) ≡ cond (bears r) 1 0 + bearers rows
bearers-cons r rows = sum_by-cons (λ (x : MemberRow). cond (bears x) 1 0) r rows

length_parts : (even left : ℕ) (rows : List MemberRow) → length (parts_from even left rows) ≡ length rows
length_parts even left [] = refl
length_parts even left (r ∷ rows) = ap suc (length_parts even (left_after left r) rows)

-- a member that bears, or one that does not, before `count` that bear
sum_step : (bearing : Bool) (even left count : ℕ) (rest : ℕ → ℕ) → ((l : ℕ) → rest l ≡ count * even + min l count)
    → cond bearing (even + min left 1) 0 + rest (cond bearing (left - 1) left) ≡ (cond bearing 1 0 + count) * even + min left (cond bearing 1 0 + count)
sum_step true even left count rest h = omega (arith, h (left - 1), add-mul 1 count even, one-mul even)
sum_step false even left count rest h = omega (arith, h left, add-mul 0 count even)

sum_parts : (even left : ℕ) (rows : List MemberRow) → sum (parts_from even left rows) ≡ bearers rows * even + min left (bearers rows)
sum_parts even left [] = omega arith
sum_parts even left (r ∷ rows) =
    sum-cons (part_of even left r) (parts_from even (left_after left r) rows)
    ∙ sum_step (bears r) even left (bearers rows) (λ l. sum (parts_from even l rows)) (λ l. sum_parts even l rows)
    ∙ ap (λ n. n * even + min left n) (sym (bearers-cons r rows))

nobody_bears : (rows : List MemberRow) → bearers rows ≡ 0 → sum (demands rows) ≡ 0
nobody_bears [] e = refl
nobody_bears (r ∷ rows) e =
    let here = bearers-cons r rows in
    let none : r.demand ≡ 0 = grind (arith, nat_tests) in
    omega (arith, sum-cons r.demand (demands rows), nobody_bears rows (omega arith))

idle_parts : (k even left : ℕ) (rows : List MemberRow) → slice_index (demands rows) k ≡ 0 → slice_index (parts_from even left rows) k ≡ 0
idle_parts k even left [] none = refl
idle_parts zero even left (r ∷ rows) none = ap (λ demand. cond (nat_lt 0 demand) (even + min left 1) 0) none
idle_parts (suc k) even left (r ∷ rows) none = idle_parts k even (left_after left r) rows none

module _ (total : ℕ) (rows : List MemberRow) (due : Due total rows) where
  -- the cents left over are no more than the members that bear them
  left_within : total % bearers rows ≤ bearers rows
  left_within =
      let n = bearers rows in
      ⊎_elim
      (λ some. omega (arith, mod-lt total some))
      (λ none. ⊎_elim
      (λ above. absurd (omega (arith, nobody_bears rows (omega arith), due.somebody_bears above)))
      (λ nothing. omega (arith, div-add-mod total n))
      (cases_lt 0 total))
      (cases_lt 0 n)

  whole : sum (equal_parts total rows) ≡ total
  whole =
      let n = bearers rows in
      omega (arith, sum_parts (total / n) (total % n) rows, left_within, div-add-mod total n)

  pub equal_parts_fair : Fair total rows (equal_parts total rows)
  equal_parts_fair = record {
    as_many = length_parts (total / bearers rows) (total % bearers rows) rows;
    adds_up = whole;
    nobody_below_zero = λ k. omega (arith, ints);
    idle_bear_nothing = λ k none _. idle_parts k (total / bearers rows) (total % bearers rows) rows none;
  }
