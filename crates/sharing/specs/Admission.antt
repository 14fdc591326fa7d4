-- Which calls a sharing rule refuses, and what becomes of the share list.
--
--   most_total    the most that is shared, in cents; most_rows: the most rows; most_energy: the most kWh over all rows
--   outside       the total is not one that a rule takes
--   no_demand     nobody bears the total; the rule is asked by itself, so no pot is named
--   admitted      the total, or the first refusal that is due
--   answered      what a call replies: something made of the admitted total, or the refusal
--   written       a list with others written over its front, its rest as it was
--   filled        the share list after a call: the shares at its front, or as it was
--   Due           nothing in the total and the rows is to be refused
--   NobodyBears   a total above zero that no other test refuses, and every row without demand
--   Exactly       the one holds just where the other does
use Rattle.std.specs.Prelude.{◌≡◌, ℕ, ◌<◌, ◌≤◌, Bool, cond, ◌&&◌, ◌||◌, List, ◌++◌, length, drop, ℤ, pos, ◌≤ℤ◌, ◌<ℤ◌, Ok, Err, sum, Result, ◌==◌, int_lt, nat_lt, unsigned_abs}
use Rattle.std.specs.List.{AllByRecursion}
use Rattle.refusal.specs.declared.cause.Refusal.{Refusal}
use Rattle.refusal.specs.declared.cause.Refusal.TheVariants.{FieldOutOfRange, TooFewRows, NoDemand}
use Rattle.refusal.specs.declared.kinds.Pot.TheVariants.{Unnamed}
use Rattle.sharing.specs.declared.rows.MemberRow.{MemberRow}
use Rattle.sharing.specs.Rows.{demands, deviations}

abbrev pub most_total : ℕ
most_total = 50000000000

abbrev pub most_rows : ℕ
most_rows = 16

abbrev pub most_energy : ℕ
most_energy = 153600000

abbrev pub outside : ℤ → Bool
outside total = int_lt total (pos 0) || int_lt (pos most_total) total

abbrev pub no_demand : Refusal
no_demand = NoDemand Unnamed

-- `there` is how many entries the share list has
abbrev pub admitted : ℤ → List MemberRow → ℕ → Result ℕ Refusal
admitted total rows there =
    cond (outside total) (Err (FieldOutOfRange 1))
    (cond (nat_lt most_rows (length rows)) (Err (FieldOutOfRange 2))
    (cond (nat_lt most_energy (sum (demands rows))) (Err (FieldOutOfRange 3))
    (cond (nat_lt most_energy (sum (deviations rows))) (Err (FieldOutOfRange 4))
    (cond (nat_lt there (length rows)) (Err (TooFewRows (length rows) there))
    (cond (int_lt (pos 0) total && sum (demands rows) == 0) (Err no_demand)
    (Ok (unsigned_abs total)))))))

abbrev pub answered : {X : Type 0} → Result ℕ Refusal → (ℕ → X) → Result X Refusal
answered (Ok total) make = Ok (make total)
answered (Err refusal) make = Err refusal

abbrev pub written : List ℕ → List ℕ → List ℕ
written xs list = xs ++ drop (length xs) list

abbrev pub filled : Result ℕ Refusal → (ℕ → List ℕ) → List ℕ → List ℕ
filled (Ok total) shares list = written (shares total) list
filled (Err refusal) shares list = list

pub record Due (total : ℕ) (rows : List MemberRow) : Type 0 where
  pub total_in_range : total ≤ most_total
  pub few_rows : length rows ≤ most_rows
  pub demand_in_range : sum (demands rows) ≤ most_energy
  pub deviation_in_range : sum (deviations rows) ≤ most_energy
  pub somebody_bears : 0 < total → 0 < sum (demands rows)

pub record NobodyBears (total : ℤ) (rows : List MemberRow) (there : ℕ) : Type 0 where
  pub above_zero : pos 0 <ℤ total
  pub in_range : total ≤ℤ pos most_total
  pub few_rows : length rows ≤ most_rows
  pub deviation_in_range : sum (deviations rows) ≤ most_energy
  pub room : length rows ≤ there
  -- so the sum of demand is in range, too
  pub nobody_has_demand : AllByRecursion (λ r. r.demand ≡ 0) rows

abbrev pub Exactly : Type 0 → Type 0 → Type 0
Exactly p q = (p → q) × (q → p)
