-- The share law, which every sharing rule keeps where no refusal is due.
--
--   Fair   these shares keep it
--
-- Two more parts of the law need no word here: a rule's meaning is a function, so equal totals and rows get equal shares, and
-- which calls are refused is the same for every rule (Admission).
use Rattle.std.specs.Prelude.{◌≡◌, ℕ, List, length, pos, ◌≤ℤ◌, sum, slice_index}
use Rattle.sharing.specs.declared.rows.MemberRow.{MemberRow}
use Rattle.sharing.specs.Rows.{demands, deviations}

pub record Fair (total : ℕ) (rows : List MemberRow) (shares : List ℕ) : Type 0 where
  pub as_many : length shares ≡ length rows
  pub adds_up : sum shares ≡ total
  pub nobody_below_zero : (k : ℕ) → pos 0 ≤ℤ pos (slice_index shares k)
  -- at each place k: a member with neither demand nor deviation
  pub idle_bear_nothing : (k : ℕ) → slice_index (demands rows) k ≡ 0 → slice_index (deviations rows) k ≡ 0 → slice_index shares k ≡ 0
