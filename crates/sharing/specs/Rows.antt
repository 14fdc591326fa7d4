-- What a rule reads off the members' rows, in their order.
--
--   demands      each member's demand
--   deviations   each member's deviation
use Rattle.std.specs.Prelude.{ℕ, List, map}
use Rattle.sharing.specs.declared.rows.MemberRow.{MemberRow}

abbrev pub demands : List MemberRow → List ℕ
demands rows = map (λ r. r.demand) rows

abbrev pub deviations : List MemberRow → List ℕ
deviations rows = map (λ r. r.deviation) rows
