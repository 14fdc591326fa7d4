-- A total that may be shared among its rows.
--
--   levy_parts   the total and the rows, or the refusal
use Rattle.std.specs.Prelude.{ℕ, List, Ok, Err, Result}
use Rattle.refusal.specs.declared.cause.Refusal.{Refusal}
use Rattle.sharing.specs.declared.rows.MemberRow.{MemberRow}
use Rattle.sharing.specs.declared.levy.Levy.{Levy}

abbrev pub levy_parts : Result Levy Refusal → Result (ℕ × List MemberRow) Refusal
levy_parts (Ok levy) = Ok (levy.total, levy.rows.now)
levy_parts (Err refusal) = Err refusal
