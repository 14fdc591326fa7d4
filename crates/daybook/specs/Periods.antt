-- Periods as they are answered.
--
--   listed_in   the list of periods in an answer, or its refusal
use Rattle.std.specs.Prelude.{List, Ok, Err, Result}
use Rattle.refusal.specs.declared.cause.Refusal.{Refusal}
use Rattle.commitment.specs.declared.stretch.Stretch.{Stretch}
use Rattle.commitment.specs.declared.stretch.Stretches.{Stretches}
use Rattle.commitment.specs.Stretches.{listed}

abbrev pub listed_in : Result Stretches Refusal → Result (List Stretch) Refusal
listed_in (Ok ps) = Ok (listed ps)
listed_in (Err e) = Err e
