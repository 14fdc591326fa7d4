-- A generator's own schedule, and the periods that it is bound to by it.
--
--   flags        an hour is flagged if its self-schedule is above zero
--   periods_of   the self-commitment periods of a generator's day
use Rattle.std.specs.Prelude.{Bool, List, map, Option, nat_lt}
use Rattle.commitment.specs.declared.stretch.Stretch.{Stretch}
use Rattle.commitment.specs.Commitment.{periods}
use Rattle.hours.specs.declared.records.HourRecord.{HourRecord}
use Rattle.hours.specs.Days.{counted}
use Rattle.tariff.specs.declared.generator.Generator.{Generator}

abbrev pub flagged : Option HourRecord → Bool
flagged slot = nat_lt 0 (counted slot).self_schedule

abbrev pub flags : List (Option HourRecord) → List Bool
flags slots = map flagged slots

abbrev pub periods_of : Generator → List (Option HourRecord) → List Stretch
periods_of g slots = periods g.mrt g.mdt g.mds g.carried_in (flags slots)
