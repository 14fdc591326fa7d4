-- What a book lends to be added up.
--
--   Lends       its places and resources are those that a book holds
--   CallsRoll   its members, too
use Rattle.std.specs.Prelude.{◌≡◌}
use Rattle.figures.specs.declared.rows.Roll.{Roll}
use Rattle.figures.specs.declared.standing.Standing.{Standing}
use Rattle.figures.specs.Rolls.{members_in}
use Rattle.figures.specs.Standing.{places_in, resources_in}
use Rattle.daybook.specs.Held.{Held}

pub record Lends (s : Standing) (v : Held) : Type 0 where
  pub places : places_in s ≡ v.places
  pub resources : resources_in s ≡ v.resources

pub record CallsRoll (r : Roll) (v : Held) : Type 0 where
  pub members : members_in r ≡ v.members
  pub records : Lends r.standing v
