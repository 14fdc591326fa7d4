-- The members of a pool beside the records that stand.
--
--   members_in   the members that are lent
--   roll_seen    the members and the records, without the loans
--   roll_of      all of them, or nothing where there are more than 16 members
--   listed       the rows that are kept, in their order
use Rattle.std.specs.Prelude.{cond, List, length, take, Some, None, Option, nat_le}
use Rattle.std.specs.Option.{option_map}
use Rattle.sharing.specs.declared.rows.MemberRow.{MemberRow}
use Rattle.figures.specs.declared.rows.Roll.{Roll}
use Rattle.figures.specs.declared.rows.Rows.{Rows}
use Rattle.figures.specs.declared.standing.Member.{Member}
use Rattle.figures.specs.declared.standing.Place.{Place}
use Rattle.figures.specs.declared.standing.Resource.{Resource}
use Rattle.figures.specs.declared.standing.Standing.{Standing}
use Rattle.figures.specs.Standing.{places_in, resources_in}

abbrev pub members_in : Roll → List Member
members_in r = r.members.now

abbrev pub roll_seen : Option Roll → Option (List Member × List Place × List Resource)
roll_seen o = option_map (λ r. (members_in r, places_in r.standing, resources_in r.standing)) o

abbrev pub roll_of : List Member → Standing → Option (List Member × List Place × List Resource)
roll_of members s = cond (nat_le (length members) 16) (Some (members, places_in s, resources_in s)) None

abbrev pub listed : Rows → List MemberRow
listed rows = take rows.count rows.items
