-- What a day book holds.
--
--   Held           the day; members, places and resources by rising id, and how many of each there is room for; the number
--                  of the draft that is out; how many draft numbers are used
--   held           what a book holds
--   opened         what it holds once it is opened over tables of so many entries
--   with_members   the same with another table of members; with_places, with_resources
use Rattle.std.specs.Prelude.{ℕ, min, List, [], None, Option}
use Rattle.table.specs.Tables.{entries, room}
use Rattle.figures.specs.declared.standing.Member.{Member}
use Rattle.figures.specs.declared.standing.Place.{Place}
use Rattle.figures.specs.declared.standing.Resource.{Resource}
use Rattle.daybook.specs.declared.book.DayBook.{DayBook}

pub record Held : Type 0 where
  pub day : ℕ
  pub members : List Member
  pub places : List Place
  pub resources : List Resource
  pub member_room : ℕ
  pub place_room : ℕ
  pub resource_room : ℕ
  pub out : Option ℕ
  pub used : ℕ

abbrev pub held : DayBook → Held
held b = record {
  day = b.day;
  members = entries b.members;
  places = entries b.places;
  resources = entries b.resources;
  member_room = room b.members;
  place_room = room b.places;
  resource_room = room b.resources;
  out = b.out;
  used = b.used;
}

-- a pool has at most 16 members, 16 places and 32 resources
abbrev pub opened : ℕ → ℕ → ℕ → ℕ → Held
opened day members places resources = record {
  day = day;
  members = [];
  places = [];
  resources = [];
  member_room = min 16 members;
  place_room = min 16 places;
  resource_room = min 32 resources;
  out = None;
  used = 0;
}

abbrev pub with_members : Held → List Member → Held
with_members v ms = record {
  day = v.day;
  members = ms;
  places = v.places;
  resources = v.resources;
  member_room = v.member_room;
  place_room = v.place_room;
  resource_room = v.resource_room;
  out = v.out;
  used = v.used;
}

abbrev pub with_places : Held → List Place → Held
with_places v ps = record {
  day = v.day;
  members = v.members;
  places = ps;
  resources = v.resources;
  member_room = v.member_room;
  place_room = v.place_room;
  resource_room = v.resource_room;
  out = v.out;
  used = v.used;
}

abbrev pub with_resources : Held → List Resource → Held
with_resources v rs = record {
  day = v.day;
  members = v.members;
  places = v.places;
  resources = rs;
  member_room = v.member_room;
  place_room = v.place_room;
  resource_room = v.resource_room;
  out = v.out;
  used = v.used;
}
