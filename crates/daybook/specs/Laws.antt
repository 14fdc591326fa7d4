-- What the calls come to, in terms of the records that stand.
--
--   Brought        a record stands under its name, and under every other name what stood before
--   Gone           nothing stands under a name, and under every other name what stood before
--   Acted          an act brings its record, or takes it away
--   Recorded       a refused call changes nothing; any other does what it asks for
--   SecondCounts   what was posted for the hour just before has no part in what the book holds
--   AsIfNever      a book in which an hour was posted and struck holds what it held before the posting
use Rattle.std.specs.Prelude.{◌≡◌, ℕ, ℤ, Some, None, Ok, Err, Result, ◌≢◌}
use Rattle.refusal.specs.declared.cause.Refusal.{Refusal}
use Rattle.hours.specs.declared.day.Hour.{Hour}
use Rattle.daybook.specs.Calls.{Call, post_generator_hour, post_load_hour, strike, Act, brings, takes, asked}
use Rattle.daybook.specs.Changes.{after}
use Rattle.daybook.specs.Due.{due}
use Rattle.daybook.specs.Held.{Held}
use Rattle.daybook.specs.Records.{Record, Name, name_of, the_hour, standing}

pub record Brought (x : Record) (before next : Held) : Type 0 where
  pub stands : standing next (name_of x) ≡ Some x
  pub others_stay : (n : Name) → (n ≢ name_of x) → standing next n ≡ standing before n

pub record Gone (gone : Name) (before next : Held) : Type 0 where
  pub nothing_stands : standing next gone ≡ None
  pub others_stay : (n : Name) → (n ≢ gone) → standing next n ≡ standing before n

abbrev pub Acted : Act → Held → Held → Type 0
Acted (brings x) before next = Brought x before next
Acted (takes k h) before next = Gone (the_hour k h) before next

pub record Recorded (c : Call) (before next : Held) (r : Result (Unit {0}) Refusal) : Type 0 where
  pub refused_changes_nothing : (e : Refusal) → r ≡ Err e → next ≡ before
  pub done_as_asked : (a : Act) → r ≡ Ok tt → asked c ≡ Ok a → Acted a before next

-- `first` is any other posting of that hour
abbrev pub SecondCounts : Call → Call → Held → Held → Result (Unit {0}) Refusal → Type 0
SecondCounts first second before next r = r ≡ Ok tt → after (after before first) second ≡ next

-- v is the book before the posting; nothing stood for the hour
abbrev pub Unposted : Call → ℤ → ℤ → Held → Held → Result (Unit {0}) Refusal → Type 0
Unposted posting res hour before next r =
    (v : Held) (k : ℕ) (h : Hour) → r ≡ Ok tt → asked (strike res hour) ≡ Ok (takes k h) → standing v (the_hour k h) ≡ None → due v posting ≡ None → before ≡ after v posting → next ≡ v

pub record AsIfNever (res hour : ℤ) (before next : Held) (r : Result (Unit {0}) Refusal) : Type 0 where
  pub generators_hour : (da meter own commit : ℤ) → Unposted (post_generator_hour res hour da meter own commit) res hour before next r
  pub loads_hour : (da meter : ℤ) → Unposted (post_load_hour res hour da meter) res hour before next r
