-- What a table holds, what its changes reply, and what they leave.
--
--   room           how many entries a table can hold
--   entries        the entries that it holds
--   insert_reply   what an insertion replies: a key in use is told first; full is a table with as many entries as room
--   insert_after   the entries after it; a refused one leaves them
--   rewritten      the entries after others were handed in: those, if they have the same keys
--   lookup_after   what a key finds after an entry was handed in, and taken in or not
use Rattle.std.specs.Prelude.{ℕ, min, Bool, cond, ◌&&◌, List, length, take, is_some, is_ok, Some, Ok, Err, Option, Result, ◌==◌}
use Rattle.table.specs.Entries.{lookup, inserted, same_keys}
use Rattle.table.specs.declared.table.Table.{Table}
use Rattle.table.specs.declared.table.Refused.{Refused}
use Rattle.table.specs.declared.table.Refused.TheVariants.{InUse, Full}

abbrev pub room : {E : Type 0} → Table E → ℕ
room t = min t.limit (length t.slots.now)

abbrev pub entries : {E : Type 0} → Table E → List E
entries t = take (min t.len (room t)) t.slots.now

-- n is the room
abbrev pub insert_reply : {E : Type 0} → (E → ℕ) → E → List E → ℕ → Result (Unit {0}) Refused
insert_reply key e xs n = cond (is_some (lookup key (key e) xs)) (Err InUse) (cond (length xs == n) (Err Full) (Ok tt))

abbrev pub insert_after : {E : Type 0} → (E → ℕ) → E → List E → ℕ → List E
insert_after key e xs n = cond (is_ok (insert_reply key e xs n)) (inserted key e xs) xs

abbrev pub rewritten : {E : Type 0} → (E → ℕ) → List E → List E → List E
rewritten key others xs = cond (same_keys key others xs) others xs

abbrev pub lookup_after : {E : Type 0} → (E → ℕ) → Bool → E → List E → ℕ → Option E
lookup_after key taken e xs k = cond (taken && key e == k) (Some e) (lookup key k xs)
