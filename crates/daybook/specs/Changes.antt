-- What a call answers and leaves.
--
--   updated   the entries with the one of a key changed
--   done      what a book holds once an act is done
--   after     what it holds after a call: a refused one changes nothing
--   replied   done, or the refusal that is due
--   Answers   what an act answers and leaves; Follows: the same of a call
use Rattle.std.specs.Prelude.{◌≡◌, ℕ, cond, List, [], ◌∷◌, Some, None, Ok, Err, Option, Result, ◌==◌}
use Rattle.table.specs.Entries.{inserted}
use Rattle.refusal.specs.declared.cause.Refusal.{Refusal}
use Rattle.hours.specs.declared.records.HourRecord.{HourRecord}
use Rattle.hours.specs.declared.records.Price.{Price}
use Rattle.hours.specs.Days.{placed}
use Rattle.figures.specs.declared.standing.Place.{Place}
use Rattle.figures.specs.declared.standing.Resource.{Resource}
use Rattle.figures.specs.Entries.{member_key, place_key, resource_key, new_member, new_place, new_resource}
use Rattle.daybook.specs.Calls.{Call, Act, brings, takes, asked}
use Rattle.daybook.specs.Due.{due_to, due}
use Rattle.daybook.specs.Held.{Held, with_members, with_places, with_resources}
use Rattle.daybook.specs.Records.{member, place, resource, price, generator_hour, load_hour}

abbrev pub updated : {E : Type 0} → (E → ℕ) → ℕ → (E → E) → List E → List E
updated key k f [] = []
updated key k f (x ∷ xs) = cond (key x == k) (f x ∷ xs) (x ∷ updated key k f xs)

abbrev pub with_price : ℕ → Price → Place → Place
with_price h x p = record { id = p.id; prices = record { slots = placed p.prices.slots h (Some x) } }

abbrev pub with_hour : ℕ → Option HourRecord → Resource → Resource
with_hour h slot r = record { id = r.id; member = r.member; place = r.place; unit = r.unit; hours = record { slots = placed r.hours.slots h slot } }

abbrev pub hour_changed : ℕ → ℕ → Option HourRecord → Held → Held
hour_changed r h slot v = with_resources v (updated resource_key r (with_hour h slot) v.resources)

abbrev pub done : Act → Held → Held
done (brings (member id)) v = with_members v (inserted member_key (new_member id) v.members)
done (brings (place id)) v = with_places v (inserted place_key (new_place id) v.places)
done (brings (resource id m p unit)) v = with_resources v (inserted resource_key (new_resource id m p unit) v.resources)
done (brings (price p h x)) v = with_places v (updated place_key p (with_price h.number x) v.places)
done (brings (generator_hour r h x)) v = hour_changed r h.number (Some x) v
done (brings (load_hour r h x)) v = hour_changed r h.number (Some x) v
done (takes r h) v = hour_changed r h.number None v

abbrev pub unless : {X : Type 0} → Option Refusal → X → X → X
unless None x y = x
unless (Some e) x y = y

abbrev pub replied : Option Refusal → Result (Unit {0}) Refusal
replied None = Ok tt
replied (Some e) = Err e

abbrev pub after_act : Held → Act → Held
after_act v a = unless (due_to v a) (done a v) v

abbrev pub after_if : Held → Result Act Refusal → Held
after_if v (Ok a) = after_act v a
after_if v (Err e) = v

abbrev pub after : Held → Call → Held
after v c = after_if v (asked c)

pub record Answers (a : Act) (before next : Held) (r : Result (Unit {0}) Refusal) : Type 0 where
  pub reply : r ≡ replied (due_to before a)
  pub holds : next ≡ after_act before a

pub record Follows (c : Call) (before next : Held) (r : Result (Unit {0}) Refusal) : Type 0 where
  pub reply : r ≡ replied (due before c)
  pub holds : next ≡ after before c
