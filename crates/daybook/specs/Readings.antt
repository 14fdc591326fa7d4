-- Numbers that are handed in, each with its range, and what they are read as where all fit.
--
--   Reading   numbers with their ranges, and what they are read as
--   both      the numbers of one reading and then those of another
--   into      the same numbers, read as something made of that
--   id_of     an id, 1 to 65,535, or that the number is none
--   id_from   the reading of an id; hour_from: that of an hour of the day, 1 to 24
--   read      what is read, or the refusal that tells the first field out of range, by its position from 1
--   behind    an answer to some of the numbers, told by their position behind the first n
use Rattle.std.specs.Prelude.{◌≡◌, ℕ, ◌+◌, ◌≤◌, true, List, [], ◌∷◌, ◌++◌, ℤ, pos, Ok, Err, Result, unsigned_abs, refl}
use Rattle.std.proofs.Common.{arith}
use Rattle.std.proofs.lemmas.Int.{ints}
use Rattle.std.proofs.lemmas.Bool.{and_parts, and_from}
use Rattle.refusal.specs.declared.cause.Refusal.{Refusal}
use Rattle.refusal.specs.declared.cause.Refusal.TheVariants.{FieldOutOfRange}
use Rattle.hours.specs.declared.day.Hour.{Hour}
use Rattle.hours.specs.declared.range.Field.{Field}
use Rattle.hours.specs.declared.range.OutOfRange.{OutOfRange}
use Rattle.hours.specs.Days.{hour_fields, hour_made}
use Rattle.hours.specs.Ranges.{field, fits, all_fit, made, all_in}
use Rattle.daybook.specs.declared.id.Id.{Id}

pub record Reading (X : Type 0) : Type 0 where
  pub fields : List Field
  pub value : all_fit fields ≡ true → X

pub front : (fs gs : List Field) → all_fit (fs ++ gs) ≡ true → all_fit fs ≡ true
front [] gs h = refl
front (f ∷ fs) gs h = let k = and_parts (fits f) (all_fit (fs ++ gs)) h in and_from _ _ k.0 (front fs gs k.1)

pub back : (fs gs : List Field) → all_fit (fs ++ gs) ≡ true → all_fit gs ≡ true
back [] gs h = h
back (f ∷ fs) gs h = back fs gs (and_parts (fits f) (all_fit (fs ++ gs)) h).1

abbrev pub both : {A B : Type 0} → Reading A → Reading B → Reading (A × B)
both r s = record {
  fields = r.fields ++ s.fields;
  value = λ h. (r.value (front r.fields s.fields h), s.value (back r.fields s.fields h));
}

abbrev pub into : {A B : Type 0} → (A → B) → Reading A → Reading B
into f r = record { fields = r.fields; value = λ h. f (r.value h) }

abbrev pub id_fields : ℤ → List Field
id_fields n = field n (pos 1) (pos 65535) ∷ []

pub id_bounds : (n : ℤ) → all_fit (id_fields n) ≡ true → 1 ≤ unsigned_abs n
id_bounds n h = let k = all_in (id_fields n) h in omega (arith, ints)

abbrev pub id_made : (n : ℤ) → all_fit (id_fields n) ≡ true → Id
id_made n h = record { number = unsigned_abs n; bounds = id_bounds n h }

abbrev pub id_of : ℤ → Result Id OutOfRange
id_of n = made (id_fields n) (id_made n)

abbrev pub id_from : ℤ → Reading Id
id_from n = record { fields = id_fields n; value = id_made n }

abbrev pub hour_from : ℤ → Reading Hour
hour_from n = record { fields = hour_fields n; value = hour_made n }

abbrev pub behind : {X : Type 0} → ℕ → Result X OutOfRange → Result X Refusal
behind n (Ok x) = Ok x
behind n (Err e) = Err (FieldOutOfRange (n + e.field))

abbrev pub read : {X : Type 0} → Reading X → Result X Refusal
read r = behind 0 (made r.fields r.value)
