-- What a caller is told where a call is refused: a number and two details.
--
--   kind_number    a member is 1, a place 2, a resource 3
--   store_number   what is full: a table by its kind, the drafts 4, the record file 9
--   pot_number     whose sharing was refused: neutrality 1, uplift 2, 0 where a rule was asked by itself
--   number_of      the number of a refusal
--   a_of, b_of     its two details, 0 where it has none
use Rattle.std.specs.Prelude.{ℕ}
use Rattle.refusal.specs.declared.kinds.Kind.{Kind}
use Rattle.refusal.specs.declared.kinds.Kind.TheVariants.{Member, Place, Resource}
use Rattle.refusal.specs.declared.kinds.Store.{Store}
use Rattle.refusal.specs.declared.kinds.Store.TheVariants.{Table, Drafts, RecordFile}
use Rattle.refusal.specs.declared.kinds.Pot.{Pot}
use Rattle.refusal.specs.declared.kinds.Pot.TheVariants.{Neutrality, Uplift, Unnamed}
use Rattle.refusal.specs.declared.cause.Refusal.{Refusal}
use Rattle.refusal.specs.declared.cause.Refusal.TheVariants.{FieldOutOfRange, TooFewRows, NotRegistered, InUse, Full, DraftOut, NoSuchDraft, PriceMissing, NoDemand, NothingToStrike}

abbrev pub kind_number : Kind → ℕ
kind_number Member = 1
kind_number Place = 2
kind_number Resource = 3

abbrev pub store_number : Store → ℕ
store_number (Table kind) = kind_number kind
store_number Drafts = 4
store_number RecordFile = 9

abbrev pub pot_number : Pot → ℕ
pot_number Unnamed = 0
pot_number Neutrality = 1
pot_number Uplift = 2

abbrev pub number_of : Refusal → ℕ
number_of (FieldOutOfRange field) = 5
number_of (TooFewRows needed there) = 7
number_of (NotRegistered id kind) = 8
number_of (InUse id kind) = 9
number_of (Full store) = 10
number_of (DraftOut draft) = 11
number_of (NoSuchDraft draft) = 12
number_of (PriceMissing resource hour) = 13
number_of (NoDemand pot) = 14
number_of (NothingToStrike resource hour) = 15

abbrev pub a_of : Refusal → ℕ
a_of (FieldOutOfRange field) = field
a_of (TooFewRows needed there) = needed
a_of (NotRegistered id kind) = id
a_of (InUse id kind) = id
a_of (Full store) = store_number store
a_of (DraftOut draft) = draft
a_of (NoSuchDraft draft) = draft
a_of (PriceMissing resource hour) = resource
a_of (NoDemand pot) = pot_number pot
a_of (NothingToStrike resource hour) = resource

abbrev pub b_of : Refusal → ℕ
b_of (FieldOutOfRange field) = 0
b_of (TooFewRows needed there) = there
b_of (NotRegistered id kind) = kind_number kind
b_of (InUse id kind) = kind_number kind
b_of (Full store) = 0
b_of (DraftOut draft) = 0
b_of (NoSuchDraft draft) = 0
b_of (PriceMissing resource hour) = hour
b_of (NoDemand pot) = 0
b_of (NothingToStrike resource hour) = hour
