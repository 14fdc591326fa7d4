-- The calls that change a day book, with the numbers that they are handed.
--
--   Call      registering, posting and striking; any number may be handed in
--   Act       what is asked for once all numbers are in range: a record is brought in, or an hour record taken away
--   reading   the numbers of a call in their order, and the act that they are read as
--   asked     that act, or the first field out of range
use Rattle.std.specs.Prelude.{ℕ, ℤ, Result}
use Rattle.refusal.specs.declared.cause.Refusal.{Refusal}
use Rattle.hours.specs.declared.day.Hour.{Hour}
use Rattle.hours.specs.declared.records.HourRecord.{HourRecord}
use Rattle.hours.specs.declared.records.Price.{Price}
use Rattle.hours.specs.Records.{generator_hour_fields, generator_hour_of, load_hour_fields, load_hour_of, price_fields, price_made}
use Rattle.tariff.specs.declared.generator.Generator.{Generator as Machine}
use Rattle.tariff.specs.declared.generator.GeneratorForm.{GeneratorForm}
use Rattle.tariff.specs.Generators.{generator_fields, generator_made}
use Rattle.figures.specs.declared.standing.Unit.{Unit}
use Rattle.figures.specs.declared.standing.Unit.TheVariants.{Generator, Load}
use Rattle.daybook.specs.declared.id.Id.{Id}
use Rattle.daybook.specs.Readings.{Reading, both, into, id_from, hour_from, read}
use Rattle.daybook.specs.Records.{Record, member, place, resource, price, generator_hour, load_hour}

pub data Call : Type 0 where
  register_member : ℤ → Call
  register_place : ℤ → Call
  register_generator : ℤ → ℤ → ℤ → GeneratorForm → Call
  register_load : ℤ → ℤ → ℤ → Call
  post_price : ℤ → ℤ → ℤ → ℤ → Call
  post_generator_hour : ℤ → ℤ → ℤ → ℤ → ℤ → ℤ → Call
  post_load_hour : ℤ → ℤ → ℤ → ℤ → Call
  strike : ℤ → ℤ → Call

-- what is taken away is told by its resource and hour
pub data Act : Type 0 where
  brings : Record → Act
  takes : ℕ → Hour → Act

-- a resource's own id, its member, its place
abbrev pub ids_from : ℤ → ℤ → ℤ → Reading (Id × Id × Id)
ids_from id m p = into (λ x. (x.0.0, x.0.1, x.1)) (both (both (id_from id) (id_from m)) (id_from p))

abbrev pub slot_from : ℤ → ℤ → Reading (Id × Hour)
slot_from id h = both (id_from id) (hour_from h)

abbrev pub generator_from : GeneratorForm → Reading Machine
generator_from f = record { fields = generator_fields f; value = generator_made f }

abbrev pub price_from : ℤ → ℤ → Reading Price
price_from da rt = record { fields = price_fields da rt; value = price_made da rt }

abbrev pub generator_hour_from : ℤ → ℤ → ℤ → ℤ → Reading HourRecord
generator_hour_from da meter own commit = record { fields = generator_hour_fields da meter own commit; value = generator_hour_of da meter own commit }

abbrev pub load_hour_from : ℤ → ℤ → Reading HourRecord
load_hour_from da meter = record { fields = load_hour_fields da meter; value = load_hour_of da meter }

abbrev pub brings_resource : Id × Id × Id → Unit → Act
brings_resource ids unit = brings (resource ids.0.number ids.1.number ids.2.number unit)

-- what is posted for an hour, by the record that it makes
abbrev pub brings_hour : {X : Type 0} → (ℕ → Hour → X → Record) → (Id × Hour) × X → Act
brings_hour record_of x = brings (record_of x.0.0.number x.0.1 x.1)

abbrev pub reading : Call → Reading Act
reading (register_member id) = into (λ x. brings (member x.number)) (id_from id)
reading (register_place id) = into (λ x. brings (place x.number)) (id_from id)
reading (register_generator id m p form) = into (λ x. brings_resource x.0 (Generator x.1)) (both (ids_from id m p) (generator_from form))
reading (register_load id m p) = into (λ x. brings_resource x Load) (ids_from id m p)
reading (post_price p h da rt) = into (brings_hour price) (both (slot_from p h) (price_from da rt))
reading (post_generator_hour r h da meter own commit) = into (brings_hour generator_hour) (both (slot_from r h) (generator_hour_from da meter own commit))
reading (post_load_hour r h da meter) = into (brings_hour load_hour) (both (slot_from r h) (load_hour_from da meter))
reading (strike r h) = into (λ x. takes x.0.number x.1) (slot_from r h)

abbrev pub asked : Call → Result Act Refusal
asked c = read (reading c)
