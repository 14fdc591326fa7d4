-- What is made of the numbers of an hour record and of a price.
--
--   generator_hour   a generator's: schedule, meter, self-schedule, commitment
--   load_hour        a load's: schedule and meter
--   price_of         day-ahead and real time
use Rattle.std.specs.Prelude.{◌≡◌, true, false, List, [], ◌∷◌, ℤ, pos, neg_ℤ, Result, int_lt, unsigned_abs}
use Rattle.std.proofs.Common.{arith}
use Rattle.std.proofs.lemmas.Int.{ints}
use Rattle.hours.specs.declared.range.Field.{Field}
use Rattle.hours.specs.declared.range.OutOfRange.{OutOfRange}
use Rattle.hours.specs.declared.records.HourRecord.{HourRecord}
use Rattle.hours.specs.declared.records.Price.{Price}
use Rattle.hours.specs.Bounds.{HourBounds, PriceBounds}
use Rattle.hours.specs.Ranges.{field, all_fit, made, all_in}

abbrev pub generator_hour_fields : ℤ → ℤ → ℤ → ℤ → List Field
generator_hour_fields da meter own commit =
    field da (pos 0) (pos 100000)
    ∷ field meter (neg_ℤ (pos 100000)) (pos 100000)
    ∷ field own (pos 0) (pos 100000)
    ∷ field commit (pos 0) (pos 1)
    ∷ []

pub generator_hour_bounds : (da meter own commit : ℤ) → all_fit (generator_hour_fields da meter own commit) ≡ true
    → HourBounds da meter (unsigned_abs own)
generator_hour_bounds da meter own commit h =
    let k = all_in (generator_hour_fields da meter own commit) h in
    (omega (arith, ints), omega (arith, ints), omega (arith, ints))

abbrev pub generator_hour_of : (da meter own commit : ℤ) → all_fit (generator_hour_fields da meter own commit) ≡ true → HourRecord
generator_hour_of da meter own commit h = record {
  day_ahead = da;
  meter = meter;
  self_schedule = unsigned_abs own;
  committed = int_lt (pos 0) commit;
  bounds = generator_hour_bounds da meter own commit h;
}

abbrev pub generator_hour : ℤ → ℤ → ℤ → ℤ → Result HourRecord OutOfRange
generator_hour da meter own commit = made (generator_hour_fields da meter own commit) (generator_hour_of da meter own commit)

-- a load runs on no schedule of its own and is never committed
abbrev pub load_hour_fields : ℤ → ℤ → List Field
load_hour_fields da meter =
    field da (neg_ℤ (pos 100000)) (pos 0)
    ∷ field meter (neg_ℤ (pos 100000)) (pos 0)
    ∷ []

pub load_hour_bounds : (da meter : ℤ) → all_fit (load_hour_fields da meter) ≡ true → HourBounds da meter 0
load_hour_bounds da meter h =
    let k = all_in (load_hour_fields da meter) h in
    (omega (arith, ints), omega (arith, ints), omega arith)

abbrev pub load_hour_of : (da meter : ℤ) → all_fit (load_hour_fields da meter) ≡ true → HourRecord
load_hour_of da meter h = record {
  day_ahead = da;
  meter = meter;
  self_schedule = 0;
  committed = false;
  bounds = load_hour_bounds da meter h;
}

abbrev pub load_hour : ℤ → ℤ → Result HourRecord OutOfRange
load_hour da meter = made (load_hour_fields da meter) (load_hour_of da meter)

abbrev pub price_fields : ℤ → ℤ → List Field
price_fields da rt =
    field da (neg_ℤ (pos 200000)) (pos 200000)
    ∷ field rt (neg_ℤ (pos 200000)) (pos 200000)
    ∷ []

pub price_bounds : (da rt : ℤ) → all_fit (price_fields da rt) ≡ true → PriceBounds da rt
price_bounds da rt h =
    let k = all_in (price_fields da rt) h in
    (omega (arith, ints), omega (arith, ints))

abbrev pub price_made : (da rt : ℤ) → all_fit (price_fields da rt) ≡ true → Price
price_made da rt h = record { day_ahead = da; real_time = rt; bounds = price_bounds da rt h }

abbrev pub price_of : ℤ → ℤ → Result Price OutOfRange
price_of da rt = made (price_fields da rt) (price_made da rt)
