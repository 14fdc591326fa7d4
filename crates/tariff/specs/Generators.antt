-- What is made of the numbers that a generator is registered with.
--
--   generator_fields   the twelve numbers in their order, each with its range
--   generator_of       the generator, or the first number out of range
use Rattle.std.specs.Prelude.{◌≡◌, Bool, true, false, T, List, [], ◌∷◌, pos, neg_ℤ, Result, int_lt, unsigned_abs, refl}
use Rattle.std.proofs.Common.{arith}
use Rattle.std.proofs.lemmas.Int.{ints}
use Rattle.tariff.specs.declared.generator.GeneratorForm.{GeneratorForm}
use Rattle.tariff.specs.declared.generator.Generator.{Generator}
use Rattle.hours.specs.declared.range.Field.{Field}
use Rattle.hours.specs.declared.range.OutOfRange.{OutOfRange}
use Rattle.tariff.specs.Bounds.{BidBounds, GeneratorBounds}
use Rattle.hours.specs.Ranges.{field, all_fit, made, all_in}

-- the steps of the bid rise from the minimum load on, and their prices do not fall
abbrev pub generator_fields : GeneratorForm → List Field
generator_fields f =
    field f.min_load (pos 0) (pos 100000)
    ∷ field f.load_cost (pos 0) (pos 1000000)
    ∷ field f.start_up (pos 0) (pos 10000000)
    ∷ field f.mrt (pos 1) (pos 24)
    ∷ field f.mdt (pos 1) (pos 24)
    ∷ field f.mds (pos 1) (pos 24)
    ∷ field f.carried (pos 0) (pos 1)
    ∷ field f.b1 (neg_ℤ (pos 200000)) (pos 200000)
    ∷ field f.u1 f.min_load (pos 100000)
    ∷ field f.b2 f.b1 (pos 200000)
    ∷ field f.u2 f.u1 (pos 100000)
    ∷ field f.b3 f.b2 (pos 200000)
    ∷ []

-- what the ranges tell of the numbers that are kept
pub record FormBounds (f : GeneratorForm) : Type 0 where
  pub bid : BidBounds f.b1 (unsigned_abs f.u1) f.b2 (unsigned_abs f.u2) f.b3
  pub own :
      GeneratorBounds (unsigned_abs f.min_load) (unsigned_abs f.load_cost) (unsigned_abs f.start_up)
      (unsigned_abs f.mrt) (unsigned_abs f.mdt) (unsigned_abs f.mds) (unsigned_abs f.u1)

tested : (b : Bool) → T b → b ≡ true
tested true t = refl
tested false t = absurd t

pub form_bounds : (f : GeneratorForm) → all_fit (generator_fields f) ≡ true → FormBounds f
form_bounds f h =
    let k = all_in (generator_fields f) h in
    let load = k.0 in
    let cost = k.1.0 in
    let start = k.1.1.0 in
    let mrt = k.1.1.1.0 in
    let mdt = k.1.1.1.1.0 in
    let mds = k.1.1.1.1.1.0 in
    let p₁ = k.1.1.1.1.1.1.1.0 in
    let q₁ = k.1.1.1.1.1.1.1.1.0 in
    let p₂ = k.1.1.1.1.1.1.1.1.1.0 in
    let q₂ = k.1.1.1.1.1.1.1.1.1.1.0 in
    let p₃ = k.1.1.1.1.1.1.1.1.1.1.1.0 in
    record {
      bid = record {
        prices = (omega (arith, ints), omega (arith, ints), omega (arith, ints));
        rises = (tested _ p₂.0.le, tested _ p₃.0.le);
        steps = (omega (arith, ints), omega (arith, ints));
      };
      own = record {
        costs = (omega (arith, ints), omega (arith, ints), omega (arith, ints));
        run = (omega (arith, ints), omega (arith, ints));
        down = (omega (arith, ints), omega (arith, ints));
        starts = (omega (arith, ints), omega (arith, ints));
        above = omega (arith, ints);
      };
    }

abbrev pub generator_made : (f : GeneratorForm) → all_fit (generator_fields f) ≡ true → Generator
generator_made f h =
    let k = form_bounds f h in
    record {
      min_load = unsigned_abs f.min_load;
      load_cost = unsigned_abs f.load_cost;
      start_up = unsigned_abs f.start_up;
      mrt = unsigned_abs f.mrt;
      mdt = unsigned_abs f.mdt;
      mds = unsigned_abs f.mds;
      carried_in = int_lt (pos 0) f.carried;
      bid = record { b1 = f.b1; u1 = unsigned_abs f.u1; b2 = f.b2; u2 = unsigned_abs f.u2; b3 = f.b3; bounds = k.bid };
      bounds = k.own;
    }

abbrev pub generator_of : GeneratorForm → Result Generator OutOfRange
generator_of f = made (generator_fields f) (generator_made f)
