-- A generator as registering makes it: each number of the form, narrowed and read back, is the number of the form.
use Rattle.std.proofs.Common.{◌≡◌, ◌^◌, ◌<◌, true, ℤ, pos, nat_abs, sym, ap, ◌∙◌, subst, arith, w32, w64, to_z, of_z}
use lib.Signed.{lt_z}
use Rattle.std.proofs.lemmas.Int.{ints, to_z-of_z, fits_signed_from_abs}
use Rattle.tariff.specs.declared.generator.GeneratorForm.{GeneratorForm}
use Rattle.hours.specs.Ranges.{all_fit, all_in}
use Rattle.tariff.specs.Generators.{generator_fields, form_bounds}
use Rattle.tariff.proofs.Made.{Numbers, NumbersBounds}

abbrev wide : ℤ → ℤ
wide z = to_z w64 (of_z w64 z)

abbrev narrow : ℤ → ℤ
narrow z = to_z w32 (of_z w32 (wide z))

wide_is : (z : ℤ) → nat_abs z < 2 ^ 31 → wide z ≡ z
wide_is z h = to_z-of_z w64 z (fits_signed_from_abs w64 z (omega arith))

narrow-is : (z : ℤ) → nat_abs z < 2 ^ 31 → narrow z ≡ z
narrow-is z h = ap (λ x. to_z w32 (of_z w32 x)) (wide_is z h) ∙ to_z-of_z w32 z (fits_signed_from_abs w32 z h)

abbrev pub numbers_of : GeneratorForm → Numbers
numbers_of f = (
  (nat_abs f.min_load, nat_abs f.load_cost, nat_abs f.start_up),
  (nat_abs f.mrt, nat_abs f.mdt, nat_abs f.mds),
  lt_z (pos 0) f.carried,
  (f.b1, nat_abs f.u1, f.b2, nat_abs f.u2, f.b3),
)

abbrev pub numbers_read : GeneratorForm → Numbers
numbers_read f = (
  (nat_abs (wide f.min_load), nat_abs (wide f.load_cost), nat_abs (wide f.start_up)),
  (nat_abs (wide f.mrt), nat_abs (wide f.mdt), nat_abs (wide f.mds)),
  lt_z (pos 0) (wide f.carried),
  (narrow f.b1, nat_abs (wide f.u1), narrow f.b2, nat_abs (wide f.u2), narrow f.b3),
)

module _ (f : GeneratorForm) (h : all_fit (generator_fields f) ≡ true) where
  abbrev pub bounds : NumbersBounds (numbers_of f)
  bounds = let k = form_bounds f h in record { bid = k.bid; own = k.own }

  pub numbers_read_lem : numbers_read f ≡ numbers_of f
  numbers_read_lem =
      let k = form_bounds f h in
      let flag = (all_in (generator_fields f) h).1.1.1.1.1.1.0 in
      λ i. (
        (nat_abs (wide_is f.min_load (omega arith) i), nat_abs (wide_is f.load_cost (omega arith) i), nat_abs (wide_is f.start_up (omega arith) i)),
        (nat_abs (wide_is f.mrt (omega arith) i), nat_abs (wide_is f.mdt (omega arith) i), nat_abs (wide_is f.mds (omega arith) i)),
        lt_z (pos 0) (wide_is f.carried (omega (arith, ints)) i),
        (narrow-is f.b1 (omega arith) i, nat_abs (wide_is f.u1 (omega arith) i), narrow-is f.b2 (omega arith) i, nat_abs (wide_is f.u2 (omega arith) i), narrow-is f.b3 (omega arith) i),
      )

  pub bounds-read : NumbersBounds (numbers_read f)
  bounds-read = subst NumbersBounds (sym numbers_read_lem) bounds
