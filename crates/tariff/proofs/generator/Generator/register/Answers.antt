use Rattle.std.proofs.Common.{refl}
use Rattle.std.proofs.lemmas.Result.{err_from_is_err_and}
use Rattle.tariff.specs.Generators.{generator_fields, generator_made}
use Rattle.hours.proofs.Ranges.{made-is, refused-is}
use Rattle.tariff.proofs.Made.{same_generator}
use Rattle.tariff.proofs.Forms.{numbers_of, numbers_read, numbers_read_lem, bounds, bounds-read}
use Rattle.tariff.proofs.generator.Generator.register.Goals as goal

pub returns-in_err-check : goal.returns-in_err-check
returns-in_err-check c =
    let p = err_from_is_err_and c.from_residual.result c.from_residual.ensures.1 in
    refused-is _ (generator_fields c.args.form.now) refl (generator_made c.args.form.now) _ _ _ p.1 p.2 c.in_err-check.ensures

pub invariant_of-bid : goal.invariant_of-bid
invariant_of-bid c = record { bounds = (bounds-read c.args.form.now c.in_ok-check.ensures.test).bid }

pub invariant_of-result : goal.invariant_of-result
invariant_of-result c = record { bounds = (bounds-read c.args.form.now c.in_ok-check.ensures.test).own }

pub returns : goal.returns
returns c =
    let f = c.args.form.now in
    let h = c.in_ok-check.ensures.test in
    made-is _ (generator_fields f) refl (generator_made f) _ h (same_generator (numbers_read f) (numbers_of f) _ (bounds f h) (numbers_read_lem f h))
