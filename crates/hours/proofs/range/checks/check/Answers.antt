use Rattle.std.proofs.Common.{◌≡◌, Err, sym, ap, ◌∙◌, rules, tests}
use Rattle.std.proofs.lemmas.Bool.{cond-true, cond-false}
use Rattle.std.proofs.lemmas.Iterator.{YieldsList-from_slice}
use Rattle.std.proofs.lemmas.Iterator.Search.{position_from_yields_List}
use Rattle.hours.specs.declared.range.OutOfRange.{OutOfRange}
use Rattle.hours.specs.Ranges.{out_of_range, all_in}
use Rattle.hours.proofs.Ranges.{fits_not, field_out, all_fit_none_out}
use Rattle.hours.proofs.range.checks.check.Goals as goal

pub returns-in-Some : goal.returns-in-Some
returns-in-Some c =
    let found = position_from_yields_List fits_not _ _ c.position.result c.position.ensures.ran (YieldsList-from_slice c.args.fields.now cc) (λ x b q k. search (rules, tests)) in
    let out = field_out c.args.fields.now c.in-Some.i (sym found ∙ c.in-Some.is) in
    let first : ◌≡◌ {A = OutOfRange} (record { field = _ }) (out_of_range c.args.fields.now) = ap (λ n. record { field = n }) (sym out.1) in
    record { value = sym (cond-false _ _ _ out.0 ∙ ap Err (sym first)); cases = record { test = out.0; first = first } }

pub returns : goal.returns
returns c =
    let found = position_from_yields_List fits_not _ _ c.position.result c.position.ensures.ran (YieldsList-from_slice c.args.fields.now cc) (λ x b q k. search (rules, tests)) in
    let fit = all_fit_none_out c.args.fields.now (sym found ∙ c.in_default.is) in
    record { value = sym (cond-true _ _ _ fit); cases = record { test = fit; all = all_in _ fit } }
