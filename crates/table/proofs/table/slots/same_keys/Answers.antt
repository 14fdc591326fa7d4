use Rattle.std.proofs.Common.{◌≡◌, Bool, true, ◌&&◌, eqb, rules, tests, arith, ◌∙◌}
use Rattle.std.proofs.lemmas.Iterator.{YieldsList-from_slice, YieldsList-from_zip}
use Rattle.std.proofs.lemmas.Iterator.Search.{all_from_yields_List}
use Rattle.std.proofs.lemmas.Bool.Decides.{nat_tests}
use Rattle.std.proofs.lemmas.Bool.{eq-eqb}
use Rattle.table.proofs.Words.{same_keys-is}
use Rattle.table.proofs.table.slots.same_keys.Goals as goal

both_long : {b c d : Bool} → d ≡ true → c ≡ (d && b) → b ≡ c
both_long h e = grind (arith, nat_tests)

pub returns-then-rows-others : goal.returns-then-rows-others
returns-then-rows-others g c =
    let key = g.E.Keyed.key in
    all_from_yields_List {s = c.zip.result} (λ p. eqb (key p.0) (key p.1)) c.all.new.self _ _ c.all.ensures.ran
    (YieldsList-from_zip (YieldsList-from_slice c.args.rows.now cc) (YieldsList-from_slice c.args.others.now cc)) (λ x b q k. search (rules, tests)) ∙ both_long (eq-eqb _ _ c.if-rows-others.true) (same_keys-is key c.args.rows.now c.args.others.now)

pub returns-else-rows-others : goal.returns-else-rows-others
returns-else-rows-others g c = let e = same_keys-is g.E.Keyed.key c.args.rows.now c.args.others.now in grind (arith, nat_tests)
