use Rattle.std.proofs.Common.{◌+◌, cond, min, map, length, take, is_ok, sym, ap, ◌∙◌, arith}
use Rattle.std.proofs.lemmas.Bool.{eqb-false}
use Rattle.std.proofs.lemmas.Bool.Decides.{nat_tests}
use Rattle.table.specs.Entries.{lookup, inserted, rises}
use Rattle.table.specs.Tables.{entries, room, lookup_after}
use Rattle.table.proofs.Laws.{lookup-after, rising_after}
use Rattle.table.proofs.Positions.{told}
use Rattle.table.proofs.Writes.{grown}
use Rattle.table.proofs.table.Table.insert.Goals as goal

pub returns-then-is_some-clause-reply : goal.returns-then-is_some-clause-reply
returns-then-is_some-clause-reply g c =
    let used = told g.E.Keyed.key _ c.find.result c.args.item _ (entries c.args.self.now) c.if-is_some.ensures c.find.ensures c.key.ensures in
    grind (arith, nat_tests)

pub returns-then-is_some-clause-after : goal.returns-then-is_some-clause-after
returns-then-is_some-clause-after g c =
    let xs = entries c.args.self.now in
    ap (λ r. cond (is_ok r) (inserted g.E.Keyed.key c.args.item xs) xs) (returns-then-is_some-clause-reply g c)

pub returns-then-is_full-clause-reply : goal.returns-then-is_full-clause-reply
returns-then-is_full-clause-reply g c =
    let free = told g.E.Keyed.key _ c.find.result c.args.item _ (entries c.args.self.now) c.if-is_some.ensures c.find.ensures c.key.ensures in
    grind (arith, nat_tests)

pub returns-clause-reply : goal.returns-clause-reply
returns-clause-reply g c =
    let free = told g.E.Keyed.key _ c.find.result c.args.item _ (entries c.args.self.now) c.if-is_some.ensures c.find.ensures c.key.ensures in
    grind (arith, nat_tests)

pub returns-clause-after : goal.returns-clause-after
returns-clause-after g c =
    let key = g.E.Keyed.key in
    let e = c.args.item in
    let t = c.args.self.now in
    let short = eqb-false (length (entries t)) (room t) (sym c.if-is_full.ensures) in
    ap (λ n. take (min (c.len-len.result + 1) (min t.limit n)) c.insert_at.new.slots) c.insert_at.auto.slots
    ∙ grown key e t.slots.now c.insert_at.new.slots c.all.result.now (min t.len (room t)) c.len-len.result c.place-at.result (room t)
    (omega arith) c.len-len.ensures.reply (omega arith) c.all.ensures c.place-at.ensures.splits c.insert_at.ensures
    ∙ ap (λ r. cond (is_ok r) (inserted key e (entries t)) (entries t)) (returns-clause-reply g c)

pub returns-clause-lookups : goal.returns-clause-lookups
returns-clause-lookups g c k =
    let key = g.E.Keyed.key in
    let e = c.args.item in
    let t = c.args.self.now in
    ap (lookup key k) (returns-clause-after g c) ∙ lookup-after key e (entries t) (room t) k ∙ ap (λ r. lookup_after key (is_ok r) e (entries t) k) (sym (returns-clause-reply g c))

pub returns-clause-keeps : goal.returns-clause-keeps
returns-clause-keeps g c h =
    let t = c.args.self.now in
    ap (λ xs. rises (map g.E.Keyed.key xs)) (returns-clause-after g c) ∙ rising_after g.E.Keyed.key c.args.item (entries t) (room t) h
