use Rattle.std.proofs.Common.{min, map, take, is_some, sym, refl, ap, ◌∙◌, arith}
use Rattle.std.proofs.lemmas.List.{length-take}
use Rattle.table.specs.Entries.{lookup, rises}
use Rattle.table.specs.Tables.{entries, room, lookup_after}
use Rattle.table.proofs.Laws.{lookup-replaced, keys_replaced}
use Rattle.table.proofs.Positions.{found_within, found-sets, told, missing-stays}
use Rattle.table.proofs.table.Table.replace.Goals as goal

pub returns-in_default-clause-reply : goal.returns-in_default-clause-reply
returns-in_default-clause-reply g c =
    told g.E.Keyed.key _ c.find.result c.args.item _ (entries c.args.self.now) (ap is_some (sym c.in_default.is)) c.find.ensures c.key.ensures

pub returns-in_default-clause-after : goal.returns-in_default-clause-after
returns-in_default-clause-after g c = missing-stays g.E.Keyed.key c.args.item (entries c.args.self.now) (returns-in_default-clause-reply g c)

pub put-requires : goal.put-requires
put-requires g c =
    let t = c.args.self.now in
    omega (arith, found_within g.E.Keyed.key _ c.in-Some.at (entries t) c.in-Some.ensures, length-take (min t.len (room t)) t.slots.now)

pub returns-clause-reply : goal.returns-clause-reply
returns-clause-reply g c = told g.E.Keyed.key _ _ c.args.item _ (entries c.args.self.now) refl c.in-Some.ensures c.key.ensures

pub returns-clause-after : goal.returns-clause-after
returns-clause-after g c =
    let t = c.args.self.now in
    ap (λ n. take (min t.len (min t.limit n)) c.put.new.slots) c.put.auto.slots ∙ ap (take (min t.len (room t))) c.put.ensures
    ∙ found-sets g.E.Keyed.key c.args.item _ c.in-Some.at (min t.len (room t)) t.slots.now c.key.ensures c.in-Some.ensures

pub returns-clause-lookups : goal.returns-clause-lookups
returns-clause-lookups g c k =
    let key = g.E.Keyed.key in
    let xs = entries c.args.self.now in
    ap (lookup key k) (returns-clause-after g c) ∙ lookup-replaced key c.args.item xs k ∙ ap (λ b. lookup_after key b c.args.item xs k) (sym (returns-clause-reply g c))

pub returns-clause-keys : goal.returns-clause-keys
returns-clause-keys g c = ap (map g.E.Keyed.key) (returns-clause-after g c) ∙ keys_replaced g.E.Keyed.key c.args.item (entries c.args.self.now)

pub returns-clause-keeps : goal.returns-clause-keeps
returns-clause-keeps g c h = ap rises (returns-clause-keys g c) ∙ h
