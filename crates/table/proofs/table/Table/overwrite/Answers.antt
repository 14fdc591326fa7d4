use Rattle.std.proofs.Common.{◌≡◌, true, min, map, take, sym, ap, ◌∙◌, arith}
use Rattle.std.proofs.lemmas.List.{length-take, take_at}
use Rattle.std.proofs.lemmas.Bool.{cond-true}
use Rattle.table.specs.Entries.{same_keys, rises}
use Rattle.table.specs.Tables.{entries, room}
use Rattle.table.proofs.Laws.{keys_from_same, size-from_same}
use Rattle.table.proofs.table.Table.overwrite.Goals as goal

pub put_front-requires : goal.put_front-requires
put_front-requires g c =
    let t = c.args.self.now in
    let same : same_keys g.E.Keyed.key c.args.others.now (entries t) ≡ true = cc in
    omega (arith, size-from_same g.E.Keyed.key c.args.others.now (entries t) same, length-take (min t.len (room t)) t.slots.now)

pub returns-clause-after : goal.returns-clause-after
returns-clause-after g c =
    let others = c.args.others.now in
    let t = c.args.self.now in
    let same : same_keys g.E.Keyed.key others (entries t) ≡ true = cc in
    let size = size-from_same g.E.Keyed.key others (entries t) same in
    ap (λ n. take (min t.len (min t.limit n)) c.put_front.new.slots) c.put_front.auto.slots ∙ ap (take (min t.len (room t))) c.put_front.ensures
    ∙ take_at others _ (min t.len (room t)) (omega (arith, size, length-take (min t.len (room t)) t.slots.now)) ∙ sym (cond-true _ _ _ same)

pub returns-clause-keys : goal.returns-clause-keys
returns-clause-keys g c =
    let key = g.E.Keyed.key in
    let others = c.args.others.now in
    let xs = entries c.args.self.now in
    let same : same_keys key others xs ≡ true = cc in
    ap (map key) (returns-clause-after g c ∙ cond-true _ others xs same) ∙ keys_from_same key others xs same

pub returns-clause-keeps : goal.returns-clause-keeps
returns-clause-keeps g c h = ap rises (returns-clause-keys g c) ∙ h
