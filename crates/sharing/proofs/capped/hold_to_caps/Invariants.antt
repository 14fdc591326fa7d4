use Rattle.std.proofs.Common.{◌≡◌, min, ◌++◌, take, drop}
use Rattle.sharing.specs.Rules.{both, caps}
use Rattle.sharing.proofs.capped.hold_to_caps.Given as goal

abbrev pub invariant-loop-i : goal.invariant-loop-i
invariant-loop-i l =
    (take l.i l.amounts ++ both min (drop l.i l.initial.amounts) (caps l.rate (drop l.i l.rows)) ≡ both min l.initial.amounts (caps l.rate l.rows))
    × (drop l.i l.amounts ≡ drop l.i l.initial.amounts)
