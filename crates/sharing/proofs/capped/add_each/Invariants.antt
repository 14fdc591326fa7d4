use Rattle.std.proofs.Common.{◌≡◌, ◌+◌, ◌++◌, take, drop}
use Rattle.sharing.specs.Rules.{both}
use Rattle.sharing.proofs.capped.add_each.Given as goal

abbrev pub invariant-loop-i : goal.invariant-loop-i
invariant-loop-i l =
    (take l.i l.shares ++ both ◌+◌ (drop l.i l.own) (drop l.i l.initial.shares) ≡ both ◌+◌ l.own l.initial.shares)
    × (drop l.i l.shares ≡ drop l.i l.initial.shares)
