use Rattle.std.proofs.Common.{◌≡◌, ◌++◌, take, drop}
use Rattle.pool_rule.specs.EqualParts.{parts_from, equal_parts}
use Rattle.pool_rule.proofs.equal_parts.share_equally.Given as goal

abbrev pub invariant-loop-i : goal.invariant-loop-i
invariant-loop-i l = take l.i l.shares ++ parts_from l.even l.left (drop l.i l.rows) ≡ equal_parts l.total l.rows
