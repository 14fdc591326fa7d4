use Rattle.std.proofs.Common.{◌≡◌, ◌+◌, ◌++◌, map, take, drop, sum}
use Rattle.sharing.specs.ProRata.{pro_rata_from, pro_rata}
use Rattle.sharing.proofs.weights.pro_rata.Given as goal

abbrev pub ghost-weigh : goal.ghost-weigh
ghost-weigh g a = g.w

abbrev pub invariant-loop-i : goal.invariant-loop-i
invariant-loop-i g l =
    (l.before + sum (map g.w (drop l.i l.levy.rows.now)) ≡ sum (map g.w l.levy.rows.now))
    × (take l.i l.shares ++ pro_rata_from l.levy.total l.whole l.before (map g.w (drop l.i l.levy.rows.now)) ≡ pro_rata l.levy.total (map g.w l.levy.rows.now))
