use Rattle.std.proofs.Common.{rules, tests}
use Rattle.std.proofs.lemmas.Iterator.{YieldsList-from_map}
use Rattle.std.proofs.lemmas.Iterator.Consumers.{YieldsList-from_enumerate, YieldsList-at}
use Rattle.commitment.specs.Stretches.{gaps}
use Rattle.commitment.proofs.Smallest.{windows_give, placed, smallest_from_chain}
use Rattle.commitment.proofs.steps.smallest_gap.Goals as goal

pub returns : goal.returns
returns c =
    let windows = windows_give {s = c.array_windows.result} c.args.periods.now c.array_windows.ensures.rest c.array_windows.ensures.size in
    let counted = YieldsList-from_enumerate {s = c.enumerate.result} (YieldsList-at c.enumerate.ensures.source windows) c.enumerate.ensures.count in
    smallest_from_chain _ _ (λ x k q called. search rules) c.map.result c.min_by_key.result (gaps c.args.periods.now) c.min_by_key.ensures.ran
    (YieldsList-from_map _ placed (YieldsList-at c.map.ensures.source counted) c.map.ensures.closure (λ x r q k. search (rules, tests)))
