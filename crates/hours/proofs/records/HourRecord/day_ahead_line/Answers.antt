use Rattle.std.proofs.Common.{◌≡◌, ◌≤◌, nat_abs, sym, subst, w64, to_z, of_z, rules}
use Rattle.std.proofs.lemmas.Int.{to_z-of_z}
use Rattle.hours.specs.Energy.{day_ahead_line}
use Rattle.hours.proofs.Sizes.{day_ahead_size}
use Rattle.hours.proofs.records.HourRecord.day_ahead_line.Goals as goal

pub returns : goal.returns
returns c =
    let e : to_z w64 (of_z w64 c.round_cents.result) ≡ day_ahead_line c.args.self.now c.args.price.now = search (rules, to_z-of_z) in
    record { value = e; bound = subst (λ z. nat_abs z ≤ 20000000) (sym e) (day_ahead_size c.args.self.now c.args.price.now) }
