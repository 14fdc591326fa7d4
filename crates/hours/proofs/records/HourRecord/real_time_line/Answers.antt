use Rattle.std.proofs.Common.{◌≡◌, ◌≤◌, nat_abs, sym, subst, w64, to_z, of_z, rules}
use Rattle.std.proofs.lemmas.Int.{to_z-of_z}
use Rattle.hours.specs.Energy.{real_time_line}
use Rattle.hours.proofs.Sizes.{real_time_size}
use Rattle.hours.proofs.records.HourRecord.real_time_line.Goals as goal

pub returns : goal.returns
returns c =
    let e : to_z w64 (of_z w64 c.round_cents.result) ≡ real_time_line c.args.self.now c.args.price.now = search (rules, to_z-of_z) in
    record { value = e; bound = subst (λ z. nat_abs z ≤ 40000000) (sym e) (real_time_size c.args.self.now c.args.price.now) }
