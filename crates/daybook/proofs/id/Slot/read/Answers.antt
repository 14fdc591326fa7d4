use Rattle.std.proofs.Common.{◌≡◌, Ok, refl, ap, ◌∙◌, lit<, w64, to_z, of_z}
use Rattle.std.proofs.lemmas.Result.{err_from_is_err_and}
use Rattle.hours.specs.Days.{hour_fields, hour_made, hour_of}
use Rattle.daybook.specs.Readings.{id_from, hour_from, read, behind}
use Rattle.daybook.proofs.Taking.{small, read-first-out, read_second_out, read-both, handed}
use Rattle.daybook.proofs.id.Slot.read.Goals as goal
use Rattle.daybook.proofs.id.Slot.read.Goals.{In_ok-id}

the-id : (c : In_ok-id) → Ok c.in_ok-id.id ≡ read (id_from c.args.id)
the-id c = c.in_ok-id.ensures ∙ handed (λ n. read (id_from n)) c.args.id c.ranges.id

pub returns-in_err-id : goal.returns-in_err-id
returns-in_err-id c =
    let y = err_from_is_err_and c.from_residual.result c.from_residual.ensures.1 in
    rw (y.1, y.2) (read-first-out (id_from c.args.id) (hour_from c.args.hour) _ (c.in_err-id.ensures ∙ handed (λ n. read (id_from n)) c.args.id c.ranges.id))

pub behind-requires : goal.behind-requires
behind-requires c = let z = to_z w64 (of_z w64 c.args.hour) in small 1 (hour_fields z) (hour_made z) _ c.new.ensures (lit< tt)

pub returns-in_err-hour : goal.returns-in_err-hour
returns-in_err-hour c =
    let y = err_from_is_err_and c.from_residual-in_err-hour.result c.from_residual-in_err-hour.ensures.1 in
    rw (y.1, y.2)
    (read_second_out (id_from c.args.id) (hour_from c.args.hour) 1 refl _ (the-id (goal.at.returns-in_err-hour c).In_ok-id) _
    (c.in_err-hour.ensures ∙ ap (behind 1) c.new.ensures ∙ handed (λ n. behind 1 (hour_of n)) c.args.hour c.ranges.hour))

pub returns : goal.returns
returns c =
    read-both (id_from c.args.id) (hour_from c.args.hour) 1 refl _ (the-id (goal.at.returns c).In_ok-id) _
    (c.in_ok-hour.ensures ∙ ap (behind 1) c.new.ensures ∙ handed (λ n. behind 1 (hour_of n)) c.args.hour c.ranges.hour)
