use Rattle.std.proofs.Common.{◌≡◌, ℤ, Ok, Err, refl, ap, ◌∙◌, lit<, w64, to_z, of_z}
use Rattle.std.proofs.lemmas.Result.{err_from_is_err_and}
use Rattle.refusal.specs.declared.cause.Refusal.{Refusal}
use Rattle.daybook.specs.Calls.{ids_from}
use Rattle.daybook.specs.Readings.{both, id_of, id_from, id_fields, id_made, read, behind}
use Rattle.daybook.proofs.Taking.{small, read-first-out, read_second_out, read-both, read-into, into-out, handed}
use Rattle.daybook.proofs.id.ResourceIds.read.Goals as goal
use Rattle.daybook.proofs.id.ResourceIds.read.Goals.{In_ok-own, In_ok-member}

the-id : (c : In_ok-own) → Ok c.in_ok-own.own ≡ read (id_from c.args.own)
the-id c = c.in_ok-own.ensures ∙ handed (λ n. read (id_from n)) c.args.own c.ranges.own

the-two : (c : In_ok-member) → Ok (c.in_ok-own.own, c.in_ok-member.member) ≡ read (both (id_from c.args.own) (id_from c.args.member))
the-two c =
    read-both (id_from c.args.own) (id_from c.args.member) 1 refl _ (the-id (goal.at.In_ok-member c).In_ok-own) _
    (c.in_ok-member.ensures ∙ ap (behind 1) c.new.ensures ∙ handed (λ n. behind 1 (id_of n)) c.args.member c.ranges.member)

out : {e : Refusal} (id m p : ℤ) → Err e ≡ read (both (both (id_from id) (id_from m)) (id_from p)) → Err e ≡ read (ids_from id m p)
out id m p is = into-out (λ x. (x.0.0, x.0.1, x.1)) (both (both (id_from id) (id_from m)) (id_from p)) _ is

pub returns-in_err-own : goal.returns-in_err-own
returns-in_err-own c =
    let id = c.args.own in let m = c.args.member in let p = c.args.place in
    let y = err_from_is_err_and c.from_residual.result c.from_residual.ensures.1 in
    rw (y.1, y.2)
    (out id m p (read-first-out (both (id_from id) (id_from m)) (id_from p) _ (read-first-out (id_from id) (id_from m) _ (c.in_err-own.ensures ∙ handed (λ n. read (id_from n)) id c.ranges.own))))

pub behind-requires : goal.behind-requires
behind-requires c = let z = to_z w64 (of_z w64 c.args.member) in small 1 (id_fields z) (id_made z) _ c.new.ensures (lit< tt)

pub returns-in_err-member : goal.returns-in_err-member
returns-in_err-member c =
    let id = c.args.own in let m = c.args.member in let p = c.args.place in
    let y = err_from_is_err_and c.from_residual-in_err-member.result c.from_residual-in_err-member.ensures.1 in
    rw (y.1, y.2)
    (out id m p (read-first-out (both (id_from id) (id_from m)) (id_from p) _
    (read_second_out (id_from id) (id_from m) 1 refl _ (the-id (goal.at.returns-in_err-member c).In_ok-own) _ (c.in_err-member.ensures ∙ ap (behind 1) c.new.ensures ∙ handed (λ n. behind 1 (id_of n)) m c.ranges.member))))

pub behind-requires-2 : goal.behind-requires-2
behind-requires-2 c = let z = to_z w64 (of_z w64 c.args.place) in small 2 (id_fields z) (id_made z) _ c.new-2.ensures (lit< tt)

pub returns-in_err-place : goal.returns-in_err-place
returns-in_err-place c =
    let id = c.args.own in let m = c.args.member in let p = c.args.place in
    let y = err_from_is_err_and c.from_residual-in_err-place.result c.from_residual-in_err-place.ensures.1 in
    rw (y.1, y.2)
    (out id m p (read_second_out (both (id_from id) (id_from m)) (id_from p) 2 refl _ (the-two (goal.at.returns-in_err-place c).In_ok-member) _ (c.in_err-place.ensures ∙ ap (behind 2) c.new-2.ensures ∙ handed (λ n. behind 2 (id_of n)) p c.ranges.place)))

pub returns : goal.returns
returns c =
    let id = c.args.own in let m = c.args.member in let p = c.args.place in
    read-into (λ x. (x.0.0, x.0.1, x.1)) (both (both (id_from id) (id_from m)) (id_from p)) _
    (read-both (both (id_from id) (id_from m)) (id_from p) 2 refl _ (the-two (goal.at.returns c).In_ok-member) _ (c.in_ok-place.ensures ∙ ap (behind 2) c.new-2.ensures ∙ handed (λ n. behind 2 (id_of n)) p c.ranges.place))
