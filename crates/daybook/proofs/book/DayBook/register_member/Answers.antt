use Rattle.std.proofs.Common.{◌∙◌}
use Rattle.daybook.specs.Calls.{register_member, brings}
use Rattle.daybook.specs.Readings.{id_from, read}
use Rattle.daybook.specs.Records.{member}
use Rattle.daybook.proofs.Followed.{out_of_range, carried_out}
use Rattle.daybook.proofs.Taking.{into-out, read-into, handed}
use Rattle.daybook.proofs.book.DayBook.register_member.Goals as goal

pub returns-in_err-id-clause-follows : goal.returns-in_err-id-clause-follows
returns-in_err-id-clause-follows c =
    let out = into-out (λ x. brings (member x.number)) (id_from c.args.id) _ (c.in_err-id.ensures ∙ handed (λ n. read (id_from n)) c.args.id c.ranges.id) in
    out_of_range (register_member c.args.id) c.args.self.now _ c.from_residual.ensures.1 out

pub returns : goal.returns
returns c =
    let is = read-into (λ x. brings (member x.number)) (id_from c.args.id) _ (c.in_ok-id.ensures ∙ handed (λ n. read (id_from n)) c.args.id c.ranges.id) in
    let f = carried_out (register_member c.args.id) c.args.self.now _ _ _ is c.enter_member.ensures in
    record { follows = f.0; law = f.1 }
