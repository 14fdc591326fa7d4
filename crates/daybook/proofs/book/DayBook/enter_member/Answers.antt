use Rattle.std.proofs.Common.{◌≤◌, sym, ap, ◌∙◌, subst}
use Rattle.table.specs.Tables.{entries, room}
use Rattle.figures.specs.Entries.{member_key, ids_of_members}
use Rattle.figures.specs.Named.{all_members}
use Rattle.daybook.specs.Numbers.{all_ids}
use Rattle.daybook.proofs.Keeping.{named_after, ids_after}
use Rattle.daybook.proofs.book.DayBook.enter_member.Goals as goal

pub invariant_of-self-clause-owned : goal.invariant_of-self-clause-owned
invariant_of-self-clause-owned c =
    let b = c.args.self.now in
    ap (λ xs. all_members (ids_of_members xs) (entries b.resources)) c.insert.ensures.after
    ∙ named_after member_key c.new.result (entries b.members) (room b.members) (λ r. r.member) (entries b.resources) b.owned

pub invariant_of-self-clause-member_ids : goal.invariant_of-self-clause-member_ids
invariant_of-self-clause-member_ids c =
    let b = c.args.self.now in
    let one : 1 ≤ member_key c.new.result = subst (λ m. 1 ≤ member_key m) (sym c.new.ensures) c.args.id.bounds in
    ap (λ xs. all_ids (ids_of_members xs)) c.insert.ensures.after ∙ ids_after member_key c.new.result (entries b.members) (room b.members) one b.member_ids
