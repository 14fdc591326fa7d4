use Rattle.std.proofs.Common.{map, length, sym, ◌∙◌, rules}
use mathlib.Core.List.{map-map}
use Rattle.std.proofs.lemmas.List.{length-map}
use Rattle.hours.proofs.Arrays.{first_made}
use Rattle.figures.specs.declared.standing.Member.{Member}
use Rattle.figures.specs.Entries.{member_key}
use Rattle.figures.specs.Figures.{member_row}
use Rattle.figures.proofs.Fills.{of_element}
use Rattle.figures.proofs.Together.{rows_of_all}
use Rattle.figures.proofs.rows.Roll.rows.Goals as goal

pub returns : goal.returns
returns c =
    let s = c.args.self.now in
    let all = s.standing.resources.now in
    let row = λ (m : Member). member_row all m.id in
    record {
      value =
          first_made _ _ c.from_fn-items.result (map row s.members.now) (λ i y q k. (search rules, λ below d. of_element row s.members.now i y d (search rules) below))
          16 c.from_fn-items.ensures.items (length s.members.now) (length-map s.members.now row) s.few
          ∙ sym (map-map (member_row all) member_key s.members.now);
      together = rows_of_all all s.standing.few;
    }
