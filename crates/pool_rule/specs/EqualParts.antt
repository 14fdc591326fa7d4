-- The pool's own rule: the members with demand bear equal parts, and where cents are left over, the first of them one more each.
--
--   bears         the member has demand
--   bearers       how many members have
--   part_of       what a member bears, with an even part and so many cents left over
--   left_after    the cents that are left over behind the member
--   equal_parts   every member's share
use Rattle.std.specs.Prelude.{ℕ, ◌+◌, ◌-◌, ◌/◌, ◌%◌, min, Bool, cond, List, [], ◌∷◌, count_by, nat_lt}
use Rattle.sharing.specs.declared.rows.MemberRow.{MemberRow}

abbrev pub bears : MemberRow → Bool
bears r = nat_lt 0 r.demand

abbrev pub bearers : List MemberRow → ℕ
bearers rows = count_by bears rows

abbrev pub part_of : ℕ → ℕ → MemberRow → ℕ
part_of even left r = cond (bears r) (even + min left 1) 0

abbrev pub left_after : ℕ → MemberRow → ℕ
left_after left r = cond (bears r) (left - 1) left

abbrev pub parts_from : ℕ → ℕ → List MemberRow → List ℕ
parts_from even left [] = []
parts_from even left (r ∷ rows) = part_of even left r ∷ parts_from even (left_after left r) rows

abbrev pub equal_parts : ℕ → List MemberRow → List ℕ
equal_parts total rows = parts_from (total / bearers rows) (total % bearers rows) rows
