-- An entry that was found, changed and put back.
use Rattle.std.proofs.Common.{◌≡◌, ℕ, List, [], ◌∷◌, Some, refl, arith}
use Rattle.std.proofs.lemmas.Bool.Decides.{nat_tests}
use Rattle.table.specs.Entries.{lookup, replaced}
use Rattle.hours.specs.declared.day.Day.{Day}
use Rattle.hours.specs.declared.records.HourRecord.{HourRecord}
use Rattle.figures.specs.declared.standing.Resource.{Resource}
use Rattle.daybook.specs.Changes.{updated}

abbrev pub with_hours : Resource → Day HourRecord → Resource
with_hours r d = record { id = r.id; member = r.member; place = r.place; unit = r.unit; hours = d }

module _ {E : Type 0} (key : E → ℕ) where
  pub key_found : (k : ℕ) (xs : List E) (e : E) → lookup key k xs ≡ Some e → key e ≡ k
  key_found k [] e is = cc
  key_found k (x ∷ xs) e is = let ih = key_found k xs e in grind (arith, nat_tests)

  -- where k finds e, exchanging e for what is made of it is changing the entry of k
  pub put_back : (k : ℕ) (f : E → E) (e : E) (xs : List E) → lookup key k xs ≡ Some e → key (f e) ≡ key e → replaced key (f e) xs ≡ updated key k f xs
  put_back k f e [] is same = refl
  put_back k f e (x ∷ xs) is same = let at = key_found k (x ∷ xs) e is in let ih = put_back k f e xs in grind (arith, nat_tests)
