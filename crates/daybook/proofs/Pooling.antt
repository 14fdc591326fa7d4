-- The members of a book own all its resources, each once, so that what they come to adds up.
use Rattle.std.proofs.Common.{◌≡◌, ℕ, ◌≤◌, true, false, ◌&&◌, List, [], ◌∷◌, length, ℤ, nat_abs, IfOk, Ok, Err, Result, sym, refl, ap, ◌∙◌, subst, arith}
use Rattle.std.proofs.lemmas.List.{length-map}
use Rattle.std.proofs.lemmas.Grind.{common_steps}
use Rattle.sharing.specs.Admission.{most_total}
use Rattle.table.specs.Entries.{rises_from, rises, Rising}
use Rattle.figures.specs.declared.standing.Place.{Place}
use Rattle.figures.specs.declared.standing.Resource.{Resource}
use Rattle.figures.specs.Entries.{member_key, ids_of_members}
use Rattle.figures.specs.Figures.{member_row}
use Rattle.figures.specs.Named.{all_members}
use Rattle.figures.specs.Owners.{among, apart, all_owned, Owners, ByMembers, RowsOfAll}
use Rattle.daybook.specs.Held.{Held}
use Rattle.daybook.specs.Questions.{rows_of, Pooled, Shareable}

not-among : (j k : ℕ) (ids : List ℕ) → j ≤ k → rises_from k ids ≡ true → among ids j ≡ false
not-among j k [] l h = refl
not-among j k (id ∷ ids) l h = let ih = not-among j id ids in grind (arith, common_steps)

apart_from : (k : ℕ) (ids : List ℕ) → rises_from k ids ≡ true → apart ids ≡ true
apart_from k [] h = refl
apart_from k (id ∷ ids) h = let ih = apart_from id ids in let alone = not-among id id ids in grind (arith, common_steps)

rising_apart : (ids : List ℕ) → rises ids ≡ true → apart ids ≡ true
rising_apart [] h = refl
rising_apart (id ∷ ids) h = let rest = apart_from id ids h in let alone = not-among id id ids in grind (arith, common_steps)

members_own : (ids : List ℕ) (rs : List Resource) → all_members ids rs ≡ all_owned ids rs
members_own ids [] = refl
members_own ids (r ∷ rs) = ap (λ b. among ids r.member && b) (members_own ids rs)

module _ (v : Held) (rise : Rising member_key v.members) (owned : all_members (ids_of_members v.members) v.resources ≡ true) where
  owners : Owners (ids_of_members v.members) v.resources
  owners = record { nobody_twice = rising_apart (ids_of_members v.members) rise; nobody_left_out = sym (members_own (ids_of_members v.members) v.resources) ∙ owned }

  pub pooled : (ps : List Place) (rs : List Resource) → ps ≡ v.places → rs ≡ v.resources → (p : ℤ × ℕ) → ByMembers ps rs p → (nat_abs p.0 ≤ most_total) × (p.1 ≤ most_total) → Pooled v p
  pooled ps rs e f p sums bound =
      let all : ByMembers v.places v.resources p = subst (λ x. ByMembers x v.resources p) e (subst (λ y. ByMembers ps y p) f sums) in
      record {
        energies_add_up = all.energies (ids_of_members v.members) owners;
        uplifts_add_up = all.uplifts (ids_of_members v.members) owners;
        neutrality_in_range = bound.0;
        uplift_in_range = bound.1;
      }

  pub shareable : length v.members ≤ 16 → RowsOfAll v.resources → Shareable v (rows_of v)
  shareable few all =
      let d = all.demand (ids_of_members v.members) owners in
      let s = all.deviation (ids_of_members v.members) owners in
      record {
        few_rows = omega (arith, length-map (ids_of_members v.members) (member_row v.resources), length-map v.members member_key);
        demands_add_up = d;
        deviations_add_up = s;
        demand_in_range = omega (arith, d, all.demand_within);
        deviation_in_range = omega (arith, s, all.deviation_within);
      }

-- two facts of what is made give a third
pub made-both : {X Y : Type 0} (r : Result X Y) (P Q R : X → Type 0) → ((x : X) → P x → Q x → R x) → IfOk r P → IfOk r Q → IfOk r R
made-both (Ok x) P Q R f p q = f x p q
made-both (Err y) P Q R f p q = tt
