-- Sums along a list, of amounts and of quantities alike, and the chains that add them up.
use Rattle.std.proofs.Common.{◌≡◌, ℕ, ◌+◌, ◌*◌, ◌^◌, ◌≤◌, Bool, true, false, not, cond, List, [], ◌∷◌, ◌++◌, length, ℤ, pos, ◌+ℤ◌, nat_abs, fold, filter, Option, sym, refl, ap, ◌∙◌, add-zero, add_assoc, add_comm, zero-add, mul-one, mul-add, length-append, arith}
use lib.IntN.{+ℤ_idl, +ℤ_idr, +ℤ_assoc, +ℤ_comm}
use denote.Param.Members.{Mut}
use Rattle.std.specs.declared.iter.Map.{Map}
use Rattle.std.specs.Bool.{⊤}
use Rattle.std.specs.Fn.{Called}
use Rattle.std.specs.Iterator.{Drains, FoldsItems}
use Rattle.std.specs.Iterator.Adapters.{map_source, map_callee, map_steps}
use Rattle.std.proofs.iter.runs.Made.{run, seen, to_end}
use Rattle.std.proofs.lemmas.Fn.{fold_over}
use Rattle.std.proofs.lemmas.Iterator.{YieldsList}
use Rattle.std.proofs.lemmas.Iterator.Adapters.{YieldsAtMost, fits_from_length}
use Rattle.std.proofs.lemmas.List.Filters.{length-filter_both}
use Rattle.std.proofs.lemmas.List.Sums.{fold_push}
use Rattle.std.proofs.lemmas.Nat.{mul-le}
use Rattle.money.proofs.Products.{abs-add-le}
use Rattle.money.proofs.Sums.{held, held-exact}

-- what can be added up, in any order
pub record Sums (A : Type 0) : Type 0 where
  pub none : A
  pub plus : A → A → A
  pub size : A → ℕ
  pub idl : (a : A) → plus none a ≡ a
  pub idr : (a : A) → plus a none ≡ a
  pub assoc : (a b c : A) → plus (plus a b) c ≡ plus a (plus b c)
  pub comm : (a b : A) → plus a b ≡ plus b a

abbrev pub amounts : Sums ℤ
amounts = record { none = pos 0; plus = ◌+ℤ◌; size = nat_abs; idl = +ℤ_idl; idr = +ℤ_idr; assoc = +ℤ_assoc; comm = +ℤ_comm }

abbrev pub quantities : Sums ℕ
quantities = record { none = 0; plus = ◌+◌; size = λ n. n; idl = zero-add; idr = add-zero; assoc = add_assoc; comm = add_comm }

abbrev pub over : {A X : Type 0} → Sums A → (X → A) → List X → A
over s f xs = fold (λ a x. s.plus a (f x)) s.none xs

-- what an element adds if it passes; the others add nothing
abbrev pub part : {A X : Type 0} → Sums A → (X → Bool) → (X → A) → X → A
part s p f x = cond (p x) (f x) s.none

module _ {A X : Type 0} (s : Sums A) (f : X → A) where
  over-from : (a : A) (xs : List X) → fold (λ b x. s.plus b (f x)) a xs ≡ s.plus a (over s f xs)
  over-from a [] = sym (s.idr a)
  over-from a (x ∷ xs) =
      over-from (s.plus a (f x)) xs
      ∙ s.assoc a (f x) (over s f xs)
      ∙ ap (s.plus a) (sym (over-from (s.plus s.none (f x)) xs ∙ ap (λ b. s.plus b (over s f xs)) (s.idl (f x))))

  pub over-cons : (x : X) (xs : List X) → over s f (x ∷ xs) ≡ s.plus (f x) (over s f xs)
  over-cons x xs = over-from (s.plus s.none (f x)) xs ∙ ap (λ b. s.plus b (over s f xs)) (s.idl (f x))

  over-cond : (b : Bool) (x : X) (xs : List X) → over s f (cond b (x ∷ xs) xs) ≡ s.plus (cond b (f x) s.none) (over s f xs)
  over-cond true x xs = over-cons x xs
  over-cond false x xs = sym (s.idl (over s f xs))

-- the sum over those that pass is the sum of all parts
pub over_kept : {A X : Type 0} (s : Sums A) (p : X → Bool) (f : X → A) (xs : List X) → over s f (filter p xs) ≡ over s (part s p f) xs
over_kept s p f [] = refl
over_kept s p f (x ∷ xs) =
    over-cond s f (p x) x (filter p xs)
    ∙ ap (s.plus (part s p f x)) (over_kept s p f xs)
    ∙ sym (over-cons s (part s p f) x xs)

-- no more pass than there are
pub length_kept : {X : Type 0} (p : X → Bool) (xs : List X) → length (filter p xs) ≤ length xs
length_kept p xs = omega (arith, length-filter_both p (λ x. not (p x)) (λ _. refl) xs)

-- the sum of so many, none of them larger than n
abbrev pub Held : {X : Type 0} → (X → ℤ) → ℕ → List X → ℤ → Type 0
Held f n xs total = length xs ≤ 32 → (total ≡ over amounts f xs) × (nat_abs total ≤ n * length xs)

held_more : {X : Type 0} (f : X → ℤ) (n : ℕ) (xs : List X) (total next : ℤ) (x : X) → n ≤ 2 ^ 50 → Held f n xs total → next ≡ held total (f x) → nat_abs (f x) ≤ n → Held f n (xs ++ (x ∷ [])) next
held_more f n xs total next x far so_far is small few =
    let long : length (xs ++ (x ∷ [])) ≡ length xs + 1 = length-append xs (x ∷ []) in
    let before = so_far (omega arith) in
    let most = mul-le n (length xs) (2 ^ 50) 32 far (omega arith) in
    let sum : next ≡ total +ℤ f x = is ∙ held-exact total (f x) (omega arith) (omega arith) in
    let room : n * length (xs ++ (x ∷ [])) ≡ n * length xs + n = ap (λ k. n * k) long ∙ mul-add n (length xs) 1 ∙ ap (λ m. n * length xs + m) (mul-one n) in
    (sum ∙ ap (λ z. z +ℤ f x) before.0 ∙ sym (fold_push (λ a y. a +ℤ f y) (pos 0) xs x), omega (arith, abs-add-le total (f x), ap nat_abs sum))

-- `fold` along a chain that gives ys, by a closure that calls `plus`
pub fold_held : {S A X F : Type 0} {steps : S → Option A → S → Type 0} {v : A → X} {s : S} {ys : List X} (g : Mut F (ℤ × (A × Unit {0})) ℤ) (f : X → ℤ) (n : ℕ) {callee : F} (r : ℤ) → FoldsItems steps g s callee (pos 0) r → YieldsList steps v s ys → n ≤ 2 ^ 50
    → ((a : ℤ) (x : A) (b : ℤ) (q : F) → Called g callee (a, (x, tt)) b q → (q ≡ callee) × (b ≡ held a (f (v x))) × (nat_abs (f (v x)) ≤ n)) → Held f n ys r
fold_held {S} {A} {X} {F} {steps} {v} {s} {ys} g f n {callee} r ran road far call =
    fold_over steps v g (Held f n) callee (λ xs a x b q so_far k. let turn = call a x b q k in (held_more f n xs a b (v x) far so_far turn.1 turn.2, turn.0)) s ys (pos 0) r road.runs (λ few. (refl, omega arith)) ran

-- `sum` along a chain of at most 32, none of them larger than an uplift can be
pub sum_small : {S A F : Type 0} {steps : S → Option A → S → Type 0} {s : Map S F} (g : Mut F (A × Unit {0}) ℕ) (callee : F) (r : ℕ) → ((xs : List ℕ) × (⊤ → Drains (map_steps steps g) s xs) × (r ≡ fold (λ a x. a + x) 0 xs)) → YieldsAtMost steps (map_source s) 32 → map_callee s ≡ callee
    → ((x : A) (n : ℕ) (q : F) → Called g callee (x, tt) n q → (q ≡ callee) × (n ≤ 1224000000)) → r ≤ 39168000000
sum_small {S} {A} {F} {steps} {s} g callee r ran few is call =
    let fits = fits_from_length g callee 32 39168000001 few is (omega arith) call in
    let below = fits (run (map_steps steps g) s ran.0 true (to_end (map_steps steps g) s ran.0 (ran.1 tt))) (seen _) refl in
    omega arith
