-- An array that `from_fn` makes, index by index.
use Rattle.std.proofs.Common.{◌≡◌, ℕ, zero, suc, ◌+◌, ◌<◌, ◌≤◌, List, length, get_or, take, sym, ◌∙◌, subst, arith}
use denote.Param.Members.{Mut}
use Rattle.std.specs.Array.{IsFromFnResult, IsFromFnResultFrom}
use Rattle.std.specs.Fn.{Called}
use Rattle.std.proofs.lemmas.List.{same_lists, length-take-le, get_or-take, take_all}

-- f answers what zs has at each index of zs, and no call changes f
module _ {F B : Type 0} (g : Mut F (ℕ × Unit {0}) B) (f : F) (ys zs : List B)
    (call : (i : ℕ) (y : B) (q : F) → Called g f (i, tt) y q → (q ≡ f) × (i < length zs → (d : B) → y ≡ get_or zs i d)) where
  made_from : (n i k j : ℕ) (d : B) → IsFromFnResultFrom g f ys i n → k < n → i + k ≡ j → j < length zs → get_or ys j d ≡ get_or zs j d
  made_from zero i k j d made below at few = absurd (omega arith)
  made_from (suc n) i zero j d made below at few =
      let here : i ≡ j = omega arith in
      subst (λ m. get_or ys m d ≡ get_or zs m d) here (made.2.1 d ∙ (call i made.1 made.0 made.3).1 (omega arith) d)
  made_from (suc n) i (suc k) j d made below at few =
      made_from n (i + 1) k j d (subst (λ p. IsFromFnResultFrom g p ys (i + 1) n) (call i made.1 made.0 made.3).0 made.4) (omega arith) (omega arith) few

  module _ (n : ℕ) (made : IsFromFnResult g f ys n) where
    pub first_made : (m : ℕ) → length zs ≡ m → m ≤ n → take m ys ≡ zs
    first_made m long few =
        let same = length-take-le m ys (omega (arith, made.long)) in
        same_lists (take m ys) zs (same ∙ sym long) (λ k d below. get_or-take m ys k d (omega arith) ∙ made_from n 0 k k d made.each (omega arith) (omega arith) (omega arith))

    pub all_made : length zs ≡ n → ys ≡ zs
    all_made long = sym (take_all n ys (omega (arith, made.long))) ∙ first_made n long (omega arith)
