-- An array that `from_fn` makes of another's elements.
use Rattle.std.proofs.Common.{◌≡◌, ℕ, ◌<◌, List, map, length, get_or, sym, ◌∙◌, arith}
use denote.Param.Members.{Mut}
use Rattle.std.proofs.lemmas.List.{length-map, get_or-map}
use Rattle.std.specs.Array.{IsFromFnResult}
use Rattle.std.specs.Fn.{Called}
use Rattle.hours.proofs.Arrays.{all_made}

-- f answers h of what stands at each index of xs, and no call changes f
module _ {F A B : Type 0} (g : Mut F (ℕ × Unit {0}) B) (h : A → B) (f : F) (xs : List A) (ys : List B) (d : A)
    (call : (i : ℕ) (y : B) (q : F) → Called g f (i, tt) y q → (q ≡ f) × (i < length xs → y ≡ h (get_or xs i d))) where
  pub made_of : (n : ℕ) → IsFromFnResult g f ys n → length xs ≡ n → ys ≡ map h xs
  made_of n made long =
      let size = length-map xs h in
      all_made g f ys (map h xs)
      (λ i y q k. ((call i y q k).0, λ below e. (call i y q k).1 (omega arith) ∙ sym (get_or-map h xs i d e (omega arith)))) n made (size ∙ long)
