-- A list with others written over its front: what stands there then, and that only the last to be written counts.
use Rattle.std.specs.Prelude.{◌≡◌, ℕ, List, ◌++◌, length, take, drop}
use Rattle.std.proofs.Common.{sym, ap, ◌∙◌}
use Rattle.std.proofs.lemmas.List.{take_at, drop_at}
use Rattle.sharing.specs.Admission.{written}

pub written-front : (xs list : List ℕ) (n : ℕ) → length xs ≡ n → take n (written xs list) ≡ xs
written-front xs list n e = take_at xs (drop (length xs) list) n e

pub written_again : (xs ys list : List ℕ) → length xs ≡ length ys → written xs (written ys list) ≡ written xs list
written_again xs ys list e = ap (λ l. xs ++ l) (drop_at ys (drop (length ys) list) (length xs) (sym e) ∙ ap (λ n. drop n list) (sym e))
