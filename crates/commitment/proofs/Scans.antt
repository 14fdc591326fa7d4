-- The list of stretches, and the scan of a day for them.
use Rattle.std.proofs.Common.{◌≡◌, ℕ, ◌+◌, ◌<◌, ◌≤◌, Bool, true, false, List, [], ◌∷◌, ◌++◌, length, take, Some, None, Option, ap, ◌∙◌, append_assoc, append-nil, arith, length-append}
use Rattle.std.specs.Option.{option_to_list}
use Rattle.std.proofs.lemmas.List.{places, take_all, take-append-le, length-take}
use Rattle.commitment.specs.declared.stretch.Stretch.{Stretch}
use Rattle.commitment.specs.Stretches.{added, ended, going, stretches_from, stretches}

-- adding, where there is room and where there is none
pub add_none : (items : List Stretch) (n : ℕ) (p : Option Stretch) → n ≤ 24 → length items ≡ 24 → p ≡ None → take n items ≡ added (take n items) p
add_none items n p few room e =
    grind (arith, places, append-nil (take n items), take_all 24 (take n items))

pub add-full : (items : List Stretch) (n : ℕ) (p : Option Stretch) → 24 ≤ n → length items ≡ 24 → take n items ≡ added (take n items) p
add-full items n p h room =
    grind (arith, take_all n items, take-append-le 24 items (option_to_list p), take_all 24 items)

pub added-all : (ps : List Stretch) (p : Option Stretch) → length ps + length (option_to_list p) ≤ 24 → added ps p ≡ ps ++ option_to_list p
added-all ps p h = take_all 24 (ps ++ option_to_list p) (simp length-append (omega arith))

pub added_few : (ps ps' : List Stretch) (p : Stretch) → ps' ≡ added ps (Some p) → length ps' ≤ length ps + 1
added_few ps ps' p e = simp (e, length-take, length-append) (omega arith)

-- an hour ends a stretch only if one was going, and then none is going
ends_or_goes : (h : ℕ) (began : Option ℕ) (marked : Bool) → length (option_to_list (ended h began marked)) + length (option_to_list (going h began marked)) ≤ length (option_to_list began) + 1
ends_or_goes h None true = omega arith
ends_or_goes h None false = omega arith
ends_or_goes h (Some f) true = omega arith
ends_or_goes h (Some f) false = omega arith

ends_last : (h : ℕ) (began : Option ℕ) → length (option_to_list (ended h began false)) ≤ length (option_to_list began)
ends_last h None = omega arith
ends_last h (Some f) = omega arith

-- the scan before an hour: the stretches found, and those to come of the marks that are left
abbrev pub Scanned : List Bool → List Stretch → Option ℕ → ℕ → List Bool → Type 0
Scanned marks found began hour rest =
    (found ++ stretches_from hour began rest ≡ stretches marks) × (length found + length (option_to_list began) < hour) × (hour + length rest ≡ 25)

pub scan_more : (marks : List Bool) (found found' : List Stretch) (began began' : Option ℕ) (hour next : ℕ) (marked : Bool) (now rest : List Bool) (e : Option Stretch)
    → now ≡ marked ∷ rest → next ≡ hour + 1 → e ≡ ended hour began marked → found' ≡ added found e → began' ≡ going hour began marked
    → Scanned marks found began hour now → Scanned marks found' began' next rest
scan_more marks found found' began began' hour next marked now rest e m n is f b inv =
    let few = ends_or_goes hour began marked in
    let one = ap (λ o. length (option_to_list o)) is in
    let left = ap length m in
    let more : found' ≡ found ++ option_to_list e = f ∙ added-all found e (omega arith) in
    let assoc = append_assoc found (option_to_list e) (stretches_from next began' rest) in
    (cc, simp (more, b, length-append) (omega arith), omega arith)

pub scan_end : (marks : List Bool) (found found' : List Stretch) (began : Option ℕ) (hour : ℕ) (rest : List Bool) (e : Option Stretch)
    → rest ≡ [] → e ≡ ended 25 began false → found' ≡ added found e → Scanned marks found began hour rest → found' ≡ stretches marks
scan_end marks found found' began hour rest e m is f inv =
    let few = ends_last 25 began in
    let left = ap length m in
    grind (arith, f ∙ added-all found e (omega (arith, ap (λ o. length (option_to_list o)) is)))
