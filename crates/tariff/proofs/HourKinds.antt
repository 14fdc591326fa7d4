-- What every hour of a day is, hour by hour.
use Rattle.std.proofs.Common.{◌≡◌, ℕ, zero, suc, ◌+◌, ◌<◌, List, [], ◌∷◌, length, get_or, None, Option, ap, arith}
use Rattle.commitment.specs.declared.stretch.Stretch.{Stretch}
use Rattle.commitment.specs.Stretches.{covers}
use Rattle.hours.specs.declared.records.HourRecord.{HourRecord}
use Rattle.hours.specs.Days.{counted}
use Rattle.tariff.specs.declared.cost.HourKind.{HourKind}
use Rattle.tariff.specs.Costs.{kind_of, kinds_from}

pub length-kinds_from : (h : ℕ) (periods : List Stretch) (slots : List (Option HourRecord)) → length (kinds_from h periods slots) ≡ length slots
length-kinds_from h periods [] = omega arith
length-kinds_from h periods (slot ∷ slots) = ap suc (length-kinds_from (h + 1) periods slots)

pub get_or-kinds_from : (h : ℕ) (periods : List Stretch) (slots : List (Option HourRecord)) (i j : ℕ) (d : HourKind) → i < length slots → h + i ≡ j
    → get_or (kinds_from h periods slots) i d ≡ kind_of (covers periods j) (counted (get_or slots i None)).committed
get_or-kinds_from h periods [] i j d below e = absurd (omega arith)
get_or-kinds_from h periods (slot ∷ slots) zero j d below e = let k : h ≡ j = omega arith in ap (λ n. kind_of (covers periods n) (counted slot).committed) k
get_or-kinds_from h periods (slot ∷ slots) (suc i) j d below e = get_or-kinds_from (h + 1) periods slots i j d (omega arith) (omega arith)
