-- A figure of a generator that needs its prices.
use Rattle.std.proofs.Common.{◌≡◌, ℤ, Some, None, Ok, Err, Option, Result, sym, refl, ap, ◌∙◌}
use Rattle.refusal.specs.declared.cause.Refusal.{Refusal}
use Rattle.hours.specs.declared.day.Day.{Day}
use Rattle.hours.specs.declared.records.Price.{Price}
use Rattle.tariff.specs.declared.generator.Generator.{Generator}
use Rattle.figures.specs.declared.standing.MissingPrice.{MissingPrice}
use Rattle.figures.specs.declared.standing.Resource.{Resource}
use Rattle.figures.specs.Pots.{unless_missing}
use Rattle.figures.specs.Priced.{refusal_of, priced_day}
use Rattle.figures.specs.Prices.{prices_at, resource_missing}
use Rattle.daybook.specs.Held.{Held}
use Rattle.daybook.specs.Questions.{given, generator_asked}

-- what is missing for the one value is missing for the other
unless-out : {X Y : Type 0} (o : Option MissingPrice) (x : X) (y : Y) (e : Refusal) → Err e ≡ unless_missing o x → Err e ≡ unless_missing o y
unless-out None x y e h = cc
unless-out (Some m) x y e h = let same : e ≡ refusal_of m = cc in ap Err same

unless_in : {X Y : Type 0} (o : Option MissingPrice) (w x : X) (y : Y) → Ok w ≡ unless_missing o x → (w ≡ x) × (Ok y ≡ unless_missing o y)
unless_in None w x y h = (cc, refl)
unless_in (Some m) w x y h = cc

module _ {X : Type 0} (v : Held) (id : ℤ) (F : Generator × Resource → X) (x : Generator × Resource) (is : Ok x ≡ generator_asked v id) where
  abbrev figure : Result (Generator × Resource) Refusal → Result X Refusal
  figure r = given r (λ y. unless_missing (resource_missing v.places y.1) (F y))

  pub figure-out : (e : Refusal) → Err e ≡ priced_day v.places x.1 → Err e ≡ figure (generator_asked v id)
  figure-out e out = unless-out (resource_missing v.places x.1) (record { slots = prices_at v.places x.1.place }) (F x) e out ∙ ap figure is

  pub figure_in : (d : Day Price) → Ok d ≡ priced_day v.places x.1 → (d.slots ≡ prices_at v.places x.1.place) × (Ok (F x) ≡ figure (generator_asked v id))
  figure_in d was =
      let k = unless_in (resource_missing v.places x.1) d (record { slots = prices_at v.places x.1.place }) (F x) was in
      (ap (λ w. w.slots) k.0, k.1 ∙ ap figure is)

-- a generator is asked for once
pub one-generator : (v : Held) (id : ℤ) (x : Generator × Resource) → Ok x ≡ generator_asked v id → (g : Generator) (r : Resource) → generator_asked v id ≡ Ok (g, r) → (g ≡ x.0) × (r ≡ x.1)
one-generator v id x is g r was = let same : Ok (g, r) ≡ Ok x = sym was ∙ sym is in let pair : (g, r) ≡ x = cc in (ap (λ y. y.0) pair, ap (λ y. y.1) pair)
