-- What stands under each name once an act is done.
use Rattle.std.proofs.Common.{◌≡◌, ℕ, ◌-◌, Bool, true, false, cond, eqb, List, [], ◌∷◌, length, get_or, replicate, is_some, Some, None, Option, sym, refl, ap, ◌∙◌, ⊎_elim, arith}
use Rattle.std.specs.Option.{option_map, option_or}
use Rattle.std.proofs.lemmas.List.{get_or-replicate, get_or-set_same, get_or-set_other, get_or_past}
use Rattle.std.proofs.lemmas.Bool.{cond-true, cond-false, eq-eqb, ne_eqb, eqb-true, cases_Bool, cases_eq, cases_lt, not-true}
use Rattle.std.proofs.lemmas.Bool.Decides.{nat_tests}
use Rattle.table.specs.Entries.{lookup, inserted}
use Rattle.table.proofs.Laws.{lookup-inserted}
use Rattle.refusal.specs.declared.cause.Refusal.{Refusal}
use Rattle.hours.specs.declared.day.Hour.{Hour}
use Rattle.hours.specs.declared.records.HourRecord.{HourRecord}
use Rattle.hours.specs.declared.records.Price.{Price}
use Rattle.hours.specs.Days.{slot_at, placed}
use Rattle.hours.proofs.Made.{same_number}
use Rattle.figures.specs.declared.standing.Resource.{Resource}
use Rattle.figures.specs.declared.standing.Unit.{Unit as Sort}
use Rattle.figures.specs.Entries.{member_key, place_key, resource_key, new_member, new_place, new_resource, is_generator}
use Rattle.daybook.specs.Calls.{Act, brings, takes}
use Rattle.daybook.specs.Changes.{updated, with_price, with_hour, hour_changed, done}
use Rattle.daybook.specs.Due.{is_a, is_load, due_to}
use Rattle.daybook.specs.Held.{Held}
use Rattle.daybook.specs.Laws.{Acted}
use Rattle.daybook.specs.Numbers.{every, whole_day, has_whole_prices, has_whole_hours}
use Rattle.daybook.specs.Records.{Record, member, place, resource, price, generator_hour, load_hour, Name, the_member, the_place, the_resource, the_price, the_hour, member_in, place_in, resource_in, price_in, posted_to, hour_in, in_entry, standing}
use Rattle.daybook.proofs.Keeping.{found_passes}
use Rattle.daybook.proofs.Updates.{key_found}

-- the tests of an act that is not refused
both-none : (o p : Option Refusal) → option_or o p ≡ None → (o ≡ None) × (p ≡ None)
both-none None p h = (refl, h)
both-none (Some e) p h = cc

free : (b : Bool) (e : Refusal) → cond b (Some e) None ≡ None → b ≡ false
free false e h = refl
free true e h = cc

there : (b : Bool) (e : Refusal) → cond b None (Some e) ≡ None → b ≡ true
there true e h = refl
there false e h = cc

none_from : {X : Type 0} (o : Option X) → is_some o ≡ false → o ≡ None
none_from None h = refl
none_from (Some x) h = cc

some_from : {X : Type 0} (o : Option X) → is_some o ≡ true → (x : X) × (o ≡ Some x)
some_from None h = cc
some_from (Some x) h = (x, refl)

a_from : (kind : Sort → Bool) (o : Option Resource) → is_a kind o ≡ true → (r : Resource) × (o ≡ Some r) × (kind r.unit ≡ true)
a_from kind None h = cc
a_from kind (Some r) h = (r, refl, h)

-- the slots of a day
same_slot : {X : Type 0} (slots : List (Option X)) (h : Hour) (slot : Option X) → whole_day slots ≡ true → slot_at (placed slots h.number slot) h.number ≡ slot
same_slot slots h slot whole = let many = eqb-true (length slots) 24 whole in get_or-set_same slots (h.number - 1) slot None (omega (arith, h.bounds.0, h.bounds.1))

other_slot : {X : Type 0} (slots : List (Option X)) (h g : Hour) (slot : Option X) → (g.number ≡ h.number → ⊥) → slot_at (placed slots h.number slot) g.number ≡ slot_at slots g.number
other_slot slots h g slot apart = get_or-set_other slots (h.number - 1) (g.number - 1) slot None (λ e. apart (omega (arith, h.bounds.0, g.bounds.0)))

no_slot : {X : Type 0} (i : ℕ) → get_or (replicate {A = Option X} 24 None) i None ≡ None
no_slot i = ⊎_elim (λ l. get_or-replicate 24 i None None l) (λ l. get_or_past (replicate 24 None) i None l) (cases_lt i 24)

same_hour : (h g : Hour) → h.number ≡ g.number → h ≡ g
same_hour h g e = same_number h.number g.number h.bounds g.bounds e

module _ {E : Type 0} (key : E → ℕ) where
  found_new : (e : E) (xs : List E) (k : ℕ) → key e ≡ k → lookup key k (inserted key e xs) ≡ Some e
  found_new e xs k is = lookup-inserted key e xs k ∙ cond-true _ _ _ (eq-eqb (key e) k is)

  found_old : (e : E) (xs : List E) (k : ℕ) → (key e ≡ k → ⊥) → lookup key k (inserted key e xs) ≡ lookup key k xs
  found_old e xs k other = lookup-inserted key e xs k ∙ cond-false _ _ _ (ne_eqb (key e) k other)

  module _ (f : E → E) (keeps : (x : E) → key (f x) ≡ key x) where
    lookup-updated : (k j : ℕ) (xs : List E) → lookup key j (updated key k f xs) ≡ cond (eqb k j) (option_map f (lookup key j xs)) (lookup key j xs)
    lookup-updated k j [] = ⊎_elim (λ e. sym (cond-true _ _ _ e)) (λ e. sym (cond-false _ _ _ e)) (cases_Bool (eqb k j))
    lookup-updated k j (x ∷ xs) = let ih = lookup-updated k j xs in let same = keeps x in grind (arith, nat_tests)

    pub found_changed : (k : ℕ) (xs : List E) → lookup key k (updated key k f xs) ≡ option_map f (lookup key k xs)
    found_changed k xs = lookup-updated k k xs ∙ cond-true _ _ _ (eq-eqb k k refl)

-- an entry that changed in its hours or prices alone
module _ {X : Type 0} where
  mapped_through : (f : X → X) (g : X → Record) → ((x : X) → g (f x) ≡ g x) → (o : Option X) → option_map g (option_map f o) ≡ option_map g o
  mapped_through f g same None = refl
  mapped_through f g same (Some x) = ap Some (same x)

  entry_through : (f : X → X) (g : X → Option Record) → ((x : X) → g (f x) ≡ g x) → (o : Option X) → in_entry g (option_map f o) ≡ in_entry g o
  entry_through f g same None = refl
  entry_through f g same (Some x) = same x

same_either : {A B : Type 0} (h : A → B) (b : Bool) (x y : A) → (b ≡ true → h x ≡ h y) → h (cond b x y) ≡ h y
same_either h true x y e = e refl
same_either h false x y e = refl

module _ (v : Held) where
  -- registering
  member_others : (id : ℕ) (n : Name) → (n ≡ the_member id → ⊥) → standing (done (brings (member id)) v) n ≡ standing v n
  member_others id (the_member k) d = ap (option_map member_in) (found_old member_key (new_member id) v.members k (λ e. d (ap the_member (sym e))))
  member_others id (the_place k) d = refl
  member_others id (the_resource k) d = refl
  member_others id (the_price k h) d = refl
  member_others id (the_hour k h) d = refl

  -- a new place has no prices, and none stood for it
  new_prices : (id k : ℕ) (h : Hour) → is_some (lookup place_key id v.places) ≡ false → standing (done (brings (place id)) v) (the_price k h) ≡ standing v (the_price k h)
  new_prices id k h unused =
      ⊎_elim
      (λ e.
      ap (in_entry (price_in h)) (found_new place_key (new_place id) v.places k e)
      ∙ ap (option_map (price id h)) (no_slot (h.number - 1))
      ∙ ap (in_entry (price_in h)) (sym (none_from (lookup place_key k v.places) (ap (λ i. is_some (lookup place_key i v.places)) (sym e) ∙ unused))))
      (λ d. ap (in_entry (price_in h)) (found_old place_key (new_place id) v.places k d))
      (cases_eq id k)

  place_others : (id : ℕ) → is_some (lookup place_key id v.places) ≡ false → (n : Name) → (n ≡ the_place id → ⊥) → standing (done (brings (place id)) v) n ≡ standing v n
  place_others id unused (the_member k) d = refl
  place_others id unused (the_place k) d = ap (option_map place_in) (found_old place_key (new_place id) v.places k (λ e. d (ap the_place (sym e))))
  place_others id unused (the_resource k) d = refl
  place_others id unused (the_price k h) d = new_prices id k h unused
  place_others id unused (the_hour k h) d = refl

  module _ (id m p : ℕ) (unit : Sort) (unused : is_some (lookup resource_key id v.resources) ≡ false) where
    new_hours : (k : ℕ) (h : Hour) → standing (done (brings (resource id m p unit)) v) (the_hour k h) ≡ standing v (the_hour k h)
    new_hours k h =
        ⊎_elim
        (λ e.
        ap (in_entry (hour_in h)) (found_new resource_key (new_resource id m p unit) v.resources k e)
        ∙ ap (option_map (posted_to unit id h)) (no_slot (h.number - 1))
        ∙ ap (in_entry (hour_in h)) (sym (none_from (lookup resource_key k v.resources) (ap (λ i. is_some (lookup resource_key i v.resources)) (sym e) ∙ unused))))
        (λ d. ap (in_entry (hour_in h)) (found_old resource_key (new_resource id m p unit) v.resources k d))
        (cases_eq id k)

    resource_others : (n : Name) → (n ≡ the_resource id → ⊥) → standing (done (brings (resource id m p unit)) v) n ≡ standing v n
    resource_others (the_member k) d = refl
    resource_others (the_place k) d = refl
    resource_others (the_resource k) d = ap (option_map resource_in) (found_old resource_key (new_resource id m p unit) v.resources k (λ e. d (ap the_resource (sym e))))
    resource_others (the_price k h) d = refl
    resource_others (the_hour k h) d = new_hours k h

  -- posting a price
  module _ (p : ℕ) (h : Hour) (x : Price) where
    price_others : (n : Name) → (n ≡ the_price p h → ⊥) → standing (done (brings (price p h x)) v) n ≡ standing v n
    price_others (the_member k) d = refl
    price_others (the_place k) d =
        ap (option_map place_in) (lookup-updated place_key (with_price h.number x) (λ _. refl) p k v.places)
        ∙ same_either (option_map place_in) (eqb p k) _ _ (λ _. mapped_through (with_price h.number x) place_in (λ _. refl) (lookup place_key k v.places))
    price_others (the_resource k) d = refl
    price_others (the_price k g) d =
        ap (in_entry (price_in g)) (lookup-updated place_key (with_price h.number x) (λ _. refl) p k v.places)
        ∙ same_either (in_entry (price_in g)) (eqb p k) _ _
        (λ t.
        let apart : g.number ≡ h.number → ⊥ = λ q. d (λ i. the_price (sym (eqb-true p k t) i) (same_hour g h q i)) in
        entry_through (with_price h.number x) (price_in g) (λ y. ap (option_map (price y.id g)) (other_slot y.prices.slots h g (Some x) apart)) (lookup place_key k v.places))
    price_others (the_hour k g) d = refl

    price-stands : every has_whole_prices v.places ≡ true → is_some (lookup place_key p v.places) ≡ true → standing (done (brings (price p h x)) v) (the_price p h) ≡ Some (price p h x)
    price-stands whole known =
        let found = some_from (lookup place_key p v.places) known in
        let y = found.0 in
        ap (in_entry (price_in h)) (found_changed place_key (with_price h.number x) (λ _. refl) p v.places ∙ ap (option_map (with_price h.number x)) found.1)
        ∙ ap (option_map (price y.id h)) (same_slot y.prices.slots h (Some x) (found_passes place_key has_whole_prices p v.places y found.1 whole))
        ∙ ap (λ i. Some (price i h x)) (key_found place_key p v.places y found.1)

  -- posting an hour, or striking one
  module _ (k : ℕ) (h : Hour) (slot : Option HourRecord) where
    hour_others : (n : Name) → (n ≡ the_hour k h → ⊥) → standing (hour_changed k h.number slot v) n ≡ standing v n
    hour_others (the_member j) d = refl
    hour_others (the_place j) d = refl
    hour_others (the_resource j) d =
        ap (option_map resource_in) (lookup-updated resource_key (with_hour h.number slot) (λ _. refl) k j v.resources)
        ∙ same_either (option_map resource_in) (eqb k j) _ _ (λ _. mapped_through (with_hour h.number slot) resource_in (λ _. refl) (lookup resource_key j v.resources))
    hour_others (the_price j g) d = refl
    hour_others (the_hour j g) d =
        ap (in_entry (hour_in g)) (lookup-updated resource_key (with_hour h.number slot) (λ _. refl) k j v.resources)
        ∙ same_either (in_entry (hour_in g)) (eqb k j) _ _
        (λ t.
        let apart : g.number ≡ h.number → ⊥ = λ q. d (λ i. the_hour (sym (eqb-true k j t) i) (same_hour g h q i)) in
        entry_through (with_hour h.number slot) (hour_in g) (λ y. ap (option_map (posted_to y.unit y.id g)) (other_slot y.hours.slots h g slot apart)) (lookup resource_key j v.resources))

    hour_stands_as : every has_whole_hours v.resources ≡ true → (y : Resource) → lookup resource_key k v.resources ≡ Some y → standing (hour_changed k h.number slot v) (the_hour k h) ≡ option_map (posted_to y.unit k h) slot
    hour_stands_as whole y found =
        ap (in_entry (hour_in h)) (found_changed resource_key (with_hour h.number slot) (λ _. refl) k v.resources ∙ ap (option_map (with_hour h.number slot)) found)
        ∙ ap (option_map (posted_to y.unit y.id h)) (same_slot y.hours.slots h slot (found_passes resource_key has_whole_hours k v.resources y found whole))
        ∙ ap (λ i. option_map (posted_to y.unit i h) slot) (key_found resource_key k v.resources y found)

  not-generator : (unit : Sort) → is_load unit ≡ true → is_generator unit ≡ false
  not-generator unit h = not-true _ h

  -- an act that is not refused brings or takes away what it says, and nothing else
  pub acted : every has_whole_prices v.places ≡ true → every has_whole_hours v.resources ≡ true → (a : Act) → due_to v a ≡ None → Acted a v (done a v)
  acted w u (brings (member id)) h = record { stands = ap (option_map member_in) (found_new member_key (new_member id) v.members id refl); others_stay = member_others id }
  acted w u (brings (place id)) h = record {
    stands = ap (option_map place_in) (found_new place_key (new_place id) v.places id refl);
    others_stay = place_others id (free _ _ (both-none _ _ h).0);
  }
  acted w u (brings (resource id m p unit)) h = record {
    stands = ap (option_map resource_in) (found_new resource_key (new_resource id m p unit) v.resources id refl);
    others_stay = resource_others id m p unit (free _ _ (both-none _ _ (both-none _ _ h).1).0);
  }
  acted w u (brings (price p g x)) h = record {
    stands = price-stands p g x w (there _ _ (both-none _ _ (both-none _ _ h).0).0);
    others_stay = price_others p g x;
  }
  acted w u (brings (generator_hour k g x)) h =
      let found = a_from is_generator (lookup resource_key k v.resources) (there _ _ (both-none _ _ (both-none _ _ h).0).0) in
      record {
        stands = hour_stands_as k g (Some x) u found.0 found.1 ∙ ap Some (cond-true _ _ _ found.2);
        others_stay = hour_others k g (Some x);
      }
  acted w u (brings (load_hour k g x)) h =
      let found = a_from is_load (lookup resource_key k v.resources) (there _ _ (both-none _ _ (both-none _ _ h).0).0) in
      record {
        stands = hour_stands_as k g (Some x) u found.0 found.1 ∙ ap Some (cond-false _ _ _ (not-generator found.0.unit found.2));
        others_stay = hour_others k g (Some x);
      }
  acted w u (takes k g) h =
      let found = some_from (lookup resource_key k v.resources) (there _ _ (both-none _ _ (both-none _ _ h).0).0) in
      record {
        nothing_stands = hour_stands_as k g None u found.0 found.1;
        others_stay = hour_others k g None;
      }
