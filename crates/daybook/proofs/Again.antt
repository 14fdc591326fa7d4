-- An hour that is posted twice, and one that is posted and struck.
use Rattle.std.proofs.Common.{◌≡◌, ℕ, ◌-◌, Bool, eqb, List, [], ◌∷◌, ℤ, is_some, Some, None, Ok, Err, Option, Result, sym, refl, ap, ◌∙◌, ⊎_elim, arith}
use Rattle.std.specs.Option.{option_map}
use Rattle.std.proofs.lemmas.List.{set-set, set-get_or}
use Rattle.std.proofs.lemmas.Bool.Decides.{nat_tests}
use Rattle.std.proofs.lemmas.Bool.{cond-true, cond-false, cases_Bool}
use Rattle.refusal.specs.declared.cause.Refusal.{Refusal}
use Rattle.table.specs.Entries.{lookup}
use Rattle.hours.specs.declared.day.Hour.{Hour}
use Rattle.hours.specs.declared.records.HourRecord.{HourRecord}
use Rattle.hours.specs.declared.records.Price.{Price}
use Rattle.hours.specs.Days.{slot_at, placed}
use Rattle.figures.specs.declared.standing.Resource.{Resource as Entry}
use Rattle.figures.specs.declared.standing.Unit.{Unit as Sort}
use Rattle.figures.specs.Entries.{place_key, resource_key, is_generator}
use Rattle.daybook.specs.declared.id.Id.{Id}
use Rattle.daybook.specs.Calls.{Call, strike, Act, brings, takes, slot_from, brings_hour, asked}
use Rattle.daybook.specs.Changes.{updated, with_price, with_hour, hour_changed, done, unless, after_act, after_if, after, Follows}
use Rattle.daybook.specs.Due.{is_a, is_load, due_to, due_if, due}
use Rattle.daybook.specs.Held.{Held, with_places, with_resources}
use Rattle.daybook.specs.Laws.{SecondCounts, Unposted}
use Rattle.daybook.specs.Readings.{Reading, both, into, read}
use Rattle.daybook.specs.Records.{Record, price, generator_hour, load_hour, the_hour, posted_to, hour_in, in_entry, standing}
use Rattle.daybook.proofs.Lawful.{nothing_was_due}
use Rattle.daybook.proofs.Slots.{some_mapped}
use Rattle.daybook.proofs.Standing.{found_changed}
use Rattle.daybook.proofs.Taking.{from-into, from-both}
use Rattle.daybook.proofs.Updates.{with_hours}

module _ {E : Type 0} (key : E → ℕ) (k : ℕ) where
  -- the second change leaves nothing of the first
  changed_twice : (f g : E → E) → ((x : E) → key (g x) ≡ key x) → ((x : E) → f (g x) ≡ f x) → (xs : List E) → updated key k f (updated key k g xs) ≡ updated key k f xs
  changed_twice f g keeps over [] = refl
  changed_twice f g keeps over (x ∷ xs) = let ih = changed_twice f g keeps over xs in let same = keeps x in let once = over x in grind (arith, nat_tests)

  -- a change that leaves the entry as it is
  unchanged : (f : E → E) (xs : List E) → ((e : E) → lookup key k xs ≡ Some e → f e ≡ e) → updated key k f xs ≡ xs
  unchanged f [] same = refl
  unchanged f (x ∷ xs) same =
      ⊎_elim
      (λ t. cond-true _ _ _ t ∙ ap (λ y. y ∷ xs) (same x (cond-true _ _ _ t)))
      (λ n. cond-false _ _ _ n ∙ ap (λ ys. x ∷ ys) (unchanged f xs (λ e is. same e (cond-false _ _ _ n ∙ is))))
      (cases_Bool (eqb (key x) k))

kind_changed : (kind : Sort → Bool) (f : Entry → Entry) → ((r : Entry) → (f r).unit ≡ r.unit) → (o : Option Entry) → is_a kind (option_map f o) ≡ is_a kind o
kind_changed kind f same None = refl
kind_changed kind f same (Some r) = ap kind (same r)

-- two acts in a row, the first of which has no part in what is left
module _ (v : Held) (one two : Act) where
  done_then : due_to v one ≡ None → after_act v one ≡ done one v
  done_then free = ap (λ o. unless o (done one v) v) free

  twice : due_to v one ≡ None → due_to v two ≡ None → due_to (done one v) two ≡ due_to v two → done two (done one v) ≡ done two v → after_act (after_act v one) two ≡ after_act v two
  twice free free' same left =
      ap (λ w. after_act w two) (done_then free)
      ∙ ap (λ o. unless o (done two (done one v)) (done one v)) (same ∙ free')
      ∙ left
      ∙ sym (ap (λ o. unless o (done two v) v) free')

module _ (v : Held) where
  pub price-twice : (p : ℕ) (h : Hour) (x y : Price) → due_to v (brings (price p h y)) ≡ None → after_act (after_act v (brings (price p h x))) (brings (price p h y)) ≡ after_act v (brings (price p h y))
  price-twice p h x y free =
      let f = with_price h.number x in
      let g = with_price h.number y in
      let still : is_some (lookup place_key p (updated place_key p f v.places)) ≡ is_some (lookup place_key p v.places) =
      ap is_some (found_changed place_key f (λ _. refl) p v.places) ∙ some_mapped f (lookup place_key p v.places) in
      twice v (brings (price p h x)) (brings (price p h y)) free free
      (rw still)
      (ap (with_places v) (changed_twice place_key p g f (λ _. refl) (λ q. ap (λ l. record { id = q.id; prices = record { slots = l } }) (set-set q.prices.slots (h.number - 1) (Some x) (Some y))) v.places))

  pub hour_over : (k : ℕ) (h : Hour) (a b : Option HourRecord) → hour_changed k h.number b (hour_changed k h.number a v) ≡ hour_changed k h.number b v
  hour_over k h a b =
      ap (with_resources v) (changed_twice resource_key k (with_hour h.number b) (with_hour h.number a) (λ _. refl) (λ r. ap (λ l. with_hours r (record { slots = l })) (set-set r.hours.slots (h.number - 1) a b)) v.resources)

  still_a : (kind : Sort → Bool) (k : ℕ) (h : Hour) (x : HourRecord)
      → is_a kind (lookup resource_key k (updated resource_key k (with_hour h.number (Some x)) v.resources)) ≡ is_a kind (lookup resource_key k v.resources)
  still_a kind k h x =
      let f = with_hour h.number (Some x) in
      ap (is_a kind) (found_changed resource_key f (λ _. refl) k v.resources) ∙ kind_changed kind f (λ _. refl) (lookup resource_key k v.resources)

  pub generator-twice : (k : ℕ) (h : Hour) (x y : HourRecord) → due_to v (brings (generator_hour k h y)) ≡ None → after_act (after_act v (brings (generator_hour k h x))) (brings (generator_hour k h y)) ≡ after_act v (brings (generator_hour k h y))
  generator-twice k h x y free =
      twice v (brings (generator_hour k h x)) (brings (generator_hour k h y)) free free
      (rw (still_a is_generator k h x))
      (hour_over k h (Some x) (Some y))

  pub load_twice : (k : ℕ) (h : Hour) (x y : HourRecord) → due_to v (brings (load_hour k h y)) ≡ None → after_act (after_act v (brings (load_hour k h x))) (brings (load_hour k h y)) ≡ after_act v (brings (load_hour k h y))
  load_twice k h x y free =
      twice v (brings (load_hour k h x)) (brings (load_hour k h y)) free free
      (rw (still_a is_load k h x))
      (hour_over k h (Some x) (Some y))

  -- striking where nothing stands
  empty-slot : (h : Hour) (r : Entry) → hour_in h r ≡ None → slot_at r.hours.slots h.number ≡ None
  empty-slot h r none = go (slot_at r.hours.slots h.number) none
    where
      go : (o : Option HourRecord) → option_map (posted_to r.unit r.id h) o ≡ None → o ≡ None
      go None e = refl
      go (Some x) e = cc

  never_there : (k : ℕ) (h : Hour) → standing v (the_hour k h) ≡ None → hour_changed k h.number None v ≡ v
  never_there k h none =
      ap (with_resources v)
      (unchanged resource_key k (with_hour h.number None) v.resources
      (λ r is.
      let empty = empty-slot h r (ap (in_entry (hour_in h)) (sym is) ∙ none) in
      ap (λ l. with_hours r (record { slots = l })) (ap (λ o. placed r.hours.slots h.number o) (sym empty) ∙ set-get_or r.hours.slots (h.number - 1) None)))

-- the act that a call which is not refused asks for
asked_ok : (v : Held) (x : Result Act Refusal) → due_if v x ≡ None → (a : Act) × (x ≡ Ok a) × (due_to v a ≡ None)
asked_ok v (Ok a) h = (a, refl, h)
asked_ok v (Err e) h = cc

-- two calls that are read from the same id and hour, each as an act of the same kind
module _ {X : Type 0} (kind : ℕ → Hour → X → Record) (first second : Call) (r h : ℤ) (s t : Reading X)
    (reads : asked first ≡ read (into (brings_hour kind) (both (slot_from r h) s))) (reads' : asked second ≡ read (into (brings_hour kind) (both (slot_from r h) t)))
    (over : (v : Held) (k : ℕ) (g : Hour) (x y : X) → due_to v (brings (kind k g y)) ≡ None → after_act (after_act v (brings (kind k g x))) (brings (kind k g y)) ≡ after_act v (brings (kind k g y))) where
  one-slot : {P Q : Id × Hour} → Ok P ≡ read (slot_from r h) → Ok Q ≡ read (slot_from r h) → P ≡ Q
  one-slot p q = let e = p ∙ sym q in cc

  both_acts : (v : Held) (x : Result Act Refusal) (b : Act) → asked second ≡ Ok b → due_to v b ≡ None → asked first ≡ x → after (after_if v x) second ≡ after v second
  both_acts v (Err e) b last free is = refl
  both_acts v (Ok a) b last free is =
      let earlier = from-both (brings_hour kind) (slot_from r h) s a (sym is ∙ reads) in
      let posted = from-both (brings_hour kind) (slot_from r h) t b (sym last ∙ reads') in
      let k = posted.0.0.number in
      let g = posted.0.1 in
      let one : a ≡ brings (kind k g earlier.1) = earlier.3 ∙ ap (λ z. brings_hour kind (z, earlier.1)) (one-slot earlier.2 posted.2) in
      let two : b ≡ brings (kind k g posted.1) = posted.3 in
      ap (λ w. after w second) (ap (after_act v) one)
      ∙ ap (after_if (after_act v (brings (kind k g earlier.1)))) (last ∙ ap Ok two)
      ∙ over v k g earlier.1 posted.1 (ap (due_to v) (sym two) ∙ free)
      ∙ sym (ap (after_if v) (last ∙ ap Ok two))

  second_counts : (v : Held) → due v second ≡ None → after (after v first) second ≡ after v second
  second_counts v free = let last = asked_ok v (asked second) free in both_acts v (asked first) last.0 last.1 last.2 refl

  pub counts : (v w : Held) (reply : Result (Unit {0}) Refusal) → Follows second v w reply → SecondCounts first second v w reply
  counts v w reply follows ok = second_counts v (nothing_was_due second v w reply follows ok) ∙ sym follows.holds

-- an hour that is posted in a book where nothing stood for it, and struck
module _ (kind : ℕ → Hour → HourRecord → Record) (posting : Call) (r h : ℤ) (s : Reading HourRecord)
    (reads : asked posting ≡ read (into (brings_hour kind) (both (slot_from r h) s))) (sets : (v : Held) (k : ℕ) (g : Hour) (x : HourRecord) → done (brings (kind k g x)) v ≡ hour_changed k g.number (Some x) v) where
  struck_slot : (k : ℕ) (g : Hour) (a : Act) → asked (strike r h) ≡ Ok (takes k g) → asked posting ≡ Ok a → (x : HourRecord) × (a ≡ brings (kind k g x))
  struck_slot k g a struck posted =
      let took = from-into (λ x. takes x.0.number x.1) (slot_from r h) (takes k g) (sym struck) in
      let put = from-both (brings_hour kind) (slot_from r h) s a (sym posted ∙ reads) in
      let e = took.1 ∙ sym put.2 in
      let same : took.0 ≡ put.0 = cc in
      let act : takes k g ≡ takes put.0.0.number put.0.1 = took.2 ∙ ap (λ z. takes z.0.number z.1) same in
      let id : k ≡ put.0.0.number = cc in
      let hour : g ≡ put.0.1 = cc in
      (put.1, put.3 ∙ (λ i. brings (kind (sym id i) (sym hour i) put.1)))

  pub unposted : (before next : Held) (reply : Result (Unit {0}) Refusal) → Follows (strike r h) before next reply → Unposted posting r h before next reply
  unposted before next reply follows v k g ok struck none free was =
      let act = asked_ok v (asked posting) free in
      let put = struck_slot k g act.0 struck act.1 in
      let stood : before ≡ hour_changed k g.number (Some put.0) v =
      was ∙ ap (after_if v) act.1 ∙ ap (λ o. unless o (done act.0 v) v) act.2 ∙ ap (λ a. done a v) put.1 ∙ sets v k g put.0 in
      let due-none : due_to before (takes k g) ≡ None = ap (due_if before) (sym struck) ∙ nothing_was_due (strike r h) before next reply follows ok in
      follows.holds
      ∙ ap (after_if before) struck
      ∙ ap (λ o. unless o (hour_changed k g.number None before) before) due-none
      ∙ ap (hour_changed k g.number None) stood
      ∙ hour_over v k g (Some put.0) None
      ∙ never_there v k g none
