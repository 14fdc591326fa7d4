-- Sums over the hours of a day, hour by hour.
use Rattle.std.proofs.Common.{◌≡◌, ℕ, zero, suc, ◌+◌, ◌*◌, ◌^◌, ◌<◌, ◌≤◌, ℤ, pos, nat_abs, Option, None, List, [], ◌∷◌, map, sum, length, get_or, sym, refl, ap, ◌∙◌, subst, arith, w64, SFits, to_z, of_z}
use Rattle.std.specs.Bool.{⊤}
use Rattle.std.specs.Iterator.{Drains}
use Rattle.std.specs.Iterator.Runs.{EachRunFrom}
use Rattle.std.specs.List.{fold}
use Rattle.std.proofs.lemmas.Int.{to_z-of_z}
use Rattle.std.proofs.lemmas.Iterator.{YieldsList}
use Rattle.std.proofs.lemmas.Iterator.Consumers.{sum_from_yields_List, fits_from_yields_list}
use Rattle.std.proofs.lemmas.Nat.{mul-le}
use Rattle.money.proofs.Products.{abs-add-le}
use Rattle.money.proofs.Sums.{held, held-exact}
use Rattle.hours.specs.declared.records.HourRecord.{HourRecord}
use Rattle.hours.specs.Days.{counted, over_hours, over_day, add_hours, add_day, record_at}

-- how large they can be, where no hour's part is larger than n
over-size : (f : ℕ → ℤ) (n : ℕ) → ((i : ℕ) → nat_abs (f i) ≤ n) → (i : ℕ) → nat_abs (over_hours f i) ≤ n * i
unfolding over_hours
over-size f n small zero = omega arith
over-size f n small (suc i) = let e : n * suc i ≡ n * i + n = omega arith in omega (arith, over-size f n small i, small i, abs-add-le (over_hours f i) (f i))

pub add-size : (f : ℕ → ℕ) (n : ℕ) → ((i : ℕ) → f i ≤ n) → (i : ℕ) → add_hours f i ≤ n * i
unfolding add_hours
add-size f n small zero = omega arith
add-size f n small (suc i) = let e : n * suc i ≡ n * i + n = omega arith in omega (arith, add-size f n small i, small i)

-- What a fold over a list of twenty-four comes to, where each item stands for an hour: total tells it hour by hour.
module _ {A X : Type 0} (op : A → A → A) (f total : ℕ → A) (more : (i : ℕ) → i < 24 → op (total i) (f i) ≡ total (suc i)) (g : X → A) (d : X) where
  from_hour : (xs : List X) (i : ℕ) → i + length xs ≡ 24 → ((k : ℕ) → k < length xs → g (get_or xs k d) ≡ f (i + k)) → fold op (total i) (map g xs) ≡ total 24
  from_hour [] i end each = let e : i ≡ 24 = omega arith in ap total e
  from_hour (x ∷ xs) i end each =
      let first : i + 0 ≡ i = omega arith in
      ap (λ a. fold op a (map g xs)) (ap (op (total i)) (each 0 (omega arith) ∙ ap f first) ∙ more i (omega arith))
      ∙ from_hour xs (suc i) (omega arith) (λ k h. let e : i + suc k ≡ suc i + k = omega arith in each (suc k) (omega arith) ∙ ap f e)

  folded : (xs : List X) → length xs ≡ 24 → ((k : ℕ) → k < 24 → g (get_or xs k d) ≡ f k) → fold op (total 0) (map g xs) ≡ total 24
  folded xs day each = from_hour xs 0 (omega arith) (λ k h. let e : k ≡ 0 + k = omega arith in each k (omega arith) ∙ ap f e)

-- amounts, added up by `plus`: each is so small that no sum is held at the ends of i64
module _ {X : Type 0} (f : ℕ → ℤ) (n : ℕ) (small : (i : ℕ) → nat_abs (f i) ≤ n) (far : n ≤ 2 ^ 50) (g : X → ℤ) (d : X) where
  pub held_day : (xs : List X) → length xs ≡ 24 → ((k : ℕ) → k < 24 → g (get_or xs k d) ≡ f k)
      → (r : ℤ) → SFits w64 r → r ≡ fold held (pos 0) (map g xs) → (to_z w64 (of_z w64 r) ≡ over_day f) × (nat_abs (to_z w64 (of_z w64 r)) ≤ n * 24)
  unfolding over_hours
  held_day xs day each r fits is =
      let whole = folded held f (over_hours f) (λ i h.
      let most = mul-le n i (2 ^ 50) 24 far (omega arith) in
      held-exact (over_hours f i) (f i) (omega (arith, over-size f n small i)) (omega (arith, small i))) g d xs day each in
      let e = to_z-of_z w64 r fits ∙ is ∙ whole in
      (e, subst (λ z. nat_abs z ≤ n * 24) (sym e) (over-size f n small 24))

-- quantities of the records, as `sum` adds up what a chain s gives
module _ {S : Type 0} {steps : S → Option ℕ → S → Type 0} {s : S} (h : HourRecord → ℕ) (n : ℕ) (slots : List (Option HourRecord))
    (day : length slots ≡ 24) (small : (r : HourRecord) → h r ≤ n) (road : YieldsList steps (λ x. x) s (map (λ slot. h (counted slot)) slots)) where
  abbrev at_hour : ℕ → ℕ
  at_hour k = h (record_at slots k)

  most : add_day at_hour ≤ n * 24
  most = add-size at_hour n (λ k. small (record_at slots k)) 24

  sum_is : sum (map (λ slot. h (counted slot)) slots) ≡ add_day at_hour
  unfolding add_hours
  sum_is = folded ◌+◌ at_hour (add_hours at_hour) (λ i below. refl) (λ slot. h (counted slot)) None slots day (λ k below. refl)

  pub added_fits : (top : ℕ) → n * 24 < top → EachRunFrom steps s (λ p. fold (λ a x. a + x) 0 p.items < top)
  added_fits top room = fits_from_yields_list s top road (omega (arith, sum_is, most))

  pub added_day : (r : ℕ) → ((ys : List ℕ) × (⊤ → Drains steps s ys) × (r ≡ fold (λ a x. a + x) 0 ys)) → (r ≡ add_day at_hour) × (r ≤ n * 24)
  added_day r ran = let e = sum_from_yields_List s r ran road ∙ sum_is in (e, omega (arith, e, most))
