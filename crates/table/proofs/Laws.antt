-- What look-ups and the order of the keys come to after each change, and that a rising list is decided by its look-ups.
use Rattle.std.proofs.Common.{◌≡◌, ℕ, ◌<◌, ◌≤◌, min, true, false, List, [], ◌∷◌, map, length, is_some, is_ok, Some, None, sym, refl, ap, ◌∙◌, ⊎_elim, arith}
use Rattle.std.proofs.lemmas.List.{length-map, length-take}
use Rattle.std.proofs.lemmas.Bool.{and_from, cases_eq, cases_order, cond-true, lt-ltb, true≢false}
use Rattle.std.proofs.lemmas.Bool.Decides.{nat_tests}
use Rattle.table.specs.Entries.{lookup, inserted, replaced, same_keys, rises_from, Rising}
use Rattle.table.specs.Tables.{room, entries, insert_reply, insert_after, rewritten, lookup_after}
use Rattle.table.specs.declared.table.Table.{Table}

pub never_over : {E : Type 0} (t : Table E) → length (entries t) ≤ room t
never_over t = omega (arith, length-take (min t.len (room t)) t.slots.now)

module _ {E : Type 0} (key : E → ℕ) where
  pub lookup-inserted : (e : E) (xs : List E) (k : ℕ) → lookup key k (inserted key e xs) ≡ lookup_after key true e xs k
  lookup-inserted e [] k = refl
  lookup-inserted e (x ∷ xs) k = let ih = lookup-inserted e xs k in grind (arith, nat_tests)

  pub lookup-replaced : (e : E) (xs : List E) (k : ℕ) → lookup key k (replaced key e xs) ≡ lookup_after key (is_some (lookup key (key e) xs)) e xs k
  lookup-replaced e [] k = refl
  lookup-replaced e (x ∷ xs) k = let ih = lookup-replaced e xs k in grind (arith, nat_tests)

  pub keys_replaced : (e : E) (xs : List E) → map key (replaced key e xs) ≡ map key xs
  keys_replaced e [] = refl
  keys_replaced e (x ∷ xs) = let ih = keys_replaced e xs in grind (arith, nat_tests)

  from-inserted : (k : ℕ) (e : E) (xs : List E) → k < key e → is_some (lookup key (key e) xs) ≡ false → rises_from k (map key xs) ≡ true → rises_from k (map key (inserted key e xs)) ≡ true
  from-inserted k e [] l free h = and_from _ _ (lt-ltb k (key e) l) refl
  from-inserted k e (x ∷ xs) l free h =
      let ih = from-inserted (key x) e xs in
      grind (arith, nat_tests)

  pub rising_inserted : (e : E) (xs : List E) → is_some (lookup key (key e) xs) ≡ false → Rising key xs → Rising key (inserted key e xs)
  rising_inserted e [] free h = refl
  rising_inserted e (x ∷ xs) free h =
      let ih = from-inserted (key x) e xs in
      grind (arith, nat_tests)

  -- what an insertion leaves, granted or not
  pub lookup-after : (e : E) (xs : List E) (room k : ℕ) → lookup key k (insert_after key e xs room) ≡ lookup_after key (is_ok (insert_reply key e xs room)) e xs k
  lookup-after e xs room k = let more = lookup-inserted e xs k in grind (arith, nat_tests)

  pub rising_after : (e : E) (xs : List E) (room : ℕ) → Rising key xs → Rising key (insert_after key e xs room)
  rising_after e xs room h =
      let more = rising_inserted e xs in
      grind (arith, nat_tests)

  -- two lists have the same keys exactly if the test tells so
  pub keys_from_same : (xs ys : List E) → same_keys key xs ys ≡ true → map key xs ≡ map key ys
  keys_from_same [] [] h = refl
  keys_from_same [] (y ∷ ys) h = absurd (true≢false (sym h))
  keys_from_same (x ∷ xs) [] h = absurd (true≢false (sym h))
  keys_from_same (x ∷ xs) (y ∷ ys) h =
      let ih = keys_from_same xs ys in
      grind (arith, nat_tests)

  pub same_from_keys : (xs ys : List E) → map key xs ≡ map key ys → same_keys key xs ys ≡ true
  same_from_keys [] [] h = refl
  same_from_keys [] (y ∷ ys) h = grind (arith, nat_tests)
  same_from_keys (x ∷ xs) [] h = grind (arith, nat_tests)
  same_from_keys (x ∷ xs) (y ∷ ys) h = let ih = same_from_keys xs ys in grind (arith, nat_tests)

  pub rewritten-from_keys : (others xs : List E) → map key others ≡ map key xs → rewritten key others xs ≡ others
  rewritten-from_keys others xs h = cond-true _ _ _ (same_from_keys others xs h)

  pub size-from_same : (xs ys : List E) → same_keys key xs ys ≡ true → length xs ≡ length ys
  size-from_same xs ys h = sym (length-map xs key) ∙ ap length (keys_from_same xs ys h) ∙ length-map ys key

  here : (x : E) (xs : List E) → lookup key (key x) (x ∷ xs) ≡ Some x
  here x xs = grind (arith, nat_tests)

  past : (k : ℕ) (x : E) (xs : List E) → (key x ≡ k → ⊥) → lookup key k (x ∷ xs) ≡ lookup key k xs
  past k x xs h = grind (arith, nat_tests)

  -- a key that is not above the one that the list rises from
  not_found : (k n : ℕ) (xs : List E) → k ≤ n → rises_from n (map key xs) ≡ true → lookup key k xs ≡ None
  not_found k n [] l h = refl
  not_found k n (x ∷ xs) l h =
      let ih = not_found k (key x) xs in
      grind (arith, nat_tests)

  no_smaller-first : (x y : E) (xs ys : List E) → Rising key (y ∷ ys) → key x < key y → lookup key (key x) (x ∷ xs) ≡ lookup key (key x) (y ∷ ys) → ⊥
  no_smaller-first x y xs ys h l e =
      let none = not_found (key x) (key y) ys in
      grind (arith, nat_tests)

  rising_rest : (x : E) (xs : List E) → Rising key (x ∷ xs) → Rising key xs
  rising_rest x [] h = refl
  rising_rest x (y ∷ ys) h = grind (arith, nat_tests)

  tails : (x y : E) (xs ys : List E) → key x ≡ key y → Rising key (x ∷ xs) → Rising key (y ∷ ys) → ((k : ℕ) → lookup key k (x ∷ xs) ≡ lookup key k (y ∷ ys)) → (k : ℕ) → lookup key k xs ≡ lookup key k ys
  tails x y xs ys q h j f k =
      ⊎_elim
      (λ e. not_found k (key x) xs (omega arith) h ∙ sym (not_found k (key y) ys (omega arith) j))
      (λ d. sym (past k x xs (λ e. d (sym e))) ∙ f k ∙ past k y ys (λ e. d (sym (q ∙ e))))
      (cases_eq k (key x))

  pub same_from_lookups : (xs ys : List E) → Rising key xs → Rising key ys → ((k : ℕ) → lookup key k xs ≡ lookup key k ys) → xs ≡ ys
  same_from_lookups [] [] h j f = refl
  same_from_lookups [] (y ∷ ys) h j f = absurd (true≢false (ap is_some (sym (f (key y) ∙ here y ys))))
  same_from_lookups (x ∷ xs) [] h j f = absurd (true≢false (ap is_some (sym (here x xs) ∙ f (key x))))
  same_from_lookups (x ∷ xs) (y ∷ ys) h j f =
      let equal : key x ≡ key y → x ∷ xs ≡ y ∷ ys =
      λ q.
      let first : Some x ≡ Some y = sym (here x xs) ∙ f (key x) ∙ ap (λ k. lookup key k (y ∷ ys)) q ∙ here y ys in
      let rest = same_from_lookups xs ys (rising_rest x xs h) (rising_rest y ys j) (tails x y xs ys q h j f) in
      cc in
      let below : key x < key y → ⊥ = λ l. no_smaller-first x y xs ys j l (f (key x)) in
      let above : key y < key x → ⊥ = λ l. no_smaller-first y x ys xs h l (sym (f (key y))) in
      ⊎_elim equal (⊎_elim (λ l. absurd (below l)) (λ l. absurd (above l))) (cases_order (key x) (key y))
