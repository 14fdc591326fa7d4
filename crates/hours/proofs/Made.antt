-- Two values that differ only in the proof of their bounds are one value.
use Rattle.std.proofs.Common.{◌≡◌, ℕ, ◌≤◌, Bool, ℤ, ap}
use Rattle.std.proofs.Math.Bridge.{le_prop}
use mathlib.Core.Path.{path_j}
use Rattle.hours.specs.declared.records.HourRecord.{HourRecord}
use Rattle.hours.specs.declared.records.Price.{Price}
use Rattle.hours.specs.declared.day.Hour.{Hour}
use Rattle.hours.specs.Bounds.{HourBounds, PriceBounds, LimitBounds}

-- an order has one proof
pub le_once : {a b : ℕ} (p q : a ≤ b) → p ≡ q
le_once = le_prop

pub same_made : {N X : Type 0} {P : N → Type 0} → ((n : N) (p q : P n) → p ≡ q) → (build : (n : N) → P n → X) (n m : N) (p : P n) (q : P m) → n ≡ m → build n p ≡ build m q
same_made {N} {X} {P} once build n m p q e = path_j (λ m e. (q : P m) → build n p ≡ build m q) (λ q. ap (build n) (once n p q)) e q

pub same_hour : (n m : ℤ × ℤ × ℕ × Bool) (p : HourBounds n.0 n.1 n.2) (q : HourBounds m.0 m.1 m.2) → n ≡ m
    → ◌≡◌ {A = HourRecord} (record { day_ahead = n.0; meter = n.1; self_schedule = n.2; committed = n.3; bounds = p }) (record { day_ahead = m.0; meter = m.1; self_schedule = m.2; committed = m.3; bounds = q })
same_hour = same_made (λ n p q i. (le_once p.0 q.0 i, le_once p.1 q.1 i, le_once p.2 q.2 i))
    (λ n p. record { day_ahead = n.0; meter = n.1; self_schedule = n.2; committed = n.3; bounds = p })

pub same_price : (n m : ℤ × ℤ) (p : PriceBounds n.0 n.1) (q : PriceBounds m.0 m.1) → n ≡ m
    → ◌≡◌ {A = Price} (record { day_ahead = n.0; real_time = n.1; bounds = p }) (record { day_ahead = m.0; real_time = m.1; bounds = q })
same_price = same_made (λ n p q i. (le_once p.0 q.0 i, le_once p.1 q.1 i)) (λ n p. record { day_ahead = n.0; real_time = n.1; bounds = p })

pub limit_once : (n : ℕ) (p q : LimitBounds n) → p ≡ q
limit_once n p q i = (le_once p.0 q.0 i, le_once p.1 q.1 i)

pub same_number : (n m : ℕ) (p : LimitBounds n) (q : LimitBounds m) → n ≡ m → ◌≡◌ {A = Hour} (record { number = n; bounds = p }) (record { number = m; bounds = q })
same_number = same_made limit_once (λ n p. record { number = n; bounds = p })
