-- Ids with the same number are one id.
use Rattle.std.proofs.Common.{◌≡◌, ℕ, ◌≤◌}
use Rattle.hours.proofs.Made.{le_once, same_made}
use Rattle.daybook.specs.declared.id.Id.{Id}

pub same_id : (n m : ℕ) (p : 1 ≤ n) (q : 1 ≤ m) → n ≡ m → ◌≡◌ {A = Id} (record { number = n; bounds = p }) (record { number = m; bounds = q })
same_id = same_made (λ n p q. le_once p q) (λ n p. record { number = n; bounds = p })
