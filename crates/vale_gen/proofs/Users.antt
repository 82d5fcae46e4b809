-- The four users, one by one.
use Rattle.std.proofs.Common.{ℕ, zero, suc, ◌≤◌, ◌≡◌, false, refl, arith}
use Rattle.nm_types.specs.Names.{IsName, is_name, is_monitor_name}
use Rattle.vale_gen.specs.Load.{port_name}

pub for_users : (P : ℕ → Type 0) → P 1 → P 2 → P 3 → P 4 → (user : ℕ) → 1 ≤ user → user ≤ 4 → P user
for_users P a b c d zero least most = absurd (omega arith)
for_users P a b c d (suc zero) least most = a
for_users P a b c d (suc (suc zero)) least most = b
for_users P a b c d (suc (suc (suc zero))) least most = c
for_users P a b c d (suc (suc (suc (suc zero)))) least most = d
for_users P a b c d (suc (suc (suc (suc (suc user))))) least most = absurd (omega arith)

pub is_named : (user : ℕ) → 1 ≤ user → user ≤ 4 → IsName (port_name user)
unfolding is_name
is_named = for_users (λ (user : ℕ). IsName (port_name user)) refl refl refl refl

pub no_monitor : (user : ℕ) → 1 ≤ user → user ≤ 4 → is_monitor_name (port_name user) ≡ false
unfolding is_monitor_name
no_monitor = for_users (λ (user : ℕ). is_monitor_name (port_name user) ≡ false) refl refl refl refl
