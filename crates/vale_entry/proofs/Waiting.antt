-- A Finish waits for leases alone.
use Rattle.std.proofs.Common.{ℕ, ◌<◌, ◌≡◌, Bool, true, false, cond, ◌==◌, List, Option, Some, None, refl, arith}
use Rattle.std.proofs.lemmas.Bool.{eqb-false}
use Rattle.vale_entry.specs.declared.entry.Reply.TheVariants.{Unread, LeasesOut}
use Rattle.vale_entry.specs.World.{Port}
use Rattle.vale_entry.specs.Closing.{leases_out, unread_count, shutting_port}
use Rattle.vale_entry.specs.Legal.{Standing, can_finish, fits_chain, finish_reply, finish_reply_at}
use Rattle.vale_entry.specs.Laws.{IsWaiting, FinishWaitsForLeases}

waits-by :
    (port : Port) (n : ℕ) (none : Bool) → (leases_out port == 0) ≡ none
    → Some (cond none (Unread (unread_count port)) (LeasesOut (leases_out port))) ≡ Some
    (LeasesOut n)
    → (0 < n) × (n ≡ leases_out port)
waits-by port n true t e = absurd cc
waits-by port n false t e =
    let same : leases_out port ≡ n = cc in
    let some : leases_out port ≡ 0 → ⊥ = eqb-false (leases_out port) 0 t in
    (omega (arith, same, some), omega (arith, same))

waits-if :
    (s : Standing) (bufs : List ℕ) (port : Port) (n : ℕ) (can : Bool)
    → cond can (Some (finish_reply port)) None ≡ Some (LeasesOut n)
    → (0 < n) × (n ≡ leases_out port)
waits-if s bufs port n true e = waits-by port n (leases_out port == 0) refl e
waits-if s bufs port n false e = absurd cc

waits-at :
    (s : Standing) (bufs : List ℕ) (found : Option Port) (n : ℕ)
    → finish_reply_at s bufs found ≡ Some (LeasesOut n) → IsWaiting found n
waits-at s bufs None n e = absurd cc
waits-at s bufs (Some port) n e =
    let k = waits-if s bufs port n (can_finish s bufs port) e in
    record { port = port; found_is = refl; some = k.0; counted = k.1 }

waits-fits :
    (s : Standing) (bufs : List ℕ) (found : Option Port) (n : ℕ) (fits : Bool)
    → cond fits (finish_reply_at s bufs found) None ≡ Some (LeasesOut n) → IsWaiting found n
waits-fits s bufs found n true e = waits-at s bufs found n e
waits-fits s bufs found n false e = absurd cc

pub finish-waits : FinishWaitsForLeases
finish-waits s port bufs chain n e =
    waits-fits s bufs (shutting_port s.world.ports port.0) n (fits_chain chain) e
