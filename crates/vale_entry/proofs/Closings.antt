-- Closing a port and leaving: what is known where such a step is made.
use Rattle.std.proofs.Common.{ℕ, ◌≡◌, Bool, true, false, cond, not, ◌&&◌, ◌==◌, List, Option, Some, None, refl}
use Rattle.std.specs.List.{AllByRecursion as Each, list_any}
use Rattle.std.proofs.lemmas.Bool.{and_parts, not-true, eqb-true}
use Rattle.vale_entry.specs.World.{World, Port, Offer, is_session, is_settled, has_lot_owed_by}
use Rattle.vale_entry.specs.Closing.{leases_out, can_leave, is_port_of}
use Rattle.vale_entry.specs.Legal.{Standing, Outcome, shut_step, shut_step_at, can_finish, finish_step, finish_step_at, leave_step}
use Rattle.vale_entry.proofs.Each.{each-none}

-- a settled session has no offer left
pub settled-none :
    (w : World) (session : ℕ) → is_settled w session ≡ true
    → Each (λ (offer : Offer). (offer.session == session) ≡ false) w.offers
settled-none w session e =
    let parts =
    and_parts (not (list_any (λ (offer : Offer). offer.session == session) w.offers))
    (not (list_any (has_lot_owed_by session) w.ports)) e in
    each-none (λ (offer : Offer). offer.session == session) w.offers
    (not-true (list_any (λ (offer : Offer). offer.session == session) w.offers) parts.0)

-- and no port has a lease of it
pub settled-no_lease : (w : World) (session : ℕ) → is_settled w session ≡ true
    → Each (λ (port : Port). has_lot_owed_by session port ≡ false) w.ports
settled-no_lease w session e =
    let parts =
    and_parts (not (list_any (λ (offer : Offer). offer.session == session) w.offers))
    (not (list_any (has_lot_owed_by session) w.ports)) e in
    each-none (has_lot_owed_by session) w.ports
    (not-true (list_any (has_lot_owed_by session) w.ports) parts.1)

pub made-if :
    (P : Option Outcome → Type 0) (made : Outcome) (can : Bool) → P None
    → (can ≡ true → P (Some made)) → P (cond can (Some made) None)
made-if P made true none some = some refl
made-if P made false none some = none

-- an open port is shut
pub shut-by : (P : Option Outcome → Type 0) (s : Standing) (found : Option Port) → P None
    →
    ((port : Port) → found ≡ Some port → is_settled s.world port.session ≡ true
    → P (Some (shut_step s port)))
    → P (shut_step_at s found)
shut-by P s None none some = none
shut-by P s (Some port) none some =
    made-if P (shut_step s port) (is_settled s.world port.session) none (λ can. some port refl can)

-- a shutting port goes that has no lease out
pub finish-by :
    (P : Option Outcome → Type 0) (s : Standing) (bufs : List ℕ) (found : Option Port) → P None
    →
    ((port : Port) → found ≡ Some port → can_finish s bufs port ≡ true → leases_out port ≡ 0
    → P (Some (finish_step s bufs port)))
    → P (finish_step_at s bufs found)
finish-by P s bufs None none some = none
finish-by P s bufs (Some port) none some =
    made-if P (finish_step s bufs port) (can_finish s bufs port && (leases_out port == 0)) none
    (λ can.
    let parts = and_parts (can_finish s bufs port) (leases_out port == 0) can in
    some port refl parts.0 (eqb-true (leases_out port) 0 parts.1))

-- a session without a port, an offer or a lease
pub record CanLeave (w : World) (session : ℕ) : Type 0 where
  pub found : is_session w session ≡ true
  pub no_port : Each (λ (port : Port). (port.session == session) ≡ false) w.ports
  pub no_offer : Each (λ (offer : Offer). (offer.session == session) ≡ false) w.offers
  pub no_lease : Each (λ (port : Port). has_lot_owed_by session port ≡ false) w.ports

pub leave-by :
    (P : Option Outcome → Type 0) (s : Standing) (session : ℕ) → P None
    → (CanLeave s.world session → P (Some (leave_step s session)))
    → P (cond (can_leave s.world session) (Some (leave_step s session)) None)
leave-by P s session none some =
    made-if P (leave_step s session) (can_leave s.world session) none (λ can. some (known can))
  where
    known : can_leave s.world session ≡ true → CanLeave s.world session
    known can =
        let w = s.world in
        let parts =
        and_parts (is_session w session)
        (not (list_any (is_port_of session) w.ports) && is_settled w session) can in
        let rest =
        and_parts (not (list_any (is_port_of session) w.ports)) (is_settled w session) parts.1 in
        record {
          found = parts.0;
          no_port =
              each-none (is_port_of session) w.ports
              (not-true (list_any (is_port_of session) w.ports) rest.0);
          no_offer = settled-none w session rest.1;
          no_lease = settled-no_lease w session rest.1;
        }
