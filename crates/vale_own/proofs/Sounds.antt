-- What is read of a standing for a session is read off what is its own.
use Rattle.std.proofs.Common.{ℕ, ◌≡◌, Bool, true, false, not, ◌&&◌, ◌||◌, ◌==◌, List, [], ◌∷◌, ◌++◌, map, filter, flat_map, length, refl, sym, ◌∙◌, ap, ap₂}
use Rattle.std.specs.List.{list_any, zip}
use Rattle.std.proofs.lemmas.List.Elements.{filter-append}
use Rattle.std.proofs.lemmas.List.{map-append}
use Rattle.vale_entry.specs.declared.entry.Entry.{Entry}
use Rattle.vale_entry.specs.World.{Port, Lot, is_settled, has_lot_owed_by, is_owed_by}
use Rattle.vale_entry.specs.Closing.{is_port_of}
use Rattle.vale_entry.specs.Delivery.{line_of}
use Rattle.vale_entry.specs.Holdings.{PortBuffers, PortsAgree}
use Rattle.vale_entry.specs.Legal.{Standing, standing_of, IsLegal}
use Rattle.vale_entry.proofs.HistoryLaws.{history-stands}
use Rattle.vale_entry.proofs.Numbered.{Numbered}
use Rattle.vale_entry.proofs.Holding.{Held}
use Rattle.vale_entry.proofs.SingleLots.{Single}
use Rattle.vale_own.specs.Own.{own_of, port_alone, is_offer_by, leases_at, is_lease_of, lot_of_lease, is_empty, is_settled_own}
use Rattle.vale_own.proofs.OneAsker.{OneAsker, entries-have-one-asker}
use Rattle.vale_own.proofs.Sides.{agreed-lots}
use Rattle.vale_own.proofs.Finds.{empty-append, any-empty}

-- what stands after a legal history, as far as it is used here
pub record Sound (s : Standing) : Type 0 where
  pub numbered : Numbered s
  pub held : Held s
  pub single : Single s
  pub asker : OneAsker s

pub sound-of : (pool : ℕ) (h : List Entry) → IsLegal pool h → Sound (standing_of pool h)
sound-of pool h legal =
    let k = history-stands pool h legal in
    record { numbered = k.numbered; held = k.held; single = k.single; asker = entries-have-one-asker pool h }

-- the lots of a session's leases
lots-of_line : (session : ℕ) (line : List Lot) (lots : List (List ℕ)) → length line ≡ length lots → map lot_of_lease (filter (is_lease_of session) (zip line lots)) ≡ filter (is_owed_by session) line
lots-of_line session [] [] same = refl
lots-of_line session [] (buffers ∷ lots) same = absurd cc
lots-of_line session (lot ∷ line) [] same = absurd cc
lots-of_line session (lot ∷ line) (buffers ∷ lots) same = by (is_owed_by session lot) refl (lots-of_line session line lots cc)
  where
    by : (b : Bool) → is_owed_by session lot ≡ b → map lot_of_lease (filter (is_lease_of session) (zip line lots)) ≡ filter (is_owed_by session) line
        → map lot_of_lease (filter (is_lease_of session) (zip (lot ∷ line) (buffers ∷ lots))) ≡ filter (is_owed_by session) (lot ∷ line)
    by true t rest = rw t (ap (λ (ls : List Lot). lot ∷ ls) rest)
    by false t rest = rw t rest

pub lots-of_leases : (session : ℕ) (ports : List Port) (helds : List PortBuffers) → PortsAgree ports helds
    → map lot_of_lease (flat_map (leases_at session) (zip ports helds)) ≡ filter (is_owed_by session) (flat_map line_of ports)
lots-of_leases session [] helds a = refl
lots-of_leases session (p ∷ ps) [] a = absurd a
lots-of_leases session (p ∷ ps) (h ∷ hs) a =
    map-append lot_of_lease (leases_at session (p, h)) (flat_map (leases_at session) (zip ps hs))
    ∙ (ap₂ (λ (xs ys : List Lot). xs ++ ys) (lots-of_line session p.line h.lots (agreed-lots p h a.0)) (lots-of_leases session ps hs a.1)
    ∙ sym (filter-append (is_owed_by session) p.line (flat_map line_of ps)))

-- a session without offers and leases is settled
any-owed : (session : ℕ) (ports : List Port) → not (list_any (has_lot_owed_by session) ports) ≡ is_empty (filter (is_owed_by session) (flat_map line_of ports))
any-owed session [] = refl
any-owed session (p ∷ ps) =
    let here : not (list_any (is_owed_by session) p.line) ≡ is_empty (filter (is_owed_by session) p.line) = any-empty (is_owed_by session) p.line in
    let rest = any-owed session ps in
    let all = ap is_empty (filter-append (is_owed_by session) p.line (flat_map line_of ps)) in
    not-or (has_lot_owed_by session p) (list_any (has_lot_owed_by session) ps)
    ∙ (ap₂ (λ (a b : Bool). a && b) here rest ∙ (sym (empty-append (filter (is_owed_by session) p.line) (filter (is_owed_by session) (flat_map line_of ps))) ∙ sym all))
  where
    not-or : (a b : Bool) → not (a || b) ≡ (not a && not b)
    not-or true b = refl
    not-or false b = refl

empty-mapped : {X Y : Type 0} (f : X → Y) (xs : List X) → is_empty (map f xs) ≡ is_empty xs
empty-mapped f [] = refl
empty-mapped f (x ∷ xs) = refl

pub settled-at : (session : ℕ) (s : Standing) → Held s → is_settled s.world session ≡ is_settled_own (own_of session s)
settled-at session s h =
    let w = s.world in
    let leases : not (list_any (has_lot_owed_by session) w.ports) ≡ is_empty (own_of session s).leases =
    any-owed session w.ports ∙ (ap is_empty (sym (lots-of_leases session w.ports s.holdings.ports h.ports_agree)) ∙ empty-mapped lot_of_lease (own_of session s).leases) in
    ap₂ (λ (a b : Bool). a && b) (any-empty (is_offer_by session) w.offers) leases

pub no-port : (session : ℕ) (ports : List Port) → not (list_any (is_port_of session) ports) ≡ is_empty (filter (is_port_of session) (map port_alone ports))
no-port session [] = refl
no-port session (p ∷ ps) = by (p.session == session) refl (no-port session ps)
  where
    by : (b : Bool) → (p.session == session) ≡ b → not (list_any (is_port_of session) ps) ≡ is_empty (filter (is_port_of session) (map port_alone ps))
        → not (list_any (is_port_of session) (p ∷ ps)) ≡ is_empty (filter (is_port_of session) (map port_alone (p ∷ ps)))
    by true t rest = rw t refl
    by false t rest = rw t rest
