-- What a step leaves of the leases of every session, whoever made it.
use Rattle.std.proofs.Common.{ℕ, ◌+◌, ◌≡◌, Bool, true, false, cond, not, ◌==◌, List, [], flat_map, length, None, Some, refl, ◌∙◌, ap, append-nil}
use Rattle.std.specs.List.{AllByRecursion as Each, zip}
use Rattle.std.proofs.lemmas.Bool.{eqb-true, not-false}
use Rattle.std.proofs.lemmas.Grind.{flat_map-append}
use Rattle.vale_entry.specs.declared.entry.Item.{Item}
use Rattle.vale_entry.specs.World.{Port, open_port, is_open_at, changed_if, changed_at}
use Rattle.vale_entry.specs.Delivery.{ready_lots, port_after_sync}
use Rattle.vale_entry.specs.Closing.{shut, shutting_port, is_shutting_at, leases_out}
use Rattle.vale_entry.specs.Pipe.{frames_of_items, indices_of, port_after_put}
use Rattle.vale_entry.specs.Holdings.{PortBuffers, with_returned, with_put_buffers, changed_buffers}
use Rattle.vale_entry.specs.Legal.{Standing, open_step_by, sync_step, put_step, shut_step, finish_step}
use Rattle.vale_entry.proofs.Each.{each-weaker, each-all, each-both}
use Rattle.vale_entry.proofs.Numbered.{Numbered}
use Rattle.vale_entry.proofs.Holding.{Held}
use Rattle.vale_own.specs.Own.{HeldLot, leases_at}
use Rattle.vale_own.proofs.Lists.{flat_map-changed, flat_map-filtered}
use Rattle.vale_own.proofs.Single.{only-found}
use Rattle.vale_own.proofs.Sides.{Agreed, agreed, agreed-length, agreed-lots, zip-maps, zip-map, zip-pushed, zip-without, each-zip}
use Rattle.vale_own.proofs.Changes.{leases-put, leases-ready, leases-none}

abbrev pub leases_in : ℕ → Standing → List HeldLot
leases_in session s = flat_map (leases_at session) (zip s.world.ports s.holdings.ports)

-- at each port that agrees with what is held for it a change of both keeps the session's leases
pub leases-at_id : (session id : ℕ) (change : Port → Port) (moved : PortBuffers → PortBuffers) (ports : List Port) (helds : List PortBuffers)
    → Each (λ (at : Port × PortBuffers). at.1.port ≡ at.0.id) (zip ports helds)
    → Each (λ (at : Port × PortBuffers). at.0.id ≡ id → leases_at session (change at.0, moved at.1) ≡ leases_at session at) (zip ports helds)
    → flat_map (leases_at session) (zip (changed_at id change ports) (changed_buffers id moved helds)) ≡ flat_map (leases_at session) (zip ports helds)
leases-at_id session id change moved ports helds ids all =
    ap (flat_map (leases_at session)) (zip-maps (λ (p : Port). changed_if (p.id == id) change p) (λ (h : PortBuffers). cond (h.port == id) (moved h) h) ports helds)
    ∙ flat_map-changed (leases_at session) (λ (at : Port × PortBuffers). (changed_if (at.0.id == id) change at.0, cond (at.1.port == id) (moved at.1) at.1)) (zip ports helds)
    (each-both (λ (at : Port × PortBuffers). at.1.port ≡ at.0.id) (λ (at : Port × PortBuffers). at.0.id ≡ id → leases_at session (change at.0, moved at.1) ≡ leases_at session at)
    (λ (at : Port × PortBuffers). leases_at session (changed_if (at.0.id == id) change at.0, cond (at.1.port == id) (moved at.1) at.1) ≡ leases_at session at)
    (λ at same keeps. by at.0 at.1 (at.0.id == id) refl same keeps) (zip ports helds) ids all)
  where
    by : (p : Port) (h : PortBuffers) (b : Bool) → (p.id == id) ≡ b → h.port ≡ p.id → (p.id ≡ id → leases_at session (change p, moved h) ≡ leases_at session (p, h))
        → leases_at session (changed_if (p.id == id) change p, cond (h.port == id) (moved h) h) ≡ leases_at session (p, h)
    by p h true t same keeps = let u : (h.port == id) ≡ true = ap (λ (k : ℕ). k == id) same ∙ t in rw (t, u) (keeps (eqb-true p.id id t))
    by p h false t same keeps = let u : (h.port == id) ≡ false = ap (λ (k : ℕ). k == id) same ∙ t in rw (t, u) refl

pub agreed-ids : (ats : List (Port × PortBuffers)) → Each Agreed ats → Each (λ (at : Port × PortBuffers). at.1.port ≡ at.0.id) ats
agreed-ids ats all = each-weaker Agreed (λ (at : Port × PortBuffers). at.1.port ≡ at.0.id) (λ at a. a.id) ats all

-- a port that is opened has none
pub leases-opened : (session : ℕ) (s : Standing) (by : ℕ) (name : List ℕ) (tx rx extra : ℕ) → Held s → leases_in session (open_step_by None s by name tx rx extra).next ≡ leases_in session s
leases-opened session s by name tx rx extra h =
    ap (flat_map (leases_at session)) (zip-pushed s.world.ports s.holdings.ports _ _ (agreed-length s.world.ports s.holdings.ports h.ports_agree))
    ∙ (flat_map-append (leases_at session) (zip s.world.ports s.holdings.ports) _ ∙ append-nil (leases_in session s))

-- what is ready is done
pub leases-synced : (session : ℕ) (s : Standing) (back : List ℕ) (id : ℕ) (port : Port) → open_port s.world.ports id ≡ Some port → Numbered s → Held s
    → leases_in session (sync_step s back port).next ≡ leases_in session s
leases-synced session s back id port e n h =
    let w = s.world in
    let change = port_after_sync (length back) in
    let moved = with_returned (length (ready_lots port)) back in
    let only = only-found (is_open_at id) 0 w.ports w.entry_count port n.ports_rise e in
    let all = agreed w.ports s.holdings.ports h.ports_agree in
    leases-at_id session port.id change moved w.ports s.holdings.ports (agreed-ids (zip w.ports s.holdings.ports) all)
    (each-weaker (λ (at : Port × PortBuffers). at.0.id ≡ port.id → at.0 ≡ port)
    (λ (at : Port × PortBuffers). at.0.id ≡ port.id → leases_at session (change at.0, moved at.1) ≡ leases_at session at)
    (λ at is same. ready at.0 at.1 (is same)) (zip w.ports s.holdings.ports)
    (each-zip (λ (p : Port). p.id ≡ port.id → p ≡ port) w.ports s.holdings.ports only))
  where
    ready : (p : Port) (h : PortBuffers) → p ≡ port → leases_at session (port_after_sync (length back) p, with_returned (length (ready_lots port)) back h) ≡ leases_at session (p, h)
    ready p h is = rw (← is) (leases-ready session p.line h.lots)

-- what is put is done
pub leases-brought : (session : ℕ) (s : Standing) (items : List Item) (port peer : Port) → Held s → leases_in session (put_step s items port peer).next ≡ leases_in session s
leases-brought session s items port peer h =
    let w = s.world in
    let change = port_after_put (w.entry_count + 1) port.session (frames_of_items items) in
    let all = agreed w.ports s.holdings.ports h.ports_agree in
    leases-at_id session peer.id change (with_put_buffers (indices_of items)) w.ports s.holdings.ports (agreed-ids (zip w.ports s.holdings.ports) all)
    (each-weaker Agreed (λ (at : Port × PortBuffers). at.0.id ≡ peer.id → leases_at session (change at.0, with_put_buffers (indices_of items) at.1) ≡ leases_at session at)
    (λ at a same. leases-put session (w.entry_count + 1) port.session items at.0.line at.1 (agreed-lots at.0 at.1 a)) (zip w.ports s.holdings.ports) all)

pub leases-shut : (session : ℕ) (s : Standing) (port : Port) → leases_in session (shut_step s port).next ≡ leases_in session s
leases-shut session s port =
    ap (flat_map (leases_at session)) (zip-map (λ (p : Port). changed_if (p.id == port.id) shut p) s.world.ports s.holdings.ports)
    ∙ flat_map-changed (leases_at session) (λ (at : Port × PortBuffers). (changed_if (at.0.id == port.id) shut at.0, at.1)) (zip s.world.ports s.holdings.ports)
    (each-all (λ (at : Port × PortBuffers). leases_at session (changed_if (at.0.id == port.id) shut at.0, at.1) ≡ leases_at session at)
    (λ at. at_change (at.0.id == port.id) at.0 at.1) (zip s.world.ports s.holdings.ports))
  where
    at_change : (b : Bool) (p : Port) (h : PortBuffers) → leases_at session (changed_if b shut p, h) ≡ leases_at session (p, h)
    at_change true p h = refl
    at_change false p h = refl

-- a port that goes has no lease
pub leases-finished : (session : ℕ) (s : Standing) (bufs : List ℕ) (id : ℕ) (port : Port) → shutting_port s.world.ports id ≡ Some port → leases_out port ≡ 0 → Numbered s → Held s
    → leases_in session (finish_step s bufs port).next ≡ leases_in session s
leases-finished session s bufs id port e out n h =
    let w = s.world in
    let only = only-found (is_shutting_at id) 0 w.ports w.entry_count port n.ports_rise e in
    ap (flat_map (leases_at session)) (zip-without port.id w.ports s.holdings.ports h.ports_agree)
    ∙ flat_map-filtered (leases_at session) (λ (at : Port × PortBuffers). not (at.0.id == port.id)) (zip w.ports s.holdings.ports)
    (each-weaker (λ (at : Port × PortBuffers). at.0.id ≡ port.id → at.0 ≡ port) (λ (at : Port × PortBuffers). not (at.0.id == port.id) ≡ false → leases_at session at ≡ [])
    (λ at is gone. gone-none at.0 at.1 (is (eqb-true at.0.id port.id (not-false (at.0.id == port.id) gone)))) (zip w.ports s.holdings.ports)
    (each-zip (λ (p : Port). p.id ≡ port.id → p ≡ port) w.ports s.holdings.ports only))
  where
    gone-none : (p : Port) (h : PortBuffers) → p ≡ port → leases_at session (p, h) ≡ []
    gone-none p h is = rw is (leases-none session port.line h.lots out)
