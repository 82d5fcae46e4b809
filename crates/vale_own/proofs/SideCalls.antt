-- What the calls of a side say, and how a port that stands is seen on the side.
use Rattle.std.proofs.Common.{ℕ, ◌≡◌, Bool, true, false, cond, not, ◌==◌, nat_eq, List, map, Option, Some, None, refl, sym, ◌∙◌, ap}
use Rattle.std.specs.Prelude.{find, option_map}
use Rattle.std.specs.List.{AllByRecursion as Each, IsDistinct}
use Rattle.std.proofs.lemmas.Map.Entries.{option_filter}
use Rattle.std.proofs.lemmas.Bool.{and_parts, eqb-true, eq-eqb}
use Rattle.nm_types.specs.Frames.{Frame}
use Rattle.nm_types.specs.declared.id.PortId.{PortId}
use Rattle.nm_types.specs.declared.id.Side.TheVariants.{Tx, Rx}
use Rattle.nm_types.specs.declared.fault.SyncFault.{SyncFault}
use Rattle.nm_types.specs.OwnPorts.{OwnPort}
use Rattle.vale_entry.specs.declared.entry.Ask.TheVariants.{Send, Sync, Put, Get}
use Rattle.vale_entry.specs.declared.entry.Item.{Item}
use Rattle.vale_entry.specs.World.{Port, is_open_at, open_port}
use Rattle.vale_entry.specs.Closing.{is_port_of, is_shutting_at, shutting_port}
use Rattle.vale_entry.specs.OwnCalls.{or_reset}
use Rattle.vale_entry.specs.Legal.{Standing}
use Rattle.vale_entry.proofs.Each.{each-weaker, each-map, each-find}
use Rattle.vale_entry.proofs.ListLaws.{place-of}
use Rattle.vale_own.specs.Own.{own_of, port_alone}
use Rattle.vale_own.specs.Side.{id_of, port_of_side}
use Rattle.vale_own.proofs.Sounds.{Sound}
use Rattle.vale_own.proofs.Asking.{port-found}
use Rattle.vale_own.proofs.SideSound.{each-found}

-- a transmit call that sends, or puts, is refused by no check
pub sends-none : (o : Option SyncFault) (pipe : Bool) (id at : PortId) (items : List Item) (sent frames : List Frame) → or_reset o id Tx (cond pipe (Put id items) (Send id sent)) ≡ Send at frames → o ≡ None
sends-none None pipe id at items sent frames e = refl
sends-none (Some fault) pipe id at items sent frames e = absurd cc

pub puts-none : (o : Option SyncFault) (pipe : Bool) (id at : PortId) (items offered : List Item) (sent : List Frame) → or_reset o id Tx (cond pipe (Put id items) (Send id sent)) ≡ Put at offered → (o ≡ None) × (items ≡ offered)
puts-none None true id at items offered sent e = (refl, cc)
puts-none None false id at items offered sent e = absurd cc
puts-none (Some fault) pipe id at items offered sent e = absurd cc

pub syncs-none : (o : Option SyncFault) (pipe : Bool) (id at : PortId) (names back : List ℕ) → or_reset o id Rx (cond pipe (Get id names) (Sync id names)) ≡ Sync at back → (o ≡ None) × (names ≡ back)
syncs-none None true id at names back e = absurd cc
syncs-none None false id at names back e = (refl, cc)
syncs-none (Some fault) pipe id at names back e = absurd cc

pub gets-none : (o : Option SyncFault) (pipe : Bool) (id at : PortId) (names back : List ℕ) → or_reset o id Rx (cond pipe (Get id names) (Sync id names)) ≡ Get at back → (o ≡ None) × (names ≡ back)
gets-none None true id at names back e = (refl, cc)
gets-none None false id at names back e = absurd cc
gets-none (Some fault) pipe id at names back e = absurd cc

-- only the port that is found has its id
pub only-port : (id : ℕ) (ports : List OwnPort) (p : OwnPort) → IsDistinct nat_eq (map id_of ports) → find (λ (q : OwnPort). q.id.0 == id) ports ≡ Some p → Each (λ (q : OwnPort). q.id.0 ≡ id → q ≡ p) ports
only-port id ports p apart found =
    each-weaker (λ (q : OwnPort). find (λ (x : OwnPort). x.id.0 == q.id.0) ports ≡ Some q) (λ (q : OwnPort). q.id.0 ≡ id → q ≡ p) (λ q here is. one q here is) ports (each-found ports apart)
  where
    one : (q : OwnPort) → find (λ (x : OwnPort). x.id.0 == q.id.0) ports ≡ Some q → q.id.0 ≡ id → q ≡ p
    one q here is =
        let same : Some q ≡ Some p = sym here ∙ (ap (λ (n : ℕ). find (λ (x : OwnPort). x.id.0 == n) ports) is ∙ found) in
        cc

-- a port that stands, as it is seen on the side
pub seen-as : (test : Port → Bool) (id session : ℕ) (shut : Option ℕ) (ports : List OwnPort) (p : OwnPort) (x : Port) → ((y : Port) → test y ≡ true → y.id ≡ id) → IsDistinct nat_eq (map id_of ports)
    → find (λ (q : OwnPort). q.id.0 == id) ports ≡ Some p → find test (map (port_of_side session shut) ports) ≡ Some x → x ≡ port_of_side session shut p
seen-as test id session shut ports p x of_id apart found here =
    each-find (λ (y : Port). y.id ≡ id → y ≡ port_of_side session shut p) test (map (port_of_side session shut) ports) x
    (each-map (λ (q : OwnPort). q.id.0 ≡ id → q ≡ p) (λ (y : Port). y.id ≡ id → y ≡ port_of_side session shut p) (port_of_side session shut) (λ q one is. ap (port_of_side session shut) (one is)) ports (only-port id ports p apart found))
    here (of_id x (place-of test (map (port_of_side session shut) ports) x here).passes)

-- a port of the session that stands is among its own
own-found : (test : Port → Bool) (id : ℕ) (s : Standing) (port : Port) → ((p : Port) → test (port_alone p) ≡ test p) → ((p : Port) → test p ≡ true → p.id ≡ id) → Sound s → find test s.world.ports ≡ Some port
    → find test (own_of port.session s).ports ≡ Some (port_alone port)
own-found test id s port alone of_id k e =
    let mine : (port.session == port.session) ≡ true = eq-eqb port.session port.session refl in
    port-found test id port.session alone of_id s k ∙ (ap (λ (o : Option Port). option_filter (is_port_of port.session) (option_map port_alone o)) e ∙ rw mine refl)

pub open-own : (id : ℕ) (s : Standing) (port : Port) → Sound s → open_port s.world.ports id ≡ Some port → find (is_open_at id) (own_of port.session s).ports ≡ Some (port_alone port)
open-own id s port k e = own-found (is_open_at id) id s port (λ p. refl) (λ p is. eqb-true p.id id (and_parts (p.id == id) (not p.shutting) is).0) k e

pub shutting-own : (id : ℕ) (s : Standing) (port : Port) → Sound s → shutting_port s.world.ports id ≡ Some port → find (is_shutting_at id) (own_of port.session s).ports ≡ Some (port_alone port)
shutting-own id s port k e = own-found (is_shutting_at id) id s port (λ p. refl) (λ p is. eqb-true p.id id (and_parts (p.id == id) p.shutting is).0) k e

pub open-id : (id : ℕ) (y : Port) → is_open_at id y ≡ true → y.id ≡ id
open-id id y is = eqb-true y.id id (and_parts (y.id == id) (not y.shutting) is).0

pub shutting-id : (id : ℕ) (y : Port) → is_shutting_at id y ≡ true → y.id ≡ id
shutting-id id y is = eqb-true y.id id (and_parts (y.id == id) y.shutting is).0
