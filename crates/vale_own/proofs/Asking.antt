-- What a session may ask is told by what is its own.
use Rattle.std.proofs.Common.{ℕ, ◌≡◌, Bool, true, false, cond, not, ◌&&◌, ◌||◌, ◌==◌, nat_le, List, ◌++◌, map, find, flat_map, length, Option, Some, None, is_some, refl, sym, ◌∙◌, ap, ap₂}
use Rattle.std.specs.Prelude.{option_map}
use Rattle.std.proofs.lemmas.Map.Entries.{option_filter}
use Rattle.std.specs.List.{AllByRecursion as Each, list_all}
use Rattle.std.proofs.lemmas.Bool.{and_parts, eqb-true}
use Rattle.std.proofs.Math.Bool.{and-false, and-true}
use Rattle.nm_types.specs.Limits.{most_batch}
use Rattle.nm_types.specs.Names.{is_name, is_switch_port_name, is_pipe_name, is_monitor_name}
use Rattle.nm_types.specs.Sendable.{is_sendable}
use Rattle.nm_types.specs.declared.id.Side.{Side}
use Rattle.nm_types.specs.declared.id.Side.TheVariants.{Tx, Rx}
use Rattle.nm_types.specs.declared.fault.SyncFault.{SyncFault}
use Rattle.vale_entry.specs.declared.entry.Ask.{Ask}
use Rattle.vale_entry.specs.declared.entry.Ask.TheVariants.{Enter, Open, Send, Grant, Done, Sync, Reset, Shut, Finish, Leave, Put, PutKept, Get, Watch, Stat}
use Rattle.vale_entry.specs.World.{Port, Lot, Offer, open_port, is_open_at, is_settled, is_session, is_owed_by, due_of}
use Rattle.vale_entry.specs.Offers.{is_offer_of}
use Rattle.vale_entry.specs.Grant.{first_offer}
use Rattle.vale_entry.specs.Delivery.{lease_at, is_lease, line_of}
use Rattle.vale_entry.specs.Closing.{is_port_of, is_shutting_at, shutting_port, can_leave}
use Rattle.vale_entry.specs.Monitors.{can_watch}
use Rattle.vale_entry.specs.Pipe.{indices_of, is_pipe_item}
use Rattle.vale_entry.specs.Holdings.{holds_all}
use Rattle.vale_entry.specs.Laws.{bears_number}
use Rattle.vale_entry.specs.Legal.{Standing, standing_of, is_enabled, is_met, can_open, can_send, is_offer_next, can_sync, can_get, can_receive, can_reset, can_shut, can_finish, fits_chain, fits_u32, can_put}
use Rattle.vale_entry.specs.declared.entry.Item.{Item}
use Rattle.vale_entry.proofs.Each.{each-weaker, each-map, each-find}
use Rattle.vale_entry.proofs.ListLaws.{place-of}
use Rattle.vale_entry.proofs.PortAt.{find-map}
use Rattle.vale_own.specs.Own.{Own, own_of, port_alone, is_offer_by, lot_of_lease, is_settled_own}
use Rattle.vale_own.specs.Asker.{asks, is_asker, owner_of_port, owner_of_offer, owner_of_lot}
use Rattle.vale_own.specs.OwnAsks.{holds_own, may_send, may_receive, may_sync, may_get, may_put, may_shut, may_finish, may_open, may_leave, may_ask}
use Rattle.vale_own.specs.Laws.{OwnTellsAsks, AsksStay}
use Rattle.vale_own.proofs.Single.{only-found, only-lots}
use Rattle.vale_own.proofs.Finds.{find-kept, kept-met}
use Rattle.vale_own.proofs.Sounds.{Sound, sound-of, lots-of_leases, settled-at, no-port}
use Rattle.vale_own.proofs.OwnKept.{own-kept, legal-split}

-- a port that is found, and the session's that is found
pub port-found : (at : Port → Bool) (id session : ℕ) → ((p : Port) → at (port_alone p) ≡ at p) → ((p : Port) → at p ≡ true → p.id ≡ id) → (s : Standing) → Sound s
    → find at (own_of session s).ports ≡ option_filter (is_port_of session) (option_map port_alone (find at s.world.ports))
port-found at id session same of_id s k =
    let ports = s.world.ports in
    let alone = find-map port_alone at same ports in
    find-kept (is_port_of session) at (map port_alone ports) (λ y e. alike y (find at ports) refl (sym alone ∙ e)) ∙ ap (option_filter (is_port_of session)) alone
  where
    alike : (y : Port) (found : Option Port) → find at s.world.ports ≡ found → option_map port_alone found ≡ Some y → Each (λ (z : Port). at z ≡ true → is_port_of session z ≡ is_port_of session y) (map port_alone s.world.ports)
    alike y None e is = absurd cc
    alike y (Some p) e is =
        let mine : port_alone p ≡ y = cc in
        each-map (λ (q : Port). q.id ≡ p.id → q ≡ p) (λ (z : Port). at z ≡ true → is_port_of session z ≡ is_port_of session y) port_alone
        (λ q one found. ap (is_port_of session) (ap port_alone (one (of_id q (sym (same q) ∙ found) ∙ sym (of_id p (place-of at s.world.ports p e).passes))) ∙ mine)) s.world.ports
        (only-found at 0 s.world.ports s.world.entry_count p k.numbered.ports_rise e)

-- a test of a port that reads what is the session's own
port-met : (session : ℕ) (old new : Port → Bool) → ((p : Port) → new (port_alone p) ≡ new p) → ((p : Port) → p.session ≡ session → old p ≡ new p) → (found : Option Port)
    → (is_met old found && is_asker (option_map owner_of_port found) session) ≡ is_met new (option_filter (is_port_of session) (option_map port_alone found))
port-met session old new alone same None = refl
port-met session old new alone same (Some p) = by (p.session == session) refl
  where
    by : (b : Bool) → (p.session == session) ≡ b → (old p && (p.session == session)) ≡ is_met new (cond (p.session == session) (Some (port_alone p)) None)
    by true t = rw t (and-true (old p) ∙ (same p (eqb-true p.session session t) ∙ sym (alone p)))
    by false t = rw t (and-false (old p))

at-open : (session id : ℕ) (s : Standing) → Sound s → (old new : Port → Bool) → ((p : Port) → new (port_alone p) ≡ new p) → ((p : Port) → p.session ≡ session → old p ≡ new p)
    → (is_met old (open_port s.world.ports id) && is_asker (option_map owner_of_port (open_port s.world.ports id)) session) ≡ is_met new (open_port (own_of session s).ports id)
at-open session id s k old new alone same =
    port-met session old new alone same (open_port s.world.ports id)
    ∙ ap (is_met new) (sym (port-found (is_open_at id) id session (λ p. refl) (λ p is. eqb-true p.id id (and_parts (p.id == id) (not p.shutting) is).0) s k))

at-shutting : (session id : ℕ) (s : Standing) → Sound s → (old new : Port → Bool) → ((p : Port) → new (port_alone p) ≡ new p) → ((p : Port) → p.session ≡ session → old p ≡ new p)
    → (is_met old (shutting_port s.world.ports id) && is_asker (option_map owner_of_port (shutting_port s.world.ports id)) session) ≡ is_met new (shutting_port (own_of session s).ports id)
at-shutting session id s k old new alone same =
    port-met session old new alone same (shutting_port s.world.ports id)
    ∙ ap (is_met new) (sym (port-found (is_shutting_at id) id session (λ p. refl) (λ p is. eqb-true p.id id (and_parts (p.id == id) p.shutting is).0) s k))

-- a Grant
told-grant : (session origin to : ℕ) (s : Standing) → Sound s
    → (is_met (is_offer_next to) (first_offer s.world origin) && is_asker (option_map owner_of_offer (first_offer s.world origin)) session) ≡ is_met (is_offer_next to) (find (is_offer_of origin) (own_of session s).offers)
told-grant session origin to s k =
    sym (ap (is_met (is_offer_next to)) (find-kept (is_offer_by session) (is_offer_of origin) s.world.offers
    (λ y e. each-weaker (λ (o : Offer). o.origin ≡ origin → o.session ≡ (k.asker origin).0) (λ (o : Offer). is_offer_of origin o ≡ true → is_offer_by session o ≡ is_offer_by session y)
    (λ o one is. ap (λ (n : ℕ). n == session) (one (eqb-true o.origin origin is) ∙ sym (first y e))) s.world.offers (k.asker origin).1))
    ∙ kept-met owner_of_offer session (is_offer_next to) (first_offer s.world origin))
  where
    first : (y : Offer) → find (is_offer_of origin) s.world.offers ≡ Some y → y.session ≡ (k.asker origin).0
    first y e =
        each-find (λ (o : Offer). o.origin ≡ origin → o.session ≡ (k.asker origin).0) (is_offer_of origin) s.world.offers y (k.asker origin).1 e
        (eqb-true y.origin origin (place-of (is_offer_of origin) s.world.offers y e).passes)

-- a Done
lease-met : (session number : ℕ) (found : Option Lot) → ((lot : Lot) → found ≡ Some lot → is_lease number lot ≡ true)
    → (is_some found && is_asker (option_map owner_of_lot found) session) ≡ is_some (option_filter (is_owed_by session) found)
lease-met session number None lease = refl
lease-met session number (Some lot) lease = by (lot.session == session) refl (and_parts (lot.number == number) (not lot.is_done) (lease lot refl)).1
  where
    by : (b : Bool) → (lot.session == session) ≡ b → not lot.is_done ≡ true → (lot.session == session) ≡ is_some (cond ((lot.session == session) && not lot.is_done) (Some lot) None)
    by true t undone = rw (t, undone) refl
    by false t undone = rw t refl

told-done : (session number : ℕ) (s : Standing) → Sound s
    → (is_some (lease_at s.world.ports number) && is_asker (option_map owner_of_lot (lease_at s.world.ports number)) session) ≡ is_some (find (is_lease number) (map lot_of_lease (own_of session s).leases))
told-done session number s k =
    let lots = flat_map line_of s.world.ports in
    let all = find-kept (is_owed_by session) (is_lease number) lots
    (λ y e. each-weaker (λ (l : Lot). bears_number number l ≡ true → l ≡ y) (λ (l : Lot). is_lease number l ≡ true → is_owed_by session l ≡ is_owed_by session y)
    (λ l only is. ap (is_owed_by session) (only (and_parts (l.number == number) (not l.is_done) is).0)) lots (only-lots number s.world.ports y k.single e)) in
    lease-met session number (lease_at s.world.ports number) (λ lot e. (place-of (is_lease number) lots lot e).passes)
    ∙ sym (ap (λ (ls : List Lot). is_some (find (is_lease number) ls)) (lots-of_leases session s.world.ports s.holdings.ports k.held.ports_agree) ∙ ap is_some all)

-- what is read off what is the session's own
settled : (session : ℕ) (s : Standing) → Sound s → (by : ℕ) → by ≡ session → is_settled s.world by ≡ is_settled_own (own_of session s)
settled session s k by is = ap (is_settled s.world) is ∙ settled-at session s k.held

holds : (session : ℕ) (s : Standing) (bufs : List ℕ) (by : ℕ) → by ≡ session → holds_all s.holdings by bufs ≡ holds_own (own_of session s) bufs
holds session s bufs by is = ap (λ (n : ℕ). holds_all s.holdings n bufs) is

receives : (session : ℕ) (s : Standing) → Sound s → (back : List ℕ) (p : Port) → p.session ≡ session → can_receive s back p ≡ may_receive (own_of session s) back p
receives session s k back p is = ap₂ (λ (a b : Bool). a && (nat_le (length back) p.out && b)) (settled session s k p.session is) (holds session s back p.session is)

puts : (session : ℕ) (s : Standing) → Sound s → (offered : List Item) (p : Port) → p.session ≡ session → can_put s offered p ≡ may_put (own_of session s) offered p
puts session s k offered p is =
    ap₂ (λ (a b : Bool). (is_pipe_name p.name && (a && (list_all is_pipe_item offered && b))) && nat_le (length offered) most_batch) (settled session s k p.session is) (holds session s (indices_of offered) p.session is)

by-session : (by session : ℕ) (a b : Bool) → (by ≡ session → a ≡ b) → (a && (by == session)) ≡ (b && (by == session))
by-session by session a b same = at (by == session) refl
  where
    at : (c : Bool) → (by == session) ≡ c → (a && (by == session)) ≡ (b && (by == session))
    at true t = ap (λ (x : Bool). x && (by == session)) (same (eqb-true by session t))
    at false t = rw t (and-false a ∙ sym (and-false b))

ring-alone : (side : Side) (fault : SyncFault) (p : Port) → can_reset side fault (port_alone p) ≡ can_reset side fault p
ring-alone Tx fault p = refl
ring-alone Rx fault p = refl

some-met : {X : Type 0} (found : Option X) → is_met (λ (x : X). true) found ≡ is_some found
some-met None = refl
some-met (Some x) = refl

with-chain : (fits : Bool) (a b c : Bool) → (a && b) ≡ c → ((fits && a) && b) ≡ (fits && c)
with-chain true a b c e = e
with-chain false a b c e = refl

leaves : (session : ℕ) (s : Standing) → Sound s → can_leave s.world session ≡ may_leave (own_of session s)
leaves session s k = ap₂ (λ (a b : Bool). is_session s.world session && (a && b)) (no-port session s.world.ports) (settled-at session s k.held)

told : (session : ℕ) (s : Standing) (ask : Ask) → Sound s → asks s session ask ≡ may_ask session (own_of session s) ask
told session s (Enter user) k = and-false (is_enabled s (Enter user))
told session s (Open by name tx rx extra) k =
    by-session by.0 session (can_open s.world by.0 name tx rx extra) (may_open (own_of session s) name tx rx extra)
    (λ is. ap (λ (n : ℕ). is_session s.world n && (is_name name && (fits_u32 tx && (fits_u32 rx && fits_u32 extra)))) is)
told session s (Send port frames) k =
    at-open session port.0 s k (can_send s.world frames) (may_send (own_of session s) frames) (λ p. refl)
    (λ p is. ap (λ (b : Bool). is_switch_port_name p.name && (b && is_sendable frames)) (settled session s k p.session is))
told session s (Grant origin to) k = told-grant session origin to.0 s k
told session s (Done lease) k = told-done session lease.0 s k
told session s (Sync port back) k =
    at-open session port.0 s k (can_sync s back) (may_sync (own_of session s) back) (λ p. refl)
    (λ p is. ap (λ (b : Bool). (is_switch_port_name p.name || is_monitor_name p.name) && b) (receives session s k back p is))
told session s (Reset port side fault) k = at-open session port.0 s k (can_reset side fault) (can_reset side fault) (ring-alone side fault) (λ p is. refl)
told session s (Shut port) k = at-open session port.0 s k (can_shut s.world) (may_shut (own_of session s)) (λ p. refl) (λ p is. settled session s k p.session is)
told session s (Finish port bufs chain) k =
    with-chain (fits_chain chain) _ _ _ (at-shutting session port.0 s k (can_finish s bufs) (may_finish (own_of session s) bufs) (λ p. refl)
    (λ p is. ap (λ (b : Bool). (length bufs == due_of p) && b) (holds session s bufs p.session is)))
told session s (Leave by) k = by-session by.0 session (can_leave s.world by.0) (may_leave (own_of session s)) (λ is. ap (can_leave s.world) is ∙ leaves session s k)
told session s (Put port offered) k = at-open session port.0 s k (can_put s offered) (may_put (own_of session s) offered) (λ p. refl) (λ p is. puts session s k offered p is)
told session s (PutKept port offered) k = refl
told session s (Get port back) k =
    at-open session port.0 s k (can_get s back) (may_get (own_of session s) back) (λ p. refl) (λ p is. ap (λ (b : Bool). is_pipe_name p.name && b) (receives session s k back p is))
told session s (Watch monitor target sides) k = at-open session monitor.0 s k (can_watch target) (can_watch target) (λ p. refl) (λ p is. refl)
told session s (Stat port) k =
    ap (λ (b : Bool). b && is_asker (option_map owner_of_port (open_port s.world.ports port.0)) session) (sym (some-met (open_port s.world.ports port.0)))
    ∙ (at-open session port.0 s k (λ (p : Port). true) (λ (p : Port). true) (λ p. refl) (λ p is. refl) ∙ some-met (open_port (own_of session s).ports port.0))

pub own-tells : OwnTellsAsks
own-tells pool h session ask legal = told session (standing_of pool h) ask (sound-of pool h legal)

pub asks-stay : AsksStay
asks-stay pool past more session ask legal others =
    own-tells pool (past ++ more) session ask legal
    ∙ (ap (λ (own : Own). may_ask session own ask) (own-kept pool past more session legal others) ∙ sym (own-tells pool past session ask (legal-split pool past more legal).0))
