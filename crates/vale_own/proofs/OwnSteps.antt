-- An entry of another session changes nothing that is a session's own.
use Rattle.std.proofs.Common.{ℕ, ◌+◌, ◌≡◌, ◌≢◌, Bool, true, false, cond, not, ◌&&◌, ◌==◌, List, [], ◌∷◌, ◌++◌, map, filter, flat_map, length, Some, None, refl, sym, ◌∙◌, ap, append-nil}
use Rattle.std.specs.List.{AllByRecursion as Each, zip}
use Rattle.std.proofs.lemmas.Bool.{ne_eqb, eqb-true}
use Rattle.std.proofs.lemmas.List.Elements.{filter-append}
use Rattle.std.proofs.lemmas.List.{map-append}
use Rattle.nm_types.specs.Frames.{Frame, size_of_frames}
use Rattle.vale_entry.specs.declared.entry.Entry.{Entry}
use Rattle.vale_entry.specs.declared.entry.Item.{Item}
use Rattle.vale_entry.specs.World.{Port, Lot, Offer, is_session, open_port, is_open_at}
use Rattle.vale_entry.specs.Opening.{opened_port}
use Rattle.vale_entry.specs.Offers.{is_offer_of}
use Rattle.vale_entry.specs.Grant.{first_offer, port_after_grant, granted_frames}
use Rattle.vale_entry.specs.Delivery.{lease_at, port_after_done, port_after_sync}
use Rattle.vale_entry.specs.Closing.{shut, shutting_port, is_shutting_at, is_port_of, leases_out}
use Rattle.vale_entry.specs.Pipe.{indices_of, frames_of_items, port_after_put}
use Rattle.vale_entry.specs.Holdings.{PortBuffers, SessionBuffers, buffers_of_session, sessions_given, sessions_less, session_given, session_less, buffers_without, with_lot_buffers}
use Rattle.vale_entry.specs.Legal.{Standing, Outcome, after, Follows, enter_step, open_step_by, send_step, grant_step, done_step, sync_step, put_step, shut_step, finish_step, leave_step}
use Rattle.vale_entry.specs.Laws.{bears_number}
use Rattle.vale_entry.proofs.ListLaws.{place-of}
use Rattle.vale_entry.proofs.Follows.{EachKind, follows-by}
use Rattle.vale_entry.proofs.Each.{each-weaker, map-changed_at}
use Rattle.vale_entry.proofs.Numbered.{Numbered}
use Rattle.vale_entry.proofs.Holding.{Held}
use Rattle.vale_entry.proofs.SingleLots.{Single}
use Rattle.vale_own.specs.Own.{own_of, port_alone, is_offer_by, leases_at}
use Rattle.vale_own.proofs.Lists.{flat_map-changed, any-pushed, any-filtered, buffers-mapped, buffers-filtered, buffers-pushed, offers-other, more-offers}
use Rattle.vale_own.proofs.Single.{only-found, only-lot}
use Rattle.vale_own.proofs.Leases.{leases-at_id, agreed-ids, leases-opened, leases-synced, leases-brought, leases-shut, leases-finished}
use Rattle.vale_own.proofs.Sides.{Agreed, agreed, agreed-lots, zip-map, each-zip}
use Rattle.vale_own.proofs.Changes.{ports-changed, ports-without, leases-with_lot, leases-done}

-- an outcome of another session keeps what is the session's own
abbrev Keeps : ℕ → Standing → Outcome → Type 0
Keeps session s made = made.session ≢ session → own_of session made.next ≡ own_of session s

pub own-same : (session : ℕ) (s t : Standing) → is_session t.world session ≡ is_session s.world session
    → filter (is_port_of session) (map port_alone t.world.ports) ≡ filter (is_port_of session) (map port_alone s.world.ports)
    → filter (is_offer_by session) t.world.offers ≡ filter (is_offer_by session) s.world.offers
    → flat_map (leases_at session) (zip t.world.ports t.holdings.ports) ≡ flat_map (leases_at session) (zip s.world.ports s.holdings.ports)
    → buffers_of_session t.holdings.sessions session ≡ buffers_of_session s.holdings.sessions session
    → own_of session t ≡ own_of session s
own-same session s t there ports offers leases buffers = rw (there, ports, offers, leases, buffers) refl

given-other : (session by : ℕ) (more : List ℕ) (xs : List SessionBuffers) → by ≢ session → buffers_of_session (sessions_given by more xs) session ≡ buffers_of_session xs session
given-other session by more xs other = buffers-mapped session (session_given by more) (λ h. keeps h (h.session == by)) (λ h same. stays h same) xs
  where
    keeps : (h : SessionBuffers) (b : Bool) → (cond b (record h { buffers = h.buffers ++ more }) h).session ≡ h.session
    keeps h true = refl
    keeps h false = refl

    stays : (h : SessionBuffers) → h.session ≡ session → session_given by more h ≡ h
    stays h same = let miss : (h.session == by) ≡ false = ne_eqb h.session by (λ e. other (sym e ∙ same)) in rw miss refl

less-other : (session by : ℕ) (gone : List ℕ) (xs : List SessionBuffers) → by ≢ session → buffers_of_session (sessions_less by gone xs) session ≡ buffers_of_session xs session
less-other session by gone xs other = buffers-mapped session (session_less by gone) (λ h. keeps h (h.session == by)) (λ h same. stays h same) xs
  where
    keeps : (h : SessionBuffers) (b : Bool) → (cond b (record h { buffers = buffers_without gone h.buffers }) h).session ≡ h.session
    keeps h true = refl
    keeps h false = refl

    stays : (h : SessionBuffers) → h.session ≡ session → session_less by gone h ≡ h
    stays h same = let miss : (h.session == by) ≡ false = ne_eqb h.session by (λ e. other (sym e ∙ same)) in rw miss refl

moved-other : (session by : ℕ) (gone more : List ℕ) (xs : List SessionBuffers) → by ≢ session
    → buffers_of_session (sessions_given by more (sessions_less by gone xs)) session ≡ buffers_of_session xs session
moved-other session by gone more xs other = given-other session by more (sessions_less by gone xs) other ∙ less-other session by gone xs other

keeps-enter : (session : ℕ) (s : Standing) → Keeps session s (enter_step s)
keeps-enter session s other =
    own-same session s (enter_step s).next (any-pushed session (s.world.entry_count + 1) s.world.sessions other) refl refl refl
    (buffers-pushed session (record { session = s.world.entry_count + 1; buffers = [] }) other s.holdings.sessions)

keeps-open : (session : ℕ) (s : Standing) (by : ℕ) (name : List ℕ) (tx rx extra : ℕ) → Held s → Keeps session s (open_step_by None s by name tx rx extra)
keeps-open session s by name tx rx extra h other =
    let port = opened_port (s.world.entry_count + 1) by name tx rx extra in
    let miss : is_port_of session port ≡ false = ne_eqb by session other in
    own-same session s (open_step_by None s by name tx rx extra).next refl
    (rw map-append (filter-append (is_port_of session) (map port_alone s.world.ports) (port ∷ []) ∙ rw (miss, append-nil) refl))
    refl
    (leases-opened session s by name tx rx extra h)
    (given-other session by _ s.holdings.sessions other)

keeps-send : (session : ℕ) (s : Standing) (frames : List Frame) (port : Port) → Keeps session s (send_step s frames port)
keeps-send session s frames port other =
    own-same session s (send_step s frames port).next refl refl (more-offers session port.session (s.world.entry_count + 1) _ s.world.ports s.world.offers other) refl refl

keeps-grant : (session : ℕ) (s : Standing) (origin : ℕ) (offer : Offer) → first_offer s.world origin ≡ Some offer → Held s → Keeps session s (grant_step s offer)
keeps-grant session s origin offer e h other =
    let w = s.world in
    let frames = granted_frames w offer in
    let change = port_after_grant (w.entry_count + 1) offer.session frames in
    let origin_is : offer.origin ≡ origin = eqb-true offer.origin origin (place-of (is_offer_of origin) w.offers offer e).passes in
    let miss : ((offer.session == session) && true) ≡ false = rw (ne_eqb offer.session session other) refl in
    let all = agreed w.ports s.holdings.ports h.ports_agree in
    own-same session s (grant_step s offer).next refl
    (ap (filter (is_port_of session)) (map-changed_at port_alone offer.to change (λ p. refl) w.ports))
    (rw origin_is (offers-other session origin w.offers offer e other))
    (leases-at_id session offer.to change (with_lot_buffers (size_of_frames frames)) w.ports s.holdings.ports (agreed-ids (zip w.ports s.holdings.ports) all)
    (each-weaker Agreed (λ (at : Port × PortBuffers). at.0.id ≡ offer.to → leases_at session (change at.0, with_lot_buffers (size_of_frames frames) at.1) ≡ leases_at session at)
    (λ at a same. leases-with_lot session (w.entry_count + 1) offer.session false frames at.0.line at.1 (agreed-lots at.0 at.1 a) miss) (zip w.ports s.holdings.ports) all))
    refl

keeps-done : (session : ℕ) (s : Standing) (number : ℕ) (lot : Lot) → lease_at s.world.ports number ≡ Some lot → Single s → Keeps session s (done_step s number lot)
keeps-done session s number lot e single other =
    let w = s.world in
    own-same session s (done_step s number lot).next refl
    (ap (filter (is_port_of session)) (alone_done w.ports))
    refl
    (ap (flat_map (leases_at session)) (zip-map (port_after_done number) w.ports s.holdings.ports)
    ∙ flat_map-changed (leases_at session) (λ (at : Port × PortBuffers). (port_after_done number at.0, at.1)) (zip w.ports s.holdings.ports)
    (each-weaker (λ (at : Port × PortBuffers). Each (λ (l : Lot). bears_number number l ≡ true → l ≡ lot) at.0.line)
    (λ (at : Port × PortBuffers). leases_at session (port_after_done number at.0, at.1) ≡ leases_at session at)
    (λ at only. leases-done session number lot at.0.line at.1.lots other only) (zip w.ports s.holdings.ports)
    (each-zip (λ (p : Port). Each (λ (l : Lot). bears_number number l ≡ true → l ≡ lot) p.line) w.ports s.holdings.ports (only-lot number w.ports lot single e))))
    refl
  where
    alone_done : (ports : List Port) → map port_alone (map (port_after_done number) ports) ≡ map port_alone ports
    alone_done [] = refl
    alone_done (p ∷ ps) = let rest = alone_done ps in cc

-- the port that is found is the only one of its id
not-own : (session : ℕ) (port : Port) (ports : List Port) → port.session ≢ session → Each (λ (p : Port). p.id ≡ port.id → p ≡ port) ports
    → Each (λ (p : Port). p.id ≡ port.id → p.session ≢ session) ports
not-own session port ports other only =
    each-weaker (λ (p : Port). p.id ≡ port.id → p ≡ port) (λ (p : Port). p.id ≡ port.id → p.session ≢ session) (λ p is same. rw (is same) other) ports only

keeps-sync : (session : ℕ) (s : Standing) (back : List ℕ) (id : ℕ) (port : Port) → open_port s.world.ports id ≡ Some port → Numbered s → Held s → Keeps session s (sync_step s back port)
keeps-sync session s back id port e n h other =
    let w = s.world in
    own-same session s (sync_step s back port).next refl
    (ports-changed session port.id (port_after_sync (length back)) (λ p. refl) w.ports
    (not-own session port w.ports other (only-found (is_open_at id) 0 w.ports w.entry_count port n.ports_rise e)))
    (more-offers session port.session (w.entry_count + 1) _ w.ports w.offers other)
    (leases-synced session s back id port e n h)
    (moved-other session port.session back _ s.holdings.sessions other)

keeps-put : (session : ℕ) (s : Standing) (items : List Item) (port peer : Port) → Held s → Keeps session s (put_step s items port peer)
keeps-put session s items port peer h other =
    let w = s.world in
    own-same session s (put_step s items port peer).next refl
    (ap (filter (is_port_of session)) (map-changed_at port_alone peer.id (port_after_put (w.entry_count + 1) port.session (frames_of_items items)) (λ p. refl) w.ports))
    (more-offers session port.session (w.entry_count + 1) _ w.ports w.offers other)
    (leases-brought session s items port peer h)
    (moved-other session port.session (indices_of items) _ s.holdings.sessions other)

keeps-shut : (session : ℕ) (s : Standing) (id : ℕ) (port : Port) → open_port s.world.ports id ≡ Some port → Numbered s → Keeps session s (shut_step s port)
keeps-shut session s id port e n other =
    let w = s.world in
    own-same session s (shut_step s port).next refl
    (ports-changed session port.id shut (λ p. refl) w.ports (not-own session port w.ports other (only-found (is_open_at id) 0 w.ports w.entry_count port n.ports_rise e)))
    refl
    (leases-shut session s port)
    refl

keeps-finish : (session : ℕ) (s : Standing) (bufs : List ℕ) (id : ℕ) (port : Port) → shutting_port s.world.ports id ≡ Some port → leases_out port ≡ 0 → Numbered s → Held s
    → Keeps session s (finish_step s bufs port)
keeps-finish session s bufs id port e out n h other =
    let w = s.world in
    own-same session s (finish_step s bufs port).next refl
    (ports-without session port.id w.ports (not-own session port w.ports other (only-found (is_shutting_at id) 0 w.ports w.entry_count port n.ports_rise e)))
    refl
    (leases-finished session s bufs id port e out n h)
    (less-other session port.session bufs s.holdings.sessions other)

keeps-leave : (session : ℕ) (s : Standing) (by : ℕ) → Keeps session s (leave_step s by)
keeps-leave session s by other =
    own-same session s (leave_step s by).next (any-filtered session by s.world.sessions other) refl refl refl
    (buffers-filtered session (λ (h : SessionBuffers). not (h.session == by)) (λ h same. let miss : (h.session == by) ≡ false = ne_eqb h.session by (λ e. other (sym e ∙ same)) in rw miss refl) s.holdings.sessions)

-- an entry of another session keeps what is the session's own
abbrev KeepsAt : ℕ → Standing → Entry → Standing → Type 0
KeepsAt session s e t = e.session.0 ≢ session → own_of session t ≡ own_of session s

keeps-kinds : (session : ℕ) (s : Standing) → Numbered s → Held s → Single s → EachKind s (λ ask made. Keeps session s made)
keeps-kinds session s n h single = record {
  enters = λ user fits. keeps-enter session s;
  quiet = λ ask by reply quiet other. refl;
  opens = λ by name tx rx extra can refusal. keeps-open session s by.0 name tx rx extra h;
  sends = λ from frames port e can settled. keeps-send session s frames port;
  grants = λ origin to offer first same. keeps-grant session s origin offer first h;
  completes = λ lease lot e. keeps-done session s lease.0 lot e single;
  receives = λ ask at back port receives e can. keeps-sync session s back at.0 port e n h;
  puts = λ at offered items port peer e can found. keeps-put session s items port peer h;
  watches = λ at target sides port found e can there none other. refl;
  shuts = λ at port e settled. keeps-shut session s at.0 port e n;
  finishes = λ at bufs chain port fits e can out. keeps-finish session s bufs at.0 port e out n h;
  leaves = λ by can. keeps-leave session s by.0;
}

pub keeps-own : (session : ℕ) (s : Standing) (e : Entry) → Numbered s → Held s → Single s → Follows s e → e.session.0 ≢ session → own_of session (after s e) ≡ own_of session s
keeps-own session s e n h single follows = follows-by s (KeepsAt session s) e follows (keeps-kinds session s n h single)
