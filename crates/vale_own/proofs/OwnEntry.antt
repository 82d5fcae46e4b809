-- An entry of a session makes of what is its own what is defined.
use Rattle.std.proofs.Common.{ℕ, ◌+◌, ◌≡◌, true, false, not, ◌==◌, List, [], ◌∷◌, map, filter, length, Option, Some, None, refl, ◌∙◌, ap, subst}
use Rattle.std.specs.Option.{option_map_or}
use Rattle.std.specs.List.{AllByRecursion as Each}
use Rattle.std.proofs.lemmas.Bool.{eqb-true, eq-eqb, and_parts}
use Rattle.std.proofs.lemmas.List.{map-append}
use Rattle.std.proofs.lemmas.List.Elements.{filter-append}
use Rattle.nm_types.specs.Frames.{Frame, size_of_frames}
use Rattle.vale_entry.specs.declared.entry.Ask.{Ask}
use Rattle.vale_entry.specs.declared.entry.Ask.TheVariants.{Shut, Finish, PutKept}
use Rattle.vale_entry.specs.declared.entry.Entry.{Entry}
use Rattle.vale_entry.specs.declared.entry.Item.{Item}
use Rattle.vale_entry.specs.declared.entry.Reply.{Reply}
use Rattle.nm_types.specs.declared.id.PortId.{PortId}
use Rattle.nm_types.specs.declared.id.Chain.{Chain}
use Rattle.vale_entry.specs.World.{Port, Lot, is_session, open_port, is_open_at}
use Rattle.vale_entry.specs.Grant.{first_offer}
use Rattle.vale_entry.specs.Opening.{opened_port}
use Rattle.vale_entry.specs.Delivery.{delivered_frames, port_after_sync, port_after_done}
use Rattle.vale_entry.specs.Closing.{is_port_of, ports_without, shut, shutting_port, is_shutting_at, leases_out}
use Rattle.vale_entry.specs.Pipe.{peer_of, indices_of, frames_of_items, port_after_put}
use Rattle.vale_entry.specs.Holdings.{buffers_of_session}
use Rattle.vale_entry.specs.Laws.{IsThere, IsPortOf, id_of_session}
use Rattle.vale_entry.specs.Legal.{Standing, Outcome, standing_of, unchanged, enter_step, open_step_by, send_step, done_step, sync_step, put_step, shut_step, finish_step, leave_step}
use Rattle.vale_entry.proofs.Worlds.{standing-push}
use Rattle.vale_entry.proofs.HistoryLaws.{history-stands}
use Rattle.vale_entry.proofs.Follows.{EachKind, IsQuiet, resets, Receives, by_sync, by_get, follows-by}
use Rattle.vale_entry.proofs.Each.{each-weaker, each-find, map-changed_at}
use Rattle.vale_entry.proofs.ListLaws.{place-of}
use Rattle.vale_entry.proofs.Numbered.{Numbered}
use Rattle.vale_entry.proofs.Holding.{Held}
use Rattle.vale_entry.proofs.OneEntry.{OneEntry}
use Rattle.vale_own.specs.Own.{Own, own_of, port_alone, is_offer_by}
use Rattle.vale_own.specs.OwnEntries.{nothing_own, own_opened, own_sent, own_done, received_port, own_received, own_put, own_put_at, own_granted, own_after_entry}
use Rattle.vale_own.specs.Laws.{OwnEntriesChangeOwn}
use Rattle.vale_own.proofs.Single.{only-found}
use Rattle.vale_own.proofs.Leases.{leases_in, leases-opened, leases-synced, leases-brought, leases-shut, leases-finished}
use Rattle.vale_own.proofs.Newcomers.{LotsFrom, lots-from, no-ports, no-offers, no-leases, no-buffers, any-last}
use Rattle.vale_own.proofs.Mine.{mine-offers, mine-changed, mine-without, mine-done, mine-less, mine-given, mine-moved, mine-left, none-left}
use Rattle.vale_own.proofs.Ahead.{Ahead, ahead-of}
use Rattle.vale_own.proofs.OwnGrants.{own-granted}

-- what a standing's own is, part by part
is-own : (session : ℕ) (t : Standing) (own : Own) → is_session t.world session ≡ own.there
    → filter (is_port_of session) (map port_alone t.world.ports) ≡ own.ports
    → filter (is_offer_by session) t.world.offers ≡ own.offers
    → leases_in session t ≡ own.leases
    → buffers_of_session t.holdings.sessions session ≡ own.buffers
    → own_of session t ≡ own
is-own session t own there ports offers leases buffers = rw (there, ports, offers, leases, buffers) refl

-- the session of a port is among those that hold buffers
held-there : (s : Standing) (session : ℕ) → Held s → IsThere s.world.sessions session → IsThere (map id_of_session s.holdings.sessions) session
held-there s session h there = rw (h.session_ids) there

port-there : (s : Standing) (id : ℕ) (port : Port) → open_port s.world.ports id ≡ Some port → Numbered s → Held s → IsThere (map id_of_session s.holdings.sessions) port.session
port-there s id port e n h = held-there s port.session h (each-find (IsPortOf s.world.sessions) (is_open_at id) s.world.ports port n.ports_owned e)

entered : (s : Standing) → Numbered s → Held s → LotsFrom s → own_of (s.world.entry_count + 1) (enter_step s).next ≡ record nothing_own { there = true }
entered s n h lots =
    let w = s.world in
    is-own (w.entry_count + 1) (enter_step s).next (record nothing_own { there = true })
    (any-last (w.entry_count + 1) w.sessions)
    (no-ports w.entry_count w.sessions w.ports n.sessions_rise n.ports_owned)
    (no-offers w.entry_count w.sessions w.offers n.sessions_rise n.offers_owned)
    (no-leases w.entry_count w.ports s.holdings.ports lots)
    (no-buffers w.entry_count w.sessions s.holdings.sessions n.sessions_rise h.session_ids)

opened : (s : Standing) (session : ℕ) (name : List ℕ) (tx rx extra : ℕ) → is_session s.world session ≡ true → Held s
    → own_of session (open_step_by None s session name tx rx extra).next ≡ own_opened s session name tx rx extra (own_of session s)
opened s session name tx rx extra here h =
    let w = s.world in
    let port = opened_port (w.entry_count + 1) session name tx rx extra in
    let mine : is_port_of session port ≡ true = eq-eqb session session refl in
    is-own session (open_step_by None s session name tx rx extra).next (own_opened s session name tx rx extra (own_of session s)) refl
    (rw map-append (filter-append (is_port_of session) (map port_alone w.ports) (port ∷ []) ∙ rw mine refl))
    refl
    (leases-opened session s session name tx rx extra h)
    (mine-given session _ s.holdings.sessions (held-there s session h here))

sent : (s : Standing) (frames : List Frame) (port : Port) → own_of port.session (send_step s frames port).next ≡ own_sent s frames (own_of port.session s) port
sent s frames port =
    is-own port.session (send_step s frames port).next (own_sent s frames (own_of port.session s) port) refl refl
    (mine-offers port.session (s.world.entry_count + 1) _ s.world.ports s.world.offers) refl refl

completed : (s : Standing) (number : ℕ) (lot : Lot) → own_of lot.session (done_step s number lot).next ≡ own_done number (own_of lot.session s)
completed s number lot =
    is-own lot.session (done_step s number lot).next (own_done number (own_of lot.session s)) refl
    (ap (filter (is_port_of lot.session)) (alone_done s.world.ports)) refl
    (mine-done lot.session number s.world.ports s.holdings.ports) refl
  where
    alone_done : (ports : List Port) → map port_alone (map (port_after_done number) ports) ≡ map port_alone ports
    alone_done [] = refl
    alone_done (p ∷ ps) = let rest = alone_done ps in cc

received : (s : Standing) (back : List ℕ) (id : ℕ) (port : Port) → open_port s.world.ports id ≡ Some port → Numbered s → Held s
    → own_of port.session (sync_step s back port).next ≡ own_received s back (own_of port.session s) port
received s back id port e n h =
    let w = s.world in
    let only = only-found (is_open_at id) 0 w.ports w.entry_count port n.ports_rise e in
    is-own port.session (sync_step s back port).next (own_received s back (own_of port.session s) port) refl
    (mine-changed port.session port.id (port_after_sync (length back)) (received_port (size_of_frames (delivered_frames port)) (length back)) (λ p. refl) w.ports
    (each-weaker (λ (p : Port). p.id ≡ port.id → p ≡ port)
    (λ (p : Port). p.id ≡ port.id → port_alone (port_after_sync (length back) p) ≡ received_port (size_of_frames (delivered_frames port)) (length back) (port_alone p))
    (λ p is same. seen p (is same)) w.ports only))
    (mine-offers port.session (w.entry_count + 1) _ w.ports w.offers)
    (leases-synced port.session s back id port e n h)
    (mine-moved port.session back _ s.holdings.sessions (port-there s id port e n h))
  where
    seen : (p : Port) → p ≡ port → port_alone (port_after_sync (length back) p) ≡ received_port (size_of_frames (delivered_frames port)) (length back) (port_alone p)
    seen p is = rw (← is) refl

brought : (s : Standing) (items : List Item) (id : ℕ) (port peer : Port) → open_port s.world.ports id ≡ Some port → Numbered s → Held s
    → own_of port.session (put_step s items port peer).next ≡ own_put s items (own_of port.session s) port peer
brought s items id port peer e n h =
    let w = s.world in
    is-own port.session (put_step s items port peer).next (own_put s items (own_of port.session s) port peer) refl
    (ap (filter (is_port_of port.session)) (map-changed_at port_alone peer.id (port_after_put (w.entry_count + 1) port.session (frames_of_items items)) (λ p. refl) w.ports))
    (mine-offers port.session (w.entry_count + 1) _ w.ports w.offers)
    (leases-brought port.session s items port peer h)
    (mine-moved port.session (indices_of items) _ s.holdings.sessions (port-there s id port e n h))

closed : (s : Standing) (id : ℕ) (port : Port) → open_port s.world.ports id ≡ Some port
    → own_of port.session (shut_step s port).next ≡ own_after_entry s (Shut (record { 0 = id })) (shut_step s port).reply (own_of port.session s)
closed s id port e =
    let is : port.id ≡ id = eqb-true port.id id (and_parts (port.id == id) (not port.shutting) (place-of (is_open_at id) s.world.ports port e).passes).0 in
    subst (λ (k : ℕ). own_of port.session (shut_step s port).next ≡ own_after_entry s (Shut (record { 0 = k })) (shut_step s port).reply (own_of port.session s)) is
    (is-own port.session (shut_step s port).next (own_after_entry s (Shut (record { 0 = port.id })) (shut_step s port).reply (own_of port.session s)) refl
    (mine-changed port.session port.id shut shut (λ p. refl) s.world.ports (all s.world.ports))
    refl (leases-shut port.session s port) refl)
  where
    all : (ports : List Port) → Each (λ (p : Port). p.id ≡ port.id → port_alone (shut p) ≡ shut (port_alone p)) ports
    all [] = tt
    all (p ∷ ps) = (λ same. refl, all ps)

finished : (s : Standing) (at : PortId) (bufs : List ℕ) (chain : Chain) (port : Port) → shutting_port s.world.ports at.0 ≡ Some port → leases_out port ≡ 0 → Numbered s → Held s
    → own_of port.session (finish_step s bufs port).next ≡ own_after_entry s (Finish at bufs chain) (finish_step s bufs port).reply (own_of port.session s)
finished s at bufs chain port e out n h =
    let is : port.id ≡ at.0 = eqb-true port.id at.0 (and_parts (port.id == at.0) port.shutting (place-of (is_shutting_at at.0) s.world.ports port e).passes).0 in
    is-own port.session (finish_step s bufs port).next (own_after_entry s (Finish at bufs chain) (finish_step s bufs port).reply (own_of port.session s)) refl
    (mine-without port.session port.id s.world.ports ∙ ap (λ (k : ℕ). ports_without k (own_of port.session s).ports) is)
    refl
    (leases-finished port.session s bufs at.0 port e out n h)
    (mine-less port.session bufs s.holdings.sessions)

left : (s : Standing) (session : ℕ) → own_of session (leave_step s session).next ≡ record (own_of session s) { there = false; buffers = [] }
left s session =
    is-own session (leave_step s session).next (record (own_of session s) { there = false; buffers = [] })
    (none-left session s.world.sessions) refl refl refl (mine-left session s.holdings.sessions)

-- what an entry makes of what is its session's own
abbrev Makes : Standing → Ask → Outcome → Type 0
Makes s ask made = own_of made.session made.next ≡ own_after_entry s ask made.reply (own_of made.session s)

at-found : {X : Type 0} (f : X → Own) (own made : Own) (found : Option X) (x : X) → found ≡ Some x → made ≡ f x → made ≡ option_map_or f found own
at-found f own made found x e is = rw e is

quiet-makes : (s : Standing) (ask : Ask) (by : ℕ) (reply : Reply) → IsQuiet s ask by reply → Makes s ask (unchanged s by reply)
quiet-makes s ask by reply (resets at side fault port e can) = refl
quiet-makes s ask by reply _ = refl

receives-makes : (s : Standing) (ask : Ask) (at : PortId) (back : List ℕ) (port : Port) → Receives ask at back → open_port s.world.ports at.0 ≡ Some port → Numbered s → Held s
    → Makes s ask (sync_step s back port)
receives-makes s ask at back port (by_sync at' back') e n h =
    at-found (own_received s back (own_of port.session s)) (own_of port.session s) _ (open_port s.world.ports at.0) port e (received s back at.0 port e n h)
receives-makes s ask at back port (by_get at' back') e n h =
    at-found (own_received s back (own_of port.session s)) (own_of port.session s) _ (open_port s.world.ports at.0) port e (received s back at.0 port e n h)

puts-makes : (s : Standing) (at : PortId) (offered : ℕ) (items : List Item) (port peer : Port) → open_port s.world.ports at.0 ≡ Some port → peer_of s.world.ports port ≡ Some peer → Numbered s → Held s
    → Makes s (PutKept at offered) (put_step s items port peer)
puts-makes s at offered items port peer e found n h =
    at-found (own_put_at s items (own_of port.session s)) (own_of port.session s) _ (open_port s.world.ports at.0) port e
    (at-found (own_put s items (own_of port.session s) port) (own_of port.session s) _ (peer_of s.world.ports port) peer found (brought s items at.0 port peer e n h))

makes-kinds : (s : Standing) → Numbered s → Held s → OneEntry s → LotsFrom s → Ahead s → EachKind s (Makes s)
makes-kinds s n h one lots k = record {
  enters = λ user fits. entered s n h lots;
  quiet = λ ask by reply quiet. quiet-makes s ask by reply quiet;
  opens = λ session name tx rx extra can refusal. opened s session.0 name tx rx extra can.here h;
  sends = λ from frames port e can settled.
      at-found (own_sent s frames (own_of port.session s)) (own_of port.session s) _ (open_port s.world.ports from.0) port e (sent s frames port);
  grants = λ origin to offer first same.
      at-found (own_granted s (own_of offer.session s)) (own_of offer.session s) _ (first_offer s.world origin) offer first (own-granted s origin offer first n h one k);
  completes = λ lease lot e. completed s lease.0 lot;
  receives = λ ask at back port receives e can. receives-makes s ask at back port receives e n h;
  puts = λ at offered items port peer e can found. puts-makes s at offered items port peer e found n h;
  watches = λ at target sides port found e can there none. refl;
  shuts = λ at port e settled. closed s at.0 port e;
  finishes = λ at bufs chain port fits e can out. finished s at bufs chain port e out n h;
  leaves = λ session can. left s session.0;
}

abbrev MakesAt : Standing → Entry → Standing → Type 0
MakesAt s e t = own_of e.session.0 t ≡ own_after_entry s e.ask e.reply (own_of e.session.0 s)

pub own-entries : OwnEntriesChangeOwn
own-entries pool past e legal follows =
    let k = history-stands pool past legal in
    let s = standing_of pool past in
    ap (own_of e.session.0) (standing-push pool past e)
    ∙ follows-by s (MakesAt s) e follows (makes-kinds s k.numbered k.held k.one (lots-from pool past) (ahead-of pool past))
