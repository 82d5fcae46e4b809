-- The buffers of leases, and those that a session's entries give up and bring.
use Rattle.std.proofs.Common.{ℕ, ◌+◌, ◌≡◌, true, not, List, [], ◌∷◌, ◌++◌, map, take, drop, flat_map, length, append-nil, sum_by, filter, cond, Bool, false, ◌==◌, ◌≤◌, Option, Some, None, refl, sym, ◌∙◌, ap, arith, length-append}
use Rattle.std.specs.Option.{option_map_or}
use Rattle.std.specs.List.{AllByRecursion as Each, zip}
use Rattle.std.proofs.lemmas.List.Elements.{All-from_recursion}
use Rattle.std.proofs.lemmas.List.Sums.{sum_by-cons}
use Rattle.std.proofs.lemmas.List.{length-map}
use Rattle.nm_types.specs.Frames.{Frame, slots_of, size_of_frames}
use Rattle.nm_types.specs.Parts.{HeldPart, cut_frame, cut_frames}
use Rattle.nm_types.proofs.PartLemmas.{length-cut}
use Rattle.nm_types.specs.OwnSyncs.{buffers_of_arrivals}
use Rattle.nm_types.specs.declared.id.PortId.{PortId}
use Rattle.vale_entry.specs.declared.entry.Ask.{Ask}
use Rattle.vale_entry.specs.declared.entry.Ask.TheVariants.{PutKept}
use Rattle.vale_entry.specs.declared.entry.Entry.{Entry}
use Rattle.vale_entry.specs.declared.entry.Item.{Item}
use Rattle.vale_entry.specs.declared.entry.Reply.{Reply}
use Rattle.vale_entry.specs.World.{Port, Lot, open_port, is_owed_by}
use Rattle.vale_entry.specs.Grant.{first_offer}
use Rattle.vale_entry.specs.Pipe.{peer_of, indices_of, index_of_item}
use Rattle.vale_entry.specs.Arrivals.{blank_arrival, part_arrival, delivered_parts, lent_arrivals, given_at, arrivals_of}
use Rattle.vale_entry.specs.Delivery.{ready_lots, delivered_frames}
use Rattle.vale_entry.specs.Holdings.{PortBuffers, SessionBuffers, PortsAgree, is_buffer_index, buffers_without, buffers_of_session, contains, delivered_buffers, first_idle}
use Rattle.vale_entry.specs.Laws.{Rise, id_of_held}
use Rattle.vale_entry.specs.Legal.{Standing, standing_of, sync_step, put_step}
use Rattle.vale_entry.proofs.Follows.{EachKind, IsQuiet, refused_open, Receives, by_sync, by_get, follows-by}
use Rattle.vale_entry.proofs.Agreeing.{agree-at, agree-ids, due-without}
use Rattle.vale_entry.proofs.Places.{open-place, delivered_buffers-place}
use Rattle.vale_entry.proofs.Numbered.{Numbered}
use Rattle.vale_entry.proofs.Holding.{Held, at_session, at_port, times_held}
use Rattle.vale_entry.proofs.Counting.{count_of, count_of-append}
use Rattle.std.proofs.lemmas.Grind.{flat_map-append}
use Rattle.vale_entry.proofs.Held.{delivered-length}
use Rattle.vale_entry.proofs.HistoryLaws.{history-stands}
use Rattle.vale_entry.proofs.Each.{each-append, each-all}
use Rattle.vale_entry.proofs.Removals.{each-filter}
use Rattle.vale_own.specs.Own.{Own, own_of, leases_at, is_lease_of, buffers_of_lease}
use Rattle.vale_own.specs.OwnEntries.{own_sent, own_granted, own_received, own_after_entry, given_up}
use Rattle.vale_own.specs.Laws.{HoldsFrames, LeasesHoldFrames, OwnBuffersAreApart, BuffersGoAndCome}
use Rattle.vale_own.proofs.Lists.{filter-every}
use Rattle.vale_own.proofs.Newcomers.{no-buffers-yet}
use Rattle.vale_own.proofs.Reading.{paid-found}
use Rattle.vale_own.proofs.OwnEntry.{own-entries}

-- leases
line-holds : (line : List Lot) (lots : List (List ℕ)) → map (λ (list : List ℕ). length list) lots ≡ map (λ (lot : Lot). size_of_frames lot.frames) line → Each HoldsFrames (zip line lots)
line-holds [] lots e = tt
line-holds (lot ∷ line) [] e = tt
line-holds (lot ∷ line) (buffers ∷ lots) e = let here : length buffers ≡ size_of_frames lot.frames = cc in (here, line-holds line lots cc)

ports-hold : (session : ℕ) (ports : List Port) (helds : List PortBuffers) → PortsAgree ports helds → Each HoldsFrames (flat_map (leases_at session) (zip ports helds))
ports-hold session [] helds a = tt
ports-hold session (p ∷ ps) [] a = tt
ports-hold session (p ∷ ps) (h ∷ hs) a =
    each-append HoldsFrames (leases_at session (p, h)) (flat_map (leases_at session) (zip ps hs)) (each-filter HoldsFrames (is_lease_of session) (zip p.line h.lots) (line-holds p.line h.lots a.0.lots))
    (ports-hold session ps hs a.1)

pub leases-hold : LeasesHoldFrames
leases-hold pool h session legal =
    let s = standing_of pool h in
    All-from_recursion HoldsFrames (own_of session s).leases (ports-hold session s.world.ports s.holdings.ports (history-stands pool h legal).held.ports_agree)

-- each buffer of the pool is held once
pub session-counted : (b session : ℕ) (helds : List SessionBuffers) → count_of b (buffers_of_session helds session) ≤ sum_by (at_session b) helds
session-counted b session [] = omega arith
session-counted b session (h ∷ hs) = by (h.session == session) refl (session-counted b session hs)
  where
    sum : sum_by (at_session b) (h ∷ hs) ≡ count_of b h.buffers + sum_by (at_session b) hs
    sum = sum_by-cons (at_session b) h hs

    by : (c : Bool) → (h.session == session) ≡ c → count_of b (buffers_of_session hs session) ≤ sum_by (at_session b) hs → count_of b (buffers_of_session (h ∷ hs) session) ≤ sum_by (at_session b) (h ∷ hs)
    by true t rest = rw t (let all = sum in omega arith)
    by false t rest = rw t (let all = sum in omega arith)

line-counted : (b session : ℕ) (line : List Lot) (lots : List (List ℕ))
    → count_of b (flat_map buffers_of_lease (filter (is_lease_of session) (zip line lots))) ≤ count_of b (flat_map (λ (list : List ℕ). list) lots)
line-counted b session [] lots = omega arith
line-counted b session (lot ∷ line) [] = omega arith
line-counted b session (lot ∷ line) (buffers ∷ lots) = by (is_owed_by session lot) refl (line-counted b session line lots)
  where
    all : count_of b (flat_map (λ (list : List ℕ). list) (buffers ∷ lots)) ≡ count_of b buffers + count_of b (flat_map (λ (list : List ℕ). list) lots)
    all = count_of-append b buffers (flat_map (λ (list : List ℕ). list) lots)

    by : (c : Bool) → is_owed_by session lot ≡ c
        → count_of b (flat_map buffers_of_lease (filter (is_lease_of session) (zip line lots))) ≤ count_of b (flat_map (λ (list : List ℕ). list) lots)
        → count_of b (flat_map buffers_of_lease (filter (is_lease_of session) (zip (lot ∷ line) (buffers ∷ lots)))) ≤ count_of b (flat_map (λ (list : List ℕ). list) (buffers ∷ lots))
    by true t rest =
        let some = count_of-append b buffers (flat_map buffers_of_lease (filter (is_lease_of session) (zip line lots))) in
        let whole = all in
        rw t (omega arith)
    by false t rest = rw t (let whole = all in omega arith)

ports-counted : (b session : ℕ) (ports : List Port) (helds : List PortBuffers)
    → count_of b (flat_map buffers_of_lease (flat_map (leases_at session) (zip ports helds))) ≤ sum_by (at_port b) helds
ports-counted b session [] helds = omega arith
ports-counted b session (p ∷ ps) [] = omega arith
ports-counted b session (p ∷ ps) (h ∷ hs) =
    let rest = ports-counted b session ps hs in
    let here = line-counted b session p.line h.lots in
    let held = count_of-append b h.idle (flat_map (λ (list : List ℕ). list) h.lots) in
    let sum = sum_by-cons (at_port b) h hs in
    let parts = ap (count_of b) (flat_map-append buffers_of_lease (leases_at session (p, h)) (flat_map (leases_at session) (zip ps hs))) in
    let both = count_of-append b (flat_map buffers_of_lease (leases_at session (p, h))) (flat_map buffers_of_lease (flat_map (leases_at session) (zip ps hs))) in
    omega arith

pub buffers-apart : OwnBuffersAreApart
buffers-apart pool h session b legal =
    let s = standing_of pool h in
    let k = history-stands pool h legal in
    let own = own_of session s in
    let all = count_of-append b own.buffers (flat_map buffers_of_lease own.leases) in
    let one = session-counted b session s.holdings.sessions in
    let two = ports-counted b session s.world.ports s.holdings.ports in
    let parted : times_held b s.holdings ≡ cond (is_buffer_index pool b) 1 0 = k.held.parted b ∙ ap (λ (n : ℕ). cond (is_buffer_index n b) 1 0) k.pool_is in
    omega (arith, all, one, two, parted)

-- as many buffers are delivered as parts
pub size-parts : (frames : List Frame) → length (cut_frames (map (λ (f : Frame). f.bytes) frames)) ≡ size_of_frames frames
size-parts [] = refl
size-parts (f ∷ fs) =
    let first = length-cut f.bytes in
    let rest = size-parts fs in
    let both = length-append (cut_frame f.bytes) (cut_frames (map (λ (f : Frame). f.bytes) fs)) in
    let sum = sum_by-cons slots_of f fs in
    omega (arith, first, rest, both, sum)

pub came-length : (s : Standing) (id : ℕ) (port : Port) → open_port s.world.ports id ≡ Some port → Numbered s → Held s
    → length (delivered_buffers port.id (length (ready_lots port)) s.holdings.ports) ≡ size_of_frames (delivered_frames port)
came-length s id port e n h =
    let w = s.world in
    let p = open-place w.ports w.entry_count id port n.ports_rise e in
    let at = agree-at w.ports s.holdings.ports p.place port h.ports_agree p.here in
    let rise : Rise 0 (map id_of_held s.holdings.ports) w.entry_count = rw (agree-ids w.ports s.holdings.ports h.ports_agree) (n.ports_rise) in
    let found = delivered_buffers-place (length (ready_lots port)) s.holdings.ports w.entry_count p.place at.held rise at.here in
    let there : delivered_buffers port.id (length (ready_lots port)) s.holdings.ports ≡ flat_map (λ (list : List ℕ). list) (take (length (ready_lots port)) at.held.lots) =
    ap (λ (k : ℕ). delivered_buffers k (length (ready_lots port)) s.holdings.ports) (sym at.agrees.id) ∙ found in
    ap length there ∙ delivered-length port at.held at.agrees

-- the buffers of arrivals
pub blank-buffers : (bs : List ℕ) → buffers_of_arrivals (map blank_arrival bs) ≡ bs
blank-buffers [] = refl
blank-buffers (b ∷ bs) = ap (λ (cs : List ℕ). b ∷ cs) (blank-buffers bs)

pub frame-buffers : (bs : List ℕ) (parts : List HeldPart) → length bs ≡ length parts → buffers_of_arrivals (map part_arrival (zip bs parts)) ≡ bs
frame-buffers [] parts e = refl
frame-buffers (b ∷ bs) [] e = absurd (omega (arith, e))
frame-buffers (b ∷ bs) (f ∷ fs) e = ap (λ (cs : List ℕ). b ∷ cs) (frame-buffers bs fs (omega (arith, e)))

-- where none goes
still : (bs : List ℕ) → bs ≡ buffers_without [] bs ++ []
still bs = sym (append-nil (buffers_without [] bs) ∙ filter-every (λ (b : ℕ). not (contains b [])) bs (each-all (λ (b : ℕ). not (contains b []) ≡ true) (λ b. refl) bs))

without-none : (bs more : List ℕ) → bs ++ more ≡ buffers_without [] bs ++ more
without-none bs more = ap (λ (cs : List ℕ). cs ++ more) (sym (filter-every (λ (b : ℕ). not (contains b [])) bs (each-all (λ (b : ℕ). not (contains b []) ≡ true) (λ b. refl) bs)))

-- what an entry gives up and what it brings
abbrev Moves : Standing → Ask → ℕ → Reply → Type 0
Moves s ask session reply =
    (own_after_entry s ask reply (own_of session s)).buffers ≡ buffers_without (given_up ask reply) (own_of session s).buffers ++ buffers_of_arrivals (arrivals_of s ask reply)

moves-quiet : (s : Standing) (ask : Ask) (by : ℕ) (reply : Reply) → IsQuiet s ask by reply → Moves s ask by reply
moves-quiet s ask by reply (refused_open session name tx rx extra fault can e) = still (own_of by s).buffers
moves-quiet s ask by reply _ = still (own_of by s).buffers

-- what is found keeps the buffers
kept-found : {X : Type 0} (f : X → Own) (own : Own) (found : Option X) → ((x : X) → (f x).buffers ≡ own.buffers) → (option_map_or f found own).buffers ≡ own.buffers
kept-found f own None keeps = refl
kept-found f own (Some x) keeps = keeps x

moves-received : (s : Standing) (at : PortId) (back : List ℕ) (port : Port) → open_port s.world.ports at.0 ≡ Some port → Numbered s → Held s → (session : ℕ)
    → (option_map_or (own_received s back (own_of session s)) (open_port s.world.ports at.0) (own_of session s)).buffers
    ≡ buffers_without back (own_of session s).buffers ++ buffers_of_arrivals (given_at s at.0)
moves-received s at back port e n h session =
    let come = frame-buffers (delivered_buffers port.id (length (ready_lots port)) s.holdings.ports) (delivered_parts port) (came-length s at.0 port e n h ∙ sym (size-parts (delivered_frames port))) in
    rw e (ap (λ (cs : List ℕ). buffers_without back (own_of session s).buffers ++ cs) (sym come))

moves-receives : (s : Standing) (ask : Ask) (at : PortId) (back : List ℕ) (port : Port) → Receives ask at back → open_port s.world.ports at.0 ≡ Some port → Numbered s → Held s
    → Moves s ask port.session (sync_step s back port).reply
moves-receives s ask at back port (by_sync at' back') e n h = moves-received s at back port e n h port.session
moves-receives s ask at back port (by_get at' back') e n h = moves-received s at back port e n h port.session

moves-puts : (s : Standing) (at : PortId) (offered : ℕ) (items : List Item) (port peer : Port) → open_port s.world.ports at.0 ≡ Some port → peer_of s.world.ports port ≡ Some peer
    → Moves s (PutKept at offered) port.session (put_step s items port peer).reply
moves-puts s at offered items port peer e found =
    let count : length (indices_of items) ≡ length items = length-map items index_of_item in
    let come : first_idle peer.id (length (indices_of items)) s.holdings.ports ≡ buffers_of_arrivals (lent_arrivals s.holdings.ports peer.id (length items)) =
    ap (λ (k : ℕ). first_idle peer.id k s.holdings.ports) count ∙ sym (blank-buffers (first_idle peer.id (length items) s.holdings.ports)) in
    rw (e, found) (ap (λ (cs : List ℕ). buffers_without (indices_of items) (own_of port.session s).buffers ++ cs) come)

none-of : (bs : List ℕ) → length bs ≡ 0 → bs ≡ []
none-of [] e = refl
none-of (b ∷ bs) e = absurd (omega (arith, e))

moves-kinds : (s : Standing) → Numbered s → Held s → EachKind s (λ ask made. Moves s ask made.session made.reply)
moves-kinds s n h = record {
  enters = λ user fits.
      let none = no-buffers-yet s.world.entry_count s.world.sessions s.holdings.sessions n.sessions_rise h.session_ids in
      sym (sym (still (buffers_of_session s.holdings.sessions (s.world.entry_count + 1))) ∙ none);
  quiet = λ ask by reply quiet. moves-quiet s ask by reply quiet;
  opens = λ session name tx rx extra can refusal.
      without-none (own_of session.0 s).buffers _ ∙ ap (λ (cs : List ℕ). buffers_without [] (own_of session.0 s).buffers ++ cs) (sym (blank-buffers (take tx s.holdings.free ++ take extra (drop (tx + rx) s.holdings.free))));
  sends = λ from frames port e can settled.
      kept-found (own_sent s frames (own_of port.session s)) (own_of port.session s) (open_port s.world.ports from.0) (λ p. refl) ∙ still (own_of port.session s).buffers;
  grants = λ origin to offer first same.
      kept-found (own_granted s (own_of offer.session s)) (own_of offer.session s) (first_offer s.world origin) (λ o. refl) ∙ still (own_of offer.session s).buffers;
  completes = λ lease lot e. still (own_of lot.session s).buffers;
  receives = λ ask at back port receives e can. moves-receives s ask at back port receives e n h;
  puts = λ at offered items port peer e can found. moves-puts s at offered items port peer e found;
  watches = λ at target sides port found e can there none. still (own_of port.session s).buffers;
  shuts = λ at port e settled. still (own_of port.session s).buffers;
  finishes = λ at bufs chain port fits e can out. sym (append-nil (buffers_without bufs (own_of port.session s).buffers));
  leaves = λ session can.
      let paid = paid-found s.world.ports session.0 s.holdings.sessions h.dues (rw (h.session_ids) (can.found)) in
      let none = none-of (own_of session.0 s).buffers (paid ∙ due-without s.world.ports session.0 can.no_port) in
      sym (sym (still (own_of session.0 s).buffers) ∙ none);
}

-- what an entry gives up and brings, by what stands before it
abbrev MovesAt : Standing → Entry → Standing → Type 0
MovesAt s e t = Moves s e.ask e.session.0 e.reply

pub buffers-go-and-come : BuffersGoAndCome
buffers-go-and-come pool past e legal follows =
    let k = history-stands pool past legal in
    let s = standing_of pool past in
    ap (λ (own : Own). own.buffers) (own-entries pool past e legal follows) ∙ follows-by s (MovesAt s) e follows (moves-kinds s k.numbered k.held)
