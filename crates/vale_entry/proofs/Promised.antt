-- What an entry leaves promised: an equation for each ask.
use Rattle.std.proofs.Common.{ℕ, ◌+◌, ◌≤◌, ◌≡◌, Bool, true, false, cond, not, ◌&&◌, ◌==◌, List, [], ◌∷◌, ◌++◌, map, length, drop, find, sum_by, count_by, flat_map, take_while, Option, Some, None, refl, ◌∙◌, ap, arith, length-append, sym, subst}
use Rattle.std.specs.List.{prefix_len}
use Rattle.std.proofs.lemmas.List.{length-map}
use Rattle.std.proofs.lemmas.List.Sums.{sum_by-cons, sum_by-append, sum_by_push, take_while-cons, sum_by-le-sum_by}
use Rattle.std.proofs.lemmas.Bool.{eqb-true}
use Rattle.nm_types.specs.Frames.{Frame}
use Rattle.vale_entry.specs.declared.entry.Entry.{Entry}
use Rattle.vale_entry.specs.World.{World, Port, Lot, Offer, open_port, changed_at, space_of, is_undone}
use Rattle.vale_entry.specs.Opening.{opened_port}
use Rattle.vale_entry.specs.Offers.{dest_of, is_offer_of}
use Rattle.vale_entry.specs.Grant.{first_offer, without_first, longest_fitting, given_at, granted_frames, room_back, with_lot, port_after_grant}
use Rattle.vale_entry.specs.Delivery.{lease_at, line_of, is_lease, is_done_lot, ready_lots, done_if, lot_after_done, port_after_done, port_after_sync}
use Rattle.vale_entry.specs.Closing.{shut, shutting_port, leases_out}
use Rattle.vale_entry.specs.Room.{owed_by_port, undone_of}
use Rattle.vale_entry.specs.Legal.{Standing, Outcome, recorded_step, after, enter_step, open_step_by, send_step, offers_of_send, grant_step, sync_step, offers_of_sync, shut_step, finish_step, leave_step, done_step, put_step, offers_of_put, standing_after}
use Rattle.vale_entry.specs.Laws.{Rise, id_of_port, bears_number, AreSingle, IsPromised}
use Rattle.vale_entry.specs.Pipe.{frames_of_items, port_after_put}
use Rattle.vale_entry.specs.declared.entry.Item.{Item}
use Rattle.vale_entry.proofs.Follows.{EachKind, IfMade, recorded-by}
use Rattle.vale_entry.proofs.ListLaws.{place-of, sum-set, sum-map_same, sum-flat_map, front-rest}
use Rattle.vale_entry.proofs.Counting.{sum-add}
use Rattle.vale_entry.proofs.Each.{sum-changed_at, changed_at-same}
use Rattle.vale_entry.proofs.Removals.{sum-remove, length-remove_at, number-place, filter-at_number}
use Rattle.vale_entry.proofs.Closings.{CanLeave}
use Rattle.vale_entry.proofs.Places.{open-place, changed_at-place, shutting-place}
use Rattle.vale_entry.proofs.Numbered.{Numbered}
use Rattle.vale_entry.proofs.SingleLots.{Single}

-- what an outcome leaves, against what its ask wants
abbrev PromisedNext : World → Outcome → Type 0
PromisedNext w made = IsPromised w made.next.world made

promised_enter : (s : Standing) → PromisedNext s.world (enter_step s)
promised_enter s =
    let sessions = length-append s.world.sessions ((s.world.entry_count + 1) ∷ []) in
    omega arith

promised_open :
    (s : Standing) (session : ℕ) (name : List ℕ) (tx rx extra : ℕ)
    → PromisedNext s.world (open_step_by None s session name tx rx extra)
promised_open s session name tx rx extra =
    let port = opened_port (s.world.entry_count + 1) session name tx rx extra in
    let owed : sum_by owed_by_port (s.world.ports ++ port ∷ [])
    ≡ sum_by owed_by_port s.world.ports + 2 =
    sum_by_push owed_by_port s.world.ports port in
    let undone :
    sum_by undone_of (s.world.ports ++ port ∷ []) ≡ sum_by undone_of s.world.ports + 0 =
    sum_by_push undone_of s.world.ports port in
    omega arith

promised_send :
    (s : Standing) (frames : List Frame) (port : Port)
    → PromisedNext s.world (send_step s frames port)
promised_send s frames port =
    let new = offers_of_send s.world port frames in
    let all = length-append s.world.offers new in
    let dests = length-map new dest_of in
    omega arith

-- Grant
without_first_by :
    (offer : Offer) (offers fewer : List Offer) (here : Bool) (found : Offer)
    → (find_rest : Option Offer)
    → (find_rest ≡ Some found → length fewer + 1 ≡ length offers)
    → cond here (Some offer) find_rest ≡ Some found
    → length (cond here offers (offer ∷ fewer)) + 1 ≡ length (offer ∷ offers)
without_first_by offer offers fewer true found rest later e = omega arith
without_first_by offer offers fewer false found rest later e = let less = later e in omega arith

length-without_first :
    (origin : ℕ) (offers : List Offer) (found : Offer)
    → find (is_offer_of origin) offers ≡ Some found
    → length (without_first origin offers) + 1 ≡ length offers
length-without_first origin [] found e = absurd cc
length-without_first origin (offer ∷ offers) found e =
    without_first_by offer offers (without_first origin offers) (is_offer_of origin offer) found
    (find (is_offer_of origin) offers) (length-without_first origin offers found) e

with_lot-undone : (number session : ℕ) (given : List Frame) (line : List Lot)
    → count_by is_undone (with_lot number session false given line) + room_back given
    ≡ count_by is_undone line + 1
with_lot-undone number session [] line = refl
with_lot-undone number session (frame ∷ frames) line =
    let sum : count_by is_undone (with_lot number session false (frame ∷ frames) line)
    ≡ count_by is_undone line + 1 =
    sum_by_push (λ (lot : Lot). cond (is_undone lot) 1 0) line _ in
    omega arith

undone-granted :
    (number session id : ℕ) (frames : List Frame) (high : ℕ) (ports : List Port) (at : Option Port)
    → open_port ports id ≡ at
    → Rise 0 (map id_of_port ports) high
    → sum_by undone_of (changed_at id (port_after_grant number session (given_at at frames)) ports)
    + room_back (given_at at frames)
    ≡ sum_by undone_of ports + 1
undone-granted number session id frames high ports None e rise =
    rw (changed_at-same id (port_after_grant number session []) (λ port. refl) ports) refl
undone-granted number session id frames high ports (Some port) e rise =
    let given = longest_fitting (space_of port) frames in
    let change = port_after_grant number session given in
    let p = open-place ports high id port rise e in
    let sum = sum-set undone_of ports p.place port (change port) p.here in
    let lot = with_lot-undone number session given port.line in
    let same = ap (sum_by undone_of) (p.changes change) in
    omega arith

promised_grant :
    (s : Standing) (origin : ℕ) (offer : Offer) → first_offer s.world origin ≡ Some offer
    → Numbered s
    → PromisedNext s.world (grant_step s offer)
promised_grant s origin offer e n =
    let w = s.world in
    let change = port_after_grant (w.entry_count + 1) offer.session (granted_frames w offer) in
    let mine : offer.origin ≡ origin =
    eqb-true offer.origin origin (place-of (is_offer_of origin) w.offers offer e).passes in
    let fewer = length-without_first origin w.offers offer e in
    let same = ap (λ (k : ℕ). length (without_first k w.offers)) mine in
    let owed = sum-changed_at owed_by_port offer.to change (λ port. refl) w.ports in
    let undone =
    undone-granted (w.entry_count + 1) offer.session offer.to offer.frames w.entry_count w.ports
    (open_port w.ports offer.to) refl n.ports_rise in
    omega arith

-- Done
marked-undone :
    (number : ℕ) (lot : Lot) (mine done : Bool) → (lot.number == number) ≡ mine → lot.is_done ≡ done
    → cond {A = ℕ} (is_undone lot) 1 0
    ≡ cond (is_undone (done_if mine lot)) 1 0 + cond (mine && is_undone lot) 1 0
marked-undone number lot true true t d = rw d refl
marked-undone number lot true false t d = rw d refl
marked-undone number lot false done t d = omega arith

undone-marked : (number : ℕ) (line : List Lot)
    → count_by is_undone line
    ≡ count_by is_undone (map (lot_after_done number) line) + count_by (is_lease number) line
undone-marked number line =
    let sum =
    sum-add (λ (lot : Lot). cond (is_undone (lot_after_done number lot)) 1 0)
    (λ (lot : Lot). cond (is_lease number lot) 1 0) (λ (lot : Lot). cond (is_undone lot) 1 0)
    (λ lot. marked-undone number lot (lot.number == number) lot.is_done refl refl) line in
    let same =
    sum-map_same (λ (lot : Lot). cond (is_undone lot) 1 0)
    (λ (lot : Lot). cond (is_undone (lot_after_done number lot)) 1 0) (lot_after_done number)
    (λ lot. refl) line in
    omega arith

abbrev leases_of : ℕ → Port → ℕ
leases_of number port = count_by (is_lease number) port.line

find-count_by :
    {X : Type 0} (test : X → Bool) (y : X) (ys : List X) (here : Bool) (x : X)
    → (find test ys ≡ Some x → 1 ≤ count_by test ys)
    → cond here (Some y) (find test ys) ≡ Some x
    → 1 ≤ cond here 1 0 + count_by test ys
find-count_by test y ys true x later e = omega arith
find-count_by test y ys false x later e = let rest = later e in omega arith

find-count :
    {X : Type 0} (test : X → Bool) (xs : List X) (x : X) → find test xs ≡ Some x
    → 1 ≤ count_by test xs
find-count test [] x e = absurd cc
find-count test (y ∷ ys) x e =
    let sum : count_by test (y ∷ ys) ≡ cond (test y) 1 0 + count_by test ys =
    sum_by-cons (λ z. cond (test z) 1 0) y ys in
    let least = find-count_by test y ys (test y) x (find-count test ys x) e in
    omega arith

lease-bears : (mine undone : Bool) → cond {A = ℕ} (mine && undone) 1 0 ≤ cond mine 1 0
lease-bears true true = omega arith
lease-bears true false = omega arith
lease-bears false undone = omega arith

-- exactly one lot is the lease
pub one-lease :
    (ports : List Port) (number : ℕ) (lot : Lot) → lease_at ports number ≡ Some lot
    → AreSingle ports → sum_by (leases_of number) ports ≡ 1
one-lease ports number lot e single =
    let least = find-count (is_lease number) (flat_map line_of ports) lot e in
    let sum : count_by (is_lease number) (flat_map line_of ports)
    ≡ sum_by (leases_of number) ports =
    sum-flat_map (λ (l : Lot). cond (is_lease number l) 1 0) line_of ports in
    let most : sum_by (leases_of number) ports ≤ sum_by
    (λ (port : Port). count_by (bears_number number) port.line) ports =
    sum_by-le-sum_by (leases_of number) (λ (port : Port). count_by (bears_number number) port.line)
    ports
    (λ port.
    sum_by-le-sum_by (λ (l : Lot). cond (is_lease number l) 1 0)
    (λ (l : Lot). cond (bears_number number l) 1 0) port.line
    (λ l. lease-bears (l.number == number) (not l.is_done))) in
    let once = single number in
    omega arith

promised_done :
    (s : Standing) (number : ℕ) (lot : Lot) → lease_at s.world.ports number ≡ Some lot → Single s
    → PromisedNext s.world (done_step s number lot)
promised_done s number lot e single =
    let ports = s.world.ports in
    let one = one-lease ports number lot e single in
    let parts =
    sum-add (λ (port : Port). undone_of (port_after_done number port)) (leases_of number) undone_of
    (λ port. undone-marked number port.line) ports in
    let undone =
    sum-map_same undone_of (λ (port : Port). undone_of (port_after_done number port))
    (port_after_done number) (λ port. refl) ports in
    let owed =
    sum-map_same owed_by_port owed_by_port (port_after_done number) (λ port. refl) ports in
    omega arith

-- Sync
ready_by :
    (lot : Lot) (rest : List Lot) (done : Bool) → lot.is_done ≡ done → count_by is_undone rest ≡ 0
    → count_by is_undone (cond done (lot ∷ rest) []) ≡ 0
ready_by lot rest true d none =
    let sum : count_by is_undone (lot ∷ rest) ≡ cond (is_undone lot) 1 0 + count_by is_undone rest =
    sum_by-cons (λ (l : Lot). cond (is_undone l) 1 0) lot rest in
    let here : cond {A = ℕ} (is_undone lot) 1 0 ≡ 0 = rw d refl in
    omega arith
ready_by lot rest false d none = refl

pub ready-undone : (line : List Lot) → count_by is_undone (take_while is_done_lot line) ≡ 0
ready-undone [] = refl
ready-undone (lot ∷ lots) =
    ap (count_by is_undone) (take_while-cons is_done_lot lot lots) ∙ ready_by lot
    (take_while is_done_lot lots) lot.is_done refl (ready-undone lots)

undone-synced :
    (returned : ℕ) (port : Port) → undone_of (port_after_sync returned port) ≡ undone_of port
undone-synced returned port =
    let cut = ap (count_by is_undone) (front-rest (prefix_len is_done_lot port.line) port.line) in
    let parts =
    sum_by-append (λ (lot : Lot). cond (is_undone lot) 1 0) (ready_lots port)
    (drop (length (ready_lots port)) port.line) in
    let none = ready-undone port.line in
    omega arith

promised_sync :
    (s : Standing) (back : List ℕ) (port : Port) → PromisedNext s.world (sync_step s back port)
promised_sync s back port =
    let new = offers_of_sync s.world port in
    let all = length-append s.world.offers new in
    let dests = length-map new dest_of in
    let undone =
    sum-changed_at undone_of port.id (port_after_sync (length back)) (undone-synced (length back))
    s.world.ports in
    let owed =
    sum-changed_at owed_by_port port.id (port_after_sync (length back)) (λ p. refl) s.world.ports in
    omega arith

-- Shut, Finish and Leave were promised
promised_shut :
    (s : Standing) (id : ℕ) (port : Port) → open_port s.world.ports id ≡ Some port → Numbered s
    → PromisedNext s.world (shut_step s port)
promised_shut s id port e n =
    let w = s.world in
    let p = open-place w.ports w.entry_count id port n.ports_rise e in
    let owed = sum-set owed_by_port w.ports p.place port (shut port) p.here in
    let same =
    ap (sum_by owed_by_port)
    (changed_at-place shut w.ports w.entry_count p.place port n.ports_rise p.here) in
    let before : owed_by_port port ≡ 2 = rw p.shutting_is refl in
    let undone = sum-changed_at undone_of port.id shut (λ q. refl) w.ports in
    omega arith

promised_finish :
    (s : Standing) (bufs : List ℕ) (id : ℕ) (port : Port)
    → shutting_port s.world.ports id ≡ Some port → leases_out port ≡ 0 → Numbered s
    → PromisedNext s.world (finish_step s bufs port)
promised_finish s bufs id port e out n =
    let w = s.world in
    let p = shutting-place w.ports w.entry_count id port n.ports_rise e in
    let owed = sum-remove owed_by_port w.ports p.place port p.here in
    let undone = sum-remove undone_of w.ports p.place port p.here in
    let owed_same = ap (sum_by owed_by_port) p.goes in
    let undone_same = ap (sum_by undone_of) p.goes in
    let before : owed_by_port port ≡ 1 = rw p.shutting_is refl in
    omega arith

promised_leave :
    (s : Standing) (session : ℕ) → CanLeave s.world session → Numbered s
    → PromisedNext s.world (leave_step s session)
promised_leave s session can n =
    let w = s.world in
    let p = number-place w.sessions session can.found in
    let fewer = length-remove_at w.sessions p.place session p.here in
    let same =
    ap (λ (ks : List ℕ). length ks)
    (filter-at_number w.sessions w.entry_count p.place session n.sessions_rise p.here) in
    omega arith

-- Put
with_lot-done :
    (number session : ℕ) (frames : List Frame) (line : List Lot)
    → count_by is_undone (with_lot number session true frames line) ≡ count_by is_undone line
with_lot-done number session [] line = refl
with_lot-done number session (frame ∷ frames) line =
    let sum :
    count_by is_undone (with_lot number session true (frame ∷ frames) line)
    ≡ count_by is_undone line + 0 =
    sum_by_push (λ (lot : Lot). cond (is_undone lot) 1 0) line _ in
    omega (arith, sum)

promised_put :
    (s : Standing) (items : List Item) (port peer : Port)
    → PromisedNext s.world (put_step s items port peer)
promised_put s items port peer =
    let frames = frames_of_items items in
    let new = offers_of_put s.world port frames in
    let change = port_after_put (s.world.entry_count + 1) port.session frames in
    let all = length-append s.world.offers new in
    let dests = length-map new dest_of in
    let undone =
    sum-changed_at undone_of peer.id change
    (λ p. with_lot-done (s.world.entry_count + 1) port.session frames p.line) s.world.ports in
    let owed = sum-changed_at owed_by_port peer.id change (λ p. refl) s.world.ports in
    omega (arith, all, dests, undone, owed)

promised_kinds :
    (s : Standing) → Numbered s → Single s → EachKind s (λ ask made. PromisedNext s.world made)
promised_kinds s n single = record {
  enters = λ user fits. promised_enter s;
  quiet = λ ask session reply quiet. omega arith;
  opens = λ session name tx rx extra can refusal. promised_open s session.0 name tx rx extra;
  sends = λ from frames port e can settled. promised_send s frames port;
  grants = λ origin to offer first same. promised_grant s origin offer first n;
  completes = λ lease lot e. promised_done s lease.0 lot e single;
  receives = λ ask at back port receives e can. promised_sync s back port;
  puts = λ at offered items port peer e can found. promised_put s items port peer;
  watches = λ at target sides port found e can there none. omega arith;
  shuts = λ at port e settled. promised_shut s at.0 port e n;
  finishes = λ at bufs chain port fits e can out. promised_finish s bufs at.0 port e out n;
  leaves = λ session can. promised_leave s session.0 can n;
}

pub promised_entry :
    (s : Standing) (e : Entry) (made : Outcome) → Numbered s → Single s
    → recorded_step s e.ask e.reply ≡ Some made → IsPromised s.world (after s e).world made
promised_entry s e made n single is =
    let all =
    recorded-by s (λ ask made. PromisedNext s.world made) e.ask e.reply (promised_kinds s n single)
    in
    let here : PromisedNext s.world made = subst (IfMade (PromisedNext s.world)) is all in
    subst (λ (o : Option Outcome). IsPromised s.world (standing_after s e o).world made) (sym is)
    here
