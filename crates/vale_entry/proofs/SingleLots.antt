-- No two lots bear one number: an entry grants at most one lot.
use Rattle.std.proofs.Common.{ℕ, ◌+◌, ◌<◌, ◌≤◌, ◌≡◌, Bool, true, false, cond, not, ◌==◌, List, [], ◌∷◌, ◌++◌, map, length, sum_by, count_by, Option, Some, None, refl, ◌∙◌, arith, slice_set, subst}
use Rattle.std.specs.List.{AllByRecursion as Each}
use Rattle.std.proofs.lemmas.List.Sums.{sum_by-cons, sum_by_push, sum_by-take-drop}
use Rattle.std.proofs.lemmas.Bool.{eqb-true, ne_eqb}
use Rattle.nm_types.specs.Frames.{Frame}
use Rattle.vale_entry.specs.declared.entry.Entry.{Entry}
use Rattle.vale_entry.specs.World.{Port, Lot, Offer, open_port, changed_at, space_of, changed_if}
use Rattle.vale_entry.specs.Opening.{opened_port}
use Rattle.vale_entry.specs.Grant.{with_lot, port_after_grant, given_at, longest_fitting}
use Rattle.vale_entry.specs.Delivery.{ready_lots, done_if, lot_after_done, port_after_done, port_after_sync}
use Rattle.vale_entry.specs.Closing.{shut}
use Rattle.vale_entry.specs.Legal.{Standing, Outcome, after, open_step_by, grant_step, sync_step, shut_step, finish_step, done_step, put_step}
use Rattle.vale_entry.specs.Laws.{Rise, id_of_port, HasLotsUpTo, bears_number, AreSingle}
use Rattle.vale_entry.specs.Pipe.{peer_of, frames_of_items, port_after_put}
use Rattle.vale_entry.specs.declared.entry.Item.{Item}
use Rattle.vale_entry.proofs.Follows.{EachKind, after-by}
use Rattle.vale_entry.proofs.ListLaws.{sum-set, sum-map_same}
use Rattle.vale_entry.proofs.Each.{changed_at-same, sum-changed_at}
use Rattle.vale_entry.proofs.Removals.{sum-filter_less}
use Rattle.vale_entry.proofs.Places.{open-place, peer-place}
use Rattle.vale_entry.proofs.Numbered.{Numbered}

abbrev pub Single : Standing → Type 0
Single s = AreSingle s.world.ports

abbrev SingleNext : Outcome → Type 0
SingleNext made = Single made.next

-- how many lots of a port bear a number
abbrev lots_of : ℕ → Port → ℕ
lots_of number port = count_by (bears_number number) port.line

none-later :
    (number count : ℕ) → count < number → (line : List Lot)
    → Each (λ (lot : Lot). lot.number ≤ count) line
    → count_by (bears_number number) line ≡ 0
none-later number count later [] all = refl
none-later number count later (lot ∷ lots) all =
    let bound : lot.number ≤ count = all.0 in
    let miss : (lot.number == number) ≡ false = ne_eqb lot.number number (λ e. omega arith) in
    let rest = none-later number count later lots all.1 in
    let sum : count_by (bears_number number) (lot ∷ lots)
    ≡ cond (lot.number == number) 1 0 + count_by (bears_number number) lots =
    sum_by-cons (λ (l : Lot). cond (bears_number number l) 1 0) lot lots in
    sum ∙ rw miss (omega arith)

none-of_ports :
    (number count : ℕ) → count < number → (ports : List Port) → Each (HasLotsUpTo count) ports
    → sum_by (lots_of number) ports ≡ 0
none-of_ports number count later [] all = refl
none-of_ports number count later (port ∷ ports) all =
    let here = none-later number count later port.line all.0 in
    let rest = none-of_ports number count later ports all.1 in
    let sum = sum_by-cons (lots_of number) port ports in
    omega arith

with_lot-count : (k number session : ℕ) (done : Bool) (given : List Frame) (line : List Lot)
    → count_by (bears_number k) (with_lot number session done given line) ≤ count_by
    (bears_number k) line
    + cond (number == k) 1 0
with_lot-count k number session done [] line = omega arith
with_lot-count k number session done (frame ∷ frames) line =
    let sum =
    sum_by_push (λ (lot : Lot). cond (bears_number k lot) 1 0) line
    (record { number = number; session = session; frames = frame ∷ frames; is_done = done }) in
    omega arith

single_by :
    (k number old new before more : ℕ) (mine : Bool) → (number == k) ≡ mine → (number ≡ k → old ≡ 0)
    → old ≤ 1 → new + before ≡ old + more
    → more ≤ before + cond mine 1 0 → new ≤ 1
single_by k number old new before more true t none once sum few =
    let zero' : old ≡ 0 = none (eqb-true number k t) in omega arith
single_by k number old new before more false t none once sum few = omega arith

single-granted :
    (number session id : ℕ) (frames : List Frame) (count : ℕ) (ports : List Port) (at : Option Port)
    → open_port ports id ≡ at
    → count < number
    → Rise 0 (map id_of_port ports) count → Each (HasLotsUpTo count) ports → AreSingle ports
    → AreSingle (changed_at id (port_after_grant number session (given_at at frames)) ports)
single-granted number session id frames count ports None e later rise lots single =
    rw (changed_at-same id (port_after_grant number session []) (λ port. refl) ports) single
single-granted number session id frames count ports (Some port) e later rise lots single =
    let given = longest_fitting (space_of port) frames in
    let change = port_after_grant number session given in
    let p = open-place ports count id port rise e in
    rw (p.changes change) (λ k.
    single_by k number (sum_by (lots_of k) ports)
    (sum_by (lots_of k) (slice_set ports p.place (change port))) (lots_of k port)
    (lots_of k (change port)) (number == k) refl
    (λ same. none-of_ports k count (subst (λ (j : ℕ). count < j) same later) ports lots) (single k)
    (sum-set (lots_of k) ports p.place port (change port) p.here)
    (with_lot-count k number session false given port.line))

single_open :
    (s : Standing) (session : ℕ) (name : List ℕ) (tx rx extra : ℕ) → Single s
    → SingleNext (open_step_by None s session name tx rx extra)
single_open s session name tx rx extra single = λ k.
    let sum : sum_by (lots_of k)
    (s.world.ports ++ opened_port (s.world.entry_count + 1) session name tx rx extra ∷ [])
    ≡ sum_by (lots_of k) s.world.ports + 0 =
    sum_by_push (lots_of k) s.world.ports
    (opened_port (s.world.entry_count + 1) session name tx rx extra) in
    let once = single k in
    omega arith

single_grant :
    (s : Standing) (offer : Offer) → Numbered s → Single s → SingleNext (grant_step s offer)
single_grant s offer n single =
    let w = s.world in
    let later : w.entry_count < w.entry_count + 1 = omega arith in
    single-granted (w.entry_count + 1) offer.session offer.to offer.frames w.entry_count w.ports
    (open_port w.ports offer.to) refl later n.ports_rise n.lots_within single

single_put :
    (s : Standing) (items : List Item) (port peer : Port) → peer_of s.world.ports port ≡ Some peer
    → Numbered s → Single s → SingleNext (put_step s items port peer)
single_put s items port peer found n single =
    let w = s.world in
    let number = w.entry_count + 1 in
    let later : w.entry_count < number = omega arith in
    let change = port_after_put number port.session (frames_of_items items) in
    let p = peer-place w.ports w.entry_count port peer n.ports_rise found in
    rw (p.changes change) (λ k.
    single_by k number (sum_by (lots_of k) w.ports)
    (sum_by (lots_of k) (slice_set w.ports p.place (change peer))) (lots_of k peer)
    (lots_of k (change peer)) (number == k) refl
    (λ same.
    none-of_ports k w.entry_count (subst (λ (j : ℕ). w.entry_count < j) same later) w.ports
    n.lots_within) (single k)
    (sum-set (lots_of k) w.ports p.place peer (change peer) p.here)
    (with_lot-count k number port.session true (frames_of_items items) peer.line))

done-same_number :
    (k : ℕ) (b : Bool) (lot : Lot)
    → cond {A = ℕ} (bears_number k (done_if b lot)) 1 0 ≡ cond (bears_number k lot) 1 0
done-same_number k true lot = refl
done-same_number k false lot = refl

single_done :
    (s : Standing) (number : ℕ) (lot : Lot) → Single s → SingleNext (done_step s number lot)
single_done s number lot single = λ k.
    let same = sum-map_same (lots_of k) (lots_of k) (port_after_done number)
    (λ port.
    sum-map_same (λ (l : Lot). cond (bears_number k l) 1 0)
    (λ (l : Lot). cond (bears_number k l) 1 0) (lot_after_done number)
    (λ l. done-same_number k (l.number == number) l) port.line) s.world.ports in
    let once = single k in
    omega arith

-- a sync takes lots away
sum-map_less :
    {X : Type 0} (f : X → ℕ) (change : X → X) → ((x : X) → f (change x) ≤ f x) → (xs : List X)
    → sum_by f (map change xs) ≤ sum_by f xs
sum-map_less f change less [] = omega arith
sum-map_less f change less (x ∷ xs) =
    let here = less x in
    let rest = sum-map_less f change less xs in
    let old = sum_by-cons f x xs in
    let new = sum_by-cons f (change x) (map change xs) in
    omega arith

changed-less :
    (f : Port → ℕ) (b : Bool) (change : Port → Port) (port : Port) → f (change port) ≤ f port
    → f (changed_if b change port) ≤ f port
changed-less f true change port less = less
changed-less f false change port less = omega arith

single_sync :
    (s : Standing) (back : List ℕ) (port : Port) → Single s → SingleNext (sync_step s back port)
single_sync s back port single = λ k.
    let less = sum-map_less (lots_of k)
    (λ (p : Port). changed_if (p.id == port.id) (port_after_sync (length back)) p)
    (λ p. changed-less (lots_of k) (p.id == port.id) (port_after_sync (length back)) p (fewer k p))
    s.world.ports in
    let once = single k in
    omega arith
  where
    fewer : (k : ℕ) (p : Port) → lots_of k (port_after_sync (length back) p) ≤ lots_of k p
    fewer k p =
        let cut = sum_by-take-drop (λ (l : Lot). cond (bears_number k l) 1 0) p.line
        (length (ready_lots p)) in omega arith

single_shut : (s : Standing) (port : Port) → Single s → SingleNext (shut_step s port)
single_shut s port single = λ k.
    let same = sum-changed_at (lots_of k) port.id shut (λ p. refl) s.world.ports in
    let once = single k in
    omega arith

single_finish :
    (s : Standing) (bufs : List ℕ) (port : Port) → Single s → SingleNext (finish_step s bufs port)
single_finish s bufs port single = λ k.
    let less = sum-filter_less (lots_of k) (λ (p : Port). not (p.id == port.id)) s.world.ports in
    let once = single k in
    omega arith

single_kinds : (s : Standing) → Numbered s → Single s → EachKind s (λ ask made. SingleNext made)
single_kinds s n single = record {
  enters = λ user fits. single;
  leaves = λ session can. single;
  quiet = λ ask session reply quiet. single;
  opens = λ session name tx rx extra can refusal. single_open s session.0 name tx rx extra single;
  sends = λ from frames port e can settled. single;
  grants = λ origin to offer first same. single_grant s offer n single;
  completes = λ lease lot e. single_done s lease.0 lot single;
  receives = λ ask at back port receives e can. single_sync s back port single;
  puts = λ at offered items port peer e can found. single_put s items port peer found n single;
  watches = λ at target sides port found e can there none. single;
  shuts = λ at port e settled. single_shut s port single;
  finishes = λ at bufs chain port fits e can out. single_finish s bufs port single;
}

pub single_entry : (s : Standing) (e : Entry) → Numbered s → Single s → Single (after s e)
single_entry s e n single = after-by s Single e single (single_kinds s n single)
