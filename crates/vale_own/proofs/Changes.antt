-- What the changes of ports by another session leave: the ports of a session and its leases.
use Rattle.std.proofs.Common.{ℕ, zero, suc, ◌+◌, ◌≡◌, ◌≢◌, Bool, true, false, not, ◌&&◌, ◌==◌, List, [], ◌∷◌, ◌++◌, map, filter, drop, take, length, count_by, take_while, append-nil, refl, sym, ◌∙◌, ap, arith}
use Rattle.std.specs.List.{AllByRecursion as Each, zip, prefix_len}
use Rattle.std.proofs.lemmas.List.Sums.{sum_by-cons}
use Rattle.std.proofs.lemmas.List.Elements.{filter-append}
use Rattle.std.proofs.lemmas.Bool.{eqb-true, ne_eqb}
use Rattle.std.proofs.Math.Bool.{and-false}
use Rattle.nm_types.specs.Frames.{Frame, slots_of, size_of_frames}
use Rattle.nm_types.proofs.PartLemmas.{slots-some}
use Rattle.vale_entry.specs.World.{Port, Lot, changed_at, is_owed_by, is_undone}
use Rattle.vale_entry.specs.Grant.{with_lot}
use Rattle.vale_entry.specs.Delivery.{is_done_lot, lot_after_done}
use Rattle.vale_entry.specs.Closing.{is_port_of, ports_without}
use Rattle.vale_entry.specs.declared.entry.Item.{Item}
use Rattle.vale_entry.specs.Pipe.{indices_of, frames_of_items}
use Rattle.vale_entry.specs.Holdings.{PortBuffers, with_lot_buffers, with_put_buffers}
use Rattle.vale_entry.specs.Laws.{bears_number}
use Rattle.vale_entry.proofs.Each.{each-weaker}
use Rattle.vale_own.specs.Own.{port_alone, is_lease_of}
use Rattle.vale_own.proofs.Lists.{filter-none}
use Rattle.vale_own.proofs.Single.{none-counted}
use Rattle.vale_own.proofs.Sides.{zip-none, zip-pushed, each-zip}

-- ports
pub ports-changed : (session id : ℕ) (change : Port → Port) → ((p : Port) → (change p).session ≡ p.session) → (ports : List Port)
    → Each (λ (p : Port). p.id ≡ id → p.session ≢ session) ports
    → filter (is_port_of session) (map port_alone (changed_at id change ports)) ≡ filter (is_port_of session) (map port_alone ports)
ports-changed session id change keeps [] all = refl
ports-changed session id change keeps (p ∷ ps) all = by (p.id == id) refl (ports-changed session id change keeps ps all.1)
  where
    by : (b : Bool) → (p.id == id) ≡ b → filter (is_port_of session) (map port_alone (changed_at id change ps)) ≡ filter (is_port_of session) (map port_alone ps)
        → filter (is_port_of session) (map port_alone (changed_at id change (p ∷ ps))) ≡ filter (is_port_of session) (map port_alone (p ∷ ps))
    by true t rest =
        let miss : (p.session == session) ≡ false = ne_eqb p.session session (all.0 (eqb-true p.id id t)) in
        rw (t, keeps p, miss, rest) refl
    by false t rest = rw (t, rest) refl

pub ports-without : (session id : ℕ) (ports : List Port) → Each (λ (p : Port). p.id ≡ id → p.session ≢ session) ports
    → filter (is_port_of session) (map port_alone (ports_without id ports)) ≡ filter (is_port_of session) (map port_alone ports)
ports-without session id [] all = refl
ports-without session id (p ∷ ps) all = by (p.id == id) refl (ports-without session id ps all.1)
  where
    by : (b : Bool) → (p.id == id) ≡ b → filter (is_port_of session) (map port_alone (ports_without id ps)) ≡ filter (is_port_of session) (map port_alone ps)
        → filter (is_port_of session) (map port_alone (ports_without id (p ∷ ps))) ≡ filter (is_port_of session) (map port_alone (p ∷ ps))
    by true t rest =
        let miss : (p.session == session) ≡ false = ne_eqb p.session session (all.0 (eqb-true p.id id t)) in
        rw (t, miss, rest) refl
    by false t rest = rw (t, rest) refl

-- leases: a lot more that the session does not owe
leases-pushed : (session : ℕ) (line : List Lot) (lots : List (List ℕ)) (lot : Lot) (buffers : List ℕ) → length line ≡ length lots → is_owed_by session lot ≡ false
    → filter (is_lease_of session) (zip (line ++ lot ∷ []) (lots ++ buffers ∷ [])) ≡ filter (is_lease_of session) (zip line lots)
leases-pushed session line lots lot buffers same miss =
    ap (filter (is_lease_of session)) (zip-pushed line lots lot buffers same)
    ∙ (filter-append (is_lease_of session) (zip line lots) ((lot, buffers) ∷ []) ∙ rw (miss, append-nil) refl)

-- the buffers of a lot that is granted or put, where that has frames
pub leases-with_lot : (session number by : ℕ) (done : Bool) (frames : List Frame) (line : List Lot) (held : PortBuffers) → length line ≡ length held.lots
    → ((by == session) && not done) ≡ false
    → filter (is_lease_of session) (zip (with_lot number by done frames line) (with_lot_buffers (size_of_frames frames) held).lots) ≡ filter (is_lease_of session) (zip line held.lots)
leases-with_lot session number by done [] line held same miss = refl
leases-with_lot session number by done (frame ∷ frames) line held same miss =
    let size : size_of_frames (frame ∷ frames) ≡ slots_of frame + size_of_frames frames = sum_by-cons slots_of frame frames in
    let first = slots-some (length frame.bytes) in
    let some : (size_of_frames (frame ∷ frames) == 0) ≡ false = ne_eqb (size_of_frames (frame ∷ frames)) 0 (λ e. omega arith) in
    let lot : Lot = record { number = number; session = by; frames = frame ∷ frames; is_done = done } in
    rw some (leases-pushed session line held.lots lot (take (size_of_frames (frame ∷ frames)) held.idle) same miss)

-- a lot that a Put brings is done when it is made
pub leases-put : (session number by : ℕ) (items : List Item) (line : List Lot) (held : PortBuffers) → length line ≡ length held.lots
    → filter (is_lease_of session) (zip (with_lot number by true (frames_of_items items) line) (with_put_buffers (indices_of items) held).lots) ≡ filter (is_lease_of session) (zip line held.lots)
leases-put session number by [] line held same = refl
leases-put session number by (item ∷ items) line held same =
    let some : (length (indices_of (item ∷ items)) == 0) ≡ false = ne_eqb (length (indices_of (item ∷ items))) 0 (λ e. omega arith) in
    let lot : Lot = record { number = number; session = by; frames = frames_of_items (item ∷ items); is_done = true } in
    rw some (leases-pushed session line held.lots lot (indices_of (item ∷ items)) same (and-false (by == session)))

-- another's lot is done
pub leases-done : (session number : ℕ) (lot : Lot) (line : List Lot) (lots : List (List ℕ)) → lot.session ≢ session → Each (λ (l : Lot). bears_number number l ≡ true → l ≡ lot) line
    → filter (is_lease_of session) (zip (map (lot_after_done number) line) lots) ≡ filter (is_lease_of session) (zip line lots)
leases-done session number lot [] lots other all = refl
leases-done session number lot (l ∷ line) [] other all = refl
leases-done session number lot (l ∷ line) (buffers ∷ lots) other all = by (l.number == number) refl (leases-done session number lot line lots other all.1)
  where
    by : (b : Bool) → (l.number == number) ≡ b → filter (is_lease_of session) (zip (map (lot_after_done number) line) lots) ≡ filter (is_lease_of session) (zip line lots)
        → filter (is_lease_of session) (zip (map (lot_after_done number) (l ∷ line)) (buffers ∷ lots)) ≡ filter (is_lease_of session) (zip (l ∷ line) (buffers ∷ lots))
    by true t rest =
        let miss : (l.session == session) ≡ false = rw (all.0 t) (ne_eqb lot.session session other) in
        rw (t, miss, rest) refl
    by false t rest = rw (t, rest) refl

-- the lots at the front that are done go
pub leases-ready : (session : ℕ) (line : List Lot) (lots : List (List ℕ))
    → filter (is_lease_of session) (zip (drop (length (take_while is_done_lot line)) line) (drop (length (take_while is_done_lot line)) lots)) ≡ filter (is_lease_of session) (zip line lots)
leases-ready session [] lots = refl
leases-ready session (lot ∷ line) [] = ap (filter (is_lease_of session)) (none (length (take_while is_done_lot (lot ∷ line))))
  where
    none : (n : ℕ) → zip (drop n (lot ∷ line)) (drop {A = List ℕ} n []) ≡ []
    none zero = refl
    none (suc n) = zip-none (drop n line)
leases-ready session (lot ∷ line) (buffers ∷ lots) = by lot.is_done refl (leases-ready session line lots)
  where
    by : (b : Bool) → lot.is_done ≡ b
        → filter (is_lease_of session) (zip (drop (length (take_while is_done_lot line)) line) (drop (length (take_while is_done_lot line)) lots)) ≡ filter (is_lease_of session) (zip line lots)
        → filter (is_lease_of session) (zip (drop (length (take_while is_done_lot (lot ∷ line))) (lot ∷ line)) (drop (length (take_while is_done_lot (lot ∷ line))) (buffers ∷ lots)))
        ≡ filter (is_lease_of session) (zip (lot ∷ line) (buffers ∷ lots))
    by true t rest =
        let long : length (take_while is_done_lot (lot ∷ line)) ≡ suc (length (take_while is_done_lot line)) =
        let one : 1 + prefix_len is_done_lot line ≡ suc (prefix_len is_done_lot line) = omega arith in rw (t, one) refl in
        let all : filter (is_lease_of session) (zip (lot ∷ line) (buffers ∷ lots)) ≡ filter (is_lease_of session) (zip line lots) = rw (t, and-false) refl in
        ap (λ (k : ℕ). filter (is_lease_of session) (zip (drop k (lot ∷ line)) (drop k (buffers ∷ lots)))) long ∙ (rest ∙ sym all)
    by false t rest = rw t refl

-- a port without a lot that is not done has no lease
pub leases-none : (session : ℕ) (line : List Lot) (lots : List (List ℕ)) → count_by is_undone line ≡ 0 → filter (is_lease_of session) (zip line lots) ≡ []
leases-none session line lots none =
    filter-none (is_lease_of session) (zip line lots)
    (each-zip (λ (lot : Lot). is_owed_by session lot ≡ false) line lots
    (each-weaker (λ (lot : Lot). is_undone lot ≡ false) (λ (lot : Lot). is_owed_by session lot ≡ false) (λ lot e. rw (e, and-false) refl) line (none-counted is_undone line (omega arith))))
