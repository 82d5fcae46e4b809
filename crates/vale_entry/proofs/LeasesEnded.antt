-- A lease that was granted stands until its one Done.
use Rattle.std.proofs.Common.{ℕ, ◌+◌, ◌≤◌, ◌≡◌, Bool, true, false, cond, not, ◌&&◌, ◌==◌, List, [], ◌∷◌, ◌++◌, length, drop, sum_by, count_by, Option, Some, None, refl, sym, ◌∙◌, ap, subst, arith, append-nil, append_assoc, length-append}
use Rattle.std.specs.List.{prefix_len}
use Rattle.std.proofs.lemmas.List.Sums.{sum_by-cons, sum_by-append, sum_by_push, sum_by-le-sum_by}
use Rattle.std.proofs.lemmas.Bool.{eqb-true, eq-eqb, ne_eqb}
use Rattle.nm_types.specs.Frames.{Frame}
use Rattle.nm_types.specs.declared.id.PortId.{PortId}
use Rattle.vale_entry.specs.declared.entry.Ask.{Ask}
use Rattle.vale_entry.specs.declared.entry.Ask.TheVariants.{Grant}
use Rattle.vale_entry.specs.declared.entry.Reply.{Reply}
use Rattle.vale_entry.specs.declared.entry.Reply.TheVariants.{Shared}
use Rattle.vale_entry.specs.declared.entry.Entry.{Entry}
use Rattle.vale_entry.specs.World.{World, Port, Lot, open_port, changed_at, space_of, is_undone}
use Rattle.vale_entry.specs.Opening.{opened_port}
use Rattle.vale_entry.specs.Grant.{longest_fitting, given_at, grant_reply_at, with_lot, port_after_grant}
use Rattle.vale_entry.specs.Delivery.{lease_at, is_lease, is_done_lot, ready_lots, lot_after_done, done_if, port_after_done, ports_after_done, port_after_sync}
use Rattle.vale_entry.specs.Closing.{shut, shutting_port, leases_out, ports_without}
use Rattle.vale_entry.specs.Pipe.{frames_of_items, port_after_put}
use Rattle.vale_entry.specs.Legal.{Standing, Outcome, unchanged, sync_step, standing_of, world_of, IsLegal, Follows}
use Rattle.vale_entry.specs.Laws.{Rise}
use Rattle.vale_entry.specs.Leases.{lease_of, leases_from, leases_granted, ended_in, leases_ended, times, leases_at, leases_standing}
use Rattle.vale_entry.specs.DeliveryLaws.{AreDoneOnce, LeasesAreDoneOnce}
use Rattle.vale_entry.proofs.ListLaws.{sum-set, sum-map_same, front-rest, sum-remove}
use Rattle.vale_entry.proofs.Each.{sum-changed_at, changed_at-same}
use Rattle.vale_entry.proofs.Places.{open-place, shutting-place}
use Rattle.vale_entry.proofs.Rising.{rise-wider, rise-push}
use Rattle.vale_entry.proofs.Worlds.{standing-push, count-world_of}
use Rattle.vale_entry.proofs.Told.{flat_map-push, history-by}
use Rattle.vale_entry.proofs.Numbered.{Numbered, world-numbered}
use Rattle.vale_entry.proofs.SingleLots.{Single}
use Rattle.vale_entry.proofs.Promised.{one-lease, ready-undone}
use Rattle.vale_entry.proofs.HistoryLaws.{history-stands}
use Rattle.vale_entry.proofs.Follows.{EachKind, Left, IsQuiet, refused_open, Receives, by_sync, by_get, entry_made, follows-by}

-- A number in lists.

times-one : (number n : ℕ) → times number (n ∷ []) ≡ cond (n == number) 1 0
times-one number n =
    let sum : times number (n ∷ []) ≡ cond (n == number) 1 0 + times number [] =
    sum_by-cons (λ (m : ℕ). cond (m == number) 1 0) n [] in
    let none : times number [] ≡ 0 = refl in
    omega (arith, sum, none)

times-append :
    (number : ℕ) (xs ys : List ℕ)
    → times number (xs ++ ys) ≡ times number xs + times number ys
times-append number xs ys = sum_by-append (λ (m : ℕ). cond (m == number) 1 0) xs ys

-- The leases that entries grant.

leases_from-push :
    (number : ℕ) (h : List Entry) (e : Entry)
    → leases_from number (h ++ e ∷ [])
    ≡ leases_from number h ++ lease_of (number + length h) e.ask e.reply
leases_from-push number [] e =
    let same : number ≡ number + length {A = Entry} [] = omega arith in
    append-nil (lease_of number e.ask e.reply) ∙ ap (λ (n : ℕ). lease_of n e.ask e.reply) same
leases_from-push number (x ∷ xs) e =
    let same : number + 1 + length xs ≡ number + length (x ∷ xs) = omega arith in
    ap (λ (ns : List ℕ). lease_of number x.ask x.reply ++ ns)
    (leases_from-push (number + 1) xs e
    ∙ ap (λ (n : ℕ). leases_from (number + 1) xs ++ lease_of n e.ask e.reply) same)
    ∙ sym
    (append_assoc (lease_of number x.ask x.reply) (leases_from (number + 1) xs)
    (lease_of (number + length (x ∷ xs)) e.ask e.reply))

rises-with :
    (ns : List ℕ) (count : ℕ) (ask : Ask) (reply : Reply) → Rise 0 ns count
    → Rise 0 (ns ++ lease_of (1 + count) ask reply) (count + 1)
rises-with ns count (Grant origin to) (Shared given full gone) r = by_test (given == 0)
  where
    by_test : (b : Bool) → Rise 0 (ns ++ cond b [] ((1 + count) ∷ [])) (count + 1)
    by_test true =
        rw (append-nil ns) (rise-wider 0 0 ns count (count + 1) (omega arith) (omega arith) r)
    by_test false =
        rise-wider 0 0 (ns ++ (1 + count) ∷ []) (1 + count) (count + 1) (omega arith) (omega arith)
        (rise-push 0 ns count (1 + count) (omega arith) r)
rises-with ns count _ _ r =
    rw (append-nil ns) (rise-wider 0 0 ns count (count + 1) (omega arith) (omega arith) r)

-- The leases of a line.

-- a lot more that is not done
lot_counted : (number k : ℕ) → cond {A = ℕ} ((k == number) && true) 1 0 ≡ cond (k == number) 1 0
lot_counted number k = by_test (k == number)
  where
    by_test : (b : Bool) → cond {A = ℕ} (b && true) 1 0 ≡ cond b 1 0
    by_test true = refl
    by_test false = refl

none_counted : (b : Bool) → cond {A = ℕ} (b && false) 1 0 ≡ 0
none_counted true = refl
none_counted false = refl

with_lot-granted : (number k session : ℕ) (given : List Frame) (line : List Lot)
    → count_by (is_lease number) (with_lot k session false given line)
    ≡ count_by (is_lease number) line + times number (cond (length given == 0) [] (k ∷ []))
with_lot-granted number k session [] line = omega arith
with_lot-granted number k session (frame ∷ frames) line =
    let some : (length (frame ∷ frames) == 0) ≡ false =
    ne_eqb (length (frame ∷ frames)) 0 (λ e. omega arith) in
    let sum : count_by (is_lease number) (with_lot k session false (frame ∷ frames) line)
    ≡ count_by (is_lease number) line + cond ((k == number) && true) 1 0 =
    sum_by_push (λ (lot : Lot). cond (is_lease number lot) 1 0) line _ in
    rw some (sum
    ∙ ap (λ (n : ℕ). count_by (is_lease number) line + n)
    (lot_counted number k ∙ sym (times-one number k)))

with_lot-put : (number k session : ℕ) (frames : List Frame) (line : List Lot)
    → count_by (is_lease number) (with_lot k session true frames line)
    ≡ count_by (is_lease number) line
with_lot-put number k session [] line = refl
with_lot-put number k session (frame ∷ frames) line =
    let sum : count_by (is_lease number) (with_lot k session true (frame ∷ frames) line)
    ≡ count_by (is_lease number) line + cond ((k == number) && false) 1 0 =
    sum_by_push (λ (lot : Lot). cond (is_lease number lot) 1 0) line _ in
    let none = none_counted (k == number) in
    omega (arith, sum, none)

-- the lot of a number that is done, and those of others
done_here : (number : ℕ) (lot : Lot) → cond {A = ℕ} (is_lease number (lot_after_done number lot)) 1 0 ≡ 0
done_here number lot = by_test (lot.number == number) refl
  where
    by_test :
        (b : Bool) → (lot.number == number) ≡ b
        → cond {A = ℕ} (is_lease number (done_if b lot)) 1 0 ≡ 0
    by_test true t = none_counted (lot.number == number)
    by_test false t = rw t refl

done_other :
    (number k : ℕ) (lot : Lot) → (k == number) ≡ false
    → cond {A = ℕ} (is_lease number (lot_after_done k lot)) 1 0 ≡ cond (is_lease number lot) 1 0
done_other number k lot other = by_test (lot.number == k) refl
  where
    by_test :
        (b : Bool) → (lot.number == k) ≡ b
        → cond {A = ℕ} (is_lease number (done_if b lot)) 1 0 ≡ cond (is_lease number lot) 1 0
    by_test true t =
        let miss : (lot.number == number) ≡ false =
        ap (λ (n : ℕ). n == number) (eqb-true lot.number k t) ∙ other in
        rw miss refl
    by_test false t = refl

no_sum : {X : Type 0} (xs : List X) → sum_by (λ (x : X). 0) xs ≡ 0
no_sum [] = refl
no_sum (x ∷ xs) = let rest = no_sum xs in let sum = sum_by-cons (λ y. 0) x xs in omega (arith, rest, sum)

ended_here : (number : ℕ) (ports : List Port)
    → leases_standing (ports_after_done number ports) number ≡ 0
ended_here number ports =
    sum-map_same (leases_at number) (λ (port : Port). 0) (port_after_done number)
    (λ port.
    sum-map_same (λ (lot : Lot). cond (is_lease number lot) 1 0) (λ (lot : Lot). 0)
    (lot_after_done number) (done_here number) port.line
    ∙ no_sum port.line) ports
    ∙ no_sum ports

ended_other : (number k : ℕ) (ports : List Port) → (k == number) ≡ false
    → leases_standing (ports_after_done k ports) number ≡ leases_standing ports number
ended_other number k ports other =
    sum-map_same (leases_at number) (leases_at number) (port_after_done k)
    (λ port.
    sum-map_same (λ (lot : Lot). cond (is_lease number lot) 1 0)
    (λ (lot : Lot). cond (is_lease number lot) 1 0) (lot_after_done k)
    (λ lot. done_other number k lot other) port.line) ports

-- where no lot is undone there is no lease
lease_undone : (mine undone : Bool) → cond {A = ℕ} (mine && undone) 1 0 ≤ cond undone 1 0
lease_undone true undone = omega arith
lease_undone false true = omega arith
lease_undone false false = omega arith

no_leases :
    (number : ℕ) (line : List Lot) → count_by is_undone line ≡ 0
    → count_by (is_lease number) line ≡ 0
no_leases number line none =
    let most : count_by (is_lease number) line ≤ count_by is_undone line =
    sum_by-le-sum_by (λ (lot : Lot). cond (is_lease number lot) 1 0)
    (λ (lot : Lot). cond (is_undone lot) 1 0) line
    (λ lot. lease_undone (lot.number == number) (not lot.is_done)) in
    omega (arith, most, none)

leases_synced : (number returned : ℕ) (port : Port)
    → leases_at number (port_after_sync returned port) ≡ leases_at number port
leases_synced number returned port =
    let cut =
    ap (count_by (is_lease number)) (front-rest (prefix_len is_done_lot port.line) port.line) in
    let parts =
    sum_by-append (λ (lot : Lot). cond (is_lease number lot) 1 0) (ready_lots port)
    (drop (length (ready_lots port)) port.line) in
    let none = no_leases number (ready_lots port) (ready-undone port.line) in
    omega arith

-- Each kind of entry.

-- what the entry ends, and what stands after it, is what stood and what it grants
abbrev Ends : ℕ → World → Entry → Standing → Type 0
Ends number w e left =
    times number (ended_in e) + leases_standing left.world.ports number
    ≡ leases_standing w.ports number + times number (lease_of (w.entry_count + 1) e.ask e.reply)

module _ (number : ℕ) (s : Standing) (n : Numbered s) (single : Single s) where
  abbrev w : World
  w = s.world

  abbrev standing : List Port → ℕ
  standing ports = leases_standing ports number

  still : (ports : List Port) → standing ports ≡ standing w.ports
      → times number [] + standing ports ≡ standing w.ports + times number []
  still ports same = omega (arith, same)

  grants :
      (id k session origin : ℕ) (to : PortId) (frames : List Frame) (at : Option Port)
      → open_port w.ports id ≡ at
      → times number [] + standing (changed_at id (port_after_grant k session (given_at at frames)) w.ports)
      ≡ standing w.ports + times number (lease_of k (Grant origin to) (grant_reply_at at frames))
  grants id k session origin to frames None e =
      still (changed_at id (port_after_grant k session []) w.ports)
      (ap standing (changed_at-same id (port_after_grant k session []) (λ port. refl) w.ports))
  grants id k session origin to frames (Some port) e =
      let given = longest_fitting (space_of port) frames in
      let change = port_after_grant k session given in
      let p = open-place w.ports w.entry_count id port n.ports_rise e in
      let sum = sum-set (leases_at number) w.ports p.place port (change port) p.here in
      let lot = with_lot-granted number k session given port.line in
      let same = ap standing (p.changes change) in
      omega arith

  -- an entry that ends no lease and grants none
  quiet :
      (ask : Ask) (session : ℕ) (reply : Reply) → IsQuiet s ask session reply
      → Ends number w (entry_made ask (unchanged s session reply)) s
  quiet _ _ _ (refused_open session name tx rx extra fault can e) = still w.ports refl
  quiet _ _ _ _ = still w.ports refl

  receives :
      (ask : Ask) (at : PortId) (back : List ℕ) (made : Outcome) (ports : List Port)
      → Receives ask at back → standing ports ≡ standing w.ports
      → times number (ended_in (entry_made ask made)) + standing ports
      ≡ standing w.ports + times number (lease_of (w.entry_count + 1) ask made.reply)
  receives _ _ _ made ports (by_sync at back) same = still ports same
  receives _ _ _ made ports (by_get at back) same = still ports same

  ends :
      (k : ℕ) (lot : Lot) → lease_at w.ports k ≡ Some lot
      → times number (k ∷ []) + standing (ports_after_done k w.ports)
      ≡ standing w.ports + times number []
  ends k lot e = by_test (k == number) refl
    where
      here :
          lease_at w.ports number ≡ Some lot
          → times number (number ∷ []) + standing (ports_after_done number w.ports)
          ≡ standing w.ports + times number []
      here e =
          let one : standing w.ports ≡ 1 = one-lease w.ports number lot e single in
          let none = ended_here number w.ports in
          let once : times number (number ∷ []) ≡ 1 =
          times-one number number
          ∙ ap (λ (b : Bool). cond {A = ℕ} b 1 0) (eq-eqb number number refl) in
          omega (arith, one, none, once)

      by_test :
          (b : Bool) → (k == number) ≡ b
          → times number (k ∷ []) + standing (ports_after_done k w.ports)
          ≡ standing w.ports + times number []
      by_test true t =
          let mine : k ≡ number = eqb-true k number t in
          subst
          (λ (m : ℕ).
          times number (m ∷ []) + standing (ports_after_done m w.ports)
          ≡ standing w.ports + times number []) (sym mine)
          (here (subst (λ (m : ℕ). lease_at w.ports m ≡ Some lot) mine e))
      by_test false t =
          let same = ended_other number k w.ports t in
          let other : times number (k ∷ []) ≡ 0 =
          times-one number k ∙ ap (λ (b : Bool). cond {A = ℕ} b 1 0) t in
          omega (arith, same, other)

  finishes :
      (id : ℕ) (port : Port) → shutting_port w.ports id ≡ Some port → leases_out port ≡ 0
      → standing (ports_without port.id w.ports) ≡ standing w.ports
  finishes id port e out =
      let p = shutting-place w.ports w.entry_count id port n.ports_rise e in
      let less = sum-remove (leases_at number) w.ports p.place port p.here in
      let same = ap standing p.goes in
      let none = no_leases number port.line out in
      omega arith

  kinds : EachKind s (Left s (Ends number w))
  kinds = record {
    enters = λ user fits. still w.ports refl;
    quiet = λ ask session reply here. quiet ask session reply here;
    opens = λ session name tx rx extra can refusal.
        let port = opened_port (w.entry_count + 1) session.0 name tx rx extra in
        let sum : standing (w.ports ++ port ∷ []) ≡ standing w.ports + 0 =
        sum_by_push (leases_at number) w.ports port in
        still (w.ports ++ port ∷ []) (omega (arith, sum));
    sends = λ from frames port e can settled. still w.ports refl;
    grants = λ origin to offer first same.
        grants offer.to (w.entry_count + 1) offer.session origin to offer.frames
        (open_port w.ports offer.to) refl;
    completes = λ lease lot e. ends lease.0 lot e;
    receives = λ ask at back port kind e can.
        receives ask at back (sync_step s back port)
        (changed_at port.id (port_after_sync (length back)) w.ports) kind
        (sum-changed_at (leases_at number) port.id (port_after_sync (length back))
        (leases_synced number (length back)) w.ports);
    puts = λ at offered items port peer e can found.
        let frames = frames_of_items items in
        let change = port_after_put (w.entry_count + 1) port.session frames in
        still (changed_at peer.id change w.ports)
        (sum-changed_at (leases_at number) peer.id change
        (λ p. with_lot-put number (w.entry_count + 1) port.session frames p.line) w.ports);
    watches = λ at target sides port found e can there none. still w.ports refl;
    shuts = λ at port e settled.
        still (changed_at port.id shut w.ports)
        (sum-changed_at (leases_at number) port.id shut (λ p. refl) w.ports);
    finishes = λ at bufs chain port fits e can out.
        still (ports_without port.id w.ports) (finishes at.0 port e out);
    leaves = λ session can. still w.ports refl;
  }

-- The law.

abbrev DoneOnce : ℕ → List Entry → Type 0
DoneOnce pool h =
    AreDoneOnce (length h) (leases_granted h) (leases_ended h)
    (leases_standing (world_of pool h).ports)

one_more :
    (pool : ℕ) (h : List Entry) (e : Entry) → IsLegal pool h → Follows (standing_of pool h) e
    → DoneOnce pool h → DoneOnce pool (h ++ e ∷ [])
one_more pool h e legal follows k =
    let s = standing_of pool h in
    let count : s.world.entry_count ≡ length h = count-world_of pool h in
    let granted : leases_granted (h ++ e ∷ []) ≡ leases_granted h ++ lease_of (1 + length h) e.ask e.reply =
    leases_from-push 1 h e in
    let ended = flat_map-push ended_in h e in
    let size : length (h ++ e ∷ []) ≡ length h + 1 = length-append h (e ∷ []) in
    let world = ap (λ (t : Standing). t.world.ports) (standing-push pool h e) in
    record {
      granted_once =
          subst (λ (ns : List ℕ). Rise 0 ns (length (h ++ e ∷ []))) (sym granted)
          (subst (λ (n : ℕ). Rise 0 (leases_granted h ++ lease_of (1 + length h) e.ask e.reply) n)
          (sym size) (rises-with (leases_granted h) (length h) e.ask e.reply k.granted_once));
      ended_or_standing = λ number.
          let here =
          follows-by s (Ends number s.world) e follows
          (kinds number s (world-numbered pool h) (history-stands pool h legal).single) in
          let before = k.ended_or_standing number in
          let all_ended =
          ap (times number) ended ∙ times-append number (leases_ended h) (ended_in e) in
          let next : s.world.entry_count + 1 ≡ 1 + length h = omega (arith, count) in
          let all_granted =
          ap (times number) granted
          ∙ (times-append number (leases_granted h) (lease_of (1 + length h) e.ask e.reply)
          ∙ ap (λ (n : ℕ). times number (leases_granted h) + times number (lease_of n e.ask e.reply))
          (sym next)) in
          let stand = ap (λ (ports : List Port). leases_standing ports number) world in
          omega (arith, here, before, all_ended, all_granted, stand);
    }

pub leases-done_once : LeasesAreDoneOnce
leases-done_once pool h legal =
    history-by pool (DoneOnce pool) (one_more pool)
    (record { granted_once = omega arith; ended_or_standing = λ number. refl }) h legal
