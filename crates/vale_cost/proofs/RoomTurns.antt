-- A turn of a user spends what its entry costs.
use Rattle.std.proofs.Common.{ℕ, ◌*◌, ◌≤◌, ◌≡◌, Bool, true, false, cond, not, List, [], ◌∷◌, length, Option, Some, None, option_map, refl, subst, arith}
use Rattle.std.specs.List.{list_all}
use Rattle.std.proofs.lemmas.Bool.{and_parts, leb-true}
use Rattle.std.proofs.lemmas.List.Sums.{sum_by-cons}
use Rattle.std.proofs.lemmas.Option.{same_Some}
use Rattle.std.specs.Prelude.{bytes_eq, option_and_then}
use Rattle.nm_types.specs.declared.id.PortId.{PortId}
use Rattle.nm_types.specs.declared.id.Side.{Side}
use Rattle.nm_types.specs.declared.id.Side.TheVariants.{Tx, Rx}
use Rattle.nm_types.specs.declared.fault.SyncFault.{SyncFault}
use Rattle.nm_types.specs.Names.{is_pipe_name}
use Rattle.nm_types.specs.Frames.{Frame, bytes_of_frames}
use Rattle.nm_types.specs.Sendable.{fits_buffer}
use Rattle.nm_types.specs.Slots.{pushed_frames}
use Rattle.nm_types.specs.OwnPorts.{OwnRing, OwnPort, OwnState, bytes_at, pushed_in, refusal_in, port_with_id, port_with_name}
use Rattle.nm_types.specs.OwnEdits.{has_slots}
use Rattle.nm_types.specs.Parts.{slots_of_bytes}
use Rattle.vale_entry.specs.declared.entry.Ask.{Ask}
use Rattle.vale_entry.specs.declared.entry.Ask.TheVariants.{Send, Sync, Put, Get}
use Rattle.vale_entry.specs.declared.entry.Entry.{Entry}
use Rattle.vale_entry.specs.declared.entry.Item.{Item}
use Rattle.vale_entry.specs.declared.entry.Reply.{Reply}
use Rattle.vale_entry.specs.Arrivals.{arrivals_of}
use Rattle.vale_entry.specs.Pipe.{frames_of_items, is_pipe_item}
use Rattle.vale_entry.specs.OwnCalls.{or_reset, offered_items, back_in, tx_call, rx_call}
use Rattle.vale_entry.specs.Legal.{Standing, Outcome, IsLegal, standing_of, step, kept_ask, unchanged, sync_step}
use Rattle.vale_entry.proofs.Each.{each-find}
use Rattle.vale_entry.proofs.Follows.{EachKind, IsQuiet, Receives, by_sync, by_get, refused_open, resets, finds_no_peer, finds_no_target, finds_watched, counts, IfMade, recorded-by}
use Rattle.vale_entry.proofs.HistoryLaws.{history-stands}
use Rattle.vale_own.proofs.Rooms.{step-recorded}
use Rattle.vale_own.proofs.SideArrivals.{lent-count}
use Rattle.vale_own.proofs.SideSound.{each-found}
use Rattle.vale_replay.specs.Machine.{is_settling, put_call, room_call, send_call}
use Rattle.vale_cost.specs.Completeness.{calls_of_ask, opened_by}
use Rattle.vale_cost.proofs.RoomViews.{AreTidy, views, ids-seen}
use Rattle.vale_cost.proofs.RoomOwn.{BringsKept}

-- ---- ports by name and by id

pub by-id : (own : OwnState) (name : List ℕ) (p : OwnPort) → AreTidy (views own) → port_with_name own name ≡ Some p → port_with_id own p.id.0 ≡ Some p
by-id own name p tidy named =
    each-find (λ (q : OwnPort). port_with_id own q.id.0 ≡ Some q) (λ (q : OwnPort). bytes_eq name q.name) own.ports p (each-found own.ports (rw (← ids-seen own.ports) tidy.apart)) named

-- ---- the calls of syncs

pub record IsSync (ask : Ask) : Type 0 where
  pub settles : is_settling (kept_ask ask) ≡ false
  pub calls : calls_of_ask (kept_ask ask) ≡ 3
  pub opens : (switch : List ℕ) (reply : Reply) → opened_by switch (kept_ask ask) reply ≡ 0

sync-by : (fault : Option SyncFault) (id : PortId) (side : Side) (b : Bool) (one other : Ask) → IsSync one → IsSync other → IsSync (or_reset fault id side (cond b one other))
sync-by None id side true one other front back = front
sync-by None id side false one other front back = back
sync-by (Some fault) id side b one other front back = record { settles = refl; calls = refl; opens = λ switch reply. refl }

pub tx-sync : (own : OwnState) (p : OwnPort) (r : OwnRing) → IsSync (tx_call own p r)
tx-sync own p r =
    sync-by (refusal_in Tx own p r) p.id Tx (is_pipe_name p.name) (Put p.id (offered_items own r)) (Send p.id (pushed_frames (bytes_at own) (pushed_in Tx r)))
    (record { settles = refl; calls = refl; opens = λ switch reply. refl }) (record { settles = refl; calls = refl; opens = λ switch reply. refl })

pub rx-sync : (own : OwnState) (p : OwnPort) → IsSync (rx_call own p)
rx-sync own p =
    sync-by (refusal_in Rx own p p.rx) p.id Rx (is_pipe_name p.name) (Get p.id (back_in p)) (Sync p.id (back_in p)) (record { settles = refl; calls = refl; opens = λ switch reply. refl }) (record { settles = refl; calls = refl; opens = λ switch reply. refl })

pub record TxOf (own : OwnState) (name : List ℕ) (ask : Ask) : Type 0 where
  pub port : OwnPort
  pub named : port_with_name own name ≡ Some port
  pub ring : OwnRing
  pub has : port.tx ≡ Some ring
  pub is : tx_call own port ring ≡ ask

tx-of : (own : OwnState) (name : List ℕ) (ask : Ask) (call : OwnPort → OwnRing → Option Ask) → ((p : OwnPort) (r : OwnRing) → call p r ≡ Some ask → tx_call own p r ≡ ask)
    → option_and_then (λ (p : OwnPort). option_and_then (call p) p.tx) (port_with_name own name) ≡ Some ask → TxOf own name ask
tx-of own name ask call is e = by (port_with_name own name) refl e
  where
    by-ring : (p : OwnPort) (tx : Option OwnRing) → port_with_name own name ≡ Some p → p.tx ≡ tx → option_and_then (call p) tx ≡ Some ask → TxOf own name ask
    by-ring p None named has e' = absurd cc
    by-ring p (Some r) named has e' = record { port = p; named = named; ring = r; has = has; is = is p r e' }

    by : (found : Option OwnPort) → port_with_name own name ≡ found → option_and_then (λ (p : OwnPort). option_and_then (call p) p.tx) found ≡ Some ask → TxOf own name ask
    by None named e' = absurd cc
    by (Some p) named e' = by-ring p p.tx named refl e'

pub put-of : (own : OwnState) (name bytes : List ℕ) (ask : Ask) → option_and_then (put_call own bytes) (port_with_name own name) ≡ Some ask → TxOf own name ask
put-of own name bytes ask e = tx-of own name ask (room_call own bytes) (λ p r. room p r (has_slots (slots_of_bytes bytes) r)) e
  where
    room : (p : OwnPort) (r : OwnRing) (b : Bool) → cond b None (Some (tx_call own p r)) ≡ Some ask → tx_call own p r ≡ ask
    room p r true e' = absurd cc
    room p r false e' = same_Some (tx_call own p r) ask e'

pub send-of : (own : OwnState) (name : List ℕ) (ask : Ask) → option_and_then (send_call own) (port_with_name own name) ≡ Some ask → TxOf own name ask
send-of own name ask e = by (port_with_name own name) refl e
  where
    by-ring : (p : OwnPort) (tx : Option OwnRing) → port_with_name own name ≡ Some p → p.tx ≡ tx → option_map (tx_call own p) tx ≡ Some ask → TxOf own name ask
    by-ring p None named has e' = absurd cc
    by-ring p (Some r) named has e' = record { port = p; named = named; ring = r; has = has; is = same_Some (tx_call own p r) ask e' }

    by : (found : Option OwnPort) → port_with_name own name ≡ found → option_and_then (send_call own) found ≡ Some ask → TxOf own name ask
    by None named e' = absurd cc
    by (Some p) named e' = by-ring p p.tx named refl e'

pub mapped : {X : Type 0} (f : X → Ask) (o : Option X) (ask : Ask) (P : Ask → Type 0) → option_map f o ≡ Some ask → ((x : X) → o ≡ Some x → P (f x)) → P ask
mapped f None ask P e each = absurd cc
mapped f (Some x) ask P e each = subst P (same_Some (f x) ask e) (each x refl)

-- ---- as many buffers come as frames were taken, and each frame fits one

items-bytes : (items : List Item) → list_all is_pipe_item items ≡ true → bytes_of_frames (frames_of_items items) ≤ 2048 * length items
items-bytes [] fit = omega arith
items-bytes (item ∷ items) fit =
    let parts = and_parts (is_pipe_item item) (list_all is_pipe_item items) fit in
    let fits = and_parts (fits_buffer item.bytes) (not item.bytes.no_learn) parts.0 in
    let here = leb-true (length item.bytes.bytes) 2048 fits.0 in
    let rest = items-bytes items parts.1 in
    let cut = sum_by-cons (λ (f : Frame). length f.bytes) item.bytes (frames_of_items items) in
    omega (arith, here, rest, cut)

module _ (pool : ℕ) (past : List Entry) (legal : IsLegal pool past) where
  abbrev s : Standing
  s = standing_of pool past

  abbrev Brings : Ask → Outcome → Type 0
  Brings ask made = BringsKept ask made.reply (arrivals_of s ask made.reply)

  quiet-brings : (ask : Ask) (session : ℕ) (reply : Reply) → IsQuiet s ask session reply → Brings ask (unchanged s session reply)
  quiet-brings ask session reply (counts at port e) = tt
  quiet-brings ask session reply (refused_open id name tx rx extra fault can refused) = tt
  quiet-brings ask session reply (resets at side fault port e can) = tt
  quiet-brings ask session reply (finds_no_peer at offered port e few none) = (refl, omega arith)
  quiet-brings ask session reply (finds_no_target at target sides port e can none) = tt
  quiet-brings ask session reply (finds_watched at target sides port found watch e can there is) = tt

  receives-brings : (ask : Ask) (at : PortId) (back : List ℕ) (made : Outcome) → Receives ask at back → Brings ask made
  receives-brings ask at back made (by_sync id bufs) = tt
  receives-brings ask at back made (by_get id bufs) = tt

  brings-kinds : EachKind s Brings
  brings-kinds = record {
    receives = λ ask at back port receives e can. receives-brings ask at back (sync_step s back port) receives;
    leaves = λ session can. tt;
    enters = λ user fits. tt;
    quiet = λ ask session reply quiet. quiet-brings ask session reply quiet;
    opens = λ session name tx rx extra can refusal. tt;
    sends = λ from frames port e can settled. tt;
    grants = λ origin to offer first same. tt;
    completes = λ lease lot e. tt;
    puts = λ at offered items port peer e can found.
        let stands = history-stands pool past legal in
        (rw (e, found) (lent-count s offered items port peer can found stands.numbered stands.held), items-bytes items can.sound);
    watches = λ at target sides port found e can there none. tt;
    shuts = λ at port e settled. tt;
    finishes = λ at bufs chain port fits e can out. tt;
  }

  pub brings : (ask : Ask) (made : Outcome) → step s ask ≡ Some made → Brings (kept_ask ask) made
  brings ask made e = subst (IfMade (Brings (kept_ask ask))) (step-recorded s ask made e) (recorded-by s Brings (kept_ask ask) made.reply brings-kinds)
