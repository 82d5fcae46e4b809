-- In every legal history what was given to a port is what it read and what it has not read.
use Rattle.std.proofs.Common.{ℕ, ◌+◌, ◌<◌, ◌≤◌, ◌≡◌, Bool, true, false, cond, ◌==◌, List, [], ◌∷◌, ◌++◌, map, length, drop, flat_map, Option, Some, None, is_some, refl, sym, ◌∙◌, ap, subst, arith, append-nil}
use Rattle.std.specs.List.{AllByRecursion as Each, prefix_len}
use Rattle.std.specs.Prelude.{option_map}
use Rattle.std.proofs.lemmas.Grind.{flat_map-append}
use Rattle.std.proofs.lemmas.Bool.{eq-eqb, eqb-true, eqb-false, ne_eqb}
use Rattle.nm_types.specs.Frames.{Frame}
use Rattle.vale_entry.specs.declared.entry.Entry.{Entry}
use Rattle.vale_entry.specs.World.{World, Port, Lot, Offer, open_port, changed_if, changed_at}
use Rattle.vale_entry.specs.Grant.{first_offer, with_lot, port_after_grant, granted_frames}
use Rattle.vale_entry.specs.Delivery.{frames_of_lot, lot_after_done, done_if, port_after_done, port_after_sync, ready_lots, is_done_lot, delivered_frames}
use Rattle.vale_entry.specs.Closing.{shut, ports_without, unread_count}
use Rattle.vale_entry.specs.Legal.{Standing, standing_of, world_of, sync_step, IsLegal, Follows}
use Rattle.vale_entry.specs.Delivered.{has_id, port_at, frames_at, frames_of_line, frames_brought, granted_of_offer, brought_by, brought_to, given_frames, read_by, read_frames, unread_by, unread_counts, of_entry, of_entry_in}
use Rattle.vale_entry.specs.Opening.{opened_port}
use Rattle.vale_entry.specs.DeliveryLaws.{IsReadInOrder, ReadIsPrefixOfGiven}
use Rattle.vale_entry.specs.Pipe.{frames_of_items, port_after_put}
use Rattle.vale_entry.specs.declared.entry.Item.{Item}
use Rattle.vale_entry.proofs.Worlds.{standing-push}
use Rattle.vale_entry.proofs.Told.{told-push, flat_map-push, history-by}
use Rattle.vale_entry.proofs.Follows.{EachKind, Left, follows-by}
use Rattle.vale_entry.proofs.Tells.{tells-nothing, tells-received, tells-put}
use Rattle.vale_entry.proofs.ListLaws.{front-rest}
use Rattle.vale_entry.proofs.Numbered.{Numbered, world-numbered}
use Rattle.vale_entry.proofs.Queues.{Queue, queue-still, queue-grants, queue-syncs, queue-finishes}
use Rattle.vale_entry.proofs.PortAt.{first_of, find-append, port_at-map, port_at-changed, port_at-id, open_port-none, port_at-without, port_at-without_other, port_at-below, Found, found-open, found-shutting, found-peer}

-- A line's frames.

pub line-granted :
    (number session : ℕ) (done : Bool) (frames : List Frame) (line : List Lot)
    → frames_of_line (with_lot number session done frames line) ≡ frames_of_line line ++ frames
line-granted number session done [] line = sym (append-nil (frames_of_line line))
line-granted number session done (frame ∷ frames) line =
    flat_map-append frames_of_lot line
    (record { number = number; session = session; frames = frame ∷ frames; is_done = done } ∷ [])
    ∙ ap (λ (xs : List Frame). frames_of_line line ++ xs) (append-nil (frame ∷ frames))

same_frames : (b : Bool) (lot : Lot) → (done_if b lot).frames ≡ lot.frames
same_frames true lot = refl
same_frames false lot = refl

pub line-done :
    (number : ℕ) (line : List Lot)
    → frames_of_line (map (lot_after_done number) line) ≡ frames_of_line line
line-done number [] = refl
line-done number (lot ∷ lots) =
    let here = same_frames (lot.number == number) lot in
    let rest = line-done number lots in
    cc

pub line-synced :
    (port : Port)
    → delivered_frames port ++ frames_of_line (drop (length (ready_lots port)) port.line) ≡
    frames_of_line port.line
line-synced port =
    sym
    (flat_map-append frames_of_lot (ready_lots port) (drop (length (ready_lots port)) port.line))
    ∙ ap frames_of_line (front-rest (prefix_len is_done_lot port.line) port.line)

-- The port of the id, as each kind of entry leaves it.

abbrev line_frames : Port → List Frame
line_frames port = frames_of_line port.line

abbrev QueueAt : ℕ → World → List Frame → List Frame → List ℕ → Type 0
QueueAt id w given read unread =
    Queue id w.entry_count (is_some (port_at w.ports id))
    (frames_at line_frames (port_at w.ports id)) given read unread

abbrev KeptQueue : ℕ → World → List Frame → List Frame → List ℕ → Entry → Standing → Type 0
KeptQueue id w given read unread e left =
    QueueAt id left.world (given ++ flat_map frames_brought (brought_by id w e.ask e.reply))
    (read ++ read_by id w e.ask e.reply) (unread ++ unread_by id e.ask e.reply)

some_map :
    (change : Port → Port) (found : Option Port) → is_some (option_map change found) ≡ is_some found
some_map change None = refl
some_map change (Some port) = refl

frames_map :
    (change : Port → Port) → ((port : Port) → line_frames (change port) ≡ line_frames port)
    → (found : Option Port)
    → frames_at line_frames (option_map change found) ≡ frames_at line_frames found
frames_map change same None = refl
frames_map change same (Some port) = same port

frames_if :
    (b : Bool) (change : Port → Port) (port : Port) → line_frames (change port) ≡ line_frames port
    → line_frames (changed_if b change port) ≡ line_frames port
frames_if true change port same = same
frames_if false change port same = refl

-- a port that is opened has no frames
opened_frames : (found : Option Port) (b : Bool) (id session : ℕ) (name : List ℕ) (tx rx extra : ℕ)
    → frames_at line_frames
    (first_of found (cond b (Some (opened_port id session name tx rx extra)) None))
    ≡ frames_at line_frames found
opened_frames None true id session name tx rx extra = refl
opened_frames None false id session name tx rx extra = refl
opened_frames (Some port) b id session name tx rx extra = refl

opened_alive :
    (found : Option Port) (b : Bool) (new : Port) (unread : List ℕ)
    → (is_some found ≡ true → unread ≡ []) → (b ≡ true → unread ≡ [])
    → is_some (first_of found (cond b (Some new) None)) ≡ true → unread ≡ []
opened_alive None true new unread here fresh e = fresh refl
opened_alive None false new unread here fresh e = absurd cc
opened_alive (Some port) b new unread here fresh e = here refl

-- what is granted goes behind the line's frames, if the port is there
granted_none :
    (w : World) (offer : Offer) (id : ℕ) (hit : Bool) → (offer.to == id) ≡ hit
    → port_at w.ports id ≡ None
    → cond hit (granted_frames w offer) [] ≡ []
granted_none w offer id true t none =
    let same : offer.to ≡ id = eqb-true offer.to id t in
    let closed : open_port w.ports offer.to ≡ None =
    open_port-none w.ports offer.to (subst (λ (k : ℕ). port_at w.ports k ≡ None) (sym same) none) in
    rw closed refl
granted_none w offer id false t none = refl

granted_at :
    (port : Port) (to id number session : ℕ) (done : Bool) (frames : List Frame) (hit : Bool)
    → (to == id) ≡ hit → port.id ≡ id
    → line_frames
    (changed_if (port.id == to)
    (λ (p : Port). record p { line = with_lot number session done frames p.line }) port)
    ≡ line_frames port ++ cond hit frames []
granted_at port to id number session done frames true t here =
    let same : (port.id == to) ≡ true = eq-eqb port.id to (here ∙ sym (eqb-true to id t)) in
    rw same (line-granted number session done frames port.line)
granted_at port to id number session done frames false t here =
    let other : (port.id == to) ≡ false =
    ne_eqb port.id to (λ e. eqb-false to id t (sym e ∙ here)) in
    rw other (sym (append-nil (line_frames port)))

granted_line :
    (w : World) (offer : Offer) (id number : ℕ) (found : Option Port) (hit : Bool)
    → port_at w.ports id ≡ found → (offer.to == id) ≡ hit
    → frames_at line_frames
    (option_map
    (λ (port : Port).
    changed_if (port.id == offer.to)
    (port_after_grant number offer.session (granted_frames w offer)) port) found)
    ≡ frames_at line_frames found ++ cond hit (granted_frames w offer) []
granted_line w offer id number None hit e t = sym (granted_none w offer id hit t e)
granted_line w offer id number (Some port) hit e t =
    granted_at port offer.to id number offer.session false (granted_frames w offer) hit t
    (port_at-id w.ports id port e)

-- what a put takes goes behind the line's frames of the other end
put_line :
    (ports : List Port) (peer : Port) (id number session : ℕ) (frames : List Frame)
    (found : Option Port) (hit : Bool)
    → port_at ports peer.id ≡ Some peer → port_at ports id ≡ found → (peer.id == id) ≡ hit
    → frames_at line_frames
    (option_map
    (λ (port : Port). changed_if (port.id == peer.id) (port_after_put number session frames) port)
    found)
    ≡ frames_at line_frames found ++ cond hit frames []
put_line ports peer id number session frames None true there e t =
    absurd
    (none_some (subst (λ (k : ℕ). port_at ports k ≡ Some peer) (eqb-true peer.id id t) there) e)
  where
    none_some : port_at ports id ≡ Some peer → port_at ports id ≡ None → ⊥
    none_some one other = absurd cc
put_line ports peer id number session frames None false there e t = refl
put_line ports peer id number session frames (Some port) hit there e t =
    granted_at port peer.id id number session true frames hit t (port_at-id ports id port e)

taken_list :
    (number : ℕ) (frames : List Frame) (hit : Bool)
    → flat_map frames_brought (cond hit (record { origin = number; frames = frames } ∷ []) []) ≡
    cond hit frames []
taken_list number frames true = append-nil frames
taken_list number frames false = refl

granted_list : (w : World) (offer : Offer) (hit : Bool)
    → flat_map frames_brought (cond hit (granted_of_offer w (Some offer)) [] ++ [])
    ≡ cond hit (granted_frames w offer) []
granted_list w offer true = append-nil (granted_frames w offer)
granted_list w offer false = refl

-- Each kind of entry.

module _ (s : Standing) (id : ℕ) (given read : List Frame) (unread : List ℕ) (n : Numbered s)
    (q : QueueAt id s.world given read unread) where
  abbrev w : World
  w = s.world

  -- an entry that gives and takes nothing here
  still :
      (later : Option Port) → is_some later ≡ is_some (port_at w.ports id)
      → frames_at line_frames later ≡ frames_at line_frames (port_at w.ports id)
      → Queue id (w.entry_count + 1) (is_some later) (frames_at line_frames later) (given ++ [])
      (read ++ []) (unread ++ [])
  still later there same =
      queue-still id w.entry_count (is_some (port_at w.ports id)) (is_some later)
      (frames_at line_frames (port_at w.ports id)) (frames_at line_frames later) given read unread
      (λ e. q.alive (sym there ∙ e)) same q

  -- the ports are changed, but not their lines
  moved :
      (later : Option Port) (change : Port → Port)
      → ((port : Port) → line_frames (change port) ≡ line_frames port)
      → later ≡ option_map change (port_at w.ports id)
      → Queue id (w.entry_count + 1) (is_some later) (frames_at line_frames later) (given ++ [])
      (read ++ []) (unread ++ [])
  moved later change same e =
      still later
      (ap (λ (found : Option Port). is_some found) e ∙ some_map change (port_at w.ports id))
      (ap (frames_at line_frames) e ∙ frames_map change same (port_at w.ports id))

  opens_queue : (session : ℕ) (name : List ℕ) (tx rx extra : ℕ) (later : Option Port)
      → later
      ≡ first_of (port_at w.ports id)
      (cond (w.entry_count + 1 == id)
      (Some (opened_port (w.entry_count + 1) session name tx rx extra)) None)
      → Queue id (w.entry_count + 1) (is_some later) (frames_at line_frames later) (given ++ [])
      (read ++ []) (unread ++ [])
  opens_queue session name tx rx extra later e =
      queue-still id w.entry_count (is_some (port_at w.ports id)) (is_some later)
      (frames_at line_frames (port_at w.ports id)) (frames_at line_frames later) given read unread
      (λ there.
      opened_alive (port_at w.ports id) (w.entry_count + 1 == id)
      (opened_port (w.entry_count + 1) session name tx rx extra) unread q.alive
      (λ hit. q.future (above hit)) (ap (λ (found : Option Port). is_some found) (sym e) ∙ there))
      (ap (frames_at line_frames) e
      ∙ opened_frames (port_at w.ports id) (w.entry_count + 1 == id) (w.entry_count + 1) session
      name tx rx extra) q
    where
      above : (w.entry_count + 1 == id) ≡ true → w.entry_count < id
      above hit =
          let same : w.entry_count + 1 ≡ id = eqb-true (w.entry_count + 1) id hit in omega arith

  grants_queue :
      (offer : Offer) (to : ℕ) (found : Option Offer) → found ≡ Some offer → offer.to ≡ to
      → Queue id (w.entry_count + 1)
      (is_some
      (port_at
      (changed_at offer.to
      (port_after_grant (w.entry_count + 1) offer.session (granted_frames w offer)) w.ports) id))
      (frames_at line_frames
      (port_at
      (changed_at offer.to
      (port_after_grant (w.entry_count + 1) offer.session (granted_frames w offer)) w.ports) id))
      (given ++ flat_map frames_brought (cond (to == id) (granted_of_offer w found) [] ++ []))
      (read ++ []) (unread ++ [])
  grants_queue offer to found first same =
      let change = port_after_grant (w.entry_count + 1) offer.session (granted_frames w offer) in
      let later = port_at-changed offer.to change (λ port. refl) w.ports id in
      let whole =
      granted_line w offer id (w.entry_count + 1) (port_at w.ports id) (offer.to == id) refl refl in
      let list = granted_list w offer (offer.to == id) in
      let all = queue-grants id w.entry_count (is_some (port_at w.ports id)) _
      (frames_at line_frames (port_at w.ports id)) _ given read
      (cond (offer.to == id) (granted_frames w offer) []) unread
      (ap (λ (port : Option Port). is_some port) later
      ∙ some_map (λ (port : Port). changed_if (port.id == offer.to) change port)
      (port_at w.ports id))
      (ap (frames_at line_frames) later ∙ whole) q in
      rw (first, sym same, list) all

  puts_queue : (items : List Item) (session : ℕ) (peer : Port) → port_at w.ports peer.id ≡ Some peer
      → Queue id (w.entry_count + 1)
      (is_some
      (port_at
      (changed_at peer.id (port_after_put (w.entry_count + 1) session (frames_of_items items))
      w.ports) id))
      (frames_at line_frames
      (port_at
      (changed_at peer.id (port_after_put (w.entry_count + 1) session (frames_of_items items))
      w.ports) id))
      (given
      ++ flat_map frames_brought
      (cond (peer.id == id)
      (record { origin = w.entry_count + 1; frames = frames_of_items items } ∷ []) [])) (read ++ [])
      (unread ++ [])
  puts_queue items session peer there =
      let frames = frames_of_items items in
      let change = port_after_put (w.entry_count + 1) session frames in
      let later = port_at-changed peer.id change (λ port. refl) w.ports id in
      let whole =
      put_line w.ports peer id (w.entry_count + 1) session frames (port_at w.ports id)
      (peer.id == id) there refl refl in
      rw (taken_list (w.entry_count + 1) frames (peer.id == id))
      (queue-grants id w.entry_count (is_some (port_at w.ports id)) _
      (frames_at line_frames (port_at w.ports id)) _ given read (cond (peer.id == id) frames [])
      unread
      (ap (λ (port : Option Port). is_some port) later
      ∙ some_map (λ (port : Port). changed_if (port.id == peer.id) change port)
      (port_at w.ports id))
      (ap (frames_at line_frames) later ∙ whole) q)

  syncs_queue :
      (at : ℕ) (back : List ℕ) (port : Port) (found : Option Port) → found ≡ Some port
      → Found w.ports at port → (hit : Bool) → (at == id) ≡ hit
      → Queue id (w.entry_count + 1)
      (is_some (port_at (changed_at port.id (port_after_sync (length back)) w.ports) id))
      (frames_at line_frames
      (port_at (changed_at port.id (port_after_sync (length back)) w.ports) id))
      (given ++ []) (read ++ cond hit (frames_at delivered_frames found) []) (unread ++ [])
  syncs_queue at back port found first place true t = rw first all
    where
      same : at ≡ id
      same = eqb-true at id t

      here : port_at w.ports id ≡ Some port
      here = subst (λ (k : ℕ). port_at w.ports k ≡ Some port) same place.here

      later :
          port_at (changed_at port.id (port_after_sync (length back)) w.ports) id
          ≡ Some ((port_after_sync (length back)) port)
      later =
          port_at-changed port.id (port_after_sync (length back)) (λ p. refl) w.ports id
          ∙
          (ap
          (option_map (λ (p : Port). changed_if (p.id == port.id) (port_after_sync (length back)) p))
          here
          ∙ ap (λ (b : Bool). Some (changed_if b (port_after_sync (length back)) port))
          (eq-eqb port.id port.id refl))

      all :
          Queue id (w.entry_count + 1)
          (is_some (port_at (changed_at port.id (port_after_sync (length back)) w.ports) id))
          (frames_at line_frames
          (port_at (changed_at port.id (port_after_sync (length back)) w.ports) id))
          (given ++ []) (read ++ delivered_frames port) (unread ++ [])
      all =
          queue-syncs id w.entry_count (is_some (port_at w.ports id)) _
          (frames_at line_frames (port_at w.ports id)) _ given read (delivered_frames port) unread
          (ap (λ (p : Option Port). is_some p) here)
          (ap (λ (p : Option Port). delivered_frames port ++ frames_at line_frames p) later
          ∙ (line-synced port ∙ ap (frames_at line_frames) (sym here))) q
  syncs_queue at back port found first place false t =
      still _
      (ap (λ (p : Option Port). is_some p) later
      ∙ some_map (λ (p : Port). changed_if (p.id == port.id) (port_after_sync (length back)) p)
      (port_at w.ports id))
      (ap (frames_at line_frames) later ∙ unchanged (port_at w.ports id) refl)
    where
      later :
          port_at (changed_at port.id (port_after_sync (length back)) w.ports) id
          ≡ option_map
          (λ (p : Port). changed_if (p.id == port.id) (port_after_sync (length back)) p)
          (port_at w.ports id)
      later = port_at-changed port.id (port_after_sync (length back)) (λ p. refl) w.ports id

      unchanged :
          (p : Option Port) → port_at w.ports id ≡ p
          → frames_at line_frames
          (option_map (λ (p : Port). changed_if (p.id == port.id) (port_after_sync (length back)) p)
          p) ≡ frames_at line_frames p
      unchanged None e = refl
      unchanged (Some p) e =
          let other : (p.id == port.id) ≡ false =
          ne_eqb p.id port.id
          (λ k. eqb-false at id t (sym place.id_is ∙ (sym k ∙ port_at-id w.ports id p e))) in
          rw other refl

  finishes_queue :
      (at : ℕ) (port : Port) → Found w.ports at port → port.id ≤ w.entry_count → (hit : Bool)
      → (at == id) ≡ hit
      → Queue id (w.entry_count + 1) (is_some (port_at (ports_without port.id w.ports) id))
      (frames_at line_frames (port_at (ports_without port.id w.ports) id))
      (given ++ []) (read ++ []) (unread ++ cond hit (unread_count port ∷ []) [])
  finishes_queue at port place below true t =
      let same : at ≡ id = eqb-true at id t in
      let mine : port.id ≡ id = place.id_is ∙ same in
      let here : port_at w.ports id ≡ Some port =
      subst (λ (k : ℕ). port_at w.ports k ≡ Some port) same place.here in
      let gone : port_at (ports_without port.id w.ports) id ≡ None =
      subst (λ (k : ℕ). port_at (ports_without port.id w.ports) k ≡ None) mine
      (port_at-without w.ports port.id) in
      let bound : id ≤ w.entry_count = subst (λ (k : ℕ). k ≤ w.entry_count) mine below in
      let count : unread_count port ≡ length (frames_at line_frames (port_at w.ports id)) =
      ap (λ (p : Option Port). length (frames_at line_frames p)) (sym here) in
      let all =
      queue-finishes id w.entry_count (is_some (port_at w.ports id))
      (frames_at line_frames (port_at w.ports id)) given read unread
      (ap (λ (p : Option Port). is_some p) here) bound q in
      rw (gone, count) all
  finishes_queue at port place below false t =
      let other : port.id ≡ id → ⊥ = λ e. eqb-false at id t (sym place.id_is ∙ e) in
      let same = port_at-without_other w.ports port.id id other in
      still _ (ap (λ (p : Option Port). is_some p) same) (ap (frames_at line_frames) same)

  kinds : EachKind s (Left s (KeptQueue id w given read unread))
  kinds = record {
    enters = λ user fits. still _ refl refl;
    quiet = λ ask session reply quiet.
        let tells = tells-nothing s ask session reply quiet in
        rw (tells.granted id, tells.put id, tells.read id, tells.unread id) (still _ refl refl);
    opens =
        λ session name tx rx extra can refusal.
        opens_queue session.0 name tx rx extra _
        (find-append (has_id id) w.ports
        (opened_port (w.entry_count + 1) session.0 name tx rx extra ∷ []));
    sends = λ from frames port e can settled. still _ refl refl;
    grants =
        λ origin to offer first same. grants_queue offer to.0 (first_offer w origin) first same;
    completes =
        λ lease lot e. moved _ (port_after_done lease.0) (λ port. line-done lease.0 port.line)
        (port_at-map (port_after_done lease.0) (λ port. refl) w.ports id);
    receives = λ ask at back port receives e can.
        let tells = tells-received s ask at back (sync_step s back port) receives in
        rw (tells.granted id, tells.put id, tells.read id, tells.unread id)
        (syncs_queue at.0 back port (open_port w.ports at.0) e
        (found-open w.ports w.entry_count at.0 port n.ports_rise e) (at.0 == id) refl);
    puts = λ at offered items port peer e can found.
        let tells = tells-put s at offered items port peer e found in
        rw (tells.granted id, tells.put id, tells.read id, tells.unread id)
        (puts_queue items port.session peer
        (found-peer w.ports w.entry_count port peer n.ports_rise found));
    watches = λ at target sides port found e can there none. still _ refl refl;
    shuts =
        λ at port e settled.
        moved _ (λ (p : Port). changed_if (p.id == port.id) shut p)
        (λ p. frames_if (p.id == port.id) shut p refl)
        (port_at-changed port.id shut (λ p. refl) w.ports id);
    finishes = λ at bufs chain port fits e can out.
        let place = found-shutting w.ports w.entry_count at.0 port n.ports_rise e in
        finishes_queue at.0 port place
        (port_at-below w.ports w.entry_count at.0 port n.ports_rise place) (at.0 == id) refl;
    leaves = λ session can. still _ refl refl;
  }

-- The law.

given_frames-push : (pool : ℕ) (h : List Entry) (e : Entry) (id : ℕ)
    → given_frames pool (h ++ e ∷ []) id
    ≡ given_frames pool h id ++ flat_map frames_brought
    (brought_by id (world_of pool h) e.ask e.reply)
given_frames-push pool h e id =
    ap (flat_map frames_brought) (told-push (of_entry_in brought_by id) pool h e) ∙ flat_map-append
    frames_brought (brought_to pool h id) (brought_by id (world_of pool h) e.ask e.reply)

queue-is :
    (id : ℕ) (w v : World) (given gifts read got : List Frame) (unread counts : List ℕ) → w ≡ v
    → given ≡ gifts → read ≡ got → unread ≡ counts
    → QueueAt id v gifts got counts → QueueAt id w given read unread
queue-is id w v given gifts read got unread counts a b c d q = rw (a, b, c, d) q

pub history-queue : (pool : ℕ) (id : ℕ) (h : List Entry) → IsLegal pool h
    → QueueAt id (world_of pool h) (given_frames pool h id) (read_frames pool h id)
    (unread_counts h id)
history-queue pool id h legal =
    history-by pool
    (λ (h : List Entry).
    QueueAt id (world_of pool h) (given_frames pool h id) (read_frames pool h id)
    (unread_counts h id)) keeps
    (record {
      left = [];
      parts = refl;
      counted = tt;
      once = omega arith;
      none = λ e. refl;
      alive = λ e. refl;
      future = λ above. refl;
    }) h legal
  where
    keeps :
        (h : List Entry) (e : Entry) → IsLegal pool h → Follows (standing_of pool h) e
        → QueueAt id (world_of pool h) (given_frames pool h id) (read_frames pool h id)
        (unread_counts h id)
        → QueueAt id (world_of pool (h ++ e ∷ [])) (given_frames pool (h ++ e ∷ []) id)
        (read_frames pool (h ++ e ∷ []) id) (unread_counts (h ++ e ∷ []) id)
    keeps h e legal follows q =
        let next = follows-by (standing_of pool h)
        (KeptQueue id (world_of pool h) (given_frames pool h id) (read_frames pool h id)
        (unread_counts h id)) e follows
        (kinds (standing_of pool h) id (given_frames pool h id) (read_frames pool h id)
        (unread_counts h id) (world-numbered pool h) q) in
        queue-is id _ _ _ _ _ _ _ _ (ap (λ (s : Standing). s.world) (standing-push pool h e))
        (given_frames-push pool h e id) (told-push (of_entry_in read_by id) pool h e)
        (flat_map-push (of_entry unread_by id) h e) next

in_order : (id count : ℕ) (found : Option Port) (given read : List Frame) (unread : List ℕ)
    → Queue id count (is_some found) (frames_at line_frames found) given read unread
    → IsReadInOrder given read found unread
in_order id count None given read unread q = record {
  rest = q.left;
  in_order = q.parts ∙ ap (λ (xs : List Frame). read ++ xs) (append-nil q.left);
  queued = λ port e. absurd cc;
  counted = q.counted;
  counted_once = q.once;
  else_none = λ e none. q.none none;
}
in_order id count (Some port) given read unread q =
    let none : unread ≡ [] = q.alive refl in
    let empty : q.left ≡ [] = q.none none in
    record {
      rest = line_frames port;
      in_order = q.parts ∙ ap (λ (xs : List Frame). read ++ (xs ++ line_frames port)) empty;
      queued = λ other e. let same : port ≡ other = cc in ap line_frames same;
      counted =
          subst (λ (ns : List ℕ). Each (λ (n : ℕ). length (line_frames port) ≡ n) ns) (sym none) tt;
      counted_once = q.once;
      else_none = λ e others. absurd cc;
    }

pub read-prefix : ReadIsPrefixOfGiven
read-prefix pool h legal port =
    in_order port (world_of pool h).entry_count (port_at (world_of pool h).ports port)
    (given_frames pool h port) (read_frames pool h port) (unread_counts h port)
    (history-queue pool port h legal)
