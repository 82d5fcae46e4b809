-- Each entry of a legal history is printable at its number.
use Rattle.std.specs.List.{list_all}
use Rattle.std.proofs.Common.{ℕ, ◌+◌, ◌≡◌, ◌==◌, ◌&&◌, not, Bool, true, false, cond, nat_lt, List, [], ◌∷◌, map, length, IsTrue, Option, Some, None, refl, subst, arith}
use Rattle.std.proofs.lemmas.Bool.{eq-eqb, lt-ltb, and_parts}
use Rattle.nm_types.specs.Frames.{Frame}
use Rattle.nm_types.specs.Names.{is_name, IsName, is_monitor_name}
use Rattle.nm_types.specs.declared.fault.OpenFault.{OpenFault}
use Rattle.nm_types.specs.declared.fault.OpenFault.TheVariants.{BadSize, SwitchesFull, PortsFull, NameTaken, NoBuffers}
use Rattle.nm_types.specs.declared.id.SessionId.{SessionId}
use Rattle.nm_types.specs.declared.id.PortId.{PortId}
use Rattle.vale_entry.specs.declared.entry.Ask.{Ask}
use Rattle.vale_entry.specs.declared.entry.Ask.TheVariants.{Grant}
use Rattle.vale_entry.specs.declared.entry.Reply.{Reply}
use Rattle.vale_entry.specs.declared.entry.Reply.TheVariants.{Gave}
use Rattle.vale_entry.specs.declared.entry.Dest.{Dest}
use Rattle.vale_entry.specs.declared.entry.Entry.{Entry}
use Rattle.vale_entry.specs.World.{World, Port, open_port, free_count, transmit_monitor, receive_monitor}
use Rattle.vale_entry.specs.Offers.{offers_of, dests_of, port_of_dest, wanted_frames, monitored_frames}
use Rattle.nm_types.specs.Openings.{finds_switches_full, finds_ports_full, finds_name_taken, open_refusal as names_refusal}
use Rattle.vale_entry.specs.Opening.{are_sizes, names_of, refusal_or_room, open_refusal}
use Rattle.vale_entry.specs.Grant.{grant_reply_at}
use Rattle.vale_entry.specs.Delivery.{delivered_frames}
use Rattle.nm_types.specs.SyncFaults.{is_check_fault}
use Rattle.vale_entry.specs.Legal.{Standing, Outcome, recorded_step, after, fresh_standing, named_of, offers_of_sync, IsLegalFrom, Follows, has_ring, fits_fault, offers_of_put}
use Rattle.vale_entry.specs.Transcript.{dests_rise, is_refusal, is_printable, IsPrintable, is_unmarked}
use Rattle.vale_entry.specs.Laws.{Rise, IsNumbered, ArePrintable, LegalHistoriesArePrintable}
use Rattle.vale_entry.specs.Monitors.{can_watch}
use Rattle.vale_entry.specs.Pipe.{frames_of_items, is_pipe_item}
use Rattle.vale_entry.specs.declared.entry.Item.{Item}
use Rattle.nm_types.specs.Sendable.{fits_buffer}
use Rattle.nm_types.proofs.Tests.{both_true}
use Rattle.vale_entry.proofs.Offered.{rise-offers}
use Rattle.vale_entry.proofs.Follows.{EachKind, Receives, by_sync, by_get, IsQuiet, refused_open, resets, finds_no_peer, finds_no_target, finds_watched, counts, follows-by}
use Rattle.vale_entry.proofs.Worlds.{count-standing_after}
use Rattle.vale_entry.proofs.Numbered.{Numbered, numbered_entry, world-numbered}

-- Destinations rise, since ports do.

rise-dests :
    (low : ℕ) (to : List Dest) (high : ℕ) → Rise low (map port_of_dest to) high → dests_rise to ≡ true
rise-dests low [] high r = refl
rise-dests low (d ∷ []) high r = refl
rise-dests low (d ∷ next ∷ to) high r =
    both_true (nat_lt d.to.0 next.to.0) (dests_rise (next ∷ to)) (lt-ltb d.to.0 next.to.0 r.1.0)
    (rise-dests d.to.0 (next ∷ to) high r.1)

-- A refusal is one that is printed.

abbrev IsRefusedWell : Option OpenFault → Type 0
IsRefusedWell None = Unit {0}
IsRefusedWell (Some fault) = IsTrue (is_refusal fault)

name-refusal-well : (sizes switches ports name : Bool)
    → IsRefusedWell
    (cond (not sizes) (Some BadSize)
    (cond switches (Some SwitchesFull)
    (cond ports (Some PortsFull) (cond name (Some NameTaken) None))))
name-refusal-well false switches ports name = refl
name-refusal-well true true ports name = refl
name-refusal-well true false true name = refl
name-refusal-well true false false true = refl
name-refusal-well true false false false = tt

room-well :
    (refusal : Option OpenFault) (want have : ℕ) → IsRefusedWell refusal
    → IsRefusedWell (refusal_or_room refusal want have)
room-well (Some fault) want have well = well
room-well None want have well = by_room (nat_lt have want)
  where
    by_room : (b : Bool) → IsRefusedWell (cond b (Some (NoBuffers want have)) None)
    by_room true = refl
    by_room false = tt

-- What each ask makes.

printed-open :
    (asked : SessionId) (name : List ℕ) → IsName name
    → ((asked.0 == asked.0) && is_name name) ≡ true
printed-open asked name named =
    both_true (asked.0 == asked.0) (is_name name) (eq-eqb asked.0 asked.0 refl) named

printed-grant :
    (found : Option Port) (frames : List Frame) (n session origin : ℕ) (to : PortId)
    → IsTrue (is_printable n session (Grant origin to) (grant_reply_at found frames))
printed-grant None frames n session origin to = refl
printed-grant (Some port) frames n session origin to = refl

-- the offers of an entry rise
offered-rise :
    (w : World) (session : ℕ) (wanted : Port → List Frame) → IsNumbered w
    → dests_rise (dests_of (offers_of (w.entry_count + 1) session wanted w.ports)) ≡ true
offered-rise w session wanted numbered =
    rise-dests 0 (dests_of (offers_of (w.entry_count + 1) session wanted w.ports)) w.entry_count
    (rise-offers 0 (w.entry_count + 1) session wanted w.ports w.entry_count numbered.ports_rise)

printed-refused :
    (w : World) (asked : SessionId) (name : List ℕ) (tx rx extra : ℕ) (fault : OpenFault)
    → open_refusal w name tx rx extra ≡ Some fault → IsName name
    → ((asked.0 == asked.0) && (is_name name && is_refusal fault)) ≡ true
printed-refused w asked name tx rx extra fault e named =
    let well : IsRefusedWell (open_refusal w name tx rx extra) = room-well
    (names_refusal (names_of w.ports) name tx rx extra) (tx + rx + extra) (free_count w)
    (name-refusal-well (are_sizes name tx rx extra) (finds_switches_full (names_of w.ports) name)
    (finds_ports_full (names_of w.ports) name) (finds_name_taken (names_of w.ports) name)) in
    both_true (asked.0 == asked.0) (is_name name && is_refusal fault) (eq-eqb asked.0 asked.0 refl)
    (both_true (is_name name) (is_refusal fault) named (subst IsRefusedWell e well))

watch-named : (target : List ℕ) (port : Port) → can_watch target port ≡ true → is_name target ≡ true
watch-named target port can =
    let parts =
    and_parts (is_monitor_name port.name) (is_name target && not (is_monitor_name target)) can in
    (and_parts (is_name target) (not (is_monitor_name target)) parts.1).0

printed-quiet :
    (s : Standing) (n : ℕ) (ask : Ask) (session : ℕ) (reply : Reply) → IsQuiet s ask session reply
    → IsTrue (is_printable n session ask reply)
printed-quiet s n _ _ _ (refused_open session name tx rx extra fault can e) =
    printed-refused s.world session name tx rx extra fault e can.named
printed-quiet s n _ _ _ (resets at side fault port e can) =
    (and_parts (is_check_fault fault) (fits_fault fault)
    (and_parts (has_ring side port) (is_check_fault fault && fits_fault fault) can).1).0
printed-quiet s n _ _ _ (finds_no_peer at offered port e few gone) = refl
printed-quiet s n _ _ _ (finds_no_target at target sides port e can none) =
    watch-named target port can
printed-quiet s n _ _ _ (finds_watched at target sides port found watch e can there some) =
    watch-named target port can
printed-quiet s n _ _ _ (counts at port e) = refl

-- frames that were taken bear no mark
unmarked :
    (items : List Item) → list_all is_pipe_item items ≡ true → list_all is_unmarked items ≡ true
unmarked [] e = refl
unmarked (item ∷ items) e =
    let parts = and_parts (is_pipe_item item) (list_all is_pipe_item items) e in
    let here = and_parts (fits_buffer item.bytes) (not item.bytes.no_learn) parts.0 in
    both_true (is_unmarked item) (list_all is_unmarked items) here.1 (unmarked items parts.1)

printed-received :
    (n session : ℕ) (ask : Ask) (at : PortId) (back : List ℕ) (count : ℕ) (to : List Dest)
    → Receives ask at back → dests_rise to ≡ true
    → IsTrue (is_printable n session ask (Gave count to))
printed-received n session _ _ _ count to (by_sync at back) rise = rise
printed-received n session _ _ _ count to (by_get at back) rise = rise

abbrev Printed : Standing → Ask → Outcome → Type 0
Printed s ask made = IsTrue (is_printable (s.world.entry_count + 1) made.session ask made.reply)

printed-kinds : (s : Standing) → Numbered s → EachKind s (Printed s)
printed-kinds s numbered = record {
  enters = λ user fits. eq-eqb (s.world.entry_count + 1) (s.world.entry_count + 1) refl;
  quiet =
      λ ask session reply quiet. printed-quiet s (s.world.entry_count + 1) ask session reply quiet;
  opens = λ session name tx rx extra can refusal. printed-open session name can.named;
  sends =
      λ from frames port e can settled.
      offered-rise s.world port.session
      (wanted_frames port (transmit_monitor s.world port.id) (named_of s.world port frames))
      numbered;
  grants =
      λ origin to offer first same. printed-grant (open_port s.world.ports offer.to) offer.frames
      (s.world.entry_count + 1) offer.session origin to;
  completes = λ lease lot e. refl;
  receives = λ ask at back port receives e can.
      printed-received (s.world.entry_count + 1) port.session ask at back
      (length (delivered_frames port)) (dests_of (offers_of_sync s.world port)) receives
      (offered-rise s.world port.session
      (monitored_frames (receive_monitor s.world port.id) (delivered_frames port)) numbered);
  puts = λ at offered items port peer e can found.
      both_true (list_all is_unmarked items)
      (dests_rise (dests_of (offers_of_put s.world port (frames_of_items items))))
      (unmarked items can.sound)
      (offered-rise s.world port.session
      (monitored_frames (transmit_monitor s.world port.id) (frames_of_items items)) numbered);
  watches = λ at target sides port found e can there none. watch-named target port can;
  shuts = λ at port e settled. refl;
  finishes = λ at bufs chain port fits e can out. refl;
  leaves = λ session can. eq-eqb session.0 session.0 refl;
}

abbrev IsPrinted : ℕ → Entry → Standing → Type 0
IsPrinted n e left = IsPrintable n e

printed-entry :
    (s : Standing) (n : ℕ) (e : Entry) → s.world.entry_count + 1 ≡ n → Numbered s → Follows s e
    → IsPrintable n e
printed-entry s n e is numbered follows =
    subst (λ (k : ℕ). IsPrintable k e) is
    (follows-by s (IsPrinted (s.world.entry_count + 1)) e follows (printed-kinds s numbered))

printed-from :
    (s : Standing) (n : ℕ) (h : List Entry) → s.world.entry_count + 1 ≡ n → Numbered s
    → IsLegalFrom s h → ArePrintable n h
printed-from s n [] is numbered legal = tt
printed-from s n (e ∷ es) is numbered legal =
    let count = count-standing_after s e (recorded_step s e.ask e.reply) in
    let next : (after s e).world.entry_count + 1 ≡ n + 1 = omega (arith, count, is) in (
      printed-entry s n e is numbered legal.0,
      printed-from (after s e) (n + 1) es next
          (numbered_entry s e numbered) legal.1,
    )

pub legal-printable : LegalHistoriesArePrintable
legal-printable pool h legal =
    printed-from (fresh_standing pool) 1 h refl (world-numbered pool []) legal
