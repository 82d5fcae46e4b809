-- The wants of a batch are its offers, after every legal history.
use Rattle.std.proofs.Common.{ℕ, Bool, true, false, not, ◌≡◌, ◌+◌, ◌<◌, List, [], ◌∷◌, length, map, filter, find, slice_get, Option, Some, None, is_some, refl, sym, ◌∙◌, ap, subst, arith, ◌==◌, ◌&&◌, bytes_eq, count_by, nat_le}
use Rattle.std.proofs.lemmas.List.{length-map}
use Rattle.std.specs.List.{AllByRecursion as Each, list_any, list_all}
use Rattle.std.proofs.lemmas.List.Elements.{All-from_recursion}
use Rattle.std.proofs.lemmas.Bool.{leb-true, and_parts, and_left, and_right, eqb-true}
use Rattle.nm_types.specs.Limits.{most_batch, most_frame_bytes}
use Rattle.nm_types.specs.Frames.{Frame, slots_of, size_of_frames}
use Rattle.nm_types.specs.Sides.{watches_side}
use Rattle.nm_types.specs.declared.id.Side.TheVariants.{Tx, Rx}
use Rattle.nm_types.specs.Names.{switch_of, kind_of, is_switch_port_name, is_monitor_name, is_switch_port_kind, is_monitor_kind}
use Rattle.nm_types.specs.Sendable.{IsFrame, is_sendable, is_frame}
use Rattle.nm_types.specs.declared.name.Kind.{Kind}
use Rattle.nm_types.specs.declared.name.Kind.TheVariants.{Vale}
use Rattle.nm_types.specs.declared.id.PortId.{PortId}
use Rattle.vale_learn.specs.AddressTable.{Entries}
use Rattle.vale_batch.specs.declared.looking.Looked.{Looked}
use Rattle.vale_batch.specs.Looking.{looked_up_batch}
use Rattle.vale_batch.specs.Wants.{Wanted, wants_of, IsRising, port_number, is_lone as is_lone_looked}
use Rattle.vale_entry.specs.declared.entry.Entry.{Entry}
use Rattle.vale_entry.specs.World.{Port, Watch as Watcher, Offer, is_open, is_settled, monitor_id, transmit_monitor, receive_monitor}
use Rattle.vale_entry.specs.Lookup.{Named, is_lone}
use Rattle.vale_entry.specs.Offers.{offers_of, is_monitor, wanted_frames, wanted_if, monitored_frames, frame_of, dest_of, dests_of}
use Rattle.vale_entry.specs.Opening.{is_on_switch}
use Rattle.vale_entry.specs.Delivery.{delivered_frames}
use Rattle.vale_entry.specs.Legal.{world_of, named_of, offers_of_send, offers_of_sync, offers_of_put, IsLegal}
use Rattle.vale_entry.specs.Laws.{Rise, id_of_port as number_of, is_monitor_open, IsWatch}
use Rattle.vale_entry.specs.declared.entry.Dest.{Dest}
use Rattle.vale_entry.specs.declared.entry.Reply.TheVariants.{Offered}
use Rattle.vale_entry.specs.Learning.{is_short}
use Rattle.vale_entry.proofs.ListLaws.{place-of}
use Rattle.vale_entry.proofs.Each.{each-all, each-weaker, each-find, each-both}
use Rattle.vale_entry.proofs.Removals.{rise-filter}
use Rattle.vale_entry.proofs.Places.{open-place}
use Rattle.vale_entry.proofs.Watched.{only-place, any-at}
use Rattle.vale_entry.proofs.Numbered.{world-numbered}
use Rattle.vale_entry.proofs.HistoryLaws.{history-stands}
use Rattle.vale_parts.specs.Ids.{port_id, id_of_port}
use Rattle.vale_parts.specs.SwitchPorts.{is_open_on, open_ports_on}
use Rattle.vale_parts.specs.Batches.{IsOfferOf, AreOffersOf, AreLookedAs, want_of_all, with_want, wants_monitored, dest_wanted, dests_wanted}
use Rattle.vale_parts.specs.BatchLaws.{IsSender, BatchesAreNamed, LoneFramesAreCounted, SentWantsAreOffers, GivenWantsAreOffers, PutWantsAreOffers, DestsAreWanted, OpenPortsRise, SendableCanBeLookedUp, SendsAreReplied, ReadsAreReplied, PutsAreReplied, wants_at}
use Rattle.vale_parts.proofs.OpenPorts.{some_is_any}
use Rattle.vale_entry.proofs.PairsOfSwitch.{pairs-of_switch}
use Rattle.vale_entry.proofs.Rising.{rise-increases}
use Rattle.vale_parts.proofs.Lookups.{batch_named, frames_named, lone_counted, NamesOpen, NamesOpenAt, named_open}
use Rattle.vale_parts.proofs.WantedFrames.{wants_are, none-wanted, all-wanted}
use Rattle.vale_parts.proofs.WantOffers.{IsPlain, IsOther, IsItself, plain, monitored}

-- ---- the monitor's port

kinds_apart : (kind : Option Kind) → is_monitor_kind kind ≡ true → is_switch_port_kind kind ≡ false
kinds_apart (Some Vale) is = absurd cc
kinds_apart _ is = refl

monitor_no_switch : (name : List ℕ) → is_monitor_name name ≡ true → is_switch_port_name name ≡ false
unfolding is_monitor_name is_switch_port_name
monitor_no_switch name is = kinds_apart (kind_of name) is

-- the only port of its id is there, and has a monitor's name
record MonitorPort (ports : List Port) (monitor : ℕ) : Type 0 where
  there : list_any (λ (p : Port). p.id == monitor) ports ≡ true
  named : Each (λ (p : Port). (p.id == monitor) ≡ true → is_monitor_name p.name ≡ true) ports

port_found : (ports : List Port) (high monitor : ℕ) → Rise 0 (map number_of ports) high → (found : Option Port) → find (is_monitor_open monitor) ports ≡ found → is_some found ≡ true → MonitorPort ports monitor
port_found ports high monitor r None e some = absurd cc
port_found ports high monitor r (Some port) e some =
    let place = place-of (is_monitor_open monitor) ports port e in
    let tests = and_parts ((port.id == monitor) && not port.shutting) (is_monitor_name port.name) place.passes in
    let same = (and_parts (port.id == monitor) (not port.shutting) tests.0).0 in
    let id : port.id ≡ monitor = eqb-true port.id monitor same in
    record {
      there = any-at (λ (p : Port). p.id == monitor) ports place.place port place.here same;
      named = each-weaker (λ (p : Port). p.id ≡ port.id → p ≡ port) (λ (p : Port). (p.id == monitor) ≡ true → is_monitor_name p.name ≡ true)
          (λ p only t. ap (λ (q : Port). is_monitor_name q.name) (only (eqb-true p.id monitor t ∙ sym id)) ∙ tests.1) ports (only-place ports high place.place port r place.here);
    }

watch_found : (ports : List Port) (high : ℕ) (watches : List Watcher) (test : Watcher → Bool) (monitor : ℕ) → Rise 0 (map number_of ports) high → Each (IsWatch ports) watches
    → (found : Option Watcher) → find test watches ≡ found → monitor_id found ≡ Some monitor → MonitorPort ports monitor
watch_found ports high watches test monitor r all None e is = absurd cc
watch_found ports high watches test monitor r all (Some watch) e is =
    let same : watch.monitor ≡ monitor = cc in
    let open_one = subst (λ (k : ℕ). list_any (is_monitor_open k) ports ≡ true) same (each-find (IsWatch ports) test watches watch all e).monitor in
    port_found ports high monitor r (find (is_monitor_open monitor) ports) refl (some_is_any (is_monitor_open monitor) ports ∙ open_one)

closed_by : (switch : List ℕ) (port : Port) → is_monitor_name port.name ≡ true → is_open_on switch port ≡ false
closed_by switch port named =
    and_right (not port.shutting) (is_on_switch switch port) (and_left (is_switch_port_name port.name) (bytes_eq (switch_of port.name) switch) (monitor_no_switch port.name named))

-- ---- the offers of a send

each_turned : {X Y : Type 0} (R : X → Y → Type 0) (xs : List X) (ys : List Y) → Each (λ (y : Y). Each (λ (x : X). R x y) xs) ys → Each (λ (x : X). Each (λ (y : Y). R x y) ys) xs
each_turned R xs [] all = each-all _ (λ x. tt) xs
each_turned R xs (y ∷ ys) all = each-both _ _ _ (λ x here rest. (here, rest)) xs all.0 (each_turned R xs ys all.1)

-- what a send has: its sender, the open ports, and its frames as they are looked up and named
record SendAt (ports : List Port) (sender : Port) (frames : List Frame) (looked : List Looked) (named : List Named) : Type 0 where
  are : AreLookedAs looked named
  frames_are : map frame_of named ≡ frames
  opens : Each (λ (p : Port). Each (λ (n : Named). NamesOpen sender n.destination p) named) ports

module _ (ports : List Port) (sender : Port) (frames : List Frame) (looked : List Looked) (named : List Named) (origin : ℕ) (at : SendAt ports sender frames looked named) where
  abbrev switch : List ℕ
  switch = switch_of sender.name

  abbrev IsPlainAt : Option ℕ → Port → Type 0
  IsPlainAt monitor = IsPlain frames origin sender.session (wanted_frames sender monitor named) (port_id sender.id) looked switch

  sent_plain : (monitor : Option ℕ) (port : Port) → is_monitor monitor port ≡ false → Each (λ (n : Named). NamesOpen sender n.destination port) named → IsPlainAt monitor port
  sent_plain monitor port other opens = record {
    up = λ up. wants_are sender frames monitor port up other looked named 0 at.are (sym at.frames_are);
    down = λ down. none-wanted sender monitor port down other named opens;
  }

  sent_alone : AreOffersOf frames (wants_of (port_id sender.id) looked (open_ports_on switch ports)) (offers_of origin sender.session (wanted_frames sender None named) ports)
  sent_alone =
      plain frames origin sender.session (wanted_frames sender None named) (port_id sender.id) looked switch ports
      (each-weaker (λ (p : Port). Each (λ (n : Named). NamesOpen sender n.destination p) named) (IsPlainAt None) (λ p opens. sent_plain None p refl opens) ports at.opens)

  sent_watched : (high monitor : ℕ) → Rise 0 (map number_of ports) high → MonitorPort ports monitor → 0 < length frames
      → AreOffersOf frames (with_want (want_of_all monitor frames) (wants_of (port_id sender.id) looked (open_ports_on switch ports))) (offers_of origin sender.session (wanted_frames sender (Some monitor) named) ports)
  sent_watched high monitor r k some =
      monitored frames origin sender.session (wanted_frames sender (Some monitor) named) (port_id sender.id) looked switch monitor 0 ports high some r k.there
      (each-weaker (λ (p : Port). Each (λ (n : Named). NamesOpen sender n.destination p) named) (IsOther frames origin sender.session (wanted_frames sender (Some monitor) named) (port_id sender.id) looked switch monitor)
      (λ p opens other. sent_plain (Some monitor) p other opens) ports at.opens)
      (each-weaker (λ (p : Port). (p.id == monitor) ≡ true → is_monitor_name p.name ≡ true) (IsItself frames origin sender.session (wanted_frames sender (Some monitor) named) (port_id sender.id) looked switch monitor)
      (λ p name t. record { closed = closed_by switch p (name t); all_wanted = all-wanted sender (Some monitor) p t named ∙ at.frames_are }) ports k.named)

-- with a monitor or without
sent_by : (ports : List Port) (high : ℕ) (sender : Port) (frames : List Frame) (looked : List Looked) (named : List Named) (origin : ℕ) → Rise 0 (map number_of ports) high
    → SendAt ports sender frames looked named → (monitor : Option ℕ) → ((k : ℕ) → monitor ≡ Some k → MonitorPort ports k)
    → AreOffersOf frames (wants_monitored monitor frames (wants_of (port_id sender.id) looked (open_ports_on (switch_of sender.name) ports))) (offers_of origin sender.session (wanted_frames sender monitor named) ports)
sent_by ports high sender frames looked named origin r at None found = sent_alone ports sender frames looked named origin at
sent_by ports high sender (f ∷ fs) looked named origin r at (Some k) found =
    sent_watched ports sender (f ∷ fs) looked named origin at high k r (found k refl) (omega arith)
sent_by ports high sender [] looked named origin r at (Some k) found =
    plain [] origin sender.session (wanted_frames sender (Some k) named) (port_id sender.id) looked (switch_of sender.name) ports
    (each-all (IsPlain [] origin sender.session (wanted_frames sender (Some k) named) (port_id sender.id) looked (switch_of sender.name)) (λ p. nothing_plain p looked named at.are at.frames_are) ports)
  where
    nothing_plain : (p : Port) (looked : List Looked) (named : List Named) → AreLookedAs looked named → map frame_of named ≡ []
        → IsPlain [] origin sender.session (wanted_frames sender (Some k) named) (port_id sender.id) looked (switch_of sender.name) p
    nothing_plain p [] [] are none = record { up = λ up. record { places_are = refl; sizes_are = refl }; down = λ down. refl }
    nothing_plain p [] (n ∷ ns) are none = absurd are
    nothing_plain p (l ∷ ls) [] are none = absurd are
    nothing_plain p (l ∷ ls) (n ∷ ns) are none = absurd cc

-- ---- the monitor of what is given, or taken

abbrev nobody : PortId
nobody = port_id 0

no_wants : (ports : List PortId) → wants_of nobody [] ports ≡ []
no_wants [] = refl
no_wants (p ∷ ps) = no_wants ps

module _ (frames : List Frame) (origin session : ℕ) (monitor : Option ℕ) where
  abbrev all_given : Port → List Frame
  all_given = monitored_frames monitor frames

  given_plain : (port : Port) → all_given port ≡ [] → IsPlain frames origin session all_given nobody [] [] port
  given_plain port none = record {
    up = λ up. record { places_are = sym (ap (λ (fs : List Frame). map Some fs) none); sizes_are = sym (ap (λ (fs : List Frame). map slots_of fs) none) };
    down = λ down. none;
  }

  given_alone : (ports : List Port) → Each (λ (p : Port). all_given p ≡ []) ports → AreOffersOf frames [] (offers_of origin session all_given ports)
  given_alone ports all =
      subst (λ (ws : List Wanted). AreOffersOf frames ws (offers_of origin session all_given ports)) (no_wants (open_ports_on [] ports))
      (plain frames origin session all_given nobody [] [] ports (each-weaker (λ (p : Port). all_given p ≡ []) (IsPlain frames origin session all_given nobody [] []) given_plain ports all))

given_watched : (frames : List Frame) (origin session : ℕ) (ports : List Port) (high k : ℕ) → Rise 0 (map number_of ports) high → MonitorPort ports k → 0 < length frames
    → AreOffersOf frames (with_want (want_of_all k frames) []) (offers_of origin session (monitored_frames (Some k) frames) ports)
given_watched frames origin session ports high k r is some =
    subst (λ (ws : List Wanted). AreOffersOf frames (with_want (want_of_all k frames) ws) (offers_of origin session (monitored_frames (Some k) frames) ports)) (no_wants (open_ports_on [] ports))
    (monitored frames origin session (monitored_frames (Some k) frames) nobody [] [] k 0 ports high some r is.there
    (each-all (IsOther frames origin session (monitored_frames (Some k) frames) nobody [] [] k)
    (λ p other. given_plain frames origin session (Some k) p (ap (λ (b : Bool). wanted_if b frames) other)) ports)
    (each-weaker (λ (p : Port). (p.id == k) ≡ true → is_monitor_name p.name ≡ true) (IsItself frames origin session (monitored_frames (Some k) frames) nobody [] [] k)
    (λ p name t. record { closed = closed_by [] p (name t); all_wanted = ap (λ (b : Bool). wanted_if b frames) t }) ports is.named))

none_given : (b : Bool) → wanted_if b [] ≡ []
none_given true = refl
none_given false = refl

given_by : (frames : List Frame) (origin session : ℕ) (ports : List Port) (high : ℕ) → Rise 0 (map number_of ports) high → (monitor : Option ℕ) → ((k : ℕ) → monitor ≡ Some k → MonitorPort ports k)
    → AreOffersOf frames (wants_monitored monitor frames []) (offers_of origin session (monitored_frames monitor frames) ports)
given_by frames origin session ports high r None found = given_alone frames origin session None ports (each-all (λ (p : Port). monitored_frames None frames p ≡ []) (λ p. refl) ports)
given_by [] origin session ports high r (Some k) found =
    given_alone [] origin session (Some k) ports (each-all (λ (p : Port). monitored_frames (Some k) [] p ≡ []) (λ p. none_given (p.id == k)) ports)
given_by (f ∷ fs) origin session ports high r (Some k) found = given_watched (f ∷ fs) origin session ports high k r (found k refl) (omega arith)

-- ---- the laws

transmit_found : (pool : ℕ) (h : List Entry) (id : ℕ) → IsLegal pool h → (k : ℕ) → transmit_monitor (world_of pool h) id ≡ Some k → MonitorPort (world_of pool h).ports k
transmit_found pool h id legal k is =
    let w = world_of pool h in
    watch_found w.ports w.entry_count w.watches (λ watch. (watch.target == id) && watches_side watch.sides Tx) k (world-numbered pool h).ports_rise (history-stands pool h legal).watched.each
    (find (λ watch. (watch.target == id) && watches_side watch.sides Tx) w.watches) refl is

receive_found : (pool : ℕ) (h : List Entry) (id : ℕ) → IsLegal pool h → (k : ℕ) → receive_monitor (world_of pool h) id ≡ Some k → MonitorPort (world_of pool h).ports k
receive_found pool h id legal k is =
    let w = world_of pool h in
    watch_found w.ports w.entry_count w.watches (λ watch. (watch.target == id) && watches_side watch.sides Rx) k (world-numbered pool h).ports_rise (history-stands pool h legal).watched.each
    (find (λ watch. (watch.target == id) && watches_side watch.sides Rx) w.watches) refl is

-- what is known of a sender
record Sending (pool : ℕ) (h : List Entry) (frames : List Frame) (port : Port) (entries : Entries) : Type 0 where
  looked : AreLookedAs (looked_up_batch (port_id port.id) entries frames) (named_of (world_of pool h) port frames)
  opens : Each (NamesOpenAt port (world_of pool h).ports) (named_of (world_of pool h) port frames)

sending : (pool : ℕ) (h : List Entry) (from : PortId) (frames : List Frame) (port : Port) (entries : Entries) → IsSender (world_of pool h) from frames port entries → Sending pool h frames port entries
sending pool h from frames port entries is =
    let w = world_of pool h in
    let rise = (world-numbered pool h).ports_rise in
    let place = open-place w.ports w.entry_count from.0 port rise is.here in
    let can = and_parts (is_switch_port_name port.name) (is_settled w port.session && is_sendable frames) is.can in
    let sendable = (and_parts (is_settled w port.session) (is_sendable frames) can.1).1 in
    let most = and_parts (nat_le (length frames) most_batch) (nat_le (size_of_frames frames) most_batch && list_all is_frame frames) sendable in
    let fits = (and_parts (nat_le (size_of_frames frames) most_batch) (list_all is_frame frames) most.1).1 in
    let up : is_open w.ports port.id ≡ true = ap (is_open w.ports) place.id_is ∙ ap (λ (found : Option Port). is_some found) is.here in
    record {
      looked = batch_named port w.ports w.pairs entries frames fits is.size up is.finds;
      opens = named_open port w.entry_count from.0 w.ports rise is.here can.0 w.pairs frames (pairs-of_switch pool h);
    }

sender_id : (pool : ℕ) (h : List Entry) (from : PortId) (frames : List Frame) (port : Port) (entries : Entries) → IsSender (world_of pool h) from frames port entries → port.id ≡ from.0
sender_id pool h from frames port entries is = (open-place (world_of pool h).ports (world_of pool h).entry_count from.0 port (world-numbered pool h).ports_rise is.here).id_is

pub batches_named : BatchesAreNamed
batches_named pool h from frames port entries is =
    subst (λ (k : ℕ). AreLookedAs (looked_up_batch (port_id k) entries frames) (named_of (world_of pool h) port frames)) (sender_id pool h from frames port entries is)
    (sending pool h from frames port entries is).looked

pub lone_frames : LoneFramesAreCounted
lone_frames pool h from frames port entries is =
    let w = world_of pool h in
    subst (λ (k : ℕ). count_by (is_lone_looked (port_id k) (open_ports_on (switch_of port.name) w.ports)) (looked_up_batch (port_id k) entries frames) ≡ count_by (is_lone w.ports port) (named_of w port frames))
    (sender_id pool h from frames port entries is)
    (lone_counted port w.ports (looked_up_batch (port_id port.id) entries frames) (named_of w port frames) (sending pool h from frames port entries is).looked)

pub sent_offers : SentWantsAreOffers
sent_offers pool h from frames port entries legal is =
    let w = world_of pool h in
    let sends = sending pool h from frames port entries is in
    let at : SendAt w.ports port frames (looked_up_batch (port_id port.id) entries frames) (named_of w port frames) = record {
      are = sends.looked;
      frames_are = frames_named port w.ports w.pairs frames;
      opens = each_turned (λ (p : Port) (n : Named). NamesOpen port n.destination p) w.ports (named_of w port frames) sends.opens;
    } in
    subst (λ (k : ℕ). AreOffersOf frames (wants_monitored (transmit_monitor w port.id) frames (wants_of (port_id k) (looked_up_batch (port_id k) entries frames) (open_ports_on (switch_of port.name) w.ports))) (offers_of_send w port frames))
    (sender_id pool h from frames port entries is)
    (sent_by w.ports w.entry_count port frames (looked_up_batch (port_id port.id) entries frames) (named_of w port frames) (w.entry_count + 1) (world-numbered pool h).ports_rise at
    (transmit_monitor w port.id) (transmit_found pool h port.id legal))

pub given_offers : GivenWantsAreOffers
given_offers pool h port legal =
    let w = world_of pool h in
    given_by (delivered_frames port) (w.entry_count + 1) port.session w.ports w.entry_count (world-numbered pool h).ports_rise (receive_monitor w port.id) (receive_found pool h port.id legal)

pub put_offers : PutWantsAreOffers
put_offers pool h port frames legal =
    let w = world_of pool h in
    given_by frames (w.entry_count + 1) port.session w.ports w.entry_count (world-numbered pool h).ports_rise (transmit_monitor w port.id) (transmit_found pool h port.id legal)

one_dest : (frames : List Frame) (want : Wanted) (offer : Offer) → IsOfferOf frames want offer → dest_wanted want ≡ dest_of offer
one_dest frames want offer is =
    let count : length want.places ≡ length offer.frames =
    sym (length-map want.places (slice_get frames)) ∙ (ap (λ (os : List (Option Frame)). length os) is.places ∙ length-map offer.frames Some) in
    ap (λ (k : ℕ). dest k (length want.places)) is.to ∙ ap (λ (n : ℕ). dest offer.to n) count
  where
    dest : ℕ → ℕ → Dest
    dest to count = record { to = port_id to; count = count }

pub dests_are_wanted : DestsAreWanted
dests_are_wanted frames [] [] all = refl
dests_are_wanted frames [] (o ∷ os) all = absurd all
dests_are_wanted frames (w ∷ ws) [] all = absurd all
dests_are_wanted frames (w ∷ ws) (o ∷ os) all =
    ap (λ (d : Dest). d ∷ dests_wanted ws) (one_dest frames w o all.0) ∙ ap (λ (ds : List Dest). dest_of o ∷ ds) (dests_are_wanted frames ws os all.1)

-- ---- the open ports of a switch rise

numbers_are : (ports : List Port) → map port_number (map id_of_port ports) ≡ map number_of ports
numbers_are [] = refl
numbers_are (p ∷ ps) = ap (λ (ns : List ℕ). p.id ∷ ns) (numbers_are ps)

pub open_ports_rise : OpenPortsRise
open_ports_rise pool h switch =
    let w = world_of pool h in
    let numbers = numbers_are (filter (is_open_on switch) w.ports) in
    subst IsRising (sym numbers) (λ i j d before inside. rise-increases 0 (map number_of (filter (is_open_on switch) w.ports)) w.entry_count i j d (rise-filter number_of (is_open_on switch) 0 w.ports w.entry_count (world-numbered pool h).ports_rise) before inside)

-- ---- what may be sent can be looked up

each_frame : (frames : List Frame) → list_all is_frame frames ≡ true → Each IsFrame frames
each_frame [] fits = tt
each_frame (f ∷ fs) fits =
    let parts = and_parts (is_frame f) (list_all is_frame fs) fits in
    let few = leb-true (length f.bytes) most_frame_bytes parts.0 in
    (omega (arith, few), each_frame fs parts.1)

pub looked_up_sendable : SendableCanBeLookedUp
looked_up_sendable frames sendable =
    let most = and_parts (nat_le (length frames) most_batch) (nat_le (size_of_frames frames) most_batch && list_all is_frame frames) sendable in
    let fits = (and_parts (nat_le (size_of_frames frames) most_batch) (list_all is_frame frames) most.1).1 in
    record { few = leb-true (length frames) most_batch most.0; each = All-from_recursion IsFrame frames (each_frame frames fits) }

-- ---- replies

pub sends_replied : SendsAreReplied
sends_replied pool h from frames port entries legal is =
    let w = world_of pool h in
    let wants = wants_monitored (transmit_monitor w port.id) frames (wants_at w from frames port entries) in
    let lone = lone_frames pool h from frames port entries is in
    let dests = dests_are_wanted frames wants (offers_of_send w port frames) (sent_offers pool h from frames port entries legal is) in
    ap (λ (n : ℕ). Offered (count_by is_short frames) n (dests_of (offers_of_send w port frames))) (sym lone)
    ∙ ap (λ (to : List Dest). Offered (count_by is_short frames) (count_by (is_lone_looked from (open_ports_on (switch_of port.name) w.ports)) (looked_up_batch from entries frames)) to) (sym dests)

pub reads_replied : ReadsAreReplied
reads_replied pool h port legal =
    let w = world_of pool h in
    sym (dests_are_wanted (delivered_frames port) (wants_monitored (receive_monitor w port.id) (delivered_frames port) []) (offers_of_sync w port) (given_offers pool h port legal))

pub puts_replied : PutsAreReplied
puts_replied pool h port frames legal =
    let w = world_of pool h in
    sym (dests_are_wanted frames (wants_monitored (transmit_monitor w port.id) frames []) (offers_of_put w port frames) (put_offers pool h port frames legal))
