-- What each kind of entry costs.
use Rattle.std.proofs.Common.{ℕ, suc, ◌+◌, ◌*◌, ◌≤◌, ◌≡◌, Bool, true, false, List, [], ◌∷◌, length, Option, refl, ap, subst, arith}
use Rattle.std.specs.List.{cons_option}
use Rattle.std.proofs.lemmas.List.{length-map}
use Rattle.std.proofs.lemmas.List.Sums.{sum_by-cons}
use Rattle.nm_types.specs.Frames.{Frame}
use Rattle.nm_types.specs.declared.id.PortId.{PortId}
use Rattle.vale_entry.specs.declared.entry.Ask.{Ask}
use Rattle.vale_entry.specs.declared.entry.Entry.{Entry}
use Rattle.vale_entry.specs.declared.entry.Reply.{Reply}
use Rattle.vale_entry.specs.World.{Port, transmit_monitor, receive_monitor}
use Rattle.vale_entry.specs.Offers.{offers_of, offer_to, dest_of, dests_of, monitored_frames, wanted_if, is_monitor}
use Rattle.vale_entry.specs.Delivery.{delivered_frames}
use Rattle.vale_entry.specs.Pipe.{frames_of_items}
use Rattle.vale_entry.specs.Legal.{Standing, Outcome, standing_of, world_of, kept_ask, sync_step, unchanged}
use Rattle.vale_entry.proofs.Follows.{EachKind, IsQuiet, Receives, by_sync, by_get, refused_open, resets, finds_no_peer, finds_no_target, finds_watched, counts, IfMade, recorded-by}
use Rattle.vale_entry.proofs.Numbered.{world-numbered}
use Rattle.vale_own.proofs.Rooms.{step-recorded}
use Rattle.vale_cost.specs.Completeness.{HaveFewPorts, EntriesWantLittle, one_if, sends_of_ask, calls_of_ask}
use Rattle.vale_cost.proofs.RoomSends.{send-wants, one-watches, watching}

-- what a monitor gets is one offer
monitored-few : (origin session : ℕ) (monitor : Option ℕ) (frames : List Frame) (ports : List Port)
    → length (offers_of origin session (monitored_frames monitor frames) ports) ≤ watching monitor ports
monitored-few origin session monitor frames [] = omega arith
monitored-few origin session monitor frames (p ∷ ports) = by (is_monitor monitor p) refl (monitored-few origin session monitor frames ports)
  where
    all : watching monitor (p ∷ ports) ≡ one_if (is_monitor monitor p) + watching monitor ports
    all = sum_by-cons (λ (q : Port). one_if (is_monitor monitor q)) p ports

    one_more : (some : List Frame) → length (cons_option (offer_to origin session p.id some) (offers_of origin session (monitored_frames monitor frames) ports))
        ≤ suc (length (offers_of origin session (monitored_frames monitor frames) ports))
    one_more [] = omega arith
    one_more (frame ∷ some) = omega arith

    by : (b : Bool) → is_monitor monitor p ≡ b → length (offers_of origin session (monitored_frames monitor frames) ports) ≤ watching monitor ports
        → length (offers_of origin session (monitored_frames monitor frames) (p ∷ ports)) ≤ watching monitor (p ∷ ports)
    by true is rest =
        let more = one_more (monitored_frames monitor frames p) in
        let one : one_if (is_monitor monitor p) ≡ 1 = ap one_if is in
        omega (arith, rest, more, all, one)
    by false is rest =
        let same : length (offers_of origin session (monitored_frames monitor frames) (p ∷ ports)) ≡ length (offers_of origin session (monitored_frames monitor frames) ports) =
        ap (λ (b : Bool). length (cons_option (offer_to origin session p.id (wanted_if b frames)) (offers_of origin session (monitored_frames monitor frames) ports))) is in
        omega (arith, rest, same, all)

abbrev pub WantsLittle : ℕ → Ask → Outcome → Type 0
WantsLittle most ask made = made.want ≤ 2 * most * sends_of_ask ask + calls_of_ask ask

little-quiet : (most : ℕ) (s : Standing) (ask : Ask) (session : ℕ) (reply : Reply) → IsQuiet s ask session reply → WantsLittle most ask (unchanged s session reply)
little-quiet most s ask session reply (refused_open id name tx rx extra fault can refused) = omega arith
little-quiet most s ask session reply (resets at side fault port e can) = omega arith
little-quiet most s ask session reply (finds_no_peer at offered port e few none) = omega arith
little-quiet most s ask session reply (finds_no_target at target sides port e can none) = omega arith
little-quiet most s ask session reply (finds_watched at target sides port found watch e can there is) = omega arith
little-quiet most s ask session reply (counts at port e) = omega arith

module _ (most pool : ℕ) (h : List Entry) (few-on : HaveFewPorts most (world_of pool h).ports) where
  abbrev s : Standing
  s = standing_of pool h

  one-offer : (session : ℕ) (monitor : Option ℕ) (frames : List Frame)
      → length (dests_of (offers_of (s.world.entry_count + 1) session (monitored_frames monitor frames) s.world.ports)) ≤ 1
  one-offer session monitor frames =
      let few = monitored-few (s.world.entry_count + 1) session monitor frames s.world.ports in
      let one = one-watches monitor 0 s.world.ports s.world.entry_count (world-numbered pool h).ports_rise in
      let same = length-map (offers_of (s.world.entry_count + 1) session (monitored_frames monitor frames) s.world.ports) dest_of in
      omega (arith, few, one, same)

  little-received : (ask : Ask) (at : PortId) (back : List ℕ) (port : Port) → Receives ask at back → WantsLittle most ask (sync_step s back port)
  little-received ask at back port (by_sync id bufs) =
      let one = one-offer port.session (receive_monitor s.world port.id) (delivered_frames port) in
      omega (arith, one)
  little-received ask at back port (by_get id bufs) =
      let one = one-offer port.session (receive_monitor s.world port.id) (delivered_frames port) in
      omega (arith, one)

  pub little-kinds : EachKind s (WantsLittle most)
  little-kinds = record {
    enters = λ user fits. omega arith;
    quiet = λ ask session reply quiet. little-quiet most s ask session reply quiet;
    opens = λ session name tx rx extra can refusal. omega arith;
    sends = λ from frames port e can settled.
        let few = send-wants most pool h frames port few-on in
        omega (arith, few);
    grants = λ origin to offer first same. omega arith;
    completes = λ lease lot e. omega arith;
    receives = λ ask at back port receives e can. little-received ask at back port receives;
    puts = λ at offered items port peer e can found.
        let one = one-offer port.session (transmit_monitor s.world port.id) (frames_of_items items) in
        omega (arith, one);
    watches = λ at target sides port found e can there none. omega arith;
    shuts = λ at port e settled. omega arith;
    finishes = λ at bufs chain port fits e can out. omega arith;
    leaves = λ session can. omega arith;
  }

pub entries-little : EntriesWantLittle
entries-little most pool h ask made legal few e =
    subst (IfMade (WantsLittle most (kept_ask ask))) (step-recorded (standing_of pool h) ask made e)
    (recorded-by (standing_of pool h) (WantsLittle most) (kept_ask ask) made.reply (little-kinds most pool h few))
