-- The destinations in an entry's reply are just the ports at which frames of it are wanted.
use Rattle.std.specs.List.{AllByRecursion as Each, cons_option}
use Rattle.std.proofs.Common.{ℕ, zero, suc, ◌≡◌, ◌≤◌, ◌+◌, ◌==◌, Bool, true, false, cond, List, [], ◌∷◌, ◌++◌, map, take, fold, filter_map, slice_get, Option, Some, None, refl, sym, ◌∙◌, ap, subst, arith, append-nil}
use Rattle.std.proofs.lemmas.Bool.{eq-eqb, ne_eqb}
use Rattle.nm_types.specs.Frames.{Frame}
use Rattle.vale_entry.specs.declared.entry.Ask.{Ask}
use Rattle.vale_entry.specs.declared.entry.Dest.{Dest}
use Rattle.vale_entry.specs.declared.entry.Reply.{Reply}
use Rattle.vale_entry.specs.declared.entry.Entry.{Entry}
use Rattle.vale_entry.specs.World.{World, Port, Offer, open_port, transmit_monitor, receive_monitor}
use Rattle.vale_entry.specs.Offers.{wanted_frames, monitored_frames, offer_to, offers_of, dest_of, dests_of, dests_in, dest_wanting}
use Rattle.vale_entry.specs.Grant.{grant_reply_at}
use Rattle.vale_entry.specs.Delivery.{delivered_frames}
use Rattle.vale_entry.specs.Pipe.{frames_of_items}
use Rattle.vale_entry.specs.Legal.{Standing, after, recorded_step, standing_of, fresh_standing, named_of, unchanged, sync_step}
use Rattle.vale_entry.specs.Laws.{Rise, id_of_port}
use Rattle.vale_entry.specs.Delivered.{told_from, port_at, frames_at}
use Rattle.vale_entry.specs.Fate.{wanted_of_send, wanted_of_sync, wanted_of_put, wanted_in, wanted_at}
use Rattle.vale_entry.specs.DeliveryLaws.{AreJustWanting, RepliesNameTheWanting}
use Rattle.vale_entry.proofs.Worlds.{count-standing_after, count-world_of, follows-at, length-front}
use Rattle.vale_entry.proofs.Follows.{EachKind, Left, entry_made, IsQuiet, refused_open, follows-by}
use Rattle.vale_entry.proofs.Tells.{tells-nothing, tells-received}
use Rattle.vale_entry.proofs.Numbered.{Numbered, world-numbered}
use Rattle.vale_entry.proofs.PortAt.{port_at-place}
use Rattle.vale_entry.proofs.Offered.{cond-same, rise-offers}

-- What is wanted of the entry of a number is what that entry tells.

wanted_later :
    (number to : ℕ) (s : Standing) (h : List Entry) → number ≤ s.world.entry_count
    → told_from (wanted_in number to) s h ≡ []
wanted_later number to s [] below = refl
wanted_later number to s (e ∷ es) below =
    let miss : (s.world.entry_count + 1 == number) ≡ false =
    ne_eqb (s.world.entry_count + 1) number (λ same. omega (arith, below, same)) in
    let count = count-standing_after s e (recorded_step s e.ask e.reply) in
    rw miss (wanted_later number to (after s e) es (omega (arith, below, count)))

wanted_here :
    (number to : ℕ) (s : Standing) (h : List Entry) (n : ℕ) (e : Entry) → slice_get h n ≡ Some e
    → number ≡ s.world.entry_count + n + 1
    → told_from (wanted_in number to) s h ≡ wanted_in number to (fold after s (take n h)).world e
wanted_here number to s [] n e there mine = absurd cc
wanted_here number to s (x ∷ xs) zero e there mine =
    let same : x ≡ e = cc in
    let count = count-standing_after s x (recorded_step s x.ask x.reply) in
    let rest : told_from (wanted_in number to) (after s x) xs ≡ [] =
    wanted_later number to (after s x) xs (omega (arith, mine, count)) in
    ap (λ (fs : List Frame). wanted_in number to s.world x ++ fs) rest
    ∙ (append-nil (wanted_in number to s.world x) ∙ ap (wanted_in number to s.world) same)
wanted_here number to s (x ∷ xs) (suc n) e there mine =
    let miss : (s.world.entry_count + 1 == number) ≡ false =
    ne_eqb (s.world.entry_count + 1) number (λ same. omega (arith, mine, same)) in
    let count = count-standing_after s x (recorded_step s x.ask x.reply) in
    rw miss (wanted_here number to (after s x) xs n e there (omega (arith, mine, count)))

-- What an entry that makes offers tells.

-- each port is the one of its id
found_from :
    (all ports : List Port)
    → ((i : ℕ) (port : Port) → slice_get ports i ≡ Some port → port_at all port.id ≡ Some port)
    → Each (λ (port : Port). port_at all port.id ≡ Some port) ports
found_from all [] at = tt
found_from all (port ∷ ports) at =
    (at 0 port refl, found_from all ports (λ i p e. at (suc i) p e))

found_each :
    (ports : List Port) (high : ℕ) → Rise 0 (map id_of_port ports) high
    → Each (λ (port : Port). port_at ports port.id ≡ Some port) ports
found_each ports high r = found_from ports ports (λ i port e. port_at-place ports high i port r e)

dest_offered :
    (origin session to : ℕ) (frames : List Frame) (rest : List Offer) (dests : List Dest)
    → dests_of rest ≡ dests
    → dests_of (cons_option (offer_to origin session to frames) rest)
    ≡ cons_option (dest_wanting to frames) dests
dest_offered origin session to [] rest dests same = same
dest_offered origin session to (frame ∷ frames) rest dests same =
    ap
    (λ (ds : List Dest).
    dest_of (record { origin = origin; session = session; to = to; frames = frame ∷ frames }) ∷ ds)
    same

dests_offered :
    (origin session : ℕ) (wants : Port → List Frame) (all ports : List Port)
    → Each (λ (port : Port). port_at all port.id ≡ Some port) ports
    → dests_of (offers_of origin session wants ports)
    ≡ filter_map
    (λ (port : Port). dest_wanting port.id (frames_at wants (port_at all port.id))) ports
dests_offered origin session wants all [] found = refl
dests_offered origin session wants all (port ∷ ports) found =
    rw found.0
    (dest_offered origin session port.id (wants port) (offers_of origin session wants ports)
    (filter_map
    (λ (port : Port). dest_wanting port.id (frames_at wants (port_at all port.id))) ports)
    (dests_offered origin session wants all ports found.1))

none_named : (ports : List Port) → [] ≡ filter_map (λ (port : Port). dest_wanting port.id []) ports
none_named [] = refl
none_named (port ∷ ports) = none_named ports

-- the same wants name the same ports
same_named :
    (wanted wants : ℕ → List Frame) (ports : List Port) → ((to : ℕ) → wanted to ≡ wants to)
    → filter_map (λ (port : Port). dest_wanting port.id (wants port.id)) ports
    ≡ filter_map (λ (port : Port). dest_wanting port.id (wanted port.id)) ports
same_named wanted wants [] same = refl
same_named wanted wants (port ∷ ports) same =
    rw (same port.id)
    (ap (λ (ds : List Dest). cons_option (dest_wanting port.id (wants port.id)) ds)
    (same_named wanted wants ports same))

just_as :
    (w : World) (wanted wants : ℕ → List Frame) (dests : List Dest)
    → ((to : ℕ) → wanted to ≡ wants to) → AreJustWanting w wants dests
    → AreJustWanting w wanted dests
just_as w wanted wants dests same k = record {
  just = k.just ∙ same_named wanted wants w.ports same;
  rising = k.rising;
  none_elsewhere = λ to none. same to ∙ k.none_elsewhere to none;
}

nothing : (w : World) → AreJustWanting w (λ to. []) []
nothing w = record {
  just = none_named w.ports;
  rising = omega arith;
  none_elsewhere = λ to none. refl;
}

makes :
    (w : World) (session : ℕ) (wants : Port → List Frame)
    → Rise 0 (map id_of_port w.ports) w.entry_count
    → AreJustWanting w (λ to. frames_at wants (port_at w.ports to))
    (dests_of (offers_of (w.entry_count + 1) session wants w.ports))
makes w session wants r = record {
  just =
      dests_offered (w.entry_count + 1) session wants w.ports w.ports
      (found_each w.ports w.entry_count r);
  rising = rise-offers 0 (w.entry_count + 1) session wants w.ports w.entry_count r;
  none_elsewhere = λ to none. ap (frames_at wants) none;
}

-- Each kind of entry.

abbrev Names : World → Entry → Standing → Type 0
Names w e left =
    AreJustWanting w (λ to. wanted_in (w.entry_count + 1) to w e) (dests_in e.reply)

module _ (s : Standing) (n : Numbered s) where
  abbrev w : World
  w = s.world

  abbrev hit : Bool
  hit = w.entry_count + 1 == w.entry_count + 1

  is_hit : hit ≡ true
  is_hit = eq-eqb (w.entry_count + 1) (w.entry_count + 1) refl

  tells : (told : List Frame) → cond hit told [] ≡ told
  tells told = ap (λ (b : Bool). cond b told []) is_hit

  still : AreJustWanting w (λ to. cond hit [] []) []
  still = just_as w (λ to. cond hit [] []) (λ to. []) [] (λ to. cond-same hit []) (nothing w)

  grants :
      (found : Option Port) (frames : List Frame)
      → AreJustWanting w (λ to. cond hit [] []) (dests_in (grant_reply_at found frames))
  grants None frames = still
  grants (Some port) frames = still

  quiet :
      (ask : Ask) (session : ℕ) (reply : Reply) → IsQuiet s ask session reply
      → dests_in reply ≡ []
  quiet _ _ _ (refused_open session name tx rx extra fault can e) = refl
  quiet _ _ _ _ = refl

  sends :
      (session : ℕ) (frames : List Frame) (found : Option Port) (port : Port) → found ≡ Some port
      → AreJustWanting w (λ to. cond hit (wanted_of_send w frames to found) [])
      (dests_of
      (offers_of (w.entry_count + 1) session
      (wanted_frames port (transmit_monitor w port.id) (named_of w port frames)) w.ports))
  sends session frames found port e =
      let wants : Port → List Frame =
      wanted_frames port (transmit_monitor w port.id) (named_of w port frames) in
      just_as w (λ to. cond hit (wanted_of_send w frames to found) [])
      (λ to. frames_at wants (port_at w.ports to)) _
      (λ to.
      tells (wanted_of_send w frames to found)
      ∙ ap (λ (o : Option Port). wanted_of_send w frames to o) e)
      (makes w session wants n.ports_rise)

  syncs :
      (session : ℕ) (found : Option Port) (port : Port) → found ≡ Some port
      → AreJustWanting w (λ to. cond hit (wanted_of_sync w to found) [])
      (dests_of
      (offers_of (w.entry_count + 1) session
      (monitored_frames (receive_monitor w port.id) (delivered_frames port)) w.ports))
  syncs session found port e =
      let wants : Port → List Frame =
      monitored_frames (receive_monitor w port.id) (delivered_frames port) in
      just_as w (λ to. cond hit (wanted_of_sync w to found) [])
      (λ to. frames_at wants (port_at w.ports to)) _
      (λ to.
      tells (wanted_of_sync w to found) ∙ ap (λ (o : Option Port). wanted_of_sync w to o) e)
      (makes w session wants n.ports_rise)

  puts :
      (session : ℕ) (frames : List Frame) (found : Option Port) (port : Port) → found ≡ Some port
      → AreJustWanting w (λ to. cond hit (wanted_of_put w frames to found) [])
      (dests_of
      (offers_of (w.entry_count + 1) session
      (monitored_frames (transmit_monitor w port.id) frames) w.ports))
  puts session frames found port e =
      let wants : Port → List Frame = monitored_frames (transmit_monitor w port.id) frames in
      just_as w (λ to. cond hit (wanted_of_put w frames to found) [])
      (λ to. frames_at wants (port_at w.ports to)) _
      (λ to.
      tells (wanted_of_put w frames to found) ∙ ap (λ (o : Option Port). wanted_of_put w frames to o)
      e)
      (makes w session wants n.ports_rise)

  kinds : EachKind s (Left s (Names w))
  kinds = record {
    enters = λ user fits. still;
    quiet = λ ask session reply here.
        let told = tells-nothing s ask session reply here in
        just_as w (λ to. wanted_in (w.entry_count + 1) to w (entry_made ask (unchanged s session reply)))
        (λ to. cond hit [] []) (dests_in reply) (told.wanted (w.entry_count + 1))
        (subst (λ (ds : List Dest). AreJustWanting w (λ to. cond hit [] []) ds)
        (sym (quiet ask session reply here)) still);
    opens = λ session name tx rx extra can refusal. still;
    sends =
        λ from frames port e can settled. sends port.session frames (open_port w.ports from.0) port
        e;
    grants = λ origin at offer first same. grants (open_port w.ports offer.to) offer.frames;
    completes = λ lease lot e. still;
    receives = λ ask at back port receives e can.
        let told = tells-received s ask at back (sync_step s back port) receives in
        just_as w
        (λ to. wanted_in (w.entry_count + 1) to w (entry_made ask (sync_step s back port)))
        (λ to. cond hit (wanted_of_sync w to (open_port w.ports at.0)) []) _
        (told.wanted (w.entry_count + 1))
        (syncs port.session (open_port w.ports at.0) port e);
    puts = λ at offered items port peer e can found.
        puts port.session (frames_of_items items) (open_port w.ports at.0) port e;
    watches = λ at target sides port found e can there none. still;
    shuts = λ at port e settled. still;
    finishes = λ at bufs chain port fits e can out. still;
    leaves = λ session can. still;
  }

pub replies-name : RepliesNameTheWanting
replies-name pool h legal count entry there =
    let past = take count h in
    let s = standing_of pool past in
    let named =
    follows-by s (Names s.world) entry (follows-at (fresh_standing pool) h count entry legal there)
    (kinds s (world-numbered pool past)) in
    just_as s.world (wanted_at pool h (count + 1))
    (λ to. wanted_in (s.world.entry_count + 1) to s.world entry) (dests_in entry.reply)
    (λ to.
    wanted_here (count + 1) to (fresh_standing pool) h count entry there (omega arith)
    ∙ ap (λ (n : ℕ). wanted_in (n + 1) to s.world entry)
    (sym (count-world_of pool past ∙ length-front h count entry there)))
    named
