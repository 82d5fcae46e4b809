-- A pair belongs to the switch of its port, while that port is there.
use Rattle.std.proofs.Common.{ℕ, ◌+◌, ◌≤◌, ◌≡◌, Bool, true, false, cond, not, ◌&&◌, ◌==◌, List, [], ◌∷◌, ◌++◌, map, length, Some, refl, sym, ◌∙◌, subst, arith}
use Rattle.std.specs.List.{AllByRecursion as Each}
use Rattle.std.proofs.lemmas.Bool.{and_parts}
use Rattle.std.proofs.lemmas.Slice.Eq.{bytes_eq-Decides}
use Rattle.nm_types.specs.Frames.{Frame}
use Rattle.nm_types.specs.Names.{switch_of, is_switch_port_name}
use Rattle.nm_types.specs.Sendable.{is_sendable}
use Rattle.vale_entry.specs.declared.entry.Entry.{Entry}
use Rattle.vale_entry.specs.World.{Port, Pair, is_settled, open_port, changed_if, changed_at}
use Rattle.vale_entry.specs.Learning.{is_learnable, source_address, learned, learned_of_batch}
use Rattle.vale_entry.specs.Opening.{is_on_switch, opened_port}
use Rattle.vale_entry.specs.Grant.{port_after_grant, granted_frames}
use Rattle.vale_entry.specs.Delivery.{port_after_done, port_after_sync}
use Rattle.vale_entry.specs.Closing.{shut}
use Rattle.vale_entry.specs.Pipe.{frames_of_items, port_after_put}
use Rattle.vale_entry.specs.Legal.{Standing, Outcome, after, fresh_standing, can_send, send_step}
use Rattle.vale_entry.specs.Laws.{IsPortOfPair, IsPairOf, PairsAreOfSwitch}
use Rattle.vale_entry.proofs.Each.{each-weaker, each-append, each-map}
use Rattle.vale_entry.proofs.Removals.{each-filter}
use Rattle.vale_entry.proofs.Steps.{standing-by}
use Rattle.vale_entry.proofs.ListLaws.{each-at}
use Rattle.vale_entry.proofs.Places.{open-place}
use Rattle.vale_entry.proofs.PortAt.{kept-if}
use Rattle.vale_entry.proofs.Numbered.{Numbered, numbered_entry, world-numbered}
use Rattle.vale_entry.proofs.Watched.{only-place}
use Rattle.vale_entry.proofs.Within.{ports-within}
use Rattle.vale_entry.proofs.Follows.{EachKind, after-by}

-- the ports that a pair's port is among are of the pair's switch
abbrev AreOfPair : List Port → Pair → Type 0
AreOfPair ports pair = Each (IsPortOfPair pair) ports

abbrev ArePairs : ℕ → List Port → List Pair → Type 0
ArePairs count ports pairs = Each (IsPairOf count ports) pairs

pairs-later :
    (count : ℕ) (ports : List Port) (pairs : List Pair) → ArePairs count ports pairs
    → ArePairs (count + 1) ports pairs
pairs-later count ports pairs all =
    each-weaker (IsPairOf count ports) (IsPairOf (count + 1) ports)
    (λ pair here.
    let low = here.within in record { within = omega (arith, low); on_switch = here.on_switch })
    pairs all

-- ports that keep their ids and names
pairs-ports :
    (count : ℕ) (ports later : List Port) (pairs : List Pair)
    → ((pair : Pair) → AreOfPair ports pair → AreOfPair later pair)
    → ArePairs count ports pairs → ArePairs (count + 1) later pairs
pairs-ports count ports later pairs keeps all =
    each-weaker (IsPairOf count ports) (IsPairOf (count + 1) later)
    (λ pair here.
    let low = here.within in record
    { within = omega (arith, low); on_switch = keeps pair here.on_switch }) pairs all

mapped :
    (change : Port → Port) → ((p : Port) → (change p).id ≡ p.id)
    → ((p : Port) → (change p).name ≡ p.name) → (ports : List Port) (pair : Pair)
    → AreOfPair ports pair → AreOfPair (map change ports) pair
mapped change ids names ports pair all =
    each-map (IsPortOfPair pair) (IsPortOfPair pair) change
    (λ p here same. rw (names p) (here (sym (ids p) ∙ same))) ports all

changed :
    (id : ℕ) (change : Port → Port) → ((p : Port) → (change p).id ≡ p.id)
    → ((p : Port) → (change p).name ≡ p.name) → (ports : List Port) (pair : Pair)
    → AreOfPair ports pair → AreOfPair (changed_at id change ports) pair
changed id change ids names ports pair all =
    mapped (λ (p : Port). changed_if (p.id == id) change p)
    (λ p. kept-if (λ (q : Port). q.id) (p.id == id) change p (ids p))
    (λ p. kept-if (λ (q : Port). q.name) (p.id == id) change p (names p)) ports pair all

-- what a sender teaches is of its switch
taught :
    (count : ℕ) (ports : List Port) (sender : Port) (pairs : List Pair) (frame : Frame)
    → sender.id ≤ count
    → Each (λ (p : Port). p.id ≡ sender.id → is_on_switch (switch_of sender.name) p ≡ true) ports
    → ArePairs count ports pairs → ArePairs count ports (learned sender pairs frame)
taught count ports sender pairs frame under on all = by_test (is_learnable frame)
  where
    by_test :
        (b : Bool)
        → ArePairs count ports
        (cond b
        (record { switch = switch_of sender.name; address = source_address frame; port = sender.id }
        ∷ pairs) pairs)
    by_test true = (record { within = under; on_switch = on }, all)
    by_test false = all

batch :
    (count : ℕ) (ports : List Port) (sender : Port) (pairs : List Pair) (frames : List Frame)
    → sender.id ≤ count
    → Each (λ (p : Port). p.id ≡ sender.id → is_on_switch (switch_of sender.name) p ≡ true) ports
    → ArePairs count ports pairs → ArePairs count ports (learned_of_batch sender pairs frames)
batch count ports sender pairs [] under on all = all
batch count ports sender pairs (frame ∷ frames) under on all =
    batch count ports sender (learned sender pairs frame) frames under on
    (taught count ports sender pairs frame under on all)

on-itself :
    (port : Port) → is_switch_port_name port.name ≡ true
    → is_on_switch (switch_of port.name) port ≡ true
on-itself port named =
    rw (named, (bytes_eq-Decides (switch_of port.name) (switch_of port.name)).1 refl) refl

abbrev Paired : Standing → Type 0
Paired s = ArePairs s.world.entry_count s.world.ports s.world.pairs

abbrev PairedNext : Standing → Outcome → Type 0
PairedNext s made = ArePairs (s.world.entry_count + 1) made.next.world.ports made.next.world.pairs

paired_send :
    (s : Standing) (frames : List Frame) (id : ℕ) (port : Port)
    → open_port s.world.ports id ≡ Some port
    → can_send s.world frames port ≡ true → Numbered s → Paired s
    → PairedNext s (send_step s frames port)
paired_send s frames id port e can n k =
    let w = s.world in
    let p = open-place w.ports w.entry_count id port n.ports_rise e in
    let named =
    and_parts (is_switch_port_name port.name) (is_settled w port.session && is_sendable frames) can
    in
    let under : port.id ≤ w.entry_count =
    each-at (λ (q : Port). q.id ≤ w.entry_count) w.ports p.place port (ports-within s n) p.here in
    let on = each-weaker (λ (q : Port). q.id ≡ port.id → q ≡ port)
    (λ (q : Port). q.id ≡ port.id → is_on_switch (switch_of port.name) q ≡ true)
    (λ q only same.
    subst (λ (r : Port). is_on_switch (switch_of port.name) r ≡ true) (sym (only same))
    (on-itself port named.0)) w.ports
    (only-place w.ports w.entry_count p.place port n.ports_rise p.here) in
    pairs-later w.entry_count w.ports (learned_of_batch port w.pairs frames)
    (batch w.entry_count w.ports port w.pairs frames under on k)

paired_open : (s : Standing) (new : Port) → new.id ≡ s.world.entry_count + 1 → Paired s
    → ArePairs (s.world.entry_count + 1) (s.world.ports ++ new ∷ []) s.world.pairs
paired_open s new id k =
    let w = s.world in
    each-weaker (IsPairOf w.entry_count w.ports) (IsPairOf (w.entry_count + 1) (w.ports ++ new ∷ []))
    (λ pair here.
    let low = here.within in
    record {
      within = omega (arith, low);
      on_switch =
          each-append (IsPortOfPair pair) w.ports (new ∷ []) here.on_switch
          ((λ same. absurd (omega (arith, low, id, same))), tt);
    }) w.pairs k

paired_kinds : (s : Standing) → Numbered s → Paired s → EachKind s (λ ask made. PairedNext s made)
paired_kinds s n k = record {
  enters = λ user fits. still;
  quiet = λ ask session reply quiet. still;
  opens =
      λ session name tx rx extra can refusal. paired_open s
      (opened_port (s.world.entry_count + 1) session.0 name tx rx extra) refl k;
  sends = λ from frames port e can settled. paired_send s frames from.0 port e can n k;
  grants =
      λ origin to offer first same.
      moved offer.to
      (port_after_grant (s.world.entry_count + 1) offer.session (granted_frames s.world offer))
      (λ p. refl) (λ p. refl);
  completes = λ lease lot e.
      pairs-ports s.world.entry_count s.world.ports _ s.world.pairs
      (λ pair all. mapped (port_after_done lease.0) (λ p. refl) (λ p. refl) s.world.ports pair all)
      k;
  receives =
      λ ask at back port receives e can. moved port.id (port_after_sync (length back)) (λ p. refl)
      (λ p. refl);
  puts = λ at offered items port peer e can found.
      moved peer.id (port_after_put (s.world.entry_count + 1) port.session (frames_of_items items))
      (λ p. refl) (λ p. refl);
  watches = λ at target sides port found e can there none. still;
  shuts = λ at port e settled. moved port.id shut (λ p. refl) (λ p. refl);
  finishes = λ at bufs chain port fits e can out.
      pairs-ports s.world.entry_count s.world.ports _ s.world.pairs
      (λ pair all.
      each-filter (IsPortOfPair pair) (λ (p : Port). not (p.id == port.id)) s.world.ports all) k;
  leaves = λ session can. still;
}
  where
    still : ArePairs (s.world.entry_count + 1) s.world.ports s.world.pairs
    still = pairs-later s.world.entry_count s.world.ports s.world.pairs k

    moved :
        (id : ℕ) (change : Port → Port) → ((p : Port) → (change p).id ≡ p.id)
        → ((p : Port) → (change p).name ≡ p.name)
        → ArePairs (s.world.entry_count + 1) (changed_at id change s.world.ports) s.world.pairs
    moved id change ids names =
        pairs-ports s.world.entry_count s.world.ports (changed_at id change s.world.ports)
        s.world.pairs (λ pair all. changed id change ids names s.world.ports pair all) k

record Both (s : Standing) : Type 0 where
  numbered : Numbered s
  paired : Paired s

both_entry : (s : Standing) (e : Entry) → Both s → Both (after s e)
both_entry s e b = record {
  numbered = numbered_entry s e b.numbered;
  paired =
      after-by s Paired e (pairs-later s.world.entry_count s.world.ports s.world.pairs b.paired)
      (paired_kinds s b.numbered b.paired);
}

pub pairs-of_switch : PairsAreOfSwitch
pairs-of_switch pool h =
    (standing-by Both both_entry (fresh_standing pool) h
    (record { numbered = world-numbered pool []; paired = tt })).paired
