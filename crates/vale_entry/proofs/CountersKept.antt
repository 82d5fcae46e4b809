-- Each port that is there has counters, and nothing else has.
use Rattle.std.proofs.Common.{ℕ, ◌+◌, ◌≡◌, Bool, true, false, cond, not, ◌==◌, List, [], ◌∷◌, ◌++◌, map, filter, length, None, refl, sym, ◌∙◌, ap, subst}
use Rattle.std.proofs.lemmas.List.{map-append}
use Rattle.vale_entry.specs.declared.entry.Ask.{Ask}
use Rattle.vale_entry.specs.declared.entry.Reply.{Reply}
use Rattle.vale_entry.specs.declared.entry.Entry.{Entry}
use Rattle.vale_entry.specs.World.{World, Port, PortCounts, changed_at}
use Rattle.vale_entry.specs.Opening.{opened_port}
use Rattle.vale_entry.specs.Grant.{port_after_grant, granted_frames}
use Rattle.vale_entry.specs.Delivery.{port_after_done, port_after_sync}
use Rattle.vale_entry.specs.Closing.{shut, ports_without}
use Rattle.vale_entry.specs.Pipe.{frames_of_items, port_after_put}
use Rattle.vale_entry.specs.Counters.{with_counted, counts_moved}
use Rattle.nm_types.specs.Counters.{zero_counts}
use Rattle.nm_types.specs.declared.id.PortId.{PortId}
use Rattle.vale_entry.specs.declared.entry.Ask.TheVariants.{Enter, Open, Send, Grant, Done, Shut, Finish, Leave, PutKept, Watch}
use Rattle.vale_entry.specs.Legal.{Standing, Outcome, standing_of, world_of, IsLegal, Follows, unchanged, enter_step, open_step_by, send_step, grant_step, done_step, sync_step, put_step, watch_step, shut_step, finish_step, leave_step}
use Rattle.vale_entry.specs.Laws.{id_of_port, id_of_counted, AreCountedAt, CountersAreKept}
use Rattle.vale_entry.proofs.Each.{map-changed_at}
use Rattle.vale_entry.proofs.Worlds.{standing-push}
use Rattle.vale_entry.proofs.Told.{history-by}
use Rattle.vale_entry.proofs.Places.{shutting-place}
use Rattle.vale_entry.proofs.Numbered.{Numbered, world-numbered}
use Rattle.vale_entry.proofs.Follows.{EachKind, Left, entry_made, IsQuiet, refused_open, Receives, by_sync, by_get, follows-by}

-- counting keeps whose the counters are
ids-counted :
    (w : World) (e : Entry) (cs : List PortCounts)
    → map id_of_counted (map (with_counted w e) cs) ≡ map id_of_counted cs
ids-counted w e [] = refl
ids-counted w e (c ∷ cs) = ap (λ (ids : List ℕ). c.port ∷ ids) (ids-counted w e cs)

ids-mapped :
    (change : Port → Port) → ((p : Port) → (change p).id ≡ p.id) → (ports : List Port)
    → map id_of_port (map change ports) ≡ map id_of_port ports
ids-mapped change ids [] = refl
ids-mapped change ids (p ∷ ps) = let here = ids p in let rest = ids-mapped change ids ps in cc

abbrev stays : ℕ → ℕ → Bool
stays gone n = not (n == gone)

kept_if :
    {X : Type 0} (key : X → ℕ) (x : X) (rest : List X) (ids : List ℕ) (b : Bool)
    → map key rest ≡ ids → map key (cond b (x ∷ rest) rest) ≡ cond b (key x ∷ ids) ids
kept_if key x rest ids true e = ap (λ (ns : List ℕ). key x ∷ ns) e
kept_if key x rest ids false e = e

ids-without :
    {X : Type 0} (key : X → ℕ) (gone : ℕ) (xs : List X)
    → map key (filter (λ x. not (key x == gone)) xs) ≡ filter (stays gone) (map key xs)
ids-without key gone [] = refl
ids-without key gone (x ∷ xs) =
    kept_if key x (filter (λ y. not (key y == gone)) xs) (filter (stays gone) (map key xs))
    (not (key x == gone)) (ids-without key gone xs)

-- entries that open no port and end none
pub moved-quiet :
    (s : Standing) (number : ℕ) (ask : Ask) (session : ℕ) (reply : Reply) (cs : List PortCounts)
    → IsQuiet s ask session reply → counts_moved number ask reply cs ≡ cs
moved-quiet s number _ _ _ cs (refused_open session name tx rx extra fault can e) = refl
moved-quiet s number _ _ _ cs _ = refl

pub moved-read :
    (number : ℕ) (ask : Ask) (at : PortId) (back : List ℕ) (reply : Reply) (cs : List PortCounts)
    → Receives ask at back → counts_moved number ask reply cs ≡ cs
moved-read number _ _ _ reply cs (by_sync at back) = refl
moved-read number _ _ _ reply cs (by_get at back) = refl

abbrev Kept : Entry → Standing → Type 0
Kept e left = AreCountedAt left.world

module _ (s : Standing) (n : Numbered s) (k : AreCountedAt s.world) where
  abbrev w : World
  w = s.world

  -- an entry that only counts
  still : (e : Entry) → map id_of_counted (map (with_counted w e) w.counts) ≡ map id_of_port w.ports
  still e = ids-counted w e w.counts ∙ k

  changed :
      (e : Entry) (id : ℕ) (change : Port → Port) → ((p : Port) → (change p).id ≡ p.id)
      → map id_of_counted (map (with_counted w e) w.counts) ≡ map id_of_port
      (changed_at id change w.ports)
  changed e id change ids = still e ∙ sym (map-changed_at id_of_port id change ids w.ports)

  opened : (e : Entry) (counted : PortCounts) (new : Port) → counted.port ≡ new.id
      → map id_of_counted (map (with_counted w e) w.counts ++ counted ∷ [])
      ≡ map id_of_port (w.ports ++ new ∷ [])
  opened e counted new same =
      map-append id_of_counted (map (with_counted w e) w.counts) (counted ∷ [])
      ∙ (ap (λ (ids : List ℕ). ids ++ counted.port ∷ []) (still e)
      ∙
      (ap (λ (id : ℕ). map id_of_port w.ports ++ id ∷ []) same
      ∙ sym (map-append id_of_port w.ports (new ∷ []))))

  finished : (e : Entry) (at : ℕ) (port : Port) → port.id ≡ at
      → map id_of_counted
      (filter (λ (c : PortCounts). not (c.port == at)) (map (with_counted w e) w.counts))
      ≡ map id_of_port (ports_without port.id w.ports)
  finished e at port same =
      ids-without id_of_counted at (map (with_counted w e) w.counts)
      ∙ (ap (filter (stays at)) (still e)
      ∙
      (sym (ids-without id_of_port at w.ports)
      ∙ ap (λ (id : ℕ). map id_of_port (ports_without id w.ports)) (sym same)))

  kinds : EachKind s (Left s Kept)
  kinds = record {
    enters = λ user fits. still (entry_made (Enter user) (enter_step s));
    quiet = λ ask session reply quiet.
        let e : Entry = entry_made ask (unchanged s session reply) in
        ap (map id_of_counted)
        (moved-quiet s (w.entry_count + 1) ask session reply (map (with_counted w e) w.counts) quiet)
        ∙ still e;
    opens =
        λ session name tx rx extra can refusal.
        opened
        (entry_made (Open session name tx rx extra) (open_step_by None s session.0 name tx rx extra))
        (record { port = w.entry_count + 1; counts = zero_counts })
        (opened_port (w.entry_count + 1) session.0 name tx rx extra) refl;
    sends =
        λ from frames port e can settled. still
        (entry_made (Send from frames) (send_step s frames port));
    grants =
        λ origin to offer first same.
        changed (entry_made (Grant origin to) (grant_step s offer)) offer.to
        (port_after_grant (w.entry_count + 1) offer.session (granted_frames w offer)) (λ p. refl);
    completes =
        λ lease lot e. still (entry_made (Done lease) (done_step s lease.0 lot)) ∙ sym
        (ids-mapped (port_after_done lease.0) (λ p. refl) w.ports);
    receives = λ ask at back port receives e can.
        let made : Outcome = sync_step s back port in
        let x : Entry = entry_made ask made in
        ap (map id_of_counted)
        (moved-read (w.entry_count + 1) ask at back made.reply (map (with_counted w x) w.counts)
        receives) ∙ changed x port.id (port_after_sync (length back)) (λ p. refl);
    puts =
        λ at offered items port peer e can found.
        changed (entry_made (PutKept at offered) (put_step s items port peer)) peer.id
        (port_after_put (w.entry_count + 1) port.session (frames_of_items items)) (λ p. refl);
    watches =
        λ at target sides port found e can there none. still
        (entry_made (Watch at target sides) (watch_step s sides port found));
    shuts =
        λ at port e settled. changed (entry_made (Shut at) (shut_step s port)) port.id shut
        (λ p. refl);
    finishes =
        λ at bufs chain port fits e can out.
        finished (entry_made (Finish at bufs chain) (finish_step s bufs port)) at.0 port
        (shutting-place w.ports w.entry_count at.0 port n.ports_rise e).id_is;
    leaves = λ session can. still (entry_made (Leave session) (leave_step s session.0));
  }

pub counters-kept : CountersAreKept
counters-kept pool h legal =
    history-by pool (λ (h : List Entry). AreCountedAt (world_of pool h)) keeps refl h legal
  where
    keeps :
        (h : List Entry) (e : Entry) → IsLegal pool h → Follows (standing_of pool h) e
        → AreCountedAt (world_of pool h) → AreCountedAt (world_of pool (h ++ e ∷ []))
    keeps h e legal follows k =
        subst (λ (s : Standing). AreCountedAt s.world) (sym (standing-push pool h e))
        (follows-by (standing_of pool h) Kept e follows
        (kinds (standing_of pool h) (world-numbered pool h) k))
