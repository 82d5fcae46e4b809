-- What each entry makes of the tally keeps it the counters of the world.
use Rattle.std.proofs.Common.{ℕ, suc, Bool, true, false, cond, not, ◌≡◌, ◌≤◌, ◌<◌, ◌+◌, List, [], ◌∷◌, ◌++◌, length, map, filter, find, insert, Option, Some, None, is_some, refl, sym, ◌∙◌, ap, subst, arith, ◌==◌, ◌||◌, nat_lt}
use Rattle.std.specs.Prelude.{option_map}
use Rattle.std.specs.List.{AllByRecursion as Each, list_any}
use Rattle.std.proofs.lemmas.Bool.{eq-eqb, ne_eqb, lt-ltb}
use Rattle.std.proofs.lemmas.List.{length-map, map-append}
use Rattle.nm_types.specs.declared.id.PortId.{PortId}
use Rattle.nm_types.specs.declared.id.Counts.{Counts}
use Rattle.nm_types.specs.Counters.{zero_counts, sum_of_counts}
use Rattle.nm_count.specs.declared.tally.Tallied.{Tallied}
use Rattle.nm_count.specs.Tallies.{is_port, rank_of, counts_of, zero_tallied, tally_with, tally_after_add, tally_without}
use Rattle.vale_entry.specs.declared.entry.Ask.{Ask}
use Rattle.vale_entry.specs.declared.entry.Ask.TheVariants.{Enter, Open, Send, Grant, Done, Sync, Get, Reset, Shut, Finish, Leave, PutKept, Watch, Stat}
use Rattle.vale_entry.specs.declared.entry.Reply.{Reply}
use Rattle.vale_entry.specs.declared.entry.Reply.TheVariants.{Made, Refused, PeerGone, NoTarget, Watched, Counted}
use Rattle.vale_entry.specs.declared.entry.Entry.{Entry}
use Rattle.vale_entry.specs.World.{World, Port, PortCounts}
use Rattle.vale_entry.specs.Pipe.{peer_at, is_port_at}
use Rattle.vale_entry.specs.Counters.{counts_if, with_counted, counted_in, count_sent, count_shared, count_gave_at, count_put, count_taken_at}
use Rattle.vale_entry.specs.Counters.{counts_of as world_counts}
use Rattle.vale_entry.specs.Legal.{Standing, after, standing_of, world_of, Follows, unchanged, enter_step, open_step_by, send_step, grant_step, done_step, sync_step, put_step, watch_step, shut_step, finish_step, leave_step}
use Rattle.vale_entry.specs.Laws.{Rise, id_of_port, id_of_counted, AreCountedAt}
use Rattle.vale_entry.proofs.Each.{each-unmap}
use Rattle.vale_entry.proofs.Removals.{map-filter}
use Rattle.vale_entry.proofs.Rising.{rise-bounds}
use Rattle.vale_entry.proofs.Places.{open-place, shutting-place}
use Rattle.vale_entry.proofs.Watched.{any-at}
use Rattle.vale_entry.proofs.Worlds.{standing-push}
use Rattle.vale_entry.proofs.Numbered.{Numbered, world-numbered}
use Rattle.vale_entry.proofs.CountersKept.{counters-kept}
use Rattle.vale_entry.proofs.Follows.{EachKind, Left, entry_made, IsQuiet, refused_open, resets, finds_no_peer, finds_no_target, finds_watched, counts, Receives, by_sync, by_get, follows-by}
use Rattle.vale_parts.specs.Ids.{port_id}
use Rattle.vale_parts.specs.WorldCounts.{counted_as, CountsAre, added_at, tally_after}
use Rattle.vale_parts.specs.CountLaws.{CountsFollow, OpenPortsAreCounted, ShuttingPortsAreCounted, NextPortsAreNot, AsManyAreCounted, NothingIsAdded, NowhereIsAdded}
use Rattle.vale_parts.proofs.Sums.{sum-zero, sum-sum, eqb-turned}

-- ---- adding

-- the counters with more
abbrev counted_with : PortCounts → Counts → PortCounts
counted_with counted more = record counted { counts = sum_of_counts counted.counts more }

abbrev more_at : ℕ → Counts → PortCounts → PortCounts
more_at at more counted = counted_with counted (counts_if (at == counted.port) more)

agree : {X Y : Type 0} (f g : X → Y) → ((x : X) → f x ≡ g x) → (xs : List X) → map f xs ≡ map g xs
agree f g same [] = refl
agree f g same (x ∷ xs) = ap (λ y. y ∷ map f xs) (same x) ∙ ap (λ ys. g x ∷ ys) (agree f g same xs)

twice : {X : Type 0} (f g h : X → X) → ((x : X) → g (f x) ≡ h x) → (xs : List X) → map g (map f xs) ≡ map h xs
twice f g h same [] = refl
twice f g h same (x ∷ xs) = ap (λ y. y ∷ map g (map f xs)) (same x) ∙ ap (λ ys. h x ∷ ys) (twice f g h same xs)

add_one : (at : ℕ) (more : Counts) (t : Tallied) (b : Bool) → counted_as (cond b (record t { counts = sum_of_counts t.counts more }) t) ≡ counted_with (counted_as t) (counts_if b more)
add_one at more t true = refl
add_one at more t false = ap (λ (c : Counts). counted c) (sym (sum-zero t.counts))
  where
    counted : Counts → PortCounts
    counted c = record { port = t.port.0; counts = c }

adds : (at : ℕ) (more : Counts) (tally : List Tallied) → map counted_as (tally_after_add at more tally) ≡ map (more_at at more) (map counted_as tally)
adds at more [] = refl
adds at more (t ∷ ts) =
    ap (λ (c : PortCounts). c ∷ map counted_as (tally_after_add at more ts))
    (add_one at more t (t.port.0 == at) ∙ ap (λ (b : Bool). counted_with (counted_as t) (counts_if b more)) (eqb-turned at t.port.0))
    ∙ ap (λ (cs : List PortCounts). more_at at more (counted_as t) ∷ cs) (adds at more ts)

-- ---- an entry

module _ (w : World) (tally : List Tallied) (are : CountsAre w tally) where
  -- that counts nothing
  still : (e : Entry) → ((port : ℕ) → counted_in port w e ≡ zero_counts) → map counted_as tally ≡ map (with_counted w e) w.counts
  still e none = are ∙ same w.counts
    where
      same : (cs : List PortCounts) → cs ≡ map (with_counted w e) cs
      same [] = refl
      same (c ∷ cs) =
          ap (λ (d : PortCounts). d ∷ cs) (sym (ap (counted_with c) (none c.port) ∙ nothing_more c)) ∙ ap (λ (ds : List PortCounts). with_counted w e c ∷ ds) (same cs)
        where
          nothing_more : (c : PortCounts) → counted_with c zero_counts ≡ c
          nothing_more c = ap (λ (x : Counts). record c { counts = x }) (sum-zero c.counts)

  -- that counts at one port
  added : (e : Entry) (at : ℕ) (more : Counts) → ((port : ℕ) → counted_in port w e ≡ counts_if (at == port) more) → map counted_as (tally_after_add at more tally) ≡ map (with_counted w e) w.counts
  added e at more counted =
      adds at more tally
      ∙ (ap (map (more_at at more)) are ∙ agree (more_at at more) (with_counted w e) (λ c. ap (counted_with c) (sym (counted c.port))) w.counts)

  -- that counts at both ends of a pipe
  put_by : (e : Entry) (at : ℕ) (put taken : Counts) (peer : Option Port) → ((port : ℕ) → counted_in port w e ≡ sum_of_counts (counts_if (at == port) put) (counts_if (is_port_at port peer) taken))
      → map counted_as (added_at peer taken (tally_after_add at put tally)) ≡ map (with_counted w e) w.counts
  put_by e at put taken None counted = added e at put (λ port. counted port ∙ sum-zero (counts_if (at == port) put))
  put_by e at put taken (Some peer) counted =
      adds peer.id taken (tally_after_add at put tally)
      ∙ (ap (map (more_at peer.id taken)) (adds at put tally ∙ ap (map (more_at at put)) are)
      ∙ twice (more_at at put) (more_at peer.id taken) (with_counted w e)
      (λ c. ap (λ (x : Counts). record c { counts = x }) (sum-sum c.counts (counts_if (at == c.port) put) (counts_if (peer.id == c.port) taken)) ∙ ap (counted_with c) (sym (counted c.port))) w.counts)

-- ---- places

pub each_under : (low : ℕ) (ns : List ℕ) (high : ℕ) → Rise low ns high → Each (λ (n : ℕ). n ≤ high) ns
each_under low [] high r = tt
each_under low (n ∷ ns) high r = (rise-bounds n ns high r.1, each_under n ns high r.1)

abbrev id_of_tallied : Tallied → ℕ
id_of_tallied tallied = tallied.port.0

ids_seen : (tally : List Tallied) → map id_of_counted (map counted_as tally) ≡ map id_of_tallied tally
ids_seen [] = refl
ids_seen (t ∷ ts) = ap (λ (ns : List ℕ). t.port.0 ∷ ns) (ids_seen ts)

ids_are : (w : World) (tally : List Tallied) → CountsAre w tally → AreCountedAt w → map id_of_tallied tally ≡ map id_of_port w.ports
ids_are w tally are counted = sym (ids_seen tally) ∙ (ap (map id_of_counted) are ∙ counted)

ports_under : (w : World) (tally : List Tallied) (high : ℕ) → CountsAre w tally → AreCountedAt w → Rise 0 (map id_of_port w.ports) high → Each (λ (t : Tallied). t.port.0 ≤ high) tally
ports_under w tally high are counted r =
    each-unmap (λ (n : ℕ). n ≤ high) id_of_tallied tally (subst (Each (λ (n : ℕ). n ≤ high)) (sym (ids_are w tally are counted)) (each_under 0 (map id_of_port w.ports) high r))

-- a port above all others goes behind them
at_end : (high : ℕ) (tally : List Tallied) (new : ℕ) (z : Tallied) → high < new → Each (λ (t : Tallied). t.port.0 ≤ high) tally → insert tally (rank_of new tally) z ≡ tally ++ z ∷ []
at_end high [] new z up all = refl
at_end high (t ∷ ts) new z up all =
    let low : (nat_lt t.port.0 new) ≡ true = lt-ltb t.port.0 new (let here = all.0 in omega (arith, up, here)) in
    let next : 1 + rank_of new ts ≡ suc (rank_of new ts) = omega arith in
    let rest = at_end high ts new z up all.1 in
    rw (low, next) (ap (λ (us : List Tallied). t ∷ us) rest)

-- ---- entry by entry

module _ (s : Standing) (n : Numbered s) (counted : AreCountedAt s.world) (tally : List Tallied) (are : CountsAre s.world tally) where
  abbrev w : World
  w = s.world

  abbrev Kept : Entry → Standing → Type 0
  Kept e left = CountsAre left.world (tally_after w e.ask e.reply tally)

  put : (session : ℕ) (at : PortId) (offered : ℕ) (reply : Reply)
      → map counted_as (tally_after w (PutKept at offered) reply tally) ≡ map (with_counted w (record { session = record { 0 = session }; ask = PutKept at offered; reply = reply })) w.counts
  put session at offered reply =
      put_by w tally are (record { session = record { 0 = session }; ask = PutKept at offered; reply = reply }) at.0 (count_put reply) (count_taken_at reply) (peer_at w.ports at.0) (λ port. refl)

  quiet : (ask : Ask) (session : ℕ) (reply : Reply) → IsQuiet s ask session reply → Left s Kept ask (unchanged s session reply)
  quiet _ _ _ (refused_open session name tx rx extra fault can e) = still w tally are (entry_made (Open session name tx rx extra) (unchanged s session.0 (Refused fault))) (λ port. refl)
  quiet _ _ _ (resets at side fault port e can) = still w tally are (entry_made (Reset at side fault) (unchanged s port.session Made)) (λ p. refl)
  quiet _ _ _ (finds_no_peer at offered port e few gone) = put port.session at offered PeerGone
  quiet _ _ _ (finds_no_target at target sides port e can none) = still w tally are (entry_made (Watch at target sides) (unchanged s port.session NoTarget)) (λ p. refl)
  quiet _ _ _ (finds_watched at target sides port found watch e can there some) =
      still w tally are (entry_made (Watch at target sides) (unchanged s port.session (Watched (record { 0 = watch.monitor })))) (λ p. refl)
  quiet _ _ _ (counts at port e) = still w tally are (entry_made (Stat at) (unchanged s port.session (Counted (world_counts w.counts port.id)))) (λ p. refl)

  read : (ask : Ask) (at : PortId) (back : List ℕ) (port : Port) → Receives ask at back → Left s Kept ask (sync_step s back port)
  read _ _ _ port (by_sync at back) = added w tally are (entry_made (Sync at back) (sync_step s back port)) at.0 (count_gave_at (sync_step s back port).reply) (λ p. refl)
  read _ _ _ port (by_get at back) = added w tally are (entry_made (Get at back) (sync_step s back port)) at.0 (count_gave_at (sync_step s back port).reply) (λ p. refl)

  opened : (e : Entry) → ((port : ℕ) → counted_in port w e ≡ zero_counts)
      → map counted_as (tally_with (port_id (w.entry_count + 1)) tally) ≡ map (with_counted w e) w.counts ++ (record { port = w.entry_count + 1; counts = zero_counts }) ∷ []
  opened e none =
      let z = zero_tallied (port_id (w.entry_count + 1)) in
      let up : w.entry_count < w.entry_count + 1 = omega arith in
      ap (map counted_as) (at_end w.entry_count tally (w.entry_count + 1) z up (ports_under w tally w.entry_count are counted n.ports_rise))
      ∙ (map-append counted_as tally (z ∷ []) ∙ ap (λ (cs : List PortCounts). cs ++ counted_as z ∷ []) (still w tally are e none))

  finished : (e : Entry) (at : ℕ) → ((port : ℕ) → counted_in port w e ≡ zero_counts)
      → map counted_as (tally_without at tally) ≡ filter (λ (c : PortCounts). not (c.port == at)) (map (with_counted w e) w.counts)
  finished e at none = map-filter counted_as (λ (c : PortCounts). not (c.port == at)) tally ∙ ap (filter (λ (c : PortCounts). not (c.port == at))) (still w tally are e none)

  kinds : EachKind s (Left s Kept)
  kinds = record {
    enters = λ user fits. still w tally are (entry_made (Enter user) (enter_step s)) (λ p. refl);
    quiet = quiet;
    opens = λ session name tx rx extra can refusal. opened (entry_made (Open session name tx rx extra) (open_step_by None s session.0 name tx rx extra)) (λ p. refl);
    sends = λ from frames port e can settled. added w tally are (entry_made (Send from frames) (send_step s frames port)) from.0 (count_sent frames (send_step s frames port).reply) (λ p. refl);
    grants = λ origin to offer first same. added w tally are (entry_made (Grant origin to) (grant_step s offer)) to.0 (count_shared (grant_step s offer).reply) (λ p. refl);
    completes = λ lease lot e. still w tally are (entry_made (Done lease) (done_step s lease.0 lot)) (λ p. refl);
    receives = λ ask at back port receives e can. read ask at back port receives;
    puts = λ at offered items port peer e can found. put port.session at offered (put_step s items port peer).reply;
    watches = λ at target sides port found e can there none. still w tally are (entry_made (Watch at target sides) (watch_step s sides port found)) (λ p. refl);
    shuts = λ at port e settled. still w tally are (entry_made (Shut at) (shut_step s port)) (λ p. refl);
    finishes = λ at bufs chain port fits e can out. finished (entry_made (Finish at bufs chain) (finish_step s bufs port)) at.0 (λ p. refl);
    leaves = λ session can. still w tally are (entry_made (Leave session) (leave_step s session.0)) (λ p. refl);
  }

  pub kept : (e : Entry) → Follows s e → Kept e (after s e)
  kept e follows = follows-by s Kept e follows kinds

pub counts_follow : CountsFollow
counts_follow pool h e tally legal follows are =
    let s = standing_of pool h in
    subst (λ (t : Standing). CountsAre t.world (tally_after s.world e.ask e.reply tally)) (sym (standing-push pool h e)) (kept s (world-numbered pool h) (counters-kept pool h legal) tally are e follows)

-- ---- who is counted

any_seen : {X : Type 0} (key : X → ℕ) (id : ℕ) (xs : List X) → list_any (λ (n : ℕ). n == id) (map key xs) ≡ list_any (λ x. key x == id) xs
any_seen key id [] = refl
any_seen key id (x ∷ xs) = ap (λ (b : Bool). (key x == id) || b) (any_seen key id xs)

there : (w : World) (tally : List Tallied) (id : ℕ) → CountsAre w tally → AreCountedAt w → list_any (λ (p : Port). p.id == id) w.ports ≡ true → list_any (is_port id) tally ≡ true
there w tally id are counted here =
    sym (any_seen id_of_tallied id tally) ∙ (ap (list_any (λ (n : ℕ). n == id)) (ids_are w tally are counted) ∙ (any_seen id_of_port id w.ports ∙ here))

told : (tally : List Tallied) (id : ℕ) → list_any (is_port id) tally ≡ true → counts_of tally id ≡ Some (world_counts (map counted_as tally) id)
told [] id here = absurd cc
told (t ∷ ts) id here = by_test (t.port.0 == id) (told ts id) here
  where
    by_test : (b : Bool) → (list_any (is_port id) ts ≡ true → counts_of ts id ≡ Some (world_counts (map counted_as ts) id)) → (b || list_any (is_port id) ts) ≡ true
        → option_map (λ (x : Tallied). x.counts) (cond b (Some t) (find (is_port id) ts)) ≡ Some (cond b t.counts (world_counts (map counted_as ts) id))
    by_test true rest here = refl
    by_test false rest here = rest here

pub open_counted : OpenPortsAreCounted
open_counted pool h tally id port legal are e =
    let w = world_of pool h in
    let place = open-place w.ports w.entry_count id port (world-numbered pool h).ports_rise e in
    let here = any-at (λ (p : Port). p.id == id) w.ports place.place port place.here (eq-eqb port.id id place.id_is) in
    told tally id (there w tally id are (counters-kept pool h legal) here) ∙ ap (λ (cs : List PortCounts). Some (world_counts cs id)) are

pub shutting_counted : ShuttingPortsAreCounted
shutting_counted pool h tally id port legal are e =
    let w = world_of pool h in
    let place = shutting-place w.ports w.entry_count id port (world-numbered pool h).ports_rise e in
    let here = any-at (λ (p : Port). p.id == id) w.ports place.place port place.here (eq-eqb port.id id place.id_is) in
    ap (λ (found : Option Counts). is_some found) (told tally id (there w tally id are (counters-kept pool h legal) here))

none_next : (high : ℕ) (tally : List Tallied) (new : ℕ) → high < new → Each (λ (t : Tallied). t.port.0 ≤ high) tally → find (is_port new) tally ≡ None
none_next high [] new up all = refl
none_next high (t ∷ ts) new up all =
    let miss : (t.port.0 == new) ≡ false = ne_eqb t.port.0 new (λ same. let here = all.0 in absurd (omega (arith, up, here, same))) in
    rw miss (none_next high ts new up all.1)

pub next_not : NextPortsAreNot
next_not pool h tally legal are =
    let w = world_of pool h in
    let up : w.entry_count < w.entry_count + 1 = omega arith in
    ap (option_map (λ (t : Tallied). t.counts)) (none_next w.entry_count tally (w.entry_count + 1) up (ports_under w tally w.entry_count are (counters-kept pool h legal) (world-numbered pool h).ports_rise))

pub as_many : AsManyAreCounted
as_many pool h tally legal are =
    let w = world_of pool h in
    sym (length-map tally id_of_tallied) ∙ (ap (λ (ns : List ℕ). length ns) (ids_are w tally are (counters-kept pool h legal)) ∙ length-map w.ports id_of_port)

-- ---- nothing to add

pub nothing_added : NothingIsAdded
nothing_added [] port = refl
nothing_added (t ∷ ts) port = ap (λ (u : Tallied). u ∷ tally_after_add port zero_counts ts) (same (is_port port t)) ∙ ap (λ (us : List Tallied). t ∷ us) (nothing_added ts port)
  where
    same : (b : Bool) → cond b (record t { counts = sum_of_counts t.counts zero_counts }) t ≡ t
    same true = ap (λ (c : Counts). record t { counts = c }) (sum-zero t.counts)
    same false = refl

pub nowhere_added : NowhereIsAdded
nowhere_added [] port more none = refl
nowhere_added (t ∷ ts) port more none = by_test (is_port port t) (nowhere_added ts port more) none
  where
    by_test : (b : Bool) → (counts_of ts port ≡ None → tally_after_add port more ts ≡ ts) → option_map (λ (x : Tallied). x.counts) (cond b (Some t) (find (is_port port) ts)) ≡ None
        → cond b (record t { counts = sum_of_counts t.counts more }) t ∷ tally_after_add port more ts ≡ t ∷ ts
    by_test true rest none = absurd cc
    by_test false rest none = ap (λ (us : List Tallied). t ∷ us) (rest none)
