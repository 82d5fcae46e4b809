-- Both ends of each watch are open, the monitor's port bears a monitor's name, and a port has one
-- monitor at most.
use Rattle.std.proofs.Common.{ℕ, zero, suc, ◌+◌, ◌<◌, ◌≤◌, ◌≡◌, Bool, true, false, cond, not, ◌&&◌, ◌||◌, ◌==◌, List, [], ◌∷◌, ◌++◌, map, length, filter, count_by, Some, None, refl, sym, ◌∙◌, ap, subst, arith, slice_get}
use Rattle.std.specs.Prelude.{bytes_eq}
use Rattle.std.specs.List.{AllByRecursion as Each, list_any}
use Rattle.std.proofs.lemmas.Bool.{and_parts, or_parts, eqb-true, eqb-false, eq-eqb, ne_eqb, not-true}
use Rattle.std.proofs.lemmas.List.Sums.{sum_by-cons, sum_by_push}
use Rattle.nm_types.specs.Names.{is_name, is_monitor_name}
use Rattle.std.proofs.lemmas.Slice.Eq.{bytes_eq-Decides}
use Rattle.vale_entry.specs.World.{Port, Watch as Watcher, is_open_at, open_port, changed_if, changed_at}
use Rattle.vale_entry.specs.Opening.{opened_port}
use Rattle.vale_entry.specs.Grant.{port_after_grant, granted_frames}
use Rattle.vale_entry.specs.Delivery.{port_after_done, port_after_sync}
use Rattle.vale_entry.specs.Closing.{shut, shutting_port, is_watch_of, watches_without, ports_without}
use Rattle.vale_entry.specs.Monitors.{is_open_as, open_port_as, is_watch_at, watch_of, can_watch}
use Rattle.vale_entry.specs.Pipe.{frames_of_items, port_after_put}
use Rattle.vale_entry.specs.Legal.{Standing, Outcome, after}
use Rattle.vale_entry.specs.declared.entry.Entry.{Entry}
use Rattle.vale_entry.specs.Laws.{Rise, id_of_port, is_monitor_open, is_target_open, IsWatch, AreWatches}
use Rattle.vale_entry.proofs.ListLaws.{place-of}
use Rattle.vale_entry.proofs.Rising.{rise-slice_get, rise-above}
use Rattle.vale_entry.proofs.Each.{each-weaker, each-append, any-append_left, each-unmap}
use Rattle.vale_entry.proofs.Removals.{each-kept, sum-filter_less}
use Rattle.vale_entry.proofs.Places.{open-place, PortPlace, shutting-place}
use Rattle.vale_entry.proofs.Numbered.{Numbered}
use Rattle.vale_entry.proofs.Follows.{EachKind, after-by}

abbrev pub Watched : Standing → Type 0
Watched s = AreWatches s.world.ports s.world.watches

abbrev WatchedNext : Outcome → Type 0
WatchedNext made = Watched made.next

-- Searches.

any_map_by :
    (a b rest more : Bool) → (a ≡ true → b ≡ true) → (rest ≡ true → more ≡ true)
    → (a || rest) ≡ true → (b || more) ≡ true
any_map_by true b rest more here later e = ap (λ (c : Bool). c || more) (here refl)
any_map_by false true rest more here later e = refl
any_map_by false false rest more here later e = later e

pub any-map :
    {X : Type 0} (test : X → Bool) (change : X → X) (xs : List X)
    → Each (λ x. test x ≡ true → test (change x) ≡ true) xs → list_any test xs ≡ true
    → list_any test (map change xs) ≡ true
any-map test change [] all found = absurd cc
any-map test change (x ∷ xs) all found =
    any_map_by (test x) (test (change x)) (list_any test xs) (list_any test (map change xs)) all.0
    (any-map test change xs all.1) found

any_filter_by :
    {X : Type 0} (test stays : X → Bool) (x : X) (xs : List X) (b : Bool) → stays x ≡ b
    → (test x ≡ true → b ≡ true)
    → (list_any test xs ≡ true → list_any test (filter stays xs) ≡ true)
    → (test x || list_any test xs) ≡ true
    → list_any test (cond b (x ∷ filter stays xs) (filter stays xs)) ≡ true
any_filter_by test stays x xs true t keeps later found =
    any_map_by (test x) (test x) (list_any test xs) (list_any test (filter stays xs)) (λ e. e) later
    found
any_filter_by test stays x xs false t keeps later found = by_test (test x) refl found
  where
    by_test :
        (c : Bool) → test x ≡ c → (c || list_any test xs) ≡ true
        → list_any test (filter stays xs) ≡ true
    by_test true e found = absurd (let no : false ≡ true = keeps e in cc)
    by_test false e found = later found

pub any-filter :
    {X : Type 0} (test stays : X → Bool) (xs : List X)
    → Each (λ x. test x ≡ true → stays x ≡ true) xs → list_any test xs ≡ true
    → list_any test (filter stays xs) ≡ true
any-filter test stays [] all found = absurd cc
any-filter test stays (x ∷ xs) all found =
    any_filter_by test stays x xs (stays x) refl all.0 (any-filter test stays xs all.1) found

pub any-at :
    {X : Type 0} (test : X → Bool) (xs : List X) (i : ℕ) (x : X) → slice_get xs i ≡ Some x
    → test x ≡ true → list_any test xs ≡ true
any-at test [] i x e t = absurd cc
any-at test (y ∷ ys) zero x e t =
    let same : y ≡ x = cc in ap (λ (c : Bool). c || list_any test ys) (ap test same ∙ t)
any-at test (y ∷ ys) (suc i) x e t =
    any_map_by false (test y) true (list_any test ys) (λ no. absurd cc)
    (λ yes. any-at test ys i x e t) refl

-- an element that passes, with what holds of each
pub record IsAny {X : Type 0} (test : X → Bool) (P : X → Type 0) : Type 0 where
  pub x : X
  pub passes : test x ≡ true
  pub holds : P x

any_by :
    {X : Type 0} (test : X → Bool) (P : X → Type 0) (y : X) (rest : Bool) (b : Bool) → test y ≡ b
    → P y → (rest ≡ true → IsAny test P) → (b || rest) ≡ true → IsAny test P
any_by test P y rest true t here later e = record { x = y; passes = t; holds = here }
any_by test P y rest false t here later e = later e

pub any-each :
    {X : Type 0} (test : X → Bool) (P : X → Type 0) (xs : List X) → Each P xs
    → list_any test xs ≡ true → IsAny test P
any-each test P [] all found = absurd cc
any-each test P (y ∷ ys) all found =
    any_by test P y (list_any test ys) (test y) refl all.0 (any-each test P ys all.1) found

-- ids rise, so the port at a place is the only one of its id
above :
    (low : ℕ) (ports : List Port) (high : ℕ) → Rise low (map id_of_port ports) high
    → Each (λ (p : Port). low < p.id) ports
above low ports high r =
    each-unmap (λ (n : ℕ). low < n) id_of_port ports (rise-above low (map id_of_port ports) high r)

only_from :
    (low : ℕ) (ports : List Port) (high i : ℕ) (port : Port) → Rise low (map id_of_port ports) high
    → slice_get ports i ≡ Some port → Each (λ (p : Port). p.id ≡ port.id → p ≡ port) ports
only_from low [] high i port r e = tt
only_from low (p ∷ ps) high zero port r e =
    let same : p ≡ port = cc in (
      (λ ids. same),
      each-weaker (λ (q : Port). p.id < q.id) (λ (q : Port). q.id ≡ port.id → q ≡ port)
          (λ q more ids.
          absurd (let one : p.id ≡ port.id = ap id_of_port same in omega (arith, more, ids, one)))
          ps (above p.id ps high r.1),
    )
only_from low (p ∷ ps) high (suc i) port r e =
    let more = rise-slice_get id_of_port p.id ps high i port r.1 e in
    ((λ ids. absurd (omega (arith, more.0, ids))), only_from p.id ps high i port r.1 e)

pub only-place :
    (ports : List Port) (high i : ℕ) (port : Port) → Rise 0 (map id_of_port ports) high
    → slice_get ports i ≡ Some port → Each (λ (p : Port). p.id ≡ port.id → p ≡ port) ports
only-place ports high i port r e = only_from 0 ports high i port r e

each_every : {X : Type 0} (P : X → Type 0) → ((x : X) → P x) → (xs : List X) → Each P xs
each_every P holds [] = tt
each_every P holds (x ∷ xs) = (holds x, each_every P holds xs)

-- some element still passes a test that a change keeps
still-any :
    {X : Type 0} (test : X → Bool) (change : X → X)
    → ((x : X) → test x ≡ true → test (change x) ≡ true)
    → (xs : List X) → list_any test xs ≡ true → list_any test (map change xs) ≡ true
still-any test change keeps xs =
    any-map test change xs (each_every (λ x. test x ≡ true → test (change x) ≡ true) keeps xs)

-- a change that keeps ids, names and phases keeps the watches
watched-map :
    (change : Port → Port) → ((p : Port) → (id : ℕ) → is_open_at id (change p) ≡ is_open_at id p)
    → ((p : Port) → is_monitor_name (change p).name ≡ is_monitor_name p.name)
    → (ports : List Port) (watches : List Watcher) → AreWatches ports watches
    → AreWatches (map change ports) watches
watched-map change opens names ports watches k = record {
  each = each-weaker (IsWatch ports) (IsWatch (map change ports))
      (λ watch here. record {
        monitor = still-any (is_monitor_open watch.monitor) change
            (λ p e. rw (opens p watch.monitor, names p) e) ports here.monitor;
        target = still-any (is_target_open watch.target) change
            (λ p e. rw (opens p watch.target, names p) e) ports here.target;
      }) watches k.each;
  once = k.once;
}

open_if :
    (b : Bool) (change : Port → Port) (p : Port) (id : ℕ)
    → is_open_at id (change p) ≡ is_open_at id p
    → is_open_at id (changed_if b change p) ≡ is_open_at id p
open_if true change p id e = e
open_if false change p id e = refl

name_if :
    (b : Bool) (change : Port → Port) (p : Port)
    → is_monitor_name (change p).name ≡ is_monitor_name p.name
    → is_monitor_name (changed_if b change p).name ≡ is_monitor_name p.name
name_if true change p e = e
name_if false change p e = refl

watched-changed :
    (at : ℕ) (change : Port → Port)
    → ((p : Port) → (id : ℕ) → is_open_at id (change p) ≡ is_open_at id p)
    → ((p : Port) → is_monitor_name (change p).name ≡ is_monitor_name p.name)
    → (ports : List Port) (watches : List Watcher) → AreWatches ports watches
    → AreWatches (changed_at at change ports) watches
watched-changed at change opens names ports watches k =
    watched-map (λ (p : Port). changed_if (p.id == at) change p)
    (λ p id. open_if (p.id == at) change p id (opens p id))
    (λ p. name_if (p.id == at) change p (names p)) ports watches k

watched-open :
    (ports : List Port) (port : Port) (watches : List Watcher) → AreWatches ports watches
    → AreWatches (ports ++ port ∷ []) watches
watched-open ports port watches k = record {
  each = each-weaker (IsWatch ports) (IsWatch (ports ++ port ∷ []))
      (λ watch here. record {
        monitor = any-append_left (is_monitor_open watch.monitor) ports (port ∷ []) here.monitor;
        target = any-append_left (is_target_open watch.target) ports (port ∷ []) here.target;
      }) watches k.each;
  once = k.once;
}

-- Shut: a watch that is left has neither end there
id_other : (at id : ℕ) (p : Port) → (id == at) ≡ false → is_open_at id p ≡ true → (p.id == at) ≡ false
id_other at id p other e =
    let tests = and_parts (p.id == id) (not p.shutting) e in
    ne_eqb p.id at (λ same. eqb-false id at other (sym (eqb-true p.id id tests.0) ∙ same))

target_other : (at id : ℕ) (p : Port) → (id == at) ≡ false → is_target_open id p ≡ true
    → is_target_open id (changed_if (p.id == at) shut p) ≡ true
target_other at id p other e =
    let open_at = (and_parts (is_open_at id p) (not (is_monitor_name p.name)) e).0 in
    rw (id_other at id p other open_at) e

monitor_other :
    (at id : ℕ) (p : Port) → (id == at) ≡ false → is_monitor_open id p ≡ true
    → is_monitor_open id (changed_if (p.id == at) shut p) ≡ true
monitor_other at id p other e =
    rw (id_other at id p other (and_parts (is_open_at id p) (is_monitor_name p.name) e).0) e

watched-shut :
    (ports : List Port) (watches : List Watcher) (at : ℕ) → AreWatches ports watches
    → AreWatches (changed_at at shut ports) (watches_without at watches)
watched-shut ports watches at k = record {
  each =
      each-kept (IsWatch ports) (IsWatch (changed_at at shut ports))
      (λ (watch : Watcher). not (is_watch_of at watch))
      (λ watch stays here.
      let apart =
      or_parts (watch.monitor == at) (watch.target == at) (not-true (is_watch_of at watch) stays) in
      record {
        monitor = still-any (is_monitor_open watch.monitor)
            (λ (p : Port). changed_if (p.id == at) shut p)
            (λ p e. monitor_other at watch.monitor p apart.0 e) ports here.monitor;
        target = still-any (is_target_open watch.target)
            (λ (p : Port). changed_if (p.id == at) shut p)
            (λ p e. target_other at watch.target p apart.1 e) ports here.target;
      }) watches k.each;
  once = λ target.
      let less =
      sum-filter_less (λ (watch : Watcher). cond (is_watch_at target watch) 1 0)
      (λ (watch : Watcher). not (is_watch_of at watch)) watches in
      let one = k.once target in
      omega (arith, less, one);
}

-- Finish: the port that goes is shutting
watched-finish :
    (ports : List Port) (high id : ℕ) (port : Port) (watches : List Watcher)
    → Rise 0 (map id_of_port ports) high → shutting_port ports id ≡ Some port
    → AreWatches ports watches
    → AreWatches (ports_without port.id ports) watches
watched-finish ports high id port watches r e k = record {
  each = each-weaker (IsWatch ports) (IsWatch (ports_without port.id ports))
      (λ watch here. record {
        monitor = left (is_monitor_open watch.monitor) watch.monitor
            (λ p t. (and_parts (is_open_at watch.monitor p) (is_monitor_name p.name) t).0)
            here.monitor;
        target = left (is_target_open watch.target) watch.target
            (λ p t. (and_parts (is_open_at watch.target p) (not (is_monitor_name p.name)) t).0)
            here.target;
      }) watches k.each;
  once = k.once;
}
  where
    place : PortPlace true ports id port
    place = shutting-place ports high id port r e

    only : Each (λ (p : Port). p.id ≡ port.id → p ≡ port) ports
    only = only-place ports high place.place port r place.here

    stays :
        (end : ℕ) (p : Port) → (p.id ≡ port.id → p ≡ port) → is_open_at end p ≡ true
        → not (p.id == port.id) ≡ true
    stays end p same t = by_test (p.id == port.id) refl
      where
        by_test : (b : Bool) → (p.id == port.id) ≡ b → not b ≡ true
        by_test false hit = refl
        by_test true hit =
            let is : p ≡ port = same (eqb-true p.id port.id hit) in
            let opens : p.shutting ≡ false =
            not-true p.shutting (and_parts (p.id == end) (not p.shutting) t).1 in
            let shuts : p.shutting ≡ true = ap (λ (q : Port). q.shutting) is ∙ place.shutting_is in
            absurd (let no : true ≡ false = sym shuts ∙ opens in cc)

    left :
        (test : Port → Bool) (end : ℕ)
        → ((p : Port) → test p ≡ true → is_open_at end p ≡ true)
        → list_any test ports ≡ true → list_any test (ports_without port.id ports) ≡ true
    left test end opens =
        any-filter test (λ (p : Port). not (p.id == port.id)) ports
        (each-weaker (λ (p : Port). p.id ≡ port.id → p ≡ port)
        (λ (p : Port). test p ≡ true → not (p.id == port.id) ≡ true)
        (λ p same t. stays end p same (opens p t)) ports only)

-- Watch
none_of :
    (target : ℕ) (watches : List Watcher) → watch_of watches target ≡ None
    → count_by (is_watch_at target) watches ≡ 0
none_of target [] e = refl
none_of target (x ∷ xs) e = by_test (is_watch_at target x) refl e (none_of target xs)
  where
    by_test :
        (b : Bool) → is_watch_at target x ≡ b → cond b (Some x) (watch_of xs target) ≡ None
        → (watch_of xs target ≡ None → count_by (is_watch_at target) xs ≡ 0)
        → count_by (is_watch_at target) (x ∷ xs) ≡ 0
    by_test true t e later = absurd cc
    by_test false t e later =
        let rest = later e in
        let sum :
        count_by (is_watch_at target) (x ∷ xs)
        ≡ cond (is_watch_at target x) 1 0 + count_by (is_watch_at target) xs =
        sum_by-cons (λ (w : Watcher). cond (is_watch_at target w) 1 0) x xs in
        let here : cond {A = ℕ} (is_watch_at target x) 1 0 ≡ 0 = rw t refl in
        omega (arith, sum, here, rest)

watched-watch :
    (ports : List Port) (high id : ℕ) (name : List ℕ) (port found : Port) (watches : List Watcher)
    (watch : Watcher)
    → Rise 0 (map id_of_port ports) high
    → open_port ports id ≡ Some port → can_watch name port ≡ true
    → open_port_as ports name ≡ Some found → watch_of watches found.id ≡ None
    → watch.monitor ≡ port.id → watch.target ≡ found.id → AreWatches ports watches
    → AreWatches ports (watches ++ watch ∷ [])
watched-watch ports high id name port found watches watch r e can there none monitor target k =
    let p = open-place ports high id port r e in
    let t = place-of (is_open_as name) ports found there in
    let opens = and_parts (not found.shutting) (bytes_eq found.name name) t.passes in
    let named =
    and_parts (is_monitor_name port.name) (is_name name && not (is_monitor_name name)) can in
    let at_monitor : is_monitor_open port.id port ≡ true =
    rw (eq-eqb port.id port.id refl, p.shutting_is) named.0 in
    let plain = and_parts (is_name name) (not (is_monitor_name name)) named.1 in
    let same : found.name ≡ name = (bytes_eq-Decides found.name name).0 opens.1 in
    let unwatching : not (is_monitor_name found.name) ≡ true = rw same plain.1 in
    let at_target : is_target_open found.id found ≡ true =
    rw (eq-eqb found.id found.id refl, opens.0) unwatching in
    let new : IsWatch ports watch = record {
      monitor =
          subst (λ (n : ℕ). list_any (is_monitor_open n) ports ≡ true) (sym monitor)
          (any-at (is_monitor_open port.id) ports p.place port p.here at_monitor);
      target =
          subst (λ (n : ℕ). list_any (is_target_open n) ports ≡ true) (sym target)
          (any-at (is_target_open found.id) ports t.place found t.here at_target);
    } in
    record {
      each = each-append (IsWatch ports) watches (watch ∷ []) k.each (new, tt);
      once = λ at. count at (watch.target == at) refl;
    }
  where
    count :
        (at : ℕ) (b : Bool) → (watch.target == at) ≡ b
        → count_by (is_watch_at at) (watches ++ watch ∷ []) ≤ 1
    count at true hit =
        let same : found.id ≡ at = sym target ∙ eqb-true watch.target at hit in
        let zero' : count_by (is_watch_at at) watches ≡ 0 =
        subst (λ (n : ℕ). count_by (is_watch_at n) watches ≡ 0) same (none_of found.id watches none)
        in
        let sum :
        count_by (is_watch_at at) (watches ++ watch ∷ [])
        ≡ count_by (is_watch_at at) watches + cond (watch.target == at) 1 0 =
        sum_by_push (λ (w : Watcher). cond (is_watch_at at w) 1 0) watches watch in
        let one : cond {A = ℕ} (watch.target == at) 1 0 ≡ 1 = rw hit refl in
        omega (arith, zero', sum, one)
    count at false hit =
        let before = k.once at in
        let sum :
        count_by (is_watch_at at) (watches ++ watch ∷ [])
        ≡ count_by (is_watch_at at) watches + cond (watch.target == at) 1 0 =
        sum_by_push (λ (w : Watcher). cond (is_watch_at at w) 1 0) watches watch in
        let one : cond {A = ℕ} (watch.target == at) 1 0 ≡ 0 = rw hit refl in
        omega (arith, before, sum, one)

watched_kinds : (s : Standing) → Numbered s → Watched s → EachKind s (λ ask made. WatchedNext made)
watched_kinds s n k = record {
  enters = λ user fits. k;
  quiet = λ ask session reply quiet. k;
  opens =
      λ session name tx rx extra can refusal. watched-open s.world.ports
      (opened_port (s.world.entry_count + 1) session.0 name tx rx extra) s.world.watches k;
  sends = λ from frames port e can settled. k;
  grants = λ origin to offer first same.
      watched-changed offer.to
      (port_after_grant (s.world.entry_count + 1) offer.session (granted_frames s.world offer))
      (λ p id. refl) (λ p. refl) s.world.ports s.world.watches k;
  completes =
      λ lease lot e. watched-map (port_after_done lease.0) (λ p id. refl) (λ p. refl) s.world.ports
      s.world.watches k;
  receives =
      λ ask at back port receives e can. watched-changed port.id (port_after_sync (length back))
      (λ p id. refl) (λ p. refl) s.world.ports s.world.watches k;
  puts = λ at offered items port peer e can found.
      watched-changed peer.id
      (port_after_put (s.world.entry_count + 1) port.session (frames_of_items items)) (λ p id. refl)
      (λ p. refl) s.world.ports s.world.watches k;
  watches = λ at target sides port found e can there none.
      watched-watch s.world.ports s.world.entry_count at.0 target port found s.world.watches
      (record { monitor = port.id; target = found.id; sides = sides }) n.ports_rise e can there none
      refl refl k;
  shuts = λ at port e settled. watched-shut s.world.ports s.world.watches port.id k;
  finishes =
      λ at bufs chain port fits e can out. watched-finish s.world.ports s.world.entry_count at.0
      port s.world.watches n.ports_rise e k;
  leaves = λ session can. k;
}

pub watched_entry : (s : Standing) (e : Entry) → Numbered s → Watched s → Watched (after s e)
watched_entry s e n k = after-by s Watched e k (watched_kinds s n k)
