-- The monitors of both sides, as watches are added and ended.
use Rattle.std.proofs.Common.{ℕ, Bool, true, false, cond, not, ◌≡◌, ◌≤◌, ◌+◌, List, [], ◌∷◌, ◌++◌, filter, find, count_by, Option, Some, None, refl, sym, ◌∙◌, ap, subst, arith, ◌==◌, ◌&&◌, ◌||◌, option_and_then}
use Rattle.std.specs.Prelude.{option_map}
use Rattle.std.proofs.lemmas.Bool.{and_parts, eqb-true, eqb-false, eq-eqb, ne_eqb}
use Rattle.std.proofs.lemmas.List.Sums.{sum_by-cons}
use Rattle.nm_types.specs.Sides.{watches_side}
use Rattle.nm_types.specs.declared.id.Side.{Side}
use Rattle.nm_types.specs.declared.id.Side.TheVariants.{Tx, Rx}
use Rattle.nm_types.specs.declared.id.Sides.{Sides}
use Rattle.nm_types.specs.declared.id.Sides.TheVariants.{T as Transmit, R as Receive, TR as Both}
use Rattle.nm_types.specs.declared.id.PortId.{PortId}
use Rattle.nm_watch.specs.declared.watches.Watch.{Watch}
use Rattle.nm_watch.specs.Watching.{Watching, watch_of, monitor_of, monitor_on, watch_after_add, watch_after_forget, unless_by}
use Rattle.vale_entry.specs.World.{Watch as Watcher, monitor_id}
use Rattle.vale_entry.specs.Closing.{watches_without, is_watch_of}
use Rattle.vale_entry.specs.Monitors.{is_watch_at, watch_of as watcher_of}
use Rattle.vale_entry.proofs.ListLaws.{place-of}
use Rattle.vale_entry.proofs.PortAt.{find-append, first_of}
use Rattle.vale_parts.specs.Ids.{id_of}
use Rattle.vale_parts.proofs.TableFinds.{unless}

abbrev pub is_watch_on : ℕ → Side → Watcher → Bool
is_watch_on port side watch = (watch.target == port) && watches_side watch.sides side

-- the monitor of a side, as the world has it
abbrev pub side_monitor : List Watcher → Side → ℕ → Option ℕ
side_monitor watches side port = monitor_id (find (is_watch_on port side) watches)

abbrev pub SideIs : List Watcher → Watching → Side → Type 0
SideIs watches watching side = (port : ℕ) → id_of (monitor_of watching port side) ≡ side_monitor watches side port

pub side-same : (watches : List Watcher) (watching next : Watching) (side : Side) → ((port : ℕ) → watch_of next port ≡ watch_of watching port) → SideIs watches watching side → SideIs watches next side
side-same watches watching next side same is = λ port. ap (λ (found : Option Watch). id_of (option_and_then (monitor_on side) found)) (same port) ∙ is port

-- ---- a watch more

none_on : (watches : List Watcher) (port : ℕ) (side : Side) → watcher_of watches port ≡ None → find (is_watch_on port side) watches ≡ None
none_on [] port side none = refl
none_on (w ∷ ws) port side none = by_test (w.target == port) refl (none_on ws port side) none
  where
    by_test : (b : Bool) → (w.target == port) ≡ b → (watcher_of ws port ≡ None → find (is_watch_on port side) ws ≡ None) → cond b (Some w) (watcher_of ws port) ≡ None
        → cond ((w.target == port) && watches_side w.sides side) (Some w) (find (is_watch_on port side) ws) ≡ None
    by_test true t rest none = absurd cc
    by_test false t rest none = ap (λ (b : Bool). cond (b && watches_side w.sides side) (Some w) (find (is_watch_on port side) ws)) t ∙ rest none

first_alone : (found : Option Watcher) → first_of found None ≡ found
first_alone None = refl
first_alone (Some watch) = refl

on_by : (watch : Watcher) (b : Bool) → monitor_id (cond b (Some watch) None) ≡ cond b (Some watch.monitor) None
on_by watch true = refl
on_by watch false = refl

own_by : (id : PortId) (b : Bool) → id_of (cond b (Some id) None) ≡ cond b (Some id.0) None
own_by id true = refl
own_by id false = refl

-- the world's watch more
world_more : (watches : List Watcher) (new : Watcher) (side : Side) (port : ℕ) → watcher_of watches new.target ≡ None → (b : Bool) → (new.target == port) ≡ b
    → side_monitor (watches ++ new ∷ []) side port ≡ cond b (cond (watches_side new.sides side) (Some new.monitor) None) (side_monitor watches side port)
world_more watches new side port none true t =
    let same : new.target ≡ port = eqb-true new.target port t in
    let before : find (is_watch_on port side) watches ≡ None = none_on watches port side (subst (λ (p : ℕ). watcher_of watches p ≡ None) same none) in
    let last : find (is_watch_on port side) (new ∷ []) ≡ cond (watches_side new.sides side) (Some new) None = ap (λ (b : Bool). cond (b && watches_side new.sides side) (Some new) None) t in
    ap monitor_id (find-append (is_watch_on port side) watches (new ∷ []) ∙ (ap (λ (found : Option Watcher). first_of found (find (is_watch_on port side) (new ∷ []))) before ∙ last))
    ∙ on_by new (watches_side new.sides side)
world_more watches new side port none false t =
    let last : find (is_watch_on port side) (new ∷ []) ≡ None = ap (λ (b : Bool). cond (b && watches_side new.sides side) (Some new) None) t in
    ap monitor_id (find-append (is_watch_on port side) watches (new ∷ []) ∙ (ap (λ (found : Option Watcher). first_of (find (is_watch_on port side) watches) found) last ∙ first_alone (find (is_watch_on port side) watches)))

own_more : (watching : Watching) (monitor : PortId) (sides : Sides) (side : Side) (port : ℕ) (b : Bool)
    → id_of (option_and_then (monitor_on side) (cond b (Some (record { monitor = monitor; sides = sides })) (watch_of watching port))) ≡ cond b (cond (watches_side sides side) (Some monitor.0) None) (id_of (monitor_of watching port side))
own_more watching monitor sides side port true = own_by monitor (watches_side sides side)
own_more watching monitor sides side port false = refl

pub side-more : (watches : List Watcher) (watching next : Watching) (side : Side) (target monitor : PortId) (sides : Sides) → watcher_of watches target.0 ≡ None
    → ((port : ℕ) → watch_of next port ≡ watch_after_add watching target monitor sides port) → SideIs watches watching side
    → SideIs (watches ++ (record { monitor = monitor.0; target = target.0; sides = sides }) ∷ []) next side
side-more watches watching next side target monitor sides none added is = λ port.
    ap (λ (found : Option Watch). id_of (option_and_then (monitor_on side) found)) (added port)
    ∙ (own_more watching monitor sides side port (target.0 == port)
    ∙ (ap (cond (target.0 == port) (cond (watches_side sides side) (Some monitor.0) None)) (is port)
    ∙ sym (world_more watches (record { monitor = monitor.0; target = target.0; sides = sides }) side port none (target.0 == port) refl)))

-- ---- the watches of a port that is shut

abbrev stays : ℕ → Watcher → Bool
stays gone watch = not (is_watch_of gone watch)

abbrev one_if : Bool → ℕ
one_if b = cond b 1 0

counted : (port : ℕ) (w : Watcher) (ws : List Watcher) → count_by (is_watch_at port) (w ∷ ws) ≡ one_if (w.target == port) + count_by (is_watch_at port) ws
counted port w ws = sum_by-cons (λ (x : Watcher). one_if (is_watch_at port x)) w ws

-- where none is at a port, none is found among some of them
none_left : (keep : Watcher → Bool) (port : ℕ) (side : Side) (watches : List Watcher) → count_by (is_watch_at port) watches ≤ 0 → find (is_watch_on port side) (filter keep watches) ≡ None
none_left keep port side [] none = refl
none_left keep port side (w ∷ ws) none = by_test (w.target == port) refl (keep w) (none_left keep port side ws)
  where
    by_test : (b : Bool) → (w.target == port) ≡ b → (c : Bool) → (count_by (is_watch_at port) ws ≤ 0 → find (is_watch_on port side) (filter keep ws) ≡ None)
        → find (is_watch_on port side) (cond c (w ∷ filter keep ws) (filter keep ws)) ≡ None
    by_test true t c rest =
        let sum = counted port w ws in
        let one : one_if (w.target == port) ≡ 1 = ap one_if t in
        absurd (omega (arith, none, sum, one))
    by_test false t true rest =
        let sum = counted port w ws in
        ap (λ (b : Bool). cond (b && watches_side w.sides side) (Some w) (find (is_watch_on port side) (filter keep ws))) t ∙ rest (omega (arith, none, sum))
    by_test false t false rest = (let sum = counted port w ws in rest (omega (arith, none, sum)))

abbrev if_kept : (Watcher → Bool) → Option Watcher → Option Watcher
if_kept keep None = None
if_kept keep (Some watch) = cond (keep watch) (Some watch) None

-- the only watch of a port is found among some of them, or has gone
found_left : (keep : Watcher → Bool) (port : ℕ) (side : Side) (watches : List Watcher) → count_by (is_watch_at port) watches ≤ 1
    → find (is_watch_on port side) (filter keep watches) ≡ if_kept keep (find (is_watch_on port side) watches)
found_left keep port side [] once = refl
found_left keep port side (w ∷ ws) once =
    let sum = counted port w ws in
    by_test (is_watch_on port side w) refl (keep w) refl (found_left keep port side ws (omega (arith, once, sum)))
  where
    none_more : (w.target == port) ≡ true → find (is_watch_on port side) (filter keep ws) ≡ None
    none_more t =
        let sum = counted port w ws in
        let one : one_if (w.target == port) ≡ 1 = ap one_if t in
        none_left keep port side ws (omega (arith, once, sum, one))

    by_test : (b : Bool) → is_watch_on port side w ≡ b → (c : Bool) → keep w ≡ c → find (is_watch_on port side) (filter keep ws) ≡ if_kept keep (find (is_watch_on port side) ws)
        → find (is_watch_on port side) (cond c (w ∷ filter keep ws) (filter keep ws)) ≡ if_kept keep (cond b (Some w) (find (is_watch_on port side) ws))
    by_test true t true k rest =
        ap (λ (b : Bool). cond b (Some w) (find (is_watch_on port side) (filter keep ws))) t ∙ sym (ap (λ (b : Bool). cond b (Some w) None) k)
    by_test true t false k rest =
        none_more (and_parts (w.target == port) (watches_side w.sides side) t).0 ∙ sym (ap (λ (b : Bool). cond b (Some w) None) k)
    by_test false t true k rest = ap (λ (b : Bool). cond b (Some w) (find (is_watch_on port side) (filter keep ws))) t ∙ rest
    by_test false t false k rest = rest

kept_by : (gone port : ℕ) (watch : Watcher) → (watch.target == port) ≡ true → (g : Bool) → (gone == port) ≡ g
    → monitor_id (cond (stays gone watch) (Some watch) None) ≡ cond g None (unless gone (Some watch.monitor))
kept_by gone port watch t true e =
    let same : watch.target ≡ gone = eqb-true watch.target port t ∙ sym (eqb-true gone port e) in
    let hit : (watch.target == gone) ≡ true = eq-eqb watch.target gone same in
    on_by watch (stays gone watch) ∙ both (watch.monitor == gone) (watch.target == gone) hit
  where
    both : (a b : Bool) → b ≡ true → cond (not (a || b)) (Some watch.monitor) None ≡ None
    both true b e = refl
    both false true e = refl
    both false false e = absurd cc
kept_by gone port watch t false e =
    let miss : (watch.target == gone) ≡ false = ne_eqb watch.target gone (λ same. eqb-false gone port e (sym same ∙ eqb-true watch.target port t)) in
    on_by watch (stays gone watch) ∙ both (watch.monitor == gone) (watch.target == gone) miss
  where
    both : (a b : Bool) → b ≡ false → cond (not (a || b)) (Some watch.monitor) None ≡ cond a None (Some watch.monitor)
    both true b e = refl
    both false true e = absurd cc
    both false false e = refl

world_less : (watches : List Watcher) (gone : ℕ) (side : Side) (port : ℕ) → count_by (is_watch_at port) watches ≤ 1
    → side_monitor (watches_without gone watches) side port ≡ cond (gone == port) None (unless gone (side_monitor watches side port))
world_less watches gone side port once = ap monitor_id (found_left (stays gone) port side watches once) ∙ by_found (find (is_watch_on port side) watches) refl
  where
    none_by : (g : Bool) → cond g None (unless gone None) ≡ None
    none_by true = refl
    none_by false = refl

    by_found : (found : Option Watcher) → find (is_watch_on port side) watches ≡ found → monitor_id (if_kept (stays gone) found) ≡ cond (gone == port) None (unless gone (monitor_id found))
    by_found None e = sym (none_by (gone == port))
    by_found (Some watch) e =
        kept_by gone port watch (and_parts (watch.target == port) (watches_side watch.sides side) (place-of (is_watch_on port side) watches watch e).passes).0 (gone == port) refl

own_less : (gone : PortId) (side : Side) (found : Option Watch) (g : Bool)
    → id_of (option_and_then (monitor_on side) (cond g None (unless_by gone found))) ≡ cond g None (unless gone.0 (id_of (option_and_then (monitor_on side) found)))
own_less gone side found true = refl
own_less gone side None false = refl
own_less gone side (Some watch) false = both (watch.monitor.0 == gone.0) refl (watches_side watch.sides side) refl
  where
    both : (a : Bool) → (watch.monitor.0 == gone.0) ≡ a → (b : Bool) → watches_side watch.sides side ≡ b
        → id_of (option_and_then (monitor_on side) (cond a None (Some watch))) ≡ unless gone.0 (id_of (cond b (Some watch.monitor) None))
    both true e true s = sym (ap (λ (c : Bool). cond c None (Some watch.monitor.0)) e)
    both true e false s = refl
    both false e true s = ap (λ (c : Bool). id_of (cond c (Some watch.monitor) None)) s ∙ sym (ap (λ (c : Bool). cond c None (Some watch.monitor.0)) e)
    both false e false s = ap (λ (c : Bool). id_of (cond c (Some watch.monitor) None)) s

pub side-less : (watches : List Watcher) (watching next : Watching) (side : Side) (gone : PortId) → ((port : ℕ) → count_by (is_watch_at port) watches ≤ 1)
    → ((port : ℕ) → watch_of next port ≡ watch_after_forget watching gone port) → SideIs watches watching side → SideIs (watches_without gone.0 watches) next side
side-less watches watching next side gone once forgot is = λ port.
    ap (λ (found : Option Watch). id_of (option_and_then (monitor_on side) found)) (forgot port)
    ∙ (own_less gone side (watch_of watching port) (gone.0 == port)
    ∙ (ap (λ (found : Option ℕ). cond (gone.0 == port) None (unless gone.0 found)) (is port) ∙ sym (world_less watches gone.0 side port (once port))))

-- ---- whether a port is watched

-- the watch of a side is the port's watch
same_watch : (watches : List Watcher) (port : ℕ) (side : Side) (watch : Watcher) → count_by (is_watch_at port) watches ≤ 1 → find (is_watch_on port side) watches ≡ Some watch
    → watcher_of watches port ≡ Some watch
same_watch [] port side watch once e = absurd cc
same_watch (w ∷ ws) port side watch once e =
    let sum = counted port w ws in
    by_test (w.target == port) refl (watches_side w.sides side) refl (same_watch ws port side watch (omega (arith, once, sum))) e
  where
    by_test : (b : Bool) → (w.target == port) ≡ b → (c : Bool) → watches_side w.sides side ≡ c → (find (is_watch_on port side) ws ≡ Some watch → watcher_of ws port ≡ Some watch)
        → cond (b && c) (Some w) (find (is_watch_on port side) ws) ≡ Some watch → cond b (Some w) (watcher_of ws port) ≡ Some watch
    by_test true t true s rest e = e
    by_test true t false s rest e =
        let sum = counted port w ws in
        let one : one_if (w.target == port) ≡ 1 = ap one_if t in
        let none = none_left (λ x. true) port side ws (omega (arith, once, sum, one)) in
        let all = filter_all ws in
        let wrong : None ≡ Some watch = sym none ∙ (ap (find (is_watch_on port side)) all ∙ e) in
        absurd cc
      where
        filter_all : (xs : List Watcher) → filter (λ x. true) xs ≡ xs
        filter_all [] = refl
        filter_all (x ∷ xs) = ap (λ (ys : List Watcher). x ∷ ys) (filter_all xs)
    by_test false t c s rest e = rest e

none_found : (watches : List Watcher) (port : ℕ) → find (is_watch_on port Tx) watches ≡ None → find (is_watch_on port Rx) watches ≡ None → watcher_of watches port ≡ None
none_found [] port tx rx = refl
none_found (w ∷ ws) port tx rx = by_test (w.target == port) w.sides tx rx (none_found ws port)
  where
    by_test : (b : Bool) (sides : Sides) → cond (b && watches_side sides Tx) (Some w) (find (is_watch_on port Tx) ws) ≡ None → cond (b && watches_side sides Rx) (Some w) (find (is_watch_on port Rx) ws) ≡ None
        → (find (is_watch_on port Tx) ws ≡ None → find (is_watch_on port Rx) ws ≡ None → watcher_of ws port ≡ None) → cond b (Some w) (watcher_of ws port) ≡ None
    by_test true Transmit tx rx rest = absurd cc
    by_test true Receive tx rx rest = absurd cc
    by_test true Both tx rx rest = absurd cc
    by_test false sides tx rx rest = rest tx rx

no_monitor : (found : Option Watcher) → monitor_id found ≡ None → found ≡ None
no_monitor None e = refl
no_monitor (Some watch) e = absurd cc

abbrev monitor_seen : Option Watcher → Option ℕ
monitor_seen found = option_map (λ (watch : Watcher). watch.monitor) found

abbrev own_seen : Option Watch → Option ℕ
own_seen found = option_map (λ (watch : Watch). watch.monitor.0) found

-- a side that is watched tells the port's monitor
told_by : (watches : List Watcher) (port : ℕ) (side : Side) (monitor : ℕ) → count_by (is_watch_at port) watches ≤ 1 → side_monitor watches side port ≡ Some monitor
    → monitor_seen (watcher_of watches port) ≡ Some monitor
told_by watches port side monitor once is = by_found (find (is_watch_on port side) watches) refl is
  where
    by_found : (found : Option Watcher) → find (is_watch_on port side) watches ≡ found → monitor_id found ≡ Some monitor → monitor_seen (watcher_of watches port) ≡ Some monitor
    by_found None e is = absurd cc
    by_found (Some watch) e is = ap monitor_seen (same_watch watches port side watch once e) ∙ is

pub watched-same : (watches : List Watcher) (watching : Watching) (port : ℕ) → count_by (is_watch_at port) watches ≤ 1 → SideIs watches watching Tx → SideIs watches watching Rx
    → own_seen (watch_of watching port) ≡ monitor_seen (watcher_of watches port)
watched-same watches watching port once tx rx = by_watch (watch_of watching port) (tx port) (rx port)
  where
    by_sides : (id : PortId) (sides : Sides) → id_of (cond (watches_side sides Tx) (Some id) None) ≡ side_monitor watches Tx port
        → id_of (cond (watches_side sides Rx) (Some id) None) ≡ side_monitor watches Rx port → Some id.0 ≡ monitor_seen (watcher_of watches port)
    by_sides id Transmit tx rx = sym (told_by watches port Tx id.0 once (sym tx))
    by_sides id Receive tx rx = sym (told_by watches port Rx id.0 once (sym rx))
    by_sides id Both tx rx = sym (told_by watches port Tx id.0 once (sym tx))

    by_watch : (found : Option Watch) → id_of (option_and_then (monitor_on Tx) found) ≡ side_monitor watches Tx port → id_of (option_and_then (monitor_on Rx) found) ≡ side_monitor watches Rx port
        → own_seen found ≡ monitor_seen (watcher_of watches port)
    by_watch None tx rx =
        sym (ap monitor_seen (none_found watches port (no_monitor (find (is_watch_on port Tx) watches) (sym tx)) (no_monitor (find (is_watch_on port Rx) watches) (sym rx))))
    by_watch (Some watch) tx rx = by_sides watch.monitor watch.sides tx rx
