-- A monitor watches a port, or is told why not.
use Rattle.std.proofs.Common.{ℕ, List, [], ◌∷◌, ◌++◌, ◌≡◌, Option, Some, None, option_map, Result, Ok, Err, IfOk, IfErr, OnErr, refl, sym, ◌∙◌, ap, subst, arith}
use Rattle.nm_types.specs.declared.id.PortId.{PortId}
use Rattle.nm_types.specs.declared.id.SessionId.{SessionId}
use Rattle.nm_types.specs.declared.id.Sides.{Sides}
use Rattle.nm_types.specs.declared.fault.StepFault.{StepFault}
use Rattle.nm_types.specs.declared.fault.StepFault.TheVariants as steps
use Rattle.nm_types.specs.declared.fault.WatchFault.{WatchFault}
use Rattle.nm_types.specs.declared.fault.WatchFault.TheVariants as faults
use Rattle.nm_watch.specs.declared.watches.Watch.{Watch as Watched}
use Rattle.nm_watch.specs.Watching.{Watching, watch_of, watch_after_add}
use Rattle.vale_names.specs.Ports.{open_port_of}
use Rattle.vale_names.specs.PortNames.{IsNames}
use Rattle.vale_entry.specs.declared.entry.Ask.{Ask}
use Rattle.vale_entry.specs.declared.entry.Ask.TheVariants.{Watch}
use Rattle.vale_entry.specs.declared.entry.Reply.{Reply}
use Rattle.vale_entry.specs.declared.entry.Reply.TheVariants as replies
use Rattle.vale_entry.specs.declared.entry.Entry.{Entry}
use Rattle.vale_entry.specs.World.{Port, Watch as Watcher}
use Rattle.vale_entry.specs.Monitors.{open_port_as, can_watch}
use Rattle.vale_entry.specs.Monitors.{watch_of as watch_in}
use Rattle.vale_entry.specs.Legal.{Standing, Outcome, step, made_at, unchanged, watch_step, watch_step_by, watch_step_of, reply_of}
use Rattle.vale_entry.specs.Stored.{Stored, Fits, IsFull}
use Rattle.vale_parts.specs.Ids.{id_of}
use Rattle.vale_parts.specs.NameLaws.{number_of}
use Rattle.vale_parts.proofs.AllParts.{tables_stay}
use Rattle.vale_parts.proofs.NameAnswers.{names_find}
use Rattle.vale_parts.proofs.WatchesKept.{watched_are_watched}
use Rattle.vale_port.specs.Lists.{OfState}
use Rattle.vale_port.specs.Ports.{PortState}
use Rattle.vale_book.specs.declared.book.Book.TheInside.{Inside}
use Rattle.vale_book.specs.BookView.{recorded, parts_in, IsBook}
use Rattle.vale_own.specs.Recorded.{IsRefusal, IsRecordedAs}
use Rattle.vale_book.specs.WatchAnswers.{IsUnwatched}
use Rattle.vale_book.specs.WatchSteps.{reply_of_watch, watcher_of, IsWatch, IsNoWatch}
use Rattle.vale_book.proofs.Moves.{Moves, Stays, before, moved, record-moved, had-room, stayed, record-stayed, fits-step, full-step}
use Rattle.vale_book.proofs.Found.{IsOpenHere, session-here}
use Rattle.vale_book.proofs.Notes.{IsNote, with_history, note-moves}

-- the monitor that asks
abbrev pub AsksAt : Inside → PortId → List ℕ → ℕ → Type 0
AsksAt b monitor name place = IsOpenHere b monitor.0 place (can_watch name)

abbrev target_in : Inside → List ℕ → Option Port
target_in b name = open_port_as (before b).world.ports name

watch-made : (b : Inside) (monitor : PortId) (name : List ℕ) (sides : Sides) (place : ℕ) (here : AsksAt b monitor name place)
    → step (before b) (Watch monitor name sides) ≡ Some (watch_step_of (before b) sides here.port (target_in b name))
watch-made b monitor name sides place here =
    let s = before b in
    let passes = here.passes in
    let make : Port → Outcome = λ port. watch_step_of s sides port (target_in b name) in
    let made : made_at (can_watch name) make (Some here.port) ≡ Some (make here.port) = rw passes refl in
    ap (made_at (can_watch name) make) here.here.found ∙ made

-- each outcome wants one entry
want-one : (s : Standing) (sides : Sides) (monitor : Port) (target : Option Port) → (watch_step_of s sides monitor target).want ≡ 1
want-one s sides monitor None = refl
want-one s sides monitor (Some target) = by_watch (watch_in s.world.watches target.id)
  where
    by_watch : (watch : Option Watcher) → (watch_step_by s sides monitor target watch).want ≡ 1
    by_watch None = refl
    by_watch (Some watch) = refl

-- what the names find is what the world does
found-port : (b : Inside) (name : List ℕ) (found : Option PortId) → IsBook b → IsNames b.names → found ≡ open_port_of b.names name
    → id_of found ≡ option_map number_of (target_in b name)
found-port b name found k names is = ap id_of is ∙ names_find (before b).world b.names name k.stands.parts_are.names_are names

none-mapped : {A B : Type 0} (f : A → B) (found : Option A) → None ≡ option_map f found → found ≡ None
none-mapped f None is = refl
none-mapped f (Some it) is = absurd cc

record IsMapped {A B : Type 0} (f : A → B) (found : Option A) (to : B) : Type 0 where
  pub it : A
  pub found_is : found ≡ Some it
  pub to_is : f it ≡ to

some-mapped : {A B : Type 0} (f : A → B) (found : Option A) (to : B) → Some to ≡ option_map f found → IsMapped f found to
some-mapped f None to is = absurd cc
some-mapped f (Some it) to is = record { it = it; found_is = refl; to_is = let same : Some to ≡ Some (f it) = is in cc }

abbrev monitor_of : Watcher → ℕ
monitor_of watch = watch.monitor

-- the watch of a port in the world
watched-here : (b : Inside) (port : ℕ) → IsBook b
    → option_map (λ (w : Watched). w.monitor.0) (watch_of b.watches port) ≡ option_map monitor_of (watch_in (before b).world.watches port)
watched-here b port k = watched_are_watched b.pool.buffers b.history.entries b.watches port k.stands.legal k.stands.parts_are.watches_are

-- what is known of a watch that is asked
pub record IsAsked (b : Inside) (monitor : PortId) (name : List ℕ) (place : ℕ) (session : SessionId) (found : Option PortId) : Type 0 where
  pub here : AsksAt b monitor name place
  pub own : here.port.session ≡ session.0
  pub found_is : id_of found ≡ option_map number_of (target_in b name)

pub asked : (b : Inside) (monitor : PortId) (name : List ℕ) (place : ℕ) (session : SessionId) (found : Option PortId) → IsBook b → AsksAt b monitor name place
    → OfState (λ (p : PortState). session.0 ≡ p.session) b.ports.items place → IsNames b.names → found ≡ open_port_of b.names name
    → IsAsked b monitor name place session found
asked b monitor name place session found k here own names is =
    record { here = here; own = session-here b monitor.0 place (can_watch name) here session own; found_is = found-port b name found k names is }

watch-numbers : (watch : Option Watched) (by : PortId) → option_map (λ (w : Watched). w.monitor) watch ≡ Some by → Some by.0 ≡ option_map (λ (w : Watched). w.monitor.0) watch
watch-numbers None by is = absurd cc
watch-numbers (Some watch) by is = sym (ap id_of is)

-- what a book answers and what stands then
pub record Outcomes (b next : Inside) (ask : Ask) (r : Result PortId WatchFault) : Type 0 where
  pub book : IsBook next
  pub watched : IfOk r (λ (target : PortId). IsRecordedAs (recorded b) (recorded next) ask (replies.Watching target))
  pub unwatched : IfErr r (IsUnwatched (recorded b) (recorded next) ask)

answered-by : (b next : Inside) (ask : Ask) (made : Outcome) (reply : Reply) → Moves b next ask made → made.reply ≡ reply → IsRecordedAs (recorded b) (recorded next) ask reply
answered-by b next ask made reply m is = record {
  reply_is = ap (option_map reply_of) m.step_is ∙ ap (λ (x : Reply). Some x) is;
  entry = record-moved b next ask made m;
  room = had-room b next ask made m;
}

abbrev pub with_watches : Inside → Stored → Watching → Inside
with_watches b h ws = record b { history = h; watches = ws }

abbrev watch_entry : PortId → List ℕ → Sides → ℕ → ℕ → Entry
watch_entry monitor name sides session target =
    record { session = record { 0 = session }; ask = Watch monitor name sides; reply = replies.Watching (record { 0 = target }) }

module _ (b : Inside) (monitor : PortId) (name : List ℕ) (sides : Sides) (place : ℕ) (session : SessionId) (found : Option PortId) (k : IsBook b) (a : IsAsked b monitor name place session found) where
  abbrev ask : Ask
  ask = Watch monitor name sides

  made-of : step (before b) ask ≡ Some (watch_step_of (before b) sides a.here.port (target_in b name))
  made-of = watch-made b monitor name sides place a.here

  no-target : found ≡ None → IsNote b ask session.0 replies.NoTarget
  no-target none =
      let missing : None ≡ option_map number_of (target_in b name) = ap id_of (sym none) ∙ a.found_is in
      record {
        step_is = made-of ∙ (ap (λ (target : Option Port). Some (watch_step_of (before b) sides a.here.port target)) (none-mapped number_of (target_in b name) missing)
            ∙ ap (λ (n : ℕ). Some (unchanged (before b) n replies.NoTarget)) a.own);
        no_bytes = refl;
        parts = record { names_next = refl; tables_wanted = tt; tables_next = sym (tables_stay (before b).world ask (parts_in b).tables refl); watches_next = λ port. refl; tally_next = refl; free_next = refl };
      }

  module _ (target : PortId) (there : IsMapped number_of (target_in b name) target.0) where
    watch-by : (watch : Option Watcher) → watch_in (before b).world.watches target.0 ≡ watch
        → step (before b) ask ≡ Some (watch_step_by (before b) sides a.here.port there.it watch)
    watch-by watch is =
        let s = before b in
        made-of ∙ (ap (λ (t : Option Port). Some (watch_step_of s sides a.here.port t)) there.found_is
        ∙ ap (λ (w : Option Watcher). Some (watch_step_by s sides a.here.port there.it w)) (ap (watch_in s.world.watches) there.to_is ∙ is))

    is-watched : (by : PortId) → option_map (λ (w : Watched). w.monitor) (watch_of b.watches target.0) ≡ Some by → IsNote b ask session.0 (replies.Watched by)
    is-watched by is =
        let s = before b in
        let watch = some-mapped monitor_of (watch_in s.world.watches target.0) by.0 (watch-numbers (watch_of b.watches target.0) by is ∙ watched-here b target.0 k) in
        record {
          step_is = watch-by (Some watch.it) watch.found_is
              ∙ (ap (λ (n : ℕ). Some (unchanged s n (replies.Watched (record { 0 = watch.it.monitor })))) a.own
              ∙ ap (λ (n : ℕ). Some (unchanged s session.0 (replies.Watched (record { 0 = n })))) watch.to_is);
          no_bytes = refl;
          parts = record { names_next = refl; tables_wanted = tt; tables_next = sym (tables_stay s.world ask (parts_in b).tables refl); watches_next = λ port. refl; tally_next = refl; free_next = refl };
        }

    watch-moves : (h : Stored) (ws : Watching) → h.entries ≡ b.history.entries ++ watch_entry monitor name sides session.0 target.0 ∷ [] → Fits b.history 1 0
        → h.promised ≡ b.history.promised → h.limits ≡ b.history.limits → IsWatch b.watches ws found monitor sides target
        → Moves b (with_watches b h ws) ask (watch_step (before b) sides a.here.port there.it)
    watch-moves h ws entries fits promised limits w =
        let s = before b in
        let free : None ≡ option_map (λ (x : Watched). x.monitor.0) (watch_of b.watches target.0) = sym (ap (option_map (λ (x : Watched). x.monitor.0)) w.free) in
        let none = none-mapped monitor_of (watch_in s.world.watches target.0) (free ∙ watched-here b target.0 k) in
        record {
          step_is = watch-by None none;
          entries = entries ∙ (ap (λ (n : ℕ). b.history.entries ++ watch_entry monitor name sides n target.0 ∷ []) (sym a.own)
              ∙ ap (λ (n : ℕ). b.history.entries ++ watch_entry monitor name sides a.here.port.session n ∷ []) (sym there.to_is));
          limits = limits;
          promised = omega (arith, promised);
          room = fits-step b ask (watch_step s sides a.here.port there.it) k fits;
          sessions = k.stands.sessions_are;
          ports = k.stands.ports_are;
          parts = record {
            names_next = refl;
            tables_wanted = tt;
            tables_next = sym (tables_stay s.world ask (parts_in b).tables refl);
            watches_next = subst (λ (n : ℕ). (port : ℕ) → watch_of ws port ≡ watch_after_add b.watches (record { 0 = n }) monitor sides port) (sym there.to_is) w.added;
            tally_next = refl;
            free_next = refl;
          };
          region = refl;
          buffers = refl;
          free_are = k.free_are;
          lines_are = k.lines_are;
        }

  found-target : (target : PortId) → found ≡ Some target → IsMapped number_of (target_in b name) target.0
  found-target target is = some-mapped number_of (target_in b name) target.0 (sym (ap id_of is) ∙ a.found_is)

  by-watched : (by : PortId) (f : Option PortId) → found ≡ f → watcher_of b.watches f ≡ Some by → IsNote b ask session.0 (replies.Watched by)
  by-watched by None is watched = absurd cc
  by-watched by (Some target) is watched = is-watched target (found-target target is) by watched

  noted : (fault : WatchFault) (reply : Reply) (h : Stored) (ws : Watching) → IsNote b ask session.0 reply
      → ((next : Inside) → IsRecordedAs (recorded b) (recorded next) ask reply → IsUnwatched (recorded b) (recorded next) ask fault)
      → h.entries ≡ b.history.entries ++ (record { session = session; ask = ask; reply = reply }) ∷ [] → Fits b.history 1 0 → h.promised ≡ b.history.promised → h.limits ≡ b.history.limits
      → ws ≡ b.watches → Outcomes b (with_watches b h ws) ask (Err fault)
  noted fault reply h ws note says entries fits promised limits same =
      let made = unchanged (before b) session.0 reply in
      let done : Result (Unit {0}) StepFault = Ok tt in
      let moves : Moves b (with_history b h) ask made = note-moves done b h ask session.0 reply k note entries promised limits fits in
      subst (λ (w : Watching). Outcomes b (with_watches b h w) ask (Err fault)) (sym same)
      (record { book = moved b (with_history b h) ask made k moves; watched = tt; unwatched = says (with_history b h) (answered-by b (with_history b h) ask made reply moves refl) })

  refused : (fault : WatchFault) (full : StepFault) (h : Stored) (ws : Watching)
      → ((next : Inside) → recorded next ≡ recorded b → IsRefusal (recorded b) ask full → IsUnwatched (recorded b) (recorded next) ask fault)
      → IsFull b.history 1 0 full → h.entries ≡ b.history.entries → h.promised ≡ b.history.promised → h.limits ≡ b.history.limits
      → ws ≡ b.watches → Outcomes b (with_watches b h ws) ask (Err fault)
  refused fault full h ws says is entries promised limits same =
      let made = watch_step_of (before b) sides a.here.port (target_in b name) in
      let next = with_history b h in
      let stays : Stays b next = record { entries = entries; limits = limits; promised = promised; sessions = refl; ports = refl; parts = refl; region = refl; buffers = refl } in
      let wants : IsFull b.history made.want 0 full = subst (λ (n : ℕ). IsFull b.history n 0 full) (sym (want-one (before b) sides a.here.port (target_in b name))) is in
      subst (λ (w : Watching). Outcomes b (with_watches b h w) ask (Err fault)) (sym same)
      (record { book = stayed b next k stays; watched = tt; unwatched = says next (record-stayed b next stays) (full-step b ask made full k made-of wants) })

  abbrev Stores : Result PortId WatchFault → Stored → Type 0
  Stores r h = (reply : Reply) → reply_of_watch r ≡ Some reply → (h.entries ≡ b.history.entries ++ (record { session = session; ask = ask; reply = reply }) ∷ []) × Fits b.history 1 0

  pub outcomes : (r : Result PortId WatchFault) (h : Stored) (ws : Watching) → Stores r h → (reply_of_watch r ≡ None → h.entries ≡ b.history.entries)
      → h.promised ≡ b.history.promised → h.limits ≡ b.history.limits → IfOk r (IsWatch b.watches ws found monitor sides) → IfErr r (IsNoWatch (IsFull b.history 1 0) b.watches found) → OnErr r (ws ≡ b.watches)
      → Outcomes b (with_watches b h ws) ask r
  outcomes (Ok target) h ws stores none promised limits watched unwatched same =
      let stored = stores (replies.Watching target) refl in
      let there = found-target target watched.found_is in
      let made = watch_step (before b) sides a.here.port there.it in
      let moves = watch-moves target there h ws stored.0 stored.1 promised limits watched in
      record {
        book = moved b (with_watches b h ws) ask made k moves;
        watched = answered-by b (with_watches b h ws) ask made (replies.Watching target) moves (ap (λ (n : ℕ). replies.Watching (record { 0 = n })) there.to_is);
        unwatched = tt;
      }
  outcomes (Err faults.NoTarget) h ws stores none promised limits watched unwatched same =
      let stored = stores replies.NoTarget refl in
      noted faults.NoTarget replies.NoTarget h ws (no-target unwatched) (λ next is. is) stored.0 stored.1 promised limits same
  outcomes (Err (faults.Watched by)) h ws stores none promised limits watched unwatched same =
      let stored = stores (replies.Watched by) refl in
      noted (faults.Watched by) (replies.Watched by) h ws (by-watched by found refl unwatched) (λ next is. is) stored.0 stored.1 promised limits same
  outcomes (Err (faults.RecordFull what used want)) h ws stores none promised limits watched unwatched same =
      refused (faults.RecordFull what used want) (steps.RecordFull what used want) h ws (λ next one two. (one, two)) unwatched (none refl) promised limits same
  outcomes (Err faults.NoMemory) h ws stores none promised limits watched unwatched same =
      refused faults.NoMemory steps.NoMemory h ws (λ next one two. (one, two)) tt (none refl) promised limits same
