-- What is kept of a session's ports, call by call.
use Rattle.std.proofs.Common.{ℕ, ◌+◌, ◌≤◌, ◌≡◌, ◌==◌, Bool, true, false, cond, List, [], ◌∷◌, ◌++◌, map, drop, length, slice_get, Option, Some, None, option_map, IfSome, Result, Ok, Err, IfOk, IfErr, refl, sym, ◌∙◌, ap, subst, le_refl, append_assoc, append-nil}
use Rattle.std.specs.Prelude.{OnOk}
use Rattle.std.specs.List.{AllByRecursion}
use Rattle.std.proofs.lemmas.Bool.{eqb-true, eq-eqb}
use Rattle.std.proofs.lemmas.List.{map-append, drop_all}
use Rattle.std.proofs.lemmas.Option.{same_Some}
use mathlib.Core.List.{IsPrefix}
use Rattle.nm_turn.specs.Passes.{Knows, kept_view}
use Rattle.nm_types.specs.declared.fault.OpenFault.{OpenFault}
use Rattle.nm_types.specs.declared.fault.OpenFault.TheVariants as opens
use Rattle.nm_types.specs.declared.fault.WatchFault.{WatchFault}
use Rattle.nm_types.specs.declared.fault.WatchFault.TheVariants as watches
use Rattle.nm_types.specs.declared.fault.StepFault.{StepFault}
use Rattle.nm_types.specs.declared.fault.StepFault.TheVariants as steps
use Rattle.nm_types.specs.declared.fault.SyncFault.{SyncFault}
use Rattle.nm_types.specs.declared.fault.SyncFault.TheVariants as faults
use Rattle.nm_types.specs.declared.id.Counts.{Counts}
use Rattle.nm_types.specs.declared.id.PortId.{PortId}
use Rattle.nm_types.specs.declared.id.Sides.{Sides}
use Rattle.nm_types.specs.Frames.{Frame}
use Rattle.nm_types.specs.OwnPorts.{OwnState}
use Rattle.nm_types.proofs.Lists.{drop-slice_get}
use Rattle.pcap_io.specs.declared.record.Record.{Record}
use Rattle.vale_entry.specs.declared.entry.Ask.{Ask}
use Rattle.vale_entry.specs.declared.entry.Ask.TheVariants.{Watch, Stat}
use Rattle.vale_entry.specs.declared.entry.Entry.{Entry}
use Rattle.vale_entry.specs.declared.entry.Reply.{Reply}
use Rattle.vale_entry.specs.declared.entry.Reply.TheVariants as replies
use Rattle.vale_entry.specs.Legal.{IsLegal}
use Rattle.vale_entry.specs.OwnCalls.{tx_call}
use Rattle.vale_entry.proofs.ListLaws.{each-at}
use Rattle.std.proofs.lemmas.List.Elements.{recursion_from_All}
use Rattle.vale_fabric.specs.declared.kept.Fixed.{Fixed}
use Rattle.vale_fabric.specs.Roots.{root_of}
use Rattle.vale_fabric.specs.declared.settling.Shares.{Shares}
use Rattle.vale_fabric.specs.Fabrics.{Knowing}
use Rattle.nm_user.specs.declared.receiving.Received.{Received}
use Rattle.nm_user.specs.declared.leaving.Detached.{Detached}
use Rattle.nm_user.specs.Sessions.{SessionState, IsThere}
use Rattle.nm_user.specs.Calls.{Made, MadeNone}
use Rattle.nm_user.specs.Ports.{OpensNot, WatchesNot}
use Rattle.nm_user.specs.Syncs.{Synced, SyncsNot, IsUnsent}
use Rattle.nm_user.specs.Receives.{HasPort, IsReceived}
use Rattle.nm_user.specs.Leaving.{IsDetached, IsLeft}
use Rattle.nm_user.specs.PortReads.{reads_at, IsPortOf}
use Rattle.nm_user.specs.Saving.{frames_from}
use Rattle.vale_own.specs.Laws.{IsOfOther}
use Rattle.nm_user.proofs.Later.{goes-on}
use Rattle.nm_user.proofs.Opened.{opening}
use Rattle.nm_user.proofs.SavingReads.{ports-stay-own, ports-are-own}
use Rattle.nm_user.proofs.SavingHistory.{told-stays}
use Rattle.vale_replay.specs.Machine.{Save}
use Rattle.vale_replay.specs.Saved.{saved_from, saved_in, saved_frames}
use Rattle.vale_player.specs.declared.frames.SyncEnd.{SyncEnd}
use Rattle.vale_player.specs.declared.frames.SyncEnd.TheVariants as ends
use Rattle.vale_player.specs.Syncing.{EndsTx, EndsRx, RxMadeNone}
use Rattle.vale_replay.specs.Tasks.{TakeFrames}
use Rattle.vale_player.specs.Players.{PlayerState, Does, StopsAt, IsStill}
use Rattle.vale_player.proofs.Leading.{PortAt, takes-by, still-rx, still-untaken, take-stops}
use Rattle.vale_player.specs.Kept.{record_of}
use Rattle.vale_player.specs.Kept.{KeptFrames, IsKept, AreKept, IsKeeping, KeepsNamed, SavesNot, SaveNothing, ReceivesNothing, CameRx, stop_of_end, record_at, new_records, grown_if, AreWhole, KeptStaysWhole}
use Rattle.vale_player.proofs.SavingFrames.{silent, saved-begin, calls-save-nothing, syncs-save-nothing, refused-save-nothing, ring-is-saved}
use Rattle.vale_player.proofs.SavingSyncs.{transmits, other-receives-save-nothing, failed-receives-save-nothing}
use Rattle.vale_player.proofs.SavingLeaving.{detach-saves-nothing, leaving-saves-nothing, left-ports-are-gone, gone-save-nothing, gone-owner, owned-gone}
use Rattle.vale_player.proofs.Stays.{saw-more}
use Rattle.vale_player.proofs.PortNames.{named-stay, edited-ports}

-- ---- the session goes on

-- it is the same session, and has seen what it had, and more
record Later (s t : SessionState) : Type 0 where
  fixed : t.fixed ≡ s.fixed
  id : t.id ≡ s.id
  begins : IsPrefix s.knows.seen t.knows.seen

port-later : (s t : SessionState) (id : ℕ) → Later s t → IsPortOf s.fixed.pool s.knows.seen s.id id → IsPortOf t.fixed.pool t.knows.seen t.id id
port-later s t id l k =
    subst (λ (f : Fixed). IsPortOf f.pool t.knows.seen t.id id) (sym l.fixed)
    (subst (λ (n : ℕ). IsPortOf s.fixed.pool t.knows.seen n id) (sym l.id)
    (subst (λ (h : List Entry). IsPortOf s.fixed.pool h s.id id) l.begins.1 (ports-stay-own s.fixed.pool s.knows.seen l.begins.0 s.id id k)))

made-later : {s t : SessionState} {ask : Ask} {reply : Reply} → Made s t ask reply → Later s t
made-later {s} {t} {ask} {reply} made = record { fixed = made.fixed; id = made.id; begins = made.answers.makes.told.begins }

none-later : {s t : SessionState} {ask : Ask} {fault : StepFault} → MadeNone s t ask fault → Later s t
none-later {s} {t} {ask} {fault} none = record {
  fixed = ap (λ (x : SessionState). x.fixed) none.same;
  id = ap (λ (x : SessionState). x.id) none.same;
  begins = (saw-more s.fixed s.knows t.knows ask fault none.refused).begins;
}

synced-later : {s t : SessionState} {ask : Ask} {reply : Reply} {shares : Shares} → Synced s t ask reply shares → Later s t
synced-later {s} {t} {ask} {reply} {shares} sync = record { fixed = sync.fixed; id = sync.id; begins = sync.told.begins }

-- ---- what saves nothing

module _ (s t : SessionState) (there : IsThere None s) where
  pub made-saves : (ask : Ask) (reply : Reply) → ((id : ℕ) → reads_at id ask ≡ false) → Made s t ask reply → SaveNothing s t
  made-saves ask reply none made id k =
      record { port = port-later s t id (made-later made) k; saved = calls-save-nothing s t id ask reply there k made (none id) }

  pub none-saves : (ask : Ask) (fault : StepFault) → MadeNone s t ask fault → SaveNothing s t
  none-saves ask fault none id k =
      record { port = port-later s t id (none-later none) k; saved = refused-save-nothing s t id ask fault there k none }

  -- an opening
  module _ (name : List ℕ) (tx rx extra : ℕ) where
    abbrev to-open : Ask
    to-open = opening s name tx rx extra

    opens-by : (reply : Reply) → Made s t to-open reply → SaveNothing s t
    opens-by reply made = made-saves to-open reply (λ id. refl) made

    unopened : (fault : OpenFault) → OpensNot s t to-open fault → SaveNothing s t
    unopened opens.BadSize made = opens-by (replies.Refused opens.BadSize) made
    unopened opens.SwitchesFull made = opens-by (replies.Refused opens.SwitchesFull) made
    unopened opens.PortsFull made = opens-by (replies.Refused opens.PortsFull) made
    unopened opens.NameTaken made = opens-by (replies.Refused opens.NameTaken) made
    unopened (opens.NoBuffers want have) made = opens-by (replies.Refused (opens.NoBuffers want have)) made
    unopened (opens.RecordFull what used want) none = none-saves to-open (steps.RecordFull what used want) none
    unopened opens.NoMemory none = none-saves to-open steps.NoMemory none

    pub open-saves : (r : Result PortId OpenFault) → OnOk r (Made s t to-open replies.Opened) → IfErr r (OpensNot s t to-open) → SaveNothing s t
    open-saves (Ok port) made not = opens-by replies.Opened made
    open-saves (Err fault) made not = unopened fault not

  -- a monitor that watches
  module _ (port : PortId) (target : List ℕ) (sides : Sides) where
    abbrev watching : Ask
    watching = Watch port target sides

    watch-by : (reply : Reply) → Made s t watching reply → SaveNothing s t
    watch-by reply made = made-saves watching reply (λ id. refl) made

    unwatched : (fault : WatchFault) → WatchesNot s t watching fault → SaveNothing s t
    unwatched watches.NoTarget made = watch-by replies.NoTarget made
    unwatched (watches.Watched by) made = watch-by (replies.Watched by) made
    unwatched (watches.RecordFull what used want) none = none-saves watching (steps.RecordFull what used want) none
    unwatched watches.NoMemory none = none-saves watching steps.NoMemory none

    pub watch-saves : (r : Result PortId WatchFault) → IfOk r (λ at. Made s t watching (replies.Watching at)) → IfErr r (WatchesNot s t watching) → SaveNothing s t
    watch-saves (Ok at) made not = watch-by (replies.Watching at) made
    watch-saves (Err fault) made not = unwatched fault not

  -- a reading of counters
  pub stat-saves : (port : PortId) (r : Result Counts StepFault) → IfOk r (λ counts. Made s t (Stat port) (replies.Counted counts)) → IfErr r (MadeNone s t (Stat port)) → SaveNothing s t
  stat-saves port (Ok counts) made not = made-saves (Stat port) (replies.Counted counts) (λ id. refl) made
  stat-saves port (Err fault) made not = none-saves (Stat port) fault not

  module _ (after : IsThere None t) where
    -- a transmit sync
    pub ended-saves : (at : ℕ) (end : SyncEnd) → EndsTx s t at end → SaveNothing s t
    ended-saves at ends.Passed e id k = record {
      port = port-later s t id (synced-later e.came.synced) k;
      saved = syncs-save-nothing s t id (tx_call s.own e.tx.port e.tx.ring) e.came.reply e.came.shares there after k e.came.synced (transmits id s.own e.tx.port e.tx.ring);
    }
    ended-saves at ends.PeerGone e id k = made-saves (tx_call s.own e.tx.port e.tx.ring) replies.PeerGone (λ n. transmits n s.own e.tx.port e.tx.ring) e.came.1 id k
    ended-saves at ends.Refused e id k = made-saves (tx_call s.own e.tx.port e.tx.ring) replies.Made (λ n. transmits n s.own e.tx.port e.tx.ring) e.came.1 id k

    pub sync-saves : (at : ℕ) (r : Result SyncEnd StepFault) → IfOk r (EndsTx s t at) → IfErr r (IsUnsent s t at) → SaveNothing s t
    sync-saves at (Ok end) came none = ended-saves at end came
    sync-saves at (Err fault) came none = none-saves (tx_call s.own none.tx.port none.tx.ring) fault none.none

    -- the closing of a port
    pub detach-saves : (closed : ℕ) (detached : Detached) → IsDetached s t closed detached → SaveNothing s t
    detach-saves closed detached d id k = record {
      port = port-later s t id (record { fixed = d.fixed; id = d.id_is; begins = d.told.begins }) k;
      saved = detach-saves-nothing closed detached s t id there after k d;
    }

-- a session that learns of what others did
pub joined-saves : (s : SessionState) (w : Knowing) → IsThere None s → Knows root_of w.seen s.knows.seen s.knows.mine → IsLegal s.fixed.pool w.seen → SaveNothing s (record s { knows = w })
joined-saves s w there known legal id k =
    let pool = s.fixed.pool in
    let seen = s.knows.seen in
    let on = goes-on w.seen seen s.knows.mine s.id known.begins known.no_root there.come there.speaks in
    let more = on.0 in
    let each = recursion_from_All (IsOfOther s.id) more on.1.1 in
    record {
      port = port-later s (record s { knows = w }) id (record { fixed = refl; id = refl; begins = known.begins }) k;
      saved = ap (λ (h : List Entry). saved_frames pool h id) on.1.0
          ∙ told-stays (saved_in id) pool id (silent id) seen more s.id (subst (IsLegal pool) on.1.0 legal) k
          (λ at e here mine. absurd (each-at (IsOfOther s.id) more at e each here mine));
    }

-- ---- so what is kept stays

pub kept-stay : (s t : SessionState) (kept : List KeptFrames) → SaveNothing s t → AreKept s kept → AreKept t kept
kept-stay s t [] none all = tt
kept-stay s t (k ∷ kept) none all =
    let stays = none k.id all.0.port in
    (record { port = stays.port; records = all.0.records ∙ ap (map record_of) (sym stays.saved) }, kept-stay s t kept none all.1)

kept-if-stay : (s t : SessionState) (kept : Option (List KeptFrames)) → SaveNothing s t → IfSome kept (AreKept s) → IfSome kept (AreKept t)
kept-if-stay s t None none all = tt
kept-if-stay s t (Some ports) none all = kept-stay s t ports none all

-- each port of a name is kept where it was, and others may be kept beside
abbrev pub NamedStay : SessionState → SessionState → List (List ℕ) → Option (List KeptFrames) → Type 0
NamedStay s t names kept = AllByRecursion (KeepsNamed names kept) s.own.ports → AllByRecursion (KeepsNamed names kept) t.own.ports

pub keeping : {names : List (List ℕ)} {saves : List Save} (s t : SessionState) (kept : Option (List KeptFrames)) → IsThere None t → SaveNothing s t → NamedStay s t names kept → IsKeeping s names saves kept → IsKeeping t names saves kept
keeping {names} {saves} s t kept there none stay all = record { there = there; all = kept-if-stay s t kept none all.all; named = stay all.named; noted = all.noted }

-- ---- a receive sync

not-later : (s t : SessionState) (ask : Ask) (refusal : Option SyncFault) (fault : SyncFault) → SyncsNot s t ask refusal fault → Later s t
not-later s t ask refusal (faults.RecordFull what used want) not = none-later not
not-later s t ask refusal faults.NoMemory not = none-later not
not-later s t ask refusal _ not = made-later not.1

untaken-saves : (s t : SessionState) (at : ℕ) → IsThere None s → ReceivesNothing s t at → SaveNothing s t
untaken-saves s t at there r id k = record {
  port = port-later s t id (not-later s t _ _ r.fault r.not.not) k;
  saved = failed-receives-save-nothing s t id at r.fault there k r.not;
}

module _ (s t : SessionState) (at : ℕ) (received : Received) (there : IsThere None s) (after : IsThere None t) (is : IsReceived s t at received) where
  later : Later s t
  later = synced-later is.synced

  -- what it has brought to its port
  grown-here : (k : KeptFrames) → k.id ≡ at → IsKept s k → IsKept t (record k { records = k.records ++ new_records t.own at is.at.port.rx.ring.tail received })
  grown-here k same kept =
      let pool = s.fixed.pool in
      let old = saved_frames pool s.knows.seen k.id in
      let more = saved_from received.entry 0 (frames_from t.own at is.at.port.rx.ring.tail) in
      let grown : saved_frames t.fixed.pool t.knows.seen k.id ≡ old ++ more =
      subst (λ (n : ℕ). saved_frames t.fixed.pool t.knows.seen n ≡ saved_frames pool s.knows.seen n ++ more) (sym same) (ring-is-saved s t at received there after is) in
      record {
        port = port-later s t k.id later kept.port;
        records = ap (λ (rs : List Record). rs ++ map record_of more) kept.records ∙ (sym (map-append record_of old more) ∙ ap (map record_of) (sym grown));
      }

  grown-other : (k : KeptFrames) → (at ≡ k.id → ⊥) → IsKept s k → IsKept t k
  grown-other k apart kept = record {
    port = port-later s t k.id later kept.port;
    records = kept.records ∙ ap (map record_of) (sym (other-receives-save-nothing s t k.id at received there after kept.port apart is));
  }

  grown-one : (k : KeptFrames) → IsKept s k → IsKept t (grown_if t.own at is.at.port.rx.ring.tail received k)
  grown-one k kept = by (k.id == at) refl
    where
      by : (b : Bool) → (k.id == at) ≡ b → IsKept t (cond b (record k { records = k.records ++ new_records t.own at is.at.port.rx.ring.tail received }) k)
      by true e = grown-here k (eqb-true k.id at e) kept
      by false e = grown-other k (λ same. let yes = eq-eqb k.id at (sym same) in let bad : true ≡ false = sym yes ∙ e in cc) kept

  pub grown-kept : (kept : List KeptFrames) → AreKept s kept → AreKept t (map (grown_if t.own at is.at.port.rx.ring.tail received) kept)
  grown-kept [] all = tt
  grown-kept (k ∷ kept) all = (grown-one k all.0, grown-kept kept all.1)

pub untaken-kept : (s t : SessionState) (at : ℕ) (kept : List KeptFrames) → IsThere None s → ReceivesNothing s t at → AreKept s kept → AreKept t kept
untaken-kept s t at kept there r all = kept-stay s t kept (untaken-saves s t at there r) all

-- ---- an opening

-- a port that was opened by the last entry has given nothing
pub begins-kept : (t : SessionState) (id : ℕ) → IsThere None t → HasPort t.own id → id ≡ length t.knows.seen → IsKept t (record { id = id; records = [] })
begins-kept t id there has last = record {
  port = ports-are-own t id there has;
  records = ap (map record_of) (sym (saved-begin t.fixed.pool t.knows.seen id (subst (λ (n : ℕ). length t.knows.seen ≤ n) (sym last) (le_refl (length t.knows.seen)))));
}

pub kept-then : (t : SessionState) (kept : List KeptFrames) (k : KeptFrames) → AreKept t kept → IsKept t k → AreKept t (kept ++ k ∷ [])
kept-then t [] k all one = (one, tt)
kept-then t (x ∷ kept) k all one = (all.0, kept-then t kept k all.1 one)

-- ---- leaving

pub left-whole : (s : SessionState) (w : Knowing) (kept : List KeptFrames) → IsThere None s → IsLeft s w → AreKept s kept → AreWhole s.fixed.pool w.seen kept
left-whole s w [] there left all = tt
left-whole s w (k ∷ kept) there left all = (
  record {
    gone = left-ports-are-gone s w k.id there all.0.port left;
    records = all.0.records ∙ ap (map record_of) (sym (leaving-saves-nothing s w k.id there all.0.port left));
  },
  left-whole s w kept there left all.1,
)

pub left-if-whole : (s : SessionState) (w : Knowing) (kept : Option (List KeptFrames)) → IsThere None s → IsLeft s w → IfSome kept (AreKept s) → IfSome kept (AreWhole s.fixed.pool w.seen)
left-if-whole s w None there left all = tt
left-if-whole s w (Some ports) there left all = left-whole s w ports there left all

-- and stays so in every longer history
pub whole-stays : KeptStaysWhole
whole-stays pool past more [] legal all = tt
whole-stays pool past more (k ∷ kept) legal all = (
  record {
    gone = owned-gone pool (past ++ more) k.id (λ n. ports-stay-own pool past more n k.id (gone-owner pool past k.id all.0.gone n));
    records = all.0.records ∙ ap (map record_of) (sym (gone-save-nothing pool past more k.id legal all.0.gone));
  },
  whole-stays pool past more kept legal all.1,
)

-- ---- the copies

-- the frame at a place of those that have come
frame-there : (frames : List Frame) (place : ℕ) (bytes : List ℕ) → option_map (λ (f : Frame). f.bytes) (slice_get frames place) ≡ Some bytes
    → (f : Frame) × (slice_get frames place ≡ Some f) × (f.bytes ≡ bytes)
frame-there frames place bytes is = by (slice_get frames place) is
  where
    by : (o : Option Frame) → option_map (λ (f : Frame). f.bytes) o ≡ Some bytes → (f : Frame) × (o ≡ Some f) × (f.bytes ≡ bytes)
    by None e = absurd cc
    by (Some f) e = (f, refl, same_Some f.bytes bytes e)

-- frames are copied one by one, in their order
pub one-record-more : (frames : List Frame) (entry place : ℕ) (bytes : List ℕ) (done new : List Record) (made : Record) (all : List Record)
    → option_map (λ (f : Frame). f.bytes) (slice_get frames place) ≡ Some bytes → made ≡ record_at entry place bytes → new ≡ done ++ made ∷ []
    → done ++ map record_of (saved_from entry place (drop place frames)) ≡ all → new ++ map record_of (saved_from entry (place + 1) (drop (place + 1) frames)) ≡ all
one-record-more frames entry place bytes done new made all is made_is added before =
    let at = frame-there frames place bytes is in
    let rest = map record_of (saved_from entry (place + 1) (drop (place + 1) frames)) in
    let next : drop place frames ≡ at.0 ∷ drop (place + 1) frames = drop-slice_get frames place at.0 at.1 in
    let here : made ≡ record_at entry place at.0.bytes = made_is ∙ ap (record_at entry place) (sym at.2) in
    let whole : done ++ record_at entry place at.0.bytes ∷ rest ≡ all = subst (λ (fs : List Frame). done ++ map record_of (saved_from entry place fs) ≡ all) next before in
    ap (λ (rs : List Record). rs ++ rest) added
    ∙ (append_assoc done (made ∷ []) rest
    ∙ (ap (λ (r : Record). done ++ r ∷ rest) here ∙ whole))

pub all-records : (frames : List Frame) (entry place : ℕ) (done all : List Record) → length frames ≤ place
    → done ++ map record_of (saved_from entry place (drop place frames)) ≡ all → done ≡ all
all-records frames entry place done all past before =
    let whole : done ++ [] ≡ all = subst (λ (fs : List Frame). done ++ map record_of (saved_from entry place fs) ≡ all) (drop_all place frames past) before in
    sym (append-nil done) ∙ whole

-- ---- on the session's own side, and of its pass

-- its own side stays
beside : (s t : SessionState) (w : Knowing) (names : List (List ℕ)) (kept : Option (List KeptFrames)) → t ≡ record s { knows = w } → NamedStay s t names kept
beside s t w names kept made all = subst (λ (x : SessionState). AllByRecursion (KeepsNamed names kept) x.own.ports) (sym made) all

module _ {names : List (List ℕ)} {saves : List Save} where
  pub edited-keeping : (s t : SessionState) (own : OwnState) (kept : Option (List KeptFrames)) → t ≡ record s { own = own } → IsThere None t → IsKeeping s names saves kept → IsKeeping t names saves kept
  edited-keeping s t own kept made there all =
      keeping s t kept there (λ id k. subst (λ (x : SessionState). SavesNot s x id) (sym made) (record { port = k; saved = refl }))
      (named-stay names kept s t (edited-ports s t own made all.there there)) all

  pub forked-keeping : (s t : SessionState) (kept : Option (List KeptFrames)) → t ≡ record s { knows = kept_view s.knows } → IsThere None t → IsKeeping s names saves kept → IsKeeping t names saves kept
  forked-keeping s t kept made there all =
      keeping s t kept there (λ id k. subst (λ (x : SessionState). SavesNot s x id) (sym made) (record { port = k; saved = refl })) (beside s t (kept_view s.knows) names kept made) all

  pub met-keeping : (s t : SessionState) (w : Knowing) (kept : Option (List KeptFrames)) → t ≡ record s { knows = w } → Knows root_of t.knows.seen s.knows.seen s.knows.mine → IsThere None t → IsKeeping s names saves kept
      → IsKeeping t names saves kept
  met-keeping s t w kept made known there all =
      keeping s t kept there (subst (λ (x : SessionState). SaveNothing s x) (sym made)
      (joined-saves s w all.there (subst (λ (x : SessionState). Knows root_of x.knows.seen s.knows.seen s.knows.mine) made known) (subst (λ (x : SessionState). IsLegal x.fixed.pool x.knows.seen) made there.legal)))
      (beside s t w names kept made) all

-- ---- what a user makes of a receive sync

module _ (p q : PlayerState) (same : q ≡ record p { session = q.session }) (name : List ℕ) (port : PortId) (at : PortAt p.session.own name port) where
  pub takes-on : IsThere None p.session → IsThere None q.session → (r : Result (Unit {0}) StepFault) → OnOk r (CameRx p.session q.session port.0) → OnOk r (Does p q (TakeFrames name ∷ []))
  takes-on here there (Ok x) came = takes-by p q here there same name port at came.end came.ends
  takes-on here there (Err fault) came = tt

  pub stops-on : (r : Result (Unit {0}) StepFault) → IfErr r (RxMadeNone p.session q.session port.0) → IfErr r (StopsAt p q (TakeFrames name))
  stops-on (Ok x) none = tt
  stops-on (Err fault) none = take-stops p q same name port at fault none

  pub still-on : (r : Result (Unit {0}) StepFault) → OnOk r (CameRx p.session q.session port.0) → IfErr r (RxMadeNone p.session q.session port.0) → IsStill p q
  still-on (Ok x) came none = still-rx p q same name port at came.end came.ends
  still-on (Err fault) came none = still-untaken p q same name port at fault none

pub came-on : (s t : SessionState) (id : ℕ) (r : Result SyncEnd StepFault) → IfOk r (EndsRx s t id) → OnOk (stop_of_end r) (CameRx s t id)
came-on s t id (Ok end) came = record { end = end; ends = came }
came-on s t id (Err fault) came = tt

pub none-on : (s t : SessionState) (id : ℕ) (r : Result SyncEnd StepFault) → IfErr r (RxMadeNone s t id) → IfErr (stop_of_end r) (RxMadeNone s t id)
none-on s t id (Ok end) none = tt
none-on s t id (Err fault) none = none
