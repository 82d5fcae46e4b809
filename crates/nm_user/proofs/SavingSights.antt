-- What is told of the reads at a session's port, from one sight of the history to the next.
use Rattle.std.proofs.Common.{ℕ, zero, suc, ◌+◌, ◌-◌, ◌<◌, ◌≤◌, ◌≡◌, ◌⊎◌, inl, inr, true, false, List, [], ◌∷◌, ◌++◌, take, drop, length, slice_get, Option, Some, None, IsSome, option_map, refl, sym, ◌∙◌, ap, subst, arith, length-append, append_assoc}
use Rattle.std.specs.Prelude.{min, is_some}
use Rattle.std.specs.Option.{option_map_or}
use Rattle.std.proofs.Math.Nat.{min-eq_left}
use Rattle.std.proofs.Math.Seq.{take-append-add}
use Rattle.std.proofs.lemmas.Bool.{and_parts, eqb-true}
use Rattle.std.proofs.lemmas.List.{take-append-drop, length-take-le}
use Rattle.std.proofs.lemmas.Option.{slice_get_within}
use Rattle.nm_types.specs.declared.id.PortId.{PortId}
use Rattle.nm_types.specs.OwnPorts.{OwnPort, port_with_id}
use Rattle.nm_types.proofs.Lists.{drop-slice_get}
use Rattle.nm_turn.specs.Numbered.{Stands}
use Rattle.nm_turn.specs.Passes.{Told}
use Rattle.nm_turn.proofs.Prefixes.{get_right, prefix_get}
use Rattle.vale_entry.specs.declared.entry.Ask.{Ask}
use Rattle.vale_entry.specs.declared.entry.Ask.TheVariants.{Enter, Open, Send, Grant, Done, Sync, Reset, Shut, Finish, Leave, Put, PutKept, Get, Watch, Stat}
use Rattle.vale_entry.specs.declared.entry.Entry.{Entry}
use Rattle.vale_entry.specs.declared.entry.Reply.{Reply}
use Rattle.vale_entry.specs.World.{World, Port, Offer, open_port}
use Rattle.vale_entry.specs.Delivered.{told, read_by, of_entry_in}
use Rattle.vale_entry.specs.Legal.{IsLegal, world_of, kept_ask}
use Rattle.vale_entry.proofs.ListLaws.{each-at}
use Rattle.vale_entry.proofs.Worlds.{count-world_of}
use Rattle.vale_entry.proofs.Numbered.{world-numbered}
use Rattle.vale_entry.proofs.PortAt.{found-open, port_at-under}
use Rattle.vale_own.specs.Asker.{is_asker, owner_of_port}
use Rattle.vale_own.specs.Own.{HeldLot}
use Rattle.vale_fabric.specs.Roots.{root_of}
use Rattle.vale_fabric.specs.Fabrics.{Knowing, entry_by}
use Rattle.vale_fabric.specs.Settling.{IsSettlingIn, settling_by}
use Rattle.vale_fabric.specs.declared.settling.Shares.{Shares}
use Rattle.nm_user.specs.Sessions.{SessionState, IsThere}
use Rattle.nm_user.specs.Syncs.{Synced}
use Rattle.vale_fabric.specs.declared.kept.Fixed.{Fixed}
use Rattle.nm_user.specs.declared.receiving.Received.{Received}
use Rattle.nm_user.specs.Receives.{HasPort, IsReceived}
use Rattle.nm_user.specs.PortReads.{reads_at, IsPortOf, ReadsNot}
use Rattle.nm_user.proofs.Plain.{stat-asks}
use Rattle.nm_user.proofs.Settled.{stands-or}
use Rattle.nm_user.proofs.SavingHistory.{told-stays, told-grows}

-- ---- a session's port is the session's

pub port-there : {s : SessionState} (id : ℕ) → IsThere None s → HasPort s.own id → IsPortOf s.fixed.pool s.knows.seen s.id id
port-there {s} id there has =
    let port : PortId = record { 0 = id } in
    let some : IsSome (port_with_id s.own id) = subst (λ (o : Option OwnPort). IsSome o) (sym has.found) refl in
    let parts = and_parts (is_some (open_port w.ports id)) (is_asker (option_map owner_of_port (open_port w.ports id)) s.id) (stat-asks port there some) in
    by (open_port w.ports id) refl parts.1
  where
    w : World
    w = world_of s.fixed.pool s.knows.seen

    some-is : (x y : Port) → Some x ≡ Some y → x ≡ y
    some-is x y e = cc

    by : (found : Option Port) → open_port w.ports id ≡ found → is_asker (option_map owner_of_port found) s.id ≡ true → IsPortOf s.fixed.pool s.knows.seen s.id id
    by None e is = absurd cc
    by (Some q) e is =
        let at = found-open w.ports w.entry_count id q (world-numbered s.fixed.pool s.knows.seen).ports_rise e in
        let low = port_at-under w.ports w.entry_count id q (world-numbered s.fixed.pool s.knows.seen).ports_rise at.here in
        let count = count-world_of s.fixed.pool s.knows.seen in
        record {
          given = omega (arith, low, count);
          owner = λ p here. let same : q ≡ p = some-is q p (sym at.here ∙ here) in sym (ap (λ (x : Port). x.session) same) ∙ eqb-true q.session s.id is;
        }

-- ---- what a call adds

-- Past what a session had seen, but for the entry of one number, nothing of its own reads at a port if
-- nothing that was added does.
abbrev pub AddsNoRead : ℕ → ℕ → List (ℕ × Entry) → Type 0
AddsNoRead id but added = (k number : ℕ) (e : Entry) → slice_get added k ≡ Some (number, e) → (number ≡ but → ⊥) → reads_at id e.ask ≡ false

pub not-read : (s : SessionState) (w : Knowing) (added : List (ℕ × Entry)) (id but : ℕ) → s.id ≤ length s.knows.seen → Stands s.id s.knows.mine → Told root_of s.knows w w.seen added → AddsNoRead id but added
    → (at : ℕ) (e : Entry) → length s.knows.seen ≤ at → slice_get w.seen at ≡ Some e → (at + 1 ≡ but → ⊥) → ReadsNot s.id id e
not-read s w added id but come speaks passed none at e low there other mine = by (stands-or (at + 1) added)
  where
    by : ((k : ℕ) × (f : Entry) × (slice_get added k ≡ Some (at + 1, f))) ⊎ (Stands (at + 1) added → ⊥) → reads_at id e.ask ≡ false
    by (inl found) =
        let same : at + 1 - 1 ≡ at = omega arith in
        let stands : slice_get w.seen at ≡ Some found.1 = subst (λ (n : ℕ). slice_get w.seen n ≡ Some found.1) same (passed.stand found.0 (at + 1) found.1 found.2).1 in
        let one : found.1 ≡ e = cc (sym stands ∙ there) in
        subst (λ (x : Entry). reads_at id x.ask ≡ false) one (none found.0 (at + 1) found.1 found.2 other)
    by (inr not) =
        let root : root_of e (at + 1) ≡ s.id = ap (λ (n : ℕ). min n (at + 1)) mine ∙ min-eq_left (omega (arith, come, low)) in
        absurd (passed.others at e low there not (subst (λ (n : ℕ). Stands n s.knows.mine) (sym root) speaks))

reads-kept : (id : ℕ) (ask : Ask) → reads_at id (kept_ask ask) ≡ reads_at id ask
reads-kept id (Enter user) = refl
reads-kept id (Open at name tx rx extra) = refl
reads-kept id (Send from frames) = refl
reads-kept id (Grant origin to) = refl
reads-kept id (Done lease) = refl
reads-kept id (Sync at back) = refl
reads-kept id (Reset at side fault) = refl
reads-kept id (Shut at) = refl
reads-kept id (Finish at bufs chain) = refl
reads-kept id (Leave at) = refl
reads-kept id (Put at offered) = refl
reads-kept id (PutKept at offered) = refl
reads-kept id (Get at back) = refl
reads-kept id (Watch monitor target sides) = refl
reads-kept id (Stat at) = refl

pair-is : (x y : ℕ × Entry) → Some x ≡ Some y → (x.0 ≡ y.0) × (x.1 ≡ y.1)
pair-is x y is = (ap (λ (o : Option (ℕ × Entry)). option_map_or (λ (z : ℕ × Entry). z.0) o x.0) is, ap (λ (o : Option (ℕ × Entry)). option_map_or (λ (z : ℕ × Entry). z.1) o x.1) is)

pub adds-one : (id number session : ℕ) (ask : Ask) (reply : Reply) → reads_at id ask ≡ false → AddsNoRead id 0 ((number, entry_by session ask reply) ∷ [])
adds-one id number session ask reply none zero n e here other = let is = (pair-is (number, entry_by session ask reply) (n, e) here).1 in subst (λ (x : Entry). reads_at id x.ask ≡ false) is (reads-kept id ask ∙ none)
adds-one id number session ask reply none (suc k) n e here other = absurd cc

settling-reads : (id : ℕ) (leases : List HeldLot) (offers : List Offer) (ask : Ask) → settling_by leases offers ≡ Some ask → reads_at id (kept_ask ask) ≡ false
settling-reads id [] [] ask e = absurd cc
settling-reads id [] (offer ∷ offers) ask e = let is : Grant offer.origin (record { 0 = offer.to }) ≡ ask = cc e in subst (λ (a : Ask). reads_at id (kept_ask a) ≡ false) is refl
settling-reads id (lease ∷ leases) offers ask e = let is : Done (record { 0 = lease.0.number }) ≡ ask = cc e in subst (λ (a : Ask). reads_at id (kept_ask a) ≡ false) is refl

-- a sync: its own entry may read, those that settle the session do not
pub adds-sync : {s t : SessionState} {ask : Ask} {reply : Reply} {shares : Shares} (id but : ℕ) (sync : Synced s t ask reply shares) → ((sync.number ≡ but → ⊥) → reads_at id ask ≡ false)
    → AddsNoRead id but ((sync.number, entry_by s.id ask reply) ∷ sync.added)
adds-sync {s} {t} {ask} {reply} {shares} id but sync first zero n e here other =
    let both = pair-is (sync.number, entry_by s.id ask reply) (n, e) here in
    subst (λ (x : Entry). reads_at id x.ask ≡ false) both.1 (reads-kept id ask ∙ first (λ same. other (sym both.0 ∙ same)))
adds-sync {s} {t} {ask} {reply} {shares} id but sync first (suc k) n e here other =
    let settles = each-at (IsSettlingIn s.fixed s.id t.knows.seen) sync.added k (n, e) sync.settling here in
    subst (λ (x : Entry). reads_at id x.ask ≡ false) (sym settles.entry_is) (settling-reads id _ _ settles.ask settles.next)

-- ---- what is told

module _ {X : Type 0} (tell : World → Entry → List X) (pool id : ℕ) (silent : (w : World) (e : Entry) → of_entry_in read_by id w e ≡ [] → tell w e ≡ []) where
  -- a call that reads nothing there
  pub sight-stays : (s : SessionState) (w : Knowing) (added : List (ℕ × Entry)) → s.id ≤ length s.knows.seen → Stands s.id s.knows.mine → IsLegal pool w.seen → Told root_of s.knows w w.seen added
      → IsPortOf pool s.knows.seen s.id id → AddsNoRead id 0 added → told tell pool w.seen ≡ told tell pool s.knows.seen
  sight-stays s w added come speaks legal passed mine none =
      let seen = s.knows.seen in
      let more = passed.begins.0 in
      let whole : seen ++ more ≡ w.seen = passed.begins.1 in
      ap (told tell pool) (sym whole)
      ∙ told-stays tell pool id silent seen more s.id (subst (IsLegal pool) (sym whole) legal) mine (λ k e here.
      not-read s w added id 0 come speaks passed none (length seen + k) e (omega arith) (subst (λ (h : List Entry). slice_get h (length seen + k) ≡ Some e) whole (get_right seen more k e here)) (λ same. absurd (omega (arith, same))))

  -- one of whose entries reads
  pub sight-grows : (s : SessionState) (w : Knowing) (added : List (ℕ × Entry)) (number : ℕ) (entry : Entry) → s.id ≤ length s.knows.seen → Stands s.id s.knows.mine → IsLegal pool w.seen → Told root_of s.knows w w.seen added
      → IsPortOf pool s.knows.seen s.id id → length s.knows.seen < number → slice_get w.seen (number - 1) ≡ Some entry → AddsNoRead id number added
      → told tell pool w.seen ≡ told tell pool s.knows.seen ++ tell (world_of pool (take (number - 1) w.seen)) entry
  sight-grows s w added number entry come speaks legal passed mine new there none =
      let seen = s.knows.seen in
      let rest = passed.begins.0 in
      let all : seen ++ rest ≡ w.seen = passed.begins.1 in
      let count = number - 1 - length seen in
      let more = take count rest in
      let later = drop (number - 1 + 1) w.seen in
      let at : number - 1 ≡ length seen + count = omega (arith, new) in
      let front : take (number - 1) w.seen ≡ seen ++ more = ap (λ (h : List Entry). take (number - 1) h) (sym all) ∙ (ap (λ (n : ℕ). take n (seen ++ rest)) at ∙ take-append-add seen rest count) in
      let whole : w.seen ≡ (seen ++ more) ++ entry ∷ later =
      sym (take-append-drop (number - 1) w.seen) ∙ (ap (λ (h : List Entry). h ++ drop (number - 1) w.seen) front ∙ ap (λ (h : List Entry). (seen ++ more) ++ h) (drop-slice_get w.seen (number - 1) entry there)) in
      let inside = slice_get_within w.seen (number - 1) entry there in
      let cut : length (take (number - 1) w.seen) ≡ number - 1 = length-take-le (number - 1) w.seen (omega (arith, inside)) in
      let long : length (seen ++ more) ≡ number - 1 = ap (λ (h : List Entry). length h) (sym front) ∙ cut in
      let parts = length-append seen more in
      let one = length-append (seen ++ more) (entry ∷ []) in
      ap (told tell pool) whole
      ∙ (told-grows tell pool id silent seen more entry later s.id (subst (IsLegal pool) whole legal) mine
      (λ k e here.
      let within = slice_get_within more k e here in
      not-read s w added id number come speaks passed none (length seen + k) e (omega arith)
      (prefix_get (seen ++ more) w.seen (length seen + k) e (entry ∷ later, sym whole) (get_right seen more k e here)) (λ same. absurd (omega (arith, same, within, long, parts))))
      (λ k e here.
      let place : slice_get w.seen (length ((seen ++ more) ++ entry ∷ []) + k) ≡ Some e =
      subst (λ (h : List Entry). slice_get h (length ((seen ++ more) ++ entry ∷ []) + k) ≡ Some e) (append_assoc (seen ++ more) (entry ∷ []) later ∙ sym whole) (get_right ((seen ++ more) ++ entry ∷ []) later k e here) in
      not-read s w added id number come speaks passed none (length ((seen ++ more) ++ entry ∷ []) + k) e (omega (arith, one, long, new)) place (λ same. absurd (omega (arith, same, one, long, new))))
      ∙ ap (λ (h : List Entry). told tell pool seen ++ tell (world_of pool h) entry) (sym front))

  -- and so a receive sync
  pub receive-grows : {s t : SessionState} {received : Received} → pool ≡ t.fixed.pool → IsThere None s → IsThere None t → (is : IsReceived s t id received) → (n : ℕ) → n ≡ received.entry → (entry : Entry)
      → slice_get t.knows.seen (n - 1) ≡ Some entry → told tell pool t.knows.seen ≡ told tell pool s.knows.seen ++ tell (world_of pool (take (n - 1) t.knows.seen)) entry
  receive-grows {s} {t} {received} here there after is n same entry at =
      let sync = is.synced in
      let number : n ≡ sync.number = same ∙ is.entry in
      let stands = sync.told.stand 0 sync.number _ refl in
      let new : length s.knows.seen < n = subst (λ (m : ℕ). length s.knows.seen < m) (sym number) stands.0 in
      let fixed : s.fixed.pool ≡ pool = ap (λ (f : Fixed). f.pool) (sym sync.fixed) ∙ sym here in
      let legal : IsLegal pool t.knows.seen = subst (λ (m : ℕ). IsLegal m t.knows.seen) (sym here) after.legal in
      let mine : IsPortOf pool s.knows.seen s.id id = subst (λ (m : ℕ). IsPortOf m s.knows.seen s.id id) fixed (port-there id there is.at) in
      sight-grows s t.knows _ n entry there.come there.speaks legal sync.told mine new at (adds-sync id n sync (λ other. absurd (other (sym number))))
