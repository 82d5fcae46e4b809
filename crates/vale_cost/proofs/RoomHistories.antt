-- What a history costs is the sum of what its entries cost.
use Rattle.std.specs.Prelude.{sum_by}
use Rattle.std.proofs.Common.{ℕ, zero, suc, ◌+◌, ◌*◌, ◌≤◌, ◌≡◌, length, List, [], ◌∷◌, ◌++◌, Option, Some, None, option_map, refl, sym, ◌∙◌, ap, subst, arith}
use Rattle.std.proofs.lemmas.List.{append-nil, append_assoc, take_all, take_at}
use Rattle.std.proofs.lemmas.List.Sums.{sum_by-cons, sum_by-append}
use Rattle.nm_types.specs.declared.fault.Part.{Part}
use Rattle.nm_types.specs.declared.fault.Part.TheVariants.{Entries, Bytes}
use Rattle.nm_types.specs.declared.fault.StepFault.TheVariants.{RecordFull}
use Rattle.vale_entry.specs.declared.entry.Ask.{Ask}
use Rattle.vale_entry.specs.declared.entry.Ask.TheVariants.{Enter}
use Rattle.vale_entry.specs.declared.entry.Entry.{Entry}
use Rattle.vale_entry.specs.declared.entry.Reply.{Reply}
use Rattle.vale_entry.specs.Room.{bytes_of, room_used}
use Rattle.vale_entry.specs.Legal.{Standing, Outcome, IsLegal, IsLegalFrom, Follows, standing_of, standing_after, standing_with, world_of, step, recorded_step, kept_ask, session_and_reply}
use Rattle.vale_entry.proofs.Follows.{IfMade, recorded-by}
use Rattle.vale_entry.proofs.HistoryLaws.{room-used}
use Rattle.vale_entry.proofs.Worlds.{standing-push, legal-push}
use Rattle.vale_own.specs.Recorded.{Recorded, room_by, refused_by, standing}
use Rattle.vale_cost.specs.Completeness.{Sends, Calls, Opens, cost, opened_by, cost_by, cost_of, HaveFewPorts, HadFewPorts, HistoriesAreCheap, PortsWereOpened, CostThatFitsHasRoom, RoomIsNotRefused}
use Rattle.vale_cost.proofs.RoomSwitches.{on, AddsOpened, opened_kinds}
use Rattle.vale_cost.proofs.RoomWants.{WantsLittle, little-kinds, entries-little}

sum-push : (f : Entry → ℕ) (h : List Entry) (e : Entry) → sum_by f (h ++ e ∷ []) ≡ sum_by f h + f e
sum-push f h e =
    let all = sum_by-append f h (e ∷ []) in
    let one = sum_by-cons f e [] in
    omega (arith, all, one)

abbrev reply-of : Reply → Option (ℕ × Reply) → Reply
reply-of reply None = reply
reply-of reply (Some made) = made.1

-- what an entry of a legal history makes: its want is that of its step, and so are its ports
record IsAdded (pool : ℕ) (h : List Entry) (e : Entry) : Type 0 where
  made : Outcome
  made_of : recorded_step (standing_of pool h) e.ask e.reply ≡ Some made
  reply : made.reply ≡ e.reply

added-of : (pool : ℕ) (h : List Entry) (e : Entry) → Follows (standing_of pool h) e → IsAdded pool h e
added-of pool h e follows = by (recorded_step (standing_of pool h) e.ask e.reply) refl
  where
    by : (found : Option Outcome) → recorded_step (standing_of pool h) e.ask e.reply ≡ found → IsAdded pool h e
    by None is = let none : option_map session_and_reply None ≡ Some (e.session.0, e.reply) = ap (option_map session_and_reply) (sym is) ∙ follows in absurd cc
    by (Some made) is =
        let same : Some (made.session, made.reply) ≡ Some (e.session.0, e.reply) = ap (option_map session_and_reply) (sym is) ∙ follows in
        record { made = made; made_of = is; reply = ap (reply-of e.reply) same }

-- products grow with their factors
pub times-less : (k m n : ℕ) → m ≤ n → k * m ≤ k * n
times-less zero m n less = omega arith
times-less (suc k) m n less = let rest = times-less k m n less in omega (arith, rest, less)

pub times-sum : (k m n : ℕ) → k * (m + n) ≡ k * m + k * n
times-sum zero m n = omega arith
times-sum (suc k) m n = let rest = times-sum k m n in omega (arith, rest)

abbrev IsCheap : ℕ → ℕ → List Entry → Type 0
IsCheap most pool h = room_used pool h ≤ 2 * most * cost_of Sends h + cost_of Calls h

cheap-push : (most pool : ℕ) (h : List Entry) (e : Entry) → IsLegal pool h → Follows (standing_of pool h) e → HaveFewPorts most (world_of pool h).ports → IsCheap most pool h
    → IsCheap most pool (h ++ e ∷ [])
cheap-push most pool h e legal follows few cheap =
    let a = added-of pool h e follows in
    let want = subst (IfMade (WantsLittle most e.ask)) a.made_of (recorded-by (standing_of pool h) (WantsLittle most) e.ask e.reply (little-kinds most pool h few)) in
    let used = room-used pool h e a.made legal follows a.made_of in
    let sends = sum-push (cost_by Sends) h e in
    let calls = sum-push (cost_by Calls) h e in
    let product : 2 * most * cost_of Sends (h ++ e ∷ []) ≡ 2 * most * cost_of Sends h + 2 * most * cost_by Sends e =
    ap (λ (n : ℕ). 2 * most * n) sends ∙ times-sum (2 * most) (cost_of Sends h) (cost_by Sends e) in
    omega (arith, used, product, calls, want, cheap)

cheap-from : (most pool : ℕ) (h entries : List Entry) → IsLegal pool h → IsLegalFrom (standing_of pool h) entries → HadFewPorts most pool (h ++ entries) → IsCheap most pool h → IsCheap most pool (h ++ entries)
cheap-from most pool h [] legal rest few cheap = subst (IsCheap most pool) (sym (append-nil h)) cheap
cheap-from most pool h (e ∷ es) legal rest few cheap =
    let joined = append_assoc h (e ∷ []) es in
    let here : HaveFewPorts most (world_of pool h).ports = subst (λ (past : List Entry). HaveFewPorts most (world_of pool past).ports) (take_at h (e ∷ es) (length h) refl) (few (length h)) in
    subst (IsCheap most pool) joined
    (cheap-from most pool (h ++ e ∷ []) es (legal-push pool h e legal rest.0)
    (subst (λ (s : Standing). IsLegalFrom s es) (sym (standing-push pool h e)) rest.1)
    (subst (HadFewPorts most pool) (sym joined) few)
    (cheap-push most pool h e legal rest.0 here cheap))

pub histories-cheap : HistoriesAreCheap
histories-cheap most pool h legal few = cheap-from most pool [] h tt legal few (omega arith)

-- ---- the ports of a switch

opened-push : (pool : ℕ) (h : List Entry) (e : Entry) (switch : List ℕ) → Follows (standing_of pool h) e → on switch (world_of pool h).ports ≤ cost_of (Opens switch) h
    → on switch (world_of pool (h ++ e ∷ [])).ports ≤ cost_of (Opens switch) (h ++ e ∷ [])
opened-push pool h e switch follows old =
    let a = added-of pool h e follows in
    let more = subst (IfMade (AddsOpened (world_of pool h) e.ask)) a.made_of (recorded-by (standing_of pool h) (AddsOpened (world_of pool h)) e.ask e.reply (opened_kinds (standing_of pool h))) switch in
    let sum = sum-push (cost_by (Opens switch)) h e in
    let reply = ap (opened_by switch e.ask) a.reply in
    let next : standing_of pool (h ++ e ∷ []) ≡ standing_with (standing_of pool h) e a.made.next = standing-push pool h e ∙ ap (standing_after (standing_of pool h) e) a.made_of in
    let ports = ap (λ (s : Standing). on switch s.world.ports) next in
    omega (arith, more, sum, reply, ports, old)

opened-from : (pool : ℕ) (h entries : List Entry) (switch : List ℕ) → IsLegalFrom (standing_of pool h) entries → on switch (world_of pool h).ports ≤ cost_of (Opens switch) h
    → on switch (world_of pool (h ++ entries)).ports ≤ cost_of (Opens switch) (h ++ entries)
opened-from pool h [] switch rest old = subst (λ (past : List Entry). on switch (world_of pool past).ports ≤ cost_of (Opens switch) past) (sym (append-nil h)) old
opened-from pool h (e ∷ es) switch rest old =
    subst (λ (past : List Entry). on switch (world_of pool past).ports ≤ cost_of (Opens switch) past) (append_assoc h (e ∷ []) es)
    (opened-from pool (h ++ e ∷ []) es switch
    (subst (λ (s : Standing). IsLegalFrom s es) (sym (standing-push pool h e)) rest.1)
    (opened-push pool h e switch rest.0 old))

pub were-opened : PortsWereOpened
were-opened pool h switch legal = opened-from pool [] h switch legal (omega arith)

-- ---- the room of a record

pub bytes-kept : (ask : Ask) (reply : Reply) → bytes_of (kept_ask ask) reply ≡ bytes_of ask reply
bytes-kept (Enter user) reply = refl
bytes-kept _ reply = refl

pub fit-room : CostThatFitsHasRoom
fit-room most b call made legal is fit =
    let room = histories-cheap most b.pool b.entries legal fit.few in
    let here : HaveFewPorts most (world_of b.pool b.entries).ports = subst (λ (past : List Entry). HaveFewPorts most (world_of b.pool past).ports) (take_all (length b.entries) b.entries (omega arith)) (fit.few (length b.entries)) in
    let want = entries-little most b.pool b.entries call made legal here is in
    let kept = bytes-kept call made.reply in
    let sends = times-sum (2 * most) (cost_of Sends b.entries) (cost Sends (kept_ask call) made.reply) in
    let entries-fit = fit.entries in
    let bytes-fit = fit.bytes in
    subst (room_by b call) (sym is) (omega (arith, room, want, sends, entries-fit), omega (arith, kept, bytes-fit))

refused-not : (b : Recorded) (call : Ask) (what : Part) (used want : ℕ) (found : Option Outcome) → room_by b call found → refused_by b call (RecordFull what used want) found → ⊥
refused-not b call what used want None room refused = refused
refused-not b call Entries used want (Some made) room refused =
    absurd (omega (arith, refused.0, refused.1, refused.2, room.0))
refused-not b call Bytes used want (Some made) room refused =
    absurd (omega (arith, refused.1, refused.2, refused.3, room.1))

pub not-refused : RoomIsNotRefused
not-refused b call what used want room refused = refused-not b call what used want (step (standing b) call) room refused
