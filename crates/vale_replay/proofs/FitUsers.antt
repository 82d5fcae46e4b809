-- Each user of an accepted script fits, wherever a history that plays it is under way.
use Rattle.std.proofs.Common.{Bool, true, false, cond, not, ℕ, zero, suc, ◌+◌, ◌-◌, ◌<◌, ◌≤◌, ◌≡◌, ◌⊎◌, inl, inr, List, [], ◌∷◌, ◌++◌, length, map, filter, take, drop, nat_le, slice_get, slice_set, Option, Some, None, option_map, refl, sym, ◌∙◌, ap, subst, arith}
use Rattle.std.specs.Prelude.{◌||◌, option_and_then}
use Rattle.std.specs.Option.{option_or, option_map_or}
use Rattle.std.specs.List.{range_with_len, zip, AllByRecursion as Each}
use Rattle.std.proofs.lemmas.Bool.{and_parts, leb-true, eq-eqb, cases_lt}
use Rattle.std.proofs.lemmas.List.{length-take, take_all}
use Rattle.std.proofs.lemmas.Option.{same_Some}
use Rattle.nm_types.specs.Limits.{most_pool}
use Rattle.nm_types.specs.declared.fault.OpenFault.{OpenFault}
use Rattle.nm_types.specs.declared.id.SessionId.{SessionId}
use Rattle.nm_types.specs.Frames.{Frame}
use Rattle.nm_types.specs.Parts.{HeldPart, first_parts, slots_of_length, told_parts, cut_frame, cut_frames}
use Rattle.nm_types.specs.OwnPorts.{OwnPort, OwnState, Arrival, port_with_name, buffers_in}
use Rattle.nm_types.specs.OwnSyncs.{buffers_of_arrivals, own_after_finish}
use Rattle.vale_entry.specs.declared.entry.Ask.{Ask}
use Rattle.vale_entry.specs.declared.entry.Ask.TheVariants.{Open, Send, Sync, Reset, Shut, Finish, Leave, PutKept, Get}
use Rattle.vale_entry.specs.declared.entry.Entry.{Entry}
use Rattle.vale_entry.specs.declared.entry.Reply.{Reply}
use Rattle.vale_entry.specs.declared.entry.Reply.TheVariants.{Opened, Gave, Took}
use Rattle.vale_entry.specs.World.{World, Port, Lot, Offer, open_port}
use Rattle.vale_entry.specs.Arrivals.{blank_arrival, part_arrival, delivered_parts, given_arrivals, lent_arrivals, lent_to, arrivals_of}
use Rattle.vale_entry.specs.Delivery.{ready_lots, delivered_frames}
use Rattle.vale_entry.specs.Holdings.{delivered_buffers, first_idle, is_buffer_index}
use Rattle.vale_entry.specs.Legal.{Standing, Outcome, standing_of, step, kept_ask, can_open, open_step_by, Follows, IsLegal}
use Rattle.vale_entry.specs.Opening.{open_refusal}
use Rattle.vale_entry.specs.OwnCalls.{finish_call, own_by, own_after}
use Rattle.vale_entry.specs.Pipe.{peer_of}
use Rattle.vale_entry.proofs.Counting.{count_of, count_of-cons}
use Rattle.vale_entry.proofs.Each.{each-append, each-map, each-weaker, each-take}
use Rattle.vale_own.specs.Own.{own_of}
use Rattle.vale_own.proofs.Arriving.{arrivals-apart}
use Rattle.vale_own.proofs.SideOpens.{Sized, opened-sizes}
use Rattle.vale_script.specs.declared.script.Line.{Line}
use Rattle.vale_script.specs.declared.script.Unit.{Unit as Part}
use Rattle.vale_script.specs.declared.script.Unit.TheVariants as parts
use Rattle.vale_script.specs.Script.{Program}
use Rattle.vale_script.specs.Sound.{IsSound}
use Rattle.vale_replay.specs.Machine.{Machine, new_machine, call_of_tasks, settling_call, owed_lot, next_offer, done_call, grant_call, next_call, is_reset, is_peer_gone, has_room_at, is_settling, with_tasks, answered}
use Rattle.vale_replay.specs.MayCall.{HasFit, UsersFit, AcceptedCallsMayBeMade}
use Rattle.vale_replay.specs.Replay.{Cast, UnitShare, ScriptUnit, TakesTurn, TakesTurns, EachShare, ReplaysShare, ReplaysUnits, HasPlayed, Reaches, entry_of, act_of, acts_of, is_of_user, has_line, share_of, shares_of, starting, closing_unit, units_of, user_count, cast_of, with_afters, standing_before}
use Rattle.vale_replay.specs.Tasks.{Captures, Task, PutFrame, SendFrames, ShutPort, FinishPort, Depart, records_of}
use Rattle.vale_replay.proofs.Calling.{calls-may}
use Rattle.vale_replay.proofs.FitRings.{FitsWord, IsFit, ComesFit, each-set, each-filter, open-fit, reset-fit, send-fit, put-fit, receive-fit, finish-fit}
use Rattle.vale_replay.proofs.FitScripts.{FitsAct, FitsLine, FitsUnit, script-fits}
use Rattle.vale_replay.proofs.FitTasks.{IsLineTask, AreClosing, Closes, AreFit, FitsUser, has-fit, rest-fits, left_if-fit, lines-tasks, closing-fits, finish-fits}
use Rattle.vale_replay.proofs.Legal.{made-follows}
use Rattle.vale_replay.proofs.Sides.{legal-at}
use Rattle.vale_replay.proofs.TurnSides.{port-of, outcome-of}

-- What an entry brings.

each-counted : (xs : List ℕ) → ((b : ℕ) → 1 ≤ count_of b xs → FitsWord b) → Each FitsWord xs
each-counted [] holds = tt
each-counted (x ∷ xs) holds = (
  holds x (let here = eq-eqb x x refl in let all = count_of-cons x x xs in rw all (rw here (omega arith))),
  each-counted xs (λ b some. holds b (let all = count_of-cons b x xs in omega (arith, all, some))),
)

in-pool : (pool b n c : ℕ) → pool ≤ most_pool → n + c ≤ cond (is_buffer_index pool b) 1 0 → 1 ≤ c → FitsWord b
in-pool pool b n c few most some = by (is_buffer_index pool b) refl most
  where
    by : (is : Bool) → is_buffer_index pool b ≡ is → n + c ≤ cond is 1 0 → FitsWord b
    by true e less =
        let high = leb-true b (pool + 1) (and_parts (nat_le 2 b) (nat_le b (pool + 1)) e).1 in
        omega (arith, high, few)
    by false e less = absurd (omega (arith, less, some))

comes-buffers : (pool : ℕ) (past : List Entry) (e : Entry) → pool ≤ most_pool → IsLegal pool past → Follows (standing_of pool past) e
    → Each FitsWord (buffers_of_arrivals (arrivals_of (standing_of pool past) e.ask e.reply))
comes-buffers pool past e few legal follows =
    each-counted (buffers_of_arrivals (arrivals_of (standing_of pool past) e.ask e.reply))
    (λ b some. in-pool pool b (count_of b (own_of e.session.0 (standing_of pool past)).buffers) (count_of b (buffers_of_arrivals (arrivals_of (standing_of pool past) e.ask e.reply))) few
    (arrivals-apart pool past e b legal follows) some)

abbrev IsBrief : Arrival → Type 0
IsBrief a = length a.bytes < 65536

blanks-brief : (buffers : List ℕ) → Each IsBrief (map blank_arrival buffers)
blanks-brief [] = tt
blanks-brief (b ∷ buffers) = (omega arith, blanks-brief buffers)

abbrev IsBriefPart : HeldPart → Type 0
IsBriefPart part = length part.bytes < 65536

told-brief : (count : ℕ) (bytes : List ℕ) → Each IsBriefPart (told_parts (first_parts count bytes))
told-brief zero bytes = tt
told-brief (suc count) bytes = (let cut = length-take 2048 bytes in omega (arith, cut), told-brief count (drop 2048 bytes))

frames-brief : (frames : List (List ℕ)) → Each IsBriefPart (cut_frames frames)
frames-brief [] = tt
frames-brief (bytes ∷ frames) = each-append IsBriefPart (cut_frame bytes) (cut_frames frames) (told-brief (slots_of_length (length bytes)) bytes) (frames-brief frames)

parts-brief : (buffers : List ℕ) (held : List HeldPart) → Each IsBriefPart held → Each IsBrief (map part_arrival (zip buffers held))
parts-brief [] held all = tt
parts-brief (b ∷ buffers) [] all = tt
parts-brief (b ∷ buffers) (part ∷ held) all = (all.0, parts-brief buffers held all.1)

given-brief : (s : Standing) (o : Option Port) → Each IsBrief (option_map_or (given_arrivals s) o [])
given-brief s None = tt
given-brief s (Some port) =
    parts-brief (delivered_buffers port.id (length (ready_lots port)) s.holdings.ports) (delivered_parts port) (frames-brief (map (λ (frame : Frame). frame.bytes) (delivered_frames port)))

peer-brief : (s : Standing) (count : ℕ) (o : Option Port) → Each IsBrief (option_map_or (λ (peer : Port). lent_arrivals s.holdings.ports peer.id count) o [])
peer-brief s count None = tt
peer-brief s count (Some peer) = blanks-brief (first_idle peer.id count s.holdings.ports)

lent-brief : (s : Standing) (count : ℕ) (o : Option Port) → Each IsBrief (option_map_or (lent_to s count) o [])
lent-brief s count None = tt
lent-brief s count (Some port) = peer-brief s count (peer_of s.world.ports port)

arrivals-brief : (s : Standing) (ask : Ask) (reply : Reply) → Each IsBrief (arrivals_of s ask reply)
arrivals-brief s (Open session name tx rx extra) Opened = blanks-brief (take tx s.holdings.free ++ take extra (drop (tx + rx) s.holdings.free))
arrivals-brief s (Sync port back) (Gave count to) = given-brief s (open_port s.world.ports port.0)
arrivals-brief s (Get port back) (Gave count to) = given-brief s (open_port s.world.ports port.0)
arrivals-brief s (PutKept port offered) (Took items to) = lent-brief s (length items) (open_port s.world.ports port.0)
arrivals-brief s _ _ = tt

-- What an entry makes of the user's own.

abbrev OpensSized : Ask → Reply → Type 0
OpensSized (Open session name tx rx extra) Opened = Sized tx rx
OpensSized _ _ = Unit {0}

opens-sized : (s : Standing) (ask : Ask) (out : Outcome) → step s ask ≡ Some out → OpensSized (kept_ask ask) out.reply
opens-sized s (Open session name tx rx extra) out e = by_can (can_open s.world session.0 name tx rx extra) e
  where
    by_refusal : (refusal : Option OpenFault) → open_refusal s.world name tx rx extra ≡ refusal → open_step_by refusal s session.0 name tx rx extra ≡ out
        → OpensSized (Open session name tx rx extra) out.reply
    by_refusal None none same = subst (λ (o : Outcome). OpensSized (Open session name tx rx extra) o.reply) same (opened-sizes s.world name tx rx extra none)
    by_refusal (Some fault) none same = subst (λ (o : Outcome). OpensSized (Open session name tx rx extra) o.reply) same tt

    by_can : (b : Bool) → cond b (Some (open_step_by (open_refusal s.world name tx rx extra) s session.0 name tx rx extra)) None ≡ Some out
        → OpensSized (Open session name tx rx extra) out.reply
    by_can true is = by_refusal (open_refusal s.world name tx rx extra) refl (same_Some (open_step_by (open_refusal s.world name tx rx extra) s session.0 name tx rx extra) out is)
    by_can false is = absurd cc
opens-sized s _ out e = tt

own-fits : (number : ℕ) (ask : Ask) (reply : Reply) (came : List Arrival) (s : OwnState) → OpensSized ask reply → ComesFit came → IsFit s → IsFit (own_by number ask reply came s)
own-fits number (Open session name tx rx extra) Opened came s sized comes fit = open-fit number name tx rx came s sized comes fit
own-fits number (Reset port side fault) reply came s sized comes fit = reset-fit port.0 side s fit
own-fits number (Send port frames) reply came s sized comes fit = send-fit port.0 s fit
own-fits number (PutKept port offered) reply came s sized comes fit = put-fit port.0 came s comes fit
own-fits number (Sync port back) reply came s sized comes fit = receive-fit port.0 came s comes fit
own-fits number (Get port back) reply came s sized comes fit = receive-fit port.0 came s comes fit
own-fits number (Finish port bufs chain) reply came s sized comes fit = finish-fit port.0 bufs s fit
own-fits number _ reply came s sized comes fit = fit

-- What it makes of the tasks.

task-called : (w : World) (user : Machine) (ask : Ask) → next_call w user ≡ Some ask → is_settling (kept_ask ask) ≡ false → call_of_tasks user user.tasks ≡ Some ask
task-called w user ask called plain = by_session user.session called
  where
    settles : (call : Ask) → is_settling (kept_ask call) ≡ true → Some call ≡ Some ask → ⊥
    settles call is e =
        let clash : true ≡ false = sym is ∙ ap (λ (a : Ask). is_settling (kept_ask a)) (same_Some call ask e) ∙ plain in
        absurd cc

    by_found : (lot : Option Lot) (offer : Option Offer) → option_or (option_or (option_map done_call lot) (option_map grant_call offer)) (call_of_tasks user user.tasks) ≡ Some ask
        → call_of_tasks user user.tasks ≡ Some ask
    by_found (Some lot) offer e = absurd (settles (done_call lot) refl e)
    by_found None (Some offer) e = absurd (settles (grant_call offer) refl e)
    by_found None None e = e

    by_session : (session : Option SessionId) → option_or (option_and_then (settling_call w) session) (call_of_tasks user user.tasks) ≡ Some ask → call_of_tasks user user.tasks ≡ Some ask
    by_session None e = e
    by_session (Some x) e = by_found (owed_lot w x.0) (next_offer w x.0) e

lines-go : (number : ℕ) (entry : Entry) (user : Machine) (tasks : List Task) → user.tasks ≡ tasks → IsFit user.own → Each IsLineTask tasks → FitsUser (with_tasks number entry user tasks)
lines-go number entry user [] same fit all = record { own = fit; tasks = inl (subst (Each IsLineTask) (sym same) tt) }
lines-go number entry user (PutFrame name bytes ∷ rest) same fit all =
    record { own = fit; tasks = inl (left_if-fit (is_reset entry.ask || not (has_room_at user.own name bytes)) rest (PutFrame name bytes ∷ rest) all.1 all) }
lines-go number entry user (SendFrames name ∷ rest) same fit all =
    record { own = fit; tasks = inl (left_if-fit (is_reset entry.ask || is_peer_gone entry.reply) rest rest all.1 all.1) }
lines-go number entry user (Depart ∷ rest) same fit all = absurd all.0
lines-go number entry user (_ ∷ rest) same fit all = record { own = fit; tasks = inl all.1 }

leaves-by : (session : Option SessionId) (ask : Ask) → option_map Leave session ≡ Some ask → (x : SessionId) × (Leave x ≡ ask)
leaves-by None ask e = absurd cc
leaves-by (Some x) ask e = (x, same_Some (Leave x) ask e)

close-go : (number : ℕ) (entry : Entry) (came : List Arrival) (user : Machine) (ask : Ask) (tasks : List Task) → kept_ask ask ≡ entry.ask → call_of_tasks user tasks ≡ Some ask
    → IsFit (own_after number entry came user.own) → Closes user.own.ports tasks → FitsUser (with_tasks number entry (record user { own = own_after number entry came user.own }) tasks)
close-go number entry came user ask [] kept call fit closes = absurd cc
close-go number entry came user ask (ShutPort name ∷ rest) kept call fit closes =
    let t = port-of (λ (p : OwnPort). Shut p.id) user.own name (port_with_name user.own name) ask refl call in
    let stays : own_by number entry.ask entry.reply came user.own ≡ user.own = ap (λ (a : Ask). own_by number a entry.reply came user.own) (sym kept ∙ ap kept_ask (sym t.is)) in
    record { own = fit; tasks = inr (subst (λ (o : OwnState). Closes o.ports rest) (sym stays) (record { closing = closes.closing; enough = λ other. closes.enough other })) }
close-go number entry came user ask (FinishPort name ∷ rest) kept call fit closes =
    let t = port-of (finish_call user.own) user.own name (port_with_name user.own name) ask refl call in
    let gone : own_by number entry.ask entry.reply came user.own ≡ own_after_finish t.port.id.0 (buffers_in t.port) user.own =
    ap (λ (a : Ask). own_by number a entry.reply came user.own) (sym kept ∙ ap kept_ask (sym t.is)) in
    record { own = fit; tasks = inr (subst (λ (o : OwnState). Closes o.ports rest) (sym gone) (finish-fits name user.own.ports rest t.port t.named closes)) }
close-go number entry came user ask (Depart ∷ rest) kept call fit closes =
    let t = leaves-by user.session ask call in
    let stays : own_by number entry.ask entry.reply came user.own ≡ user.own = ap (λ (a : Ask). own_by number a entry.reply came user.own) (sym kept ∙ ap kept_ask (sym t.1)) in
    record { own = fit; tasks = inr (subst (λ (o : OwnState). Closes o.ports rest) (sym stays) (record { closing = subst AreClosing (sym closes.closing) tt; enough = λ other. closes.enough other })) }
close-go number entry came user ask (_ ∷ rest) kept call fit closes = absurd closes.closing

answer-fits : (number : ℕ) (w : World) (entry : Entry) (came : List Arrival) (user : Machine) (ask : Ask) → kept_ask ask ≡ entry.ask → next_call w user ≡ Some ask
    → IsFit (own_after number entry came user.own) → FitsUser user → FitsUser (answered number entry came user)
answer-fits number w entry came user ask kept called fit fits = by (is_settling entry.ask) refl
  where
    now : Machine
    now = record user { own = own_after number entry came user.own }

    of_task : is_settling entry.ask ≡ false → AreFit user.own.ports user.tasks → FitsUser (with_tasks number entry now user.tasks)
    of_task plain (inl all) = lines-go number entry now user.tasks refl fit all
    of_task plain (inr closes) = close-go number entry came user ask user.tasks kept (task-called w user ask called (ap is_settling kept ∙ plain)) fit closes

    by : (b : Bool) → is_settling entry.ask ≡ b → FitsUser (cond b user (with_tasks number entry now user.tasks))
    by true e = fits
    by false e = of_task e fits.tasks

turn-fits : (pool : ℕ) (h : List Entry) (before : Machine) (n : ℕ) (after : Machine) → pool ≤ most_pool → IsLegal pool (take (n - 1) h)
    → TakesTurn pool h before n after → FitsUser before → FitsUser after
turn-fits pool h before n after few legal turn fits = subst FitsUser (sym turn.goes_on) (rest-fits next next.tasks behind.own behind.tasks)
  where
    s : Standing
    s = standing_before pool h n

    came : List Arrival
    came = arrivals_of s turn.entry.ask turn.entry.reply

    next : Machine
    next = answered n turn.entry came before

    out : (o : Outcome) × (step s turn.ask ≡ Some o) × (entry_of turn.ask o ≡ turn.entry)
    out = outcome-of turn.ask turn.entry (step s turn.ask) turn.made

    sized : OpensSized turn.entry.ask turn.entry.reply
    sized = subst (λ (e : Entry). OpensSized e.ask e.reply) out.2 (opens-sized s turn.ask out.0 out.1)

    comes : ComesFit came
    comes = record {
      buffers = comes-buffers pool (take (n - 1) h) turn.entry few legal (made-follows s turn.ask turn.entry turn.made);
      lengths = arrivals-brief s turn.entry.ask turn.entry.reply;
    }

    behind : FitsUser next
    behind = answer-fits n s.world turn.entry came before turn.ask (ap (λ (e : Entry). e.ask) out.2) turn.asked
        (own-fits n turn.entry.ask turn.entry.reply came before.own sized comes fits.own) fits

-- Users of units.

abbrev FitsShare : UnitShare → Type 0
FitsShare share = (m : Machine) → AreFit m.own.ports (share.tasks m)

each-get : {X : Type 0} (P : X → Type 0) (xs : List X) (i : ℕ) (x : X) → Each P xs → slice_get xs i ≡ Some x → P x
each-get P [] i x all at = absurd cc
each-get P (y ∷ ys) zero x all at = subst P (same_Some y x at) all.0
each-get P (y ∷ ys) (suc i) x all at = each-get P ys i x all.1 at

module _ (pool : ℕ) (few : pool ≤ most_pool) (h : List Entry) (legal : (n : ℕ) → IsLegal pool (take n h)) where
  turns-fit : (before : Machine) (ns : List ℕ) (after : Machine) → TakesTurns pool h before ns after → FitsUser before → FitsUser after
  turns-fit before [] after turns fits = subst FitsUser (sym turns) fits
  turns-fit before (n ∷ ns) after turns fits = turns-fit turns.0 ns after turns.1.1 (turn-fits pool h before n turns.0 few (legal (n - 1)) turns.1.0 fits)

  share-fits : (share : UnitShare) (before : Machine) (ns : List ℕ) (after : Machine) → FitsShare share → ReplaysShare pool h share before ns after → FitsUser before → FitsUser after
  share-fits share before ns after fit replays fits =
      turns-fit (starting share before) ns after replays.turns (rest-fits (record before { tasks = share.tasks before }) (share.tasks before) fits.own (fit before))

  shares-fit : (cast : Cast) (unit : ScriptUnit) (lists : List (List ℕ)) (afters users : List Machine) → Each FitsUser cast.users → Each FitsShare unit
      → EachShare (ReplaysShare pool h) cast unit lists afters → Each FitsUser users → Each FitsUser (with_afters unit afters users)
  shares-fit cast [] [] [] users all fit each here = here
  shares-fit cast (share ∷ shares) (ns ∷ lists) (after ∷ afters) users all fit each here =
      let one = share-fits share each.0.0 ns after fit.0 each.0.2 (each-get FitsUser cast.users (share.user - 1) each.0.0 all each.0.1) in
      shares-fit cast shares lists afters (slice_set users (share.user - 1) after) all fit.1 each.1 (each-set FitsUser users (share.user - 1) after here one)
  shares-fit cast _ _ _ users all fit each here = absurd each

  units-fit : (cast : Cast) (first : ℕ) (units : List ScriptUnit) (next : Cast) (last : ℕ) → Each (Each FitsShare) units → ReplaysUnits pool h cast first units next last
      → Each FitsUser cast.users → Each FitsUser next.users
  units-fit cast first [] next last fit replays all = subst (λ (c : Cast). Each FitsUser c.users) (sym replays.0) all
  units-fit cast first (unit ∷ units) next last fit replays all =
      let one = replays.1.1.0 in
      units-fit replays.0 replays.1.0 units next last fit.1 replays.1.1.1
      (subst (λ (c : Cast). Each FitsUser c.users) (sym one.others) (shares-fit cast unit one.lists one.afters cast.users all fit.0 one.replays all))

-- The units of an accepted script.

acts-fit : (user : ℕ) (lines : List Line) → Each FitsLine lines → Each FitsAct (acts_of lines user)
acts-fit user lines all = each-map FitsLine FitsAct act_of (λ line fit. fit) (filter (is_of_user user) lines) (each-filter FitsLine (is_of_user user) lines all)

block-fits : (records : List ℕ → List (List ℕ)) (lines : List Line) → Each FitsLine lines → (ns : List ℕ) → Each FitsShare (map (λ user. share_of records user (acts_of lines user)) ns)
block-fits records lines all [] = tt
block-fits records lines all (n ∷ ns) = (λ m. inl (lines-tasks records (acts_of lines n) (acts-fit n lines all)), block-fits records lines all ns)

unit-shares : (records : List ℕ → List (List ℕ)) (count : ℕ) (unit : Part) → FitsUnit unit → Each FitsShare (shares_of records count unit)
unit-shares records count (parts.Single line) fit = (λ m. inl (lines-tasks records (line.act ∷ []) (fit, tt)), tt)
unit-shares records count (parts.Block lines) fit = block-fits records lines fit (filter (has_line lines) (range_with_len 1 count))

closings-fit : (ns : List ℕ) → Each (Each FitsShare) (map closing_unit ns)
closings-fit [] = tt
closings-fit (n ∷ ns) = ((λ m. inr (closing-fits m), tt), closings-fit ns)

program-fits : (program : Program) (captures : Captures) → IsSound program → Each (Each FitsShare) (units_of program captures)
program-fits program captures sound =
    each-append (Each FitsShare) (map (shares_of (records_of program.files captures) (user_count program)) program.units) (map closing_unit (range_with_len 1 (user_count program)))
    (each-map FitsUnit (Each FitsShare) (shares_of (records_of program.files captures) (user_count program)) (λ unit fit. unit-shares (records_of program.files captures) (user_count program) unit fit) program.units (script-fits program sound))
    (closings-fit (range_with_len 1 (user_count program)))

new-fit : (pool : ℕ) (ns : List ℕ) → Each FitsUser (map (new_machine pool) ns)
new-fit pool [] = tt
new-fit pool (n ∷ ns) = (record { own = tt; tasks = inl tt }, new-fit pool ns)

pub users-fit : UsersFit
users-fit program captures h nows sound way = each-weaker FitsUser HasFit has-fit nows.users (by_way way)
  where
    legal : (n : ℕ) → IsLegal program.pool (take n h)
    legal n = by (cases_lt (length h) n)
      where
        whole : IsLegal program.pool h
        whole = subst (IsLegal program.pool) (take_all (length h) h (omega arith)) (legal-at program captures h nows way (length h) (omega arith))

        by : (length h < n) ⊎ (n ≤ length h) → IsLegal program.pool (take n h)
        by (inl over) = subst (IsLegal program.pool) (sym (take_all n h (omega (arith, over)))) whole
        by (inr within) = legal-at program captures h nows way n within

    fit : Each (Each FitsShare) (units_of program captures)
    fit = program-fits program captures sound

    first : Each FitsUser (cast_of program).users
    first = new-fit program.pool (range_with_len 1 (user_count program))

    reached : Reaches program captures h nows → Each FitsUser nows.users
    reached r =
        let here = units-fit program.pool sound.most h legal (cast_of program) 0 (take r.count (units_of program captures)) r.cast r.first (each-take (Each FitsShare) r.count (units_of program captures) fit) r.units first in
        subst (λ (c : Cast). Each FitsUser c.users) (sym r.nows_are)
        (shares-fit program.pool sound.most h legal r.cast r.unit r.lists r.afters r.cast.users here (each-get (Each FitsShare) (units_of program captures) r.count r.unit fit r.there) r.replays here)

    by_way : HasPlayed program captures h nows ⊎ Reaches program captures h nows → Each FitsUser nows.users
    by_way (inl p) = units-fit program.pool sound.most h legal (cast_of program) 0 (units_of program captures) nows (length h) fit p.units first
    by_way (inr r) = reached r

pub accepted-may : AcceptedCallsMayBeMade
accepted-may program captures h user call sound comes =
    calls-may program captures h user call (sound.least, sound.most) comes
    (each-get HasFit comes.nows.users (user - 1) comes.now (users-fit program captures h comes.nows sound (inr comes.reached)) comes.here)
