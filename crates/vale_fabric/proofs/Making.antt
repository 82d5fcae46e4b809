-- What a call of a fabric tells, from what the turn and the book tell.
use Rattle.std.proofs.Common.{ℕ, ◌+◌, ◌-◌, ◌<◌, ◌^◌, List, [], ◌∷◌, ◌++◌, ◌≡◌, length, inl, le_refl, sym, ap, ◌∙◌, subst, Option, Some, None, Result, Ok, Err, OnErr, IfErr, true, false, arith, append-nil, length-append}
use Rattle.std.specs.Prelude.{option_map, take, min}
use Rattle.std.proofs.Math.Seq.{take-append_seam}
use Rattle.std.proofs.Math.Nat.{min-eq_left}
use Rattle.nm_turn.specs.Numbered.{numbered, Stands}
use Rattle.nm_turn.specs.Passes.{Told, listed}
use Rattle.nm_turn.specs.Turns.{AddsOne}
use Rattle.nm_turn.proofs.Prefixes.{numbered-append}
use Rattle.nm_turn.proofs.Telling.{told_made, told_none}
use Rattle.nm_types.specs.declared.fault.StepFault.{StepFault}
use Rattle.vale_entry.specs.declared.entry.Ask.{Ask}
use Rattle.vale_entry.specs.declared.entry.Ask.TheVariants.{Enter}
use Rattle.vale_entry.specs.declared.entry.Entry.{Entry}
use Rattle.vale_entry.specs.declared.entry.Reply.{Reply}
use Rattle.vale_entry.specs.declared.entry.Reply.TheVariants as replies
use Rattle.vale_entry.specs.Legal.{Standing, Outcome, step, reply_of, reply_to, session_and_reply, standing_of, is_enabled, IsEnabled, IsLegal, enter_step}
use Rattle.vale_entry.proofs.Worlds.{count-world_of}
use Rattle.vale_own.specs.Asker.{asks, asker_of, is_asker, is_enter}
use Rattle.vale_own.proofs.Asking.{asks-stay}
use Rattle.vale_own.proofs.Askers.{askers-make-steps}
use Rattle.vale_book.specs.Recorded.{Recorded, standing, after_outcome, after_ask, entry_of, with_step, HasRoom, IsRefusal}
use Rattle.vale_book.proofs.Comings.{enter-made}
use Rattle.vale_book.proofs.Said.{and-first, and-second, Steps, IsPlain, step-of, stored, asker-is}
use Rattle.vale_fabric.specs.declared.kept.Fixed.{Fixed}
use Rattle.vale_fabric.specs.Roots.{root_of}
use Rattle.vale_fabric.specs.Fabrics.{Knowing, record_in, seen_in, before_in, earlier, MayAsk, Makes, Answers, MakesNone, Refuses}
use Rattle.vale_fabric.specs.Ports.{Waits}
use Rattle.vale_fabric.specs.Steps.{IsTaken, IsPutBack}
use Rattle.vale_fabric.proofs.Others.{others-past, adds-own}

-- an ask that a pass may make is enabled at the book, and its session's there
pub may-now : {fixed : Fixed} {v entered : Knowing} {b : Recorded} {ask : Ask} (may : MayAsk fixed v ask) → IsTaken fixed v entered b → asks (standing b) may.session ask ≡ true
may-now {fixed} {v} {entered} {b} {ask} may taken =
    let o = others-past b.entries v.seen v.mine may.session taken.knows may.speaks in
    let pool : fixed.pool ≡ b.pool = ap (λ (r : Recorded). r.pool) taken.same in
    let legal : IsLegal fixed.pool (v.seen ++ o.0) = subst (IsLegal fixed.pool) o.1 (subst (λ (p : ℕ). IsLegal p b.entries) (sym pool) taken.legal) in
    let stay = asks-stay fixed.pool v.seen o.0 may.session ask legal o.2 in
    let here : standing_of fixed.pool (v.seen ++ o.0) ≡ standing b = ap (standing_of fixed.pool) (sym o.1) ∙ ap (λ (p : ℕ). standing_of p b.entries) pool in
    ap (λ (s : Standing). asks s may.session ask) (sym here) ∙ (stay ∙ may.may)

pub enabled-now : {fixed : Fixed} {v entered : Knowing} {b : Recorded} {ask : Ask} → MayAsk fixed v ask → IsTaken fixed v entered b → IsEnabled (standing b) ask
enabled-now {fixed} {v} {entered} {b} {ask} may taken = and-first (is_enabled (standing b) ask) (is_asker (asker_of (standing b) ask) may.session) (may-now may taken)

pub step-now : {fixed : Fixed} {v entered : Knowing} {b : Recorded} {ask : Ask} → MayAsk fixed v ask → IsTaken fixed v entered b → IsPlain ask → Steps b ask
step-now {fixed} {v} {entered} {b} {ask} may taken plain = let found = step-of (standing b) ask plain (enabled-now may taken) in record { makes = found.0; is = found.1 }

-- an entry of a session for which the pass speaks may be added
pub adds-by : {fixed : Fixed} {v entered : Knowing} {b after : Recorded} {ask : Ask} {session : ℕ} → IsTaken fixed v entered b → (steps : Steps b ask)
    → steps.makes.session ≡ session → Stands session v.mine → after ≡ after_ask b ask → AddsOne root_of (listed entered.stage) entered.mine after.entries
adds-by {fixed} {v} {entered} {b} {after} {ask} {session} taken steps whose speaks grown =
    let more = ap (λ (r : Recorded). r.entries) (stored steps grown) in
    let adds = adds-own b.entries v.seen v.mine (entry_of ask steps.makes) after.entries taken.knows (subst (λ (n : ℕ). Stands n v.mine) (sym whose) speaks) more in
    subst (λ (x : Knowing). AddsOne root_of (listed x.stage) x.mine after.entries) (sym taken.stage) adds

-- of such a session is every ask that the pass may make
pub whose-now : {fixed : Fixed} {v entered : Knowing} {b : Recorded} {ask : Ask} (may : MayAsk fixed v ask) → IsTaken fixed v entered b → is_enter ask ≡ false
    → (steps : Steps b ask) → steps.makes.session ≡ may.session
whose-now {fixed} {v} {entered} {b} {ask} may taken other steps =
    let asked = and-second (is_enabled (standing b) ask) (is_asker (asker_of (standing b) ask) may.session) (may-now may taken) in
    asker-is (asker_of (standing b) ask) steps.makes.session may.session (askers-make-steps (standing b) ask steps.makes other steps.is) asked

pub adds-now : {fixed : Fixed} {v entered : Knowing} {b after : Recorded} {ask : Ask} → MayAsk fixed v ask → IsTaken fixed v entered b → is_enter ask ≡ false
    → Steps b ask → after ≡ after_ask b ask → AddsOne root_of (listed entered.stage) entered.mine after.entries
adds-now may taken other steps grown = adds-by taken steps (whose-now may taken other steps) may.speaks grown

-- the call made the step's entry, with the book before it and after it
pub record Made (fixed : Fixed) (v w : Knowing) (before after : Recorded) (ask : Ask) : Type 0 where
  pub makes : Makes fixed v w ask
  pub was : before_in fixed w ≡ before
  pub now : seen_in fixed w ≡ after

all-more : (before after : List Entry) (e : Entry) → after ≡ before ++ e ∷ [] → numbered 1 before ++ (length after, e) ∷ [] ≡ numbered 1 after
all-more before after e grown =
    let long : length after ≡ 1 + length before = ap length grown ∙ (length-append before (e ∷ []) ∙ omega arith) in
    ap (λ (n : ℕ). numbered 1 before ++ (n, e) ∷ []) long ∙ (sym (numbered-append 1 before (e ∷ [])) ∙ ap (numbered 1) (sym grown))

pub earlier-is : (before after : List Entry) (e : Entry) → after ≡ before ++ e ∷ [] → earlier after ≡ before
earlier-is before after e grown =
    let long : length (before ++ e ∷ []) - 1 ≡ length before = let l = length-append before (e ∷ []) in omega (arith, l) in
    ap earlier grown ∙ (ap (λ (n : ℕ). take n (before ++ e ∷ [])) long ∙ take-append_seam before (e ∷ []))

pub made : {fixed : Fixed} {v entered w : Knowing} {before after : Recorded} {ask : Ask} → IsTaken fixed v entered before → Steps before ask
    → after ≡ after_ask before ask → HasRoom before ask → IsPutBack entered w after → Made fixed v w before after ask
made {fixed} {v} {entered} {w} {before} {after} {ask} taken steps grown room back =
    let outcome = steps.makes in
    let e = entry_of ask outcome in
    let is = stored steps grown in
    let more : after.entries ≡ before.entries ++ e ∷ [] = ap (λ (r : Recorded). r.entries) is in
    let t = told_made root_of v entered w before.entries after.entries e taken.stage more back.told in
    let seen : w.seen ≡ before.entries ++ e ∷ [] = t.seen ∙ more in
    let early : earlier w.seen ≡ before.entries = earlier-is before.entries w.seen e seen in
    let was : before_in fixed w ≡ before = ap (record_in fixed) early ∙ taken.same in
    let now : seen_in fixed w ≡ after = ap (record_in fixed) seen ∙ (ap (λ (r : Recorded). with_step r ask outcome) taken.same ∙ sym is) in
    record {
      makes = record {
        session = outcome.session;
        reply = outcome.reply;
        seen = seen ∙ ap (λ (h : List Entry). h ++ e ∷ []) (sym early);
        told = subst (λ (h : List Entry). Told root_of v w h ((length h, e) ∷ [])) (sym t.seen) t;
        steps = subst (λ (r : Recorded). option_map session_and_reply (step (standing r) ask) ≡ Some (outcome.session, outcome.reply)) (sym was) (ap (option_map session_and_reply) steps.is);
        room = subst (λ (r : Recorded). HasRoom r ask) (sym was) room;
        legal = subst (λ (r : Recorded). IsLegal r.pool r.entries) (sym now) back.legal;
        whole = λ is. t.mine ∙ (ap (λ (l : List (ℕ × Entry)). l ++ (length after.entries, e) ∷ []) (taken.whole is).all_mine ∙ (all-more before.entries after.entries e more ∙ ap (numbered 1) (sym t.seen)));
      };
      was = was;
      now = now;
    }

answer-is : (found : Option Outcome) (session : ℕ) (reply said : Reply) → option_map session_and_reply found ≡ Some (session, reply) → option_map reply_of found ≡ Some said → reply ≡ said
answer-is None session reply said e f = absurd cc
answer-is (Some outcome) session reply said e f =
    let pair : session_and_reply outcome ≡ (session, reply) = cc in
    let answer : reply_of outcome ≡ said = cc in
    sym (ap (λ (p : ℕ × Reply). p.1) pair) ∙ answer

-- and it answered as the book said
pub answered : {fixed : Fixed} {v w : Knowing} {before after : Recorded} {ask : Ask} {reply : Reply} (m : Made fixed v w before after ask)
    → option_map reply_of (step (standing before) ask) ≡ Some reply → Answers fixed v w ask reply
answered {fixed} {v} {w} {before} {after} {ask} {reply} m said =
    let now = subst (λ (r : Recorded). option_map reply_of (step (standing r) ask) ≡ Some reply) (sym m.was) said in record {
      makes = m.makes;
      reply_is = answer-is (step (standing (before_in fixed w)) ask) m.makes.session m.makes.reply reply m.makes.steps now;
    }

-- the call made none, with the book as it is seen now
pub record Unmade (fixed : Fixed) (v w : Knowing) (before : Recorded) : Type 0 where
  pub none : MakesNone fixed v w
  pub now : seen_in fixed w ≡ before

pub unmade : {fixed : Fixed} {v entered w : Knowing} {before after : Recorded} → IsTaken fixed v entered before → after ≡ before → IsPutBack entered w after
    → Unmade fixed v w before
unmade {fixed} {v} {entered} {w} {before} {after} taken stays back =
    let t = told_none root_of v entered w before.entries after.entries taken.stage (ap (λ (r : Recorded). r.entries) stays) back.told in
    let seen : w.seen ≡ before.entries = t.seen ∙ ap (λ (r : Recorded). r.entries) stays in
    let now : seen_in fixed w ≡ before = ap (record_in fixed) seen ∙ taken.same in
    record {
      none = record {
        told = subst (λ (h : List Entry). Told root_of v w h []) (sym t.seen) t;
        legal = subst (λ (r : Recorded). IsLegal r.pool r.entries) (sym now) taken.legal;
        whole = λ is. t.mine ∙ (append-nil v.mine ∙ ((taken.whole is).all_mine ∙ ap (numbered 1) (sym seen)));
      };
      now = now;
    }

pub refused : {fixed : Fixed} {v entered w : Knowing} {before after : Recorded} {ask : Ask} {fault : StepFault} → IsTaken fixed v entered before → after ≡ before
    → IsRefusal before ask fault → IsPutBack entered w after → Refuses fixed v w ask fault
refused {fixed} {v} {entered} {w} {before} {after} {ask} {fault} taken stays refusal back =
    let u = unmade taken stays back in
    record { none = u.none; refusal = subst (λ (r : Recorded). IsRefusal r ask fault) (sym u.now) refusal }

-- a user that comes
pub adds-new : {fixed : Fixed} {v entered : Knowing} {b after : Recorded} {user : ℕ} → IsTaken fixed v entered b → user < 2 ^ 64 → after ≡ after_ask b (Enter user)
    → AddsOne root_of (listed entered.stage) entered.mine after.entries
adds-new {fixed} {v} {entered} {b} {after} {user} taken small grown =
    let e : Entry = entry_of (Enter user) (enter_step (standing b)) in
    let is : after ≡ with_step b (Enter user) (enter_step (standing b)) = grown ∙ ap (after_outcome b (Enter user)) (enter-made (standing b) user small) in
    let more : after.entries ≡ b.entries ++ e ∷ [] = ap (λ (r : Recorded). r.entries) is in
    let count = count-world_of b.pool b.entries in
    let root : root_of e (length b.entries + 1) ≡ length b.entries + 1 =
    ap (λ (n : ℕ). min (n + 1) (length b.entries + 1)) count ∙ min-eq_left (le_refl (length b.entries + 1)) in
    subst (λ (x : Knowing). AddsOne root_of (listed x.stage) x.mine after.entries) (sym taken.stage) (e, more, inl root)

-- a Finish that waits
pub waits : {fixed : Fixed} {v entered w : Knowing} {before after : Recorded} {ask : Ask} {n : ℕ} → IsTaken fixed v entered before → after ≡ before
    → 0 < n → reply_to (standing before) ask ≡ Some (replies.LeasesOut n) → IsPutBack entered w after → Waits fixed v w ask n
waits {fixed} {v} {entered} {w} {before} {after} {ask} {n} taken stays some reply back =
    let u = unmade taken stays back in
    record { none = u.none; some = some; reply_is = subst (λ (r : Recorded). reply_to (standing r) ask ≡ Some (replies.LeasesOut n)) (sym u.now) reply }

pub waits-on : {X E : Type 0} {fixed : Fixed} {v entered w : Knowing} {before after : Recorded} (ask : Ask) (P : E → Type 0) (r : Result X E) (n : E → ℕ) → IsTaken fixed v entered before → OnErr r (after ≡ before)
    → IfErr r (λ (out : E). (0 < n out) × (reply_to (standing before) ask ≡ Some (replies.LeasesOut (n out))) × P out) → IsPutBack entered w after → IfErr r (λ (out : E). Waits fixed v w ask (n out))
waits-on ask P (Ok x) n taken stays out back = tt
waits-on ask P (Err e) n taken stays out back = waits taken stays out.0 out.1 back

-- What never changes of the book is as it was.
pub fixed-kept : {fixed : Fixed} {v entered : Knowing} {b after : Recorded} {ask : Ask} → IsTaken fixed v entered b → Steps b ask → after ≡ after_ask b ask
    → record { pool = after.pool; region = after.region; limits = after.limits } ≡ fixed
fixed-kept {fixed} {v} {entered} {b} {after} {ask} taken steps grown =
    ap (λ (r : Recorded). let x : Fixed = record { pool = r.pool; region = r.region; limits = r.limits } in x) (stored steps grown)
    ∙ sym (ap (λ (r : Recorded). let x : Fixed = record { pool = r.pool; region = r.region; limits = r.limits } in x) taken.same)
