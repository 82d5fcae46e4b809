-- The entries of the calls that a side makes, and those of others.
use Rattle.std.proofs.Common.{ℕ, zero, suc, ◌≡◌, Bool, true, false, cond, List, [], ◌∷◌, ◌==◌, take, length, Option, Some, None, option_map, refl, sym, ◌∙◌, ap, subst}
use Rattle.std.proofs.lemmas.Bool.{and_parts, eqb-true}
use Rattle.nm_types.specs.Names.{is_pipe_name}
use Rattle.nm_types.specs.Slots.{pushed_frames}
use Rattle.nm_types.specs.declared.id.PortId.{PortId}
use Rattle.nm_types.specs.declared.id.Side.TheVariants.{Tx, Rx}
use Rattle.nm_types.specs.declared.fault.SyncFault.{SyncFault}
use Rattle.nm_types.specs.OwnPorts.{bytes_at, pushed_in, refusal_in}
use Rattle.vale_entry.specs.declared.entry.Ask.TheVariants.{Enter, Send, Sync, Put, PutKept, Get}
use Rattle.vale_entry.specs.declared.entry.Ask.{Ask}
use Rattle.vale_entry.specs.declared.entry.Item.{Item}
use Rattle.vale_entry.specs.declared.entry.Reply.{Reply}
use Rattle.vale_entry.specs.World.{Port, open_port}
use Rattle.vale_entry.specs.Pipe.{peer_of, taken_count}
use Rattle.vale_entry.specs.OwnCalls.{or_reset, offered_items, back_in}
use Rattle.vale_entry.specs.Legal.{Standing, Outcome, standing_of, step, recorded_step, session_and_reply, Follows, is_enabled, kept_ask, entry_by, kept_items, made_at, can_put, put_step_at, put_step_by}
use Rattle.vale_entry.proofs.KeptPuts.{puts-kept}
use Rattle.vale_entry.proofs.Worlds.{legal-push}
use Rattle.vale_own.specs.Own.{Own, own_of}
use Rattle.vale_own.specs.Asker.{asker_of, asks, is_asker, is_enter}
use Rattle.vale_own.specs.OwnAsks.{may_ask}
use Rattle.vale_own.specs.Side.{IsSoundSideOf, IsOfSide}
use Rattle.vale_own.specs.SideLaws.{OthersKeepSide}
use Rattle.vale_own.specs.SideAsks.{CallsAreOwn, CallsKeepSide, TransmitsAreOfSide, ReceivesAreOfSide, FinishesAreOfSide}
use Rattle.vale_own.proofs.OwnKept.{own-kept}
use Rattle.vale_own.proofs.Asking.{own-tells}
use Rattle.vale_own.proofs.Askers.{askers-make-steps}
use Rattle.vale_own.proofs.SideKept.{side-kept}

pub others-keep : OthersKeepSide
others-keep pool past more session shut side legal others of =
    subst (λ (own : Own). IsSoundSideOf pool session shut own side) (sym (own-kept pool past more session legal others)) of

-- what a put takes are the first frames offered
taken-again : (n : ℕ) (xs : List Item) → take n xs ≡ take (length (take n xs)) xs
taken-again zero xs = refl
taken-again (suc n) [] = refl
taken-again (suc n) (x ∷ xs) = ap (λ (ys : List Item). x ∷ ys) (taken-again n xs)

made-first : {X : Type 0} (P : Outcome → Type 0) (test : X → Bool) (make : X → Outcome) → ((x : X) → P (make x)) → (found : Option X) (made : Outcome) → made_at test make found ≡ Some made → P made
made-first P test make holds None made e = absurd cc
made-first P test make holds (Some x) made e = by (test x) e
  where
    by : (b : Bool) → cond b (Some (make x)) None ≡ Some made → P made
    by true is = let same : make x ≡ made = cc in subst P same (holds x)
    by false is = absurd cc

put-taken : (s : Standing) (at : PortId) (offered : List Item) (made : Outcome) → step s (Put at offered) ≡ Some made → kept_items made.reply ≡ take (length (kept_items made.reply)) offered
put-taken s at offered made e =
    made-first (λ (o : Outcome). kept_items o.reply ≡ take (length (kept_items o.reply)) offered) (can_put s offered) (put_step_at s offered) (λ port. by port (peer_of s.world.ports port)) (open_port s.world.ports at.0) made e
  where
    by : (port : Port) (peer : Option Port) → kept_items (put_step_by s (take (taken_count peer (length offered)) offered) port peer).reply ≡ take (length (kept_items (put_step_by s (take (taken_count peer (length offered)) offered) port peer).reply)) offered
    by port None = refl
    by port (Some peer) = taken-again (taken_count (Some peer) (length offered)) offered

-- the outcome of a call that makes an entry
record MadeAs (found : Option Outcome) (session : ℕ) (reply : Reply) : Type 0 where
  made : Outcome
  is : found ≡ Some made
  session_is : made.session ≡ session
  reply_is : made.reply ≡ reply

made-as : (found : Option Outcome) (session : ℕ) (reply : Reply) → option_map session_and_reply found ≡ Some (session, reply) → MadeAs found session reply
made-as None session reply e = absurd cc
made-as (Some made) session reply e =
    let same : session_and_reply made ≡ (session, reply) = cc in
    record { made = made; is = refl; session_is = ap (λ (x : ℕ × Reply). x.0) same; reply_is = ap (λ (x : ℕ × Reply). x.1) same }

-- its entry follows
follows-as : (s : Standing) (ask : Ask) (session : ℕ) (reply : Reply) → option_map session_and_reply (step s ask) ≡ Some (session, reply) → Follows s (entry_by session ask reply)
follows-as s (Put port offered) session reply e =
    let m = made-as (step s (Put port offered)) session reply e in
    let kept : recorded_step s (PutKept port (length offered)) reply ≡ Some m.made = ap (recorded_step s (PutKept port (length offered))) (sym m.reply_is) ∙ puts-kept s port offered m.made m.is in
    ap (option_map session_and_reply) kept ∙ (sym (ap (option_map session_and_reply) m.is) ∙ e)
follows-as s (PutKept port offered) session reply e = absurd cc
follows-as s _ session reply e = e

no-enter : (session : ℕ) (own : Own) (ask : Ask) → may_ask session own ask ≡ true → is_enter ask ≡ false
no-enter session own (Enter user) e = absurd cc
no-enter session own _ e = refl

pub calls-own : CallsAreOwn
calls-own pool past session by ask reply legal may e =
    let s = standing_of pool past in
    let m = made-as (step s ask) by reply e in
    let asked : asks s session ask ≡ true = own-tells pool past session ask legal ∙ may in
    let mine = (and_parts (is_enabled s ask) (is_asker (asker_of s ask) session) asked).1 in
    let owner = askers-make-steps s ask m.made (no-enter session (own_of session s) ask may) m.is in
    let same : (m.made.session == session) ≡ true = sym (ap (λ (o : Option ℕ). is_asker o session) owner) ∙ mine in
    sym m.session_is ∙ eqb-true m.made.session session same

pub calls-keep : CallsKeepSide
calls-keep pool past session shut side ask reply k e call =
    let follows = follows-as (standing_of pool past) ask session reply e in
    record {
      legal = legal-push pool past (entry_by session ask reply) k.legal follows;
      of = side-kept pool past (entry_by session ask reply) shut side k.legal follows k.of call;
    }

pub transmits-of : TransmitsAreOfSide
transmits-of pool past session shut side p r reply found has e = by (refusal_in Tx side p r) (is_pipe_name p.name) refl refl e
  where
    by : (o : Option SyncFault) (pipe : Bool) → refusal_in Tx side p r ≡ o → is_pipe_name p.name ≡ pipe
        → option_map session_and_reply (step (standing_of pool past) (or_reset o p.id Tx (cond pipe (Put p.id (offered_items side r)) (Send p.id (pushed_frames (bytes_at side) (pushed_in Tx r)))))) ≡ Some (session, reply)
        → IsOfSide shut side (kept_ask (or_reset o p.id Tx (cond pipe (Put p.id (offered_items side r)) (Send p.id (pushed_frames (bytes_at side) (pushed_in Tx r)))))) reply
    by (Some fault) pipe passes name stepped = tt
    by None true passes name stepped =
        let m = made-as (step (standing_of pool past) (Put p.id (offered_items side r))) session reply stepped in
        record {
          offered = offered_items side r;
          call = record { port = p; ring = r; found = found; has = has; is = rw (passes, name) refl };
          taken = subst (λ (answer : Reply). kept_items answer ≡ take (length (kept_items answer)) (offered_items side r)) m.reply_is (put-taken (standing_of pool past) p.id (offered_items side r) m.made m.is);
        }
    by None false passes name stepped = record { port = p; ring = r; found = found; has = has; is = rw (passes, name) refl }

pub receives-of : ReceivesAreOfSide
receives-of shut side p reply found = by (refusal_in Rx side p p.rx) (is_pipe_name p.name) refl refl
  where
    by : (o : Option SyncFault) (pipe : Bool) → refusal_in Rx side p p.rx ≡ o → is_pipe_name p.name ≡ pipe
        → IsOfSide shut side (kept_ask (or_reset o p.id Rx (cond pipe (Get p.id (back_in p)) (Sync p.id (back_in p))))) reply
    by (Some fault) pipe passes name = tt
    by None true passes name = record { port = p; found = found; is = rw (passes, name) refl }
    by None false passes name = record { port = p; found = found; is = rw (passes, name) refl }

pub finishes-of : FinishesAreOfSide
finishes-of shut side p reply found = record { port = p; found = found; is = refl }
