-- The step of an ask at a book, and what it is answered.
use Rattle.std.proofs.Common.{ℕ, ◌==◌, ◌<◌, ◌^◌, List, ◌≡◌, refl, sym, ap, ◌∙◌, subst, Option, Some, None, Bool, true, false, ◌&&◌, is_some}
use Rattle.std.specs.Prelude.{option_map, if◌then◌else◌}
use Rattle.std.proofs.lemmas.Bool.{eqb-true}
use Rattle.vale_entry.specs.declared.entry.Ask.{Ask}
use Rattle.vale_entry.specs.declared.entry.Ask.TheVariants.{Enter, Open, Send, Grant, Done, Sync, Reset, Shut, Finish, Leave, Put, PutKept, Get, Watch, Stat}
use Rattle.vale_entry.specs.declared.entry.Reply.{Reply}
use Rattle.vale_entry.specs.declared.entry.Reply.TheVariants as replies
use Rattle.nm_types.specs.declared.id.PortId.{PortId}
use Rattle.nm_types.specs.declared.id.LeaseId.{LeaseId}
use Rattle.nm_types.specs.declared.id.SessionId.{SessionId}
use Rattle.nm_types.specs.declared.id.Side.{Side}
use Rattle.nm_types.specs.declared.fault.SyncFault.{SyncFault}
use Rattle.vale_entry.specs.World.{Port, open_port}
use Rattle.vale_entry.specs.Closing.{can_leave, shutting_port, leases_out, unread_count}
use Rattle.nm_types.specs.declared.id.Chain.{Chain}
use Rattle.vale_entry.specs.Delivery.{lease_at}
use Rattle.vale_entry.specs.Legal.{Standing, Outcome, step, reply_of, reply_to, is_enabled, enter_step, made_at, can_shut, shut_step, can_reset, reset_step, leave_step, done_step, fits_chain, can_finish, finish_step, finish_step_at, finish_reply_at}
use Rattle.vale_entry.proofs.Enabled.{asks-answered}
use Rattle.vale_own.specs.Asker.{is_asker}
use Rattle.vale_own.specs.Recorded.{Recorded, standing, after_outcome, after_ask, with_step}
use Rattle.vale_book.proofs.Comings.{enter-made}

pub and-first : (a b : Bool) → (a && b) ≡ true → a ≡ true
and-first true b e = refl
and-first false b e = absurd cc

pub and-second : (a b : Bool) → (a && b) ≡ true → b ≡ true
and-second true b e = e
and-second false b e = absurd cc

-- the step of an ask at the book
pub record Steps (b : Recorded) (ask : Ask) : Type 0 where
  pub makes : Outcome
  pub is : step (standing b) ask ≡ Some makes

some-step : (found : Option Outcome) → is_some (option_map reply_of found) ≡ true → (made : Outcome) × (found ≡ Some made)
some-step None e = absurd cc
some-step (Some made) e = (made, refl)

-- an ask that makes an entry wherever it is enabled
abbrev pub IsPlain : Ask → Type 0
IsPlain (Enter user) = ⊥
IsPlain (Finish port bufs chain) = ⊥
IsPlain (PutKept port offered) = ⊥
IsPlain _ = Unit {0}

pub step-of : (s : Standing) (ask : Ask) → IsPlain ask → is_enabled s ask ≡ true → (made : Outcome) × (step s ask ≡ Some made)
step-of s (Enter user) plain e = absurd plain
step-of s (Finish port bufs chain) plain e = absurd plain
step-of s (PutKept port offered) plain e = absurd plain
step-of s (Open session name tx rx extra) plain e = some-step (step s (Open session name tx rx extra)) (sym (asks-answered s (Open session name tx rx extra)) ∙ e)
step-of s (Send port frames) plain e = some-step (step s (Send port frames)) (sym (asks-answered s (Send port frames)) ∙ e)
step-of s (Grant origin to) plain e = some-step (step s (Grant origin to)) (sym (asks-answered s (Grant origin to)) ∙ e)
step-of s (Done lease) plain e = some-step (step s (Done lease)) (sym (asks-answered s (Done lease)) ∙ e)
step-of s (Sync port back) plain e = some-step (step s (Sync port back)) (sym (asks-answered s (Sync port back)) ∙ e)
step-of s (Reset port side fault) plain e = some-step (step s (Reset port side fault)) (sym (asks-answered s (Reset port side fault)) ∙ e)
step-of s (Shut port) plain e = some-step (step s (Shut port)) (sym (asks-answered s (Shut port)) ∙ e)
step-of s (Leave session) plain e = some-step (step s (Leave session)) (sym (asks-answered s (Leave session)) ∙ e)
step-of s (Put port offered) plain e = some-step (step s (Put port offered)) (sym (asks-answered s (Put port offered)) ∙ e)
step-of s (Get port back) plain e = some-step (step s (Get port back)) (sym (asks-answered s (Get port back)) ∙ e)
step-of s (Watch monitor target sides) plain e = some-step (step s (Watch monitor target sides)) (sym (asks-answered s (Watch monitor target sides)) ∙ e)
step-of s (Stat port) plain e = some-step (step s (Stat port)) (sym (asks-answered s (Stat port)) ∙ e)

-- the book after the step has one entry more
pub stored : {b after : Recorded} {ask : Ask} (steps : Steps b ask) → after ≡ after_ask b ask → after ≡ with_step b ask steps.makes
stored {b} {after} {ask} steps grown = grown ∙ ap (after_outcome b ask) steps.is

pub asker-is : (found : Option ℕ) (owner session : ℕ) → found ≡ Some owner → is_asker found session ≡ true → owner ≡ session
asker-is None owner session is e = absurd cc
asker-is (Some other) owner session is e = let same : other ≡ owner = cc in sym same ∙ eqb-true other session e

-- what an ask looks for is there if it makes an entry
pub sought : {X : Type 0} (test : X → Bool) (make : X → Outcome) (found : Option X) (outcome : Outcome) → made_at test make found ≡ Some outcome → (x : X) × (found ≡ Some x)
sought test make None outcome e = absurd cc
sought test make (Some x) outcome e = (x, refl)

-- What is answered with no more than that it was made.

pub said-by : {b : Recorded} {ask : Ask} {reply : Reply} (steps : Steps b ask) → steps.makes.reply ≡ reply → option_map reply_of (step (standing b) ask) ≡ Some reply
said-by {b} {ask} {reply} steps e = ap (option_map reply_of) steps.is ∙ ap (λ (r : Reply). let some : Option Reply = Some r in some) e

if-said : (test : Bool) (make : Outcome) (reply : Reply) (outcome : Outcome) → make.reply ≡ reply → (if test then Some make else None) ≡ Some outcome → outcome.reply ≡ reply
if-said false make reply outcome all e = absurd cc
if-said true make reply outcome all e = let same : make ≡ outcome = cc in subst (λ (o : Outcome). o.reply ≡ reply) same all

met-said : {X : Type 0} (test : X → Bool) (make : X → Outcome) (reply : Reply) → ((x : X) → (make x).reply ≡ reply) → (found : Option X) (outcome : Outcome)
    → made_at test make found ≡ Some outcome → outcome.reply ≡ reply
met-said test make reply all None outcome e = absurd cc
met-said test make reply all (Some x) outcome e = if-said (test x) (make x) reply outcome (all x) e

pub shut-said : {b : Recorded} {port : PortId} (steps : Steps b (Shut port)) → steps.makes.reply ≡ replies.Made
shut-said {b} {port} steps = met-said (can_shut (standing b).world) (shut_step (standing b)) replies.Made (λ p. refl) (open_port (standing b).world.ports port.0) steps.makes steps.is

pub reset-said : {b : Recorded} {port : PortId} {side : Side} {fault : SyncFault} (steps : Steps b (Reset port side fault)) → steps.makes.reply ≡ replies.Made
reset-said {b} {port} {side} {fault} steps = met-said (can_reset side fault) (reset_step (standing b)) replies.Made (λ p. refl) (open_port (standing b).world.ports port.0) steps.makes steps.is

pub leave-said : {b : Recorded} {session : SessionId} (steps : Steps b (Leave session)) → steps.makes.reply ≡ replies.Made
leave-said {b} {session} steps = if-said (can_leave (standing b).world session.0) (leave_step (standing b) session.0) replies.Made steps.makes refl steps.is

found-said : {X : Type 0} (make : X → Outcome) (reply : Reply) → ((x : X) → (make x).reply ≡ reply) → (found : Option X) (outcome : Outcome) → option_map make found ≡ Some outcome → outcome.reply ≡ reply
found-said make reply all None outcome e = absurd cc
found-said make reply all (Some x) outcome e = let same : make x ≡ outcome = cc in subst (λ (o : Outcome). o.reply ≡ reply) same (all x)

pub done-said : {b : Recorded} {lease : LeaseId} (steps : Steps b (Done lease)) → steps.makes.reply ≡ replies.Made
done-said {b} {lease} steps = found-said (done_step (standing b) lease.0) replies.Made (λ lot. refl) (lease_at (standing b).world.ports lease.0) steps.makes steps.is

-- A user that comes.

pub comes : (b : Recorded) (user : ℕ) → user < 2 ^ 64 → Steps b (Enter user)
comes b user small = record { makes = enter_step (standing b); is = enter-made (standing b) user small }

pub came : (b : Recorded) (user : ℕ) → user < 2 ^ 64 → option_map reply_of (step (standing b) (Enter user)) ≡ Some replies.Made
came b user small = ap (option_map reply_of) (enter-made (standing b) user small)

-- A Finish that does not wait.

gone-by : (s : Standing) (bufs : List ℕ) (port : Port) (can out : Bool) (count : ℕ)
    → (if can then Some (if out then replies.Unread (unread_count port) else replies.LeasesOut (leases_out port)) else None) ≡ Some (replies.Unread count)
    → option_map reply_of (if can && out then Some (finish_step s bufs port) else None) ≡ Some (replies.Unread count)
gone-by s bufs port false out count e = absurd cc
gone-by s bufs port true false count e = absurd cc
gone-by s bufs port true true count e = e

gone-at : (s : Standing) (bufs : List ℕ) (fits : Bool) (found : Option Port) (count : ℕ) → (if fits then finish_reply_at s bufs found else None) ≡ Some (replies.Unread count)
    → option_map reply_of (if fits then finish_step_at s bufs found else None) ≡ Some (replies.Unread count)
gone-at s bufs false found count e = absurd cc
gone-at s bufs true None count e = absurd cc
gone-at s bufs true (Some port) count e = gone-by s bufs port (can_finish s bufs port) (leases_out port == 0) count e

pub gone-said : (s : Standing) (port : PortId) (bufs : List ℕ) (chain : Chain) (count : ℕ) → reply_to s (Finish port bufs chain) ≡ Some (replies.Unread count)
    → option_map reply_of (step s (Finish port bufs chain)) ≡ Some (replies.Unread count)
gone-said s port bufs chain count e = gone-at s bufs (fits_chain chain) (shutting_port s.world.ports port.0) count e

pub steps-said : {b : Recorded} {ask : Ask} (reply : Reply) → option_map reply_of (step (standing b) ask) ≡ Some reply → Steps b ask
steps-said {b} {ask} reply said = let found = some-step (step (standing b) ask) (ap is_some said) in record { makes = found.0; is = found.1 }
