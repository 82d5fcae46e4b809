-- Calls that make one entry, which starts no offers.
use Rattle.std.proofs.Common.{ℕ, ◌==◌, ◌≡◌, true, false, sym, ap, subst, refl, ◌∙◌, Option, Some, None, Result, Ok, Err, IsSome, IfOk, IfErr, inr}
use Rattle.std.proofs.lemmas.Bool.{eqb-true}
use Rattle.nm_types.specs.declared.fault.StepFault.{StepFault}
use Rattle.nm_types.specs.declared.id.Counts.{Counts}
use Rattle.nm_types.specs.declared.id.PortId.{PortId}
use Rattle.nm_types.specs.OwnPorts.{OwnPort, OwnState, port_with_id}
use Rattle.vale_entry.specs.declared.entry.Ask.{Ask}
use Rattle.vale_entry.specs.declared.entry.Ask.TheVariants.{Stat}
use Rattle.vale_entry.specs.declared.entry.Reply.{Reply}
use Rattle.vale_entry.specs.declared.entry.Reply.TheVariants.{Counted}
use Rattle.vale_entry.specs.Legal.{kept_ask}
use Rattle.vale_entry.proofs.ListLaws.{place-of}
use Rattle.vale_own.specs.Asker.{asks, is_enter}
use Rattle.vale_own.specs.Side.{IsOfSide, shut_after}
use Rattle.vale_own.specs.SideAsks.{HasSide, MayAsk as MayBeAsked, IsOpen}
use Rattle.vale_own.proofs.Asking.{own-tells}
use Rattle.vale_own.proofs.SideAsking.{stat-asked}
use Rattle.vale_fabric.specs.Fabrics.{Knowing, MayAsk, Answers, Refuses}
use Rattle.nm_user.specs.Sessions.{SessionState, IsThere, standing_seen}
use Rattle.nm_user.specs.Calls.{Made, MadeNone}
use Rattle.nm_user.proofs.After.{IsQuiet, after_call, there-after, there-still, whose}

pub has-side : {shut : Option ℕ} {s : SessionState} → IsThere shut s → HasSide s.fixed.pool s.knows.seen s.id shut s.own
has-side t = record { legal = t.legal; of = t.side }

pub asked : {shut : Option ℕ} {s : SessionState} (ask : Ask) → IsThere shut s → MayBeAsked s.fixed.pool s.knows.seen s.id ask → asks (standing_seen s.fixed s.knows) s.id ask ≡ true
asked {shut} {s} ask t may = own-tells s.fixed.pool s.knows.seen s.id ask t.legal ∙ may

pub may : {shut : Option ℕ} {s : SessionState} {ask : Ask} → IsThere shut s → asks (standing_seen s.fixed s.knows) s.id ask ≡ true → MayAsk s.fixed s.knows ask
may {shut} {s} t m = record { session = s.id; may = m; speaks = t.speaks }

-- a port that the session has, and has open
pub record HasOpen (side : OwnState) (id : PortId) : Type 0 where
  pub port : OwnPort
  pub found : port_with_id side id.0 ≡ Some port
  pub id_is : port.id ≡ id
  pub is_open : IsOpen None side port

some-is : {X : Type 0} (found : Option X) → IsSome found → (x : X) × (found ≡ Some x)
some-is None some = absurd cc
some-is (Some x) some = (x, refl)

pub has-open : (side : OwnState) (id : PortId) → IsSome (port_with_id side id.0) → HasOpen side id
has-open side id some =
    let found = some-is (port_with_id side id.0) some in
    let at = place-of (λ (p : OwnPort). p.id.0 == id.0) side.ports found.0 found.1 in
    let same : found.0.id.0 ≡ id.0 = eqb-true found.0.id.0 id.0 at.passes in
    record { port = found.0; found = found.1; id_is = ap (λ (n : ℕ). let made : PortId = record { 0 = n } in made) same; is_open = (ap (port_with_id side) same ∙ found.1, refl) }

pub there-answered : {shut : Option ℕ} {s : SessionState} {w : Knowing} {ask : Ask} {reply : Reply} → IsThere shut s → asks (standing_seen s.fixed s.knows) s.id ask ≡ true
    → Answers s.fixed s.knows w ask reply → is_enter ask ≡ false → IsOfSide shut s.own (kept_ask ask) reply → IsQuiet (kept_ask ask)
    → IsThere (shut_after (kept_ask ask) shut) (after_call s w ask reply)
there-answered {shut} {s} {w} {ask} {reply} t m a other of quiet =
    subst (λ (r : Reply). IsThere (shut_after (kept_ask ask) shut) (after_call s w ask r)) a.reply_is
    (there-after t a.makes (whose t a.makes other m) (subst (IsOfSide shut s.own (kept_ask ask)) (sym a.reply_is) of) quiet)

-- Counters.

pub stat-asks : {s : SessionState} (port : PortId) → IsThere None s → IsSome (port_with_id s.own port.0) → asks (standing_seen s.fixed s.knows) s.id (Stat port) ≡ true
stat-asks {s} port t some =
    let h = has-open s.own port some in
    asked (Stat port) t (subst (λ (id : PortId). MayBeAsked s.fixed.pool s.knows.seen s.id (Stat id)) h.id_is (stat-asked s.fixed.pool s.knows.seen s.id None s.own h.port (has-side t) h.is_open))

pub stat-there : {s : SessionState} {w : Knowing} (port : PortId) (r : Result Counts StepFault) → IsThere None s → IsSome (port_with_id s.own port.0)
    → IfOk r (λ counts. Answers s.fixed s.knows w (Stat port) (Counted counts)) → IfErr r (Refuses s.fixed s.knows w (Stat port)) → IsThere None (record s { knows = w })
stat-there port (Ok counts) t some made full = there-answered t (stat-asks port t some) made refl tt tt
stat-there port (Err fault) t some made full = there-still t full.none

-- one entry was made, which changes nothing of what the session has
pub counted : (s : SessionState) (w : Knowing) (port : PortId) (r : Result Counts StepFault) → IfOk r (λ counts. Answers s.fixed s.knows w (Stat port) (Counted counts))
    → IfOk r (λ counts. Made s (record s { knows = w }) (Stat port) (Counted counts))
counted s w port (Ok counts) made = record { answers = made; fabric = refl; fixed = refl; id = refl; user = refl; own = refl }
counted s w port (Err fault) made = made

pub none-made : {X : Type 0} (s : SessionState) (w : Knowing) (ask : Ask) (r : Result X StepFault) → IfErr r (Refuses s.fixed s.knows w ask) → IfErr r (MadeNone s (record s { knows = w }) ask)
none-made s w ask (Ok x) full = full
none-made s w ask (Err fault) full = record { refused = inr full; same = refl }
