-- A call of a desk that was made by one entry.
use Rattle.std.proofs.Common.{Bool, true, false, ◌==◌, ℕ, ◌+◌, ◌≡◌, [], ◌∷◌, ◌++◌, length, length-append, Option, Some, None, option_map, refl, sym, ◌∙◌, ap, subst, IsSome}
use Rattle.std.proofs.lemmas.Bool.{and_parts, eqb-true}
use Rattle.nm_types.specs.declared.id.PortId.{PortId}
use Rattle.nm_types.specs.OwnPorts.{OwnPort, OwnState, port_with_id}
use Rattle.nm_port.specs.Regions.{AllOf}
use Rattle.vale_entry.specs.declared.entry.Ask.{Ask}
use Rattle.vale_entry.specs.declared.entry.Ask.TheVariants.{Enter, Open, Send, Grant, Done, Sync, Reset, Shut, Finish, Leave, Put, PutKept, Get, Watch, Stat}
use Rattle.vale_entry.specs.declared.entry.Reply.TheVariants as replies
use Rattle.vale_entry.specs.declared.entry.Reply.{Reply}
use Rattle.vale_entry.specs.Arrivals.{arrivals_of}
use Rattle.vale_entry.specs.Legal.{Standing, Outcome, Follows, IsEnabled, is_enabled, step, reply_of, session_and_reply, entry_by, kept_ask}
use Rattle.vale_entry.specs.OwnCalls.{own_by}
use Rattle.vale_entry.proofs.ListLaws.{place-of}
use Rattle.vale_own.specs.Asker.{asks, asker_of, is_asker}
use Rattle.vale_own.specs.Side.{IsOfSide, is_shut, shut_after}
use Rattle.vale_own.specs.SideAsks.{HasSide, IsSettled, MayAsk, IsMade, IsOpen}
use Rattle.vale_own.specs.Own.{Own, own_of, is_settled_own}
use Rattle.vale_own.specs.OwnEntries.{own_after_entry}
use Rattle.vale_own.proofs.Asking.{own-tells}
use Rattle.vale_own.proofs.OwnEntry.{own-entries}
use Rattle.vale_own.proofs.OwnKept.{legal-split}
use Rattle.vale_own.proofs.SideEntries.{calls-own, calls-keep}
use Rattle.vale_own.specs.Recorded.{Recorded, standing, after_ask, after_outcome, HasRoom}
use Rattle.nm_desk.specs.Desks.{DeskState, IsDeskOf, side_of}
use Rattle.nm_desk.specs.Calls.{IsQuiet, Made, IsOpenAt, with_entry}

-- what a session may ask is enabled
pub may-enabled : (b : Recorded) (d : DeskState) (ask : Ask) → IsDeskOf b d → MayAsk b.pool b.entries d.id ask → IsEnabled (standing b) ask
may-enabled b d ask of may =
    let asked : asks (standing b) d.id ask ≡ true = own-tells b.pool b.entries d.id ask of.side.legal ∙ may in
    (and_parts (is_enabled (standing b) ask) (is_asker (asker_of (standing b) ask) d.id) asked).0

-- the step of an ask that is made with this reply
record Stepped (b : Recorded) (ask : Ask) (reply : Reply) : Type 0 where
  made : Outcome
  steps : step (standing b) ask ≡ Some made
  reply_is : made.reply ≡ reply

stepped : (b : Recorded) (ask : Ask) (reply : Reply) (found : Option Outcome) → step (standing b) ask ≡ found
    → option_map reply_of found ≡ Some reply → Stepped b ask reply
stepped b ask reply None e is = absurd cc
stepped b ask reply (Some made) e is = let same : made.reply ≡ reply = cc in record { made = made; steps = e; reply_is = same }

made-of : (b : Recorded) (session : ℕ) (ask : Ask) (reply : Reply) (found : Option Outcome) → step (standing b) ask ≡ found
    → option_map session_and_reply found ≡ Some (session, reply) → (s : Stepped b ask reply) × (s.made.session ≡ session)
made-of b session ask reply None e is = absurd cc
made-of b session ask reply (Some made) e is =
    let same : session_and_reply made ≡ (session, reply) = cc in
    (record { made = made; steps = e; reply_is = ap (λ (x : ℕ × Reply). x.1) same }, ap (λ (x : ℕ × Reply). x.0) same)

-- what a session may ask, once it is made, is made by it
pub mine-by : (b : Recorded) (d : DeskState) (ask : Ask) (reply : Reply) → IsDeskOf b d → MayAsk b.pool b.entries d.id ask
    → option_map reply_of (step (standing b) ask) ≡ Some reply → IsMade b.pool b.entries d.id ask reply
mine-by b d ask reply is asked said =
    let m = stepped b ask reply (step (standing b) ask) refl said in
    let theirs : IsMade b.pool b.entries m.made.session ask reply = ap (option_map session_and_reply) m.steps ∙ ap (λ (x : Reply). Some (m.made.session, x)) m.reply_is in
    subst (λ (x : ℕ). IsMade b.pool b.entries x ask reply) (calls-own b.pool b.entries d.id m.made.session ask reply is.side.legal asked theirs) theirs

-- what an entry makes of a desk, whose buffers are of these regions then
abbrev pub after_call : Recorded → DeskState → Ask → Reply → DeskState → DeskState
after_call b d ask reply after = record after {
  id = d.id;
  shut = shut_after (kept_ask ask) d.shut;
  own = own_by (length b.entries + 1) (kept_ask ask) reply (arrivals_of (standing b) (kept_ask ask) reply) d.own;
}

-- the record, once the step is made by a session
pub grown : (b new : Recorded) (session : ℕ) (ask : Ask) (reply : Reply) → IsMade b.pool b.entries session ask reply → new ≡ after_ask b ask → new ≡ with_entry b session ask reply
grown b new session ask reply mine made =
    let m = made-of b session ask reply (step (standing b) ask) refl mine in
    made ∙ ap (after_outcome b ask) m.0.steps
    ∙ ap (λ (x : ℕ). with_entry b x ask m.0.made.reply) m.1
    ∙ ap (λ (x : Reply). with_entry b session ask x) m.0.reply_is

pub counted : (b new : Recorded) (session : ℕ) (ask : Ask) (reply : Reply) → new ≡ with_entry b session ask reply → length new.entries ≡ length b.entries + 1
counted b new session ask reply news = ap (λ (rec : Recorded). length rec.entries) news ∙ length-append b.entries (entry_by session ask reply ∷ [])

settled-still : (s : Standing) (ask : Ask) (reply : Reply) (own : Own) → IsQuiet ask → is_settled_own own ≡ true → is_settled_own (own_after_entry s ask reply own) ≡ true
settled-still s (Enter user) reply own quiet e = absurd quiet
settled-still s (Send port frames) reply own quiet e = absurd quiet
settled-still s (Sync port back) reply own quiet e = absurd quiet
settled-still s (Get port back) reply own quiet e = absurd quiet
settled-still s (PutKept port offered) reply own quiet e = absurd quiet
settled-still s (Grant origin to) reply own quiet e = absurd quiet
settled-still s (Done lease) reply own quiet e = absurd quiet
settled-still s (Open session name tx rx extra) replies.Opened own quiet e = e
settled-still s (Open session name tx rx extra) reply own quiet e = e
settled-still s (Reset port side fault) reply own quiet e = e
settled-still s (Shut port) reply own quiet e = e
settled-still s (Finish port bufs chain) reply own quiet e = e
settled-still s (Leave session) reply own quiet e = e
settled-still s (Put port offered) reply own quiet e = e
settled-still s (Watch monitor target sides) reply own quiet e = e
settled-still s (Stat port) reply own quiet e = e

-- once the desk's step is made, its side is what the entry makes of it, and the session's still
pub step-of : (b new : Recorded) (d after : DeskState) (ask : Ask) (reply : Reply) → IsDeskOf b d → IsMade b.pool b.entries d.id ask reply
    → IsOfSide d.shut d.own (kept_ask ask) reply → new ≡ after_ask b ask → HasRoom b ask
    → after ≡ after_call b d ask reply after → AllOf b.region (side_of after) → Made b new d after ask reply
step-of b new d after ask reply is mine of made room after_is region = record {
  made = mine;
  room = room;
  book = news;
  id = ap (λ (x : DeskState). x.id) after_is;
  shut = ap (λ (x : DeskState). x.shut) after_is;
  own = ap (λ (x : DeskState). x.own) after_is
      ∙ ap (λ (n : ℕ). own_by n (kept_ask ask) reply (arrivals_of (standing b) (kept_ask ask) reply) d.own) (sym (counted b new d.id ask reply news));
  desk = record {
    side = subst (λ (rec : Recorded). HasSide rec.pool rec.entries after.id after.shut after.own) (sym news)
        (subst (λ (x : DeskState). HasSide b.pool (b.entries ++ entry_by d.id ask reply ∷ []) x.id x.shut x.own) (sym after_is) kept);
    region = subst (λ (rec : Recorded). AllOf rec.region (side_of after)) (sym news) region;
  };
  settled = λ quiet was.
      subst (λ (rec : Recorded). IsSettled rec.pool rec.entries after.id) (sym news)
      (subst (IsSettled b.pool (b.entries ++ entry_by d.id ask reply ∷ [])) (sym (ap (λ (x : DeskState). x.id) after_is))
      (ap is_settled_own (own-entries b.pool b.entries (entry_by d.id ask reply) is.side.legal follows) ∙ settled-still (standing b) (kept_ask ask) reply (own_of d.id (standing b)) quiet was));
}
  where
    news : new ≡ with_entry b d.id ask reply
    news = grown b new d.id ask reply mine made

    kept : HasSide b.pool (b.entries ++ entry_by d.id ask reply ∷ []) d.id (shut_after (kept_ask ask) d.shut)
        (own_by (length b.entries + 1) (kept_ask ask) reply (arrivals_of (standing b) (kept_ask ask) reply) d.own)
    kept = calls-keep b.pool b.entries d.id d.shut d.own ask reply is.side mine of

    follows : Follows (standing b) (entry_by d.id ask reply)
    follows = (legal-split b.pool b.entries (entry_by d.id ask reply ∷ []) kept.legal).1.0

pub step-by : (b new : Recorded) (d after : DeskState) (ask : Ask) (reply : Reply) → IsDeskOf b d → MayAsk b.pool b.entries d.id ask
    → (IsMade b.pool b.entries d.id ask reply → IsOfSide d.shut d.own (kept_ask ask) reply)
    → new ≡ after_ask b ask → option_map reply_of (step (standing b) ask) ≡ Some reply → HasRoom b ask
    → after ≡ after_call b d ask reply after → AllOf b.region (side_of after) → Made b new d after ask reply
step-by b new d after ask reply is asked of made said room after_is region =
    let mine = mine-by b d ask reply is asked said in
    step-of b new d after ask reply is mine (of mine) made room after_is region

-- a port that the desk has, and has open
pub record HasOpen (d : DeskState) (id : PortId) : Type 0 where
  pub port : OwnPort
  pub found : port_with_id d.own id.0 ≡ Some port
  pub id_is : port.id ≡ id
  pub is_open : IsOpen d.shut d.own port

pub some-is : {X : Type 0} (found : Option X) → IsSome found → (x : X) × (found ≡ Some x)
some-is None some = absurd cc
some-is (Some x) some = (x, refl)

pub found-id : (side : OwnState) (id : PortId) (port : OwnPort) → port_with_id side id.0 ≡ Some port → port.id ≡ id
found-id side id port found =
    let at = place-of (λ (p : OwnPort). p.id.0 == id.0) side.ports port found in
    ap (λ (n : ℕ). let made : PortId = record { 0 = n } in made) (eqb-true port.id.0 id.0 at.passes)

pub has-open : (d : DeskState) (id : PortId) → IsOpenAt d id.0 → HasOpen d id
has-open d id at =
    let found = some-is (port_with_id d.own id.0) at.there in
    let same = found-id d.own id found.0 found.1 in
    let number : found.0.id.0 ≡ id.0 = ap (λ (i : PortId). i.0) same in
    record {
      port = found.0;
      found = found.1;
      id_is = same;
      is_open = (ap (port_with_id d.own) number ∙ found.1, ap (is_shut d.shut) number ∙ at.is_open);
    }
