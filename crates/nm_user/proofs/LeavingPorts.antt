-- A port that is shut and finished, and a session that closes its ports and leaves.
use Rattle.std.proofs.Common.{ℕ, ◌-◌, ◌<◌, ◌==◌, ◌≡◌, ◌⊎◌, inl, inr, true, false, not, nat_eq, List, [], ◌∷◌, ◌++◌, length, map, filter, take, slice_get, sym, ap, subst, refl, ◌∙◌, arith, append-nil, Option, Some, None, IsSome, IfSome, eq-eqb}
use Rattle.std.specs.Prelude.{find, option_map}
use Rattle.std.specs.List.{AllByRecursion as Each, IsDistinct}
use Rattle.std.proofs.lemmas.Bool.{ne_eqb}
use Rattle.std.proofs.lemmas.List.{take-append-le}
use mathlib.Core.List.{IsPrefix}
use Rattle.nm_types.specs.declared.id.SessionId.{SessionId}
use Rattle.nm_turn.specs.Passes.{Told}
use Rattle.std.specs.Option.{option_map_or}
use Rattle.nm_types.specs.declared.id.Chain.{Chain}
use Rattle.nm_types.specs.declared.id.PortId.{PortId}
use Rattle.nm_types.specs.OwnPorts.{OwnPort, OwnState, port_with_id, buffers_in}
use Rattle.nm_types.specs.OwnSyncs.{chain_in, own_after_finish}
use Rattle.nm_port.specs.Closing.{buffers_with_id}
use Rattle.nm_turn.specs.Numbered.{Stands}
use Rattle.nm_turn.specs.Shares.{IsWhole}
use Rattle.nm_turn.proofs.Telling.{told_then}
use Rattle.vale_entry.specs.declared.entry.Ask.{Ask}
use Rattle.vale_entry.specs.declared.entry.Ask.TheVariants.{Shut, Finish, Leave}
use Rattle.vale_entry.specs.declared.entry.Entry.{Entry}
use Rattle.vale_entry.specs.declared.entry.Reply.{Reply}
use Rattle.vale_entry.specs.declared.entry.Reply.TheVariants.{Made, Unread}
use Rattle.vale_entry.specs.OwnCalls.{finish_call}
use Rattle.vale_entry.specs.Legal.{IsLegal, standing_of, session_and_reply, step}
use Rattle.vale_own.specs.Asker.{asks}
use Rattle.vale_own.specs.Side.{IsFinishCall, is_shut, id_of}
use Rattle.vale_own.specs.SideAsks.{HasSide, IsSettled, MayAsk as MayBeAsked}
use Rattle.vale_own.proofs.Asking.{asks-stay}
use Rattle.vale_own.proofs.SideAsking.{shut-asked, finish-asked, leave-asked}
use Rattle.vale_book.specs.Recorded.{standing, HasRoom}
use Rattle.vale_fabric.specs.declared.kept.Fixed.{Fixed}
use Rattle.vale_fabric.specs.Roots.{root_of}
use Rattle.vale_fabric.specs.Fabrics.{Knowing, MayAsk, Answers, Makes, MakesNone, entry_by, earlier, record_in}
use Rattle.nm_user.specs.declared.leaving.Detached.{Detached}
use Rattle.nm_user.specs.Sessions.{SessionState, IsThere, standing_seen}
use Rattle.nm_user.specs.Leaving.{MayWait, IsMadeAt, IsDetached, AreDetached}
use Rattle.nm_user.proofs.Later.{between-none}
use Rattle.nm_user.proofs.After.{whose}
use Rattle.nm_user.proofs.Plain.{has-side, asked, has-open, there-answered}

-- ---- waiting

-- no entry was made, and maybe no call
abbrev pub HasWaited : Fixed → Knowing → Knowing → Type 0
HasWaited fixed v w = (w ≡ v) ⊎ MakesNone fixed v w

none-then : {fixed : Fixed} {v w x : Knowing} → MakesNone fixed v w → MakesNone fixed w x → MakesNone fixed v x
none-then {fixed} {v} {w} {x} m n = record {
  told = told_then root_of v w x w.seen x.seen [] [] m.told n.told;
  legal = n.legal;
  whole = λ is. n.whole (subst IsWhole (sym m.told.part) is);
}

abbrev makes-then : {fixed : Fixed} {v w x : Knowing} {ask : Ask} → MakesNone fixed v w → Makes fixed w x ask → Makes fixed v x ask
makes-then {fixed} {v} {w} {x} {ask} none m = record {
  session = m.session;
  reply = m.reply;
  seen = m.seen;
  told = told_then root_of v w x w.seen x.seen [] ((length x.seen, entry_by m.session ask m.reply) ∷ []) none.told m.told;
  steps = m.steps;
  room = m.room;
  legal = m.legal;
  whole = λ is. m.whole (subst IsWhole (sym none.told.part) is);
}

pub waits-on : {fixed : Fixed} {v w x : Knowing} → HasWaited fixed v w → MakesNone fixed w x → HasWaited fixed v x
waits-on {fixed} {v} {w} {x} (inl same) n = inr (subst (λ (u : Knowing). MakesNone fixed u x) same n)
waits-on {fixed} {v} {w} {x} (inr m) n = inr (none-then m n)

-- the ask may still be made
pub still-may : {fixed : Fixed} {v w : Knowing} {ask : Ask} → HasWaited fixed v w → MayWait fixed v ask → MayAsk fixed w ask
still-may {fixed} {v} {w} {ask} (inl same) m =
    subst (λ (u : Knowing). MayAsk fixed u ask) (sym same) (record { session = m.session; may = m.may; speaks = m.speaks })
still-may {fixed} {v} {w} {ask} (inr none) m =
    let b = between-none m.session none m.come m.speaks in
    let all : IsLegal fixed.pool (v.seen ++ b.0) = subst (IsLegal fixed.pool) b.1.0 none.legal in
    record {
      session = m.session;
      may = ap (λ (h : List Entry). asks (standing_of fixed.pool h) m.session ask) b.1.0 ∙ (asks-stay fixed.pool v.seen b.0 m.session ask all b.1.1 ∙ m.may);
      speaks = subst (Stands m.session) (sym (none.told.mine ∙ append-nil v.mine)) m.speaks;
    }

-- and what it makes at last is all that was made
pub made-at-last : {fixed : Fixed} {v w x : Knowing} {ask : Ask} {reply : Reply} → HasWaited fixed v w → Answers fixed w x ask reply → Answers fixed v x ask reply
made-at-last {fixed} {v} {w} {x} {ask} {reply} (inl same) a = subst (λ (u : Knowing). Answers fixed u x ask reply) same a
made-at-last {fixed} {v} {w} {x} {ask} {reply} (inr none) a = record { makes = makes-then none a.makes; reply_is = a.reply_is }

-- ---- a port that is shut

pub shut-asks : {s : SessionState} (port : PortId) → IsThere None s → IsSome (port_with_id s.own port.0) → asks (standing_seen s.fixed s.knows) s.id (Shut port) ≡ true
shut-asks {s} port t some =
    let h = has-open s.own port some in
    asked (Shut port) t (subst (λ (id : PortId). MayBeAsked s.fixed.pool s.knows.seen s.id (Shut id)) h.id_is (shut-asked s.fixed.pool s.knows.seen s.id None s.own h.port (has-side t) t.settled h.is_open))

pub shut-there : {s : SessionState} {w : Knowing} (port : PortId) → IsThere None s → IsSome (port_with_id s.own port.0) → Answers s.fixed s.knows w (Shut port) Made
    → IsThere (Some port.0) (record s { knows = w })
shut-there port t some made = there-answered t (shut-asks port t some) made refl refl tt

-- the finish of a port, as its detach asks for it
pub record Finishes (own : OwnState) (port : PortId) (bufs : List ℕ) (chain : Chain) : Type 0 where
  pub of : OwnPort
  pub found : port_with_id own port.0 ≡ Some of
  pub id_is : of.id ≡ port
  pub bufs_are : bufs ≡ buffers_in of
  pub chain_is : chain ≡ chain_in own of
  pub is : finish_call own of ≡ Finish port bufs chain

pub finishes : (own : OwnState) (port : PortId) (bufs : List ℕ) (chain : Chain) → IsSome (port_with_id own port.0) → bufs ≡ buffers_with_id own port.0
    → IfSome (port_with_id own port.0) (λ (p : OwnPort). chain ≡ chain_in own p) → Finishes own port bufs chain
finishes own port bufs chain some bufs-are chain-is =
    let h = has-open own port some in
    let these : buffers_in h.port ≡ bufs = sym (bufs-are ∙ ap (λ (o : Option OwnPort). option_map_or buffers_in o []) h.found) in
    let this : chain ≡ chain_in own h.port = subst (λ (o : Option OwnPort). IfSome o (λ (p : OwnPort). chain ≡ chain_in own p)) h.found chain-is in
    record {
      of = h.port;
      found = h.found;
      id_is = h.id_is;
      bufs_are = sym these;
      chain_is = this;
      is = ap (λ (id : PortId). Finish id (buffers_in h.port) (chain_in own h.port)) h.id_is
          ∙ (ap (λ (bs : List ℕ). Finish port bs (chain_in own h.port)) these ∙ ap (Finish port bufs) (sym this));
    }

-- as the own side says that takes the port out
pub finishes-of : (own side : OwnState) (port : PortId) (bufs : List ℕ) (chain : Chain) → own ≡ side → IsSome (port_with_id own port.0) → bufs ≡ buffers_with_id side port.0
    → IfSome (port_with_id side port.0) (λ (p : OwnPort). chain ≡ chain_in side p) → Finishes own port bufs chain
finishes-of own side port bufs chain same some bufs-are chain-is =
    finishes own port bufs chain some (subst (λ (o : OwnState). bufs ≡ buffers_with_id o port.0) (sym same) bufs-are)
    (subst (λ (o : OwnState). IfSome (port_with_id o port.0) (λ (p : OwnPort). chain ≡ chain_in o p)) (sym same) chain-is)

pub own-finished : (own side new : OwnState) (port : PortId) (bufs : List ℕ) → own ≡ side → bufs ≡ buffers_with_id side port.0 → new ≡ own_after_finish port.0 (buffers_with_id side port.0) side
    → new ≡ own_after_finish port.0 bufs own
own-finished own side new port bufs same bufs-are made =
    made ∙ (ap (λ (bs : List ℕ). own_after_finish port.0 bs side) (sym bufs-are) ∙ ap (λ (o : OwnState). own_after_finish port.0 bufs o) (sym same))

pub finish-asks : {s : SessionState} {port : PortId} {bufs : List ℕ} {chain : Chain} → IsThere (Some port.0) s → Finishes s.own port bufs chain
    → asks (standing_seen s.fixed s.knows) s.id (Finish port bufs chain) ≡ true
finish-asks {s} {port} {bufs} {chain} t f =
    let id : port.0 ≡ f.of.id.0 = ap (λ (i : PortId). i.0) (sym f.id_is) in
    let found : port_with_id s.own f.of.id.0 ≡ Some f.of = subst (λ (n : ℕ). port_with_id s.own n ≡ Some f.of) id f.found in
    let is-shut : is_shut (Some port.0) f.of.id.0 ≡ true = eq-eqb f.of.id.0 port.0 (sym id) in
    asked (Finish port bufs chain) t
    (subst (MayBeAsked s.fixed.pool s.knows.seen s.id) f.is (finish-asked s.fixed.pool s.knows.seen s.id (Some port.0) s.own f.of (has-side t) (found, is-shut)))

pub may-finish : {s : SessionState} {port : PortId} {bufs : List ℕ} {chain : Chain} → IsThere (Some port.0) s → Finishes s.own port bufs chain → MayWait s.fixed s.knows (Finish port bufs chain)
may-finish {s} t f = record { session = s.id; come = t.come; may = finish-asks t f; speaks = t.speaks }

pub finish-there : {s : SessionState} {w : Knowing} {port : PortId} {bufs : List ℕ} {chain : Chain} {unread : ℕ} → IsThere (Some port.0) s → Finishes s.own port bufs chain
    → Answers s.fixed s.knows w (Finish port bufs chain) (Unread unread) → IsThere None (record s { knows = w; own = own_after_finish port.0 bufs s.own })
finish-there {s} {w} {port} {bufs} {chain} {unread} t f made =
    let call : IsFinishCall s.own port.0 (Finish port bufs chain) = record { port = f.of; found = f.found; is = f.is } in
    there-answered t (finish-asks t f) made refl call tt

-- ---- what the two entries tell

-- the entry of an answer, as its session made it
tells : {fixed : Fixed} {v w : Knowing} {ask : Ask} {reply : Reply} (session : ℕ) (a : Answers fixed v w ask reply) → a.makes.session ≡ session
    → Told root_of v w w.seen ((length w.seen, entry_by session ask reply) ∷ [])
tells {fixed} {v} {w} {ask} {reply} session a mine =
    subst (λ (r : Reply). Told root_of v w w.seen ((length w.seen, entry_by session ask r) ∷ [])) a.reply_is
    (subst (λ (n : ℕ). Told root_of v w w.seen ((length w.seen, entry_by n ask a.makes.reply) ∷ [])) mine a.makes.told)

-- and as it is seen later
made-at : {v w : Knowing} {ask : Ask} {reply : Reply} (t : SessionState) (a : Answers t.fixed v w ask reply) → a.makes.session ≡ t.id → IsPrefix w.seen t.knows.seen → IsMadeAt t (length w.seen) ask reply
made-at {v} {w} {ask} {reply} t a mine begins =
    let m = a.makes in
    let early : earlier w.seen ≡ take (length w.seen - 1) t.knows.seen = sym (take-append-le (length w.seen - 1) w.seen begins.0 (omega arith)) ∙ ap (take (length w.seen - 1)) begins.1 in
    let by-it = subst (λ (n : ℕ). option_map session_and_reply (step (standing (record_in t.fixed (earlier w.seen))) ask) ≡ Some (n, m.reply)) mine m.steps in
    let answered = subst (λ (r : Reply). option_map session_and_reply (step (standing (record_in t.fixed (earlier w.seen))) ask) ≡ Some (t.id, r)) a.reply_is by-it in
    record {
      steps = subst (λ (h : List Entry). option_map session_and_reply (step (standing (record_in t.fixed h)) ask) ≡ Some (t.id, reply)) early answered;
      room = subst (λ (h : List Entry). HasRoom (record_in t.fixed h) ask) early m.room;
    }

module _ (s : SessionState) (w x : Knowing) (port : PortId) (bufs : List ℕ) (chain : Chain) (told : Detached) (t : IsThere None s) (some : IsSome (port_with_id s.own port.0))
    (a : Answers s.fixed s.knows w (Shut port) Made) (f : Finishes s.own port bufs chain) (b : Answers s.fixed w x (Finish port bufs chain) (Unread told.unread)) where
  abbrev shutting : SessionState
  shutting = record s { knows = w }

  there-shut : IsThere (Some port.0) shutting
  there-shut = shut-there port t some a

  pub detached-there : IsThere None (record s { knows = x; own = own_after_finish port.0 bufs s.own })
  detached-there = finish-there there-shut f b

  pub is-detached : (new : OwnState) → told.chain ≡ chain → new ≡ own_after_finish port.0 bufs s.own → IsDetached s (record s { knows = x; own = new }) port.0 told
  is-detached new chain-is own-is =
      let after : SessionState = record s { knows = x; own = new } in
      let mine = whose t a.makes refl (shut-asks port t some) in
      let mine-too = whose there-shut b.makes refl (finish-asks there-shut f) in
      let begins = subst (λ (h : List Entry). IsPrefix w.seen h) b.makes.told.seen b.makes.told.begins in
      let shut-is : Shut port ≡ Shut f.of.id = ap Shut (sym f.id_is) in
      let finish-is : Finish port bufs chain ≡ finish_call s.own f.of = sym f.is in
      let both = told_then root_of s.knows w x w.seen x.seen ((length w.seen, entry_by s.id (Shut port) Made) ∷ []) ((length x.seen, entry_by s.id (Finish port bufs chain) (Unread told.unread)) ∷ [])
      (tells s.id a mine) (tells s.id b mine-too) in
      record {
        at = record { port = f.of; found = f.found };
        shut = length w.seen;
        finish = length x.seen;
        told =
            subst (λ (ask : Ask). Told root_of s.knows x x.seen ((length w.seen, entry_by s.id (Shut f.of.id) Made) ∷ (length x.seen, entry_by s.id ask (Unread told.unread)) ∷ [])) finish-is
            (subst (λ (ask : Ask). Told root_of s.knows x x.seen ((length w.seen, entry_by s.id ask Made) ∷ (length x.seen, entry_by s.id (Finish port bufs chain) (Unread told.unread)) ∷ [])) shut-is both);
        shuts = subst (λ (ask : Ask). IsMadeAt after (length w.seen) ask Made) shut-is (made-at after a mine begins);
        finishes = subst (λ (ask : Ask). IsMadeAt after (length x.seen) ask (Unread told.unread)) finish-is (made-at after b mine-too ([], append-nil x.seen));
        chain = chain-is ∙ f.chain_is;
        own = own-is ∙ ap (λ (bs : List ℕ). own_after_finish port.0 bs s.own) f.bufs_are;
        fabric = refl;
        fixed = refl;
        id_is = refl;
        user = refl;
      }

-- ---- one port after another

-- the ports that are left are those that it closes
abbrev pub GoesOn : SessionState → SessionState → Type 0
GoesOn s t = (last : SessionState) → AreDetached t t.own.ports last → AreDetached s s.own.ports last

-- the first port, and those behind it
pub record FirstPort (ports : List OwnPort) (port : PortId) : Type 0 where
  pub first : OwnPort
  pub others : List OwnPort
  pub is : ports ≡ first ∷ others
  pub id_is : first.id ≡ port

abbrev port-id : OwnPort → PortId
port-id p = p.id

pub first-of : (ports : List OwnPort) (port : PortId) → option_map port-id (slice_get ports 0) ≡ Some port → FirstPort ports port
first-of [] port e = absurd cc
first-of (p ∷ ports) port e = record { first = p; others = ports; is = refl; id_is = cc e }

pub none-left : (ports : List OwnPort) → option_map port-id (slice_get ports 0) ≡ None → ports ≡ []
none-left [] e = refl
none-left (p ∷ ports) e = absurd cc

find-here : (id : ℕ) (p : OwnPort) (ports : List OwnPort) → p.id.0 ≡ id → find (λ (q : OwnPort). q.id.0 == id) (p ∷ ports) ≡ Some p
find-here id p ports e = let here : (p.id.0 == id) ≡ true = eq-eqb p.id.0 id e in rw here refl

pub first-there : (own : OwnState) (port : PortId) → FirstPort own.ports port → IsSome (port_with_id own port.0)
first-there own port f =
    let here = find-here port.0 f.first f.others (ap (λ (i : PortId). i.0) f.id_is) in
    let found : port_with_id own port.0 ≡ Some f.first = ap (find (λ (q : OwnPort). q.id.0 == port.0)) f.is ∙ here in
    subst IsSome (sym found) refl

others-stay : (id : ℕ) (ports : List OwnPort) → Each (λ (n : ℕ). nat_eq id n ≡ false) (map id_of ports) → filter (λ (q : OwnPort). not (q.id.0 == id)) ports ≡ ports
others-stay id [] apart = refl
others-stay id (q ∷ ports) apart =
    let other : (q.id.0 == id) ≡ false = ne_eqb q.id.0 id (λ e. absurd (let same = eq-eqb id q.id.0 (sym e) in let differ = apart.0 in cc)) in
    rw other (ap (λ (qs : List OwnPort). q ∷ qs) (others-stay id ports apart.1))

first-goes : (p : OwnPort) (ports : List OwnPort) (id : ℕ) → p.id.0 ≡ id → IsDistinct nat_eq (map id_of (p ∷ ports)) → filter (λ (q : OwnPort). not (q.id.0 == id)) (p ∷ ports) ≡ ports
unfolding IsDistinct
first-goes p ports id e apart =
    let here : (p.id.0 == id) ≡ true = eq-eqb p.id.0 id e in
    rw here (others-stay id ports (subst (λ (n : ℕ). Each (λ (m : ℕ). nat_eq n m ≡ false) (map id_of ports)) e apart.0))

pub others-left : {s t : SessionState} {port : PortId} {told : Detached} (f : FirstPort s.own.ports port) → IsDistinct nat_eq (map id_of s.own.ports) → IsDetached s t port.0 told → t.own.ports ≡ f.others
others-left {s} {t} {port} {told} f apart d =
    ap (λ (o : OwnState). o.ports) d.own
    ∙ (ap (filter (λ (q : OwnPort). not (q.id.0 == port.0))) f.is
    ∙ first-goes f.first f.others port.0 (ap (λ (i : PortId). i.0) f.id_is) (subst (λ (ps : List OwnPort). IsDistinct nat_eq (map id_of ps)) f.is apart))

pub goes-on : (s : SessionState) {t u : SessionState} {port : PortId} {told : Detached} (f : FirstPort t.own.ports port) → IsDistinct nat_eq (map id_of t.own.ports) → IsDetached t u port.0 told → GoesOn s t → GoesOn s u
goes-on s {t} {u} {port} {told} f apart d goes = λ last are.
    let id : port.0 ≡ f.first.id.0 = ap (λ (i : PortId). i.0) (sym f.id_is) in
    let rest = subst (λ (ps : List OwnPort). AreDetached u ps last) (others-left f apart d) are in
    goes last (subst (λ (ps : List OwnPort). AreDetached t ps last) (sym f.is) (u, (told, (subst (λ (n : ℕ). IsDetached t u n told) id d, rest))))

pub fewer-left : {s t : SessionState} {port : PortId} {told : Detached} (f : FirstPort s.own.ports port) → IsDistinct nat_eq (map id_of s.own.ports) → IsDetached s t port.0 told
    → length t.own.ports < length s.own.ports
fewer-left {s} {t} {port} {told} f apart d =
    let left = ap (λ (ps : List OwnPort). length ps) (others-left f apart d) in
    let had = ap (λ (ps : List OwnPort). length ps) f.is in
    omega (arith, left, had)

-- ---- the leaving

pub left-all : (s t : SessionState) → GoesOn s t → t.own.ports ≡ [] → AreDetached s s.own.ports t
left-all s t goes none = goes t (subst (λ (ps : List OwnPort). AreDetached t ps t) (sym none) refl)

pub leave-asks : {s : SessionState} (session : SessionId) → IsThere None s → session.0 ≡ s.id → s.own.ports ≡ [] → asks (standing_seen s.fixed s.knows) s.id (Leave session) ≡ true
leave-asks {s} session t same none =
    let of = subst (λ (n : ℕ). HasSide s.fixed.pool s.knows.seen n None s.own) (sym same) (has-side t) in
    let settled = subst (IsSettled s.fixed.pool s.knows.seen) (sym same) t.settled in
    asked (Leave session) t (subst (λ (n : ℕ). MayBeAsked s.fixed.pool s.knows.seen n (Leave session)) same (leave-asked s.fixed.pool s.knows.seen session None s.own of settled none))

pub left-as : (t : SessionState) (w : Knowing) (session : SessionId) (id : ℕ) → session.0 ≡ id → Answers t.fixed t.knows w (Leave session) Made → Answers t.fixed t.knows w (Leave (record { 0 = id })) Made
left-as t w session id same a = subst (λ (n : ℕ). let by : SessionId = record { 0 = n } in Answers t.fixed t.knows w (Leave by) Made) same a
