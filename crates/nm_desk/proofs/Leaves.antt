-- A port that is shut and finished, and a desk that leaves.
use Rattle.std.proofs.Common.{ℕ, arith, ◌<◌, ◌≡◌, ◌==◌, Bool, true, false, List, [], sym, ap, subst, refl, ◌∙◌, Option, Some, None, IsSome, IfSome, eq-eqb}
use Rattle.std.specs.Prelude.{is_some, if◌then◌else◌}
use Rattle.std.specs.Option.{option_map_or}
use Rattle.std.proofs.lemmas.Bool.{ne_eqb}
use Rattle.nm_types.specs.declared.id.Chain.{Chain}
use Rattle.nm_types.specs.declared.id.PortId.{PortId}
use Rattle.nm_types.specs.declared.id.SessionId.{SessionId}
use Rattle.nm_types.specs.OwnPorts.{OwnPort, OwnState, port_with_id, buffers_in}
use Rattle.nm_types.specs.OwnSyncs.{chain_in, own_after_finish}
use Rattle.nm_port.specs.Closing.{buffers_with_id}
use Rattle.nm_port.specs.Regions.{SideState, AllOf}
use Rattle.vale_entry.specs.declared.entry.Ask.{Ask}
use Rattle.vale_entry.specs.declared.entry.Ask.TheVariants.{Shut, Finish, Leave}
use Rattle.vale_entry.specs.declared.entry.Reply.{Reply}
use Rattle.vale_entry.specs.declared.entry.Reply.TheVariants.{Made as Accepted, Unread, LeasesOut}
use Rattle.vale_entry.specs.World.{Port}
use Rattle.vale_entry.specs.Closing.{leases_out, unread_count, shutting_port}
use Rattle.vale_entry.specs.Legal.{Standing, Outcome, IsEnabled, step, reply_to, finish_reply, finish_reply_at, can_finish, fits_chain}
use Rattle.vale_entry.specs.OwnCalls.{finish_call}
use Rattle.vale_entry.proofs.Enabled.{asks-answered}
use Rattle.vale_own.specs.Side.{is_shut}
use Rattle.vale_own.specs.SideAsks.{HasSide, IsSettled, MayAsk, IsMade}
use Rattle.vale_own.proofs.SideAsking.{shut-asked, finish-asked, leave-asked}
use Rattle.vale_own.specs.Recorded.{Recorded, standing, after_ask, HasRoom}
use Rattle.vale_book.proofs.Said.{Steps, step-of, said-by, shut-said, leave-said, gone-said}
use Rattle.nm_desk.specs.declared.leaving.Detached.{Detached}
use Rattle.nm_desk.specs.declared.desk.Desk.TheInside.{Inside}
use Rattle.nm_desk.specs.Desks.{DeskState, IsDeskOf, side_of, desk_of, desk_seen}
use Rattle.nm_desk.specs.Calls.{Made, with_entry}
use Rattle.nm_desk.specs.Leaving.{HasPort, IsFinished, Waits, HasLeft}
use Rattle.nm_desk.proofs.Edits.{lent}
use Rattle.nm_desk.proofs.OneStep.{may-enabled, mine-by, step-by, has-open, found-id, some-is, grown}

-- the step of an ask that may be made, which makes an entry wherever it is enabled
abbrev stepped : (b : Recorded) (ask : Ask) → (made : Outcome) × (step (standing b) ask ≡ Some made) → Steps b ask
stepped b ask found = record { makes = found.0; is = found.1 }

-- ---- shut

module _ (b new : Recorded) (d : DeskState) (port : PortId) (is : IsDeskOf b d) (settled : IsSettled b.pool b.entries d.id) (none : d.shut ≡ None) (some : IsSome (port_with_id d.own port.0)) where
  may-shut : MayAsk b.pool b.entries d.id (Shut port)
  may-shut =
      let h = has-open d port (record { there = some; is_open = ap (λ (s : Option ℕ). is_shut s port.0) none }) in
      subst (λ (id : PortId). MayAsk b.pool b.entries d.id (Shut id)) h.id_is (shut-asked b.pool b.entries d.id d.shut d.own h.port is.side settled h.is_open)

  pub shut-enabled : IsEnabled (standing b) (Shut port)
  shut-enabled = may-enabled b d (Shut port) is may-shut

  pub shut-made : new ≡ after_ask b (Shut port) → HasRoom b (Shut port) → Made b new d (record d { shut = Some port.0 }) (Shut port) Accepted
  shut-made made room =
      let steps = stepped b (Shut port) (step-of (standing b) (Shut port) tt shut-enabled) in
      step-by b new d (record d { shut = Some port.0 }) (Shut port) Accepted is may-shut (λ m. none) made (said-by steps (shut-said steps)) room refl is.region

-- ---- finish

-- what a finish is answered, where it is enabled
answered-by : (can : Bool) (reply : Reply) → is_some (if can then Some reply else None) ≡ true → (if can then Some reply else None) ≡ Some reply
answered-by true reply e = refl
answered-by false reply e = absurd cc

abbrev Answered : Standing → List ℕ → Bool → Option Port → Type 0
Answered s bufs fits found = (p : Port) × ((found ≡ Some p) × ((if fits then finish_reply_at s bufs found else None) ≡ Some (finish_reply p)))

answered-at : (s : Standing) (bufs : List ℕ) (fits : Bool) (found : Option Port) → is_some (if fits then finish_reply_at s bufs found else None) ≡ true → Answered s bufs fits found
answered-at s bufs false found e = absurd cc
answered-at s bufs true None e = absurd cc
answered-at s bufs true (Some p) e = (p, (refl, answered-by (can_finish s bufs p) (finish_reply p) e))

waits-for : (n unread : ℕ) → 0 < n → (if n == 0 then Unread unread else LeasesOut n) ≡ LeasesOut n
waits-for n unread some = ap (λ (t : Bool). let r : Reply = if t then Unread unread else LeasesOut n in r) (ne_eqb n 0 (λ e. omega (arith, some, e)))

module _ (b : Recorded) (d : DeskState) (port : PortId) (is : IsDeskOf b d) (shut : d.shut ≡ Some port.0) (some : IsSome (port_with_id d.own port.0)) where
  abbrev found : (p : OwnPort) × (port_with_id d.own port.0 ≡ Some p)
  found = some-is (port_with_id d.own port.0) some

  abbrev p : OwnPort
  p = found.0

  abbrev pub at : HasPort d.own port.0
  at = record { port = p; found = found.1 }

  number : p.id.0 ≡ port.0
  number = ap (λ (id : PortId). id.0) (found-id d.own port p found.1)

  abbrev call : Ask
  call = finish_call d.own p

  may : MayAsk b.pool b.entries d.id call
  may = finish-asked b.pool b.entries d.id d.shut d.own p is.side
      (ap (port_with_id d.own) number ∙ found.1, ap (λ (s : Option ℕ). is_shut s p.id.0) shut ∙ eq-eqb p.id.0 port.0 number)

  answered : Answered (standing b) (buffers_in p) (fits_chain (chain_in d.own p)) (shutting_port (standing b).world.ports p.id.0)
  answered = answered-at (standing b) (buffers_in p) (fits_chain (chain_in d.own p)) (shutting_port (standing b).world.ports p.id.0)
      (sym (asks-answered (standing b) call) ∙ may-enabled b d call is may)

  stands : shutting_port (standing b).world.ports port.0 ≡ Some answered.0
  stands = ap (shutting_port (standing b).world.ports) (sym number) ∙ answered.1.0

  module _ (out : ℕ) (told : (seen : Port) → shutting_port (standing b).world.ports port.0 ≡ Some seen → out ≡ leases_out seen) where
    reply-is : reply_to (standing b) call ≡ Some (if out == 0 then Unread (unread_count answered.0) else LeasesOut out)
    reply-is = answered.1.1 ∙ ap (λ (n : ℕ). let said : Option Reply = Some (if n == 0 then Unread (unread_count answered.0) else LeasesOut n) in said) (sym (told answered.0 stands))

    pub waits : 0 < out → Waits b b d d port.0 out
    waits more = record {
      at = at;
      some = more;
      reply_is = reply-is ∙ ap (λ (r : Reply). let said : Option Reply = Some r in said) (waits-for out (unread_count answered.0) more);
      book = refl;
      same = refl;
    }

  -- the finish, as the own side says that takes the port out
  module _ (bufs : List ℕ) (chain : Chain) (bufs-are : bufs ≡ buffers_with_id d.own port.0) (chain-is : IfSome (port_with_id d.own port.0) (λ (q : OwnPort). chain ≡ chain_in d.own q)) where
    these : buffers_in p ≡ bufs
    these = sym (bufs-are ∙ ap (λ (o : Option OwnPort). option_map_or buffers_in o []) found.1)

    this : chain ≡ chain_in d.own p
    this = subst (λ (o : Option OwnPort). IfSome o (λ (q : OwnPort). chain ≡ chain_in d.own q)) found.1 chain-is

    call-is : call ≡ Finish port bufs chain
    call-is = ap (λ (id : PortId). Finish id (buffers_in p) (chain_in d.own p)) (found-id d.own port p found.1)
        ∙ (ap (λ (bs : List ℕ). Finish port bs (chain_in d.own p)) these ∙ ap (Finish port bufs) (sym this))

    pub finish-enabled : IsEnabled (standing b) (Finish port bufs chain)
    finish-enabled = subst (IsEnabled (standing b)) call-is (may-enabled b d call is may)

    pub finished : (new : Recorded) (after : DeskState) (told : Detached) → told.chain ≡ chain → new ≡ after_ask b (Finish port bufs chain) → reply_to (standing b) (Finish port bufs chain) ≡ Some (Unread told.unread)
        → HasRoom b (Finish port bufs chain) → after ≡ record after { id = d.id; shut = None; own = own_after_finish port.0 bufs d.own } → AllOf b.region (side_of after)
        → IsFinished b new d after port.0 told
    finished new after told chain-said made said room after-is region = record {
      at = at;
      made = subst (λ (ask : Ask). Made b new d after ask (Unread told.unread)) (sym call-is)
          (step-by b new d after (Finish port bufs chain) (Unread told.unread) is (subst (MayAsk b.pool b.entries d.id) call-is may) (λ m. record { port = p; found = found.1; is = call-is })
          made (gone-said (standing b) port bufs chain told.unread said) room after-is region);
      chain = chain-said ∙ this;
    }

-- the desk then
pub finished-own : (i : Inside) (d : DeskState) (was new : SideState) (id : ℕ) (bufs : List ℕ) → desk_seen i ≡ d → i.own ≡ Some was → bufs ≡ buffers_with_id was.own id → new.own ≡ own_after_finish id (buffers_with_id was.own id) was.own
    → desk_of i.id.0 None new ≡ record (desk_of i.id.0 None new) { id = d.id; shut = None; own = own_after_finish id bufs d.own }
finished-own i d was new id bufs seen had bufs-are made =
    let after : DeskState = desk_of i.id.0 None new in
    let own : new.own ≡ own_after_finish id bufs was.own = made ∙ ap (λ (bs : List ℕ). own_after_finish id bs was.own) (sym bufs-are) in
    subst (λ (x : DeskState). after ≡ record after { id = x.id; shut = None; own = own_after_finish id bufs x.own }) (sym (lent i d was seen had)) (ap (λ (o : OwnState). record after { own = o }) own)

-- ---- leave

module _ (b new : Recorded) (d : DeskState) (id : SessionId) (id-is : id.0 ≡ d.id) (is : IsDeskOf b d) (settled : IsSettled b.pool b.entries d.id) (empty : d.own.ports ≡ []) where
  may-leave : MayAsk b.pool b.entries d.id (Leave id)
  may-leave = subst (λ (n : ℕ). MayAsk b.pool b.entries n (Leave id)) id-is
      (leave-asked b.pool b.entries id d.shut d.own (subst (λ (n : ℕ). HasSide b.pool b.entries n d.shut d.own) (sym id-is) is.side) (subst (IsSettled b.pool b.entries) (sym id-is) settled) empty)

  pub leave-enabled : IsEnabled (standing b) (Leave id)
  leave-enabled = may-enabled b d (Leave id) is may-leave

  pub has-left : new ≡ after_ask b (Leave id) → HasRoom b (Leave id) → HasLeft b new d
  has-left made room =
      let as-id : id ≡ record { 0 = d.id } = ap (λ (n : ℕ). let x : SessionId = record { 0 = n } in x) id-is in
      let steps = stepped b (Leave id) (step-of (standing b) (Leave id) tt leave-enabled) in
      let mine = mine-by b d (Leave id) Accepted is may-leave (said-by steps (leave-said steps)) in
      record {
        made = subst (λ (i : SessionId). IsMade b.pool b.entries d.id (Leave i) Accepted) as-id mine;
        room = subst (λ (i : SessionId). HasRoom b (Leave i)) as-id room;
        book = subst (λ (i : SessionId). new ≡ with_entry b d.id (Leave i) Accepted) as-id (grown b new d.id (Leave id) Accepted mine made);
      }
