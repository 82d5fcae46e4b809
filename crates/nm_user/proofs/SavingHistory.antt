-- What a history tells of a port's reads, as it goes on by entries that read nothing there.
use Rattle.std.proofs.Common.{ℕ, suc, ◌+◌, ◌<◌, ◌≤◌, ◌≡◌, ◌==◌, ◌⊎◌, inl, inr, Bool, true, false, cond, List, [], ◌∷◌, ◌++◌, length, slice_get, Option, Some, None, option_map, refl, sym, ◌∙◌, ap, subst, arith, length-append, append_assoc, append-nil}
use Rattle.std.proofs.lemmas.Bool.{eqb-true, cases_eq}
use Rattle.std.proofs.lemmas.Option.{same_Some}
use Rattle.nm_types.specs.declared.id.PortId.{PortId}
use Rattle.vale_entry.specs.declared.entry.Ask.{Ask}
use Rattle.vale_entry.specs.declared.entry.Ask.TheVariants.{Enter, Open, Send, Grant, Done, Sync, Reset, Shut, Finish, Leave, Put, PutKept, Get, Watch, Stat}
use Rattle.vale_entry.specs.declared.entry.Reply.{Reply}
use Rattle.vale_entry.specs.declared.entry.Entry.{Entry}
use Rattle.vale_entry.specs.World.{World, Port, changed_if, changed_at, open_port}
use Rattle.vale_entry.specs.Opening.{opened_port}
use Rattle.vale_entry.specs.Grant.{port_after_grant, granted_frames}
use Rattle.vale_entry.specs.Delivery.{port_after_done, port_after_sync, delivered_frames}
use Rattle.vale_entry.specs.Closing.{shut, ports_without}
use Rattle.vale_entry.specs.Pipe.{port_after_put, frames_of_items}
use Rattle.vale_entry.specs.Delivered.{told, has_id, port_at, frames_at, read_by, of_entry_in}
use Rattle.vale_entry.specs.Legal.{Standing, standing_of, world_of, standing_with, recorded_step, session_and_reply, IsLegal, Follows}
use Rattle.vale_entry.proofs.Worlds.{standing-push, count-world_of}
use Rattle.vale_entry.proofs.Told.{told-push}
use Rattle.vale_entry.proofs.Follows.{EachKind, after-by}
use Rattle.vale_entry.proofs.Numbered.{world-numbered}
use Rattle.vale_entry.proofs.PortAt.{first_of, find-append, port_at-map, port_at-changed, port_at-without, port_at-without_other, port_at-under, open_port-none, found-open}
use Rattle.vale_own.proofs.OwnKept.{legal-split}
use Rattle.nm_user.specs.PortReads.{reads_at, IsPortOf, ReadsNot}
use Rattle.nm_user.proofs.Receives.{stepped}

some-none : {X : Type 0} (found : Option X) (x : X) → found ≡ None → found ≡ Some x → ⊥
some-none found x none some = absurd cc

-- ---- whose a port is

abbrev OwnedBy : ℕ → Option Port → Type 0
OwnedBy session found = (port : Port) → found ≡ Some port → port.session ≡ session

owned-mapped : (session : ℕ) (change : Port → Port) → ((p : Port) → (change p).session ≡ p.session) → (found later : Option Port) → later ≡ option_map change found → OwnedBy session found → OwnedBy session later
owned-mapped session change keeps None later e owned port is = absurd (some-none later port e is)
owned-mapped session change keeps (Some old) later e owned port is =
    let changed : change old ≡ port = same_Some (change old) port (sym e ∙ is) in
    sym (ap (λ (p : Port). p.session) changed) ∙ (keeps old ∙ owned old refl)

owned-opened : (session : ℕ) (found : Option Port) (b : Bool) (new : Port) (later : Option Port) → later ≡ first_of found (cond b (Some new) None) → b ≡ false → OwnedBy session found → OwnedBy session later
owned-opened session (Some old) b new later e other owned port is = owned port (sym e ∙ is)
owned-opened session None true new later e other owned port is = absurd cc
owned-opened session None false new later e other owned port is = absurd (some-none later port e is)

session-if : (b : Bool) (change : Port → Port) (port : Port) → (change port).session ≡ port.session → (changed_if b change port).session ≡ port.session
session-if true change port same = same
session-if false change port same = refl

module _ (s : Standing) (session id : ℕ) (given : id ≤ s.world.entry_count) (owned : OwnedBy session (port_at s.world.ports id)) where
  abbrev world : World
  world = s.world

  changed : (at : ℕ) (change : Port → Port) → ((p : Port) → (change p).id ≡ p.id) → ((p : Port) → (change p).session ≡ p.session) → OwnedBy session (port_at (changed_at at change world.ports) id)
  changed at change ids sessions =
      owned-mapped session (λ (p : Port). changed_if (p.id == at) change p) (λ p. session-if (p.id == at) change p (sessions p)) (port_at world.ports id) (port_at (changed_at at change world.ports) id)
      (port_at-changed at change ids world.ports id) owned

  gone : (at : ℕ) → OwnedBy session (port_at (ports_without at world.ports) id)
  gone at = by (cases_eq at id)
    where
      by : (at ≡ id) ⊎ (at ≡ id → ⊥) → OwnedBy session (port_at (ports_without at world.ports) id)
      by (inl same) = λ port is. absurd (some-none (port_at (ports_without at world.ports) id) port (subst (λ (k : ℕ). port_at (ports_without at world.ports) k ≡ None) same (port_at-without world.ports at)) is)
      by (inr other) = λ port is. owned port (sym (port_at-without_other world.ports at id other) ∙ is)

  new-other : (world.entry_count + 1 == id) ≡ false
  new-other = by (world.entry_count + 1 == id) refl
    where
      by : (b : Bool) → (world.entry_count + 1 == id) ≡ b → b ≡ false
      by true t = absurd (let same = eqb-true (world.entry_count + 1) id t in omega (arith, same, given))
      by false t = refl

  owned-kinds : (e : Entry) → EachKind s (λ ask made. OwnedBy session (port_at (standing_with s e made.next).world.ports id))
  owned-kinds e = record {
    enters = λ user fits. owned;
    quiet = λ ask by reply quiet. owned;
    opens = λ by name tx rx extra can refusal.
        owned-opened session (port_at world.ports id) (world.entry_count + 1 == id) (opened_port (world.entry_count + 1) by.0 name tx rx extra) _
        (find-append (has_id id) world.ports (opened_port (world.entry_count + 1) by.0 name tx rx extra ∷ [])) new-other owned;
    sends = λ from frames port found can settled. owned;
    grants = λ origin at offer first same. changed offer.to (port_after_grant (world.entry_count + 1) offer.session (granted_frames world offer)) (λ p. refl) (λ p. refl);
    completes = λ lease lot found.
        owned-mapped session (port_after_done lease.0) (λ p. refl) (port_at world.ports id) _ (port_at-map (port_after_done lease.0) (λ p. refl) world.ports id) owned;
    receives = λ ask at back port receives found can. changed port.id (port_after_sync (length back)) (λ p. refl) (λ p. refl);
    puts = λ at offered items port peer found can there. changed peer.id (port_after_put (world.entry_count + 1) port.session (frames_of_items items)) (λ p. refl) (λ p. refl);
    watches = λ at target sides port there found can is none. owned;
    shuts = λ at port found settled. changed port.id shut (λ p. refl) (λ p. refl);
    finishes = λ at bufs chain port fits found can out. gone port.id;
    leaves = λ by can. owned;
  }

port-push : (pool : ℕ) (past : List Entry) (e : Entry) (session id : ℕ) → IsPortOf pool past session id → IsPortOf pool (past ++ e ∷ []) session id
port-push pool past e session id k =
    let s = standing_of pool past in
    let given = k.given in
    let count = count-world_of pool past in
    let long = length-append past (e ∷ []) in
    let one = after-by s (λ (t : Standing). OwnedBy session (port_at t.world.ports id)) e k.owner (owned-kinds s session id (omega (arith, given, count)) k.owner e) in
    record {
      given = omega (arith, given, long);
      owner = subst (λ (t : Standing). OwnedBy session (port_at t.world.ports id)) (sym (standing-push pool past e)) one;
    }

-- it stays so
pub port-past : (pool : ℕ) (past more : List Entry) (session id : ℕ) → IsPortOf pool past session id → IsPortOf pool (past ++ more) session id
port-past pool past [] session id k = subst (λ (h : List Entry). IsPortOf pool h session id) (sym (append-nil past)) k
port-past pool past (e ∷ es) session id k =
    subst (λ (h : List Entry). IsPortOf pool h session id) (append_assoc past (e ∷ []) es) (port-past pool (past ++ e ∷ []) es session id (port-push pool past e session id k))

-- ---- what reads nothing there

reads-by : (s : Standing) (id session by : ℕ) (pipe : Bool) (at : PortId) (back : List ℕ) (reply : Reply)
    → ((port : Port) → open_port s.world.ports id ≡ Some port → port.session ≡ session) → (by ≡ session → (at.0 == id) ≡ false)
    → (port : Port) → open_port s.world.ports at.0 ≡ Some port → port.session ≡ by
    → cond (at.0 == id) (frames_at delivered_frames (open_port s.world.ports at.0)) [] ≡ []
reads-by s id session by pipe at back reply owner none port found mine = on (at.0 == id) refl
  where
    on : (b : Bool) → (at.0 == id) ≡ b → cond (at.0 == id) (frames_at delivered_frames (open_port s.world.ports at.0)) [] ≡ []
    on true t =
        let here : open_port s.world.ports id ≡ Some port = subst (λ (n : ℕ). open_port s.world.ports n ≡ Some port) (eqb-true at.0 id t) found in
        let no : (at.0 == id) ≡ false = none (sym mine ∙ owner port here) in
        absurd (let bad : true ≡ false = sym t ∙ no in cc)
    on false t = rw t refl

-- an ask that reads nothing, or one of the two that read
by-reads : (P : Ask → Type 0) → ((ask : Ask) → ((w : World) (id : ℕ) (reply : Reply) → read_by id w ask reply ≡ []) → P ask) → ((at : PortId) (back : List ℕ) → P (Sync at back)) → ((at : PortId) (back : List ℕ) → P (Get at back)) → (ask : Ask) → P ask
by-reads P none syncs gets (Enter user) = none (Enter user) (λ w id reply. refl)
by-reads P none syncs gets (Open at name tx rx extra) = none (Open at name tx rx extra) (λ w id reply. refl)
by-reads P none syncs gets (Send from frames) = none (Send from frames) (λ w id reply. refl)
by-reads P none syncs gets (Grant origin to) = none (Grant origin to) (λ w id reply. refl)
by-reads P none syncs gets (Done lease) = none (Done lease) (λ w id reply. refl)
by-reads P none syncs gets (Sync at back) = syncs at back
by-reads P none syncs gets (Reset at side fault) = none (Reset at side fault) (λ w id reply. refl)
by-reads P none syncs gets (Shut at) = none (Shut at) (λ w id reply. refl)
by-reads P none syncs gets (Finish at bufs chain) = none (Finish at bufs chain) (λ w id reply. refl)
by-reads P none syncs gets (Leave at) = none (Leave at) (λ w id reply. refl)
by-reads P none syncs gets (Put at offered) = none (Put at offered) (λ w id reply. refl)
by-reads P none syncs gets (PutKept at offered) = none (PutKept at offered) (λ w id reply. refl)
by-reads P none syncs gets (Get at back) = gets at back
by-reads P none syncs gets (Watch monitor target sides) = none (Watch monitor target sides) (λ w id reply. refl)
by-reads P none syncs gets (Stat at) = none (Stat at) (λ w id reply. refl)

reads-ask : (s : Standing) (id session by : ℕ) (reply : Reply) → ((port : Port) → open_port s.world.ports id ≡ Some port → port.session ≡ session)
    → (ask : Ask) → option_map session_and_reply (recorded_step s ask reply) ≡ Some (by, reply) → (by ≡ session → reads_at id ask ≡ false) → read_by id s.world ask reply ≡ []
reads-ask s id session by reply owner =
    by-reads (λ (ask : Ask). option_map session_and_reply (recorded_step s ask reply) ≡ Some (by, reply) → (by ≡ session → reads_at id ask ≡ false) → read_by id s.world ask reply ≡ [])
    (λ ask silent e none. silent s.world id reply)
    (λ at back e none. let st = stepped false s at back by reply e in reads-by s id session by false at back reply owner none st.at st.found st.session_is)
    (λ at back e none. let st = stepped true s at back by reply e in reads-by s id session by true at back reply owner none st.at st.found st.session_is)

pub reads-none : (pool : ℕ) (past : List Entry) (e : Entry) (session id : ℕ) → Follows (standing_of pool past) e → IsPortOf pool past session id → ReadsNot session id e → of_entry_in read_by id (world_of pool past) e ≡ []
reads-none pool past e session id follows k none =
    let w = world_of pool past in
    reads-ask (standing_of pool past) id session e.session.0 e.reply (λ port found. k.owner port (found-open w.ports w.entry_count id port (world-numbered pool past).ports_rise found).here) e.ask follows none

-- before its number nothing reads at a port
unread-at : (w : World) (id at : ℕ) → open_port w.ports id ≡ None → cond (at == id) (frames_at delivered_frames (open_port w.ports at)) [] ≡ []
unread-at w id at none = on (at == id) refl
  where
    on : (b : Bool) → (at == id) ≡ b → cond (at == id) (frames_at delivered_frames (open_port w.ports at)) [] ≡ []
    on true t = rw t (ap (frames_at delivered_frames) (subst (λ (n : ℕ). open_port w.ports n ≡ None) (sym (eqb-true at id t)) none))
    on false t = rw t refl

unread-ask : (w : World) (id : ℕ) → open_port w.ports id ≡ None → (ask : Ask) (reply : Reply) → read_by id w ask reply ≡ []
unread-ask w id none = by-reads (λ (ask : Ask). (reply : Reply) → read_by id w ask reply ≡ []) (λ ask silent. silent w id) (λ at back reply. unread-at w id at.0 none) (λ at back reply. unread-at w id at.0 none)

pub unread-before : (pool : ℕ) (past : List Entry) (e : Entry) (id : ℕ) → length past < id → of_entry_in read_by id (world_of pool past) e ≡ []
unread-before pool past e id before = unread-ask w id (open_port-none w.ports id (by (port_at w.ports id) refl)) e.ask e.reply
  where
    w : World
    w = world_of pool past

    by : (found : Option Port) → port_at w.ports id ≡ found → found ≡ None
    by None is = refl
    by (Some port) is = absurd (let low = port_at-under w.ports w.entry_count id port (world-numbered pool past).ports_rise is in let count = count-world_of pool past in omega (arith, low, count, before))

-- ---- what is told of reads

module _ {X : Type 0} (tell : World → Entry → List X) (pool id : ℕ) (silent : (w : World) (e : Entry) → of_entry_in read_by id w e ≡ [] → tell w e ≡ []) where
  -- one entry more that tells nothing
  still-told : (past : List Entry) (e : Entry) → of_entry_in read_by id (world_of pool past) e ≡ [] → told tell pool (past ++ e ∷ []) ≡ told tell pool past
  still-told past e none = told-push tell pool past e ∙ (ap (λ (xs : List X). told tell pool past ++ xs) (silent (world_of pool past) e none) ∙ append-nil (told tell pool past))

  pub told-stays : (past more : List Entry) (session : ℕ) → IsLegal pool (past ++ more) → IsPortOf pool past session id → ((k : ℕ) (e : Entry) → slice_get more k ≡ Some e → ReadsNot session id e)
      → told tell pool (past ++ more) ≡ told tell pool past
  told-stays past [] session legal k none = ap (told tell pool) (append-nil past)
  told-stays past (e ∷ es) session legal k none =
      let whole : past ++ e ∷ es ≡ (past ++ e ∷ []) ++ es = sym (append_assoc past (e ∷ []) es) in
      let follows = (legal-split pool past (e ∷ es) legal).1.0 in
      let rest = told-stays (past ++ e ∷ []) es session (subst (IsLegal pool) whole legal) (port-push pool past e session id k) (λ j f at. none (suc j) f at) in
      ap (told tell pool) whole ∙ (rest ∙ still-told past e (reads-none pool past e session id follows k (none 0 e refl)))

  pub told-grows : (past more : List Entry) (e : Entry) (later : List Entry) (session : ℕ) → IsLegal pool ((past ++ more) ++ e ∷ later) → IsPortOf pool past session id
      → ((k : ℕ) (f : Entry) → slice_get more k ≡ Some f → ReadsNot session id f) → ((k : ℕ) (f : Entry) → slice_get later k ≡ Some f → ReadsNot session id f)
      → told tell pool ((past ++ more) ++ e ∷ later) ≡ told tell pool past ++ tell (world_of pool (past ++ more)) e
  told-grows past more e later session legal k none last =
      let whole : (past ++ more) ++ e ∷ later ≡ ((past ++ more) ++ e ∷ []) ++ later = sym (append_assoc (past ++ more) (e ∷ []) later) in
      let before = (legal-split pool (past ++ more) (e ∷ later) legal).0 in
      let mine = port-past pool (past ++ more) (e ∷ []) session id (port-past pool past more session id k) in
      ap (told tell pool) whole
      ∙ (told-stays ((past ++ more) ++ e ∷ []) later session (subst (IsLegal pool) whole legal) mine last
      ∙ (told-push tell pool (past ++ more) e ∙ ap (λ (xs : List X). xs ++ tell (world_of pool (past ++ more)) e) (told-stays past more session before k none)))

  told-new : (past more : List Entry) → length past + length more ≤ id → told tell pool (past ++ more) ≡ told tell pool past
  told-new past [] few = ap (told tell pool) (append-nil past)
  told-new past (e ∷ es) few =
      let whole : past ++ e ∷ es ≡ (past ++ e ∷ []) ++ es = sym (append_assoc past (e ∷ []) es) in
      let long = length-append past (e ∷ []) in
      ap (told tell pool) whole ∙ (told-new (past ++ e ∷ []) es (omega (arith, few, long)) ∙ still-told past e (unread-before pool past e id (omega (arith, few))))

  -- up to the entry of its number
  pub told-none : (history : List Entry) → length history ≤ id → told tell pool history ≡ []
  told-none history few = told-new [] history (omega (arith, few))
