-- The entry of a task's call is the session's.
use Rattle.std.proofs.Common.{ℕ, ◌≡◌, ◌==◌, ◌⊎◌, inl, inr, Bool, true, false, cond, List, map, find, slice_get, Option, Some, None, option_map, refl, sym, ◌∙◌, ap, subst}
use Rattle.std.proofs.lemmas.Bool.{eq-eqb}
use Rattle.std.proofs.lemmas.Option.{same_Some}
use Rattle.nm_types.specs.OwnPorts.{OwnPort, OwnState, port_with_id, buffers_in}
use Rattle.nm_types.specs.OwnSyncs.{chain_in}
use Rattle.vale_entry.specs.declared.entry.Ask.{Ask}
use Rattle.vale_entry.specs.declared.entry.Ask.TheVariants.{Stat}
use Rattle.vale_entry.specs.declared.entry.Reply.{Reply}
use Rattle.vale_entry.specs.declared.entry.Entry.{Entry}
use Rattle.vale_entry.specs.World.{Port, open_port}
use Rattle.vale_entry.specs.Closing.{shutting_port}
use Rattle.vale_entry.specs.Legal.{Standing, Outcome, standing_of, is_enabled, step, session_and_reply, finish_step_at, fits_chain}
use Rattle.vale_entry.specs.Laws.{Rise, id_of_port}
use Rattle.vale_entry.proofs.Numbered.{world-numbered}
use Rattle.vale_entry.proofs.Rising.{find-at_key}
use Rattle.vale_entry.proofs.Places.{open-place, shutting-place}
use Rattle.vale_own.specs.Asker.{asks, asker_of, is_asker, owner_of_port}
use Rattle.vale_own.specs.Own.{Own}
use Rattle.vale_own.specs.Side.{IsSoundSideOf}
use Rattle.vale_own.specs.SideAsks.{HasSide}
use Rattle.vale_own.proofs.Askers.{askers-make-steps}
use Rattle.vale_own.proofs.Asking.{own-tells}
use Rattle.vale_own.proofs.SideAsking.{stat-asked}
use Rattle.vale_book.proofs.Said.{and-second, asker-is}
use Rattle.vale_fabric.specs.Fabrics.{Knowing, Makes, earlier}
use Rattle.nm_user.specs.Sessions.{SessionState, IsThere}
use Rattle.nm_user.proofs.After.{last}
use Rattle.nm_user.proofs.Later.{between, same-own}
use Rattle.vale_player.proofs.TaskCalls.{AtPort, AtShut, OfSession, TaskCall}

-- the outcome of a step
pub record HasMade (found : Option Outcome) (session : ℕ) (reply : Reply) : Type 0 where
  pub made : Outcome
  pub is : found ≡ Some made
  pub session_is : made.session ≡ session
  pub reply_is : made.reply ≡ reply

pub has-made : (found : Option Outcome) (session : ℕ) (reply : Reply) → option_map session_and_reply found ≡ Some (session, reply) → HasMade found session reply
has-made None session reply e = absurd cc
has-made (Some made) session reply e =
    let pair : session_and_reply made ≡ (session, reply) = cc e in
    record { made = made; is = refl; session_is = ap (λ (p : ℕ × Reply). p.0) pair; reply_is = ap (λ (p : ℕ × Reply). p.1) pair }

-- one port has an id
find-one : (ports : List Port) (high id i : ℕ) (x : Port) → Rise 0 (map id_of_port ports) high → slice_get ports i ≡ Some x → x.id ≡ id → find (λ (y : Port). y.id == id) ports ≡ Some x
find-one ports high id i x rise at is =
    find-at_key id_of_port (λ (y : Port). y.id == id) 0 ports high i x rise at (eq-eqb x.id id is) (λ y other. subst (λ (k : ℕ). (y.id == k) ≡ false) is other)

-- after a legal history, by a side none of whose ports is shut
module _ (pool : ℕ) (past : List Entry) (session : ℕ) (side : OwnState) (k : HasSide pool past session None side) where
  abbrev now : Standing
  now = standing_of pool past

  may-read : (p : OwnPort) → port_with_id side p.id.0 ≡ Some p → asks now session (Stat p.id) ≡ true
  may-read p found = own-tells pool past session (Stat p.id) k.legal ∙ stat-asked pool past session None side p k (found, refl)

  owner : (p : OwnPort) → port_with_id side p.id.0 ≡ Some p → is_asker (option_map owner_of_port (open_port now.world.ports p.id.0)) session ≡ true
  owner p found = and-second (is_enabled now (Stat p.id)) (is_asker (asker_of now (Stat p.id)) session) (may-read p found)

  -- a port of it is not shut
  none-shut : (id : ℕ) (opened : Option Port) (shut : Option Port) → open_port now.world.ports id ≡ opened → shutting_port now.world.ports id ≡ shut
      → is_asker (option_map owner_of_port opened) session ≡ true → shut ≡ None
  none-shut id None shut one two mine = absurd cc
  none-shut id (Some port) None one two mine = refl
  none-shut id (Some port) (Some other) one two mine =
      let numbered = (world-numbered pool past).ports_rise in
      let count = now.world.entry_count in
      let a = open-place now.world.ports count id port numbered one in
      let b = shutting-place now.world.ports count id other numbered two in
      let first = find-one now.world.ports count id a.place port numbered a.here a.id_is in
      let second = find-one now.world.ports count id b.place other numbered b.here b.id_is in
      let same : Some port ≡ Some other = sym first ∙ second in
      let open' = a.shutting_is in
      let shut' = b.shutting_is in
      absurd cc

  finish-none : (bufs : List ℕ) (fits : Bool) (shut : Option Port) (made : Outcome) → shut ≡ None → cond fits (finish_step_at now bufs shut) None ≡ Some made → ⊥
  finish-none bufs true None made none e = absurd cc
  finish-none bufs false None made none e = absurd cc
  finish-none bufs fits (Some port) made none e = absurd cc

  by-call : (ask : Ask) (made : Outcome) → TaskCall side (record { 0 = session }) ask → step now ask ≡ Some made → made.session ≡ session
  by-call ask made call stepped = by_of call.of
    where
      asker : asker_of now ask ≡ Some made.session
      asker = askers-make-steps now ask made call.plain.enters stepped

      by_of : AtPort side ask ⊎ (AtShut side ask ⊎ OfSession (record { 0 = session }) ask) → made.session ≡ session
      by_of (inl at) = asker-is (option_map owner_of_port (open_port now.world.ports at.port.id.0)) made.session session (sym (at.asker now) ∙ asker) (owner at.port at.found)
      by_of (inr (inl at)) =
          let none = none-shut at.port.id.0 (open_port now.world.ports at.port.id.0) (shutting_port now.world.ports at.port.id.0) refl refl (owner at.port at.found) in
          absurd (finish-none (buffers_in at.port) (fits_chain (chain_in side at.port)) (shutting_port now.world.ports at.port.id.0) made none (ap (step now) at.is ∙ stepped))
      by_of (inr (inr of)) = same_Some made.session session (sym asker ∙ of.asker now)

-- so it is of the session that makes it
pub whose-task : {s : SessionState} {w : Knowing} {ask : Ask} → IsThere None s → (m : Makes s.fixed s.knows w ask) → TaskCall s.own (record { 0 = s.id }) ask → m.session ≡ s.id
whose-task {s} {w} {ask} t m call =
    let pool = s.fixed.pool in
    let past = earlier w.seen in
    let b = between s.id m t.come t.speaks in
    let side = subst (λ (o : Own). IsSoundSideOf pool s.id None o s.own) (sym (same-own b)) t.side in
    let out = has-made (step (standing_of pool past) ask) m.session m.reply m.steps in
    sym out.session_is ∙ by-call pool past s.id s.own (record { legal = (last m).legal; of = side }) ask out.made call out.is
