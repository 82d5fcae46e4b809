-- The read of a port: a sync, or at a pipe's end a get.
use Rattle.std.proofs.Common.{ℕ, ◌≡◌, ◌≤◌, ◌<◌, Bool, true, false, List, length, Some, Result, Ok, Err, OnOk, IfOk, refl, sym, subst}
use Rattle.std.specs.Prelude.{option_map}
use Rattle.nm_types.specs.Limits.{most_pool, most_ring}
use Rattle.nm_types.specs.declared.id.PortId.{PortId}
use Rattle.nm_turn.specs.Numbered.{Stands}
use Rattle.vale_line.specs.Gots.{IsCut, frames_in}
use Rattle.vale_line.proofs.CutLemmas.{cut-tells}
use Rattle.vale_entry.specs.declared.entry.Reply.{Reply}
use Rattle.vale_entry.specs.declared.entry.Reply.TheVariants.{Gave}
use Rattle.vale_entry.specs.Delivery.{delivered_frames}
use Rattle.vale_entry.specs.World.{Port, open_port}
use Rattle.vale_entry.specs.Legal.{Standing, Outcome, can_get, can_sync, reply_of, reply_to, step, sync_step}
use Rattle.vale_own.specs.Asker.{is_enter}
use Rattle.vale_parts.specs.Batches.{dests_wanted}
use Rattle.vale_port.specs.Kept.{bytes_of}
use Rattle.vale_steps.specs.declared.reading.Synced.{Synced}
use Rattle.vale_book.specs.Reading.{read_ask, IsGiven, IsOffered}
use Rattle.vale_book.specs.Recorded.{Recorded, standing}
use Rattle.vale_fabric.specs.declared.kept.Fixed.{Fixed}
use Rattle.vale_fabric.specs.Fabrics.{Knowing, MayAsk, before_in}
use Rattle.vale_fabric.specs.Reading.{IsRead}
use Rattle.vale_fabric.specs.Settling.{IsAtHand}
use Rattle.vale_fabric.specs.Steps.{IsPutBack, IsTaken}
use Rattle.vale_fabric.proofs.Acting.{Acts, acted}
use Rattle.vale_fabric.proofs.AtHand.{hand-on, reads-keep, reads-settled}
use Rattle.vale_fabric.proofs.Making.{answered}
use Rattle.vale_book.proofs.Said.{sought}
use Rattle.vale_fabric.proofs.Speaking.{speaks-on}

pub no-enter : (pipe : Bool) (at : PortId) (back : List ℕ) → is_enter (read_ask pipe at back) ≡ false
no-enter true at back = refl
no-enter false at back = refl

pub read-said : (pipe : Bool) (s : Standing) (at : PortId) (back : List ℕ) (reply : Reply) → reply_to s (read_ask pipe at back) ≡ Some reply → option_map reply_of (step s (read_ask pipe at back)) ≡ Some reply
read-said true s at back reply said = said
read-said false s at back reply said = said

-- it is of an open port
pub read-port : (pipe : Bool) (s : Standing) (at : PortId) (back : List ℕ) (made : Outcome) → step s (read_ask pipe at back) ≡ Some made → (port : Port) × (open_port s.world.ports at.0 ≡ Some port)
read-port true s at back made is = sought (can_get s back) (sync_step s back) (open_port s.world.ports at.0) made is
read-port false s at back made is = sought (can_sync s back) (sync_step s back) (open_port s.world.ports at.0) made is

abbrev pub gave : Synced → Reply
gave synced = Gave (length (frames_in synced.got.items)) (dests_wanted synced.offers.wants)

module _ {fixed : Fixed} {v entered w : Knowing} {b after : Recorded} (pipe : Bool) (at : PortId) (back : List ℕ) (may : MayAsk fixed v (read_ask pipe at back)) (taken : IsTaken fixed v entered b)
    (left : IsPutBack entered w after) where
  pub read-speaks : (synced : Synced) → Acts b after (read_ask pipe at back) → IsOffered b after at synced.offers → 1 ≤ length synced.offers.wants → Stands synced.offers.session w.mine
  read-speaks synced acts offers some =
      let port = read-port pipe (standing b) at back acts.steps.makes acts.steps.is in
      let given = offers port.0 port.1 in
      speaks-on synced.offers may taken (no-enter pipe at back) acts left given.stand given.entry some

  read-hand : (synced : Synced) (acts : Acts b after (read_ask pipe at back)) → fixed.pool ≤ most_pool → IsGiven b at synced.got.items → IsOffered b after at synced.offers → 1 ≤ length synced.offers.wants
      → IsAtHand fixed w synced.offers (frames_in synced.got.items)
  read-hand synced acts low got offers some =
      let port = read-port pipe (standing b) at back acts.steps.makes acts.steps.is in
      let given = offers port.0 port.1 in
      hand-on synced.offers (frames_in synced.got.items) may low taken (no-enter pipe at back) acts left
      (record { frames = delivered_frames port.0; stand = record { stand = given.stand; frames_are = given.frames_are }; bytes_are = sym (cut-tells (bytes_of (delivered_frames port.0)) synced.got.items (got port.0 port.1).parts).are }) given.entry
      (reads-settled may.session pipe at back) (reads-keep (standing b) pipe at back acts.steps.makes.reply) some

  pub read-on : {E : Type 0} (r : Result Synced E) → fixed.pool ≤ most_pool → OnOk r (Acts b after (read_ask pipe at back)) → IfOk r (λ (x : Synced). reply_to (standing b) (read_ask pipe at back) ≡ Some (gave x))
      → IfOk r (λ (x : Synced). IsGiven b at x.got.items) → IfOk r (λ (x : Synced). IsCut x.got.items) → IfOk r (λ (x : Synced). length x.got.items < most_ring)
      → IfOk r (λ (x : Synced). IsOffered b after at x.offers) → IfOk r (IsRead fixed v w (read_ask pipe at back) at)
  read-on (Ok synced) low acts said got cut few offers =
      let m = acted taken left acts in
      record {
        made = answered m (read-said pipe (standing b) at back (gave synced) said);
        got = subst (λ (x : Recorded). IsGiven x at synced.got.items) (sym m.was) got;
        cut = cut;
        few = few;
        offers = subst (λ (new : Recorded). IsOffered (before_in fixed w) new at synced.offers) (sym m.now) (subst (λ (old : Recorded). IsOffered old after at synced.offers) (sym m.was) offers);
        hand = read-hand synced acts low got offers;
      }
  read-on (Err e) low acts said got cut few offers = tt
