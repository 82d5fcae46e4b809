-- What a user writes on its own side between its calls.
use Rattle.std.proofs.Common.{ℕ, ◌≡◌, List, take, Option, Some, None, option_map, refl, sym, ap, subst, ◌∙◌}
use Rattle.nm_types.specs.OwnPorts.{OwnState}
use Rattle.nm_types.specs.declared.id.Side.{Side}
use Rattle.nm_types.specs.Slots.{SlotState}
use Rattle.nm_types.specs.OwnEdits.{with_user_slot, with_written}
use Rattle.nm_own.specs.LentSlots.{side_with_slot}
use Rattle.nm_port.specs.Regions.{SideState, AllOf}
use Rattle.nm_own.specs.WrittenBytes.{side_written}
use Rattle.vale_own.specs.Own.{own_of}
use Rattle.vale_own.specs.SideEdits.{KeepsSides}
use Rattle.vale_own.proofs.SideEditing.{edits-keep}
use Rattle.nm_turn.specs.declared.pass.Pass.{Pass}
use Rattle.vale_entry.specs.declared.entry.Entry.{Entry}
use Rattle.vale_book.specs.Recorded.{Recorded}
use Rattle.vale_fabric.specs.declared.kept.Fixed.{Fixed}
use Rattle.vale_fabric.specs.Fabrics.{IsPassIn, fixed_in, knowing}
use Rattle.nm_user.specs.declared.session.Session.TheInside.{Inside}
use Rattle.nm_user.specs.Sessions.{SessionState, IsThere, IsSession, standing_seen, session_seen, own_in}

pub there-edited : {shut : Option ℕ} {s : SessionState} (edit : OwnState → OwnState) → KeepsSides edit → IsThere shut s → IsThere shut (record s { own = edit s.own })
there-edited {shut} {s} edit keeps t = record {
  come = t.come;
  speaks = t.speaks;
  legal = t.legal;
  side = keeps s.fixed.pool s.id shut (own_of s.id (standing_seen s.fixed s.knows)) s.own t.side;
  settled = t.settled;
}

-- a session with what this own side has
abbrev pub seen_with : Inside → SideState → SessionState
seen_with i side = record (session_seen i) { own = side.own }

-- a session stays one whose pass alone went on
pub session-passed : {i : Inside} {pass : Pass Recorded Entry Fixed} → IsSession i → IsPassIn i.fabric.now pass → IsThere None (record (session_seen i) { knows = knowing pass }) → IsSession (record i { pass = pass })
session-passed is of there = record { pass = of; own = is.own; own_is = is.own_is; region = is.region; there = there }

-- the buffers of its own side are of the fabric's region
pub region-of : (i : Inside) (was : SideState) → IsSession i → i.own ≡ Some was → AllOf (fixed_in i.fabric.now).region was
region-of i was is had =
    let own = is.own_is in
    let same : is.own ≡ was = cc in
    subst (AllOf (fixed_in i.fabric.now).region) same is.region

-- and stay so where what the session has is changed alone
pub region-kept : (i : Inside) (was new : SideState) (own : OwnState) → IsSession i → i.own ≡ Some was → new ≡ record was { own = own } → AllOf (fixed_in i.fabric.now).region new
region-kept i was new own is had made = subst (AllOf (fixed_in i.fabric.now).region) (sym made) (region-of i was is had)

-- so a session stays one whose own side was edited
pub session-edited : (i : Inside) (was new : SideState) (edit : OwnState → OwnState) → KeepsSides edit → IsSession i → i.own ≡ Some was → new ≡ record was { own = edit was.own } → IsSession (record i { own = Some new })
session-edited i was new edit keeps is had made = record {
  pass = is.pass;
  own = new;
  own_is = refl;
  region = region-kept i was new (edit was.own) is had made;
  there = subst (λ (o : OwnState). IsThere None (record (session_seen i) { own = o })) (ap (λ (o : Option SideState). edit (own_in o)) had ∙ sym (ap (λ (side : SideState). side.own) made)) (there-edited edit keeps is.there);
}

-- the same of a session whose own side is there, and was lent to be edited
pub session-by : (i : Inside) → IsSession i → (change : SideState → SideState) (edit : OwnState → OwnState) → KeepsSides edit → ((side : SideState) → change side ≡ record side { own = edit side.own })
    → IsSession (record i { own = option_map change i.own })
session-by i is change edit keeps made =
    subst (λ (o : Option SideState). IsSession (record i { own = o })) (sym (ap (option_map change) is.own_is)) (session-edited i is.own (change is.own) edit keeps is is.own_is (made is.own))

pub session-lent : (i : Inside) → IsSession i → (idx : ℕ) (bytes : List ℕ) → IsSession (record i { own = option_map (λ (s : SideState). side_written s idx bytes) i.own })
session-lent i is idx bytes = session-by i is (λ (s : SideState). side_written s idx bytes) (with_written idx (take 2048 bytes)) (edits-keep.written idx (take 2048 bytes)) (λ side. refl)

pub session-slot-lent : (i : Inside) → IsSession i → (side : Side) (id at : ℕ) (slot : SlotState) → IsSession (record i { own = option_map (λ (s : SideState). side_with_slot s side id at slot) i.own })
session-slot-lent i is side id at slot = session-by i is (λ (s : SideState). side_with_slot s side id at slot) (with_user_slot side id at slot) (edits-keep.user_slot side id at slot) (λ side. refl)
