-- One of the user's slots that is lent to be written: over the list of ports, and over what is seen.
use Rattle.std.proofs.Common.{ℕ, suc, ◌≡◌, ◌<◌, ◌↔◌, nat_eq, List, [], ◌∷◌, map, set, Option, Some, None, inl, inr, refl, sym, ◌∙◌, ap, subst, arith, MutBor}
use mathlib.Core.Option.{Option as Maybe, none, some}
use mathlib.Core.Path.{fun_ext}
use borrow.Follows.Closed.{read_of}
use base.Fml.{GName}
use Rattle.std.specs.Prelude.{slice_get, slice_index_or, IfSome, IsSome, option_and_then, option_map}
use Rattle.std.specs.Option.{option_map_or}
use Rattle.std.proofs.lemmas.Bool.{cases_Bool}
use Rattle.std.proofs.lemmas.List.{set-get_or}
use Rattle.std.proofs.lemmas.Option.{slice_get_read, slice_get_cases, get_or_from_slice_get}
use Rattle.std.specs.declared.vec.Vec.{Vec}
use Rattle.std.specs.declared.alloc.Global.{Global}
use Rattle.std.specs.Vec.{with_item}
use Rattle.nm_types.specs.declared.id.Side.{Side}
use Rattle.nm_types.specs.Slots.{SlotState}
use Rattle.nm_types.specs.OwnPorts.{OwnRing}
use Rattle.nm_types.specs.OwnEdits.{user_slot, user_slot_at}
use Rattle.nm_hold.specs.Offsets.{ArePortsOnce}
use Rattle.nm_hold.specs.Holds.{HoldState}
use Rattle.nm_hold.proofs.Spots.{nat_eq-is}
use Rattle.nm_own.specs.declared.edit.RingEdit.{RingEdit}
use Rattle.nm_own.specs.declared.edit.RingEdit.TheVariants.{Slot}
use Rattle.nm_own.specs.declared.own.OwnSide.TheInside.{Inside}
use Rattle.nm_own.specs.Kept.{IsKept}
use Rattle.nm_port.specs.declared.port.UserPort.{UserPort}
use Rattle.nm_port.specs.RingSlots.{RingSlots}
use Rattle.nm_port.specs.Own.{own_seen, port_at, places_of_port, ring_seen, slots_on, AreSided}
use Rattle.nm_own.specs.Edits.{port_edited, port_edited_if}
use Rattle.nm_own.specs.LentSlots.{with_port_in, index_of_port, slot_of_port}
use Rattle.nm_own.proofs.KeptPorts.{kept_by}
use Rattle.nm_own.proofs.Changing.{change_keeps}
use Rattle.nm_port.proofs.Checked.{slot_is_seen}
use Rattle.nm_port.proofs.PortOut.{rest_other, first_here, first_next}
use Rattle.nm_own.proofs.Editing.{edits_keep}
use Rattle.nm_own.proofs.OnePort.{changed_if, others_stay}
use Rattle.nm_port.proofs.Seeing.{ring_is_seen, side_of_found}

-- the port that is found is the one that is changed
pub lends_in : (ports : Vec UserPort Global) (index : ℕ) (p : UserPort) (side : Side) (at : ℕ) (name : Maybe GName) → slice_get ports.items index ≡ Some p
    → read_of name (λ (slot : SlotState). with_item ports index (port_edited side (Slot at slot) p)) (with_item ports index p)
    ≡ read_of name (λ (slot : SlotState). with_port_in ports index (port_edited side (Slot at slot))) (with_port_in ports index (λ (q : UserPort). q))
lends_in ports index p side at name e = rw e refl

-- what `get_mut` lends is the port at the place
pub found_there : (ports : Vec UserPort Global) (index : ℕ) (o : Option (MutBor UserPort)) (p : MutBor UserPort) → o ≡ Some p → IsSome o ↔ (index < ports.len) → IfSome o (λ x. x.now ≡ slice_index_or ports.items index x.now) → slice_get ports.items index ≡ Some p.now
found_there ports index o p is within value =
    let below : index < ports.len = (rw is at within).0 refl in
    slice_get_read ports.items ports.len index p.now ports.ok.0 below (rw is at value)

pub none_found : (ports : Vec UserPort Global) (index : ℕ) (o : Option (MutBor UserPort)) → o ≡ None → IsSome o ↔ (index < ports.len) → slice_get ports.items index ≡ None
none_found ports index o is within = elim (slice_get_cases ports.items index).1 [
  | inl found ↦ (let size = ports.ok.0 in let below = found.1 in absurd (no_some (rw is at (within.1 (omega (arith, size, below))))))
  | inr beyond ↦ beyond.1
]
  where
    no_some : IsSome {T = MutBor UserPort} None → ⊥
    no_some there = cc

pub lends_not : (ports : Vec UserPort Global) (index : ℕ) → slice_get ports.items index ≡ None → with_port_in ports index (λ (q : UserPort). q) ≡ ports
lends_not ports index e = rw e refl

-- a list whose element at a place is changed
abbrev pub changed_at : List UserPort → ℕ → (UserPort → UserPort) → List UserPort
changed_at xs k change = option_map_or (λ (p : UserPort). set xs k (change p)) (slice_get xs k) xs

items_are : (ports : Vec UserPort Global) (k : ℕ) (change : UserPort → UserPort) → (with_port_in ports k change).items ≡ changed_at ports.items k change
items_are ports k change = by_port (slice_get ports.items k)
  where
    by_port : (o : Option UserPort) → (option_map_or (λ (p : UserPort). with_item ports k (change p)) o ports).items ≡ option_map_or (λ (p : UserPort). set ports.items k (change p)) o ports.items
    by_port None = refl
    by_port (Some p) = refl

behind_one : (x : UserPort) (xs : List UserPort) (k : ℕ) (change : UserPort → UserPort) → changed_at (x ∷ xs) (suc k) change ≡ x ∷ changed_at xs k change
behind_one x xs k change = by_port (slice_get xs k)
  where
    by_port : (o : Option UserPort) → option_map_or (λ (p : UserPort). x ∷ set xs k (change p)) o (x ∷ xs) ≡ x ∷ option_map_or (λ (p : UserPort). set xs k (change p)) o xs
    by_port None = refl
    by_port (Some p) = refl

pub first_changed : (id : ℕ) (change : UserPort → UserPort) (xs : List UserPort) → ArePortsOnce (map places_of_port xs) → changed_at xs (index_of_port id xs) change ≡ map (changed_if id change) xs
first_changed id change [] once = refl
first_changed id change (x ∷ xs) once = elim (cases_Bool (nat_eq x.id.0 id)) [
  | inl here ↦ ap (λ (k : ℕ). changed_at (x ∷ xs) k change) (first_here id x xs here)
      ∙ rw here (ap (λ (ys : List UserPort). change x ∷ ys) (sym (others_stay id change xs (rest_other xs id (rw (nat_eq-is x.id.0 id here) at once.0)))))
  | inr other ↦ ap (λ (k : ℕ). changed_at (x ∷ xs) k change) (first_next id x xs other)
      ∙ (behind_one x xs (index_of_port id xs) change ∙ rw other (ap (λ (ys : List UserPort). x ∷ ys) (first_changed id change xs once.1)))
]

-- the port of an id is changed where it stands
pub ports_changed : (id : ℕ) (change : UserPort → UserPort) (ports : Vec UserPort Global) → ArePortsOnce (map places_of_port ports.items) → (with_port_in ports (index_of_port id ports.items) change).items ≡ map (changed_if id change) ports.items
ports_changed id change ports once = items_are ports (index_of_port id ports.items) change ∙ first_changed id change ports.items once

pub ports_same : (ports : Vec UserPort Global) (k : ℕ) → (with_port_in ports k (λ (p : UserPort). p)).items ≡ ports.items
ports_same ports k = items_are ports k (λ (p : UserPort). p) ∙ by_port (slice_get ports.items k) refl
  where
    by_port : (o : Option UserPort) → slice_get ports.items k ≡ o → option_map_or (λ (p : UserPort). set ports.items k p) o ports.items ≡ ports.items
    by_port None e = refl
    by_port (Some p) e = ap (λ (q : UserPort). set ports.items k q) (sym (get_or_from_slice_get ports.items k p p e)) ∙ set-get_or ports.items k p

-- and it is the port that is found
pub first_is : (id : ℕ) (xs : List UserPort) → slice_get xs (index_of_port id xs) ≡ port_at xs id
first_is id [] = refl
first_is id (x ∷ xs) = elim (cases_Bool (nat_eq x.id.0 id)) [
  | inl here ↦ ap (λ (k : ℕ). slice_get (x ∷ xs) k) (first_here id x xs here) ∙ rw here refl
  | inr other ↦ ap (λ (k : ℕ). slice_get (x ∷ xs) k) (first_next id x xs other) ∙ rw other (first_is id xs)
]

-- the list of ports of an own side, once a slot of the port is written
pub slot_edited : (o : Inside) → IsKept o → (id k : ℕ) (side : Side) (at : ℕ) → k ≡ index_of_port id o.ports.items → (slot : SlotState)
    → (with_port_in o.ports k (port_edited side (Slot at slot))).items ≡ map (port_edited_if id side (Slot at slot)) o.ports.items
slot_edited o kept id k side at is slot =
    ap (λ (n : ℕ). (with_port_in o.ports n (port_edited side (Slot at slot))).items) is ∙ ports_changed id (port_edited side (Slot at slot)) o.ports (subst ArePortsOnce kept.places kept.hold.once)

-- an edit of the port of an id keeps what holds of the fields
pub kept_edited : (o : Inside) (ports : Vec UserPort Global) (id : ℕ) (side : Side) (edit : RingEdit) → IsKept o → ports.items ≡ map (port_edited_if id side edit) o.ports.items → IsKept (record o { ports = ports })
kept_edited o ports id side edit kept are = kept_by (change_keeps (edits_keep o.hold side edit) id) o (record o { ports = ports }) kept refl are refl

-- and so does the same list
pub kept_same : (o : Inside) (ports : Vec UserPort Global) → IsKept o → ports.items ≡ o.ports.items → IsKept (record o { ports = ports })
kept_same o ports kept same = record {
  sided = rw same kept.sided;
  rings = rw same kept.rings;
  flagged = rw same kept.flagged;
  hold = kept.hold;
  places = rw same kept.places;
  filled = rw same kept.filled;
  whole = kept.whole;
  blank = kept.blank;
  back = rw same kept.back;
}

-- its slot is seen as the user's
pub user_slot_found : (h : HoldState) (ports : List UserPort) (side : Side) (id at : ℕ) → AreSided ports
    → option_and_then (slot_of_port side at) (slice_get ports (index_of_port id ports)) ≡ user_slot_at side (own_seen h ports) id at
user_slot_found h ports side id at sided =
    ap (option_and_then (slot_of_port side at)) (first_is id ports) ∙ (by_port (port_at ports id) refl ∙ sym (ap (option_and_then (λ (r : OwnRing). user_slot side r at)) (ring_is_seen h ports side id)))
  where
    by_port : (o : Option UserPort) → port_at ports id ≡ o
        → option_and_then (slot_of_port side at) o ≡ option_and_then (λ (r : OwnRing). user_slot side r at) (option_and_then (λ (p : UserPort). option_map (ring_seen h p.id) (slots_on side p)) o)
    by_port None e = refl
    by_port (Some p) e = by_ring (slots_on side p) refl
      where
        by_ring : (o : Option RingSlots) → slots_on side p ≡ o → slot_of_port side at p ≡ option_and_then (λ (r : OwnRing). user_slot side r at) (option_map (ring_seen h p.id) o)
        by_ring None on = rw on refl
        by_ring (Some r) on = rw on (slot_is_seen h p.id side r at (side_of_found ports side id p r sided e on))

-- what is lent under a name, or is not, ends alike
pub ends_alike : {D E : Type 0} (name : Maybe GName) (f g : E → D) (v u : D) → ((w : E) → f w ≡ g w) → v ≡ u → read_of name f v ≡ read_of name g u
ends_alike none f g v u each e = ap (λ d. inr d) e
ends_alike {D} {E} (some γ) f g v u each e = ap (λ (h : E → D). inl (γ, h)) (fun_ext each)
