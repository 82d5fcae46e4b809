-- Ports that are each changed by one function, which keeps what is asked of a port.
use Rattle.std.proofs.Common.{ℕ, ◌≡◌, Bool, true, false, nat_eq, if◌then◌else◌, List, [], ◌∷◌, length, map, refl, sym, ◌∙◌, ap}
use Rattle.std.specs.declared.vec.Vec.{Vec}
use Rattle.std.specs.Vec.{with_items}
use Rattle.std.proofs.lemmas.List.{with_items_is, length-map}
use Rattle.nm_types.specs.declared.id.Side.TheVariants.{Rx}
use Rattle.nm_types.specs.declared.place.Place.{Place}
use Rattle.nm_types.specs.Positions.{IsRing}
use Rattle.nm_hold.specs.Holds.{HoldState}
use Rattle.nm_port.specs.declared.port.UserPort.{UserPort}
use Rattle.nm_port.specs.Own.{named_places_of, named_places, is_filled, is_filled_in, places_of_port, AreSided, AreRings, AreFlagged, IsTxSide, IsRingIf, HasBackRoom, HaveBackRoom}
use Rattle.nm_own.specs.declared.own.OwnSide.TheInside.{Inside}
use Rattle.nm_own.specs.Kept.{IsKept}
use Rattle.nm_own.proofs.OnePort.{changed_if}

-- a vector whose elements were each changed
pub changed_over : {X Z : Type 0} (v : Vec X Z) (f : X → X) (now : List X) → now ≡ map f v.items → (with_items v now).items ≡ map f v.items
changed_over v f now are = with_items_is v now (ap (λ xs. length xs) are ∙ (length-map v.items f ∙ sym (v.ok.0))) ∙ are

-- a change of a port that keeps its sides and its places
pub record KeepsPlaces (f : UserPort → UserPort) : Type 0 where
  pub sided : (p : UserPort) → IsTxSide p.tx × (p.rx.side ≡ Rx) → IsTxSide (f p).tx × ((f p).rx.side ≡ Rx)
  pub places : (p : UserPort) → places_of_port (f p) ≡ places_of_port p
  pub filled : (q : Place) (p : UserPort) → is_filled_in q (f p) ≡ is_filled_in q p
  pub back : (p : UserPort) → HasBackRoom p → HasBackRoom (f p)

-- a change that also keeps its rings, and the places whose buffers the user may name
pub record KeepsPort (f : UserPort → UserPort) : Type 0 where
  pub stays : KeepsPlaces f
  pub rings : (p : UserPort) → IsRingIf p.tx × IsRing p.rx.ring → IsRingIf (f p).tx × IsRing (f p).rx.ring
  pub named : (p : UserPort) → named_places_of (f p) ≡ named_places_of p

-- the change of one port keeps as much
either : (P : UserPort → Type 0) (b : Bool) (x y : UserPort) → P x → P y → P (if b then x else y)
either P true x y one two = one
either P false x y one two = two

module _ (id : ℕ) (f : UserPort → UserPort) where
  pub keeps_places_if : KeepsPlaces f → KeepsPlaces (changed_if id f)
  keeps_places_if keeps = record {
    sided = λ p is. either (λ (x : UserPort). IsTxSide x.tx × (x.rx.side ≡ Rx)) (nat_eq p.id.0 id) (f p) p (keeps.sided p is) is;
    places = λ p. either (λ (x : UserPort). places_of_port x ≡ places_of_port p) (nat_eq p.id.0 id) (f p) p (keeps.places p) refl;
    filled = λ q p. either (λ (x : UserPort). is_filled_in q x ≡ is_filled_in q p) (nat_eq p.id.0 id) (f p) p (keeps.filled q p) refl;
    back = λ p room. either HasBackRoom (nat_eq p.id.0 id) (f p) p (keeps.back p room) room;
  }

  pub keeps_port_if : KeepsPort f → KeepsPort (changed_if id f)
  keeps_port_if keeps = record {
    stays = keeps_places_if keeps.stays;
    rings = λ p are. either (λ (x : UserPort). IsRingIf x.tx × IsRing x.rx.ring) (nat_eq p.id.0 id) (f p) p (keeps.rings p are) are;
    named = λ p. either (λ (x : UserPort). named_places_of x ≡ named_places_of p) (nat_eq p.id.0 id) (f p) p (keeps.named p) refl;
  }

-- what holds of the ports
pub sided_by : {f : UserPort → UserPort} → KeepsPlaces f → (ports : List UserPort) → AreSided ports → AreSided (map f ports)
sided_by keeps [] sided = tt
sided_by keeps (p ∷ ports) sided = (keeps.sided p sided.0, sided_by keeps ports sided.1)

pub places_by : {f : UserPort → UserPort} → KeepsPlaces f → (ports : List UserPort) → map places_of_port (map f ports) ≡ map places_of_port ports
places_by keeps [] = refl
places_by keeps (p ∷ ports) = rw (keeps.places p, places_by keeps ports) refl

pub filled_by : {f : UserPort → UserPort} → KeepsPlaces f → (ports : List UserPort) (q : Place) → is_filled (map f ports) q ≡ is_filled ports q
filled_by keeps [] q = refl
filled_by keeps (p ∷ ports) q = rw (keeps.filled q p, filled_by keeps ports q) refl

pub back_by : {f : UserPort → UserPort} → KeepsPlaces f → (ports : List UserPort) → HaveBackRoom ports → HaveBackRoom (map f ports)
back_by keeps [] have = tt
back_by keeps (p ∷ ports) have = (keeps.back p have.0, back_by keeps ports have.1)

pub rings_by : {f : UserPort → UserPort} → KeepsPort f → (ports : List UserPort) → AreRings ports → AreRings (map f ports)
rings_by keeps [] rings = tt
rings_by keeps (p ∷ ports) rings = (keeps.rings p rings.0, rings_by keeps ports rings.1)

named_by : {f : UserPort → UserPort} → KeepsPort f → (ports : List UserPort) → named_places (map f ports) ≡ named_places ports
named_by keeps [] = refl
named_by keeps (p ∷ ports) = rw (keeps.named p, named_by keeps ports) refl

pub flagged_by : {f : UserPort → UserPort} → KeepsPort f → (h : HoldState) (ports : List UserPort) → AreFlagged h ports → AreFlagged h (map f ports)
flagged_by keeps h ports flagged i s there = rw (named_by keeps ports) (flagged i s there)

-- what holds of the fields of an own side
pub kept_by : {f : UserPort → UserPort} → KeepsPort f → (o new : Inside) → IsKept o → new.hold ≡ o.hold → new.ports.items ≡ map f o.ports.items → new.marks ≡ o.marks → IsKept new
kept_by keeps o new kept hold_is ports_are marks_are =
    let ports = o.ports.items in
    record {
      sided = rw ports_are (sided_by keeps.stays ports kept.sided);
      rings = rw ports_are (rings_by keeps ports kept.rings);
      flagged = rw (hold_is, ports_are) (flagged_by keeps o.hold ports kept.flagged);
      hold = rw hold_is kept.hold;
      places = rw (hold_is, ports_are) (kept.places ∙ sym (places_by keeps.stays ports));
      filled = rw (hold_is, ports_are) (λ q. kept.filled q ∙ sym (filled_by keeps.stays ports q));
      whole = rw hold_is kept.whole;
      blank = rw (marks_are, hold_is) kept.blank;
      back = rw ports_are (back_by keeps.stays ports kept.back);
    }
