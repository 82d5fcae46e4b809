-- The exchange of pushed slots over the ports of a session.
use Rattle.std.proofs.Common.{ℕ, zero, suc, ◌<◌, ◌≡◌, ◌==◌, List, [], ◌∷◌, ◌++◌, map, fold, flat_map, length, get_or, Option, Some, None, option_map, refl, sym, ◌∙◌, ap, ap₂, arith, inl, inr}
use Rattle.std.specs.Prelude.{find}
use Rattle.std.specs.Option.{option_map_or}
use Rattle.std.specs.List.{AllByRecursion as Each}
use Rattle.std.proofs.lemmas.Bool.{cases_Bool}
use Rattle.std.proofs.lemmas.List.{map-append}
use Rattle.nm_types.specs.declared.id.Side.{Side}
use Rattle.nm_types.specs.declared.id.Side.TheVariants.{Tx, Rx}
use Rattle.nm_types.specs.Slots.{Pushed}
use Rattle.nm_types.specs.Exchange.{swapped}
use Rattle.nm_types.specs.OwnPorts.{OwnRing, OwnPort, ring_on, buffers_in, held_if, index_of, buffer_in}
use Rattle.nm_types.specs.OwnSyncs.{port_swapped, buffer_on, after_slot}
use Rattle.vale_own.proofs.Renaming.{renamed_by, renamed}

-- all places of a port with their buffers renamed
abbrev pub ring_renamed : (ℕ → ℕ) → OwnRing → OwnRing
ring_renamed g r = record r { held = map g r.held }

abbrev pub port_renamed : (ℕ → ℕ) → OwnPort → OwnPort
port_renamed g p = record p { tx = option_map (ring_renamed g) p.tx; rx = ring_renamed g p.rx; extra = map g p.extra }

map-twice : (f g : ℕ → ℕ) (xs : List ℕ) → map f (map g xs) ≡ map (λ (x : ℕ). f (g x)) xs
map-twice f g [] = refl
map-twice f g (x ∷ xs) = ap (λ (ys : List ℕ). f (g x) ∷ ys) (map-twice f g xs)

map-same : (xs : List ℕ) → map (λ (x : ℕ). x) xs ≡ xs
map-same [] = refl
map-same (x ∷ xs) = ap (λ (ys : List ℕ). x ∷ ys) (map-same xs)

ring-twice : (f g : ℕ → ℕ) (r : OwnRing) → ring_renamed f (ring_renamed g r) ≡ ring_renamed (λ (x : ℕ). f (g x)) r
ring-twice f g r = rw (map-twice f g r.held) refl

port-twice : (f g : ℕ → ℕ) (p : OwnPort) → port_renamed f (port_renamed g p) ≡ port_renamed (λ (x : ℕ). f (g x)) p
port-twice f g p = rw (tx p.tx, ring-twice f g p.rx, map-twice f g p.extra) refl
  where
    tx : (o : Option OwnRing) → option_map (ring_renamed f) (option_map (ring_renamed g) o) ≡ option_map (ring_renamed (λ (x : ℕ). f (g x))) o
    tx None = refl
    tx (Some r) = ap (λ (q : OwnRing). Some q) (ring-twice f g r)

ports-twice : (f g : ℕ → ℕ) (ports : List OwnPort) → map (port_renamed f) (map (port_renamed g) ports) ≡ map (port_renamed (λ (x : ℕ). f (g x))) ports
ports-twice f g [] = refl
ports-twice f g (p ∷ ports) = ap₂ (λ (q : OwnPort) (qs : List OwnPort). q ∷ qs) (port-twice f g p) (ports-twice f g ports)

port-same : (p : OwnPort) → port_renamed (λ (x : ℕ). x) p ≡ p
port-same p = rw (tx p.tx, map-same p.rx.held, map-same p.extra) refl
  where
    tx : (o : Option OwnRing) → option_map (ring_renamed (λ (x : ℕ). x)) o ≡ o
    tx None = refl
    tx (Some r) = ap (λ (held : List ℕ). Some (record r { held = held })) (map-same r.held)

ports-same : (ports : List OwnPort) → map (port_renamed (λ (x : ℕ). x)) ports ≡ ports
ports-same [] = refl
ports-same (p ∷ ports) = ap₂ (λ (q : OwnPort) (qs : List OwnPort). q ∷ qs) (port-same p) (ports-same ports)

-- the buffers in all places
pub buffers-renamed : (g : ℕ → ℕ) (ports : List OwnPort) → flat_map buffers_in (map (port_renamed g) ports) ≡ map g (flat_map buffers_in ports)
buffers-renamed g [] = refl
buffers-renamed g (p ∷ ports) = ap₂ (λ (xs ys : List ℕ). xs ++ ys) (here p.tx) (buffers-renamed g ports) ∙ sym (map-append g (buffers_in p) (flat_map buffers_in ports))
  where
    here : (o : Option OwnRing) → held_if (option_map (ring_renamed g) o) ++ (map g p.rx.held ++ map g p.extra) ≡ map g (held_if o ++ (p.rx.held ++ p.extra))
    here None = sym (map-append g p.rx.held p.extra)
    here (Some r) = ap (λ (xs : List ℕ). map g r.held ++ xs) (sym (map-append g p.rx.held p.extra)) ∙ sym (map-append g r.held (p.rx.held ++ p.extra))

-- a place of the ring on a side of the port that is found
pub get-mapped : (g : ℕ → ℕ) (xs : List ℕ) (i : ℕ) → i < length xs → get_or (map g xs) i 0 ≡ g (get_or xs i 0)
get-mapped g [] i below = absurd (omega arith)
get-mapped g (x ∷ xs) zero below = refl
get-mapped g (x ∷ xs) (suc i) below = get-mapped g xs i (omega arith)

pub buffer-renamed : (side : Side) (id at : ℕ) (ports : List OwnPort) (p : OwnPort) (r : OwnRing) (g : ℕ → ℕ) → find (λ (q : OwnPort). q.id.0 == id) ports ≡ Some p → ring_on side p ≡ Some r
    → index_of side r.ring at < length r.held → buffer_on side id (map (port_renamed g) ports) at ≡ g (buffer_in side r at)
buffer-renamed side id at [] p r g found has below = absurd cc
buffer-renamed side id at (q ∷ ports) p r g found has below = elim (cases_Bool (q.id.0 == id)) [
  | inl here ↦ (let is : q ≡ p = (let first : Some q ≡ Some p = rw here at found in cc) in
      let on : ring_on side q ≡ Some r = ap (ring_on side) is ∙ has in
      rw here (on_side side on below))
  | inr other ↦ rw other (buffer-renamed side id at ports p r g (rw other at found) has below)
]
  where
    on_side : (s : Side) → ring_on s q ≡ Some r → index_of s r.ring at < length r.held → option_map_or (λ (t : OwnRing). buffer_in s t at) (ring_on s (port_renamed g q)) 0 ≡ g (buffer_in s r at)
    on_side Tx e inside = let tx : q.tx ≡ Some r = e in rw tx (get-mapped g r.held at inside)
    on_side Rx e inside = let rx : q.rx ≡ r = cc in rw rx (get-mapped g r.held (index_of Rx r.ring at) inside)

pub exchange-is : (side : Side) (id : ℕ) (g : ℕ → ℕ) (ports : List OwnPort) (pushed : List Pushed)
    → Each (λ (x : Pushed). (f : ℕ → ℕ) → buffer_on side id (map (port_renamed f) ports) x.at ≡ f x.was) pushed
    → fold (after_slot side id) (map (port_renamed g) ports) pushed ≡ map (port_renamed (renamed g pushed)) ports
exchange-is side id g ports [] there = refl
exchange-is side id g ports (x ∷ pushed) there =
    ap (λ (now : List OwnPort). fold (after_slot side id) now pushed) (ap (λ (was : ℕ). map (port_swapped was x.slot.buf_idx) (map (port_renamed g) ports)) (there.0 g) ∙ ports-twice (λ (b : ℕ). swapped (g x.was) x.slot.buf_idx b) g ports)
    ∙ exchange-is side id (renamed_by g x) ports pushed there.1

pub exchange-whole : (side : Side) (id : ℕ) (ports : List OwnPort) (pushed : List Pushed)
    → Each (λ (x : Pushed). (f : ℕ → ℕ) → buffer_on side id (map (port_renamed f) ports) x.at ≡ f x.was) pushed
    → fold (after_slot side id) ports pushed ≡ map (port_renamed (renamed (λ (x : ℕ). x) pushed)) ports
exchange-whole side id ports pushed there =
    ap (λ (now : List OwnPort). fold (after_slot side id) now pushed) (sym (ports-same ports)) ∙ exchange-is side id (λ (x : ℕ). x) ports pushed there
