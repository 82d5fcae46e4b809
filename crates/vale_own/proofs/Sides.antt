-- Ports and what is held for them side by side, as both change.
use Rattle.std.proofs.Common.{ℕ, ◌≡◌, Bool, true, false, not, ◌==◌, List, [], ◌∷◌, ◌++◌, map, filter, length, refl, sym, ap, arith}
use Rattle.std.specs.List.{AllByRecursion as Each, zip}
use Rattle.std.proofs.lemmas.List.{length-map}
use Rattle.nm_types.specs.Frames.{size_of_frames}
use Rattle.vale_entry.specs.World.{Port, Lot}
use Rattle.vale_entry.specs.Closing.{ports_without}
use Rattle.vale_entry.specs.Holdings.{PortBuffers, PortAgrees, PortsAgree}

pub zip-none : {X Y : Type 0} (xs : List X) → zip {K = X} {X = Y} xs [] ≡ []
zip-none [] = refl
zip-none (x ∷ xs) = refl

pub zip-maps : {X Y : Type 0} (f : X → X) (g : Y → Y) (xs : List X) (ys : List Y) → zip (map f xs) (map g ys) ≡ map (λ (at : X × Y). (f at.0, g at.1)) (zip xs ys)
zip-maps f g [] ys = refl
zip-maps f g (x ∷ xs) [] = refl
zip-maps f g (x ∷ xs) (y ∷ ys) = let rest = zip-maps f g xs ys in cc

pub zip-map : {X Y : Type 0} (f : X → X) (xs : List X) (ys : List Y) → zip (map f xs) ys ≡ map (λ (at : X × Y). (f at.0, at.1)) (zip xs ys)
zip-map f [] ys = refl
zip-map f (x ∷ xs) [] = refl
zip-map f (x ∷ xs) (y ∷ ys) = let rest = zip-map f xs ys in cc

pub zip-pushed : {X Y : Type 0} (xs : List X) (ys : List Y) (x : X) (y : Y) → length xs ≡ length ys → zip (xs ++ x ∷ []) (ys ++ y ∷ []) ≡ zip xs ys ++ (x, y) ∷ []
zip-pushed [] [] x y same = refl
zip-pushed [] (w ∷ ws) x y same = absurd (omega arith)
zip-pushed (z ∷ zs) [] x y same = absurd (omega arith)
zip-pushed (z ∷ zs) (w ∷ ws) x y same = let rest = zip-pushed zs ws x y (omega arith) in cc

pub each-zip : {X Y : Type 0} (P : X → Type 0) (xs : List X) (ys : List Y) → Each P xs → Each (λ (at : X × Y). P at.0) (zip xs ys)
each-zip P [] ys all = tt
each-zip P (x ∷ xs) [] all = tt
each-zip P (x ∷ xs) (y ∷ ys) all = (all.0, each-zip P xs ys all.1)

-- ports that agree with what is held for them
abbrev pub Agreed : Port × PortBuffers → Type 0
Agreed at = PortAgrees at.0 at.1

pub agreed : (ports : List Port) (helds : List PortBuffers) → PortsAgree ports helds → Each Agreed (zip ports helds)
agreed [] helds a = tt
agreed (port ∷ ports) [] a = absurd a
agreed (port ∷ ports) (held ∷ helds) a = (a.0, agreed ports helds a.1)

pub agreed-length : (ports : List Port) (helds : List PortBuffers) → PortsAgree ports helds → length ports ≡ length helds
agreed-length [] [] a = refl
agreed-length [] (held ∷ helds) a = absurd a
agreed-length (port ∷ ports) [] a = absurd a
agreed-length (port ∷ ports) (held ∷ helds) a = let rest = agreed-length ports helds a.1 in omega arith

-- a port has as many lots as are held for it
pub agreed-lots : (port : Port) (held : PortBuffers) → PortAgrees port held → length port.line ≡ length held.lots
agreed-lots port held a =
    let lots = ap length a.lots in
    let one = length-map held.lots (λ (list : List ℕ). length list) in
    let two = length-map port.line (λ (lot : Lot). size_of_frames lot.frames) in
    omega (lots, one, two, arith)

-- a port and what is held for it go together
pub zip-without : (id : ℕ) (ports : List Port) (helds : List PortBuffers) → PortsAgree ports helds
    → zip (ports_without id ports) (filter (λ (held : PortBuffers). not (held.port == id)) helds) ≡ filter (λ (at : Port × PortBuffers). not (at.0.id == id)) (zip ports helds)
zip-without id [] helds a = refl
zip-without id (port ∷ ports) [] a = absurd a
zip-without id (port ∷ ports) (held ∷ helds) a = by (port.id == id) (ap (λ (k : ℕ). k == id) a.0.id) refl (zip-without id ports helds a.1)
  where
    by : (b : Bool) → (held.port == id) ≡ b → (b ≡ (port.id == id)) → zip (ports_without id ports) (filter (λ (h : PortBuffers). not (h.port == id)) helds) ≡ filter (λ (at : Port × PortBuffers). not (at.0.id == id)) (zip ports helds)
        → zip (ports_without id (port ∷ ports)) (filter (λ (h : PortBuffers). not (h.port == id)) (held ∷ helds)) ≡ filter (λ (at : Port × PortBuffers). not (at.0.id == id)) (zip (port ∷ ports) (held ∷ helds))
    by true h p rest = rw (h, sym p) rest
    by false h p rest = rw (h, sym p) (ap (λ (ats : List (Port × PortBuffers)). (port, held) ∷ ats) rest)
