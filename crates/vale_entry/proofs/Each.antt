-- What holds of each element of a list, as the list is mapped, cut or joined.
use Rattle.std.proofs.Common.{ℕ, zero, suc, ◌≡◌, Bool, true, false, cond, ◌||◌, List, [], ◌∷◌, ◌++◌, map, drop, find, Option, Some, refl, subst, ◌==◌, sum_by, take}
use Rattle.std.specs.List.{AllByRecursion as Each, list_any, cons_option}
use Rattle.std.proofs.lemmas.Bool.{or_parts}
use Rattle.nm_types.specs.Frames.{Frame}
use Rattle.vale_entry.specs.World.{Port, Offer, changed_if, changed_at}
use Rattle.vale_entry.specs.Offers.{offers_of, offer_to, is_offer_of}
use Rattle.vale_entry.specs.Grant.{without_first}
use Rattle.vale_entry.proofs.ListLaws.{sum-map_same}

pub each-weaker :
    {X : Type 0} (P Q : X → Type 0) → ((x : X) → P x → Q x) → (xs : List X) → Each P xs → Each Q xs
each-weaker P Q weaker [] all = tt
each-weaker P Q weaker (x ∷ xs) all = (weaker x all.0, each-weaker P Q weaker xs all.1)

-- two facts of each element together
pub each-both :
    {X : Type 0} (P Q R : X → Type 0) → ((x : X) → P x → Q x → R x) → (xs : List X) → Each P xs
    → Each Q xs → Each R xs
each-both P Q R joins [] ps qs = tt
each-both P Q R joins (x ∷ xs) ps qs = (joins x ps.0 qs.0, each-both P Q R joins xs ps.1 qs.1)

pub each-none :
    {X : Type 0} (test : X → Bool) (xs : List X) → list_any test xs ≡ false
    → Each (λ x. test x ≡ false) xs
each-none test [] e = tt
each-none test (x ∷ xs) e =
    let parts = or_parts (test x) (list_any test xs) e in
    (parts.0, each-none test xs parts.1)

pub each-append :
    {X : Type 0} (P : X → Type 0) (xs ys : List X) → Each P xs → Each P ys → Each P (xs ++ ys)
each-append P [] ys front back = back
each-append P (x ∷ xs) ys front back = (front.0, each-append P xs ys front.1 back)

pub each-map :
    {X Y : Type 0} (P : X → Type 0) (Q : Y → Type 0) (f : X → Y) → ((x : X) → P x → Q (f x))
    → (xs : List X) → Each P xs
    → Each Q (map f xs)
each-map P Q f keeps [] all = tt
each-map P Q f keeps (x ∷ xs) all = (keeps x all.0, each-map P Q f keeps xs all.1)

pub each-all : {X : Type 0} (P : X → Type 0) → ((x : X) → P x) → (xs : List X) → Each P xs
each-all P holds [] = tt
each-all P holds (x ∷ xs) = (holds x, each-all P holds xs)

pub each-unmap :
    {X Y : Type 0} (Q : Y → Type 0) (f : X → Y) (xs : List X) → Each Q (map f xs)
    → Each (λ x. Q (f x)) xs
each-unmap Q f [] all = tt
each-unmap Q f (x ∷ xs) all = (all.0, each-unmap Q f xs all.1)

pub each-image :
    {X Y : Type 0} (Q : Y → Type 0) (f : X → Y) (xs : List X) → Each (λ x. Q (f x)) xs
    → Each Q (map f xs)
each-image Q f [] all = tt
each-image Q f (x ∷ xs) all = (all.0, each-image Q f xs all.1)

pub each-take : {X : Type 0} (P : X → Type 0) (n : ℕ) (xs : List X) → Each P xs → Each P (take n xs)
each-take P zero xs all = tt
each-take P (suc n) [] all = tt
each-take P (suc n) (x ∷ xs) all = (all.0, each-take P n xs all.1)

pub each-drop : {X : Type 0} (P : X → Type 0) (n : ℕ) (xs : List X) → Each P xs → Each P (drop n xs)
each-drop P zero xs all = all
each-drop P (suc n) [] all = tt
each-drop P (suc n) (x ∷ xs) all = each-drop P n xs all.1

found_by :
    {X : Type 0} (P : X → Type 0) (y x : X) (rest : Option X) (b : Bool) → P y
    → (rest ≡ Some x → P x) → cond b (Some y) rest ≡ Some x → P x
found_by P y x rest true here later e = let same : y ≡ x = cc in subst P same here
found_by P y x rest false here later e = later e

pub each-find :
    {X : Type 0} (P : X → Type 0) (test : X → Bool) (xs : List X) (x : X) → Each P xs
    → find test xs ≡ Some x → P x
each-find P test [] x all e = absurd cc
each-find P test (y ∷ ys) x all e =
    found_by P y x (find test ys) (test y) all.0 (each-find P test ys x all.1) e

-- a change at one id
changed_if-is :
    {X : Type 0} (P : Port → X → Type 0) (see : Port → X) (b : Bool) (change : Port → Port)
    (port : Port)
    → P port (see port) → P port (see (change port)) → P port (see (changed_if b change port))
changed_if-is P see true change port old new = new
changed_if-is P see false change port old new = old

-- what a change keeps at each port
pub map-changed_at :
    {X : Type 0} (see : Port → X) (id : ℕ) (change : Port → Port)
    → ((port : Port) → see (change port) ≡ see port)
    → (ports : List Port) → map see (changed_at id change ports) ≡ map see ports
map-changed_at see id change keeps [] = refl
map-changed_at see id change keeps (port ∷ ports) =
    let here : see (changed_if (port.id == id) change port) ≡ see port =
    changed_if-is (λ p x. x ≡ see p) see (port.id == id) change port refl (keeps port) in
    let rest = map-changed_at see id change keeps ports in
    cc

pub changed_at-same :
    (id : ℕ) (change : Port → Port) → ((port : Port) → change port ≡ port) → (ports : List Port)
    → changed_at id change ports ≡ ports
changed_at-same id change same [] = refl
changed_at-same id change same (port ∷ ports) =
    let here : changed_if (port.id == id) change port ≡ port =
    changed_if-is (λ p q. q ≡ p) (λ (p : Port). p) (port.id == id) change port refl (same port) in
    let rest = changed_at-same id change same ports in
    cc

pub sum-changed_at :
    (f : Port → ℕ) (id : ℕ) (change : Port → Port) → ((port : Port) → f (change port) ≡ f port)
    → (ports : List Port) → sum_by f (changed_at id change ports) ≡ sum_by f ports
sum-changed_at f id change keeps ports =
    sum-map_same f f (λ (port : Port). changed_if (port.id == id) change port)
    (λ port. changed_if-is (λ p n. n ≡ f p) f (port.id == id) change port refl (keeps port)) ports

pub each-changed_at :
    (P Q : Port → Type 0) (id : ℕ) (change : Port → Port) → ((port : Port) → P port → Q port)
    → ((port : Port) → P port → Q (change port))
    → (ports : List Port) → Each P ports → Each Q (changed_at id change ports)
each-changed_at P Q id change stays becomes ports all =
    each-map P Q (λ (port : Port). changed_if (port.id == id) change port)
    (λ port here.
    changed_if-is (λ p x. Q x) (λ (p : Port). p) (port.id == id) change port (stays port here)
    (becomes port here)) ports all

pub any-append_left :
    {X : Type 0} (test : X → Bool) (xs ys : List X) → list_any test xs ≡ true
    → list_any test (xs ++ ys) ≡ true
any-append_left test [] ys found = absurd cc
any-append_left test (x ∷ xs) ys found =
    any_by (test x) (list_any test xs) (list_any test (xs ++ ys)) (any-append_left test xs ys) found
  where
    any_by :
        (here rest longer : Bool) → (rest ≡ true → longer ≡ true) → (here || rest) ≡ true
        → (here || longer) ≡ true
    any_by true rest longer grows found = refl
    any_by false rest longer grows found = grows found

-- each offer of an entry
each-cons_offer :
    (P : Offer → Type 0) (origin session to : ℕ) (frames : List Frame) (rest : List Offer)
    →
    ((at : ℕ) (wanted : List Frame)
    → P (record { origin = origin; session = session; to = at; frames = wanted }))
    → Each P rest → Each P (cons_option (offer_to origin session to frames) rest)
each-cons_offer P origin session to [] rest holds all = all
each-cons_offer P origin session to (frame ∷ frames) rest holds all =
    (holds to (frame ∷ frames), all)

-- each is of a port
pub each-offered :
    (P : Offer → Type 0) (origin session : ℕ) (wanted : Port → List Frame) (ports : List Port)
    → Each
    (λ (p : Port). P (record { origin = origin; session = session; to = p.id; frames = wanted p }))
    ports
    → Each P (offers_of origin session wanted ports)
each-offered P origin session wanted [] all = tt
each-offered P origin session wanted (p ∷ ps) all =
    one (wanted p) all.0 (each-offered P origin session wanted ps all.1)
  where
    one :
        (frames : List Frame)
        → P (record { origin = origin; session = session; to = p.id; frames = frames })
        → Each P (offers_of origin session wanted ps)
        → Each P
        (cons_option (offer_to origin session p.id frames) (offers_of origin session wanted ps))
    one [] here rest = rest
    one (frame ∷ frames) here rest = (here, rest)

pub each-offers_of : (P : Offer → Type 0) (origin session : ℕ) (wanted : Port → List Frame)
    →
    ((at : ℕ) (frames : List Frame)
    → P (record { origin = origin; session = session; to = at; frames = frames }))
    → (ports : List Port) → Each P (offers_of origin session wanted ports)
each-offers_of P origin session wanted holds [] = tt
each-offers_of P origin session wanted holds (port ∷ ports) =
    each-cons_offer P origin session port.id (wanted port) (offers_of origin session wanted ports)
    holds (each-offers_of P origin session wanted holds ports)

each-without_first_by :
    (P : Offer → Type 0) (offer : Offer) (rest fewer : List Offer) (b : Bool) → P offer
    → Each P rest → Each P fewer
    → Each P (cond b rest (offer ∷ fewer))
each-without_first_by P offer rest fewer true here all less = all
each-without_first_by P offer rest fewer false here all less = (here, less)

pub each-without_first :
    (P : Offer → Type 0) (origin : ℕ) (offers : List Offer) → Each P offers
    → Each P (without_first origin offers)
each-without_first P origin [] all = tt
each-without_first P origin (offer ∷ offers) all =
    each-without_first_by P offer offers (without_first origin offers) (is_offer_of origin offer)
    all.0 all.1 (each-without_first P origin offers all.1)
