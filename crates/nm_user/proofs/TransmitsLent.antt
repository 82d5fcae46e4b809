-- The frames that a put offers, as they are lent in buffers.
use Rattle.std.proofs.Common.{ℕ, ◌+◌, ◌<◌, ◌≡◌, List, [], ◌∷◌, ◌++◌, drop, length, reverse, get_or, refl, sym, ◌∙◌, ap, arith, append_assoc, add-one, drop-cons, subst, ◌≤◌}
use Rattle.std.proofs.lemmas.List.{reverse-append}
use Rattle.std.specs.List.{IsDistinct}
use Rattle.std.specs.declared.alloc.Global.{Global}
use Rattle.std.specs.declared.vec.Vec.{Vec}
use Rattle.nm_types.specs.declared.id.PortId.{PortId}
use Rattle.nm_types.specs.declared.id.Side.TheVariants.{Tx}
use Rattle.nm_region.specs.Buffers.{Buffer}
use Rattle.nm_own.specs.declared.lend_offers.LentOffers.{LentOffers}
use Rattle.nm_port.specs.Offers.{offered_lengths}
use Rattle.nm_own.specs.LentOffers.{IsLentOffers}
use Rattle.nm_port.specs.Regions.{SideState}
use Rattle.nm_own.proofs.LentSides.{lent_length}
use Rattle.vale_line.specs.declared.got.Got.{Got}
use Rattle.vale_line.specs.Gots.{buffers_of}
use Rattle.nm_user.specs.declared.putting.Offering.{Offering}
use Rattle.nm_user.specs.Offering.{gots_of, IsOffering, CanTake}
use Rattle.nm_user.proofs.ReceivesCome.{all-added}

-- as many buffers are lent as there are frames offered
pub lent-length : (s : SideState) (lent : List Buffer) (l : LentOffers) → IsLentOffers s lent l → length lent ≡ length (offered_lengths l.port.0 s.own)
lent-length s lent l x = lent_length Tx l.port s lent l.lent x

-- buffers that were made frames, and taken out again
pub buffers-wrapped : (bufs : List Buffer) (lens : List ℕ) → length bufs ≡ length lens → buffers_of (gots_of bufs lens) ≡ bufs
buffers-wrapped [] lens same = refl
buffers-wrapped (b ∷ bufs) [] same = absurd (omega (arith, same))
buffers-wrapped (b ∷ bufs) (len ∷ lens) same = ap (λ (bs : List Buffer). b ∷ bs) (buffers-wrapped bufs lens (omega (arith, same)))

abbrev got-by : Buffer → ℕ → Got
got-by buf len = record { buf = buf; len = len; rest = 0 }

-- one frame more
pub wrap-more : (made : List Got) (front : List Buffer) (buf : Buffer) (lens : List ℕ) (i : ℕ) → i < length lens
    → (made ++ got-by buf (get_or lens i 0) ∷ []) ++ gots_of (reverse front) (drop (i + 1) lens) ≡ made ++ gots_of (reverse (front ++ buf ∷ [])) (drop i lens)
wrap-more made front buf lens i less =
    let turned : reverse (front ++ buf ∷ []) ≡ buf ∷ reverse front = reverse-append front (buf ∷ []) in
    let rest : drop i lens ≡ get_or lens i 0 ∷ drop (i + 1) lens = rw add-one (drop-cons lens i 0 less) in
    append_assoc made (got-by buf (get_or lens i 0) ∷ []) (gots_of (reverse front) (drop (i + 1) lens))
    ∙ sym (ap (λ (bs : List Buffer). made ++ gots_of bs (drop i lens)) turned ∙ ap (λ (ls : List ℕ). made ++ gots_of (buf ∷ reverse front) ls) rest)

-- ---- an own side that lends its frames

pub lend-count : (s : SideState) (old new : List Buffer) (l : LentOffers) (port : PortId) (lens : List ℕ) → old ≡ [] → IsLentOffers s (drop (length old) new) l → l.port ≡ port → lens ≡ offered_lengths port.0 s.own → length new ≡ length lens
lend-count s old new l port lens none lent at are =
    let x : IsLentOffers s new l = subst (λ (bufs : List Buffer). IsLentOffers s bufs l) (all-added old new none) lent in
    lent-length s new l x ∙ (ap (λ (p : PortId). length (offered_lengths p.0 s.own)) at ∙ sym (ap (λ (ls : List ℕ). length ls) are))

-- and they are those of the frames that were made of them
pub lent-are : (s : SideState) (old new : List Buffer) (l : LentOffers) (port : PortId) (lens : List ℕ) (gots : List Got) → old ≡ [] → IsLentOffers s (drop (length old) new) l → l.port ≡ port → lens ≡ offered_lengths port.0 s.own
    → gots ≡ gots_of new lens → drop (length old) new ≡ buffers_of gots
lent-are s old new l port lens gots none lent at are made =
    all-added old new none ∙ sym (ap buffers_of made ∙ buffers-wrapped new lens (lend-count s old new l port lens none lent at are))

-- no buffer came, and none of the frames was taken
pub take-none : (s : SideState) (o : Offering) (came : List Buffer) → came ≡ [] → IsOffering s o → CanTake s o.pending.items o came
unfolding IsDistinct
take-none s o came none k =
    let few : 0 ≤ length (buffers_of o.pending.items) = omega arith in
    subst (CanTake s o.pending.items o) (sym none) (record { lent = record { lends = k.lent; back = refl; few = few; new = tt; once = tt }; empty = k.empty; room = k.room })

-- frames that none took are offered still
pub offers-still : (s : SideState) (o : Offering) (pending : Vec Got Global) → IsOffering s o → pending.items ≡ o.pending.items → IsOffering s (record o { pending = pending })
offers-still s o pending is kept = record { lent = subst (λ (gs : List Got). IsLentOffers s (buffers_of gs) o.lent) (sym kept) is.lent; empty = is.empty; room = rw kept is.room }
