-- A grant makes a lease of its session behind all that it has.
use Rattle.std.proofs.Common.{ℕ, ◌+◌, ◌<◌, ◌≤◌, ◌≡◌, Bool, true, false, cond, not, ◌&&◌, ◌||◌, ◌==◌, ◌⊎◌, inl, inr, List, [], ◌∷◌, ◌++◌, map, filter, flat_map, take, drop, append-nil, append_assoc, Option, Some, None, refl, sym, ◌∙◌, ap, ap₂, subst, arith, length}
use Rattle.std.specs.List.{AllByRecursion as Each, list_any, zip}
use Rattle.std.proofs.lemmas.Bool.{ne_eqb, eqb-true, eq-eqb}
use Rattle.std.proofs.lemmas.List.Sums.{sum_by-cons}
use Rattle.std.proofs.lemmas.List.Elements.{filter-append}
use Rattle.nm_types.specs.Frames.{Frame, slots_of, size_of_frames}
use Rattle.nm_types.proofs.PartLemmas.{slots-some}
use Rattle.vale_entry.specs.World.{Port, Lot, Offer, is_owed_by, open_port, changed_at}
use Rattle.vale_entry.specs.Grant.{first_offer, given_at, granted_frames, port_after_grant}
use Rattle.vale_entry.specs.Closing.{is_port_of}
use Rattle.vale_entry.specs.Holdings.{PortBuffers, PortsAgree, with_lot_buffers, changed_buffers, first_idle}
use Rattle.vale_entry.specs.Laws.{Rise, id_of_port}
use Rattle.vale_entry.specs.Legal.{Standing, grant_step}
use Rattle.vale_entry.proofs.Each.{each-weaker, map-changed_at, changed_at-same}
use Rattle.vale_entry.proofs.Agreeing.{changed_buffers-same}
use Rattle.vale_entry.proofs.Numbered.{Numbered}
use Rattle.vale_entry.proofs.Holding.{Held}
use Rattle.vale_entry.proofs.OneEntry.{OneEntry}
use Rattle.vale_own.specs.Own.{HeldLot, own_of, port_alone, is_offer_by, is_lease_of, leases_at}
use Rattle.vale_own.specs.Laws.{NoneOwed, port_of_offer}
use Rattle.vale_own.specs.OwnEntries.{lease_of, own_granted}
use Rattle.vale_own.proofs.Lists.{filter-none}
use Rattle.vale_own.proofs.Single.{above}
use Rattle.vale_own.proofs.Sides.{agreed, agreed-lots, zip-pushed, each-zip}
use Rattle.vale_own.proofs.Leases.{leases-at_id, agreed-ids, leases_in}
use Rattle.vale_own.proofs.Ahead.{Ahead, first-of}

-- ports behind one have no lease
none-behind : (session to low : ℕ) (ports : List Port) (helds : List PortBuffers) (high : ℕ) → to ≤ low → Rise low (map id_of_port ports) high
    → Each (λ (p : Port). to < p.id → NoneOwed session p) ports → flat_map (leases_at session) (zip ports helds) ≡ []
none-behind session to low [] helds high le r all = refl
none-behind session to low (p ∷ ps) [] high le r all = refl
none-behind session to low (p ∷ ps) (h ∷ hs) high le r all =
    let first : low < p.id = r.0 in
    let here = filter-none (is_lease_of session) (zip p.line h.lots)
    (each-zip (λ (l : Lot). is_owed_by session l ≡ false) p.line h.lots (all.0 (omega (arith, first, le)))) in
    rw (here) (none-behind session to p.id ps hs high (omega (arith, first, le)) r.1 all.1)

-- nor does a change at one change those behind it
same-behind : (session to low : ℕ) (change : Port → Port) (moved : PortBuffers → PortBuffers) (ports : List Port) (helds : List PortBuffers) (high : ℕ) → to ≤ low
    → Rise low (map id_of_port ports) high → PortsAgree ports helds
    → flat_map (leases_at session) (zip (changed_at to change ports) (changed_buffers to moved helds)) ≡ flat_map (leases_at session) (zip ports helds)
same-behind session to low change moved ports helds high le r a =
    leases-at_id session to change moved ports helds (agreed-ids (zip ports helds) (agreed ports helds a))
    (each-weaker (λ (at : Port × PortBuffers). low < at.0.id) (λ (at : Port × PortBuffers). at.0.id ≡ to → leases_at session (change at.0, moved at.1) ≡ leases_at session at)
    (λ at later is. absurd (omega (arith, later, is, le))) (zip ports helds) (each-zip (λ (p : Port). low < p.id) ports helds (above low ports high r)))

leases-granted : (session number to low : ℕ) (frame : Frame) (frames : List Frame) (ports : List Port) (helds : List PortBuffers) (high : ℕ) → Rise low (map id_of_port ports) high → PortsAgree ports helds
    → list_any (λ (p : Port). p.id == to) ports ≡ true → Each (λ (p : Port). to < p.id → NoneOwed session p) ports
    → flat_map (leases_at session) (zip (changed_at to (port_after_grant number session (frame ∷ frames)) ports) (changed_buffers to (with_lot_buffers (size_of_frames (frame ∷ frames))) helds))
    ≡ flat_map (leases_at session) (zip ports helds) ++ lease_of number session (frame ∷ frames) (first_idle to (size_of_frames (frame ∷ frames)) helds)
leases-granted session number to low frame frames [] helds high r a there all = absurd cc
leases-granted session number to low frame frames (p ∷ ps) [] high r a there all = absurd a
leases-granted session number to low frame frames (p ∷ ps) (h ∷ hs) high r a there all =
    by (p.id == to) refl there (λ found. leases-granted session number to p.id frame frames ps hs high r.1 a.1 found all.1)
  where
    given : List Frame
    given = frame ∷ frames

    change : Port → Port
    change = port_after_grant number session (frame ∷ frames)

    moved : PortBuffers → PortBuffers
    moved = with_lot_buffers (size_of_frames (frame ∷ frames))

    lease : List ℕ → HeldLot
    lease buffers = (record { number = number; session = session; frames = frame ∷ frames; is_done = false }, buffers)

    -- at the port itself
    here : leases_at session (change p, moved h) ≡ leases_at session (p, h) ++ lease (take (size_of_frames given) h.idle) ∷ []
    here =
        let size : size_of_frames given ≡ slots_of frame + size_of_frames frames = sum_by-cons slots_of frame frames in
        let first = slots-some (length frame.bytes) in
        let some : (size_of_frames given == 0) ≡ false = ne_eqb (size_of_frames given) 0 (λ e. omega arith) in
        let lot : Lot = record { number = number; session = session; frames = given; is_done = false } in
        let mine : is_owed_by session lot ≡ true = rw (eq-eqb session session refl) refl in
        let pushed = zip-pushed p.line h.lots lot (take (size_of_frames given) h.idle) (agreed-lots p h a.0) in
        rw (some) (ap (filter (is_lease_of session)) pushed ∙ (filter-append (is_lease_of session) (zip p.line h.lots) (lease (take (size_of_frames given) h.idle) ∷ []) ∙ rw mine refl))

    by : (b : Bool) → (p.id == to) ≡ b → (b || list_any (λ (q : Port). q.id == to) ps) ≡ true
        → (list_any (λ (q : Port). q.id == to) ps ≡ true → flat_map (leases_at session) (zip (changed_at to change ps) (changed_buffers to moved hs))
        ≡ flat_map (leases_at session) (zip ps hs) ++ lease_of number session given (first_idle to (size_of_frames given) hs))
        → flat_map (leases_at session) (zip (changed_at to change (p ∷ ps)) (changed_buffers to moved (h ∷ hs)))
        ≡ flat_map (leases_at session) (zip (p ∷ ps) (h ∷ hs)) ++ lease_of number session given (first_idle to (size_of_frames given) (h ∷ hs))
    by true t found later =
        let is : p.id ≡ to = eqb-true p.id to t in
        let u : (h.port == to) ≡ true = ap (λ (k : ℕ). k == to) a.0.id ∙ t in
        let none = none-behind session to p.id ps hs high (omega (arith, is)) r.1 all.1 in
        let rest = same-behind session to p.id change moved ps hs high (omega (arith, is)) r.1 a.1 ∙ none in
        rw (t, u) (ap₂ (λ (xs ys : List HeldLot). xs ++ ys) here rest ∙ (append-nil (leases_at session (p, h) ++ lease (take (size_of_frames given) h.idle) ∷ [])
        ∙ ap (λ (xs : List HeldLot). xs ++ lease (take (size_of_frames given) h.idle) ∷ []) (sym (ap (λ (ys : List HeldLot). leases_at session (p, h) ++ ys) none ∙ append-nil (leases_at session (p, h))))))
    by false t found later =
        let u : (h.port == to) ≡ false = ap (λ (k : ℕ). k == to) a.0.id ∙ t in
        let rest = later found in
        rw (t, u) (ap (λ (ys : List HeldLot). leases_at session (p, h) ++ ys) rest
        ∙ sym (append_assoc (leases_at session (p, h)) (flat_map (leases_at session) (zip ps hs)) (lease_of number session given (first_idle to (size_of_frames given) hs))))

-- frames are given where the port is there
leases-given : (session number to : ℕ) (frames : List Frame) (ports : List Port) (helds : List PortBuffers) (high : ℕ) → Rise 0 (map id_of_port ports) high → PortsAgree ports helds
    → (frames ≡ []) ⊎ (list_any (λ (p : Port). p.id == to) ports ≡ true) → Each (λ (p : Port). to < p.id → NoneOwed session p) ports
    → flat_map (leases_at session) (zip (changed_at to (port_after_grant number session frames) ports) (changed_buffers to (with_lot_buffers (size_of_frames frames)) helds))
    ≡ flat_map (leases_at session) (zip ports helds) ++ lease_of number session frames (first_idle to (size_of_frames frames) helds)
leases-given session number to [] ports helds high r a there all =
    rw (changed_at-same to (port_after_grant number session []) (λ p. refl) ports, changed_buffers-same to (with_lot_buffers 0) (λ h. refl) helds)
    (sym (append-nil (flat_map (leases_at session) (zip ports helds))))
leases-given session number to (frame ∷ frames) ports helds high r a (inl none) all = absurd cc
leases-given session number to (frame ∷ frames) ports helds high r a (inr there) all = leases-granted session number to 0 frame frames ports helds high r a there all

there-by : (to : ℕ) (ports : List Port) (port : Port) → open_port ports to ≡ Some port → list_any (λ (p : Port). p.id == to) ports ≡ true
there-by to [] port e = absurd cc
there-by to (p ∷ ps) port e = by (p.id == to) refl (there-by to ps port)
  where
    by : (b : Bool) → (p.id == to) ≡ b → (open_port ps to ≡ Some port → list_any (λ (q : Port). q.id == to) ps ≡ true) → list_any (λ (q : Port). q.id == to) (p ∷ ps) ≡ true
    by true t rest = rw t refl
    by false t rest =
        let f : cond ((p.id == to) && not p.shutting) (Some p) (open_port ps to) ≡ Some port = e in
        let g : open_port ps to ≡ Some port = rw t at f in
        rw t (rest g)

given-there : (to : ℕ) (ports : List Port) (wanted : List Frame) (found : Option Port) → open_port ports to ≡ found → (given_at found wanted ≡ []) ⊎ (list_any (λ (p : Port). p.id == to) ports ≡ true)
given-there to ports wanted None e = inl refl
given-there to ports wanted (Some port) e = inr (there-by to ports port e)

pub own-granted : (s : Standing) (origin : ℕ) (offer : Offer) → first_offer s.world origin ≡ Some offer → Numbered s → Held s → OneEntry s → Ahead s
    → own_of offer.session (grant_step s offer).next ≡ own_granted s (own_of offer.session s) offer
own-granted s origin offer e n h one k =
    let w = s.world in
    let session = offer.session in
    let frames = granted_frames w offer in
    let f = first-of w.offers origin offer e one in
    let ahead = k session in
    let r : Rise ahead.low (offer.to ∷ map port_of_offer f.rest) ahead.high = subst (λ (os : List Offer). Rise ahead.low (map port_of_offer os) ahead.high) f.offers_are ahead.rise in
    let first : ahead.low < offer.to = r.0 in
    let ports : filter (is_port_of session) (map port_alone (grant_step s offer).next.world.ports) ≡ filter (is_port_of session) (map port_alone w.ports) =
    ap (filter (is_port_of session)) (map-changed_at port_alone offer.to (port_after_grant (w.entry_count + 1) session frames) (λ p. refl) w.ports) in
    let offers : filter (is_offer_by session) (grant_step s offer).next.world.offers ≡ drop 1 (filter (is_offer_by session) w.offers) =
    f.left ∙ ap (drop 1) (sym f.offers_are) in
    let leases : leases_in session (grant_step s offer).next ≡ leases_in session s ++ lease_of (w.entry_count + 1) session frames (first_idle offer.to (size_of_frames frames) s.holdings.ports) =
    leases-given session (w.entry_count + 1) offer.to frames w.ports s.holdings.ports w.entry_count n.ports_rise h.ports_agree (given-there offer.to w.ports offer.frames (open_port w.ports offer.to) refl)
    (each-weaker (λ (p : Port). ahead.low < p.id → NoneOwed session p) (λ (p : Port). offer.to < p.id → NoneOwed session p) (λ p none later. none (omega (arith, first, later))) w.ports ahead.behind) in
    rw (ports, offers, leases) refl
