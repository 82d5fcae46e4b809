-- Port by port, what the ports of a switch want, and what is offered to all ports.
use Rattle.std.proofs.Common.{ℕ, Bool, true, false, cond, ◌≡◌, ◌<◌, ◌≤◌, List, [], ◌∷◌, length, map, filter, slice_get, Option, Some, refl, sym, ◌∙◌, ap, subst, arith, ◌==◌, ◌||◌, nat_lt}
use Rattle.std.specs.List.{AllByRecursion as Each, list_any, range_with_len, cons_option}
use Rattle.std.proofs.lemmas.Bool.{ltb-true, lt-ltb, eqb-true, ne_eqb}
use Rattle.std.proofs.lemmas.List.{length-map}
use Rattle.std.proofs.lemmas.List.FromFn.{length-range_with_len}
use Rattle.nm_types.specs.Frames.{Frame}
use Rattle.nm_types.specs.declared.id.PortId.{PortId}
use Rattle.nm_types.proofs.Tests.{less_false}
use Rattle.vale_batch.specs.declared.looking.Looked.{Looked}
use Rattle.vale_batch.specs.Wants.{Wanted, want_at, wants_of, wants_some}
use Rattle.vale_entry.specs.World.{Port, Offer}
use Rattle.vale_entry.specs.Offers.{offers_of, offer_to}
use Rattle.vale_entry.specs.Laws.{Rise, id_of_port as number_of}
use Rattle.vale_entry.proofs.Each.{each-map, each-unmap, each-both}
use Rattle.vale_entry.proofs.Removals.{each-filter}
use Rattle.vale_entry.proofs.Rising.{rise-above}
use Rattle.vale_entry.proofs.Watched.{any-each}
use Rattle.vale_parts.specs.Ids.{id_of_port}
use Rattle.vale_parts.specs.SwitchPorts.{is_open_on, open_ports_on}
use Rattle.vale_parts.specs.Batches.{AreOffersOf, want_of_all, with_want}
use Rattle.vale_parts.proofs.WantedFrames.{AreWanted, all-places}

module _ (frames : List Frame) (origin session : ℕ) (wanted : Port → List Frame) where
  -- one want and one offer more, or neither
  contribute : (b : Bool) (want : Wanted) (wants : List Wanted) (id : ℕ) (fs : List Frame) (offers : List Offer) → nat_lt 0 (length want.places) ≡ b → want.to.0 ≡ id
      → AreWanted frames want.places want.sizes fs → AreOffersOf frames wants offers
      → AreOffersOf frames (cond b (want ∷ wants) wants) (cons_option (offer_to origin session id fs) offers)
  contribute b want wants id fs offers t to are rest =
      let left = length-map want.places (slice_get frames) in
      let right = length-map fs Some in
      let count : length want.places ≡ length fs = sym left ∙ (ap (λ (os : List (Option Frame)). length os) are.places_are ∙ right) in
      by_frames b fs t count are
    where
      by_frames : (b : Bool) (fs : List Frame) → nat_lt 0 (length want.places) ≡ b → length want.places ≡ length fs → AreWanted frames want.places want.sizes fs
          → AreOffersOf frames (cond b (want ∷ wants) wants) (cons_option (offer_to origin session id fs) offers)
      by_frames true [] t count are = (let some = ltb-true 0 (length want.places) t in absurd (omega (arith, some, count)))
      by_frames false [] t count are = rest
      by_frames true (f ∷ fs) t count are = (record { to = to; places = are.places_are; sizes = are.sizes_are }, rest)
      by_frames false (f ∷ fs) t count are =
          let some : nat_lt 0 (length want.places) ≡ true = lt-ltb 0 (length want.places) (omega (arith, count)) in
          let wrong : true ≡ false = sym some ∙ t in
          absurd cc

  module _ (from : PortId) (looked : List Looked) (switch : List ℕ) where
    -- an open port of the switch wants what it is offered, and another port is offered nothing
    pub record IsPlain (port : Port) : Type 0 where
      pub up : is_open_on switch port ≡ true → AreWanted frames (want_at from looked (id_of_port port)).places (want_at from looked (id_of_port port)).sizes (wanted port)
      pub down : is_open_on switch port ≡ false → wanted port ≡ []

    abbrev pub wants_in : List Port → List Wanted
    wants_in ports = wants_of from looked (open_ports_on switch ports)

    abbrev pub offers_in : List Port → List Offer
    offers_in ports = offers_of origin session wanted ports

    plain_by : (port : Port) (ups : List Port) (offers : List Offer) (o : Bool) → is_open_on switch port ≡ o → IsPlain port
        → AreOffersOf frames (wants_of from looked (map id_of_port ups)) offers
        → AreOffersOf frames (wants_of from looked (map id_of_port (cond o (port ∷ ups) ups))) (cons_option (offer_to origin session port.id (wanted port)) offers)
    plain_by port ups offers true t is rest =
        contribute (wants_some (want_at from looked (id_of_port port))) (want_at from looked (id_of_port port)) (wants_of from looked (map id_of_port ups)) port.id (wanted port) offers refl refl (is.up t) rest
    plain_by port ups offers false t is rest =
        subst (λ (fs : List Frame). AreOffersOf frames (wants_of from looked (map id_of_port ups)) (cons_option (offer_to origin session port.id fs) offers)) (sym (is.down t)) rest

    pub plain : (ports : List Port) → Each IsPlain ports → AreOffersOf frames (wants_in ports) (offers_in ports)
    plain [] all = tt
    plain (port ∷ ports) all = plain_by port (filter (is_open_on switch) ports) (offers_in ports) (is_open_on switch port) refl all.0 (plain ports all.1)

    -- the monitor's want goes before those of higher ports, and behind those of lower ones
    first_by : (want : Wanted) (wants : List Wanted) → Each (λ (w : Wanted). want.to.0 < w.to.0) wants → with_want want wants ≡ want ∷ wants
    first_by want [] all = refl
    first_by want (w ∷ ws) all = ap (λ (b : Bool). cond b (want ∷ w ∷ ws) (w ∷ with_want want ws)) (lt-ltb want.to.0 w.to.0 all.0)

    later_by : (want first : Wanted) (wants : List Wanted) (b : Bool) → first.to.0 ≤ want.to.0 → with_want want (cond b (first ∷ wants) wants) ≡ cond b (first ∷ with_want want wants) (with_want want wants)
    later_by want first wants true low = ap (λ (c : Bool). cond c (want ∷ first ∷ wants) (first ∷ with_want want wants)) (less_false want.to.0 first.to.0 low)
    later_by want first wants false low = refl

    above : (low : ℕ) (ports : List Port) → Each (λ (p : Port). low < p.id) ports → Each (λ (w : Wanted). low < w.to.0) (wants_in ports)
    above low ports all =
        each-filter (λ (w : Wanted). low < w.to.0) wants_some (map (want_at from looked) (open_ports_on switch ports))
        (each-map (λ (p : PortId). low < p.0) (λ (w : Wanted). low < w.to.0) (want_at from looked) (λ p more. more) (open_ports_on switch ports)
        (each-map (λ (p : Port). low < p.id) (λ (p : PortId). low < p.0) id_of_port (λ p more. more) (filter (is_open_on switch) ports)
        (each-filter (λ (p : Port). low < p.id) (is_open_on switch) ports all)))

    -- the monitor's port is none of the switch's, and is offered all frames
    pub record IsMonitor (port : Port) : Type 0 where
      pub closed : is_open_on switch port ≡ false
      pub all_wanted : wanted port ≡ frames

    abbrev pub IsOther : ℕ → Port → Type 0
    IsOther monitor port = (port.id == monitor) ≡ false → IsPlain port

    abbrev pub IsItself : ℕ → Port → Type 0
    IsItself monitor port = (port.id == monitor) ≡ true → IsMonitor port

    at_monitor : (monitor : ℕ) (port : Port) (ports : List Port) → 0 < length frames → port.id ≡ monitor → IsMonitor port → (o : Bool) → is_open_on switch port ≡ o
        → Each (λ (p : Port). monitor < p.id) ports → AreOffersOf frames (wants_in ports) (offers_in ports)
        → AreOffersOf frames (with_want (want_of_all monitor frames) (wants_of from looked (map id_of_port (cond o (port ∷ filter (is_open_on switch) ports) (filter (is_open_on switch) ports)))))
        (cons_option (offer_to origin session port.id (wanted port)) (offers_in ports))
    at_monitor monitor port ports some id is true t more rest = absurd (let wrong : true ≡ false = sym t ∙ is.closed in cc)
    at_monitor monitor port ports some id is false t more rest =
        let all = want_of_all monitor frames in
        let count : length (range_with_len 0 (length frames)) ≡ length frames = length-range_with_len 0 (length frames) in
        let full : nat_lt 0 (length all.places) ≡ true = lt-ltb 0 (length all.places) (omega (arith, some, count)) in
        let are : AreWanted frames all.places all.sizes frames = record { places_are = all-places frames 0 frames refl; sizes_are = refl } in
        let one = contribute true all (wants_in ports) port.id frames (offers_in ports) full (sym id) are rest in
        let placed = first_by all (wants_in ports) (above monitor ports more) in
        let both = subst (λ (fs : List Frame). AreOffersOf frames (all ∷ wants_in ports) (cons_option (offer_to origin session port.id fs) (offers_in ports))) (sym is.all_wanted) one in
        subst (λ (ws : List Wanted). AreOffersOf frames ws (cons_option (offer_to origin session port.id (wanted port)) (offers_in ports))) (sym placed) both

    before_monitor : (monitor : ℕ) (port : Port) (ups : List Port) (offers : List Offer) → port.id ≤ monitor → IsPlain port → (o : Bool) → is_open_on switch port ≡ o
        → AreOffersOf frames (with_want (want_of_all monitor frames) (wants_of from looked (map id_of_port ups))) offers
        → AreOffersOf frames (with_want (want_of_all monitor frames) (wants_of from looked (map id_of_port (cond o (port ∷ ups) ups)))) (cons_option (offer_to origin session port.id (wanted port)) offers)
    before_monitor monitor port ups offers low is true t rest =
        let want = want_at from looked (id_of_port port) in
        let all = want_of_all monitor frames in
        let wants = wants_of from looked (map id_of_port ups) in
        let one = contribute (wants_some want) want (with_want all wants) port.id (wanted port) offers refl refl (is.up t) rest in
        subst (λ (ws : List Wanted). AreOffersOf frames ws (cons_option (offer_to origin session port.id (wanted port)) offers)) (sym (later_by all want wants (wants_some want) low)) one
    before_monitor monitor port ups offers low is false t rest =
        subst (λ (fs : List Frame). AreOffersOf frames (with_want (want_of_all monitor frames) (wants_of from looked (map id_of_port ups))) (cons_option (offer_to origin session port.id fs) offers)) (sym (is.down t)) rest

    pub monitored : (monitor low : ℕ) (ports : List Port) (high : ℕ) → 0 < length frames → Rise low (map number_of ports) high → list_any (λ (p : Port). p.id == monitor) ports ≡ true
        → Each (IsOther monitor) ports → Each (IsItself monitor) ports
        → AreOffersOf frames (with_want (want_of_all monitor frames) (wants_in ports)) (offers_in ports)
    monitored monitor low [] high some r there others itself = absurd cc
    monitored monitor low (port ∷ ports) high some r there others itself =
        by_id (port.id == monitor) refl (λ later. monitored monitor port.id ports high some r.1 later others.1 itself.1)
      where
        more : Each (λ (p : Port). port.id < p.id) ports
        more = each-unmap (λ (n : ℕ). port.id < n) number_of ports (rise-above port.id (map number_of ports) high r.1)

        by_id : (b : Bool) → (port.id == monitor) ≡ b
            → (list_any (λ (p : Port). p.id == monitor) ports ≡ true → AreOffersOf frames (with_want (want_of_all monitor frames) (wants_in ports)) (offers_in ports))
            → AreOffersOf frames (with_want (want_of_all monitor frames) (wants_in (port ∷ ports))) (offers_in (port ∷ ports))
        by_id true t rest =
            let id : port.id ≡ monitor = eqb-true port.id monitor t in
            let above_it : Each (λ (p : Port). monitor < p.id) ports = subst (λ (k : ℕ). Each (λ (p : Port). k < p.id) ports) id more in
            let plain_rest : Each IsPlain ports =
            each-both (λ (p : Port). monitor < p.id) (IsOther monitor) IsPlain (λ p up other. other (ne_eqb p.id monitor (λ same. absurd (omega (arith, up, same))))) ports above_it others.1 in
            at_monitor monitor port ports some id (itself.0 t) (is_open_on switch port) refl above_it (plain ports plain_rest)
        by_id false t rest =
            let later : list_any (λ (p : Port). p.id == monitor) ports ≡ true = subst (λ (b : Bool). (b || list_any (λ (p : Port). p.id == monitor) ports) ≡ true) t there in
            let found = any-each (λ (p : Port). p.id == monitor) (λ (p : Port). port.id < p.id) ports more later in
            let id : found.x.id ≡ monitor = eqb-true found.x.id monitor found.passes in
            let low_port : port.id ≤ monitor = (let up = found.holds in omega (arith, up, id)) in
            before_monitor monitor port (filter (is_open_on switch) ports) (offers_in ports) low_port (others.0 t) (is_open_on switch port) refl (rest later)
