-- Puts whose buffers are lent out, and of whose frames the first ones were taken.
use Rattle.std.proofs.Common.{ℕ, ◌≡◌, ◌<◌, ◌≤◌, ◌-◌, Bool, true, false, nat_lt, nat_eq, if◌then◌else◌, List, [], ◌∷◌, ◌++◌, length, map, take, drop, reverse, Option, Some, None, refl, sym, ◌∙◌, ap, arith, subst}
use Rattle.std.specs.Prelude.{IsSome}
use Rattle.std.specs.List.{AllByRecursion, IsDistinct}
use Rattle.std.proofs.lemmas.List.{length-map, length-reverse, length-drop, length-take-le, reverse-append, reverse-reverse, take-append-drop}
use Rattle.nm_types.specs.Limits.{most_ring}
use Rattle.nm_types.specs.declared.id.PortId.{PortId}
use Rattle.nm_types.specs.declared.id.Side.TheVariants.{Tx}
use Rattle.nm_types.specs.declared.place.Place.TheVariants as place
use Rattle.nm_types.specs.Positions.{step_on, slots_from, kernel_count}
use Rattle.nm_types.specs.Buffers.{IsBufferIndex}
use Rattle.nm_types.specs.OwnSyncs.{own_after_put}
use Rattle.nm_types.proofs.RingSteps.{dist-step_on, step_on-below}
use Rattle.nm_types.proofs.Tests.{less_true, same_true}
use Rattle.nm_region.specs.Buffers.{Buffer, indices_of}
use Rattle.nm_hold.specs.declared.standing.Standing.{Standing}
use Rattle.nm_hold.specs.Standings.{buf_in}
use Rattle.nm_hold.specs.Offsets.{has_place}
use Rattle.nm_hold.specs.Holds.{HoldState, buffers_of, index_at, standing_at, IsHold}
use Rattle.nm_port.specs.declared.port.UserPort.{UserPort}
use Rattle.nm_own.specs.declared.lend_offers.LentOffers.{LentOffers}
use Rattle.nm_own.specs.declared.own.OwnSide.TheInside.{Inside}
use Rattle.nm_port.specs.RingSlots.{RingSlots}
use Rattle.nm_port.specs.Regions.{SideState, IsBufferOf, AreOf, AllOf, HoldsOf}
use Rattle.nm_port.specs.Sides.{place_on}
use Rattle.nm_port.specs.Own.{own_seen, port_changed, port_changed_if}
use Rattle.nm_own.specs.Kept.{IsKept}
use Rattle.nm_port.specs.Closing.{AreTaken}
use Rattle.nm_own.specs.Opening.{IsNew, blank_arrivals}
use Rattle.nm_port.specs.Filling.{IsAway}
use Rattle.nm_port.specs.Exchanges.{AreRenamed, tx_places, pushed_count_of}
use Rattle.nm_port.specs.Puts.{offered_slot, cleared, ring_taken}
use Rattle.nm_port.specs.Lending.{Run, AreOut, place_of_run}
use Rattle.nm_own.specs.LentSides.{pending_count_of, offered_count_of}
use Rattle.nm_own.proofs.OnePort.{Among, ChangesPort, changed_are, kept_with}
use Rattle.nm_port.proofs.Buffers.{buf_by_index, count_by_bufs}
use Rattle.nm_own.proofs.Passing.{ring_is, own_side}
use Rattle.nm_own.proofs.Published.{has_place_of}
use Rattle.nm_port.proofs.Ranges.{is_slot_from, among_slots}
use Rattle.nm_own.proofs.Readied.{away_of}
use Rattle.nm_port.proofs.Regions.{of_seen}
use Rattle.nm_own.proofs.LentTx.{first_within, few_offered}
use Rattle.nm_own.proofs.LentSides.{LentWith}
use Rattle.nm_own.proofs.TakenTx.{offers_have_room, slots_filled, others, with_taken, changes, taken_is_seen, regions_now}
use Rattle.nm_own.proofs.ComingIn.{CanCome, come_in, all_turned, away_turned, once_turned}
use Rattle.nm_own.proofs.Refilled.{IsCleared, out_taken, split_out, run_behind}

-- buffers that are cleared
pub all_cleared : (bufs : List Buffer) → AllByRecursion IsCleared (map cleared bufs)
all_cleared [] = tt
all_cleared (b ∷ bufs) = (refl, all_cleared bufs)

pub indices_cleared : (bufs : List Buffer) → indices_of (map cleared bufs) ≡ indices_of bufs
indices_cleared [] = refl
indices_cleared (b ∷ bufs) = ap (λ (is : List ℕ). b.index ∷ is) (indices_cleared bufs)

cleared_of : (region : ℕ) (bufs : List Buffer) → AreOf region bufs → AreOf region (map cleared bufs)
cleared_of region [] are = tt
cleared_of region (b ∷ bufs) are = (are.0, cleared_of region bufs are.1)

pub turned_of : (region : ℕ) (bufs : List Buffer) → AreOf region bufs → AreOf region (reverse (map cleared bufs))
turned_of region bufs are = all_turned (IsBufferOf region) (map cleared bufs) (cleared_of region bufs are)

pub out_is_hold : (run : Run) (unnamed : ℕ) (h now : HoldState) (bufs : List Buffer) → AreOut h run unnamed bufs now → IsHold now → IsHold h
out_is_hold run unnamed h now [] out is = subst IsHold out is
out_is_hold run unnamed h now (buf ∷ before) out is = out_is_hold run unnamed h out.0 before out.1.1 out.1.0.was_hold

module _ (l : LentOffers) (r : RingSlots) (s : SideState) (lent : List Buffer) (w : LentWith Tx l.port l.lent r s lent) (rest came : List Buffer) (back : rest ≡ drop (length came) lent) (few : length came ≤ length lent) where
  abbrev size : ℕ
  size = r.ring.size

  abbrev count : ℕ
  count = length came

  abbrev run : Run
  run = record { id = l.port; side = r.side; size = size; first = offered_slot r.ring }

  abbrev behind : Run
  behind = record { id = l.port; side = r.side; size = size; first = step_on size (offered_slot r.ring) count }

  abbrev pub gone : List Buffer
  gone = take count lent

  pub gone_count : length gone ≡ count
  gone_count = length-take-le count lent few

  pub enough : count ≤ offered_count_of r
  enough = omega (arith, few, w.lent_count)

  pub few_rest : length rest ≤ size
  few_rest =
      let all = few_offered w.was l.lent.ports.items l.port w.p r w.passes in
      let left : length rest ≡ length lent - count = ap (λ (bs : List Buffer). length bs) back ∙ length-drop count lent in
      omega (arith, left, w.lent_count, all)

  most : size ≤ most_ring
  most = (ring_is w.was l.lent.ports.items Tx l.port w.p r w.passes).is_size.1

  pub few_back : length rest ≤ most_ring
  few_back = let least = few_rest in let top = most in omega (arith, least, top)

  pub few_places : count ≤ size
  few_places = let all = few_offered w.was l.lent.ports.items l.port w.p r w.passes in omega (arith, enough, all)

  pub few_taken : count ≤ most_ring
  few_taken = let least = few_places in let top = most in omega (arith, least, top)

  pub few_kernel : count ≤ kernel_count size r.ring.head r.ring.last_tail
  few_kernel = rw (← (offers_have_room w.was l.lent.ports.items l.port w.p r w.passes)) enough

  -- the hold once the buffers of the other frames are back
  pub went : (mid : HoldState) × (AreOut w.exchanged run (pending_count_of r) (reverse gone) mid × AreOut mid behind (pending_count_of r - count) (reverse rest) l.lent.hold)
  went =
      let both : reverse lent ≡ reverse rest ++ reverse gone =
      ap (λ (bs : List Buffer). reverse bs) (sym (take-append-drop count lent)) ∙ (reverse-append gone (drop count lent) ∙ ap (λ (bs : List Buffer). reverse bs ++ reverse gone) (sym back)) in
      let number : length (reverse gone) ≡ count = length-reverse gone ∙ gone_count in
      let x = split_out run (pending_count_of r) w.exchanged l.lent.hold (reverse rest) (reverse gone) (subst (λ (bs : List Buffer). AreOut w.exchanged run (pending_count_of r) bs l.lent.hold) both w.out) in
      (x.0, (x.1.0, subst (λ (n : ℕ). AreOut x.0 (run_behind run n) (pending_count_of r - n) (reverse rest) l.lent.hold) number x.1.1))

  within : offered_slot r.ring < size
  within = first_within w.was l.lent.ports.items l.port w.p r w.passes

  few_gone : length (reverse gone) ≤ size
  few_gone = let all = few_offered w.was l.lent.ports.items l.port w.p r w.passes in omega (arith, length-reverse gone, gone_count, enough, all)

  taken_out : AreTaken w.exchanged went.0 (map (place_on r.side l.port) (slots_from size (offered_slot r.ring) count)) [] gone
  taken_out =
      let taken = out_taken run (pending_count_of r) w.exchanged went.0 (reverse gone) w.exchange.is_hold within few_gone went.1.0 in
      rw (reverse-reverse gone, length-reverse gone, gone_count) at taken

  -- buffers that are new to the session can come into the places of those that went
  module _ (new : AllByRecursion (IsNew s.own) (indices_of came)) (once : IsDistinct nat_eq (indices_of came)) where
    count_same : buffers_of went.0 ≡ buffers_of w.was
    count_same = taken_out.count ∙ count_by_bufs w.was w.exchanged w.exchange.bufs

    stood_nowhere : (i : ℕ) → standing_at w.was i ≡ None → standing_at went.0 i ≡ None
    stood_nowhere i none = by_cell (standing_at went.0 i) refl
      where
        by_cell : (o : Option Standing) → standing_at went.0 i ≡ o → o ≡ None
        by_cell None e = refl
        by_cell (Some t) e = absurd (let some = sym (ap buf_in none) ∙ (sym (buf_by_index w.exchanged.cells w.was.cells i w.exchange.bufs) ∙ ap buf_in (taken_out.stood i t e)) in cc)

    away_each : (idxs : List ℕ) → AllByRecursion (IsNew (own_seen w.was l.lent.ports.items)) idxs → AllByRecursion (IsAway went.0) idxs
    away_each [] all = tt
    away_each (i ∷ idxs) all = ((subst (λ (n : ℕ). IsBufferIndex n i) (sym count_same) all.0.0, stood_nowhere i (away_of w.was l.lent.ports.items i w.kept.whole all.0.1)), away_each idxs all.1)

    away : AllByRecursion (IsAway went.0) (indices_of (map cleared came))
    away =
        let news : AllByRecursion (IsNew (own_seen w.was l.lent.ports.items)) (indices_of came) = subst (λ (x : SideState). AllByRecursion (IsNew x.own) (indices_of came)) w.seen new in
        rw (indices_cleared came) (away_each (indices_of came) news)

    number : length (reverse (map cleared came)) ≡ count
    number = length-reverse (map cleared came) ∙ length-map came cleared

    inside : (k : ℕ) → step_on size (offered_slot r.ring) k < size
    inside k = step_on-below size (offered_slot r.ring) k within

    belongs_each : (k : ℕ) → has_place went.0.ports (place_of_run run k) ≡ true
    belongs_each k =
        let here = has_place_of l.lent.ports.items l.port.0 w.p (place.Tx l.port (step_on size (offered_slot r.ring) k)) w.passes.has.found
        (rw (w.passes.has.same_id, w.passes.on, same_true l.port.0 l.port.0 refl, less_true (step_on size (offered_slot r.ring) k) size (inside k)) refl) in
        rw (taken_out.ports, w.exchange.ports, w.passes.has.places, own_side w.was l.lent.ports.items Tx l.port w.p r w.passes) here

    empty_each : (k : ℕ) → k < count → index_at went.0 (place_of_run run k) ≡ None
    empty_each k below =
        let room = few_offered w.was l.lent.ports.items l.port w.p r w.passes in
        let here = among_slots r.side l.port (slots_from size (offered_slot r.ring) count) (step_on size (offered_slot r.ring) k)
        ∙ (is_slot_from size (offered_slot r.ring) count (step_on size (offered_slot r.ring) k) within (omega (arith, room, enough)) (inside k)
        ∙ (ap (λ (d : ℕ). nat_lt d count) (dist-step_on size (offered_slot r.ring) k within (omega (arith, room, enough, below))) ∙ less_true k count below)) in
        taken_out.index (place_of_run run k) ∙ ap (λ (b : Bool). if b then None else index_at w.exchanged (place_of_run run k)) here

    can_come : CanCome went.0 run (reverse (map cleared came))
    can_come = record {
      is_hold = taken_out.is_hold;
      within = within;
      few = (let room = few_offered w.was l.lent.ports.items l.port w.p r w.passes in omega (arith, number, enough, room));
      belongs = λ k below. belongs_each k;
      empty = λ k below. empty_each k (omega (arith, number, below));
      away = away_turned went.0 (map cleared came) away;
      once = once_turned (map cleared came) (rw (indices_cleared came) once);
    }

    pub comes : (h : HoldState) × AreOut h run (pending_count_of r) (reverse (map cleared came)) went.0
    comes = come_in run (pending_count_of r) (reverse (map cleared came)) went.0 can_come

    pub comes_hold : IsHold comes.0
    comes_hold = out_is_hold run (pending_count_of r) comes.0 went.0 (reverse (map cleared came)) comes.1 taken_out.is_hold

    pub same_count : length gone ≡ length (map cleared came)
    same_count = gone_count ∙ sym (length-map came cleared)

    pub enough_cleared : length (map cleared came) ≤ offered_count_of r
    enough_cleared = rw (length-map came cleared) enough

    pub filled_now : (at : ℕ) → at < size → IsSome (index_at comes.0 (place.Tx l.port at))
    filled_now = slots_filled w.was l.lent.ports.items l.port w.p r w.passes w.exchanged went.0 comes.0 w.exchange gone (map cleared came) same_count enough_cleared went.1.0 comes.1 comes_hold

  -- once they came, and those of the slots that are then the user's are named
  module _ (h1 h2 h3 h4 : HoldState) (there : h1 ≡ went.0) (comes_in : AreOut h2 run (pending_count_of r) (reverse (map cleared came)) h1) (is_put : IsHold h2)
      (pushed : AreRenamed h2 h3 false (tx_places l.port size r.ring.accepted_head (pushed_count_of r))) (freed : AreRenamed h3 h4 true (tx_places l.port size r.ring.last_tail (length (map cleared came)))) where
    abbrev pub going : ℕ
    going = length (map cleared came)

    pub out : AreOut w.exchanged run (pending_count_of r) (reverse gone) h1
    out = subst (λ (h : HoldState). AreOut w.exchanged run (pending_count_of r) (reverse gone) h) (sym there) went.1.0

    pub alike : length gone ≡ going
    alike = gone_count ∙ sym (length-map came cleared)

    pub enough_number : going ≤ offered_count_of r
    enough_number = rw (length-map came cleared) enough

    abbrev pub around : Among l.lent.ports.items l.port.0 w.p
    around = others w.was l.lent.ports.items l.port w.p r w.passes

    abbrev pub now_taken : UserPort
    now_taken = with_taken w.was l.lent.ports.items l.port w.p r w.passes w.exchanged h1 h2 w.exchange gone (map cleared came) alike enough_number out comes_in is_put h3 h4 pushed freed (all_cleared came)

    abbrev pub taken_ports : List UserPort
    taken_ports = map (port_changed_if l.port.0 Tx (λ (of : PortId). ring_taken h4 l.port going)) l.lent.ports.items

    pub ports_taken : taken_ports ≡ around.before ++ now_taken ∷ around.behind
    ports_taken =
        ap (map (port_changed_if l.port.0 Tx (λ (of : PortId). ring_taken h4 l.port going))) around.are
        ∙ changed_are l.port.0 (port_changed Tx (λ (of : PortId). ring_taken h4 l.port going)) around.before around.behind w.p around.first around.rest (ap (λ (i : PortId). i.0) w.passes.has.same_id)

    pub kept_now : (new : Inside) → new.hold ≡ h4 → new.ports.items ≡ taken_ports → new.marks ≡ l.lent.marks → IsKept new
    kept_now new hold ports marks =
        let step = changes w.was l.lent.ports.items l.port w.p r w.passes w.exchanged h1 h2 w.exchange gone (map cleared came) alike enough_number out comes_in is_put h3 h4 pushed freed (all_cleared came) w.kept.whole in
        kept_with (record { hold = w.was; ports = l.lent.ports; marks = l.lent.marks }) new l.port w.p now_taken w.kept w.passes.has.same_id around
        (subst (λ (x : HoldState). ChangesPort w.was x l.lent.ports.items l.port w.p now_taken) (sym hold) step) (ports ∙ ports_taken) marks

    pub own_now : own_seen h4 taken_ports ≡ own_after_put l.port.0 (blank_arrivals (indices_of came)) s.own
    own_now =
        ap (own_seen h4) ports_taken
        ∙ (taken_is_seen w.was l.lent.ports.items l.port w.p r w.passes w.exchanged h1 h2 w.exchange gone (map cleared came) alike enough_number out comes_in is_put h3 h4 pushed freed (all_cleared came)
        ∙ (ap (λ (is : List ℕ). own_after_put l.port.0 (blank_arrivals is) (own_seen w.was l.lent.ports.items)) (indices_cleared came)
        ∙ ap (λ (o : SideState). own_after_put l.port.0 (blank_arrivals (indices_of came)) o.own) (sym w.seen)))

    pub region_now : (region : ℕ) → AllOf region s → AreOf region came → HoldsOf region h4
    region_now region of are =
        regions_now w.was l.lent.ports.items l.port w.p r w.passes w.exchanged h1 h2 w.exchange gone (map cleared came) alike enough_number out comes_in is_put h3 h4 pushed freed (all_cleared came)
        region (of_seen region w.was l.lent.ports.items s (sym w.seen) of) (turned_of region came are)
