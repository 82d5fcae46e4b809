-- After every history sessions, ports, lots and offers bear the numbers of the entries that made
-- them.
use Rattle.std.proofs.Common.{ℕ, ◌+◌, ◌<◌, ◌≤◌, ◌≡◌, Bool, true, false, not, ◌==◌, List, [], ◌∷◌, ◌++◌, map, length, Some, None, refl, sym, ap, ◌∙◌, ◌&&◌, arith, le_refl, subst, rules}
use Rattle.std.specs.List.{AllByRecursion as Each}
use Rattle.std.proofs.lemmas.List.{map-append}
use Rattle.std.proofs.lemmas.Bool.{eqb-false}
use Rattle.nm_types.specs.Frames.{Frame}
use Rattle.vale_entry.specs.declared.entry.Entry.{Entry}
use Rattle.vale_entry.specs.World.{changed_at, World, Port, Lot, Offer, is_session, open_port, is_open_at, is_owed_by, has_lot_owed_by}
use Rattle.vale_entry.specs.Opening.{opened_port}
use Rattle.vale_entry.specs.Offers.{offers_of, is_offer_of}
use Rattle.vale_entry.specs.Grant.{with_lot, port_after_grant, granted_frames, first_offer}
use Rattle.vale_entry.specs.Delivery.{port_after_done, lot_after_done, done_if, port_after_sync, ready_lots}
use Rattle.vale_entry.specs.Closing.{shut, sessions_without}
use Rattle.vale_entry.specs.Legal.{Standing, Outcome, after, world_of, fresh_standing, enter_step, open_step_by, send_step, grant_step, sync_step, shut_step, finish_step, leave_step, done_step, put_step}
use Rattle.vale_entry.specs.Laws.{id_of_port, IsThere, HasLotsUpTo, AreNumbered, IsNumbered, IsPortOf, IsOfferOf, IsFrom, IsTo, IsGrantedBy, IsLotOf, HasLeasesOf}
use Rattle.vale_entry.specs.Pipe.{frames_of_items, port_after_put}
use Rattle.vale_entry.specs.declared.entry.Item.{Item}
use Rattle.vale_entry.proofs.Steps.{standing-by}
use Rattle.vale_entry.proofs.Follows.{EachKind, after-by}
use Rattle.vale_entry.proofs.Rising.{rise-wider, rise-push, rise-within}
use Rattle.vale_entry.proofs.Removals.{each-filter, rise-filter, rise-kept, there-filter}
use Rattle.vale_entry.proofs.Closings.{CanLeave}
use Rattle.vale_entry.proofs.Each.{each-weaker, each-both, each-none, each-append, each-map, each-drop, each-find, map-changed_at, each-changed_at, any-append_left, each-offered, each-offers_of, each-without_first}

abbrev pub Numbered : Standing → Type 0
Numbered s = IsNumbered s.world

-- what an outcome leaves, counted by one more
abbrev NumberedNext : Standing → Outcome → Type 0
NumberedNext s made =
    AreNumbered (s.world.entry_count + 1) made.next.world.sessions made.next.world.ports
    made.next.world.offers

lots-later : (count : ℕ) (port : Port) → HasLotsUpTo count port → HasLotsUpTo (count + 1) port
lots-later count port all =
    each-weaker (IsGrantedBy count) (IsGrantedBy (count + 1)) (λ lot here. omega arith) port.line
    all

numbered-later :
    (count : ℕ) (ss : List ℕ) (ps : List Port) (os : List Offer) → AreNumbered count ss ps os
    → AreNumbered (count + 1) ss ps os
numbered-later count ss ps os n =
    let same : 0 ≤ 0 = omega arith in
    let more : count ≤ count + 1 = omega arith in
    record {
      sessions_rise = rise-wider 0 0 ss count (count + 1) same more n.sessions_rise;
      ports_rise = rise-wider 0 0 (map id_of_port ps) count (count + 1) same more n.ports_rise;
      ports_owned = n.ports_owned;
      lots_within =
          each-weaker (HasLotsUpTo count) (HasLotsUpTo (count + 1)) (lots-later count) ps
          n.lots_within;
      offers_within =
          each-weaker (IsFrom count) (IsFrom (count + 1)) (λ offer here. omega arith) os
          n.offers_within;
      offers_to =
          each-weaker (IsTo count) (IsTo (count + 1)) (λ offer here. omega arith) os n.offers_to;
      offers_owned = n.offers_owned;
      leases_owned = n.leases_owned;
    }

leases_more : (ss more : List ℕ) (port : Port) → HasLeasesOf ss port → HasLeasesOf (ss ++ more) port
leases_more ss more port all =
    each-weaker (IsLotOf ss) (IsLotOf (ss ++ more))
    (λ lot here undone. any-append_left (λ (k : ℕ). k == lot.session) ss more (here undone))
    port.line all

numbered_enter : (s : Standing) → Numbered s → NumberedNext s (enter_step s)
numbered_enter s n =
    let w = s.world in
    let m = numbered-later w.entry_count w.sessions w.ports w.offers n in
    let one : w.entry_count < w.entry_count + 1 = omega arith in
    record {
      sessions_rise = rise-push 0 w.sessions w.entry_count (w.entry_count + 1) one n.sessions_rise;
      ports_rise = m.ports_rise;
      ports_owned =
          each-weaker (IsPortOf w.sessions) (IsPortOf (w.sessions ++ (w.entry_count + 1) ∷ []))
          (λ port here.
          any-append_left (λ (k : ℕ). k == port.session) w.sessions ((w.entry_count + 1) ∷ []) here)
          w.ports m.ports_owned;
      lots_within = m.lots_within;
      offers_within = m.offers_within;
      offers_to = m.offers_to;
      offers_owned =
          each-weaker (IsOfferOf w.sessions) (IsOfferOf (w.sessions ++ (w.entry_count + 1) ∷ []))
          (λ offer here.
          any-append_left (λ (k : ℕ). k == offer.session) w.sessions ((w.entry_count + 1) ∷ [])
          here)
          w.offers m.offers_owned;
      leases_owned =
          each-weaker (HasLeasesOf w.sessions)
          (HasLeasesOf (w.sessions ++ (w.entry_count + 1) ∷ []))
          (leases_more w.sessions ((w.entry_count + 1) ∷ [])) w.ports m.leases_owned;
    }

numbered_open :
    (s : Standing) (session : ℕ) (name : List ℕ) (tx rx extra : ℕ)
    → is_session s.world session ≡ true → Numbered s
    → NumberedNext s (open_step_by None s session name tx rx extra)
numbered_open s session name tx rx extra e n =
    let w = s.world in
    let m = numbered-later w.entry_count w.sessions w.ports w.offers n in
    let one : w.entry_count < w.entry_count + 1 = omega arith in
    record {
      sessions_rise = m.sessions_rise;
      ports_rise =
          rw map-append
          (rise-push 0 (map id_of_port w.ports) w.entry_count (w.entry_count + 1) one n.ports_rise);
      ports_owned =
          each-append (IsPortOf w.sessions) w.ports
          (opened_port (w.entry_count + 1) session name tx rx extra ∷ []) m.ports_owned (e, tt);
      lots_within =
          each-append (HasLotsUpTo (w.entry_count + 1)) w.ports
          (opened_port (w.entry_count + 1) session name tx rx extra ∷ []) m.lots_within (tt, tt);
      offers_within = m.offers_within;
      offers_to = m.offers_to;
      offers_owned = m.offers_owned;
      leases_owned = each-append (HasLeasesOf w.sessions) w.ports
          (opened_port (w.entry_count + 1) session name tx rx extra ∷ []) m.leases_owned (tt, tt);
    }

-- offers of one entry more
offers-later :
    (w : World) (session : ℕ) (wanted : Port → List Frame) → IsNumbered w
    → IsThere w.sessions session
    → AreNumbered (w.entry_count + 1) w.sessions w.ports
    (w.offers ++ offers_of (w.entry_count + 1) session wanted w.ports)
offers-later w session wanted n owned =
    let m = numbered-later w.entry_count w.sessions w.ports w.offers n in
    let more = offers_of (w.entry_count + 1) session wanted w.ports in
    let same : w.entry_count + 1 ≤ w.entry_count + 1 = omega arith in
    record {
      sessions_rise = m.sessions_rise;
      ports_rise = m.ports_rise;
      ports_owned = m.ports_owned;
      lots_within = m.lots_within;
      offers_within = each-append (IsFrom (w.entry_count + 1)) w.offers more m.offers_within
          (each-offers_of (IsFrom (w.entry_count + 1)) (w.entry_count + 1) session wanted
          (λ to frames. same) w.ports);
      offers_to = each-append (IsTo (w.entry_count + 1)) w.offers more m.offers_to
          (each-offered (IsTo (w.entry_count + 1)) (w.entry_count + 1) session wanted w.ports
          (rise-within id_of_port 0 w.ports (w.entry_count + 1) m.ports_rise));
      offers_owned = each-append (IsOfferOf w.sessions) w.offers more m.offers_owned
          (each-offers_of (IsOfferOf w.sessions) (w.entry_count + 1) session wanted
          (λ to frames. owned) w.ports);
      leases_owned = m.leases_owned;
    }

numbered_send :
    (s : Standing) (frames : List Frame) (id : ℕ) (port : Port)
    → open_port s.world.ports id ≡ Some port → Numbered s → NumberedNext s (send_step s frames port)
numbered_send s frames id port e n =
    let owned : IsThere s.world.sessions port.session =
    each-find (IsPortOf s.world.sessions) (is_open_at id) s.world.ports port n.ports_owned e in
    offers-later s.world port.session _ n owned

-- a port with one lot more, of the entry's number
lots-with_lot :
    (count session : ℕ) (done : Bool) (frames : List Frame) (line : List Lot)
    → Each (IsGrantedBy count) line
    → Each (IsGrantedBy count) (with_lot count session done frames line)
lots-with_lot count session done [] line all = all
lots-with_lot count session done (frame ∷ frames) line all =
    each-append (IsGrantedBy count) line _ all (le_refl count, tt)

-- a lot more, of a session that is there or done when it is made
leases-with_lot :
    (ss : List ℕ) (count session : ℕ) (done : Bool) (frames : List Frame) (line : List Lot)
    → (done ≡ false → IsThere ss session) → Each (IsLotOf ss) line
    → Each (IsLotOf ss) (with_lot count session done frames line)
leases-with_lot ss count session done [] line owned all = all
leases-with_lot ss count session done (frame ∷ frames) line owned all =
    each-append (IsLotOf ss) line _ all (owned, tt)

-- a change of one port that keeps its id, its session, its lots and whose they are
changed-numbered :
    (count : ℕ) (ss : List ℕ) (ps : List Port) (os : List Offer) (id : ℕ) (change : Port → Port)
    → ((p : Port) → id_of_port (change p) ≡ id_of_port p)
    → ((p : Port) → (change p).session ≡ p.session)
    → ((p : Port) → HasLotsUpTo count p → HasLotsUpTo count (change p))
    → ((p : Port) → HasLeasesOf ss p → HasLeasesOf ss (change p)) → AreNumbered count ss ps os
    → AreNumbered count ss (changed_at id change ps) os
changed-numbered count ss ps os id change ids sessions lots leases m = record {
  sessions_rise = m.sessions_rise;
  ports_rise = rw (map-changed_at id_of_port id change ids ps) m.ports_rise;
  ports_owned =
      each-changed_at (IsPortOf ss) (IsPortOf ss) id change (λ p here. here)
      (λ p here. subst (λ (n : ℕ). IsThere ss n) (sym (sessions p)) here) ps m.ports_owned;
  lots_within =
      each-changed_at (HasLotsUpTo count) (HasLotsUpTo count) id change (λ p here. here) lots ps
      m.lots_within;
  offers_within = m.offers_within;
  offers_to = m.offers_to;
  offers_owned = m.offers_owned;
  leases_owned =
      each-changed_at (HasLeasesOf ss) (HasLeasesOf ss) id change (λ p here. here) leases ps
      m.leases_owned;
}

numbered_grant :
    (s : Standing) (origin : ℕ) (offer : Offer) → first_offer s.world origin ≡ Some offer
    → Numbered s
    → NumberedNext s (grant_step s offer)
numbered_grant s origin offer first n =
    let w = s.world in
    let m = numbered-later w.entry_count w.sessions w.ports w.offers n in
    let frames = granted_frames w offer in
    let owned : IsThere w.sessions offer.session =
    each-find (IsOfferOf w.sessions) (is_offer_of origin) w.offers offer n.offers_owned first in
    changed-numbered (w.entry_count + 1) w.sessions w.ports _ offer.to
    (port_after_grant (w.entry_count + 1) offer.session frames) (λ p. refl) (λ p. refl)
    (λ p here. lots-with_lot (w.entry_count + 1) offer.session false frames p.line here)
    (λ p here.
    leases-with_lot w.sessions (w.entry_count + 1) offer.session false frames p.line
    (λ undone. owned) here) (record {
      sessions_rise = m.sessions_rise;
      ports_rise = m.ports_rise;
      ports_owned = m.ports_owned;
      lots_within = m.lots_within;
      offers_within =
          each-without_first (IsFrom (w.entry_count + 1)) offer.origin w.offers m.offers_within;
      offers_to = each-without_first (IsTo (w.entry_count + 1)) offer.origin w.offers m.offers_to;
      offers_owned = each-without_first (IsOfferOf w.sessions) offer.origin w.offers m.offers_owned;
      leases_owned = m.leases_owned;
    })

done-keeps_number :
    (count : ℕ) (b : Bool) (lot : Lot) → lot.number ≤ count → (done_if b lot).number ≤ count
done-keeps_number count true lot here = here
done-keeps_number count false lot here = here

done-keeps_owner :
    (ss : List ℕ) (b : Bool) (lot : Lot) → IsLotOf ss lot → IsLotOf ss (done_if b lot)
done-keeps_owner ss true lot here = λ undone. absurd cc
done-keeps_owner ss false lot here = here

ids_after_done :
    (number : ℕ) (ports : List Port)
    → map id_of_port (map (port_after_done number) ports) ≡ map id_of_port ports
ids_after_done number [] = refl
ids_after_done number (port ∷ ports) = let rest = ids_after_done number ports in cc

numbered_done :
    (s : Standing) (number : ℕ) (lot : Lot) → Numbered s → NumberedNext s (done_step s number lot)
numbered_done s number lot n =
    let w = s.world in
    let m = numbered-later w.entry_count w.sessions w.ports w.offers n in
    record {
      sessions_rise = m.sessions_rise;
      ports_rise = rw (ids_after_done number w.ports) m.ports_rise;
      ports_owned =
          each-map (IsPortOf w.sessions) (IsPortOf w.sessions) (port_after_done number)
          (λ port here. here) w.ports m.ports_owned;
      lots_within =
          each-map (HasLotsUpTo (w.entry_count + 1)) (HasLotsUpTo (w.entry_count + 1))
          (port_after_done number)
          (λ port here.
          each-map (IsGrantedBy (w.entry_count + 1)) (IsGrantedBy (w.entry_count + 1))
          (lot_after_done number)
          (λ l under. done-keeps_number (w.entry_count + 1) (l.number == number) l under) port.line
          here) w.ports m.lots_within;
      offers_within = m.offers_within;
      offers_to = m.offers_to;
      offers_owned = m.offers_owned;
      leases_owned =
          each-map (HasLeasesOf w.sessions) (HasLeasesOf w.sessions) (port_after_done number)
          (λ port here. each-map (IsLotOf w.sessions) (IsLotOf w.sessions) (lot_after_done number)
          (λ l owned. done-keeps_owner w.sessions (l.number == number) l owned) port.line
          here) w.ports m.leases_owned;
    }

numbered_sync :
    (s : Standing) (back : List ℕ) (id : ℕ) (port : Port) → open_port s.world.ports id ≡ Some port
    → Numbered s → NumberedNext s (sync_step s back port)
numbered_sync s back id port e n =
    let w = s.world in
    let owned : IsThere w.sessions port.session =
    each-find (IsPortOf w.sessions) (is_open_at id) w.ports port n.ports_owned e in
    changed-numbered (w.entry_count + 1) w.sessions w.ports _ port.id
    (port_after_sync (length back)) (λ p. refl) (λ p. refl)
    (λ p here. each-drop (IsGrantedBy (w.entry_count + 1)) (length (ready_lots p)) p.line here)
    (λ p here. each-drop (IsLotOf w.sessions) (length (ready_lots p)) p.line here)
    (offers-later w port.session _ n owned)

numbered_put :
    (s : Standing) (id : ℕ) (items : List Item) (port peer : Port)
    → open_port s.world.ports id ≡ Some port → Numbered s
    → NumberedNext s (put_step s items port peer)
numbered_put s id items port peer e n =
    let w = s.world in
    let owned : IsThere w.sessions port.session =
    each-find (IsPortOf w.sessions) (is_open_at id) w.ports port n.ports_owned e in
    let frames = frames_of_items items in
    changed-numbered (w.entry_count + 1) w.sessions w.ports _ peer.id
    (port_after_put (w.entry_count + 1) port.session frames) (λ p. refl) (λ p. refl)
    (λ p here. lots-with_lot (w.entry_count + 1) port.session true frames p.line here)
    (λ p here.
    leases-with_lot w.sessions (w.entry_count + 1) port.session true frames p.line
    (λ undone. absurd cc) here) (offers-later w port.session _ n owned)

numbered_shut : (s : Standing) (port : Port) → Numbered s → NumberedNext s (shut_step s port)
numbered_shut s port n =
    let w = s.world in
    changed-numbered (w.entry_count + 1) w.sessions w.ports w.offers port.id shut (λ p. refl)
    (λ p. refl) (λ p here. here) (λ p here. here)
    (numbered-later w.entry_count w.sessions w.ports w.offers n)

numbered_finish :
    (s : Standing) (bufs : List ℕ) (port : Port) → Numbered s
    → NumberedNext s (finish_step s bufs port)
numbered_finish s bufs port n =
    let w = s.world in
    let m = numbered-later w.entry_count w.sessions w.ports w.offers n in
    let stays : Port → Bool = λ (p : Port). not (p.id == port.id) in
    record {
      sessions_rise = m.sessions_rise;
      ports_rise = rise-filter id_of_port stays 0 w.ports (w.entry_count + 1) m.ports_rise;
      ports_owned = each-filter (IsPortOf w.sessions) stays w.ports m.ports_owned;
      lots_within = each-filter (HasLotsUpTo (w.entry_count + 1)) stays w.ports m.lots_within;
      offers_within = m.offers_within;
      offers_to = m.offers_to;
      offers_owned = m.offers_owned;
      leases_owned = each-filter (HasLeasesOf w.sessions) stays w.ports m.leases_owned;
    }

-- a lease that is not of this session
other_lease : (ss : List ℕ) (gone : ℕ) (lot : Lot) (mine : Bool) → (lot.session == gone) ≡ mine
    → (mine && not lot.is_done) ≡ false → IsLotOf ss lot → IsLotOf (sessions_without gone ss) lot
other_lease ss gone lot true t free owned =
    λ undone. absurd (let no : true ≡ false = sym (ap not undone) ∙ free in cc)
other_lease ss gone lot false t free owned =
    λ undone. there-filter ss lot.session gone (eqb-false lot.session gone t) (owned undone)

other_leases :
    (ss : List ℕ) (gone : ℕ) (port : Port) → has_lot_owed_by gone port ≡ false → HasLeasesOf ss port
    → HasLeasesOf (sessions_without gone ss) port
other_leases ss gone port free owned =
    each-both (λ (lot : Lot). is_owed_by gone lot ≡ false) (IsLotOf ss)
    (IsLotOf (sessions_without gone ss))
    (λ lot none here. other_lease ss gone lot (lot.session == gone) refl none here) port.line
    (each-none (is_owed_by gone) port.line free) owned

numbered_leave :
    (s : Standing) (session : ℕ) → CanLeave s.world session → Numbered s
    → NumberedNext s (leave_step s session)
numbered_leave s session can n =
    let w = s.world in
    let m = numbered-later w.entry_count w.sessions w.ports w.offers n in
    let left = sessions_without session w.sessions in
    record {
      sessions_rise =
          rise-kept (λ (k : ℕ). not (k == session)) 0 w.sessions (w.entry_count + 1)
          m.sessions_rise;
      ports_rise = m.ports_rise;
      ports_owned =
          each-both (λ (port : Port). (port.session == session) ≡ false) (IsPortOf w.sessions)
          (IsPortOf left)
          (λ port other owned.
          there-filter w.sessions port.session session (eqb-false port.session session other) owned)
          w.ports can.no_port m.ports_owned;
      lots_within = m.lots_within;
      offers_within = m.offers_within;
      offers_to = m.offers_to;
      offers_owned =
          each-both (λ (offer : Offer). (offer.session == session) ≡ false) (IsOfferOf w.sessions)
          (IsOfferOf left)
          (λ offer other owned.
          there-filter w.sessions offer.session session (eqb-false offer.session session other)
          owned) w.offers can.no_offer m.offers_owned;
      leases_owned =
          each-both (λ (port : Port). has_lot_owed_by session port ≡ false) (HasLeasesOf w.sessions)
          (HasLeasesOf left) (other_leases w.sessions session) w.ports can.no_lease m.leases_owned;
    }

numbered_kinds : (s : Standing) → Numbered s → EachKind s (λ ask made. NumberedNext s made)
numbered_kinds s n = record {
  enters = λ user fits. numbered_enter s n;
  quiet =
      λ ask session reply quiet. numbered-later s.world.entry_count s.world.sessions s.world.ports
      s.world.offers n;
  opens =
      λ session name tx rx extra can refusal. numbered_open s session.0 name tx rx extra can.here n;
  sends = λ from frames port e can settled. numbered_send s frames from.0 port e n;
  grants = λ origin to offer first same. numbered_grant s origin offer first n;
  completes = λ lease lot e. numbered_done s lease.0 lot n;
  receives = λ ask at back port receives e can. numbered_sync s back at.0 port e n;
  puts = λ at offered items port peer e can found. numbered_put s at.0 items port peer e n;
  watches =
      λ at target sides port found e can there none. numbered-later s.world.entry_count
      s.world.sessions s.world.ports s.world.offers n;
  shuts = λ at port e settled. numbered_shut s port n;
  finishes = λ at bufs chain port fits e can out. numbered_finish s bufs port n;
  leaves = λ session can. numbered_leave s session.0 can n;
}

pub numbered_entry : (s : Standing) (e : Entry) → Numbered s → Numbered (after s e)
numbered_entry s e n =
    after-by s Numbered e
    (numbered-later s.world.entry_count s.world.sessions s.world.ports s.world.offers n)
    (numbered_kinds s n)

-- what every history makes is numbered
pub world-numbered : (pool : ℕ) (h : List Entry) → IsNumbered (world_of pool h)
world-numbered pool h = standing-by Numbered numbered_entry (fresh_standing pool) h (search rules)
