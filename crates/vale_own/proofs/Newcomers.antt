-- A session that comes has nothing: all that stands is of sessions of lower numbers.
use Rattle.std.proofs.Common.{ℕ, ◌+◌, ◌≤◌, ◌≡◌, Bool, true, false, ◌||◌, ◌==◌, List, [], ◌∷◌, ◌++◌, map, filter, flat_map, length, refl, sym, arith, subst}
use Rattle.std.specs.List.{AllByRecursion as Each, list_any, zip}
use Rattle.std.proofs.lemmas.Bool.{ne_eqb, eq-eqb}
use Rattle.nm_types.specs.Frames.{Frame}
use Rattle.vale_entry.specs.declared.entry.Entry.{Entry}
use Rattle.vale_entry.specs.World.{World, Port, Lot, Offer, is_owed_by, is_open_at}
use Rattle.vale_entry.specs.Opening.{opened_port}
use Rattle.vale_entry.specs.Offers.{is_offer_of}
use Rattle.vale_entry.specs.Grant.{with_lot, port_after_grant, granted_frames}
use Rattle.vale_entry.specs.Delivery.{done_if, lot_after_done, port_after_done, port_after_sync, ready_lots}
use Rattle.vale_entry.specs.Closing.{is_port_of, shut}
use Rattle.vale_entry.specs.Pipe.{frames_of_items, port_after_put}
use Rattle.vale_entry.specs.Holdings.{PortBuffers, SessionBuffers, buffers_of_session}
use Rattle.vale_entry.specs.Laws.{Rise, IsPortOf, IsOfferOf, id_of_session}
use Rattle.vale_entry.specs.Legal.{Standing, Outcome, after, standing_of, fresh_standing}
use Rattle.vale_entry.proofs.Steps.{standing-by}
use Rattle.vale_entry.proofs.Follows.{EachKind, after-by}
use Rattle.vale_entry.proofs.Numbered.{Numbered, numbered_entry, world-numbered}
use Rattle.vale_entry.proofs.Agreeing.{among-bound}
use Rattle.vale_entry.proofs.Each.{each-append, each-weaker, each-map, each-unmap, each-drop, each-find, each-changed_at}
use Rattle.vale_entry.proofs.Removals.{each-filter}
use Rattle.vale_entry.proofs.Rising.{rise-bounds}
use Rattle.vale_own.specs.Own.{port_alone, is_offer_by, leases_at, is_lease_of}
use Rattle.vale_own.proofs.Lists.{filter-none, flat_map-none}
use Rattle.vale_own.proofs.Sides.{each-zip}

-- each lot is of a session of such a number
abbrev IsFromSession : ℕ → Lot → Type 0
IsFromSession count lot = lot.session ≤ count

abbrev HasLotsFrom : ℕ → Port → Type 0
HasLotsFrom count port = Each (IsFromSession count) port.line

abbrev pub LotsFrom : Standing → Type 0
LotsFrom s = Each (HasLotsFrom s.world.entry_count) s.world.ports

-- what an outcome leaves, counted by one more
abbrev LotsFromNext : Standing → Outcome → Type 0
LotsFromNext s made = Each (HasLotsFrom (s.world.entry_count + 1)) made.next.world.ports

lots-later : (count : ℕ) (ports : List Port) → Each (HasLotsFrom count) ports → Each (HasLotsFrom (count + 1)) ports
lots-later count ports all =
    each-weaker (HasLotsFrom count) (HasLotsFrom (count + 1)) (λ p here. each-weaker (IsFromSession count) (IsFromSession (count + 1)) (λ l le. omega arith) p.line here) ports all

lots-with_lot : (count number session : ℕ) (done : Bool) (frames : List Frame) (line : List Lot) → session ≤ count → Each (IsFromSession count) line
    → Each (IsFromSession count) (with_lot number session done frames line)
lots-with_lot count number session done [] line le all = all
lots-with_lot count number session done (frame ∷ frames) line le all = each-append (IsFromSession count) line _ all (le, tt)

done-keeps : (count : ℕ) (b : Bool) (lot : Lot) → IsFromSession count lot → IsFromSession count (done_if b lot)
done-keeps count true lot here = here
done-keeps count false lot here = here

lots_kinds : (s : Standing) → Numbered s → LotsFrom s → EachKind s (λ ask made. LotsFromNext s made)
lots_kinds s n all = record {
  enters = λ user fits. later;
  quiet = λ ask session reply quiet. later;
  opens = λ session name tx rx extra can refusal. each-append (HasLotsFrom more) w.ports (opened_port (w.entry_count + 1) session.0 name tx rx extra ∷ []) later (tt, tt);
  sends = λ from frames port e can settled. later;
  grants = λ origin to offer first same.
      let le : offer.session ≤ w.entry_count = among-bound 0 w.sessions w.entry_count offer.session n.sessions_rise (each-find (IsOfferOf w.sessions) (is_offer_of origin) w.offers offer n.offers_owned first) in
      each-changed_at (HasLotsFrom more) (HasLotsFrom more) offer.to (port_after_grant more offer.session (granted_frames w offer)) (λ p here. here)
      (λ p here. lots-with_lot more more offer.session false (granted_frames w offer) p.line (omega arith) here) w.ports later;
  completes = λ lease lot e. each-map (HasLotsFrom more) (HasLotsFrom more) (port_after_done lease.0)
      (λ p here. each-map (IsFromSession more) (IsFromSession more) (lot_after_done lease.0) (λ l le. done-keeps more (l.number == lease.0) l le) p.line here) w.ports later;
  receives = λ ask at back port receives e can. each-changed_at (HasLotsFrom more) (HasLotsFrom more) port.id (port_after_sync (length back)) (λ p here. here)
      (λ p here. each-drop (IsFromSession more) (length (ready_lots p)) p.line here) w.ports later;
  puts = λ at offered items port peer e can found.
      let le : port.session ≤ w.entry_count = among-bound 0 w.sessions w.entry_count port.session n.sessions_rise (each-find (IsPortOf w.sessions) (is_open_at at.0) w.ports port n.ports_owned e) in
      each-changed_at (HasLotsFrom more) (HasLotsFrom more) peer.id (port_after_put more port.session (frames_of_items items)) (λ p here. here)
      (λ p here. lots-with_lot more more port.session true (frames_of_items items) p.line (omega arith) here) w.ports later;
  watches = λ at target sides port found e can there none. later;
  shuts = λ at port e settled. each-changed_at (HasLotsFrom more) (HasLotsFrom more) port.id shut (λ p here. here) (λ p here. here) w.ports later;
  finishes = λ at bufs chain port fits e can out. each-filter (HasLotsFrom more) _ w.ports later;
  leaves = λ session can. later;
}
  where
    w : World
    w = s.world

    more : ℕ
    more = s.world.entry_count + 1

    later : Each (HasLotsFrom (s.world.entry_count + 1)) s.world.ports
    later = lots-later s.world.entry_count s.world.ports all

lots_entry : (s : Standing) (e : Entry) → Numbered s → LotsFrom s → LotsFrom (after s e)
lots_entry s e n all = after-by s LotsFrom e (lots-later s.world.entry_count s.world.ports all) (lots_kinds s n all)

pub lots-from : (pool : ℕ) (h : List Entry) → LotsFrom (standing_of pool h)
lots-from pool h =
    (standing-by (λ (s : Standing). Numbered s × LotsFrom s) (λ s e k. (numbered_entry s e k.0, lots_entry s e k.0 k.1)) (fresh_standing pool) h (world-numbered pool [], tt)).1

-- nothing of a session of a higher number
pub rise-below : (low : ℕ) (ns : List ℕ) (high : ℕ) → Rise low ns high → Each (λ (n : ℕ). n ≤ high) ns
rise-below low [] high r = tt
rise-below low (n ∷ ns) high r = (rise-bounds n ns high r.1, rise-below n ns high r.1)

pub no-ports : (count : ℕ) (sessions : List ℕ) (ports : List Port) → Rise 0 sessions count → Each (IsPortOf sessions) ports → filter (is_port_of (count + 1)) (map port_alone ports) ≡ []
no-ports count sessions ports r all =
    filter-none (is_port_of (count + 1)) (map port_alone ports)
    (each-map (IsPortOf sessions) (λ (p : Port). is_port_of (count + 1) p ≡ false) port_alone
    (λ p here. let le = among-bound 0 sessions count p.session r here in ne_eqb p.session (count + 1) (λ e. omega (arith, le, e))) ports all)

pub no-offers : (count : ℕ) (sessions : List ℕ) (offers : List Offer) → Rise 0 sessions count → Each (IsOfferOf sessions) offers → filter (is_offer_by (count + 1)) offers ≡ []
no-offers count sessions offers r all =
    filter-none (is_offer_by (count + 1)) offers
    (each-weaker (IsOfferOf sessions) (λ (o : Offer). is_offer_by (count + 1) o ≡ false)
    (λ o here. let le = among-bound 0 sessions count o.session r here in ne_eqb o.session (count + 1) (λ e. omega (arith, le, e))) offers all)

pub no-leases : (count : ℕ) (ports : List Port) (helds : List PortBuffers) → Each (HasLotsFrom count) ports → flat_map (leases_at (count + 1)) (zip ports helds) ≡ []
no-leases count ports helds all =
    flat_map-none (leases_at (count + 1)) (zip ports helds)
    (each-weaker (λ (at : Port × PortBuffers). HasLotsFrom count at.0) (λ (at : Port × PortBuffers). leases_at (count + 1) at ≡ [])
    (λ at here. filter-none (is_lease_of (count + 1)) (zip at.0.line at.1.lots)
    (each-zip (λ (l : Lot). is_owed_by (count + 1) l ≡ false) at.0.line at.1.lots
    (each-weaker (IsFromSession count) (λ (l : Lot). is_owed_by (count + 1) l ≡ false) (λ l le. not-owed l le) at.0.line here))) (zip ports helds)
    (each-zip (HasLotsFrom count) ports helds all))
  where
    not-owed : (l : Lot) → l.session ≤ count → is_owed_by (count + 1) l ≡ false
    not-owed l le = rw (ne_eqb l.session (count + 1) (λ e. omega (arith, le, e))) refl

none-found : (session : ℕ) (new : SessionBuffers) (helds : List SessionBuffers) → new.session ≡ session → Each (λ (h : SessionBuffers). (h.session == session) ≡ false) helds
    → buffers_of_session (helds ++ new ∷ []) session ≡ new.buffers
none-found session new [] is all = rw (eq-eqb new.session session is) refl
none-found session new (h ∷ hs) is all = rw (all.0) (none-found session new hs is all.1)

-- those who hold buffers are of lower numbers
later-held : (count : ℕ) (sessions : List ℕ) (helds : List SessionBuffers) → Rise 0 sessions count → map id_of_session helds ≡ sessions → Each (λ (h : SessionBuffers). (h.session == count + 1) ≡ false) helds
later-held count sessions helds r is =
    each-unmap (λ (n : ℕ). (n == count + 1) ≡ false) id_of_session helds
    (subst (λ (ns : List ℕ). Each (λ (n : ℕ). (n == count + 1) ≡ false) ns) (sym is)
    (each-weaker (λ (n : ℕ). n ≤ count) (λ (n : ℕ). (n == count + 1) ≡ false) (λ n le. ne_eqb n (count + 1) (λ e. omega (arith, le, e))) sessions (rise-below 0 sessions count r)))

pub no-buffers : (count : ℕ) (sessions : List ℕ) (helds : List SessionBuffers) → Rise 0 sessions count → map id_of_session helds ≡ sessions
    → buffers_of_session (helds ++ (record { session = count + 1; buffers = [] }) ∷ []) (count + 1) ≡ []
no-buffers count sessions helds r is = none-found (count + 1) (record { session = count + 1; buffers = [] }) helds refl (later-held count sessions helds r is)

none-held : (session : ℕ) (helds : List SessionBuffers) → Each (λ (h : SessionBuffers). (h.session == session) ≡ false) helds → buffers_of_session helds session ≡ []
none-held session [] all = refl
none-held session (h ∷ hs) all = rw (all.0) (none-held session hs all.1)

pub no-buffers-yet : (count : ℕ) (sessions : List ℕ) (helds : List SessionBuffers) → Rise 0 sessions count → map id_of_session helds ≡ sessions → buffers_of_session helds (count + 1) ≡ []
no-buffers-yet count sessions helds r is = none-held (count + 1) helds (later-held count sessions helds r is)

pub any-last : (session : ℕ) (ns : List ℕ) → list_any (λ (k : ℕ). k == session) (ns ++ session ∷ []) ≡ true
any-last session [] = rw (eq-eqb session session refl) refl
any-last session (n ∷ ns) = by (n == session) (any-last session ns)
  where
    by : (b : Bool) → list_any (λ (k : ℕ). k == session) (ns ++ session ∷ []) ≡ true → (b || list_any (λ (k : ℕ). k == session) (ns ++ session ∷ [])) ≡ true
    by true rest = refl
    by false rest = rest
