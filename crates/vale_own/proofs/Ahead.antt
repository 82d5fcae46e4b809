-- An entry's offers are granted by rising port: a session's leases stand at ports before those of its
-- offers, and its offers rise by port.
use Rattle.std.proofs.Common.{ℕ, ◌+◌, ◌<◌, ◌≡◌, Bool, true, false, cond, not, ◌&&◌, ◌==◌, ◌⊎◌, inl, inr, List, [], ◌∷◌, ◌++◌, map, filter, find, length, Some, refl, sym, ◌∙◌, ap, subst, arith}
use Rattle.std.specs.List.{AllByRecursion as Each, list_any, cons_option}
use Rattle.std.proofs.lemmas.Bool.{ne_eqb, eqb-true, eq-eqb, cases_eq, and_parts, not-true}
use Rattle.std.proofs.Math.Bool.{and-false}
use Rattle.nm_types.specs.Frames.{Frame}
use Rattle.vale_entry.specs.declared.entry.Entry.{Entry}
use Rattle.vale_entry.specs.World.{World, Port, Lot, Offer, is_owed_by, has_lot_owed_by, is_settled, changed_if, changed_at}
use Rattle.vale_entry.specs.Offers.{offers_of, offer_to, is_offer_of}
use Rattle.vale_entry.specs.Grant.{with_lot, without_first, port_after_grant, granted_frames}
use Rattle.vale_entry.specs.Delivery.{done_if, lot_after_done, port_after_done, port_after_sync, ready_lots}
use Rattle.vale_entry.specs.Closing.{shut}
use Rattle.vale_entry.specs.Pipe.{frames_of_items, port_after_put}
use Rattle.vale_entry.specs.Laws.{Rise, id_of_port, OffersAreOfOneEntry}
use Rattle.vale_entry.specs.Legal.{Standing, Outcome, after, standing_of, fresh_standing}
use Rattle.vale_entry.proofs.Steps.{standing-by}
use Rattle.vale_entry.proofs.Follows.{EachKind, after-by}
use Rattle.vale_entry.proofs.Numbered.{Numbered, numbered_entry, world-numbered}
use Rattle.vale_entry.proofs.OneEntry.{OneEntry, one_entry}
use Rattle.vale_entry.proofs.Closings.{settled-none}
use Rattle.vale_entry.proofs.ListLaws.{place-of}
use Rattle.vale_entry.proofs.Rising.{rise-wider}
use Rattle.vale_entry.proofs.Removals.{each-filter}
use Rattle.vale_entry.proofs.Each.{each-append, each-weaker, each-map, each-drop, each-find, each-none, each-changed_at}
use Rattle.vale_own.specs.Own.{is_offer_by}
use Rattle.vale_own.specs.Laws.{NoneOwed, port_of_offer, AheadOf, GrantsGoByPort}
use Rattle.vale_own.proofs.Lists.{filter-none, offers-other, more-offers}
use Rattle.vale_own.proofs.Mine.{mine-offers}

abbrev pub Ahead : Standing → Type 0
Ahead s = (session : ℕ) → AheadOf session s.world.ports s.world.offers

abbrev AheadNext : Outcome → Type 0
AheadNext made = Ahead made.next

-- a change of ports that makes no lease
ahead-changed : (session id : ℕ) (change : Port → Port) (ports : List Port) (offers : List Offer) → ((p : Port) → (change p).id ≡ p.id) → ((p : Port) → NoneOwed session p → NoneOwed session (change p))
    → AheadOf session ports offers → AheadOf session (changed_at id change ports) offers
ahead-changed session id change ports offers same none k = record {
  low = k.low;
  high = k.high;
  behind = each-changed_at (λ (p : Port). k.low < p.id → NoneOwed session p) (λ (p : Port). k.low < p.id → NoneOwed session p) id change (λ p here. here)
      (λ p here later. none p (here (subst (λ (n : ℕ). k.low < n) (same p) later))) ports k.behind;
  rise = k.rise;
}

-- the offers of an entry rise by port
rise-offers : (origin session : ℕ) (wanted : Port → List Frame) (low : ℕ) (ports : List Port) (high : ℕ) → Rise low (map id_of_port ports) high
    → Rise low (map port_of_offer (offers_of origin session wanted ports)) high
rise-offers origin session wanted low [] high r = r
rise-offers origin session wanted low (p ∷ ps) high r = by (wanted p) (rise-offers origin session wanted p.id ps high r.1)
  where
    by : (frames : List Frame) → Rise p.id (map port_of_offer (offers_of origin session wanted ps)) high
        → Rise low (map port_of_offer (cons_option (offer_to origin session p.id frames) (offers_of origin session wanted ps))) high
    by [] rest = let first : low < p.id = r.0 in rise-wider low p.id _ high high (omega arith) (omega arith) rest
    by (frame ∷ frames) rest = (r.0, rest)

-- a settled session has no lease
settled-owed : (w : World) (session : ℕ) → is_settled w session ≡ true → Each (NoneOwed session) w.ports
settled-owed w session e =
    let parts = and_parts (not (list_any (λ (offer : Offer). offer.session == session) w.offers)) (not (list_any (has_lot_owed_by session) w.ports)) e in
    each-weaker (λ (p : Port). has_lot_owed_by session p ≡ false) (NoneOwed session) (λ p none. each-none (is_owed_by session) p.line none) w.ports
    (each-none (has_lot_owed_by session) w.ports (not-true (list_any (has_lot_owed_by session) w.ports) parts.1))

-- a settled session makes offers
ahead-more : (w : World) (owner origin : ℕ) (wanted : Port → List Frame) → is_settled w owner ≡ true → Rise 0 (map id_of_port w.ports) w.entry_count
    → (session : ℕ) → AheadOf session w.ports w.offers → AheadOf session w.ports (w.offers ++ offers_of origin owner wanted w.ports)
ahead-more w owner origin wanted settled r session k = by (cases_eq owner session)
  where
    by : (owner ≡ session) ⊎ (owner ≡ session → ⊥) → AheadOf session w.ports (w.offers ++ offers_of origin owner wanted w.ports)
    by (inl same) = subst (λ (n : ℕ). AheadOf n w.ports (w.offers ++ offers_of origin owner wanted w.ports)) same (record {
      low = 0;
      high = w.entry_count;
      behind = each-weaker (NoneOwed owner) (λ (p : Port). 0 < p.id → NoneOwed owner p) (λ p none later. none) w.ports (settled-owed w owner settled);
      rise = rw (mine-offers owner origin wanted w.ports w.offers, filter-none (is_offer_by owner) w.offers (settled-none w owner settled)) (rise-offers origin owner wanted 0 w.ports w.entry_count r);
    })
    by (inr other) = record { low = k.low; high = k.high; behind = k.behind; rise = rw (more-offers session owner origin wanted w.ports w.offers other) k.rise }

none-with_lot : (session number by : ℕ) (done : Bool) (frames : List Frame) (line : List Lot) → ((by == session) && not done) ≡ false → Each (λ (lot : Lot). is_owed_by session lot ≡ false) line
    → Each (λ (lot : Lot). is_owed_by session lot ≡ false) (with_lot number by done frames line)
none-with_lot session number by done [] line miss all = all
none-with_lot session number by done (frame ∷ frames) line miss all = each-append (λ (lot : Lot). is_owed_by session lot ≡ false) line _ all (miss, tt)

none-done : (session : ℕ) (b : Bool) (lot : Lot) → is_owed_by session lot ≡ false → is_owed_by session (done_if b lot) ≡ false
none-done session true lot none = and-false (lot.session == session)
none-done session false lot none = none

-- a session with offers of one entry has the first of that as the first of all
pub record FirstOf (session : ℕ) (offers : List Offer) (offer : Offer) : Type 0 where
  pub rest : List Offer
  pub offers_are : filter (is_offer_by session) offers ≡ offer ∷ rest
  pub left : filter (is_offer_by session) (without_first offer.origin offers) ≡ rest

first-by : (origin session : ℕ) (offers : List Offer) (offer : Offer) → find (is_offer_of origin) offers ≡ Some offer → offer.session ≡ session
    → Each (λ (o : Offer). o.session ≡ session → o.origin ≡ origin) offers
    → (rest : List Offer) × (filter (is_offer_by session) offers ≡ offer ∷ rest) × (filter (is_offer_by session) (without_first origin offers) ≡ rest)
first-by origin session [] offer e mine all = absurd cc
first-by origin session (o ∷ os) offer e mine all = by (o.origin == origin) (o.session == session) refl refl (λ f. first-by origin session os offer f mine all.1)
  where
    by : (b c : Bool) → (o.origin == origin) ≡ b → (o.session == session) ≡ c
        → (find (is_offer_of origin) os ≡ Some offer → (rest : List Offer) × (filter (is_offer_by session) os ≡ offer ∷ rest) × (filter (is_offer_by session) (without_first origin os) ≡ rest))
        → (rest : List Offer) × (filter (is_offer_by session) (o ∷ os) ≡ offer ∷ rest) × (filter (is_offer_by session) (without_first origin (o ∷ os)) ≡ rest)
    by true c t m later =
        let is : o ≡ offer = let f : cond (o.origin == origin) (Some o) (find (is_offer_of origin) os) ≡ Some offer = e in let g : Some o ≡ Some offer = rw t at f in cc in
        let hit : (o.session == session) ≡ true = eq-eqb o.session session (ap (λ (x : Offer). x.session) is ∙ mine) in
        (filter (is_offer_by session) os, rw hit (ap (λ (x : Offer). x ∷ filter (is_offer_by session) os) is), rw t refl)
    by false true t m later = absurd (let same = eq-eqb o.origin origin (all.0 (eqb-true o.session session m)) in cc)
    by false false t m later =
        let f : cond (o.origin == origin) (Some o) (find (is_offer_of origin) os) ≡ Some offer = e in
        let found : find (is_offer_of origin) os ≡ Some offer = rw t at f in
        let r = later found in
        (r.0, rw m (r.1), rw (t, m) (r.2))

pub first-of : (offers : List Offer) (origin : ℕ) (offer : Offer) → find (is_offer_of origin) offers ≡ Some offer → OffersAreOfOneEntry offers → FirstOf offer.session offers offer
first-of offers origin offer e one =
    let n = offer.session in
    let all = (one n).1 in
    let place = place-of (is_offer_of origin) offers offer e in
    let is : offer.origin ≡ origin = eqb-true offer.origin origin place.passes in
    let of_one : offer.origin ≡ (one n).0 = each-find (λ (o : Offer). o.session ≡ n → o.origin ≡ (one n).0) (is_offer_of origin) offers offer all e refl in
    let mine = subst (λ (k : ℕ). Each (λ (o : Offer). o.session ≡ n → o.origin ≡ k) offers) (sym of_one ∙ is) all in
    let r = first-by origin n offers offer e refl mine in
    record { rest = r.0; offers_are = r.1; left = ap (λ (k : ℕ). filter (is_offer_by n) (without_first k offers)) is ∙ r.2 }

-- a change at one id, of ports of that id
each-at_id : (P Q : Port → Type 0) (id : ℕ) (change : Port → Port) → ((p : Port) → P p → Q p) → ((p : Port) → p.id ≡ id → P p → Q (change p)) → (ports : List Port) → Each P ports
    → Each Q (changed_at id change ports)
each-at_id P Q id change stays becomes [] all = tt
each-at_id P Q id change stays becomes (p ∷ ps) all = (by (p.id == id) refl, each-at_id P Q id change stays becomes ps all.1)
  where
    by : (b : Bool) → (p.id == id) ≡ b → Q (changed_if b change p)
    by true t = becomes p (eqb-true p.id id t) all.0
    by false t = stays p all.0

-- a grant
ahead-granted : (w : World) (number origin : ℕ) (offer : Offer) (frames : List Frame) → find (is_offer_of origin) w.offers ≡ Some offer → OffersAreOfOneEntry w.offers
    → (session : ℕ) → AheadOf session w.ports w.offers
    → AheadOf session (changed_at offer.to (port_after_grant number offer.session frames) w.ports) (without_first offer.origin w.offers)
ahead-granted w number origin offer frames e one session k = by (cases_eq offer.session session)
  where
    change : Port → Port
    change = port_after_grant number offer.session frames

    new : List Offer
    new = without_first offer.origin w.offers

    by : (offer.session ≡ session) ⊎ (offer.session ≡ session → ⊥) → AheadOf session (changed_at offer.to change w.ports) new
    by (inl same) =
        let k' = subst (λ (n : ℕ). AheadOf n w.ports w.offers) (sym same) k in
        let f = first-of w.offers origin offer e one in
        let r : Rise k'.low (offer.to ∷ map port_of_offer f.rest) k'.high = subst (λ (os : List Offer). Rise k'.low (map port_of_offer os) k'.high) f.offers_are k'.rise in
        let first : k'.low < offer.to = r.0 in
        subst (λ (n : ℕ). AheadOf n (changed_at offer.to change w.ports) new) same (record {
          low = offer.to;
          high = k'.high;
          behind = each-at_id (λ (p : Port). k'.low < p.id → NoneOwed offer.session p) (λ (p : Port). offer.to < p.id → NoneOwed offer.session p) offer.to change
              (λ p none later. none (omega (arith, first, later))) (λ p is none later. absurd (omega (arith, is, later))) w.ports k'.behind;
          rise = rw (f.left) (r.1);
        })
    by (inr other) =
        let is : offer.origin ≡ origin = eqb-true offer.origin origin (place-of (is_offer_of origin) w.offers offer e).passes in
        let fewer : filter (is_offer_by session) new ≡ filter (is_offer_by session) w.offers = rw is (offers-other session origin w.offers offer e other) in
        let c = ahead-changed session offer.to change w.ports w.offers (λ p. refl)
        (λ p none. none-with_lot session number offer.session false frames p.line (rw (ne_eqb offer.session session other) refl) none) k in
        record { low = c.low; high = c.high; behind = c.behind; rise = rw fewer (c.rise) }

ahead_kinds : (s : Standing) → Numbered s → OneEntry s → Ahead s → EachKind s (λ ask made. AheadNext made)
ahead_kinds s n one k = record {
  enters = λ user fits. k;
  quiet = λ ask by reply quiet. k;
  opens = λ by name tx rx extra can refusal session. record {
    low = (k session).low;
    high = (k session).high;
    behind = each-append (λ (p : Port). (k session).low < p.id → NoneOwed session p) w.ports _ (k session).behind (λ later. tt, tt);
    rise = (k session).rise;
  };
  sends = λ from frames port e can settled session. ahead-more w port.session (w.entry_count + 1) _ settled n.ports_rise session (k session);
  grants = λ origin to offer first same session. ahead-granted w (w.entry_count + 1) origin offer (granted_frames w offer) first one session (k session);
  completes = λ lease lot e session. record {
    low = (k session).low;
    high = (k session).high;
    behind = each-map (λ (p : Port). (k session).low < p.id → NoneOwed session p) (λ (p : Port). (k session).low < p.id → NoneOwed session p) (port_after_done lease.0)
        (λ p none later. each-map (λ (l : Lot). is_owed_by session l ≡ false) (λ (l : Lot). is_owed_by session l ≡ false) (lot_after_done lease.0)
        (λ l here. none-done session (l.number == lease.0) l here) p.line (none later)) w.ports (k session).behind;
    rise = (k session).rise;
  };
  receives = λ ask at back port receives e can session.
      ahead-changed session port.id (port_after_sync (length back)) w.ports _ (λ p. refl) (λ p none. each-drop (λ (l : Lot). is_owed_by session l ≡ false) (length (ready_lots p)) p.line none)
      (ahead-more w port.session (w.entry_count + 1) _ can.settled n.ports_rise session (k session));
  puts = λ at offered items port peer e can found session.
      ahead-changed session peer.id (port_after_put (w.entry_count + 1) port.session (frames_of_items items)) w.ports _ (λ p. refl)
      (λ p none. none-with_lot session (w.entry_count + 1) port.session true (frames_of_items items) p.line (and-false (port.session == session)) none)
      (ahead-more w port.session (w.entry_count + 1) _ can.settled n.ports_rise session (k session));
  watches = λ at target sides port found e can there none. k;
  shuts = λ at port e settled session. ahead-changed session port.id shut w.ports w.offers (λ p. refl) (λ p none. none) (k session);
  finishes = λ at bufs chain port fits e can out session. record {
    low = (k session).low;
    high = (k session).high;
    behind = each-filter (λ (p : Port). (k session).low < p.id → NoneOwed session p) _ w.ports (k session).behind;
    rise = (k session).rise;
  };
  leaves = λ by can. k;
}
  where
    w : World
    w = s.world

ahead_entry : (s : Standing) (e : Entry) → Numbered s → OneEntry s → Ahead s → Ahead (after s e)
ahead_entry s e n one k = after-by s Ahead e k (ahead_kinds s n one k)

pub ahead-of : (pool : ℕ) (h : List Entry) → Ahead (standing_of pool h)
ahead-of pool h =
    (standing-by (λ (s : Standing). (Numbered s × OneEntry s) × Ahead s) (λ s e k. ((numbered_entry s e k.0.0, one_entry s e k.0.1), ahead_entry s e k.0.0 k.0.1 k.1)) (fresh_standing pool) h
    ((world-numbered pool [], λ session. (0, tt)), λ session. record { low = 0; high = 0; behind = tt; rise = omega arith })).1

pub grants-by-port : GrantsGoByPort
grants-by-port pool h session = ahead-of pool h session
