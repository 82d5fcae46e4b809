-- What the changes that a session makes leave of its ports, offers, leases and buffers.
use Rattle.std.proofs.Common.{ℕ, ◌≡◌, Bool, true, false, cond, not, ◌||◌, ◌==◌, List, [], ◌∷◌, ◌++◌, map, filter, flat_map, refl, sym, ◌∙◌, ap, ap₂}
use Rattle.std.specs.List.{AllByRecursion as Each, list_any, zip}
use Rattle.std.proofs.lemmas.Bool.{eqb-true, eq-eqb}
use Rattle.std.proofs.Math.Bool.{and-false}
use Rattle.std.proofs.lemmas.List.Elements.{filter-append}
use Rattle.nm_types.specs.Frames.{Frame}
use Rattle.vale_entry.specs.World.{Port, Lot, Offer, changed_at, is_owed_by}
use Rattle.vale_entry.specs.Offers.{offers_of}
use Rattle.vale_entry.specs.Delivery.{lot_after_done, ports_after_done}
use Rattle.vale_entry.specs.Closing.{is_port_of, ports_without}
use Rattle.vale_entry.specs.Holdings.{PortBuffers, SessionBuffers, buffers_of_session, sessions_given, sessions_less, buffers_without}
use Rattle.vale_entry.specs.Laws.{IsThere, id_of_session}
use Rattle.vale_entry.proofs.Each.{each-offers_of}
use Rattle.vale_own.proofs.Lists.{filter-every}
use Rattle.vale_own.specs.Own.{HeldLot, port_alone, is_offer_by, is_lease_of, leases_at}

-- the session's offers are one entry's more
pub mine-offers : (session n : ℕ) (wanted : Port → List Frame) (ports : List Port) (offers : List Offer)
    → filter (is_offer_by session) (offers ++ offers_of n session wanted ports) ≡ filter (is_offer_by session) offers ++ offers_of n session wanted ports
mine-offers session n wanted ports offers =
    filter-append (is_offer_by session) offers (offers_of n session wanted ports)
    ∙ ap (λ (os : List Offer). filter (is_offer_by session) offers ++ os)
    (filter-every (is_offer_by session) (offers_of n session wanted ports)
    (each-offers_of (λ (o : Offer). is_offer_by session o ≡ true) n session wanted (λ at frames. eq-eqb session session refl) ports))

-- a change at one id
pub mine-changed : (session id : ℕ) (change seen : Port → Port) → ((p : Port) → (change p).session ≡ p.session) → (ports : List Port)
    → Each (λ (p : Port). p.id ≡ id → port_alone (change p) ≡ seen (port_alone p)) ports
    → filter (is_port_of session) (map port_alone (changed_at id change ports)) ≡ changed_at id seen (filter (is_port_of session) (map port_alone ports))
mine-changed session id change seen keeps [] all = refl
mine-changed session id change seen keeps (p ∷ ps) all = by (p.id == id) (p.session == session) refl refl (mine-changed session id change seen keeps ps all.1)
  where
    by : (b c : Bool) → (p.id == id) ≡ b → (p.session == session) ≡ c
        → filter (is_port_of session) (map port_alone (changed_at id change ps)) ≡ changed_at id seen (filter (is_port_of session) (map port_alone ps))
        → filter (is_port_of session) (map port_alone (changed_at id change (p ∷ ps))) ≡ changed_at id seen (filter (is_port_of session) (map port_alone (p ∷ ps)))
    by true true t m rest =
        let stays : ((change p).session == session) ≡ true = ap (λ (k : ℕ). k == session) (keeps p) ∙ m in
        rw (t, stays, m, t) (ap₂ (λ (q : Port) (qs : List Port). q ∷ qs) (all.0 (eqb-true p.id id t)) rest)
    by true false t m rest =
        let stays : ((change p).session == session) ≡ false = ap (λ (k : ℕ). k == session) (keeps p) ∙ m in
        rw (t, stays, m) rest
    by false true t m rest = rw (t, m, t) (ap (λ (qs : List Port). port_alone p ∷ qs) rest)
    by false false t m rest = rw (t, m) rest

pub mine-without : (session id : ℕ) (ports : List Port)
    → filter (is_port_of session) (map port_alone (ports_without id ports)) ≡ ports_without id (filter (is_port_of session) (map port_alone ports))
mine-without session id [] = refl
mine-without session id (p ∷ ps) = by (p.id == id) (p.session == session) refl refl (mine-without session id ps)
  where
    by : (b c : Bool) → (p.id == id) ≡ b → (p.session == session) ≡ c
        → filter (is_port_of session) (map port_alone (ports_without id ps)) ≡ ports_without id (filter (is_port_of session) (map port_alone ps))
        → filter (is_port_of session) (map port_alone (ports_without id (p ∷ ps))) ≡ ports_without id (filter (is_port_of session) (map port_alone (p ∷ ps)))
    by true true t m rest = rw (t, m, t) rest
    by true false t m rest = rw (t, m) rest
    by false true t m rest = rw (t, m, t) (ap (λ (qs : List Port). port_alone p ∷ qs) rest)
    by false false t m rest = rw (t, m) rest

-- a lease is done
mine-done_at : (session number : ℕ) (line : List Lot) (lots : List (List ℕ))
    → filter (is_lease_of session) (zip (map (lot_after_done number) line) lots) ≡ filter (λ (lease : HeldLot). not (lease.0.number == number)) (filter (is_lease_of session) (zip line lots))
mine-done_at session number [] lots = refl
mine-done_at session number (l ∷ line) [] = refl
mine-done_at session number (l ∷ line) (buffers ∷ lots) = by (l.number == number) (is_owed_by session l) refl refl (mine-done_at session number line lots)
  where
    by : (b c : Bool) → (l.number == number) ≡ b → is_owed_by session l ≡ c
        → filter (is_lease_of session) (zip (map (lot_after_done number) line) lots) ≡ filter (λ (lease : HeldLot). not (lease.0.number == number)) (filter (is_lease_of session) (zip line lots))
        → filter (is_lease_of session) (zip (map (lot_after_done number) (l ∷ line)) (buffers ∷ lots)) ≡ filter (λ (lease : HeldLot). not (lease.0.number == number)) (filter (is_lease_of session) (zip (l ∷ line) (buffers ∷ lots)))
    by true true t m rest = rw (m, t, and-false) rest
    by true false t m rest = rw (m, t, and-false) rest
    by false true t m rest = rw (t, m, t) (ap (λ (ls : List HeldLot). (l, buffers) ∷ ls) rest)
    by false false t m rest = rw (t, m) rest

pub mine-done : (session number : ℕ) (ports : List Port) (helds : List PortBuffers)
    → flat_map (leases_at session) (zip (ports_after_done number ports) helds) ≡ filter (λ (lease : HeldLot). not (lease.0.number == number)) (flat_map (leases_at session) (zip ports helds))
mine-done session number [] helds = refl
mine-done session number (p ∷ ps) [] = refl
mine-done session number (p ∷ ps) (h ∷ hs) =
    ap₂ (λ (xs ys : List HeldLot). xs ++ ys) (mine-done_at session number p.line h.lots) (mine-done session number ps hs)
    ∙ sym (filter-append (λ (lease : HeldLot). not (lease.0.number == number)) (leases_at session (p, h)) (flat_map (leases_at session) (zip ps hs)))

-- buffers go and come
pub mine-less : (session : ℕ) (gone : List ℕ) (helds : List SessionBuffers)
    → buffers_of_session (sessions_less session gone helds) session ≡ buffers_without gone (buffers_of_session helds session)
mine-less session gone [] = refl
mine-less session gone (h ∷ hs) = by (h.session == session) refl (mine-less session gone hs)
  where
    by : (b : Bool) → (h.session == session) ≡ b → buffers_of_session (sessions_less session gone hs) session ≡ buffers_without gone (buffers_of_session hs session)
        → buffers_of_session (sessions_less session gone (h ∷ hs)) session ≡ buffers_without gone (buffers_of_session (h ∷ hs) session)
    by true t rest = rw (t, t) refl
    by false t rest = rw (t, t) rest

pub mine-given : (session : ℕ) (more : List ℕ) (helds : List SessionBuffers) → IsThere (map id_of_session helds) session
    → buffers_of_session (sessions_given session more helds) session ≡ buffers_of_session helds session ++ more
mine-given session more [] there = absurd cc
mine-given session more (h ∷ hs) there = by (h.session == session) refl there (mine-given session more hs)
  where
    by : (b : Bool) → (h.session == session) ≡ b → (b || list_any (λ (k : ℕ). k == session) (map id_of_session hs)) ≡ true
        → (IsThere (map id_of_session hs) session → buffers_of_session (sessions_given session more hs) session ≡ buffers_of_session hs session ++ more)
        → buffers_of_session (sessions_given session more (h ∷ hs)) session ≡ buffers_of_session (h ∷ hs) session ++ more
    by true t here rest = rw (t, t) refl
    by false t here rest = rw (t, t) (rest here)

ids-less : (session : ℕ) (gone : List ℕ) (helds : List SessionBuffers) → map id_of_session (sessions_less session gone helds) ≡ map id_of_session helds
ids-less session gone [] = refl
ids-less session gone (h ∷ hs) = ap₂ (λ (n : ℕ) (ns : List ℕ). n ∷ ns) (by (h.session == session)) (ids-less session gone hs)
  where
    by : (b : Bool) → id_of_session (cond b (record h { buffers = buffers_without gone h.buffers }) h) ≡ h.session
    by true = refl
    by false = refl

pub mine-moved : (session : ℕ) (gone more : List ℕ) (helds : List SessionBuffers) → IsThere (map id_of_session helds) session
    → buffers_of_session (sessions_given session more (sessions_less session gone helds)) session ≡ buffers_without gone (buffers_of_session helds session) ++ more
mine-moved session gone more helds there =
    let same : IsThere (map id_of_session (sessions_less session gone helds)) session = rw (ids-less session gone helds) there in
    mine-given session more (sessions_less session gone helds) same ∙ ap (λ (bs : List ℕ). bs ++ more) (mine-less session gone helds)

-- a session that leaves
pub mine-left : (session : ℕ) (helds : List SessionBuffers) → buffers_of_session (filter (λ (h : SessionBuffers). not (h.session == session)) helds) session ≡ []
mine-left session [] = refl
mine-left session (h ∷ hs) = by (h.session == session) refl (mine-left session hs)
  where
    by : (b : Bool) → (h.session == session) ≡ b → buffers_of_session (filter (λ (x : SessionBuffers). not (x.session == session)) hs) session ≡ []
        → buffers_of_session (filter (λ (x : SessionBuffers). not (x.session == session)) (h ∷ hs)) session ≡ []
    by true t rest = rw t rest
    by false t rest = rw (t, t) rest

pub none-left : (session : ℕ) (ns : List ℕ) → list_any (λ (k : ℕ). k == session) (filter (λ (k : ℕ). not (k == session)) ns) ≡ false
none-left session [] = refl
none-left session (n ∷ ns) = by (n == session) refl (none-left session ns)
  where
    by : (b : Bool) → (n == session) ≡ b → list_any (λ (k : ℕ). k == session) (filter (λ (k : ℕ). not (k == session)) ns) ≡ false
        → list_any (λ (k : ℕ). k == session) (filter (λ (k : ℕ). not (k == session)) (n ∷ ns)) ≡ false
    by true t rest = rw t rest
    by false t rest = rw (t, t) rest
