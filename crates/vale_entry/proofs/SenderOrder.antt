-- In every legal history a sender's frames are given to a port in the order of its entries.
use Rattle.std.proofs.Common.{ℕ, ◌+◌, ◌≤◌, ◌≡◌, ◌⊎◌, inl, inr, Bool, true, false, cond, ◌==◌, List, [], ◌∷◌, ◌++◌, map, length, take, filter, find, flat_map, Option, Some, None, refl, sym, ◌∙◌, ap, subst, arith, append-nil, min}
use Rattle.std.specs.List.{AllByRecursion as Each}
use Rattle.std.proofs.lemmas.Bool.{eqb-true, eq-eqb, cases_eq}
use Rattle.nm_types.specs.Frames.{Frame}
use Rattle.vale_entry.specs.declared.entry.Entry.{Entry}
use Rattle.vale_entry.specs.World.{World, Port, Offer, open_port, is_settled, changed_if, changed_at, transmit_monitor, receive_monitor}
use Rattle.vale_entry.specs.Opening.{opened_port}
use Rattle.vale_entry.specs.Offers.{offers_of, wanted_frames, monitored_frames, is_offer_of}
use Rattle.vale_entry.specs.Grant.{first_offer, without_first, port_after_grant, granted_frames}
use Rattle.vale_entry.specs.Delivery.{delivered_frames, port_after_done, port_after_sync}
use Rattle.vale_entry.specs.Closing.{shut, ports_without}
use Rattle.vale_entry.specs.Legal.{Standing, standing_of, world_of, sync_step, IsLegal, Follows, named_of}
use Rattle.vale_entry.specs.Laws.{Rise, IsThere, IsFrom}
use Rattle.vale_entry.specs.Delivered.{has_id, port_at, Brought, frames_brought, granted_of_offer, brought_by, brought_to, of_entry_in}
use Rattle.vale_entry.specs.Fate.{wanted_at, is_offer_to, offers_at, Share, shares_at, is_brought_of, granted_at, given_of, numbers_in, entries_of, is_among, origin_of, brought_between, puts_at}
use Rattle.vale_entry.specs.DeliveryLaws.{SenderOrderIsKept}
use Rattle.vale_entry.specs.Pipe.{frames_of_items, port_after_put}
use Rattle.vale_entry.specs.declared.entry.Item.{Item}
use Rattle.std.proofs.lemmas.Grind.{flat_map-append}
use Rattle.vale_entry.proofs.Puts.{history-puts}
use Rattle.vale_entry.proofs.Worlds.{standing-push, count-world_of}
use Rattle.vale_entry.proofs.Told.{told-push, history-by}
use Rattle.vale_entry.proofs.Follows.{EachKind, Left, follows-by}
use Rattle.vale_entry.proofs.Tells.{tells-nothing, tells-received, tells-put}
use Rattle.vale_entry.proofs.Closings.{settled-none}
use Rattle.vale_entry.proofs.Each.{each-find, each-offers_of, each-without_first, each-all}
use Rattle.vale_entry.proofs.PortAt.{IsKeptAt, same_port, no_port, kept-map, kept-if, first_of, find-append, port_at-map, port_at-changed, port_at-below, port_at-without, port_at-without_other, Found, found-open}
use Rattle.vale_entry.proofs.Numbered.{Numbered, world-numbered}
use Rattle.vale_entry.proofs.Offered.{first-origin, offers-granted}
use Rattle.vale_entry.proofs.SharedOnce.{history-account}
use Rattle.vale_entry.proofs.Each.{each-weaker}
use Rattle.vale_entry.proofs.Removals.{each-kept}
use Rattle.vale_entry.proofs.Shares.{no_items, no_image}
use Rattle.vale_entry.proofs.Sorted.{flat_map-same, flat_map-flat_map, sorted-parts, part-among, each-there, front-given}
use Rattle.vale_entry.proofs.Senders.{Ordered, IsKept, IsOf, ordered-still, ordered-others, ordered-sends, ordered-grants, ordered-fewer, ordered-brings}

-- the port that is found is of the session that it was of
abbrev IsSame : Option Port → Option Port → Type 0
IsSame found later = IsKeptAt (λ (p : Port). p.session) found later

kept_open :
    (numbers : List ℕ) (found : Option Port) (b : Bool) (new : Port) (later : Option Port)
    → later ≡ first_of found (cond b (Some new) None) → (b ≡ true → numbers ≡ [])
    → IsKept numbers found later
kept_open numbers (Some old) b new later e fresh port is =
    inr (old, (refl, ap (λ (p : Port). p.session) (same_port old port (sym e ∙ is))))
kept_open numbers None true new later e fresh port is = inl (fresh refl)
kept_open numbers None false new later e fresh port is = absurd (no_port port (sym e ∙ is))

abbrev KeptOrder : ℕ → ℕ → World → List ℕ → List Brought → Entry → Standing → Type 0
KeptOrder id to w numbers granted e left =
    Ordered id left.world.entry_count (port_at left.world.ports id) left.world.offers
    (numbers ++ numbers_in id w e) (granted ++ brought_by to w e.ask e.reply)

abbrev IsAlone : World → ℕ → List Brought → Type 0
IsAlone w to granted =
    (number : ℕ) (offer : Offer) (less : List Offer) → offers_at w number to ≡ offer ∷ less
    → Each (λ (gift : Brought). (gift.origin == number) ≡ false) granted

module _ (s : Standing) (id to : ℕ) (numbers : List ℕ) (granted : List Brought) (n : Numbered s)
    (alone : IsAlone s.world to granted)
    (o : Ordered id s.world.entry_count (port_at s.world.ports id) s.world.offers numbers granted)
  where
    abbrev w : World
    w = s.world

    still :
        (later : Option Port) → IsKept numbers (port_at w.ports id) later
        → Ordered id (w.entry_count + 1) later w.offers (numbers ++ []) (granted ++ [])
    still later kept =
        ordered-still id w.entry_count (port_at w.ports id) later w.offers numbers granted kept o

    same :
        Ordered id (w.entry_count + 1) (port_at w.ports id) w.offers (numbers ++ []) (granted ++ [])
    same = still (port_at w.ports id) (λ port e. inr (port, (e, refl)))

    opens : (session : ℕ) (name : List ℕ) (tx rx extra : ℕ) (later : Option Port)
        → later
        ≡ first_of (port_at w.ports id)
        (cond (w.entry_count + 1 == id)
        (Some (opened_port (w.entry_count + 1) session name tx rx extra)) None)
        → Ordered id (w.entry_count + 1) later w.offers (numbers ++ []) (granted ++ [])
    opens session name tx rx extra later e =
        still later
        (kept_open numbers (port_at w.ports id) (w.entry_count + 1 == id)
        (opened_port (w.entry_count + 1) session name tx rx extra) later e
        (λ hit.
        let same : w.entry_count + 1 ≡ id = eqb-true (w.entry_count + 1) id hit in o.future
        (omega (arith, same))))

    finishes :
        (gone : ℕ)
        → Ordered id (w.entry_count + 1) (port_at (ports_without gone w.ports) id) w.offers
        (numbers ++ []) (granted ++ [])
    finishes gone = still (port_at (ports_without gone w.ports) id) (kept (cases_eq gone id))
      where
        none_some : (later : Option Port) (port : Port) → later ≡ None → later ≡ Some port → ⊥
        none_some later port e is = absurd cc

        kept :
            (gone ≡ id) ⊎ (gone ≡ id → ⊥)
            → IsKept numbers (port_at w.ports id) (port_at (ports_without gone w.ports) id)
        kept (inl same) =
            λ port is.
            absurd
            (none_some (port_at (ports_without gone w.ports) id) port
            (subst (λ (k : ℕ). port_at (ports_without gone w.ports) k ≡ None) same
            (port_at-without w.ports gone)) is)
        kept (inr other) =
            λ port is. inr (port, (sym (port_at-without_other w.ports gone id other) ∙ is, refl))

    -- an entry that makes offers
    makes :
        (at : ℕ) (port : Port) (wants : Port → List Frame) (later : Option Port)
        → open_port w.ports at ≡ Some port → is_settled w port.session ≡ true
        → IsSame (port_at w.ports id) later
        → (hit : Bool) → (at == id) ≡ hit
        → Ordered id (w.entry_count + 1) later
        (w.offers ++ offers_of (w.entry_count + 1) port.session wants w.ports)
        (numbers ++ cond hit ((w.entry_count + 1) ∷ []) []) (granted ++ [])
    makes at port wants later e settled same true t =
        ordered-sends id w.entry_count port (port_at w.ports id) later w.offers
        (offers_of (w.entry_count + 1) port.session wants w.ports) numbers granted here session below
        (settled-none w port.session settled) n.offers_within
        (each-offers_of (IsOf (w.entry_count + 1) port.session) (w.entry_count + 1) port.session wants
        (λ k frames. (refl, refl)) w.ports) o
      where
        place : Found w.ports at port
        place = found-open w.ports w.entry_count at port n.ports_rise e

        here : port_at w.ports id ≡ Some port
        here = subst (λ (k : ℕ). port_at w.ports k ≡ Some port) (eqb-true at id t) place.here

        below : id ≤ w.entry_count
        below =
            subst (λ (k : ℕ). k ≤ w.entry_count) (place.id_is ∙ eqb-true at id t)
            (port_at-below w.ports w.entry_count at port n.ports_rise place)

        session : (next : Port) → later ≡ Some next → next.session ≡ port.session
        session next is =
            let old = same next is in
            sym old.1.1 ∙ ap (λ (p : Port). p.session) (same_port old.0 port (sym old.1.0 ∙ here))
    makes at port wants later e settled same false t =
        ordered-others id w.entry_count port.session (port_at w.ports id) later w.offers
        (offers_of (w.entry_count + 1) port.session wants w.ports) numbers granted
        (λ p is. inr (same p is))
        (each-offers_of (IsOf (w.entry_count + 1) port.session) (w.entry_count + 1) port.session wants
        (λ k frames. (refl, refl)) w.ports) o

    grants :
        (at : ℕ) (offer : Offer) (found : Option Offer) (later : Option Port) → found ≡ Some offer
        → find (is_offer_of offer.origin) w.offers ≡ Some offer → IsSame (port_at w.ports id) later
        → (hit : Bool) → (offer.to == to) ≡ hit
        → Ordered id (w.entry_count + 1) later (without_first offer.origin w.offers) (numbers ++ [])
        (granted ++ (cond hit (granted_of_offer w found) [] ++ []))
    grants at offer found later first here kept true t =
        rw first
        (ordered-grants id w.entry_count (port_at w.ports id) later w.offers
        (without_first offer.origin w.offers) numbers granted
        (record { origin = offer.origin; frames = granted_frames w offer })
        (λ p is. inr (kept p is)) (λ P all. each-without_first P offer.origin w.offers all)
        (each-find (λ (x : Offer). IsThere numbers x.origin → Each (λ (k : ℕ). k ≤ x.origin) numbers)
        (is_offer_of offer.origin) w.offers offer o.last here)
        (alone offer.origin offer
        (filter (is_offer_to offer.origin to) (without_first offer.origin w.offers)) stands)
        (each-find (IsFrom w.entry_count) (is_offer_of offer.origin) w.offers offer n.offers_within
        here) o)
      where
        hit : is_offer_to offer.origin to offer ≡ true
        hit = rw (eq-eqb offer.origin offer.origin refl) t

        stands :
            offers_at w offer.origin to
            ≡ offer ∷ filter (is_offer_to offer.origin to) (without_first offer.origin w.offers)
        stands =
            offers-granted offer.origin to offer.origin w.offers offer here
            ∙ ap
            (λ (b : Bool).
            cond b
            (offer ∷ filter (is_offer_to offer.origin to) (without_first offer.origin w.offers))
            (filter (is_offer_to offer.origin to) (without_first offer.origin w.offers))) hit
    grants at offer found later first here kept false t =
        ordered-fewer id w.entry_count (port_at w.ports id) later w.offers
        (without_first offer.origin w.offers) numbers granted
        (λ p is. inr (kept p is)) (λ P all. each-without_first P offer.origin w.offers all) o

    -- a Put makes offers, and brings frames to the other end
    puts :
        (at : ℕ) (items : List Item) (port peer : Port) (later : Option Port)
        → open_port w.ports at ≡ Some port → is_settled w port.session ≡ true
        → IsSame (port_at w.ports id) later
        → (brings : Bool)
        → Ordered id (w.entry_count + 1) later
        (w.offers
        ++ offers_of (w.entry_count + 1) port.session
        (monitored_frames (transmit_monitor w port.id) (frames_of_items items)) w.ports)
        (numbers ++ cond (at == id) ((w.entry_count + 1) ∷ []) [])
        (granted
        ++ cond brings (record { origin = w.entry_count + 1; frames = frames_of_items items } ∷ [])
        [])
    puts at items port peer later e settled kept true =
        let made =
        rw (append-nil granted) at
        (makes at port (monitored_frames (transmit_monitor w port.id) (frames_of_items items)) later e
        settled kept (at == id) refl) in
        ordered-brings id w.entry_count later _ _ granted
        (record { origin = w.entry_count + 1; frames = frames_of_items items }) refl o.within made
    puts at items port peer later e settled kept false =
        makes at port (monitored_frames (transmit_monitor w port.id) (frames_of_items items)) later e
        settled kept (at == id) refl

    changed_same :
        (at : ℕ) (change : Port → Port) → ((port : Port) → (change port).id ≡ port.id)
        → ((port : Port) → (change port).session ≡ port.session)
        → IsSame (port_at w.ports id) (port_at (changed_at at change w.ports) id)
    changed_same at change ids sessions =
        kept-map (λ (p : Port). p.session) (λ (p : Port). changed_if (p.id == at) change p)
        (λ p. kept-if (λ (q : Port). q.session) (p.id == at) change p (sessions p)) (port_at w.ports id)
        (port_at (changed_at at change w.ports) id)
        (port_at-changed at change ids w.ports id)

    kinds : EachKind s (Left s (KeptOrder id to w numbers granted))
    kinds = record {
      enters = λ user fits. same;
      quiet = λ ask session reply quiet.
          let tells = tells-nothing s ask session reply quiet in
          rw (tells.sent id, tells.granted to, tells.put to) same;
      opens =
          λ session name tx rx extra can refusal.
          opens session.0 name tx rx extra _
          (find-append (has_id id) w.ports
          (opened_port (w.entry_count + 1) session.0 name tx rx extra ∷ []));
      sends =
          λ from frames port e can settled.
          makes from.0 port (wanted_frames port (transmit_monitor w port.id) (named_of w port frames))
          (port_at w.ports id) e settled (λ p is. (p, (is, refl))) (from.0 == id) refl;
      grants = λ origin at offer first e.
          let mine = first-origin origin w.offers offer first in
          rw (sym e)
          (grants at.0 offer (first_offer w origin) _ first
          (subst (λ (m : ℕ). find (is_offer_of m) w.offers ≡ Some offer) (sym mine) first)
          (changed_same offer.to
          (port_after_grant (w.entry_count + 1) offer.session (granted_frames w offer)) (λ p. refl)
          (λ p. refl)) (offer.to == to) refl);
      completes =
          λ lease lot e.
          still _
          (λ p is.
          inr
          (kept-map (λ (p : Port). p.session) (port_after_done lease.0) (λ p. refl) (port_at w.ports id) _
          (port_at-map (port_after_done lease.0) (λ p. refl) w.ports id) p is));
      receives = λ ask at back port receives e can.
          let tells = tells-received s ask at back (sync_step s back port) receives in
          rw (tells.sent id, tells.granted to, tells.put to)
          (makes at.0 port (monitored_frames (receive_monitor w port.id) (delivered_frames port)) _ e
          can.settled
          (changed_same port.id (port_after_sync (length back)) (λ p. refl) (λ p. refl)) (at.0 == id)
          refl);
      puts = λ at offered items port peer e can found.
          let tells = tells-put s at offered items port peer e found in
          rw (tells.sent id, tells.granted to, tells.put to)
          (puts at.0 items port peer _ e can.settled
          (changed_same peer.id
          (port_after_put (w.entry_count + 1) port.session (frames_of_items items)) (λ p. refl)
          (λ p. refl)) (peer.id == to));
      watches = λ at target sides port found e can there none. same;
      shuts =
          λ at port e settled. still _
          (λ p is. inr (changed_same port.id shut (λ p. refl) (λ p. refl) p is));
      finishes = λ at bufs chain port fits e can out. finishes port.id;
      leaves = λ session can. same;
    }

-- The law.

none-found :
    {X : Type 0} (test : X → Bool) (xs : List X) → filter test xs ≡ []
    → Each (λ x. test x ≡ false) xs
none-found test [] e = tt
none-found test (x ∷ xs) e = by_test (test x) refl e (none-found test xs)
  where
    by_test :
        (b : Bool) → test x ≡ b → cond b (x ∷ filter test xs) (filter test xs) ≡ []
        → (filter test xs ≡ [] → Each (λ y. test y ≡ false) xs)
        → Each (λ y. test y ≡ false) (x ∷ xs)
    by_test true t e rest = absurd cc
    by_test false t e rest = (t, rest e)

-- where an offer stands nothing was brought of it
alone-world :
    (pool : ℕ) (h : List Entry) (to : ℕ) → IsLegal pool h
    → IsAlone (world_of pool h) to (brought_to pool h to)
alone-world pool h to legal number offer less stands =
    let k = history-account pool h legal number to in
    let puts = history-puts pool h legal number to in
    let one : length (offers_at (world_of pool h) number to) ≡ length less + 1 =
    ap (λ (os : List Offer). length os) stands ∙ omega arith in
    let none : shares_at h number to ≡ [] =
    no_items (shares_at h number to) (omega (arith, k.once, one)) in
    let images : map frames_brought (granted_at pool h number to) ≡ [] =
    k.first_given
    ∙ ap
    (λ (shares : List Share).
    map (λ (share : Share). take share.given (wanted_at pool h number to)) shares) none in
    let no_grant : granted_at pool h number to ≡ [] =
    no_image frames_brought (granted_at pool h number to) images in
    let no_put : puts_at pool h number to ≡ [] =
    by_case (puts.alone) (omega (arith, k.once, one)) in
    none-found (is_brought_of number) (brought_to pool h to)
    (puts.parts ∙ (ap (λ (xs : List Brought). xs ++ granted_at pool h number to) no_put ∙ no_grant))
  where
    by_case :
        (puts_at pool h number to ≡ []) ⊎ (wanted_at pool h number to ≡ [])
        → 1 ≤ min 1 (length (wanted_at pool h number to)) → puts_at pool h number to ≡ []
    by_case (inl none) some = none
    by_case (inr none) some =
        let empty : length (wanted_at pool h number to)
        ≡ 0 = ap (λ (xs : List Frame). length xs) none in absurd (omega (arith, some, empty))

abbrev OrderAt : ℕ → ℕ → ℕ → List Entry → Type 0
OrderAt id to pool h =
    Ordered id (world_of pool h).entry_count (port_at (world_of pool h).ports id)
    (world_of pool h).offers (entries_of pool h id) (brought_to pool h to)

order-is :
    (id : ℕ) (w v : World) (numbers ns : List ℕ) (granted gifts : List Brought) → w ≡ v
    → numbers ≡ ns → granted ≡ gifts
    → Ordered id v.entry_count (port_at v.ports id) v.offers ns gifts
    → Ordered id w.entry_count (port_at w.ports id) w.offers numbers granted
order-is id w v numbers ns granted gifts a b c o = rw (a, b, c) o

order-keeps :
    (id to pool : ℕ) (h : List Entry) (e : Entry) → IsLegal pool h → Follows (standing_of pool h) e
    → OrderAt id to pool h → OrderAt id to pool (h ++ e ∷ [])
order-keeps id to pool h e legal follows o =
    let s = standing_of pool h in
    let next = follows-by s (KeptOrder id to s.world (entries_of pool h id) (brought_to pool h to))
    e follows
    (kinds s id to (entries_of pool h id) (brought_to pool h to) (world-numbered pool h)
    (alone-world pool h to legal) o) in
    order-is id _ _ _ _ _ _ (ap (λ (s : Standing). s.world) (standing-push pool h e))
    (told-push (numbers_in id) pool h e) (told-push (of_entry_in brought_by to) pool h e) next

pub history-order :
    (pool : ℕ) (h : List Entry) → IsLegal pool h → (id to : ℕ) → OrderAt id to pool h
history-order pool h legal id to =
    history-by pool (OrderAt id to pool) (order-keeps id to pool)
    (record {
      numbers_rise = omega arith;
      within = tt;
      brought_rises = omega arith;
      last = tt;
      owner = tt;
      future = λ above. refl;
    }) h legal

-- what was brought of an entry that the port sent is what was given of the entry
given-of :
    (pool : ℕ) (h : List Entry) → IsLegal pool h → (from to k : ℕ)
    → IsThere (entries_of pool h from) k
    → flat_map frames_brought (filter (is_brought_of k) (brought_between pool h from to))
    ≡ given_of pool h k to
given-of pool h legal from to k there =
    let account = history-account pool h legal k to in
    let puts = history-puts pool h legal k to in
    let few : length (shares_at h k to) ≤ 1 = omega (arith, account.once) in
    ap (flat_map frames_brought)
    (part-among (entries_of pool h from) k (brought_to pool h to) there ∙ puts.parts)
    ∙ flat_map-append frames_brought (puts_at pool h k to) (granted_at pool h k to)
    ∙ ap (λ (xs : List Frame). flat_map frames_brought (puts_at pool h k to) ++ xs)
    (front-given (wanted_at pool h k to) (shares_at h k to) (granted_at pool h k to) few
    account.first_given)

pub sender-order : SenderOrderIsKept
sender-order pool h legal from to =
    let o = history-order pool h legal from to in
    let numbers = entries_of pool h from in
    let between = brought_between pool h from to in
    let count = count-world_of pool h in
    let rise : Rise 0 numbers (length h) =
    subst (λ (n : ℕ). Rise 0 numbers n) count o.numbers_rise in
    let grants : Rise 0 (map origin_of between) (length h) =
    subst (λ (n : ℕ). Rise 0 (map origin_of between) n) count o.brought_rises in
    let mine = each-kept (λ (granted : Brought). Unit {0})
    (λ (granted : Brought). IsThere numbers granted.origin) (is_among numbers)
    (λ granted there here. there) (brought_to pool h to)
    (each-all (λ (granted : Brought). Unit {0}) (λ granted. tt) (brought_to pool h to)) in
    let whole = sorted-parts 0 numbers (length h) (length h) rise 0 between grants mine in
    let parts =
    each-weaker (λ (k : ℕ). IsThere numbers k)
    (λ (k : ℕ). flat_map frames_brought (filter (is_brought_of k) between) ≡ given_of pool h k to)
    (given-of pool h legal from to) numbers (each-there numbers) in
    record {
      numbers_rise = rise;
      brought_rises = grants;
      one_after_another =
          ap (flat_map frames_brought) (sym whole)
          ∙ flat_map-flat_map frames_brought (λ (k : ℕ). filter (is_brought_of k) between) numbers
          ∙ flat_map-same (λ (k : ℕ). flat_map frames_brought (filter (is_brought_of k) between))
          (λ (k : ℕ). given_of pool h k to) numbers parts;
    }
