-- In every legal history the frames of an entry that are wanted at a port are offered and shared
-- out once.
use Rattle.std.proofs.Common.{ℕ, ◌+◌, ◌-◌, ◌≡◌, ◌⊎◌, inl, inr, Bool, true, false, cond, ◌&&◌, ◌==◌, List, [], ◌∷◌, ◌++◌, length, take, filter, find, Option, Some, None, refl, sym, ◌∙◌, ap, subst, arith, append-nil, rules}
use Rattle.std.proofs.lemmas.List.Elements.{filter-append}
use Rattle.std.proofs.lemmas.Bool.{eqb-true}
use Rattle.nm_types.specs.Frames.{Frame}
use Rattle.vale_entry.specs.declared.entry.Entry.{Entry}
use Rattle.vale_entry.specs.World.{World, Port, Offer, open_port, space_of, transmit_monitor, receive_monitor}
use Rattle.vale_entry.specs.Offers.{offers_of, wanted_frames, monitored_frames, is_offer_of}
use Rattle.vale_entry.specs.Grant.{first_offer, without_first, longest_fitting, given_at, granted_frames, grant_reply, grant_reply_at}
use Rattle.vale_entry.specs.Delivery.{delivered_frames}
use Rattle.vale_entry.specs.Legal.{Standing, standing_of, world_of, sync_step, IsLegal, Follows, named_of}
use Rattle.vale_entry.specs.Delivered.{port_at, frames_at, Brought, granted_of_offer, granted_by, grants_to, of_entry_in}
use Rattle.vale_entry.specs.Fate.{wanted_of_send, wanted_of_sync, wanted_in, wanted_at, is_offer_to, offers_at, Share, share_of, share_in, shares_at, is_brought_of, granted_at, wanted_of_put}
use Rattle.vale_entry.specs.DeliveryLaws.{WantedIsSharedOnce}
use Rattle.vale_entry.specs.Pipe.{frames_of_items}
use Rattle.vale_entry.proofs.Worlds.{standing-push}
use Rattle.vale_entry.proofs.Told.{told-push, flat_map-push, history-by}
use Rattle.vale_entry.proofs.Follows.{EachKind, Left, follows-by}
use Rattle.vale_entry.proofs.Tells.{tells-nothing, tells-received, tells-put}
use Rattle.vale_entry.proofs.Numbered.{Numbered, world-numbered}
use Rattle.vale_entry.proofs.Shares.{Accounted, accounted-still, accounted-wants, accounted-grants, fitting-front, fitting-few}
use Rattle.vale_entry.proofs.Offered.{cond-same, offer_at, offers-made, offers-other, offer_at-one, offer_at-same, first-origin, offers-granted}

-- How a Grant shares out an offer.

abbrev pub share_at : Option Port → List Frame → Share
share_at None frames = record { given = 0; full = 0; gone = length frames }
share_at (Some port) frames =
    record {
      given = length (longest_fitting (space_of port) frames);
      full = length frames - length (longest_fitting (space_of port) frames);
      gone = 0;
    }

pub share_of-reply :
    (found : Option Port) (frames : List Frame)
    → share_of (grant_reply_at found frames) ≡ share_at found frames ∷ []
share_of-reply None frames = refl
share_of-reply (Some port) frames = refl

share_at-sum :
    (found : Option Port) (frames : List Frame)
    → (share_at found frames).given + (share_at found frames).full + (share_at found frames).gone ≡
    length frames
share_at-sum None frames = omega arith
share_at-sum (Some port) frames = let few = fitting-few (space_of port) frames in omega (arith, few)

share_at-cause :
    (found : Option Port) (frames : List Frame)
    → ((share_at found frames).full ≡ 0) ⊎ ((share_at found frames).gone ≡ 0)
share_at-cause None frames = inl refl
share_at-cause (Some port) frames = inr refl

share_at-front :
    (found : Option Port) (frames : List Frame)
    → given_at found frames ≡ take (share_at found frames).given frames
share_at-front None frames = refl
share_at-front (Some port) frames = fitting-front (space_of port) frames

filter_one : (number : ℕ) (gift : Brought) (mine here : Bool) → (gift.origin == number) ≡ mine
    → filter (is_brought_of number) (cond here (gift ∷ []) []) ≡ cond (mine && here) (gift ∷ []) []
filter_one number gift true true t = rw t refl
filter_one number gift true false t = refl
filter_one number gift false true t = rw t refl
filter_one number gift false false t = refl

-- Each kind of entry.

abbrev KeptAccount :
    ℕ → ℕ → World → List Frame → List Share → List Brought → Entry → Standing → Type 0
KeptAccount number to w wanted shares granted e left =
    Accounted number left.world.entry_count (wanted ++ wanted_in number to w e)
    (filter (is_offer_to number to) left.world.offers) (shares ++ share_in number to e)
    (granted ++ filter (is_brought_of number) (granted_by to w e.ask e.reply))

module _ (s : Standing) (number to : ℕ) (wanted : List Frame) (shares : List Share)
    (granted : List Brought) (n : Numbered s)
    (k : Accounted number s.world.entry_count wanted (offers_at s.world number to) shares granted)
  where
    abbrev w : World
    w = s.world

    still :
        Accounted number (w.entry_count + 1) (wanted ++ cond (w.entry_count + 1 == number) [] [])
        (offers_at w number to) (shares ++ []) (granted ++ [])
    still =
        rw (cond-same {X = List Frame} (w.entry_count + 1 == number) [])
        (accounted-still number w.entry_count wanted (offers_at w number to) shares granted k)

    -- an entry that makes offers
    makes :
        (session : ℕ) (wants : Port → List Frame) (mine : Bool) → (w.entry_count + 1 == number) ≡ mine
        → Accounted number (w.entry_count + 1)
        (wanted ++ cond mine (frames_at wants (port_at w.ports to)) [])
        (filter (is_offer_to number to)
        (w.offers ++ offers_of (w.entry_count + 1) session wants w.ports)) (shares ++ [])
        (granted ++ [])
    makes session wants true t =
        let same : w.entry_count + 1 ≡ number = eqb-true (w.entry_count + 1) number t in
        let all = accounted-wants number w.entry_count wanted (offers_at w number to) shares granted
        (frames_at wants (port_at w.ports to))
        (offer_at (w.entry_count + 1) session wants (port_at w.ports to)) same
        (offer_at-one (w.entry_count + 1) session wants (port_at w.ports to))
        (offer_at-same (w.entry_count + 1) session wants (port_at w.ports to)) k in
        rw (
          filter-append (is_offer_to number to) w.offers
              (offers_of (w.entry_count + 1) session wants w.ports),
          offers-made number to
              (w.entry_count + 1) session wants w.ports w.entry_count same n.ports_rise,
        ) all
    makes session wants false t =
        rw (
          filter-append (is_offer_to number to) w.offers
              (offers_of (w.entry_count + 1) session wants w.ports),
          offers-other number to
              (w.entry_count + 1) session wants w.ports t,
          append-nil (offers_at w number to),
        )
        (accounted-still number w.entry_count wanted (offers_at w number to) shares granted k)

    sends :
        (session : ℕ) (frames : List Frame) (found : Option Port) (port : Port) → found ≡ Some port
        → Accounted number (w.entry_count + 1)
        (wanted ++ cond (w.entry_count + 1 == number) (wanted_of_send w frames to found) [])
        (filter (is_offer_to number to)
        (w.offers
        ++ offers_of (w.entry_count + 1) session
        (wanted_frames port (transmit_monitor w port.id) (named_of w port frames)) w.ports))
        (shares ++ []) (granted ++ [])
    sends session frames found port e =
        rw e
        (makes session (wanted_frames port (transmit_monitor w port.id) (named_of w port frames))
        (w.entry_count + 1 == number) refl)

    syncs : (session : ℕ) (found : Option Port) (port : Port) → found ≡ Some port
        → Accounted number (w.entry_count + 1)
        (wanted ++ cond (w.entry_count + 1 == number) (wanted_of_sync w to found) [])
        (filter (is_offer_to number to)
        (w.offers
        ++ offers_of (w.entry_count + 1) session
        (monitored_frames (receive_monitor w port.id) (delivered_frames port)) w.ports))
        (shares ++ []) (granted ++ [])
    syncs session found port e =
        rw e
        (makes session (monitored_frames (receive_monitor w port.id) (delivered_frames port))
        (w.entry_count + 1 == number) refl)

    puts : (session : ℕ) (frames : List Frame) (found : Option Port) (port : Port) → found ≡ Some port
        → Accounted number (w.entry_count + 1)
        (wanted ++ cond (w.entry_count + 1 == number) (wanted_of_put w frames to found) [])
        (filter (is_offer_to number to)
        (w.offers
        ++ offers_of (w.entry_count + 1) session
        (monitored_frames (transmit_monitor w port.id) frames) w.ports)) (shares ++ [])
        (granted ++ [])
    puts session frames found port e =
        rw e
        (makes session (monitored_frames (transmit_monitor w port.id) frames)
        (w.entry_count + 1 == number) refl)

    -- the Grant of an offer
    shared :
        (offer : Offer) (hit : Bool)
        → offers_at w number to
        ≡ cond hit (offer ∷ filter (is_offer_to number to) (without_first offer.origin w.offers))
        (filter (is_offer_to number to) (without_first offer.origin w.offers))
        → Accounted number (w.entry_count + 1) (wanted ++ [])
        (filter (is_offer_to number to) (without_first offer.origin w.offers))
        (shares ++ cond hit (share_at (open_port w.ports offer.to) offer.frames ∷ []) [])
        (granted
        ++ cond hit (record { origin = offer.origin; frames = granted_frames w offer } ∷ []) [])
    shared offer true e =
        let found = open_port w.ports offer.to in
        let account =
        subst (λ (os : List Offer). Accounted number w.entry_count wanted os shares granted) e k in
        accounted-grants number w.entry_count wanted offer
        (filter (is_offer_to number to) (without_first offer.origin w.offers)) shares granted
        (share_at found offer.frames)
        (record { origin = offer.origin; frames = granted_frames w offer })
        (share_at-sum found offer.frames) (share_at-cause found offer.frames)
        (share_at-front found offer.frames) account
    shared offer false e =
        accounted-still number w.entry_count wanted
        (filter (is_offer_to number to) (without_first offer.origin w.offers)) shares granted
        (subst (λ (os : List Offer). Accounted number w.entry_count wanted os shares granted) e k)

    grants :
        (origin at : ℕ) (offer : Offer) (found : Option Offer) → found ≡ Some offer
        → offer.origin ≡ origin → find (is_offer_of offer.origin) w.offers ≡ Some offer
        → offer.to ≡ at
        → Accounted number (w.entry_count + 1) (wanted ++ cond (w.entry_count + 1 == number) [] [])
        (filter (is_offer_to number to) (without_first offer.origin w.offers))
        (shares ++ cond ((origin == number) && (at == to)) (share_of (grant_reply w offer)) [])
        (granted ++ filter (is_brought_of number) (cond (at == to) (granted_of_offer w found) []))
    grants origin at offer found first mine here same =
        let all =
        shared offer (is_offer_to number to offer)
        (offers-granted number to offer.origin w.offers offer here) in
        let one =
        filter_one number (record { origin = offer.origin; frames = granted_frames w offer })
        (offer.origin == number) (offer.to == to) refl in
        rw (
          first,
          sym mine,
          sym same,
          cond-same {X = List Frame} (w.entry_count + 1 == number) [],
          share_of-reply (open_port w.ports offer.to) offer.frames,
          one,
        ) all

    kinds : EachKind s (Left s (KeptAccount number to w wanted shares granted))
    kinds = record {
      enters = λ user fits. still;
      quiet = λ ask session reply quiet.
          let tells = tells-nothing s ask session reply quiet in
          rw (tells.wanted number to, tells.shares number to, tells.granted to) still;
      opens = λ session name tx rx extra can refusal. still;
      sends =
          λ from frames port e can settled. sends port.session frames (open_port w.ports from.0) port
          e;
      grants = λ origin at offer first same.
          let mine = first-origin origin w.offers offer first in
          grants origin at.0 offer (first_offer w origin) first mine
          (subst (λ (m : ℕ). find (is_offer_of m) w.offers ≡ Some offer) (sym mine) first) same;
      completes = λ lease lot e. still;
      receives = λ ask at back port receives e can.
          let tells = tells-received s ask at back (sync_step s back port) receives in
          rw (tells.wanted number to, tells.shares number to, tells.granted to)
          (syncs port.session (open_port w.ports at.0) port e);
      puts = λ at offered items port peer e can found.
          let tells = tells-put s at offered items port peer e found in
          rw (tells.wanted number to, tells.shares number to, tells.granted to)
          (puts port.session (frames_of_items items) (open_port w.ports at.0) port e);
      watches = λ at target sides port found e can there none. still;
      shuts = λ at port e settled. still;
      finishes = λ at bufs chain port fits e can out. still;
      leaves = λ session can. still;
    }

-- The laws.

abbrev AccountAt : ℕ → ℕ → ℕ → List Entry → Type 0
AccountAt number to pool h =
    Accounted number (world_of pool h).entry_count (wanted_at pool h number to)
    (offers_at (world_of pool h) number to) (shares_at h number to) (granted_at pool h number to)

granted_at-push : (pool : ℕ) (h : List Entry) (e : Entry) (number to : ℕ)
    → granted_at pool (h ++ e ∷ []) number to
    ≡ granted_at pool h number to ++ filter (is_brought_of number)
    (granted_by to (world_of pool h) e.ask e.reply)
granted_at-push pool h e number to =
    ap (filter (is_brought_of number)) (told-push (of_entry_in granted_by to) pool h e)
    ∙ filter-append (is_brought_of number) (grants_to pool h to)
    (granted_by to (world_of pool h) e.ask e.reply)

account-is :
    (number to : ℕ) (w v : World) (wanted wants : List Frame) (shares parts : List Share)
    (granted gifts : List Brought)
    → w ≡ v → wanted ≡ wants → shares ≡ parts → granted ≡ gifts
    → Accounted number v.entry_count wants (offers_at v number to) parts gifts
    → Accounted number w.entry_count wanted (offers_at w number to) shares granted
account-is number to w v wanted wants shares parts granted gifts a b c d k = rw (a, b, c, d) k

account-keeps :
    (number to pool : ℕ) (h : List Entry) (e : Entry) → IsLegal pool h
    → Follows (standing_of pool h) e → AccountAt number to pool h
    → AccountAt number to pool (h ++ e ∷ [])
account-keeps number to pool h e legal follows k =
    let s = standing_of pool h in
    let next = follows-by s
    (KeptAccount number to s.world (wanted_at pool h number to) (shares_at h number to)
    (granted_at pool h number to)) e follows
    (kinds s number to (wanted_at pool h number to) (shares_at h number to)
    (granted_at pool h number to) (world-numbered pool h) k) in
    account-is number to _ _ _ _ _ _ _ _ (ap (λ (s : Standing). s.world) (standing-push pool h e))
    (told-push (wanted_in number to) pool h e) (flat_map-push (share_in number to) h e)
    (granted_at-push pool h e number to) next

pub history-account : (pool : ℕ) (h : List Entry) → IsLegal pool h → (number to : ℕ)
    → Accounted number (world_of pool h).entry_count (wanted_at pool h number to)
    (offers_at (world_of pool h) number to) (shares_at h number to) (granted_at pool h number to)
history-account pool h legal number to =
    history-by pool (AccountAt number to pool) (account-keeps number to pool)
    (record {
      once = refl;
      offered = tt;
      counted = tt;
      one_cause = tt;
      first_given = refl;
      future = λ above. refl;
    }) h legal

pub wanted-shared : WantedIsSharedOnce
wanted-shared pool h legal number to =
    let k = history-account pool h legal number to in
    search (rules, k.once, k.offered, k.counted, k.one_cause, k.first_given)
