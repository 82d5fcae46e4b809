-- A session offers frames to a pipe's other end.
use Rattle.std.proofs.Common.{ℕ, zero, suc, ◌≡◌, ◌≤◌, ◌+◌, ◌-◌, ◌==◌, ◌&&◌, ◌||◌, not, nat_le, Bool, true, false, cond, min, List, [], ◌∷◌, ◌++◌, length, take, drop, Option, Some, None, option_map, refl, sym, ◌∙◌, ap, ap₂, subst, arith, length-take}
use Rattle.std.specs.Prelude.{vec_capacity, Ok, Err}
use Rattle.std.specs.List.{AllByRecursion as Each, list_all}
use Rattle.std.specs.Option.{option_map_or}
use Rattle.std.proofs.lemmas.Bool.{and_parts}
use Rattle.std.proofs.lemmas.List.{length-map}
use Rattle.nm_types.specs.Limits.{most_batch}
use Rattle.nm_types.specs.Names.{is_pipe_name}
use Rattle.nm_types.specs.declared.fault.StepFault.TheVariants as faults
use Rattle.nm_types.specs.declared.id.PortId.{PortId}
use Rattle.nm_types.specs.declared.id.SessionId.{SessionId}
use Rattle.nm_types.proofs.Tests.{not_false}
use Rattle.nm_region.specs.Buffers.{Buffer, indices_of}
use Rattle.vale_batch.specs.Wants.{Wanted}
use Rattle.vale_line.specs.declared.got.Got.{Got}
use Rattle.vale_line.specs.Gots.{buffers_of, IsSingle}
use Rattle.vale_entry.specs.declared.entry.Ask.TheVariants.{Put, PutKept}
use Rattle.vale_entry.specs.declared.entry.Item.{Item}
use Rattle.vale_entry.specs.declared.entry.Reply.{Reply}
use Rattle.vale_entry.specs.declared.entry.Reply.TheVariants.{Took, PeerGone}
use Rattle.vale_entry.specs.World.{World, Port, Offer, open_port, is_settled, space_of, transmit_monitor}
use Rattle.vale_entry.specs.Pipe.{peer_at, frames_of_items, is_pipe_item}
use Rattle.vale_entry.specs.Pipe.{indices_of as item_indices}
use Rattle.vale_entry.specs.Holdings.{PortBuffers, contains, are_distinct, buffers_without, first_idle, holds_all as all_held}
use Rattle.vale_entry.specs.Legal.{reply_of, reply_to, is_met, is_enabled, offers_of_put, IsLegal}
use Rattle.vale_entry.specs.Legal.{can_put as may_put}
use Rattle.vale_entry.proofs.Counting.{count_of-cons, count_of-append, count-away}
use Rattle.vale_entry.proofs.Each.{each-append}
use Rattle.vale_own.specs.Own.{Own, own_of}
use Rattle.vale_own.specs.OwnEntries.{own_put, own_put_at, own_after_entry}
use Rattle.vale_parts.specs.Batches.{dests_wanted}
use Rattle.vale_parts.specs.Offering.{offers_at, offers_started}
use Rattle.vale_port.specs.Kept.{bytes_of}
use Rattle.vale_book.specs.BookView.{AreOf, IsBufferOf}
use Rattle.vale_book.specs.Monitored.{IsOfferedTo}
use Rattle.vale_book.specs.Putting.{item_of, items_of, IsPut}
use Rattle.vale_book.specs.PutFaults.{IfMade, IfNotMade, IsPutRefusal}
use Rattle.vale_book.specs.Recorded.{Recorded, standing, after_ask, IsRefusal, HasRoom}
use Rattle.vale_book.specs.declared.asking.PortSeen.{PortSeen}
use Rattle.vale_book.specs.declared.fault.PutFault.{PutFault}
use Rattle.vale_book.specs.declared.fault.PutFault.TheVariants as gone
use Rattle.vale_steps.specs.declared.putting.Put.{Put as Given}
use Rattle.vale_steps.proofs.PutLists.{items-first, indices-items}
use Rattle.vale_book.proofs.Said.{Steps}
use Rattle.vale_book.proofs.PutsTold.{put-said, gone-said}
use Rattle.vale_serve.specs.declared.users.User.{User}
use Rattle.vale_serve.specs.Buffers.{holds_all, times}
use Rattle.vale_serve.specs.Exchange.{HasTakenOut, HasMore}
use Rattle.vale_serve.specs.Putting.{bytes_in, can_put, AreFramed, unput, HasPut}
use Rattle.vale_serve.specs.Replies.{dests_in, last_dests}
use Rattle.vale_serve.specs.Serving.{IsServed}
use Rattle.vale_serve.specs.Users.{HasOffers, AreSame, HasOwn, IsUser, IsAsker, SameUser, contents, sent_of, is_settled_user}
use Rattle.vale_serve.proofs.Keeping.{own-later}
use Rattle.vale_serve.proofs.Acting.{later, acts, mine-by, settled-user, settled-parts, last-told, no-memory, user-same, settled-same}
use Rattle.vale_serve.proofs.Asked.{steps-of}
use Rattle.vale_serve.proofs.Exchanges.{few-monitored, fresh-some, theirs, exchanged, few-told, back-own, back-kept}
use Rattle.vale_serve.proofs.Finishes.{own-once}
use Rattle.vale_serve.proofs.Opens.{indices-append}
use Rattle.vale_serve.proofs.Taking.{holds-same}

-- ---- whether it may

pub can-put-is : (b : Recorded) (user : User) (at : PortId) (seen : PortSeen) (offered : List Item) → IsLegal b.pool b.entries → IsUser b user
    → IsAsker user (open_port (standing b).world.ports at.0) seen → is_enabled (standing b) (Put at offered) ≡ can_put offered user seen
can-put-is b user at seen offered legal is asker =
    let own = own_of user.id.0 (standing b) in
    ap (is_met (may_put (standing b) offered)) asker.found_is
    ∙ ap (λ (t : Bool). t && nat_le (length offered) most_batch)
    (ap₂ (λ (s t : Bool). s && t) (ap is_pipe_name (sym asker.is_seen.name))
    (ap₂ (λ (s t : Bool). s && t) (ap (is_settled (standing b).world) asker.mine ∙ settled-user b user legal is)
    (ap (λ (t : Bool). list_all is_pipe_item offered && t)
    (ap (λ (n : ℕ). all_held (standing b).holdings n (item_indices offered)) asker.mine ∙ sym (holds-same user.bufs.items own.buffers (item_indices offered) is.buffers)))))

pub record CanPut (offered : List Item) (user : User) : Type 0 where
  pub settled : is_settled_user user ≡ true
  pub pipe : list_all is_pipe_item offered ≡ true
  pub holds : holds_all user.bufs.items (item_indices offered) ≡ true

pub can-put-parts : (offered : List Item) (user : User) (seen : PortSeen) → can_put offered user seen ≡ true → CanPut offered user
can-put-parts offered user seen e =
    let whole = and_parts _ (nat_le (length offered) most_batch) e in
    let one = and_parts (is_pipe_name seen.name) _ whole.0 in
    let two = and_parts (is_settled_user user) (list_all is_pipe_item offered && holds_all user.bufs.items (item_indices offered)) one.1 in
    let three = and_parts (list_all is_pipe_item offered) (holds_all user.bufs.items (item_indices offered)) two.1 in
    record { settled = two.0; pipe = three.0; holds = three.1 }

-- its session has the buffers that it names
pub put-there : (old user : User) (seen : PortSeen) (offered : List Item) (named : List ℕ) → can_put offered old seen ≡ true → SameUser old user → named ≡ item_indices offered
    → holds_all user.bufs.items named ≡ true
put-there old user seen offered named can same e =
    ap (holds_all user.bufs.items) e ∙ (ap (λ (bs : List Buffer). holds_all bs (item_indices offered)) same.bufs ∙ (can-put-parts offered old seen can).holds)

pub put-enabled : (b : Recorded) (user : User) (at : PortId) (seen : PortSeen) (offered : List Item) → IsLegal b.pool b.entries → IsUser b user
    → IsAsker user (open_port (standing b).world.ports at.0) seen → can_put offered user seen ≡ true → is_enabled (standing b) (Put at offered) ≡ true
put-enabled b user at seen offered legal is asker can = can-put-is b user at seen offered legal is asker ∙ can

pub put-refused : (b : Recorded) (user : User) (at : PortId) (seen : PortSeen) (offered : List Item) → IsLegal b.pool b.entries → IsUser b user
    → IsAsker user (open_port (standing b).world.ports at.0) seen → can_put offered user seen ≡ true → IsRefusal b (Put at offered) faults.NoMemory
put-refused b user at seen offered legal is asker can =
    let steps = steps-of b (Put at offered) (λ s. refl) (put-enabled b user at seen offered legal is asker can) in
    no-memory b (Put at offered) steps.makes steps.is

-- ---- the first of what is offered, and what is left

contains-take : (n t : ℕ) (xs : List ℕ) → contains n xs ≡ false → contains n (take t xs) ≡ false
contains-take n zero xs e = refl
contains-take n (suc t) [] e = refl
contains-take n (suc t) (x ∷ xs) e = by (x == n) e (contains-take n t xs)
  where
    by : (s : Bool) → (s || contains n xs) ≡ false → (contains n xs ≡ false → contains n (take t xs) ≡ false) → (s || contains n (take t xs)) ≡ false
    by true e rest = absurd cc
    by false e rest = rest e

distinct-take : (t : ℕ) (xs : List ℕ) → are_distinct xs ≡ true → are_distinct (take t xs) ≡ true
distinct-take zero xs e = refl
distinct-take (suc t) [] e = refl
distinct-take (suc t) (x ∷ xs) e =
    let parts = and_parts (not (contains x xs)) (are_distinct xs) e in
    ap₂ (λ (s r : Bool). not s && r) (contains-take x t xs (not_false (contains x xs) parts.0)) (distinct-take t xs parts.1)

all-take : (test : ℕ → Bool) (t : ℕ) (xs : List ℕ) → list_all test xs ≡ true → list_all test (take t xs) ≡ true
all-take test zero xs e = refl
all-take test (suc t) [] e = refl
all-take test (suc t) (x ∷ xs) e =
    let parts = and_parts (test x) (list_all test xs) e in
    ap₂ (λ (s r : Bool). s && r) parts.0 (all-take test t xs parts.1)

indices-take : (t : ℕ) (gots : List Got) → item_indices (items_of (take t gots)) ≡ take t (item_indices (items_of gots))
indices-take zero gots = refl
indices-take (suc t) [] = refl
indices-take (suc t) (got ∷ gots) = ap (λ (ns : List ℕ). got.buf.index ∷ ns) (indices-take t gots)

bytes-take : (t : ℕ) (gots : List Got) → take t (bytes_in (items_of gots)) ≡ bytes_in (items_of (take t gots))
bytes-take zero gots = refl
bytes-take (suc t) [] = refl
bytes-take (suc t) (got ∷ gots) = ap (λ (all : List (List ℕ)). (item_of got).bytes.bytes ∷ all) (bytes-take t gots)

parted : (n t : ℕ) (gots : List Got) → times n (item_indices (items_of (take t gots))) + times n (indices_of (buffers_of (drop t gots))) ≡ times n (item_indices (items_of gots))
parted n zero gots = let same = ap (times n) (sym (indices-items gots)) in omega (arith, same)
parted n (suc t) [] = omega arith
parted n (suc t) (got ∷ gots) =
    let rest = parted n t gots in
    let one = count_of-cons n got.buf.index (item_indices (items_of (take t gots))) in
    let all = count_of-cons n got.buf.index (item_indices (items_of gots)) in
    omega (arith, rest, one, all)

of-drop : (region t : ℕ) (gots : List Got) → AreOf region (buffers_of gots) → AreOf region (buffers_of (drop t gots))
of-drop region zero gots all = all
of-drop region (suc t) [] all = tt
of-drop region (suc t) (got ∷ gots) all = of-drop region t gots all.1

length-first : {X : Type 0} (t : ℕ) (xs : List X) → t ≤ length xs → length (take t xs) ≡ t
length-first zero xs few = refl
length-first (suc t) [] few = absurd (omega (arith, few))
length-first (suc t) (x ∷ xs) few = ap suc (length-first t xs (omega (arith, few)))

length-left : {X : Type 0} (t : ℕ) (xs : List X) → length (drop t xs) ≡ length xs - t
length-left zero xs = omega arith
length-left (suc t) [] = omega arith
length-left (suc t) (x ∷ xs) = let rest = length-left t xs in omega (arith, rest)

first-few : (port count : ℕ) (ports : List PortBuffers) → length (first_idle port count ports) ≤ count
first-few port count [] = omega arith
first-few port count (held ∷ others) = by (held.port == port) (first-few port count others)
  where
    by : (t : Bool) → length (first_idle port count others) ≤ count → length (cond t (take count held.idle) (first_idle port count others)) ≤ count
    by true rest = let most = length-take count held.idle in omega (arith, most)
    by false rest = rest

least : (n m : ℕ) → min n m ≤ n
least n m = omega arith

-- ---- a put that was made

pub record PutOf (b : Recorded) (user held : User) (at : PortId) (taken : List Buffer) (gots : List Got) : Type 0 where
  pub legal : IsLegal b.pool b.entries
  pub is : IsUser b user
  pub mine : (port : Port) → open_port (standing b).world.ports at.0 ≡ Some port → port.session ≡ user.id.0
  pub settled : is_settled_user user ≡ true
  pub pipe : list_all is_pipe_item (items_of gots) ≡ true
  pub holds : holds_all user.bufs.items (item_indices (items_of gots)) ≡ true
  pub out : HasTakenOut user (item_indices (items_of gots)) taken held
  pub single : Each IsSingle gots
  pub region_is : AreOf b.region (buffers_of gots)
  pub steps : Steps b (Put at (items_of gots))

some-same : (p q : Port) → Some p ≡ Some q → p ≡ q
some-same p q e = cc

put-of : (b : Recorded) (old user held : User) (at : PortId) (seen : PortSeen) (offered : List Item) (taken : List Buffer) (gots : List Got) → IsLegal b.pool b.entries → IsUser b old
    → IsAsker old (open_port (standing b).world.ports at.0) seen → can_put offered old seen ≡ true → SameUser old user → HasTakenOut user (item_indices offered) taken held → AreFramed taken offered gots
    → PutOf b user held at taken gots
put-of b old user held at seen offered taken gots legal is asker can same out framed =
    let parts = can-put-parts offered old seen can in
    let back = sym framed.items in
    let is' = user-same b old user same is in
    record {
      legal = legal;
      is = is';
      mine = λ port here.
          let whose : port ≡ asker.port = some-same port asker.port (sym here ∙ asker.found_is) in
          ap (λ (p : Port). p.session) whose ∙ (asker.mine ∙ ap (λ (i : SessionId). i.0) (sym same.id));
      settled = settled-same old user same ∙ parts.settled;
      pipe = ap (list_all is_pipe_item) framed.items ∙ parts.pipe;
      holds = ap (λ (items : List Item). holds_all user.bufs.items (item_indices items)) framed.items ∙ (ap (λ (bs : List Buffer). holds_all bs (item_indices offered)) same.bufs ∙ parts.holds);
      out = subst (λ (items : List Item). HasTakenOut user (item_indices items) taken held) back out;
      single = framed.single;
      region_is = framed.region_is b.region (out.bufs.taken_of b.region is'.region_is);
      steps = subst (λ (items : List Item). Steps b (Put at items)) back (steps-of b (Put at offered) (λ s. refl) (put-enabled b old at seen offered legal is asker can));
    }

-- the same, where the buffers are taken by a list of their names
pub put-named : (b : Recorded) (old user held : User) (at : PortId) (seen : PortSeen) (offered : List Item) (taken : List Buffer) (gots : List Got) → IsLegal b.pool b.entries → IsUser b old
    → IsAsker old (open_port (standing b).world.ports at.0) seen → can_put offered old seen ≡ true → SameUser old user → {named : List ℕ} → HasTakenOut user named taken held
    → named ≡ item_indices offered → AreFramed taken offered gots → PutOf b user held at taken gots
put-named b old user held at seen offered taken gots legal is asker can same out e framed =
    put-of b old user held at seen offered taken gots legal is asker can same (subst (λ (ns : List ℕ). HasTakenOut user ns taken held) e out) framed

module _ {b : Recorded} {user held : User} {at : PortId} {taken : List Buffer} {gots : List Got} (r : PutOf b user held at taken gots) where
  abbrev w : World
  w = (standing b).world

  abbrev own : Own
  own = own_of user.id.0 (standing b)

  said-by : (reply : Reply) → r.steps.makes.reply ≡ reply → reply_to (standing b) (Put at (items_of gots)) ≡ Some reply
  said-by reply is = ap (option_map reply_of) r.steps.is ∙ ap (λ (x : Reply). Some x) is

  module _ {after : Recorded} {put : Given} (is_put : IsPut b after at gots put) (grew : after ≡ after_ask b (Put at (items_of gots))) (had : HasRoom b (Put at (items_of gots))) where
    abbrev first : List Item
    first = items_of (take put.took gots)

    o : IsOfferedTo after is_put.port.session (transmit_monitor (standing b).world is_put.port.id) (frames_of_items (items_of (take put.took gots))) put.offers
    o = is_put.is.offers

    told : r.steps.makes.reply ≡ Took (items_of (take put.took gots)) (dests_wanted put.offers.wants)
    told = put-said r.steps r.legal is_put

    few : length put.offers.wants ≤ 1
    few =
        let most = few-monitored (transmit_monitor w is_put.port.id) (frames_of_items (items_of (take put.took gots))) in
        let wants = ap (λ (ws : List Wanted). length ws) o.wants in
        omega (arith, most, wants)

    told-dests : last_dests after.entries ≡ dests_wanted put.offers.wants
    told-dests = last-told b after (Put at (items_of gots)) r.steps.makes grew r.steps.is ∙ ap dests_in told

    pub few-dests : length (last_dests after.entries) ≤ 1
    few-dests = few-told (last_dests after.entries) put.offers.wants told-dests few

    within : put.took ≤ length gots
    within = let count = is_put.is.took in let low = least (length gots) (space_of is_put.peer) in omega (arith, count, low)

    -- no more buffers than before
    pub as-few : length (drop put.took gots) + length put.back.items ≤ length gots
    as-few =
        let back = sym (length-map put.back.items (λ (x : Buffer). x.index)) ∙ ap (λ (ns : List ℕ). length ns) is_put.is.back in
        let few' = first-few is_put.peer.id put.took (standing b).holdings.ports in
        let low = within in
        let left = length-left put.took gots in
        omega (arith, back, few', low, left)

    pub put-served : (reply : Reply) → reply ≡ Took (take put.took (items_of gots)) (last_dests after.entries) → IsServed b after (Put at (items_of gots)) (Ok (Some reply))
    put-served reply is =
        let same : reply ≡ Took (items_of (take put.took gots)) (dests_wanted put.offers.wants) = is ∙ ap₂ Took (items-first put.took gots) told-dests in
        (sym (said-by reply (told ∙ sym same)), grew, had)

    all-theirs : offers_at (standing after).world put.offers.entry ≡ (own_put (standing b) (items_of (take put.took gots)) (own_of user.id.0 (standing b)) is_put.port is_put.peer).offers
    all-theirs =
        let none : own.offers ≡ [] = subst (HasOffers own.offers) (settled-parts user r.settled).0 r.is.offers in
        theirs b after (Put at (items_of gots)) r.steps.makes put.offers.entry r.steps.is grew o.entry
        ∙ (ap (offers_started w (PutKept at (length (items_of gots)))) told
        ∙ (ap (λ (found : Option Port). option_map_or (λ (port : Port). offers_of_put w port (frames_of_items (items_of (take put.took gots)))) found []) is_put.here
        ∙ ap (λ (os : List Offer). os ++ offers_of_put w is_put.port (frames_of_items (items_of (take put.took gots)))) (sym none)))

    makes : own_after_entry (standing b) (PutKept at (length (items_of gots))) r.steps.makes.reply (own_of user.id.0 (standing b))
        ≡ own_put (standing b) (items_of (take put.took gots)) (own_of user.id.0 (standing b)) is_put.port is_put.peer
    makes =
        ap (λ (reply : Reply). own_after_entry (standing b) (PutKept at (length (items_of gots))) reply own) told
        ∙ (ap (λ (found : Option Port). option_map_or (own_put_at (standing b) (items_of (take put.took gots)) own) found own) is_put.here
        ∙ ap (λ (found : Option Port). option_map_or (own_put (standing b) (items_of (take put.took gots)) own is_put.port) found own) is_put.there)

    module _ (new : User) (has : HasPut held (drop put.took gots) put.back.items put.offers (take put.took (bytes_in (items_of gots))) new)
        (room : length user.leases.items + 1 ≤ vec_capacity user.leases) where
      -- the buffers of what was taken are gone
      exchange : AreSame (indices_of (held.bufs.items ++ (buffers_of (drop put.took gots) ++ put.back.items))) (own_put (standing b) (items_of (take put.took gots)) (own_of user.id.0 (standing b)) is_put.port is_put.peer).buffers
      exchange = λ n.
          let all = item_indices (items_of gots) in
          let gone' = item_indices (items_of (take put.took gots)) in
          let left = buffers_of (drop put.took gots) in
          let parts = and_parts (list_all (λ m. contains m own.buffers) all) (are_distinct all) (sym (holds-same user.bufs.items own.buffers all r.is.buffers) ∙ r.holds) in
          let where-is = indices-take put.took gots in
          let away = count-away n gone' own.buffers (ap are_distinct where-is ∙ distinct-take put.took all parts.1)
          (ap (list_all (λ m. contains m own.buffers)) where-is ∙ all-take (λ m. contains m own.buffers) put.took all parts.0) (own-once b user.id.0 n r.legal) in
          let out = r.out.bufs.times_are n in
          let had' = r.is.buffers n in
          let split = parted n put.took gots in
          let long : length gone' ≡ put.took = length-map (items_of (take put.took gots)) _ ∙ (length-map (take put.took gots) item_of ∙ length-first put.took gots within) in
          let came : indices_of put.back.items ≡ first_idle is_put.peer.id (length gone') (standing b).holdings.ports =
          is_put.is.back ∙ ap (λ (m : ℕ). first_idle is_put.peer.id m (standing b).holdings.ports) (sym long) in
          let came' = ap (times n) came in
          let one = ap (times n) (indices-append held.bufs.items (left ++ put.back.items)) ∙ count_of-append n (indices_of held.bufs.items) (indices_of (left ++ put.back.items)) in
          let two = ap (times n) (indices-append left put.back.items) ∙ count_of-append n (indices_of left) (indices_of put.back.items) in
          let target = count_of-append n (buffers_without gone' own.buffers) (first_idle is_put.peer.id (length gone') (standing b).holdings.ports) in
          omega (arith, away, out, had', split, came', one, two, target)

      own-target : HasOwn after (own_put (standing b) (items_of (take put.took gots)) (own_of user.id.0 (standing b)) is_put.port is_put.peer) new
      own-target =
          let target' = own_put (standing b) (items_of (take put.took gots)) (own_of user.id.0 (standing b)) is_put.port is_put.peer in
          let bytes : contents has.kept.items ≡ bytes_of o.stand.frames = has.kept_are ∙ (bytes-take put.took gots ∙ ap bytes_of (sym o.frames_are)) in
          exchanged b after own target' user held has.between new (item_indices (items_of gots)) taken (buffers_of (drop put.took gots) ++ put.back.items) put.offers has.kept
          (later b after (Put at (items_of gots)) grew) r.is r.out has.more has.sent
          (subst (λ (os : List Offer). HasOffers os (sent_of put.offers.wants put.offers has.kept)) all-theirs
          (fresh-some (standing after) put.offers has.kept o.stand (λ some. bytes)))
          few room refl refl exchange
          (each-append (IsBufferOf b.region) (buffers_of (drop put.took gots)) put.back.items (of-drop b.region put.took gots r.region_is) is_put.is.back_of)

      pub put-kept : IsUser after new
      put-kept =
          let whose : user.id.0 ≡ r.steps.makes.session =
          sym (r.mine is_put.port is_put.here) ∙ mine-by b (Put at (items_of gots)) r.steps.makes (open_port w.ports at.0) is_put.port r.steps.is refl refl is_put.here in
          let id : new.id ≡ user.id = has.sent.id ∙ (has.more.id ∙ r.out.id) in
          acts b after (Put at (items_of gots)) r.steps.makes new r.legal grew r.steps.is (ap (λ (i : SessionId). i.0) id ∙ whose)
          (subst (λ (n : ℕ). HasOwn after (own_after_entry (standing b) (PutKept at (length (items_of gots))) r.steps.makes.reply (own_of n (standing b))) new) whose
          (subst (λ (o' : Own). HasOwn after o' new) (sym makes) own-target))

  -- ---- nothing was taken

  module _ (after : Recorded) (port : Port) (here : open_port (standing b).world.ports at.0 ≡ Some port) (new : User) (left : List Got) (back : HasMore held (buffers_of left) new) (same : left ≡ gots) where
    back-named : indices_of (buffers_of left) ≡ item_indices (items_of gots)
    back-named = ap (λ (gs : List Got). indices_of (buffers_of gs)) same ∙ sym (indices-items gots)

    back-of : AreOf b.region (buffers_of left)
    back-of = subst (λ (gs : List Got). AreOf b.region (buffers_of gs)) (sym same) r.region_is

    gone-kept : after ≡ after_ask b (Put at (items_of gots)) → peer_at (standing b).world.ports at.0 ≡ None → IsUser after new
    gone-kept grew none =
        let told = gone-said r.steps none in
        let whose : user.id.0 ≡ r.steps.makes.session =
        sym (r.mine port here) ∙ mine-by b (Put at (items_of gots)) r.steps.makes (open_port w.ports at.0) port r.steps.is refl refl here in
        let id : new.id ≡ user.id = back.id ∙ r.out.id in
        let has : HasOwn after own new =
        own-later b after (later b after (Put at (items_of gots)) grew) own new
        (back-own b own user held new (item_indices (items_of gots)) taken (buffers_of left) r.is r.out back back-named back-of) in
        acts b after (Put at (items_of gots)) r.steps.makes new r.legal grew r.steps.is (ap (λ (i : SessionId). i.0) id ∙ whose)
        (subst (λ (n : ℕ). HasOwn after (own_after_entry (standing b) (PutKept at (length (items_of gots))) r.steps.makes.reply (own_of n (standing b))) new) whose
        (subst (λ (reply : Reply). HasOwn after (own_after_entry (standing b) (PutKept at (length (items_of gots))) reply own) new) (sym told) has))

    none-kept : after ≡ b → IsUser after new
    none-kept is =
        subst (λ (x : Recorded). IsUser x new) (sym is)
        (back-kept b user held new (item_indices (items_of gots)) taken (buffers_of left) r.is r.out back back-named back-of)

    pub unput-kept : (fault : PutFault) → IfMade {A = Given} (Err fault) (after ≡ after_ask b (Put at (items_of gots))) → IfNotMade {A = Given} (Err fault) (after ≡ b)
        → IsPutRefusal b at (items_of gots) fault → IsUser after new
    unput-kept gone.PeerGone made none why = gone-kept made why
    unput-kept (gone.RecordFull what used want) made none why = none-kept none
    unput-kept gone.NoMemory made none why = none-kept none

  pub unput-served : (after : Recorded) (fault : PutFault) → IfMade {A = Given} (Err fault) (after ≡ after_ask b (Put at (items_of gots)))
      → IfMade {A = Given} (Err fault) (HasRoom b (Put at (items_of gots))) → IfNotMade {A = Given} (Err fault) (after ≡ b) → IsPutRefusal b at (items_of gots) fault
      → IsServed b after (Put at (items_of gots)) (unput fault)
  unput-served after gone.PeerGone made had none why = (sym (said-by PeerGone (gone-said r.steps why)), made, had)
  unput-served after (gone.RecordFull what used want) made had none why = (why, none)
  unput-served after gone.NoMemory made had none why = (no-memory b (Put at (items_of gots)) r.steps.makes r.steps.is, none)
