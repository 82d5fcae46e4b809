-- What a grant, and the Done of its lease, make of a session that has offers and no lease.
use Rattle.std.proofs.Common.{ℕ, ◌+◌, ◌<◌, ◌≤◌, ◌≡◌, Bool, true, false, cond, not, ◌&&◌, ◌==◌, List, [], ◌∷◌, ◌++◌, length, filter, find, take, drop, Option, Some, None, refl, sym, ◌∙◌, ap, subst, arith, slice_get, IfSome, IfNone, ◌^◌}
use Rattle.std.specs.Prelude.{option_map}
use Rattle.std.specs.Option.{option_map_or}
use Rattle.std.proofs.lemmas.Bool.{eqb-true, eq-eqb, and_parts}
use Rattle.std.proofs.lemmas.List.{length-drop, length-map}
use Rattle.nm_types.specs.Frames.{Frame, slots_of, size_of_frames}
use Rattle.nm_types.specs.declared.id.PortId.{PortId}
use Rattle.nm_turn.specs.Numbered.{Stands, IsPicked, numbered}
use Rattle.nm_turn.specs.Shares.{IsWhole}
use Rattle.nm_turn.proofs.Numbered.{Stands-left}
use Rattle.vale_entry.specs.declared.entry.Ask.{Ask}
use Rattle.vale_entry.specs.declared.entry.Ask.TheVariants.{Grant, Done}
use Rattle.vale_entry.specs.declared.entry.Reply.{Reply}
use Rattle.vale_entry.specs.declared.entry.Reply.TheVariants.{Shared, Made}
use Rattle.vale_entry.specs.World.{Port, Offer, open_port}
use Rattle.vale_entry.specs.Offers.{is_offer_of}
use Rattle.vale_entry.specs.Grant.{first_offer, granted_frames, given_at, grant_reply, grant_reply_at}
use Rattle.vale_entry.specs.Delivery.{is_lease}
use Rattle.vale_entry.specs.Holdings.{first_idle}
use Rattle.vale_entry.specs.Legal.{Standing, Outcome, step, session_and_reply, is_enabled}
use Rattle.vale_entry.proofs.ListLaws.{place-of}
use Rattle.vale_batch.specs.Wants.{Wanted}
use Rattle.vale_parts.specs.Offering.{offers_at}
use Rattle.vale_own.specs.Own.{Own, HeldLot, own_of, is_empty, lot_of_lease}
use Rattle.vale_own.specs.Asker.{asks, asker_of, is_asker}
use Rattle.vale_own.specs.OwnEntries.{own_after_entry, own_granted, lease_of}
use Rattle.vale_own.proofs.Asking.{own-tells}
use Rattle.vale_own.proofs.Askers.{askers-make-steps}
use Rattle.vale_own.proofs.Reading.{offers-left}
use Rattle.vale_line.specs.Leased.{Leased, contents}
use Rattle.vale_line.specs.declared.got.Got.{Got}
use Rattle.vale_line.specs.Gots.{frames_in}
use Rattle.vale_port.specs.Kept.{bytes_of}
use Rattle.vale_book.specs.Granting.{given_by, lease_id}
use Rattle.vale_book.specs.Offering.{OffersState}
use Rattle.vale_book.specs.Recorded.{Recorded, standing}
use Rattle.vale_fabric.specs.declared.kept.Fixed.{Fixed}
use Rattle.vale_fabric.specs.declared.settling.Shares.{Shares}
use Rattle.vale_fabric.specs.Fabrics.{Knowing, seen_in, before_in, earlier, Makes, Answers}
use Rattle.vale_book.specs.Leases.{StandOf, IsHeldBy, IsHeldFor, is_held_as}
use Rattle.vale_fabric.specs.Leases.{MayFillFrom}
use Rattle.vale_fabric.specs.Settling.{settling_ask, settling_by, both, frames_wanted, shared_in, Settling, HasBytes, IsAtHand, Settles}
use Rattle.vale_book.proofs.Said.{and-second, asker-is}
use Rattle.vale_fabric.proofs.FewWanted.{all-shared, wanted-first}
use Rattle.vale_book.proofs.FilledIn.{find-mapped}
use Rattle.vale_book.proofs.OffersHeld.{Next, next-of, granted-at, offers-stand}
use Rattle.vale_fabric.proofs.Settlements.{Before, before-is, own-made, settling-one, settling-then, settling-none}

-- ---- lists

found-first : {X : Type 0} (p : X → Bool) (xs : List X) (x : X) → find p xs ≡ Some x → (rest : List X) × (filter p xs ≡ x ∷ rest)
found-first p [] x e = absurd cc
found-first {X} p (y ∷ ys) x e = by (p y) (found-first p ys x) e
  where
    by : (b : Bool) → (find p ys ≡ Some x → (rest : List X) × (filter p ys ≡ x ∷ rest)) → cond b (Some y) (find p ys) ≡ Some x
        → (rest : List X) × (cond b (y ∷ filter p ys) (filter p ys) ≡ x ∷ rest)
    by true rest e = let same : y ≡ x = cc in (filter p ys, ap (λ (z : X). z ∷ filter p ys) same)
    by false rest e = rest e

mapped : {X Y : Type 0} (f : X → Y) (found : Option X) (y : Y) → option_map f found ≡ Some y → (x : X) × (found ≡ Some x) × (f x ≡ y)
mapped f None y e = absurd cc
mapped f (Some x) y e = (x, refl, cc)

-- ---- what was granted

-- a lease of so many frames, if there are some
pub record IsGranted (own : Own) (given : ℕ) : Type 0 where
  pub number : ℕ
  pub session : ℕ
  pub frames : List Frame
  pub buffers : List ℕ
  pub leases : own.leases ≡ lease_of number session frames buffers
  pub count : length frames ≡ given

granted-count : (found : Option Port) (frames : List Frame) (given full gone : ℕ) → grant_reply_at found frames ≡ Shared given full gone → length (given_at found frames) ≡ given
granted-count None frames given full gone e = cc
granted-count (Some port) frames given full gone e = cc

pub record Granting (fixed : Fixed) (v w : Knowing) (o : OffersState) (given full gone : ℕ) : Type 0 where
  pub settling : Settling fixed v w o.session (record { given = given; full = full; gone = gone })
  pub granted : IsGranted (own_of o.session (standing (seen_in fixed w))) given
  pub as_many : length (own_of o.session (standing (seen_in fixed w))).offers ≡ length (drop 1 o.wants)
  pub all : given + full + gone + frames_wanted (drop 1 o.wants) ≡ frames_wanted o.wants

pub granting : {fixed : Fixed} {v w : Knowing} (o : OffersState) (bytes : List (List ℕ)) (to : PortId) (given full gone : ℕ) → IsAtHand fixed v o bytes → 1 ≤ length o.wants
    → Answers fixed v w (Grant o.entry to) (Shared given full gone) → Granting fixed v w o given full gone
granting {fixed} {v} {w} o bytes to given full gone hand some answers =
    let m = answers.makes in
    let h = earlier w.seen in
    let s = standing (before_in fixed w) in
    let session = o.session in
    let b : Before fixed v w session = before-is session m hand.picked hand.speaks in
    let has = hand.stands some in
    let own = own_of session s in
    let st = offers-stand fixed.pool v.seen h o hand.legal b.legal (ap (λ (x : Own). x.offers) b.same) some has.frames has.stand in
    let n : Next s.world o = next-of s o some st.stand in
    let step_is = mapped session_and_reply (step s (Grant o.entry to)) (m.session, m.reply) m.steps in
    let at = granted-at s to.0 (first_offer s.world o.entry) step_is.0 step_is.1 in
    let one : at.0 ≡ n.offer = let e = sym at.1 ∙ n.first in cc in
    let pair = step_is.2 in
    let whose : m.session ≡ session = sym (ap (λ (p : ℕ × Reply). p.0) pair) ∙ (ap (λ (x : Outcome). x.session) at.2 ∙ (ap (λ (x : Offer). x.session) one ∙ n.by)) in
    let reply : grant_reply s.world n.offer ≡ Shared given full gone =
    sym (ap (λ (x : Outcome). x.reply) at.2 ∙ ap (grant_reply s.world) one) ∙ (ap (λ (p : ℕ × Reply). p.1) pair ∙ answers.reply_is) in
    let passes = (place-of (is_offer_of o.entry) s.world.offers n.offer n.first).passes in
    let origin : n.offer.origin ≡ o.entry = eqb-true n.offer.origin o.entry passes in
    let there : n.offer.to ≡ to.0 = sym (ap (λ (x : Offer). x.to) one) ∙ at.3 in
    let left = offers-left fixed.pool h o.entry n.offer b.legal n.first ∙ ap (λ (k : ℕ). (own_of k s).offers) n.by in
    let first = found-first (is_offer_of o.entry) s.world.offers n.offer n.first in
    let offers : own.offers ≡ n.offer ∷ first.0 = sym left ∙ first.1 in
    let leases : own.leases ≡ [] = ap (λ (x : Own). x.leases) b.same ∙ hand.leases in
    let next : settling_ask own ≡ Some (Grant o.entry to) =
    ap (λ (l : List HeldLot). settling_by l own.offers) leases
    ∙ (ap (settling_by []) offers
    ∙ (ap (λ (k : ℕ). Some (Grant k (record { 0 = n.offer.to }))) origin ∙ ap (λ (k : ℕ). Some (Grant o.entry (record { 0 = k }))) there)) in
    let after : own_of session (standing (seen_in fixed w)) ≡ own_granted s own n.offer =
    subst (λ (k : ℕ). own_of k (standing (seen_in fixed w)) ≡ own_after_entry s (Grant o.entry to) m.reply (own_of k s)) whose (own-made m b.legal)
    ∙ ap (λ (found : Option Offer). option_map_or (own_granted s own) found own) n.first in
    let before_count : length own.offers ≡ length o.wants = ap (λ (x : Own). length x.offers) b.same ∙ hand.as_many in
    let dropped = length-drop 1 own.offers in
    let wanted = length-drop 1 o.wants in
    let after_count = ap (λ (x : Own). length x.offers) after in
    let buffers = first_idle n.offer.to (size_of_frames (granted_frames s.world n.offer)) s.holdings.ports in
    record {
      settling = settling-one session (Shared given full gone) m whose answers.reply_is next;
      granted = record {
        number = s.world.entry_count + 1;
        session = n.offer.session;
        frames = granted_frames s.world n.offer;
        buffers = buffers;
        leases = ap (λ (x : Own). x.leases) after ∙ ap (λ (l : List HeldLot). l ++ lease_of (s.world.entry_count + 1) n.offer.session (granted_frames s.world n.offer) buffers) leases;
        count = granted-count (open_port s.world.ports n.offer.to) n.offer.frames given full gone reply;
      };
      as_many = omega (arith, before_count, dropped, wanted, after_count);
      all =
          let shared = all-shared (open_port s.world.ports n.offer.to) n.offer.frames given full gone reply in
          let others = wanted-first st.stand.frames o.wants n.offer (offers_at s.world o.entry) first.0 first.1 st.stand.are in
          omega (arith, shared, others);
    }

-- where nothing was given there is no lease
pub none-granted : {own : Own} {given : ℕ} → IsGranted own given → given ≡ 0 → own.leases ≡ []
none-granted {own} {given} is none = by is.frames (is.count ∙ none) is.leases
  where
    by : (frames : List Frame) → length frames ≡ 0 → own.leases ≡ lease_of is.number is.session frames is.buffers → own.leases ≡ []
    by [] few e = e
    by (f ∷ fs) few e = absurd (omega (arith, few))

-- and where there is one it is the only one
pub record IsOnly (own : Own) (id : ℕ) : Type 0 where
  pub held : HeldLot
  pub leases : own.leases ≡ held ∷ []
  pub number : held.0.number ≡ id

pub only-granted : {own : Own} {given : ℕ} (id : ℕ) (held : HeldLot) → IsGranted own given → find (is_held_as id) own.leases ≡ Some held → IsOnly own id
only-granted {own} {given} id held is found = by is.frames is.leases
  where
    held-as : (b : Bool) (z : HeldLot) → cond b (Some z) None ≡ Some held → b ≡ true
    held-as true z e = refl
    held-as false z e = absurd cc

    by : (frames : List Frame) → own.leases ≡ lease_of is.number is.session frames is.buffers → IsOnly own id
    by [] e = let none : None ≡ Some held = sym (ap (find (is_held_as id)) e) ∙ found in absurd cc
    by (f ∷ fs) e =
        let one : HeldLot = (record { number = is.number; session = is.session; frames = f ∷ fs; is_done = false }, is.buffers) in
        let is_one = held-as (is_held_as id one) one (sym (ap (find (is_held_as id)) e) ∙ found) in
        record { held = one; leases = e; number = eqb-true is.number id (and_parts (is.number == id) true is_one).0 }

-- ---- its Done

pub record Completing (fixed : Fixed) (w x : Knowing) (session : ℕ) : Type 0 where
  pub settling : Settling fixed w x session (record { given = 0; full = 0; gone = 0 })
  pub leases : (own_of session (standing (seen_in fixed x))).leases ≡ []
  pub offers : (own_of session (standing (seen_in fixed x))).offers ≡ (own_of session (standing (seen_in fixed w))).offers

pub completing : {fixed : Fixed} {w x : Knowing} (session : ℕ) (lease : Leased) → IsPicked w.mine (numbered 1 w.seen) → Stands session w.mine → IsOnly (own_of session (standing (seen_in fixed w))) lease.id
    → IsHeldBy (seen_in fixed w) session lease → Answers fixed w x (Done (lease_id lease.id)) Made → Completing fixed w x session
completing {fixed} {w} {x} session lease picked speaks only held answers =
    let m = answers.makes in
    let s = standing (before_in fixed x) in
    let id = lease.id in
    let b : Before fixed w x session = before-is session m picked speaks in
    let own = own_of session s in
    let found : find (is_held_as id) own.leases ≡ Some held.held = ap (λ (o : Own). find (is_held_as id) o.leases) b.same ∙ held.own in
    let asked : asks s session (Done (lease_id id)) ≡ true =
    own-tells fixed.pool (earlier x.seen) session (Done (lease_id id)) b.legal ∙ find-mapped lot_of_lease (is_lease id) own.leases held.held found in
    let step_is = mapped session_and_reply (step s (Done (lease_id id))) (m.session, m.reply) m.steps in
    let whose : m.session ≡ session =
    sym (ap (λ (p : ℕ × Reply). p.0) step_is.2)
    ∙ asker-is (asker_of s (Done (lease_id id))) step_is.0.session session (askers-make-steps s (Done (lease_id id)) step_is.0 refl step_is.1)
    (and-second (is_enabled s (Done (lease_id id))) (is_asker (asker_of s (Done (lease_id id))) session) asked) in
    let leases : own.leases ≡ only.held ∷ [] = ap (λ (o : Own). o.leases) b.same ∙ only.leases in
    let next : settling_ask own ≡ Some (Done (lease_id id)) =
    ap (λ (l : List HeldLot). settling_by l own.offers) leases ∙ ap (λ (k : ℕ). Some (Done (lease_id k))) only.number in
    let after = subst (λ (k : ℕ). own_of k (standing (seen_in fixed x)) ≡ own_after_entry s (Done (lease_id id)) m.reply (own_of k s)) whose (own-made m b.legal) in
    record {
      settling = settling-one session Made m whose answers.reply_is next;
      leases =
          ap (λ (o : Own). o.leases) after
          ∙ (ap (filter (λ (l : HeldLot). not (l.0.number == id))) leases
          ∙ ap (λ (t : Bool). cond (not t) (only.held ∷ []) []) (eq-eqb only.held.0.number id only.number));
      offers = ap (λ (o : Own). o.offers) after ∙ ap (λ (o : Own). o.offers) b.same;
    }

-- ---- a grant with what follows it

pub for-bytes : (b : Recorded) (session : ℕ) (s : Standing) (o : OffersState) (bytes : List (List ℕ)) (places : List ℕ) (r : Option Leased) → HasBytes s o bytes
    → IfSome r (λ (lease : Leased). (frames : List Frame) → StandOf s o frames → IsHeldFor b session lease (bytes_of frames) places)
    → IfSome r (λ (lease : Leased). IsHeldFor b session lease bytes places)
for-bytes b session s o bytes places None has fills = tt
for-bytes b session s o bytes places (Some lease) has fills = subst (λ (bs : List (List ℕ)). IsHeldFor b session lease bs places) has.bytes_are (fills has.frames has.stand)

-- there are as many places as frames were given
pub as-many-places : (b : Recorded) (session : ℕ) (bytes : List (List ℕ)) (given : ℕ) (places : List ℕ) (r : Option Leased) → given ≡ given_by r
    → IfSome r (λ (lease : Leased). IsHeldFor b session lease bytes (take given places)) → given ≡ length (take given places)
as-many-places b session bytes given places None is held = subst (λ (n : ℕ). n ≡ length (take n places)) (sym is) refl
as-many-places b session bytes given places (Some lease) is held =
    let lot = held.is.held.0.frames in
    let there = sym (length-map (take given places) (slice_get bytes))
    ∙ (ap length held.frames_are ∙ (length-map (bytes_of lot) (λ (x : List ℕ). let some : Option (List ℕ) = Some x in some) ∙ length-map lot (λ (f : Frame). f.bytes))) in
    let sizes = ap length held.is.sizes ∙ length-map lot slots_of in
    let none : length (contents lease) ≡ 0 = ap (λ (gots : List Got). length (frames_in gots)) held.is.none in
    omega (arith, there, sizes, none, is)

pub may-fill-from : {fixed : Fixed} {v w : Knowing} {ask : Ask} (session : ℕ) (bytes : List (List ℕ)) (places : List ℕ) (r : Option Leased) → Makes fixed v w ask → Stands session v.mine
    → IfSome r (λ (lease : Leased). IsHeldFor (seen_in fixed w) session lease bytes places) → IfSome r (λ (lease : Leased). MayFillFrom fixed w lease bytes places)
may-fill-from session bytes places None m speaks held = tt
may-fill-from session bytes places (Some lease) m speaks held = record { session = session; held = held; speaks = subst (Stands session) (sym m.told.mine) (Stands-left session _ _ speaks) }

abbrev without_first : OffersState → OffersState
without_first o = record o { wants = drop 1 o.wants }

-- the session is settled but for the offers that are left
pub record Rest (fixed : Fixed) (v x : Knowing) (o : OffersState) (bytes : List (List ℕ)) (shares : Shares) : Type 0 where
  pub settling : Settling fixed v x o.session shares
  pub hand : IsAtHand fixed x (without_first o) bytes
  pub all : shared_in shares + frames_wanted (drop 1 o.wants) ≡ frames_wanted o.wants

rest-of : {fixed : Fixed} {v x : Knowing} {o : OffersState} {bytes : List (List ℕ)} {shares : Shares} → IsAtHand fixed v o bytes → Settling fixed v x o.session shares
    → (own_of o.session (standing (seen_in fixed x))).leases ≡ [] → length (own_of o.session (standing (seen_in fixed x))).offers ≡ length (drop 1 o.wants)
    → shared_in shares + frames_wanted (drop 1 o.wants) ≡ frames_wanted o.wants
    → (1 ≤ length (drop 1 o.wants) → HasBytes (standing (seen_in fixed x)) (without_first o) bytes) → Rest fixed v x o bytes shares
rest-of {fixed} {v} {x} {o} {bytes} {shares} hand s leases as_many all stands = record {
  settling = s;
  all = all;
  hand = record {
    stands = stands;
    speaks = subst (Stands o.session) (sym s.told.mine) (Stands-left o.session v.mine s.added hand.speaks);
    leases = leases;
    as_many = as_many;
    few = (let few = hand.few in omega (arith, few, all));
    picked = s.told.picked;
    legal = s.legal;
    whole = λ is. s.whole (subst IsWhole s.told.part is);
  };
}

and-none : (a b c : ℕ) → both (record { given = a; full = b; gone = c }) (record { given = 0; full = 0; gone = 0 }) ≡ record { given = a; full = b; gone = c }
and-none a b c =
    let one : a + 0 ≡ a = omega arith in
    let two : b + 0 ≡ b = omega arith in
    let three : c + 0 ≡ c = omega arith in
    ap (λ (n : ℕ). let s : Shares = record { given = n; full = b + 0; gone = c + 0 } in s) one
    ∙ (ap (λ (n : ℕ). let s : Shares = record { given = a; full = n; gone = c + 0 } in s) two
    ∙ ap (λ (n : ℕ). let s : Shares = record { given = a; full = b; gone = n } in s) three)

pub settled-next : {fixed : Fixed} {v w x : Knowing} (o : OffersState) (bytes : List (List ℕ)) (to : PortId) (given full gone : ℕ) (r : Option Leased) → IsAtHand fixed v o bytes
    → 1 ≤ length o.wants → Answers fixed v w (Grant o.entry to) (Shared given full gone) → given ≡ given_by r
    → ((frames : List Frame) → StandOf (standing (seen_in fixed v)) o frames → StandOf (standing (seen_in fixed w)) (without_first o) frames)
    → IfSome r (IsHeldBy (seen_in fixed w) o.session) → IfNone r (x ≡ w) → IfSome r (λ (lease : Leased). Answers fixed w x (Done (lease_id lease.id)) Made)
    → Rest fixed v x o bytes (record { given = given; full = full; gone = gone })
settled-next {fixed} {v} {w} {x} o bytes to given full gone None hand some answers is stands held same done =
    let g = granting o bytes to given full gone hand some answers in
    let has = hand.stands some in
    subst (λ (y : Knowing). Rest fixed v y o bytes (record { given = given; full = full; gone = gone })) (sym same)
    (rest-of hand g.settling (none-granted g.granted is) g.as_many g.all (λ more. record { frames = has.frames; stand = stands has.frames has.stand; bytes_are = has.bytes_are }))
settled-next {fixed} {v} {w} {x} o bytes to given full gone (Some lease) hand some answers is stands held same done =
    let g = granting o bytes to given full gone hand some answers in
    let has = hand.stands some in
    let s = g.settling in
    let speaks = subst (Stands o.session) (sym s.told.mine) (Stands-left o.session v.mine s.added hand.speaks) in
    let c : Completing fixed w x o.session = completing o.session lease s.told.picked speaks (only-granted lease.id held.held g.granted held.own) held done in
    let all = subst (Settling fixed v x o.session) (and-none given full gone) (settling-then s c.settling) in
    rest-of hand all c.leases (ap length c.offers ∙ g.as_many) g.all (λ more. record {
      frames = has.frames;
      stand = offers-stand fixed.pool w.seen x.seen (without_first o) s.legal all.legal c.offers more has.frames (stands has.frames has.stand);
      bytes_are = has.bytes_are;
    })

-- ---- all of them

abbrev none_yet : Shares
none_yet = record { given = 0; full = 0; gone = 0 }

-- so far these offers were granted
pub record Going (fixed : Fixed) (v w : Knowing) (o now : OffersState) (bytes : List (List ℕ)) (all : Shares) : Type 0 where
  pub session : now.session ≡ o.session
  pub fewer : length now.wants ≤ length o.wants
  pub none : o.wants ≡ [] → (w ≡ v) × (all ≡ none_yet)
  pub some : 1 ≤ length o.wants → Settling fixed v w o.session all × IsAtHand fixed w now bytes
  pub all_are : shared_in all + frames_wanted now.wants ≡ frames_wanted o.wants
  pub few : frames_wanted o.wants < 2 ^ 32

pub going-first : {fixed : Fixed} {v : Knowing} (o : OffersState) (bytes : List (List ℕ)) → (1 ≤ length o.wants → IsAtHand fixed v o bytes) → Going fixed v v o o bytes none_yet
going-first {fixed} {v} o bytes hand = record {
  session = refl;
  fewer = omega arith;
  none = λ is. (refl, refl);
  some = λ some. let h = hand some in (settling-none h.picked h.legal h.whole, h);
  all_are = omega arith;
  few = few o.wants (λ some. (hand some).few);
}
  where
    few : (wants : List Wanted) → (1 ≤ length wants → frames_wanted wants < 2 ^ 32) → frames_wanted wants < 2 ^ 32
    few [] all = omega arith
    few (w ∷ ws) all = all (omega arith)

pub going-hand : {fixed : Fixed} {v w : Knowing} {o now : OffersState} {bytes : List (List ℕ)} {all : Shares} → Going fixed v w o now bytes all → 1 ≤ length now.wants → IsAtHand fixed w now bytes
going-hand g next = (g.some (omega (arith, next, g.fewer))).1

-- the sums fit
pub record Fit (all more : Shares) : Type 0 where
  pub given : all.given + more.given < 2 ^ 32
  pub full : all.full + more.full < 2 ^ 32
  pub gone : all.gone + more.gone < 2 ^ 32

pub sums-fit : {fixed : Fixed} {v w : Knowing} {o now : OffersState} {bytes : List (List ℕ)} {all : Shares} (more : Shares) (left : ℕ) → Going fixed v w o now bytes all
    → shared_in more + left ≡ frames_wanted now.wants → Fit all more
sums-fit more left g one =
    let sum = g.all_are in
    let few = g.few in
    record { given = omega (arith, sum, few, one); full = omega (arith, sum, few, one); gone = omega (arith, sum, few, one) }

pub going-next : {fixed : Fixed} {v w x : Knowing} {o now : OffersState} {bytes : List (List ℕ)} {all more : Shares} → Going fixed v w o now bytes all → 1 ≤ length now.wants
    → Settling fixed w x now.session more → IsAtHand fixed x (without_first now) bytes
    → shared_in more + frames_wanted (drop 1 now.wants) ≡ frames_wanted now.wants → Going fixed v x o (without_first now) bytes (both all more)
going-next {fixed} {v} {w} {x} {o} {now} {bytes} {all} {more} g next s hand one =
    let some : 1 ≤ length o.wants = omega (arith, next, g.fewer) in
    let dropped = length-drop 1 now.wants in
    record {
      session = g.session;
      fewer = omega (arith, g.fewer, dropped);
      none = λ is. let empty = ap length is in absurd (omega (arith, empty, some));
      some = λ some. (settling-then (g.some some).0 (subst (λ (n : ℕ). Settling fixed w x n more) g.session s), hand);
      all_are = (let sum = g.all_are in omega (arith, sum, one));
      few = g.few;
    }

no-wants : {X : Type 0} (xs : List X) → length xs ≡ 0 → xs ≡ []
no-wants [] e = refl
no-wants (x ∷ xs) e = absurd (omega (arith, e))

pub going-settles : {fixed : Fixed} {v w : Knowing} {o now : OffersState} {bytes : List (List ℕ)} {all : Shares} → Going fixed v w o now bytes all → now.wants ≡ [] → 1 ≤ length o.wants
    → Settles fixed v w o.session all
going-settles {fixed} {v} {w} {o} {now} {bytes} {all} g ended some =
    let both = g.some some in
    let hand = subst (λ (n : ℕ). (own_of n (standing (seen_in fixed w))).leases ≡ []) g.session both.1.leases in
    let count = subst (λ (n : ℕ). length (own_of n (standing (seen_in fixed w))).offers ≡ length now.wants) g.session both.1.as_many in
    let none = no-wants (own_of o.session (standing (seen_in fixed w))).offers (count ∙ ap length ended) in
    record {
      settling = both.0;
      settled = ap (λ (offers : List Offer). is_empty offers && is_empty (own_of o.session (standing (seen_in fixed w))).leases) none
          ∙ ap (λ (leases : List HeldLot). is_empty leases) hand;
    }
