-- What a session owes: two turns for each offer, which is granted and whose lease is done, and one for
-- each lease.
use Rattle.std.proofs.Common.{ℕ, ◌+◌, ◌*◌, ◌≤◌, ◌≡◌, Bool, true, false, cond, not, List, [], ◌∷◌, ◌++◌, length, map, filter, flat_map, find, drop, slice_get, Option, Some, None, refl, sym, ◌∙◌, ap, ap₂, subst, arith, All, length-append}
use Rattle.std.specs.Prelude.{◌==◌, ◌&&◌, option_map, option_and_then}
use Rattle.std.specs.Option.{option_or}
use Rattle.std.proofs.lemmas.Bool.{and_parts, eq-eqb}
use Rattle.std.proofs.lemmas.List.{length-map}
use Rattle.std.proofs.lemmas.List.Filters.{length-filter_both}
use Rattle.std.proofs.lemmas.Option.{same_Some}
use Rattle.nm_types.specs.Frames.{Frame, size_of_frames}
use Rattle.nm_types.specs.declared.id.SessionId.{SessionId}
use Rattle.nm_types.specs.declared.id.LeaseId.{LeaseId}
use Rattle.nm_types.specs.declared.id.PortId.{PortId}
use Rattle.vale_entry.specs.declared.entry.Ask.{Ask}
use Rattle.vale_entry.specs.declared.entry.Ask.TheVariants.{Enter, Grant, Done}
use Rattle.vale_entry.specs.declared.entry.Entry.{Entry}
use Rattle.vale_entry.specs.declared.entry.Reply.{Reply}
use Rattle.vale_entry.specs.World.{Port, Lot, Offer, is_owed_by, open_port}
use Rattle.vale_entry.specs.Delivery.{line_of, is_lease, lease_at}
use Rattle.vale_entry.specs.Grant.{first_offer, granted_frames}
use Rattle.vale_entry.specs.Holdings.{first_idle}
use Rattle.vale_entry.specs.Pipe.{frames_of_items}
use Rattle.vale_entry.specs.Offers.{is_offer_of, dest_of, dests_of}
use Rattle.vale_entry.specs.Legal.{Standing, standing_of, IsLegal, Follows, offers_of_send, offers_of_sync, offers_of_put, sync_step, grant_step, done_step}
use Rattle.vale_entry.proofs.Follows.{EachKind, IsQuiet, refused_open, resets, finds_no_peer, finds_no_target, finds_watched, counts, Receives, by_sync, by_get, Left, entry_made, follows-by}
use Rattle.vale_entry.proofs.HistoryLaws.{history-stands}
use Rattle.vale_own.specs.Own.{Own, HeldLot, own_of, is_offer_by, lot_of_lease}
use Rattle.vale_own.specs.OwnEntries.{own_after_entry, lease_of}
use Rattle.vale_own.specs.Laws.{IsOfOther}
use Rattle.vale_own.proofs.OwnEntry.{own-entries}
use Rattle.vale_own.proofs.OwnKept.{own-kept}
use Rattle.vale_own.proofs.Reading.{first-offers, first-leases}
use Rattle.vale_own.proofs.Sounds.{lots-of_leases}
use Rattle.vale_replay.specs.FewTurns.{offers_made}
use Rattle.vale_replay.specs.Machine.{is_settling, settling_call, done_call, grant_call, owed_lot, next_offer}

abbrev pub owed_by : Own → ℕ
owed_by own = 2 * length own.offers + length own.leases

abbrev pub owed_turns : Standing → Option SessionId → ℕ
owed_turns s None = 0
owed_turns s (Some session) = owed_by (own_of session.0 s)

-- Entries of others leave it.
pub owed-same : (pool : ℕ) (past more : List Entry) (session : SessionId) → IsLegal pool (past ++ more)
    → All (IsOfOther session.0) more
    → owed_turns (standing_of pool (past ++ more)) (Some session) ≡ owed_turns (standing_of pool past) (Some session)
owed-same pool past more session legal others = ap owed_by (own-kept pool past more session.0 legal others)

-- Each entry of the session that settles pays one, and each offer that it makes costs two.

abbrev pub paid_by : Ask → ℕ
paid_by ask = cond (is_settling ask) 1 0

-- what is found stands among what passes another test that it passes
found-passes : {X : Type 0} (p q : X → Bool) (xs : List X) (x : X) → find p xs ≡ Some x
    → (p x ≡ true → q x ≡ true) → 1 ≤ length (filter q xs)
found-passes p q [] x e passes = absurd cc
found-passes {X} p q (y ∷ xs) x e passes = by (p y) refl e (λ later. found-passes p q xs x later passes)
  where
    more : (b : Bool) → 1 ≤ length (filter q xs) → 1 ≤ length (cond b (y ∷ filter q xs) (filter q xs))
    more true some = omega arith
    more false some = some

    by : (b : Bool) → p y ≡ b → cond b (Some y) (find p xs) ≡ Some x
        → (find p xs ≡ Some x → 1 ≤ length (filter q xs)) → 1 ≤ length (cond (q y) (y ∷ filter q xs) (filter q xs))
    by true here is rest =
        let same : y ≡ x = same_Some y x is in
        let mine : q y ≡ true = ap q same ∙ passes (ap p (sym same) ∙ here) in
        subst (λ (b : Bool). 1 ≤ length (cond b (y ∷ filter q xs) (filter q xs))) (sym mine) (omega arith)
    by false here is rest = more (q y) (rest is)

both-passed : {X : Type 0} (q r : X → Bool) (xs : List X)
    → filter r (filter q xs) ≡ filter (λ x. q x && r x) xs
both-passed q r [] = refl
both-passed {X} q r (x ∷ xs) = by (q x) (both-passed q r xs)
  where
    by : (b : Bool) → filter r (filter q xs) ≡ filter (λ y. q y && r y) xs
        → filter r (cond b (x ∷ filter q xs) (filter q xs)) ≡ cond (b && r x) (x ∷ filter (λ y. q y && r y) xs) (filter (λ y. q y && r y) xs)
    by true rest = ap (λ (ys : List X). cond (r x) (x ∷ ys) ys) rest
    by false rest = rest

-- and so among what passes two
found-twice : {X : Type 0} (p q r : X → Bool) (xs : List X) (x : X) → find p xs ≡ Some x
    → (p x ≡ true → q x ≡ true) → (p x ≡ true → r x ≡ true) → 1 ≤ length (filter r (filter q xs))
found-twice {X} p q r xs x e one two =
    subst (λ (ys : List X). 1 ≤ length ys) (sym (both-passed q r xs)) (found-passes p (λ y. q y && r y) xs x e (λ passes. ap₂ (λ (b c : Bool). b && c) (one passes) (two passes)))

one-dropped : {X : Type 0} (xs : List X) → 1 ≤ length xs → length (drop 1 xs) + 1 ≤ length xs
one-dropped [] some = absurd (omega (arith, some))
one-dropped (x ∷ xs) some = omega arith

one-lease : (number session : ℕ) (frames : List Frame) (buffers : List ℕ)
    → length (lease_of number session frames buffers) ≤ 1
one-lease number session [] buffers = omega arith
one-lease number session (frame ∷ frames) buffers = omega arith

abbrev number_is : ℕ → HeldLot → Bool
number_is number lease = lease.0.number == number

-- a lot among those of the leases is of one of them
of-number : (number : ℕ) (leases : List HeldLot)
    → 1 ≤ length (filter (λ (lot : Lot). lot.number == number) (map lot_of_lease leases)) → 1 ≤ length (filter (number_is number) leases)
of-number number [] some = absurd (omega (arith, some))
of-number number (lease ∷ leases) some = by (number_is number lease) some (of-number number leases)
  where
    by : (b : Bool) → 1 ≤ length (cond b (lease.0 ∷ filter (λ (lot : Lot). lot.number == number) (map lot_of_lease leases)) (filter (λ (lot : Lot). lot.number == number) (map lot_of_lease leases)))
        → (1 ≤ length (filter (λ (lot : Lot). lot.number == number) (map lot_of_lease leases)) → 1 ≤ length (filter (number_is number) leases))
        → 1 ≤ length (cond b (lease ∷ filter (number_is number) leases) (filter (number_is number) leases))
    by true some rest = omega arith
    by false some rest = rest some

-- what an entry leaves its session owing
abbrev OwesAt : Standing → Entry → Standing → Type 0
OwesAt s e next =
    paid_by e.ask + owed_by (own_after_entry s e.ask e.reply (own_of e.session.0 s)) ≤ owed_by (own_of e.session.0 s) + 2 * offers_made e.reply

owes-quiet : (s : Standing) (ask : Ask) (session : ℕ) (reply : Reply) → IsQuiet s ask session reply
    → paid_by ask + owed_by (own_after_entry s ask reply (own_of session s)) ≤ owed_by (own_of session s) + 2 * offers_made reply
owes-quiet s ask session reply (refused_open id name tx rx extra fault can refused) = omega arith
owes-quiet s ask session reply (resets at side fault port e can) = omega arith
owes-quiet s ask session reply (finds_no_peer at offered port e few none) = omega arith
owes-quiet s ask session reply (finds_no_target at target sides port e can none) = omega arith
owes-quiet s ask session reply (finds_watched at target sides port found watch e can there is) = omega arith
owes-quiet s ask session reply (counts at port e) = omega arith

-- offers more by as many as the reply names
offers-more : (own : Own) (more : List Offer)
    → 0 + (2 * length (own.offers ++ more) + length own.leases) ≤ owed_by own + 2 * length (dests_of more)
offers-more own more =
    let all = length-append own.offers more in
    let same = length-map more dest_of in
    omega (arith, all, same)

owes-received : (s : Standing) (ask : Ask) (at : PortId) (back : List ℕ) (port : Port) → Receives ask at back
    → open_port s.world.ports at.0 ≡ Some port
    → OwesAt s (entry_made ask (sync_step s back port)) s
owes-received s ask at back port (by_sync id bufs) e = rw e (offers-more (own_of port.session s) (offers_of_sync s.world port))
owes-received s ask at back port (by_get id bufs) e = rw e (offers-more (own_of port.session s) (offers_of_sync s.world port))

module _ (pool : ℕ) (past : List Entry) (legal : IsLegal pool past) where
  abbrev s : Standing
  s = standing_of pool past

  owes-granted : (origin : ℕ) (to : PortId) (offer : Offer) → first_offer s.world origin ≡ Some offer
      → OwesAt s (entry_made (Grant origin to) (grant_step s offer)) s
  owes-granted origin to offer e =
      let some = found-passes (is_offer_of origin) (is_offer_by offer.session) s.world.offers offer e (λ passes. eq-eqb offer.session offer.session refl) in
      let less = one-dropped (own_of offer.session s).offers some in
      let frames = granted_frames s.world offer in
      let one = one-lease (s.world.entry_count + 1) offer.session frames (first_idle offer.to (size_of_frames frames) s.holdings.ports) in
      let all = length-append (own_of offer.session s).leases (lease_of (s.world.entry_count + 1) offer.session frames (first_idle offer.to (size_of_frames frames) s.holdings.ports)) in
      rw e (omega (arith, less, one, all))

  owes-done : (lease : LeaseId) (lot : Lot) → lease_at s.world.ports lease.0 ≡ Some lot
      → OwesAt s (entry_made (Done lease) (done_step s lease.0 lot)) s
  owes-done lease lot e =
      let own = own_of lot.session s in
      let lots = lots-of_leases lot.session s.world.ports s.holdings.ports (history-stands pool past legal).held.ports_agree in
      let found = found-twice (is_lease lease.0) (is_owed_by lot.session) (λ (l : Lot). l.number == lease.0) (flat_map line_of s.world.ports) lot e
      (λ passes. ap₂ (λ (b c : Bool). b && c) (eq-eqb lot.session lot.session refl) (and_parts (lot.number == lease.0) (not lot.is_done) passes).1)
      (λ passes. (and_parts (lot.number == lease.0) (not lot.is_done) passes).0) in
      let some = of-number lease.0 own.leases (subst (λ (ls : List Lot). 1 ≤ length (filter (λ (l : Lot). l.number == lease.0) ls)) (sym lots) found) in
      let both = length-filter_both (number_is lease.0) (λ (l : HeldLot). not (number_is lease.0 l)) (λ l. refl) own.leases in
      omega (arith, some, both)

  owes-kinds : EachKind s (Left s (OwesAt s))
  owes-kinds = record {
    enters = λ user fits. omega arith;
    quiet = λ ask session reply quiet. owes-quiet s ask session reply quiet;
    opens = λ session name tx rx extra can refusal. omega arith;
    sends = λ from frames port e can settled. rw e (offers-more (own_of port.session s) (offers_of_send s.world port frames));
    grants = λ origin to offer first same. owes-granted origin to offer first;
    completes = λ lease lot e. owes-done lease lot e;
    receives = λ ask at back port receives e can. owes-received s ask at back port receives e;
    puts = λ at offered items port peer e can found. rw (e, found) (offers-more (own_of port.session s) (offers_of_put s.world port (frames_of_items items)));
    watches = λ at target sides port found e can there none. omega arith;
    shuts = λ at port e settled. omega arith;
    finishes = λ at bufs chain port fits e can out. omega arith;
    leaves = λ session can. omega arith;
  }

  pub entry-owes : (e : Entry) → Follows s e
      → paid_by e.ask + owed_by (own_of e.session.0 (standing_of pool (past ++ e ∷ []))) ≤ owed_by (own_of e.session.0 s) + 2 * offers_made e.reply
  entry-owes e follows =
      subst (λ (own : Own). paid_by e.ask + owed_by own ≤ owed_by (own_of e.session.0 s) + 2 * offers_made e.reply) (sym (own-entries pool past e legal follows))
      (follows-by s (OwesAt s) e follows owes-kinds)

  -- one that comes owes nothing
  pub enter-owes : (e : Entry) (user : ℕ) → Follows s e → e.ask ≡ Enter user
      → owed_by (own_of e.session.0 (standing_of pool (past ++ e ∷ []))) ≡ 0
  enter-owes e user follows is =
      ap owed_by (own-entries pool past e legal follows)
      ∙ ap (λ (a : Ask). owed_by (own_after_entry s a e.reply (own_of e.session.0 s))) is

  -- and one that needs no call owes nothing
  pub settled-owes : (session : Option SessionId) → option_and_then (settling_call s.world) session ≡ None
      → owed_turns s session ≡ 0
  settled-owes None e = refl
  settled-owes (Some x) e =
      let none = no-settling (owed_lot s.world x.0) (next_offer s.world x.0) e in
      let leases = no-lease (own_of x.0 s).leases (sym (first-leases pool past x.0 legal) ∙ none.0) in
      let offers = no-first (own_of x.0 s).offers (sym (first-offers s x.0) ∙ none.1) in
      omega (arith, leases, offers)
    where
      no-settling : (lot : Option Lot) (offer : Option Offer) → option_or (option_map done_call lot) (option_map grant_call offer) ≡ None
          → (lot ≡ None) × (offer ≡ None)
      no-settling None None e = (refl, refl)
      no-settling None (Some offer) e = absurd cc
      no-settling (Some lot) offer e = absurd cc

      no-first : {X : Type 0} (xs : List X) → slice_get xs 0 ≡ None → length xs ≡ 0
      no-first [] e = refl
      no-first (x ∷ xs) e = absurd cc

      no-lease : (leases : List HeldLot) → option_map lot_of_lease (slice_get leases 0) ≡ None → length leases ≡ 0
      no-lease [] e = refl
      no-lease (lease ∷ leases) e = absurd cc
