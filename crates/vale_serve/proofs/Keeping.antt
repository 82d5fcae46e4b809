-- What sessions have outside the book stays what is their own, entry by entry.
use Rattle.std.proofs.Common.{ℕ, zero, suc, ◌≡◌, ◌≢◌, ◌≤◌, ◌-◌, ◌==◌, Bool, true, false, List, [], ◌∷◌, ◌++◌, length, map, slice_get, slice_set, Some, option_map, refl, sym, ◌∙◌, ap, ap₂, subst, arith, length-append}
use Rattle.std.specs.List.{AllByRecursion as Each}
use Rattle.std.proofs.lemmas.Bool.{eqb-true, eqb-false}
use Rattle.std.proofs.lemmas.List.{length-map}
use Rattle.nm_region.specs.Buffers.{Buffer}
use Rattle.vale_line.specs.Gots.{buffers_of}
use Rattle.vale_line.specs.Leased.{Leased}
use Rattle.vale_entry.specs.declared.entry.Ask.{Ask}
use Rattle.vale_entry.specs.declared.entry.Entry.{Entry}
use Rattle.vale_entry.specs.World.{Port, changed_if, changed_at}
use Rattle.vale_entry.specs.Laws.{Rise, id_of_port}
use Rattle.vale_entry.specs.Legal.{Standing, Outcome, step, session_and_reply, is_met, kept_ask, IsLegal, Follows}
use Rattle.vale_entry.proofs.Each.{each-weaker}
use Rattle.vale_entry.proofs.Rising.{rise-wider, rise-slice_get}
use Rattle.vale_entry.proofs.Worlds.{legal-push}
use Rattle.vale_entry.proofs.HistoryLaws.{numbers-rise}
use Rattle.vale_own.specs.Own.{Own, HeldLot, own_of}
use Rattle.vale_own.specs.OwnEntries.{own_after_entry}
use Rattle.vale_own.proofs.OwnKept.{own-entry}
use Rattle.vale_own.proofs.OwnEntry.{own-entries}
use Rattle.vale_book.specs.BookView.{AreOf}
use Rattle.vale_book.specs.Recorded.{Recorded, standing, entry_of, after_outcome, after_ask}
use Rattle.vale_own.proofs.Rooms.{step-recorded}
use Rattle.vale_book.specs.Leases.{WasGranted, is_grant_to}
use Rattle.vale_book.proofs.Placed.{met-there}
use Rattle.vale_serve.specs.declared.users.User.{User}
use Rattle.vale_serve.specs.declared.users.Room.{Room}
use Rattle.vale_serve.specs.Users.{id_of_user, IsHeldAs, AreHeldAs, number_of, port_of_room, HasOwn, IsUser}
use Rattle.vale_serve.specs.Joined.{AreUsersOf}

-- ---- with entries more

-- the record goes on
pub record IsLater (b after : Recorded) : Type 0 where
  pub region : after.region ≡ b.region
  pub more : List Entry
  pub is : after.entries ≡ b.entries ++ more

abbrev pub grown : Recorded → Entry → Recorded
grown b e = record b { entries = b.entries ++ e ∷ [] }

abbrev pub grows : (b : Recorded) (e : Entry) → IsLater b (grown b e)
grows b e = record { region = refl; more = e ∷ []; is = refl }

pub get-kept : {X : Type 0} (xs ys : List X) (i : ℕ) (x : X) → slice_get xs i ≡ Some x → slice_get (xs ++ ys) i ≡ Some x
get-kept [] ys i x e = absurd cc
get-kept (y ∷ more) ys zero x e = e
get-kept (y ∷ more) ys (suc i) x e = get-kept more ys i x e

module _ (b after : Recorded) (later : IsLater b after) where
  granted-later : (number to : ℕ) → WasGranted b.entries number to → WasGranted after.entries number to
  granted-later number to was =
      let there = met-there (is_grant_to to) (slice_get b.entries (number - 1)) was in
      ap (λ (h : List Entry). is_met (is_grant_to to) (slice_get h (number - 1))) later.is
      ∙ (ap (is_met (is_grant_to to)) (get-kept b.entries later.more (number - 1) there.0 there.1) ∙ there.2)

  pub of-later : (bufs : List Buffer) → AreOf b.region bufs → AreOf after.region bufs
  of-later bufs are = subst (λ (region : ℕ). AreOf region bufs) (sym later.region) are

  pub held-later : (held : HeldLot) (lease : Leased) → IsHeldAs b held lease → IsHeldAs after held lease
  held-later held lease is = record {
    number = is.number;
    frames = is.frames;
    granted = granted-later lease.id lease.to is.granted;
    full = is.full;
    empty = is.empty;
    region_is = of-later (buffers_of lease.filled) is.region_is;
  }

  pub leases-later : (helds : List HeldLot) (leases : List Leased) → AreHeldAs b helds leases → AreHeldAs after helds leases
  leases-later [] [] are = tt
  leases-later [] (lease ∷ leases) are = absurd are
  leases-later (held ∷ helds) [] are = absurd are
  leases-later (held ∷ helds) (lease ∷ leases) are = (held-later held lease are.0, leases-later helds leases are.1)

  pub rise-later : (ns : List ℕ) → Rise 0 ns (length b.entries) → Rise 0 ns (length after.entries)
  rise-later ns rise =
      let long = ap (λ (h : List Entry). length h) later.is ∙ length-append b.entries later.more in
      rise-wider 0 0 ns (length b.entries) (length after.entries) (omega arith) (omega (arith, long)) rise

  pub own-later : (own : Own) (user : User) → HasOwn b own user → HasOwn after own user
  own-later own user is = record {
    offers = is.offers;
    leases = leases-later own.leases user.leases.items is.leases;
    rise = rise-later (map number_of own.leases) is.rise;
    buffers = is.buffers;
    region_is = of-later user.bufs.items is.region_is;
    lease_room = is.lease_room;
    rooms = is.rooms;
    room_each = is.room_each;
  }

abbrev pub own-grown : (b : Recorded) (e : Entry) (own : Own) (user : User) → HasOwn b own user → HasOwn (grown b e) own user
own-grown b e own user is = own-later b (grown b e) (grows b e) own user is

-- ---- one session acts

-- what of its own a session has outside the book, and which ports it has
pub record SameHands (own own' : Own) : Type 0 where
  pub offers : own'.offers ≡ own.offers
  pub leases : own'.leases ≡ own.leases
  pub buffers : own'.buffers ≡ own.buffers
  pub ports : map id_of_port own'.ports ≡ map id_of_port own.ports

pub hands-same : (b : Recorded) (own own' : Own) (user : User) → SameHands own own' → HasOwn b own user → HasOwn b own' user
hands-same b own own' user same is =
    record {
      offers = rw same.offers is.offers;
      leases = rw same.leases is.leases;
      rise = rw same.leases is.rise;
      buffers = rw same.buffers is.buffers;
      region_is = is.region_is;
      lease_room = is.lease_room;
      rooms = is.rooms;
      room_each = is.room_each ∙ sym same.ports;
    }

-- ---- rooms of ports

pub room-count : (rooms : List Room) (ports : List Port) → map port_of_room rooms ≡ map id_of_port ports → length ports ≡ length rooms
room-count rooms ports e =
    let one = length-map rooms port_of_room in
    let two = length-map ports id_of_port in
    let same = ap (λ (ns : List ℕ). length ns) e in
    omega (arith, one, two, same)

pub same-ports : (old new : User) (ports : List Port) → new.rooms ≡ old.rooms → map port_of_room old.rooms.items ≡ map id_of_port ports → map port_of_room new.rooms.items ≡ map id_of_port ports
same-ports old new ports same e = ap (λ v. map port_of_room v.items) same ∙ e

-- a change that leaves each port its number
pub ids-changed : (at : ℕ) (change : Port → Port) → ((p : Port) → (change p).id ≡ p.id) → (ports : List Port) → map id_of_port (changed_at at change ports) ≡ map id_of_port ports
ids-changed at change same [] = refl
ids-changed at change same (p ∷ ps) = ap₂ (λ (n : ℕ) (ns : List ℕ). n ∷ ns) (by (p.id == at)) (ids-changed at change same ps)
  where
    by : (t : Bool) → (changed_if t change p).id ≡ p.id
    by true = same p
    by false = refl

module _ (b : Recorded) (e : Entry) (legal : IsLegal b.pool b.entries) (follows : Follows (standing b) e) where
  abbrev session : ℕ
  session = e.session.0

  abbrev own : Own
  own = own_of session (standing b)

  abbrev own' : Own
  own' = own_after_entry (standing b) e.ask e.reply own

  -- of another session nothing changes
  pub user-other : (user : User) → user.id.0 ≢ session → IsUser b user → IsUser (grown b e) user
  user-other user other is =
      let same = own-entry b.pool b.entries e user.id.0 legal follows (λ here. other (sym here)) in
      subst (λ (o : Own). HasOwn (grown b e) o user) (sym same) (own-grown b e (own_of user.id.0 (standing b)) user is)

  pub user-own : (user : User) → user.id.0 ≡ session → HasOwn (grown b e) own' user → IsUser (grown b e) user
  user-own user here is =
      let same = own-entries b.pool b.entries e legal follows in
      subst (λ (n : ℕ). HasOwn (grown b e) (own_of n (standing (grown b e))) user) (sym here)
      (subst (λ (o : Own). HasOwn (grown b e) o user) (sym same) is)

  -- the session acts with what it had at hand
  user-quiet : (user : User) → SameHands own own' → IsUser b user → IsUser (grown b e) user
  user-quiet user hands is = by (user.id.0 == session) refl
    where
      by : (t : Bool) → (user.id.0 == session) ≡ t → IsUser (grown b e) user
      by true t =
          let here = eqb-true user.id.0 session t in
          user-own user here
          (hands-same (grown b e) own own' user hands
          (own-grown b e own user (subst (λ (n : ℕ). HasOwn b (own_of n (standing b)) user) here is)))
      by false t = user-other user (eqb-false user.id.0 session t) is

  pub users-quiet : (users : List User) → SameHands own own' → Each (IsUser b) users → Each (IsUser (grown b e)) users
  users-quiet users hands all = each-weaker (IsUser b) (IsUser (grown b e)) (λ user is. user-quiet user hands is) users all

  pub users-other : (low high : ℕ) (users : List User) → session ≤ low → Rise low (map id_of_user users) high → Each (IsUser b) users → Each (IsUser (grown b e)) users
  users-other low high [] above rise all = tt
  users-other low high (x ∷ xs) above rise all =
      let first = rise.0 in
      let up : session ≤ x.id.0 = omega (arith, first, above) in
      (user-other x (λ here. absurd (omega (arith, first, above, here))) all.0, users-other x.id.0 high xs up rise.1 all.1)

  -- the session at a place acts, and has there what is its own
  pub users-set : (low high : ℕ) (users : List User) (place : ℕ) (old new : User) → Rise low (map id_of_user users) high → Each (IsUser b) users
      → slice_get users place ≡ Some old → old.id.0 ≡ session → IsUser (grown b e) new
      → Each (IsUser (grown b e)) (slice_set users place new)
  users-set low high [] place old new rise all here whose is = absurd cc
  users-set low high (x ∷ xs) zero old new rise all here whose is =
      let same : x ≡ old = cc in
      let id : x.id.0 ≡ session = ap id_of_user same ∙ whose in
      (is, users-other x.id.0 high xs (omega (arith, id)) rise.1 all.1)
  users-set low high (x ∷ xs) (suc place) old new rise all here whose is =
      let there = rise-slice_get id_of_user x.id.0 xs high place old rise.1 here in
      let up = there.0 in
      (user-other x (λ same. absurd (omega (arith, up, whose, same))) all.0, users-set x.id.0 high xs place old new rise.1 all.1 here whose is)

-- ---- a step of the drive

pub step-follows : (s : Standing) (ask : Ask) (made : Outcome) → step s ask ≡ Some made → Follows s (entry_of ask made)
step-follows s ask made is = ap (option_map session_and_reply) (step-recorded s ask made is)

pub ids-set : (users : List User) (place : ℕ) (old new : User) → slice_get users place ≡ Some old → new.id.0 ≡ old.id.0 → map id_of_user (slice_set users place new) ≡ map id_of_user users
ids-set [] place old new here same = absurd cc
ids-set (x ∷ xs) zero old new here same = let is : x ≡ old = cc in ap (λ (n : ℕ). n ∷ map id_of_user xs) (same ∙ sym (ap id_of_user is))
ids-set (x ∷ xs) (suc place) old new here same = ap (λ (ns : List ℕ). x.id.0 ∷ ns) (ids-set xs place old new here same)

module _ (b : Recorded) (users : List User) (k : AreUsersOf b users) (ask : Ask) (made : Outcome) (is : step (standing b) ask ≡ Some made) where
  abbrev entry : Entry
  entry = entry_of ask made

  pub stepped : after_ask b ask ≡ grown b entry
  stepped = ap (after_outcome b ask) is

  abbrev mine : Own
  mine = own_of made.session (standing b)

  abbrev mine' : Own
  mine' = own_after_entry (standing b) (kept_ask ask) made.reply mine

  pub legal-after : IsLegal b.pool (grown b entry).entries
  legal-after = legal-push b.pool b.entries entry k.legal (step-follows (standing b) ask made is)

  pub rising : Rise 0 (map id_of_user users) (length b.entries)
  rising = subst (λ (ns : List ℕ). Rise 0 ns (length b.entries)) (sym k.ids) (numbers-rise b.pool b.entries).sessions_rise

  pub drive-quiet : (after : Recorded) → after ≡ after_ask b ask → (standing (grown b entry)).world.sessions ≡ (standing b).world.sessions → SameHands mine mine' → AreUsersOf after users
  drive-quiet after is' sessions hands =
      subst (λ (r : Recorded). AreUsersOf r users) (sym (is' ∙ stepped)) (record {
        legal = legal-after;
        ids = k.ids ∙ sym sessions;
        each = users-quiet b entry k.legal (step-follows (standing b) ask made is) users hands k.each;
      })

  pub drive-set : (after : Recorded) (place : ℕ) (old new : User) (users' : List User) → after ≡ after_ask b ask → (standing (grown b entry)).world.sessions ≡ (standing b).world.sessions
      → slice_get users place ≡ Some old → old.id.0 ≡ made.session → new.id.0 ≡ old.id.0 → users' ≡ slice_set users place new → IsUser (grown b entry) new → AreUsersOf after users'
  drive-set after place old new users' is' sessions here whose id set has =
      let whole : AreUsersOf (grown b entry) (slice_set users place new) = record {
        legal = legal-after;
        ids = ids-set users place old new here id ∙ (k.ids ∙ sym sessions);
        each = users-set b entry k.legal (step-follows (standing b) ask made is) 0 (length b.entries) users place old new rising k.each here whose has;
      } in
      subst (λ (r : Recorded). AreUsersOf r users') (sym (is' ∙ stepped)) (subst (AreUsersOf (grown b entry)) (sym set) whole)
