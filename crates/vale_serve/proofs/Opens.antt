-- A session opens a port, and has its buffers.
use Rattle.std.proofs.Common.{ℕ, ◌≡◌, ◌≤◌, ◌+◌, List, [], ◌∷◌, ◌++◌, length, map, take, drop, refl, sym, ◌∙◌, ap, subst, arith, length-append, ap₂}
use Rattle.std.specs.Prelude.{vec_capacity, Vec}
use Rattle.std.specs.List.{AllByRecursion as Each}
use Rattle.std.specs.declared.alloc.Global.{Global}
use Rattle.std.proofs.lemmas.List.{map-append}
use Rattle.std.proofs.lemmas.Option.{same_Some}
use Rattle.nm_region.specs.Buffers.{Buffer, indices_of}
use Rattle.nm_types.specs.declared.id.SessionId.{SessionId}
use Rattle.nm_types.specs.declared.fault.OpenFault.{OpenFault}
use Rattle.nm_types.specs.declared.fault.OpenFault.TheVariants.{BadSize, SwitchesFull, PortsFull, NameTaken, NoBuffers, RecordFull, NoMemory}
use Rattle.vale_line.specs.Leased.{Leased}
use Rattle.vale_entry.specs.declared.entry.Ask.TheVariants.{Open}
use Rattle.vale_entry.specs.declared.entry.Reply.{Reply}
use Rattle.vale_entry.specs.declared.entry.Reply.TheVariants.{Opened, Refused}
use Rattle.vale_entry.specs.Opening.{opened_port}
use Rattle.vale_entry.specs.Legal.{IsLegal}
use Rattle.vale_entry.proofs.Counting.{count_of-append}
use Rattle.vale_entry.proofs.Each.{each-append}
use Rattle.vale_own.specs.Own.{Own, own_of}
use Rattle.vale_own.specs.OwnEntries.{own_opened, own_after_entry}
use Rattle.vale_own.proofs.Askers.{askers-make-steps}
use Rattle.vale_steps.specs.declared.opening.Opened.{Opened as Handed}
use Rattle.vale_book.specs.BookView.{AreOf}
use Rattle.vale_book.specs.OpenAnswers.{IsUnopened}
use Rattle.vale_book.specs.Recorded.{Recorded, standing, IsRecordedAs, entry_of, after_outcome}
use Rattle.vale_serve.specs.declared.users.User.{User}
use Rattle.vale_serve.specs.Opening.{HasTaken}
use Rattle.vale_serve.specs.Users.{AreHeldAs, HasOffers, AreSame, IsRoom, HasOwn, IsUser, number_of, wants_left, IsMemory, port_of_room}
use Rattle.vale_serve.proofs.Keeping.{IsLater, of-later, leases-later, rise-later, own-later}
use Rattle.vale_serve.proofs.Acting.{Said, said, later, acts}
use Rattle.vale_serve.specs.declared.users.Room.{Room}
use Rattle.vale_entry.specs.Laws.{id_of_port}
use Rattle.vale_entry.proofs.Worlds.{count-world_of}

-- what each is gives the same buffers
pub same-append : (xs ys ms ns : List ℕ) → AreSame xs ms → AreSame ys ns → AreSame (xs ++ ys) (ms ++ ns)
same-append xs ys ms ns one two = λ n.
    let a = count_of-append n xs ys in
    let b = count_of-append n ms ns in
    let c = one n in
    let d = two n in
    omega (arith, a, b, c, d)

pub same-by : (xs ys : List ℕ) → xs ≡ ys → AreSame xs ys
same-by xs ys e = λ n. rw e refl

pub indices-append : (xs ys : List Buffer) → indices_of (xs ++ ys) ≡ indices_of xs ++ indices_of ys
indices-append xs ys = map-append (λ (b : Buffer). b.index) xs ys

module _ (b after : Recorded) (old new : User) (name : List ℕ) (tx rx extra : ℕ) (opened : Handed) (room : Vec Buffer Global)
    (legal : IsLegal b.pool b.entries) (user : IsUser b old) (taken : HasTaken old opened room new) (is_room : IsMemory room) (port_is : opened.port.0 ≡ length after.entries)
    (recorded : IsRecordedAs b after (Open old.id name tx rx extra) Opened)
    (tx_are : indices_of opened.tx.items ≡ take tx (standing b).holdings.free)
    (extra_are : indices_of opened.extra.items ≡ take extra (drop (tx + rx) (standing b).holdings.free))
    (region : AreOf b.region opened.tx.items × AreOf b.region opened.extra.items)
    (lease_room : length new.leases.items + wants_left new.sent ≤ vec_capacity new.leases) where
  s : Said b (Open old.id name tx rx extra) Opened
  s = said b (Open old.id name tx rx extra) Opened recorded.reply_is

  l : IsLater b after
  l = later b after (Open old.id name tx rx extra) recorded.entry

  abbrev own : Own
  own = own_of old.id.0 (standing b)

  mine : old.id.0 ≡ s.made.session
  mine = same_Some old.id.0 s.made.session (askers-make-steps (standing b) (Open old.id name tx rx extra) s.made refl s.is)

  abbrev kept : Room
  kept = record { port = opened.port; bufs = room }

  number : opened.port.0 ≡ (standing b).world.entry_count + 1
  number =
      let entry = entry_of (Open old.id name tx rx extra) s.made in
      let long = ap (λ (r : Recorded). length r.entries) (recorded.entry ∙ ap (after_outcome b (Open old.id name tx rx extra)) s.is) ∙ length-append b.entries (entry ∷ []) in
      let count = count-world_of b.pool b.entries in
      omega (arith, port_is, long, count)

  rooms-are : map port_of_room new.rooms.items ≡ map id_of_port (own.ports ++ opened_port ((standing b).world.entry_count + 1) old.id.0 name tx rx extra ∷ [])
  rooms-are =
      ap (λ (rs : List Room). map port_of_room rs) taken.rooms
      ∙ (map-append port_of_room old.rooms.items (kept ∷ [])
      ∙ (ap₂ (λ (ns : List ℕ) (n : ℕ). ns ++ n ∷ []) user.room_each number
      ∙ sym (map-append id_of_port own.ports (opened_port ((standing b).world.entry_count + 1) old.id.0 name tx rx extra ∷ []))))

  has : HasOwn after (own_opened (standing b) old.id.0 name tx rx extra own) new
  has =
      let came : indices_of (opened.tx.items ++ opened.extra.items) ≡ take tx (standing b).holdings.free ++ take extra (drop (tx + rx) (standing b).holdings.free) =
      indices-append opened.tx.items opened.extra.items ∙ rw (tx_are, extra_are) refl in
      let bufs : indices_of new.bufs.items ≡ indices_of old.bufs.items ++ indices_of (opened.tx.items ++ opened.extra.items) =
      ap indices_of taken.bufs ∙ indices-append old.bufs.items (opened.tx.items ++ opened.extra.items) in
      record {
        offers = subst (HasOffers own.offers) (sym taken.sent) user.offers;
        leases = leases-later b after l own.leases new.leases.items (subst (λ (ls : List Leased). AreHeldAs b own.leases ls) (ap (λ v. v.items) (sym taken.leases)) user.leases);
        rise = rise-later b after l (map number_of own.leases) user.rise;
        buffers = subst (λ (ns : List ℕ). AreSame ns (own.buffers ++ (take tx (standing b).holdings.free ++ take extra (drop (tx + rx) (standing b).holdings.free)))) (sym bufs)
            (same-append (indices_of old.bufs.items) (indices_of (opened.tx.items ++ opened.extra.items)) own.buffers _ user.buffers (same-by _ _ came));
        region_is = of-later b after l new.bufs.items (subst (AreOf b.region) (sym taken.bufs)
            (each-append _ old.bufs.items (opened.tx.items ++ opened.extra.items) user.region_is (each-append _ opened.tx.items opened.extra.items region.0 region.1)));
        lease_room = lease_room;
        rooms = subst (Each IsRoom) (sym taken.rooms) (each-append IsRoom old.rooms.items (kept ∷ []) user.rooms (is_room, tt));
        room_each = rooms-are;
      }

  pub opened-kept : IsUser after new
  opened-kept =
      acts b after (Open old.id name tx rx extra) s.made new legal recorded.entry s.is (ap (λ (i : SessionId). i.0) taken.id ∙ mine)
      (subst (λ (n : ℕ). HasOwn after (own_after_entry (standing b) (Open old.id name tx rx extra) s.made.reply (own_of n (standing b))) new) mine
      (subst (λ (r : Reply). HasOwn after (own_after_entry (standing b) (Open old.id name tx rx extra) r own) new) (sym s.reply_is) has))

-- an opening that is refused gives nothing
refused-kept : (b after : Recorded) (user : User) (name : List ℕ) (tx rx extra : ℕ) (fault : OpenFault) → IsLegal b.pool b.entries → IsUser b user
    → IsRecordedAs b after (Open user.id name tx rx extra) (Refused fault) → IsUser after user
refused-kept b after user name tx rx extra fault legal is recorded =
    let ask = Open user.id name tx rx extra in
    let s : Said b ask (Refused fault) = said b ask (Refused fault) recorded.reply_is in
    let mine : user.id.0 ≡ s.made.session = same_Some user.id.0 s.made.session (askers-make-steps (standing b) ask s.made refl s.is) in
    let own = own_of user.id.0 (standing b) in
    acts b after ask s.made user legal recorded.entry s.is mine
    (subst (λ (n : ℕ). HasOwn after (own_after_entry (standing b) ask s.made.reply (own_of n (standing b))) user) mine
    (subst (λ (r : Reply). HasOwn after (own_after_entry (standing b) ask r own) user) (sym s.reply_is)
    (own-later b after (later b after ask recorded.entry) own user is)))

pub unopened-kept : (b after : Recorded) (user : User) (name : List ℕ) (tx rx extra : ℕ) (fault : OpenFault) → IsLegal b.pool b.entries → IsUser b user
    → IsUnopened b after (Open user.id name tx rx extra) fault → IsUser after user
unopened-kept b after user name tx rx extra BadSize legal is u = refused-kept b after user name tx rx extra BadSize legal is u
unopened-kept b after user name tx rx extra SwitchesFull legal is u = refused-kept b after user name tx rx extra SwitchesFull legal is u
unopened-kept b after user name tx rx extra PortsFull legal is u = refused-kept b after user name tx rx extra PortsFull legal is u
unopened-kept b after user name tx rx extra NameTaken legal is u = refused-kept b after user name tx rx extra NameTaken legal is u
unopened-kept b after user name tx rx extra (NoBuffers want have) legal is u = refused-kept b after user name tx rx extra (NoBuffers want have) legal is u
unopened-kept b after user name tx rx extra (RecordFull what used want) legal is u = subst (λ (r : Recorded). IsUser r user) (sym u.0) is
unopened-kept b after user name tx rx extra NoMemory legal is u = subst (λ (r : Recorded). IsUser r user) (sym u.0) is
