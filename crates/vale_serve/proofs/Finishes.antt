-- A port goes with buffers of its session.
use Rattle.std.proofs.Common.{ℕ, ◌≡◌, ◌≤◌, ◌<◌, ◌+◌, ◌^◌, ◌==◌, ◌&&◌, not, Bool, true, false, cond, List, [], ◌∷◌, length, map, filter, flat_map, Option, Some, None, refl, sym, ◌∙◌, ap, subst, arith, Fits, w32, zero, suc, ◌||◌, position, get_or}
use Rattle.std.specs.Prelude.{find, vec_capacity, Ok}
use Rattle.std.specs.List.{AllByRecursion as Each, list_any, remove}
use Rattle.std.proofs.lemmas.Bool.{and_parts, eqb-true, eq-eqb, ne_eqb, lt-ltb}
use Rattle.nm_region.specs.Buffers.{Buffer}
use Rattle.nm_types.specs.declared.id.Chain.{Chain}
use Rattle.nm_types.specs.declared.id.PortId.{PortId}
use Rattle.nm_types.specs.declared.id.SessionId.{SessionId}
use Rattle.vale_line.specs.Leased.{Leased}
use Rattle.vale_entry.specs.declared.entry.Ask.TheVariants.{Finish}
use Rattle.vale_entry.specs.declared.entry.Reply.{Reply}
use Rattle.vale_entry.specs.declared.entry.Reply.TheVariants.{Unread, LeasesOut}
use Rattle.vale_entry.specs.World.{Port}
use Rattle.vale_entry.specs.Closing.{is_shutting_at, shutting_port, leases_out, unread_count, is_port_of, ports_without}
use Rattle.vale_entry.specs.Holdings.{buffers_without, is_buffer_index, holds_all as all_held, contains}
use Rattle.vale_entry.specs.Laws.{Rise, id_of_port}
use Rattle.vale_entry.specs.Legal.{Standing, step, reply_to, is_enabled, is_met, fits_u32, fits_chain, can_finish, finish_reply, finish_reply_at, finish_step, finish_step_at, IsLegal}
use Rattle.vale_entry.proofs.Counting.{count_of-append}
use Rattle.vale_entry.proofs.HistoryLaws.{numbers-rise}
use Rattle.vale_entry.proofs.ListLaws.{each-at}
use Rattle.vale_own.specs.Own.{Own, own_of, port_alone, buffers_of_lease, all_buffers_of}
use Rattle.vale_own.specs.OwnEntries.{own_after_entry}
use Rattle.vale_own.proofs.Buffers.{buffers-apart}
use Rattle.vale_book.specs.Recorded.{Recorded, standing, after_ask, after_outcome, room_by}
use Rattle.vale_book.specs.declared.asking.PortSeen.{PortSeen}
use Rattle.vale_book.proofs.Said.{gone-said}
use Rattle.vale_serve.specs.declared.users.Sent.{Sent}
use Rattle.vale_serve.specs.declared.users.User.{User}
use Rattle.vale_serve.specs.Buffers.{holds_all, times}
use Rattle.vale_serve.specs.Finishing.{HasRoomForPort, HasTakenForPort, HasLostRoom}
use Rattle.vale_serve.specs.Serving.{IsServed}
use Rattle.vale_serve.specs.Users.{HasOffers, AreHeldAs, IsRoom, HasOwn, IsUser, IsAsker, number_of, wants_left, is_room_of, port_of_room}
use Rattle.vale_serve.proofs.Keeping.{IsLater, leases-later, rise-later, of-later}
use Rattle.vale_serve.proofs.Acting.{Said, said, later, acts, mine-by}
use Rattle.vale_serve.proofs.PortSizes.{due-few}
use Rattle.vale_serve.proofs.Taking.{holds-same, left-same}
use Rattle.vale_serve.specs.declared.users.Room.{Room}
use Rattle.vale_entry.proofs.Removals.{rise-filter, map-filter, filter-at_key}
use Rattle.vale_serve.proofs.Places.{found-at}
use Rattle.std.proofs.lemmas.Option.{get_or_from_slice_get}

-- ---- a session's ports

abbrev of_session : ℕ → List Port → List Port
of_session session ports = filter (is_port_of session) (map port_alone ports)

cond-there : (id : ℕ) (p : Port) (ps : List Port) (t : Bool) → contains id (map id_of_port ps) ≡ true → contains id (map id_of_port (cond t (p ∷ ps) ps)) ≡ true
cond-there id p ps true e = ap (λ (u : Bool). (p.id == id) || u) e ∙ or-on (p.id == id)
  where
    or-on : (t : Bool) → (t || true) ≡ true
    or-on true = refl
    or-on false = refl
cond-there id p ps false e = e

cond-here : (id : ℕ) (p : Port) (ps : List Port) (t : Bool) → t ≡ true → (p.id == id) ≡ true → contains id (map id_of_port (cond t (p ∷ ps) ps)) ≡ true
cond-here id p ps true e i = ap (λ (u : Bool). u || contains id (map id_of_port ps)) i
cond-here id p ps false e i = absurd cc

-- a shut port of the session is among its ports
port-there : (id session : ℕ) (ports : List Port) (port : Port) → find (is_shutting_at id) ports ≡ Some port → port.session ≡ session → contains id (map id_of_port (of_session session ports)) ≡ true
port-there id session [] port found mine = absurd cc
port-there id session (p ∷ ps) port found mine = by (is_shutting_at id p) refl found (port-there id session ps port)
  where
    by : (t : Bool) → is_shutting_at id p ≡ t → cond t (Some p) (find (is_shutting_at id) ps) ≡ Some port
        → (find (is_shutting_at id) ps ≡ Some port → port.session ≡ session → contains id (map id_of_port (of_session session ps)) ≡ true)
        → contains id (map id_of_port (cond (p.session == session) (port_alone p ∷ of_session session ps) (of_session session ps))) ≡ true
    by true t found' rest =
        let same : p ≡ port = cc in
        cond-here id (port_alone p) (of_session session ps) (p.session == session) (eq-eqb p.session session (ap (λ (q : Port). q.session) same ∙ mine)) (and_parts (p.id == id) p.shutting t).0
    by false t found' rest = cond-there id (port_alone p) (of_session session ps) (p.session == session) (rest found' mine)

any-room : (id : ℕ) (rooms : List Room) → list_any (is_room_of id) rooms ≡ contains id (map port_of_room rooms)
any-room id [] = refl
any-room id (r ∷ rs) = ap (λ (t : Bool). (r.port.0 == id) || t) (any-room id rs)

ids-alone : (ports : List Port) → map id_of_port (map port_alone ports) ≡ map id_of_port ports
ids-alone [] = refl
ids-alone (p ∷ ps) = ap (λ (ns : List ℕ). p.id ∷ ns) (ids-alone ps)

-- without the room of a port, and without the port
rooms-less : (high id session : ℕ) (ports : List Port) (old new : List Room) → Rise 0 (map id_of_port ports) high → map port_of_room old ≡ map id_of_port (of_session session ports) → HasLostRoom old id new
    → map port_of_room new ≡ map id_of_port (ports_without id (of_session session ports))
rooms-less high id session ports old new rise same lost =
    let mine : Rise 0 (map id_of_port (of_session session ports)) high =
    rise-filter id_of_port (is_port_of session) 0 (map port_alone ports) high (subst (λ (ns : List ℕ). Rise 0 ns high) (sym (ids-alone ports)) rise) in
    let gone : filter (λ (r : Room). not (port_of_room r == port_of_room lost.room)) old ≡ remove old lost.place =
    filter-at_key port_of_room 0 old high lost.place lost.room (subst (λ (ns : List ℕ). Rise 0 ns high) (sym same) mine) lost.here in
    ap (map port_of_room) (lost.left ∙ sym gone)
    ∙ (map-filter port_of_room (λ (n : ℕ). not (n == port_of_room lost.room)) old
    ∙ (ap (filter (λ (n : ℕ). not (n == port_of_room lost.room))) same
    ∙ (ap (λ (k : ℕ). filter (λ (n : ℕ). not (n == k)) (map id_of_port (of_session session ports))) lost.port_is
    ∙ sym (map-filter id_of_port (λ (n : ℕ). not (n == id)) (of_session session ports)))))

pub lost-room : (old new : List Room) (id place : ℕ) → position (is_room_of id) old ≡ Some place → new ≡ remove old place → HasLostRoom old id new
lost-room old new id place e left =
    let found = found-at (is_room_of id) old place e in
    record { place = place; room = found.it; here = found.here; port_is = eqb-true found.it.port.0 id found.passes; left = left }

pub room-at : (old : List Room) (id place : ℕ) (room : Room) → position (is_room_of id) old ≡ Some place → room ≡ get_or old place room → Each IsRoom old → IsRoom room
room-at old id place room e is all =
    let found = found-at (is_room_of id) old place e in
    let same : found.it ≡ room = sym (get_or_from_slice_get old place found.it room found.here) ∙ sym is in
    subst IsRoom same (each-at IsRoom old place found.it all found.here)

each-remove : {X : Type 0} (P : X → Type 0) (xs : List X) (i : ℕ) → Each P xs → Each P (remove xs i)
each-remove P [] zero all = tt
each-remove P [] (suc i) all = tt
each-remove P (x ∷ xs) zero all = all.1
each-remove P (x ∷ xs) (suc i) all = (all.0, each-remove P xs i all.1)

-- ---- the step

none-goes : (s : Standing) (bufs : List ℕ) (found : Option Port) → is_met (can_finish s bufs) found ≡ false → (finish_reply_at s bufs found ≡ None) × (finish_step_at s bufs found ≡ None)
none-goes s bufs None off = (refl, refl)
none-goes s bufs (Some port) off =
    (ap (λ (t : Bool). cond t (Some (finish_reply port)) None) off, ap (λ (t : Bool). cond (t && (leases_out port == 0)) (Some (finish_step s bufs port)) None) off)

served-without : (b : Recorded) (at : PortId) (bufs : List ℕ) (chain : Chain) (reply : Option Reply) → fits_chain chain ≡ true
    → finish_reply_at (standing b) bufs (shutting_port (standing b).world.ports at.0) ≡ reply → finish_step_at (standing b) bufs (shutting_port (standing b).world.ports at.0) ≡ None
    → IsServed b b (Finish at bufs chain) (Ok reply)
served-without b at bufs chain reply fits told none =
    let ask = Finish at bufs chain in
    let found = shutting_port (standing b).world.ports at.0 in
    let step-is : step (standing b) ask ≡ None = ap (λ (t : Bool). cond t (finish_step_at (standing b) bufs found) None) fits ∙ none in
    let said-is : reply_to (standing b) ask ≡ reply = ap (λ (t : Bool). cond t (finish_reply_at (standing b) bufs found) None) fits ∙ told in
    (sym said-is, sym (ap (after_outcome b ask) step-is), subst (room_by b ask) (sym step-is) tt)

one-at-most : (n : ℕ) (t : Bool) → n ≤ cond t 1 0 → n ≤ 1
one-at-most n true low = low
one-at-most n false low = omega (arith, low)

pub own-once : (b : Recorded) (session n : ℕ) → IsLegal b.pool b.entries → times n (own_of session (standing b)).buffers ≤ 1
own-once b session n legal =
    let own = own_of session (standing b) in
    let apart : times n (all_buffers_of own) ≤ 1 = one-at-most (times n (all_buffers_of own)) (is_buffer_index b.pool n) (buffers-apart b.pool b.entries session n legal) in
    let parts : times n (all_buffers_of own) ≡ times n own.buffers + times n (flat_map buffers_of_lease own.leases) = count_of-append n own.buffers (flat_map buffers_of_lease own.leases) in
    omega (arith, apart, parts)

module _ (b : Recorded) (user : User) (at : PortId) (seen : PortSeen) (bufs : List ℕ) (chain : Chain) (legal : IsLegal b.pool b.entries) (is : IsUser b user)
    (asker : IsAsker user (shutting_port (standing b).world.ports at.0) seen) (fits : fits_chain chain ≡ true) where
  abbrev own : Own
  own = own_of user.id.0 (standing b)

  abbrev found : Option Port
  found = shutting_port (standing b).world.ports at.0

  can-is : is_met (can_finish (standing b) bufs) (shutting_port (standing b).world.ports at.0) ≡ ((length bufs == seen.due) && holds_all user.bufs.items bufs)
  can-is =
      ap (is_met (can_finish (standing b) bufs)) asker.found_is
      ∙ (ap (λ (n : ℕ). (length bufs == n) && all_held (standing b).holdings asker.port.session bufs) (sym asker.is_seen.due)
      ∙ ap (λ (t : Bool). (length bufs == seen.due) && t) (ap (λ (n : ℕ). all_held (standing b).holdings n bufs) asker.mine ∙ sym (holds-same user.bufs.items own.buffers bufs is.buffers)))

  pub unfinished : ((length bufs == seen.due) && holds_all user.bufs.items bufs) ≡ false → IsServed b b (Finish at bufs chain) (Ok None)
  unfinished off =
      let none = none-goes (standing b) bufs found (can-is ∙ off) in
      served-without b at bufs chain None fits none.0 none.1

  module _ (can : ((length bufs == seen.due) && holds_all user.bufs.items bufs) ≡ true) where
    goes : can_finish (standing b) bufs asker.port ≡ true
    goes = sym (ap (is_met (can_finish (standing b) bufs)) asker.found_is) ∙ (can-is ∙ can)

    told : finish_reply_at (standing b) bufs (shutting_port (standing b).world.ports at.0) ≡ Some (finish_reply asker.port)
    told = ap (finish_reply_at (standing b) bufs) asker.found_is ∙ ap (λ (t : Bool). cond t (Some (finish_reply asker.port)) None) goes

    -- it waits for leases
    pub waits : 0 < seen.leases_out → IsServed b b (Finish at bufs chain) (Ok (Some (LeasesOut seen.leases_out)))
    waits some =
        let count = asker.is_seen.leases in
        let out : (leases_out asker.port == 0) ≡ false = ne_eqb (leases_out asker.port) 0 (λ none. absurd (omega (arith, some, count, none))) in
        let reply : Some (finish_reply asker.port) ≡ Some (LeasesOut seen.leases_out) =
        ap (λ (t : Bool). Some (cond t (Unread (unread_count asker.port)) (LeasesOut (leases_out asker.port)))) out ∙ ap (λ (n : ℕ). Some (LeasesOut n)) (sym count) in
        served-without b at bufs chain (Some (LeasesOut seen.leases_out)) fits (told ∙ reply)
        (ap (finish_step_at (standing b) bufs) asker.found_is
        ∙ (ap (λ (t : Bool). cond (can_finish (standing b) bufs asker.port && t) (Some (finish_step (standing b) bufs asker.port)) None) out
        ∙ ap (λ (t : Bool). cond (t && false) (Some (finish_step (standing b) bufs asker.port)) None) goes))

    pub enabled : is_enabled (standing b) (Finish at bufs chain) ≡ true
    enabled = ap (λ (t : Bool). t && is_met (can_finish (standing b) bufs) found) fits ∙ (can-is ∙ can)

    pub has-room : HasRoomForPort at.0 bufs user
    has-room =
        let due = due-few b.pool b.entries (is_shutting_at at.0) asker.port legal asker.found_is in
        let seen-due = asker.is_seen.due in
        let size = eqb-true (length bufs) seen.due (and_parts (length bufs == seen.due) (holds_all user.bufs.items bufs) can).0 in
        let there = port-there at.0 user.id.0 (standing b).world.ports asker.port asker.found_is asker.mine in
        record {
          few = omega (arith, due, seen-due, size);
          some = any-room at.0 user.rooms.items ∙ (ap (contains at.0) is.room_each ∙ there);
          rooms = is.rooms;
        }

    -- no lease of it is out
    pub waits-not : (n : ℕ) → seen.leases_out ≡ 0 → reply_to (standing b) (Finish at bufs chain) ≡ Some (LeasesOut n) → ⊥
    waits-not n none reply =
        let out : (leases_out asker.port == 0) ≡ true = eq-eqb (leases_out asker.port) 0 (sym asker.is_seen.leases ∙ none) in
        let said-is : reply_to (standing b) (Finish at bufs chain) ≡ Some (Unread (unread_count asker.port)) =
        ap (λ (t : Bool). cond t (finish_reply_at (standing b) bufs found) None) fits
        ∙ (told ∙ ap (λ (t : Bool). Some (cond t (Unread (unread_count asker.port)) (LeasesOut (leases_out asker.port)))) out) in
        absurd (let wrong = sym reply ∙ said-is in cc)

    module _ (after : Recorded) (new : User) (taken : List Buffer) (count : ℕ) (has : HasTakenForPort at.0 user bufs taken new) (grew : after ≡ after_ask b (Finish at bufs chain))
        (reply : reply_to (standing b) (Finish at bufs chain) ≡ Some (Unread count)) where
      s : Said b (Finish at bufs chain) (Unread count)
      s = said b (Finish at bufs chain) (Unread count) (gone-said (standing b) at bufs chain count reply)

      abbrev target : Own
      target = record own { ports = ports_without at.0 own.ports; buffers = buffers_without bufs own.buffers }

      left : HasOwn after (record (own_of user.id.0 (standing b)) { ports = ports_without at.0 (own_of user.id.0 (standing b)).ports; buffers = buffers_without bufs (own_of user.id.0 (standing b)).buffers }) new
      left =
          let l : IsLater b after = later b after (Finish at bufs chain) grew in
          let holds = (and_parts (length bufs == seen.due) (holds_all user.bufs.items bufs) can).1 in
          let leases = ap (λ v. length v.items) has.leases in
          let capacity = ap (λ v. vec_capacity v) has.leases in
          let wants = ap wants_left has.sent in
          let room = is.lease_room in
          record {
            offers = subst (λ (x : Option Sent). HasOffers own.offers x) (sym has.sent) is.offers;
            leases = leases-later b after l own.leases new.leases.items (subst (λ (ls : List Leased). AreHeldAs b own.leases ls) (ap (λ v. v.items) (sym has.leases)) is.leases);
            rise = rise-later b after l (map number_of own.leases) is.rise;
            buffers = left-same user.bufs.items new.bufs.items own.buffers bufs taken is.buffers has.bufs holds (λ n. own-once b user.id.0 n legal);
            region_is = of-later b after l new.bufs.items (has.bufs.left_of b.region is.region_is);
            lease_room = omega (arith, leases, capacity, wants, room);
            rooms = subst (Each IsRoom) (sym has.rooms.left) (each-remove IsRoom user.rooms.items has.rooms.place is.rooms);
            room_each = rooms-less (length b.entries) at.0 user.id.0 (standing b).world.ports user.rooms.items new.rooms.items (numbers-rise b.pool b.entries).ports_rise is.room_each has.rooms;
          }

      pub gone-kept : IsUser after new
      gone-kept =
          let whose : user.id.0 ≡ s.made.session = sym asker.mine ∙ mine-by b (Finish at bufs chain) s.made found asker.port s.is refl refl asker.found_is in
          acts b after (Finish at bufs chain) s.made new legal grew s.is (ap (λ (i : SessionId). i.0) has.id ∙ whose)
          (subst (λ (n : ℕ). HasOwn after (own_after_entry (standing b) (Finish at bufs chain) s.made.reply (own_of n (standing b))) new) whose left)

-- what a caller found in a ring is counted in numbers of 32 bits
pub chain-fits : (chain : Chain) → Fits w32 chain.found → Fits w32 chain.astray → fits_chain chain ≡ true
chain-fits chain found astray =
    let one : fits_u32 chain.found ≡ true = lt-ltb chain.found (2 ^ 32) (omega (arith, found)) in
    let two : fits_u32 chain.astray ≡ true = lt-ltb chain.astray (2 ^ 32) (omega (arith, astray)) in
    rw (one, two) refl
