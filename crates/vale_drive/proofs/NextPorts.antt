-- A port is shut and goes, in its turn, and then the sessions leave.
use Rattle.std.proofs.Common.{ℕ, zero, suc, ◌≡◌, ◌≤◌, ◌<◌, ◌+◌, ◌==◌, ◌&&◌, ◌||◌, not, Bool, true, false, cond, List, [], ◌∷◌, ◌++◌, length, map, filter, find, take, drop, flat_map, count_by, sum_by, slice_get, slice_set, position, Option, Some, None, is_some, option_map, refl, sym, ◌∙◌, ap, arith}
use Rattle.std.specs.Prelude.{Ok}
use Rattle.std.specs.List.{AllByRecursion as Each, list_all, list_any}
use Rattle.std.specs.List.Sorted.{IsNonDecreasingBy}
use Rattle.std.proofs.lemmas.Bool.{and_parts, eqb-true, eq-eqb, ne_eqb}
use Rattle.std.proofs.lemmas.List.{length-map, length-take-le}
use Rattle.std.proofs.lemmas.List.Sums.{sum_by-cons}
use Rattle.nm_types.specs.declared.id.PortId.{PortId}
use Rattle.nm_types.proofs.Tests.{or_true}
use Rattle.nm_region.specs.Buffers.{Buffer, indices_of}
use Rattle.vale_line.specs.Leased.{Leased}
use Rattle.vale_entry.specs.declared.entry.Ask.TheVariants.{Shut, Finish, Leave}
use Rattle.vale_entry.specs.declared.entry.Reply.{Reply}
use Rattle.vale_entry.specs.World.{Port, Lot, is_undone, is_open_at, is_session, open_port, due_of}
use Rattle.vale_entry.specs.Closing.{is_shutting_at, shutting_port, leases_out, is_port_of}
use Rattle.vale_entry.specs.Delivery.{is_lease as is_lease_lot, line_of}
use Rattle.vale_entry.specs.Holdings.{contains, are_distinct, buffers_of_session}
use Rattle.vale_entry.specs.Laws.{Rise, id_of_port, IsPortOf}
use Rattle.vale_entry.specs.Legal.{step, is_met, fits_chain, can_finish, finish_step, finish_step_at, world_of, IsLegal}
use Rattle.vale_entry.proofs.Counting.{count_of-cons, count_of-append, contains-count, contains-none}
use Rattle.vale_entry.proofs.Each.{each-find}
use Rattle.vale_entry.proofs.HistoryLaws.{numbers-rise}
use Rattle.vale_entry.proofs.ListLaws.{each-at, front-rest, place-of}
use Rattle.vale_entry.proofs.Numbered.{world-numbered}
use Rattle.vale_entry.proofs.Rising.{rise-slice_get}
use Rattle.vale_own.specs.Own.{own_of, port_alone}
use Rattle.vale_own.proofs.Reading.{buffers-due}
use Rattle.vale_book.specs.Asking.{IsSeenAs}
use Rattle.vale_book.specs.Recorded.{Recorded, standing, after_outcome}
use Rattle.vale_book.specs.declared.asking.PortSeen.{PortSeen}
use Rattle.vale_serve.specs.declared.users.User.{User}
use Rattle.vale_serve.specs.declared.users.Room.{Room}
use Rattle.vale_serve.specs.Buffers.{holds, holds_all, times}
use Rattle.vale_serve.specs.Joined.{AreUsersOf}
use Rattle.vale_serve.specs.Serving.{IsServed}
use Rattle.vale_serve.specs.Users.{id_of_user, AreSame, IsUser, IsAsker, IsMine, has_lease, is_lease, is_settled_user, most_due, port_in_room, port_of_room}
use Rattle.vale_drive.specs.Turns.{IsQuiet, IsPortsTurn}
use Rattle.vale_serve.specs.Exchange.{index_of}
use Rattle.vale_drive.specs.Winding.{no_chain, rising, bufs_ending, port_ending, session_ending, sessions_ending, next_ending, IsNextMade}
use Rattle.vale_serve.proofs.Acting.{settled-parts}
use Rattle.vale_serve.proofs.Asked.{can-shut-is}
use Rattle.vale_serve.proofs.Finishes.{own-once, enabled}
use Rattle.vale_serve.proofs.Leavers.{leaves}
use Rattle.vale_drive.proofs.NextOffers.{next-made}
use Rattle.vale_drive.proofs.NextLeases.{quiet-next}
use Rattle.vale_drive.proofs.Rising.{rising-is}
use Rattle.vale_serve.proofs.Places.{found-at}
use Rattle.vale_serve.proofs.PortSizes.{due-few}
use Rattle.vale_serve.proofs.Sought.{user-of, none-done, session-there}
use Rattle.vale_serve.proofs.Taking.{holds-contains, take-next}

abbrev one_if : Bool → ℕ
one_if t = cond t 1 0

-- ---- the first port of the first session

none-above : (test : Port → Bool) (id low high : ℕ) (ports : List Port) → ((p : Port) → test p ≡ true → p.id ≡ id) → id ≤ low → Rise low (map id_of_port ports) high → find test ports ≡ None
none-above test id low high [] named below rise = refl
none-above test id low high (p ∷ ps) named below rise =
    let up = rise.0 in
    by (test p) refl (none-above test id p.id high ps named (omega (arith, up, below)) rise.1)
  where
    by : (t : Bool) → test p ≡ t → find test ps ≡ None → cond t (Some p) (find test ps) ≡ None
    by true is rest = absurd (let same = named p is in let up = rise.0 in omega (arith, same, up, below))
    by false is rest = rest

open-named : (id : ℕ) (p : Port) → is_open_at id p ≡ true → p.id ≡ id
open-named id p e = eqb-true p.id id (and_parts (p.id == id) (not p.shutting) e).0

shut-named : (id : ℕ) (p : Port) → is_shutting_at id p ≡ true → p.id ≡ id
shut-named id p e = eqb-true p.id id (and_parts (p.id == id) p.shutting e).0

record FirstOf (ports : List Port) (session id : ℕ) : Type 0 where
  port : Port
  found : find (is_port_of session) ports ≡ Some port
  number : port.id ≡ id

first-of : (ports : List Port) (session id : ℕ) → option_map id_of_port (find (is_port_of session) ports) ≡ Some id → FirstOf ports session id
first-of ports session id e = by (find (is_port_of session) ports) refl e
  where
    by : (found : Option Port) → find (is_port_of session) ports ≡ found → option_map id_of_port found ≡ Some id → FirstOf ports session id
    by None is e' = absurd cc
    by (Some port) is e' = let same : port.id ≡ id = cc in record { port = port; found = is; number = same }

-- a port that is found is the one of its number
record ByNumber (ports : List Port) (id : ℕ) (port : Port) : Type 0 where
  opened : is_some (find (is_open_at id) ports) ≡ not port.shutting
  shuts : find (is_shutting_at id) ports ≡ cond port.shutting (Some port) None

by-number : (test : Port → Bool) (id low high : ℕ) (ports : List Port) (port : Port) → Rise low (map id_of_port ports) high → find test ports ≡ Some port → port.id ≡ id → ByNumber ports id port
by-number test id low high [] port rise found number = absurd cc
by-number test id low high (p ∷ ps) port rise found number = by (test p) found (λ later. by-number test id p.id high ps port rise.1 later number)
  where
    here : (t u : Bool) → (p.id == id) ≡ t → t ≡ true → p.shutting ≡ u → p ≡ port → ByNumber (p ∷ ps) id port
    here t u is on shuts same =
        let hit = is ∙ on in
        let up = eqb-true p.id id hit in
        let opened-rest = none-above (is_open_at id) id p.id high ps (open-named id) (omega (arith, up)) rise.1 in
        let shut-rest = none-above (is_shutting_at id) id p.id high ps (shut-named id) (omega (arith, up)) rise.1 in
        record {
          opened =
              ap (λ (x : Bool). is_some (cond (x && not p.shutting) (Some p) (find (is_open_at id) ps))) hit
              ∙ (ap (λ (x : Option Port). is_some (cond (not p.shutting) (Some p) x)) opened-rest
              ∙ (some-if (not p.shutting) ∙ ap (λ (q : Port). not q.shutting) same));
          shuts =
              ap (λ (x : Bool). cond (x && p.shutting) (Some p) (find (is_shutting_at id) ps)) hit
              ∙ (ap (λ (x : Option Port). cond p.shutting (Some p) x) shut-rest
              ∙ ap (λ (q : Port). cond q.shutting (Some q) None) same);
        }
      where
        some-if : (t : Bool) → is_some (cond t (Some p) None) ≡ t
        some-if true = refl
        some-if false = refl

    by : (t : Bool) → cond t (Some p) (find test ps) ≡ Some port → (find test ps ≡ Some port → ByNumber ps id port) → ByNumber (p ∷ ps) id port
    by true found' rest = let same : p ≡ port = cc in here (p.id == id) p.shutting refl (eq-eqb p.id id (ap id_of_port same ∙ number)) refl same
    by false found' rest =
        let place = place-of test ps port found' in
        let up = (rise-slice_get id_of_port p.id ps high place.place port rise.1 place.here).0 in
        let miss : (p.id == id) ≡ false = ne_eqb p.id id (λ same. absurd (omega (arith, up, number, same))) in
        let r = rest found' in
        record {
          opened = ap (λ (x : Bool). is_some (cond (x && not p.shutting) (Some p) (find (is_open_at id) ps))) miss ∙ r.opened;
          shuts = ap (λ (x : Bool). cond (x && p.shutting) (Some p) (find (is_shutting_at id) ps)) miss ∙ r.shuts;
        }

first-user : (users : List User) (user : User) → slice_get users 0 ≡ Some user → (rest : List User) × (users ≡ user ∷ rest)
first-user [] user here = absurd cc
first-user (u ∷ us) user here = let same : u ≡ user = cc in (us, ap (λ (v : User). v ∷ us) same)

-- the first session is next
session-next : (b : Recorded) (users : List User) (user : User) → AreUsersOf b users → Each IsQuiet users → slice_get users 0 ≡ Some user
    → next_ending (standing b) ≡ Some (session_ending (standing b) user.id.0 (find (is_port_of user.id.0) (standing b).world.ports))
session-next b users user k quiet first =
    let f = first-user users user first in
    let sessions : (standing b).world.sessions ≡ user.id.0 ∷ map id_of_user f.0 = sym k.ids ∙ ap (λ (us : List User). map id_of_user us) f.1 in
    quiet-next b users k quiet ∙ ap (sessions_ending (standing b)) sessions

module _ (b : Recorded) (users : List User) (at : PortId) (k : AreUsersOf b users) (quiet : Each IsQuiet users) (turn : IsPortsTurn b users at.0) where
  abbrev first : FirstOf (standing b).world.ports turn.user.id.0 at.0
  first = first-of (standing b).world.ports turn.user.id.0 at.0 turn.port

  port-next : next_ending (standing b) ≡ Some (port_ending (standing b) (first-of (standing b).world.ports turn.user.id.0 at.0 turn.port).port)
  port-next = session-next b users turn.user k quiet turn.first ∙ ap (λ (found : Option Port). Some (session_ending (standing b) turn.user.id.0 found)) first.found

  first-number : ByNumber (standing b).world.ports at.0 (first-of (standing b).world.ports turn.user.id.0 at.0 turn.port).port
  first-number = by-number (is_port_of turn.user.id.0) at.0 0 (length b.entries) (standing b).world.ports first.port (numbers-rise b.pool b.entries).ports_rise first.found first.number

some-of : {X : Type 0} (found : Option X) → is_some found ≡ true → (x : X) × (found ≡ Some x)
some-of None e = absurd cc
some-of (Some x) e = (x, refl)

pub seen-some : (found : Option Port) (seen : Option PortSeen) → IsSeenAs found seen → is_some seen ≡ true → is_some found ≡ true
seen-some (Some port) seen is e = refl
seen-some None None is e = absurd cc
seen-some None (Some seen) is e = absurd is

not-is : (t u : Bool) → t ≡ not u → u ≡ not t
not-is t true e = ap not (sym e)
not-is t false e = ap not (sym e)

pub shuts-next : (b after : Recorded) (users : List User) (at : PortId) (reply : Option Reply) → AreUsersOf b users → Each IsQuiet users → IsPortsTurn b users at.0
    → is_some (open_port (standing b).world.ports at.0) ≡ true → IsServed b after (Shut at) (Ok reply) → IsNextMade b after
shuts-next b after users at reply k quiet turn there served =
    let p = some-of (open_port (standing b).world.ports at.0) there in
    let owned = each-find (IsPortOf (world_of b.pool b.entries).sessions) (is_open_at at.0) (world_of b.pool b.entries).ports p.0 (world-numbered b.pool b.entries).ports_owned p.1 in
    let u = user-of b users (p.0).session k owned in
    let is = each-at (IsUser b) users u.place u.user k.each u.here in
    let settled = each-at IsQuiet users u.place u.user quiet u.here in
    let mine : IsMine u.user (open_port (standing b).world.ports at.0) = record { port = p.0; found_is = p.1; mine = sym u.id_is } in
    let f = first-of (standing b).world.ports turn.user.id.0 at.0 turn.port in
    let opens : f.port.shutting ≡ false = not-is true f.port.shutting (sym there ∙ (first-number b users at k quiet turn).opened) in
    next-made b after (Shut at) reply served (λ s. refl) (can-shut-is b u.user at k.legal is mine ∙ settled)
    (port-next b users at k quiet turn
    ∙ (ap (λ (t : Bool). Some (cond t (Finish (record { 0 = f.port.id }) (bufs_ending (standing b) f.port) no_chain) (Shut (record { 0 = f.port.id })))) opens
    ∙ ap (λ (n : ℕ). Some (Shut (record { 0 = n }))) f.number))

pub seen-none : (found : Option Port) (seen : Option PortSeen) → IsSeenAs found seen → is_some seen ≡ false → found ≡ None
seen-none None seen is e = refl
seen-none (Some port) (Some seen) is e = absurd cc
seen-none (Some port) None is e = absurd is

-- it is open, or shut
pub some-port : (b : Recorded) (users : List User) (at : PortId) → AreUsersOf b users → Each IsQuiet users → IsPortsTurn b users at.0
    → open_port (standing b).world.ports at.0 ≡ None → shutting_port (standing b).world.ports at.0 ≡ None → ⊥
some-port b users at k quiet turn closed gone =
    let f = first-of (standing b).world.ports turn.user.id.0 at.0 turn.port in
    let by = first-number b users at k quiet turn in
    let shuts : f.port.shutting ≡ true = not-is false f.port.shutting (sym (ap (λ (x : Option Port). is_some x) closed) ∙ by.opened) in
    absurd (let there : None ≡ Some f.port = sym gone ∙ (by.shuts ∙ ap (λ (t : Bool). cond t (Some f.port) None) shuts) in cc)

-- ---- the buffers with which it goes

pub take-few : (m n : ℕ) (xs : List ℕ) → times m (take n xs) ≤ times m xs
take-few m n xs =
    let parts = count_of-append m (take n xs) (drop (length (take n xs)) xs) in
    let whole = ap (λ (ys : List ℕ). times m ys) (front-rest n xs) in
    omega (arith, parts, whole)

all-held : (bufs : List Buffer) (named : List ℕ) → ((m : ℕ) → times m named ≤ times m (indices_of bufs)) → list_all (holds bufs) named ≡ true
all-held bufs [] few = refl
all-held bufs (n ∷ ns) few =
    let rest = all-held bufs ns (λ m. let sum = count_of-cons m n ns in let most = few m in omega (arith, sum, most)) in
    ap (λ (t : Bool). t && list_all (holds bufs) ns) (holds-contains bufs n ∙ by (contains n (indices_of bufs)) refl) ∙ rest
  where
    by : (t : Bool) → contains n (indices_of bufs) ≡ t → t ≡ true
    by true e = refl
    by false e =
        let none = contains-none n (indices_of bufs) e in
        let most = few n in
        let sum = count_of-cons n n ns in
        let one : ◌≡◌ {A = ℕ} (cond (n == n) 1 0) 1 = ap (λ (t : Bool). one_if t) (eq-eqb n n refl) in
        absurd (omega (arith, none, most, sum, one))

all-distinct : (named : List ℕ) → ((m : ℕ) → times m named ≤ 1) → are_distinct named ≡ true
all-distinct [] once = refl
all-distinct (n ∷ ns) once =
    ap (λ (t : Bool). not t && are_distinct ns) (by (contains n ns) refl)
    ∙ all-distinct ns (λ m. let sum = count_of-cons m n ns in let most = once m in omega (arith, sum, most))
  where
    by : (t : Bool) → contains n ns ≡ t → t ≡ false
    by false e = refl
    by true e =
        let some' = contains-count n ns e in
        let most = once n in
        let sum = count_of-cons n n ns in
        let one : ◌≡◌ {A = ℕ} (cond (n == n) 1 0) 1 = ap (λ (t : Bool). one_if t) (eq-eqb n n refl) in
        absurd (omega (arith, some', most, sum, one))

pub first-held : (b : Recorded) (user : User) (n : ℕ) → IsLegal b.pool b.entries → IsUser b user → holds_all user.bufs.items (take n (indices_of user.bufs.items)) ≡ true
first-held b user n legal is =
    let idx = indices_of user.bufs.items in
    ap (λ (t : Bool). t && are_distinct (take n idx)) (all-held user.bufs.items (take n idx) (λ m. take-few m n idx))
    ∙ all-distinct (take n idx) (λ m. let few = take-few m n idx in let same = is.buffers m in let once = own-once b user.id.0 m legal in omega (arith, few, same, once))

-- without one of a number
record Without (n : ℕ) (ys : List ℕ) : Type 0 where
  zs : List ℕ
  size : length zs + 1 ≡ length ys
  counts : (m : ℕ) → ◌≡◌ {A = ℕ} (times m zs + cond (n == m) 1 0) (times m ys)

without : (n : ℕ) (ys : List ℕ) → 1 ≤ times n ys → Without n ys
without n [] some' = absurd (omega (arith, some'))
without n (y ∷ ys) some' = by (y == n) refl (without n ys)
  where
    by : (t : Bool) → (y == n) ≡ t → (1 ≤ times n ys → Without n ys) → Without n (y ∷ ys)
    by true t rest =
        let same = eqb-true y n t in
        record {
          zs = ys;
          size = omega arith;
          counts = λ m.
              let sum = count_of-cons m y ys in
              let one : ◌≡◌ {A = ℕ} (cond (y == m) 1 0) (cond (n == m) 1 0) = ap (λ (k : ℕ). one_if (k == m)) same in
              omega (arith, sum, one);
        }
    by false t rest =
        let sum = count_of-cons n y ys in
        let off : ◌≡◌ {A = ℕ} (cond (y == n) 1 0) 0 = ap (λ (u : Bool). one_if u) t in
        let r = rest (omega (arith, some', sum, off)) in
        let size = r.size in
        record {
          zs = y ∷ r.zs;
          size = omega (arith, size);
          counts = λ m.
              let old = count_of-cons m y ys in
              let new = count_of-cons m y r.zs in
              let c = r.counts m in
              omega (arith, old, new, c);
        }

pub same-length : (xs ys : List ℕ) → AreSame xs ys → length xs ≡ length ys
same-length [] [] same = refl
same-length [] (y ∷ ys) same =
    let here = same y in
    let sum = count_of-cons y y ys in
    let one : ◌≡◌ {A = ℕ} (cond (y == y) 1 0) 1 = ap (λ (t : Bool). one_if t) (eq-eqb y y refl) in
    let none : ◌≡◌ {A = ℕ} (times y []) 0 = refl in
    absurd (omega (arith, here, sum, one, none))
same-length (x ∷ xs) ys same =
    let here = same x in
    let sum = count_of-cons x x xs in
    let one : ◌≡◌ {A = ℕ} (cond (x == x) 1 0) 1 = ap (λ (t : Bool). one_if t) (eq-eqb x x refl) in
    let w = without x ys (omega (arith, here, sum, one)) in
    let size = w.size in
    let rest = same-length xs w.zs (λ m. let old = same m in let cons = count_of-cons m x xs in let c = w.counts m in omega (arith, old, cons, c)) in
    omega (arith, size, rest)

due-among : (test : Port → Bool) (session : ℕ) (ports : List Port) (port : Port) → find test ports ≡ Some port → port.session ≡ session
    → due_of port ≤ sum_by due_of (filter (is_port_of session) (map port_alone ports))
due-among test session [] port found mine = absurd cc
due-among test session (p ∷ ps) port found mine = by (test p) (p.session == session) refl found (due-among test session ps port)
  where
    mine' : List Port
    mine' = filter (is_port_of session) (map port_alone ps)

    by : (t u : Bool) → (p.session == session) ≡ u → cond t (Some p) (find test ps) ≡ Some port
        → (find test ps ≡ Some port → port.session ≡ session → due_of port ≤ sum_by due_of (filter (is_port_of session) (map port_alone ps)))
        → due_of port ≤ sum_by due_of (cond u (port_alone p ∷ filter (is_port_of session) (map port_alone ps)) (filter (is_port_of session) (map port_alone ps)))
    by true true whose found' rest =
        let same : p ≡ port = cc in
        let sum = sum_by-cons due_of (port_alone p) (filter (is_port_of session) (map port_alone ps)) in
        let due = ap due_of same in
        omega (arith, sum, due)
    by true false whose found' rest =
        let same : p ≡ port = cc in
        absurd (let on = eq-eqb p.session session (ap (λ (q : Port). q.session) same ∙ mine) in let off = whose in cc)
    by false true whose found' rest =
        let sum = sum_by-cons due_of (port_alone p) (filter (is_port_of session) (map port_alone ps)) in
        let more = rest found' mine in
        omega (arith, sum, more)
    by false false whose found' rest = rest found' mine

pub due-held : (b : Recorded) (user : User) (at : PortId) (seen : PortSeen) → IsLegal b.pool b.entries → IsUser b user → is_session (standing b).world user.id.0 ≡ true
    → IsAsker user (shutting_port (standing b).world.ports at.0) seen → seen.due ≤ length user.bufs.items
due-held b user at seen legal is there asker =
    let own = own_of user.id.0 (standing b) in
    let due = buffers-due b.pool b.entries user.id.0 legal there in
    let among = due-among (is_shutting_at at.0) user.id.0 (standing b).world.ports asker.port asker.found_is asker.mine in
    let size = same-length (indices_of user.bufs.items) own.buffers is.buffers in
    let long = length-map user.bufs.items (λ (x : Buffer). x.index) in
    let seen-due = asker.is_seen.due in
    omega (arith, due, among, size, long, seen-due)

-- ---- no lease is out

none-has : (n : ℕ) (users : List User) → Each IsQuiet users → list_any (has_lease n) users ≡ false
none-has n [] quiet = refl
none-has n (u ∷ us) quiet =
    ap (λ (ls : List Leased). list_any (is_lease n) ls || list_any (has_lease n) us) (settled-parts u quiet.0).1 ∙ none-has n us quiet.1

any-at : {X : Type 0} (test : X → Bool) (xs : List X) (i : ℕ) (x : X) → slice_get xs i ≡ Some x → test x ≡ true → list_any test xs ≡ true
any-at test [] i x here is = absurd cc
any-at test (y ∷ ys) zero x here is = let same : y ≡ x = cc in ap (λ (t : Bool). t || list_any test ys) (ap test same ∙ is)
any-at test (y ∷ ys) (suc i) x here is = ap (λ (t : Bool). test y || t) (any-at test ys i x here is) ∙ or_true (test y)

none-found : (n : ℕ) (users : List User) → Each IsQuiet users → position (has_lease n) users ≡ None
none-found n users quiet = by (position (has_lease n) users) refl
  where
    by : (found : Option ℕ) → position (has_lease n) users ≡ found → found ≡ None
    by None e = refl
    by (Some place) e =
        let f = found-at (has_lease n) users place e in
        let on = any-at (has_lease n) users place f.it f.here f.passes in
        let off = none-has n users quiet in
        absurd cc

all-done : (b : Recorded) (users : List User) → AreUsersOf b users → Each IsQuiet users → (n : ℕ) → is_some (find (is_lease_lot n) (flat_map line_of (standing b).world.ports)) ≡ false
all-done b users k quiet n = none-done b users (record { 0 = n }) k (none-found n users quiet)

lots-done : (lots : List Lot) → ((n : ℕ) → is_some (find (is_lease_lot n) lots) ≡ false) → Each (λ (l : Lot). is_undone l ≡ false) lots
lots-done [] none = tt
lots-done (l ∷ ls) none = (by l.is_done refl (none l.number), lots-done ls (λ n. later (find (is_lease_lot n) ls) (is_lease_lot n l) (none n)))
  where
    by : (t : Bool) → l.is_done ≡ t → is_some (cond ((l.number == l.number) && not l.is_done) (Some l) (find (is_lease_lot l.number) ls)) ≡ false → not l.is_done ≡ false
    by true is e = ap not is
    by false is e =
        let hit : ((l.number == l.number) && not l.is_done) ≡ true = ap (λ (t : Bool). t && not l.is_done) (eq-eqb l.number l.number refl) ∙ ap not is in
        absurd (let off = sym (ap (λ (t : Bool). is_some (cond t (Some l) (find (is_lease_lot l.number) ls))) hit) ∙ e in cc)

    later : (f : Option Lot) (t : Bool) → is_some (cond t (Some l) f) ≡ false → is_some f ≡ false
    later f true e = absurd cc
    later f false e = e

each-front : {X : Type 0} (P : X → Type 0) (xs ys : List X) → Each P (xs ++ ys) → Each P xs × Each P ys
each-front P [] ys all = (tt, all)
each-front P (x ∷ xs) ys all = let rest = each-front P xs ys all.1 in ((all.0, rest.0), rest.1)

ports-done : (ports : List Port) → Each (λ (l : Lot). is_undone l ≡ false) (flat_map line_of ports) → Each (λ (p : Port). Each (λ (l : Lot). is_undone l ≡ false) p.line) ports
ports-done [] all = tt
ports-done (p ∷ ps) all = let parts = each-front (λ (l : Lot). is_undone l ≡ false) p.line (flat_map line_of ps) all in (parts.0, ports-done ps parts.1)

none-out : (lots : List Lot) → Each (λ (l : Lot). is_undone l ≡ false) lots → count_by is_undone lots ≡ 0
none-out [] all = refl
none-out (l ∷ ls) all =
    let sum = sum_by-cons (λ (x : Lot). cond (is_undone x) 1 0) l ls in
    let off : ◌≡◌ {A = ℕ} (cond (is_undone l) 1 0) 0 = ap (λ (t : Bool). one_if t) all.0 in
    let rest = none-out ls all.1 in
    omega (arith, sum, off, rest)

-- ---- the port goes

module _ (b : Recorded) (users : List User) (user : User) (at : PortId) (seen : PortSeen) (k : AreUsersOf b users) (quiet : Each IsQuiet users)
    (is : IsUser b user) (there : is_session (standing b).world user.id.0 ≡ true) (asker : IsAsker user (shutting_port (standing b).world.ports at.0) seen) (fits : fits_chain no_chain ≡ true) where
  abbrev bufs : List ℕ
  bufs = take seen.due (indices_of user.bufs.items)

  out-none : leases_out asker.port ≡ 0
  out-none = none-out asker.port.line
      (each-find (λ (p : Port). Each (λ (l : Lot). is_undone l ≡ false) p.line) (is_shutting_at at.0) (standing b).world.ports asker.port
      (ports-done (standing b).world.ports (lots-done (flat_map line_of (standing b).world.ports) (all-done b users k quiet))) asker.found_is)

  can : ((length (take seen.due (indices_of user.bufs.items)) == seen.due) && holds_all user.bufs.items (take seen.due (indices_of user.bufs.items))) ≡ true
  can =
      let due = due-held b user at seen k.legal is there asker in
      let long = length-map user.bufs.items (λ (x : Buffer). x.index) in
      let size = length-take-le seen.due (indices_of user.bufs.items) (omega (arith, due, long)) in
      ap (λ (t : Bool). t && holds_all user.bufs.items bufs) (eq-eqb (length bufs) seen.due size) ∙ first-held b user seen.due k.legal is

  goes : can_finish (standing b) (take seen.due (indices_of user.bufs.items)) asker.port ≡ true
  goes =
      sym (ap (is_met (can_finish (standing b) bufs)) asker.found_is)
      ∙ (and_parts (fits_chain no_chain) (is_met (can_finish (standing b) bufs) (shutting_port (standing b).world.ports at.0))
      (enabled b user at seen bufs no_chain k.legal is asker fits can)).1

  made : step (standing b) (Finish at (take seen.due (indices_of user.bufs.items)) no_chain) ≡ Some (finish_step (standing b) (take seen.due (indices_of user.bufs.items)) asker.port)
  made =
      let go : (can_finish (standing b) bufs asker.port && (leases_out asker.port == 0)) ≡ true =
      ap (λ (t : Bool). t && (leases_out asker.port == 0)) goes ∙ eq-eqb (leases_out asker.port) 0 out-none in
      ap (λ (t : Bool). cond t (finish_step_at (standing b) bufs (shutting_port (standing b).world.ports at.0)) None) fits
      ∙ (ap (finish_step_at (standing b) bufs) asker.found_is ∙ ap (λ (t : Bool). cond t (Some (finish_step (standing b) bufs asker.port)) None) go)

  -- its session's smallest buffers are those that it has first
  smallest : IsNonDecreasingBy index_of user.bufs.items → bufs_ending (standing b) asker.port ≡ take seen.due (indices_of user.bufs.items)
  smallest rise =
      ap (λ (n : ℕ). take (due_of asker.port) (rising (buffers_of_session (standing b).holdings.sessions n))) asker.mine
      ∙ (ap (λ (ns : List ℕ). take (due_of asker.port) ns) (sym (rising-is user.bufs.items (own_of user.id.0 (standing b)).buffers rise is.buffers))
      ∙ ap (λ (n : ℕ). take n (indices_of user.bufs.items)) (sym asker.is_seen.due))

  pub finishes-next : (after : Recorded) (reply : Option Reply) → IsPortsTurn b users at.0 → IsNonDecreasingBy index_of user.bufs.items → open_port (standing b).world.ports at.0 ≡ None
      → IsServed b after (Finish at (take seen.due (indices_of user.bufs.items)) no_chain) (Ok reply) → IsNextMade b after
  finishes-next after reply turn rise closed served =
      let f = first-of (standing b).world.ports turn.user.id.0 at.0 turn.port in
      let by = first-number b users at k quiet turn in
      let shuts : f.port.shutting ≡ true = not-is false f.port.shutting (sym (ap (λ (x : Option Port). is_some x) closed) ∙ by.opened) in
      let same : f.port ≡ asker.port = same-port f.port asker.port (sym (by.shuts ∙ ap (λ (t : Bool). cond t (Some f.port) None) shuts) ∙ asker.found_is) in
      record {
        ask = Finish at bufs no_chain;
        comes = port-next b users at k quiet turn
            ∙ (ap (λ (t : Bool). Some (cond t (Finish (record { 0 = f.port.id }) (bufs_ending (standing b) f.port) no_chain) (Shut (record { 0 = f.port.id })))) shuts
            ∙ (ap (λ (n : ℕ). Some (Finish (record { 0 = n }) (bufs_ending (standing b) f.port) no_chain)) f.number
            ∙ ap (λ (bs : List ℕ). Some (Finish at bs no_chain)) (ap (bufs_ending (standing b)) same ∙ smallest rise)));
        made = finish_step (standing b) bufs asker.port;
        steps = made;
        is = served.1 ∙ ap (after_outcome b (Finish at bufs no_chain)) made;
      }
    where
      same-port : (p q : Port) → Some p ≡ Some q → p ≡ q
      same-port p q e = cc

-- ---- whose turn it is

own-first : (session : ℕ) (ports : List Port) → option_map id_of_port (find (is_port_of session) ports) ≡ slice_get (map id_of_port (filter (is_port_of session) (map port_alone ports))) 0
own-first session [] = refl
own-first session (p ∷ ps) = by (p.session == session) (own-first session ps)
  where
    by : (t : Bool) → option_map id_of_port (find (is_port_of session) ps) ≡ slice_get (map id_of_port (filter (is_port_of session) (map port_alone ps))) 0
        → option_map id_of_port (cond t (Some p) (find (is_port_of session) ps)) ≡ slice_get (map id_of_port (cond t (port_alone p ∷ filter (is_port_of session) (map port_alone ps)) (filter (is_port_of session) (map port_alone ps)))) 0
    by true rest = refl
    by false rest = rest

rooms-first : (rooms : List Room) (first : Option PortId) → first ≡ option_map port_in_room (slice_get rooms 0) → slice_get (map port_of_room rooms) 0 ≡ option_map (λ (p : PortId). p.0) first
rooms-first [] found e = sym (ap (option_map (λ (p : PortId). p.0)) e)
rooms-first (r ∷ rs) found e = sym (ap (option_map (λ (p : PortId). p.0)) e)

pub first-port : (b : Recorded) (user : User) (first : Option PortId) → IsUser b user → first ≡ option_map port_in_room (slice_get user.rooms.items 0)
    → option_map id_of_port (find (is_port_of user.id.0) (standing b).world.ports) ≡ option_map (λ (p : PortId). p.0) first
first-port b user first is e =
    own-first user.id.0 (standing b).world.ports
    ∙ (ap (λ (ns : List ℕ). slice_get ns 0) (sym is.room_each) ∙ rooms-first user.rooms.items first e)

-- ---- a session leaves

none-found-port : (found : Option Port) → option_map id_of_port found ≡ None → found ≡ None
none-found-port None e = refl
none-found-port (Some p) e = absurd cc

no-rooms : (rooms : List Room) → None ≡ option_map port_in_room (slice_get rooms 0) → (length rooms == 0) ≡ true
no-rooms [] e = refl
no-rooms (r ∷ rs) e = absurd cc

pub leaves-next : (b after : Recorded) (users : List User) (user : User) (reply : Option Reply) → AreUsersOf b users → Each IsQuiet users → slice_get users 0 ≡ Some user
    → None ≡ option_map port_in_room (slice_get user.rooms.items 0) → IsServed b after (Leave user.id) (Ok reply) → IsNextMade b after
leaves-next b after users user reply k quiet first none served =
    let is = each-at (IsUser b) users 0 user k.each first in
    let settled = each-at IsQuiet users 0 user quiet first in
    let can = leaves b user k.legal is (session-there b users 0 user k first) ∙ (ap (λ (t : Bool). t && is_settled_user user) (no-rooms user.rooms.items none) ∙ settled) in
    let gone = none-found-port (find (is_port_of user.id.0) (standing b).world.ports) (first-port b user None is none) in
    next-made b after (Leave user.id) reply served (λ s. refl) can
    (session-next b users user k quiet first ∙ ap (λ (found : Option Port). Some (session_ending (standing b) user.id.0 found)) gone)

-- where none is left, nothing is left to do
pub none-next : (b : Recorded) (users : List User) → AreUsersOf b users → Each IsQuiet users → (standing b).world.sessions ≡ [] → next_ending (standing b) ≡ None
none-next b users k quiet none = quiet-next b users k quiet ∙ ap (sessions_ending (standing b)) none

-- ---- numbers that are written one after another

get-set : {X : Type 0} (xs : List X) (i : ℕ) (x : X) → i < length xs → slice_get (slice_set xs i x) i ≡ Some x
get-set [] i x within = absurd (omega (arith, within))
get-set (y ∷ ys) zero x within = refl
get-set (y ∷ ys) (suc i) x within = get-set ys i x (omega (arith, within))

take-set : {X : Type 0} (xs : List X) (i : ℕ) (x : X) → take i (slice_set xs i x) ≡ take i xs
take-set [] zero x = refl
take-set [] (suc i) x = refl
take-set (y ∷ ys) zero x = refl
take-set {X} (y ∷ ys) (suc i) x = ap (λ (zs : List X). y ∷ zs) (take-set ys i x)

pub set-length : {X : Type 0} (xs : List X) (i : ℕ) (x : X) → length (slice_set xs i x) ≡ length xs
set-length [] zero x = refl
set-length [] (suc i) x = refl
set-length (y ∷ ys) zero x = refl
set-length (y ∷ ys) (suc i) x = ap suc (set-length ys i x)

pub written-next : (xs ys : List ℕ) (i x : ℕ) → i < length xs → take i xs ≡ take i ys → slice_get ys i ≡ Some x → take (i + 1) (slice_set xs i x) ≡ take (i + 1) ys
written-next xs ys i x within same here =
    take-next (slice_set xs i x) i x (get-set xs i x within)
    ∙ (ap (λ (zs : List ℕ). zs ++ x ∷ []) (take-set xs i x ∙ same) ∙ sym (take-next ys i x here))

pub index-at : (bufs : List Buffer) (i : ℕ) (buf : Buffer) → slice_get bufs i ≡ Some buf → slice_get (indices_of bufs) i ≡ Some buf.index
index-at [] i buf here = absurd cc
index-at (y ∷ ys) zero buf here = let same : y ≡ buf = cc in ap (λ (x : Buffer). Some x.index) same
index-at (y ∷ ys) (suc i) buf here = index-at ys i buf here

pub due-small : (b : Recorded) (user : User) (at : PortId) (seen : PortSeen) → IsLegal b.pool b.entries → IsAsker user (shutting_port (standing b).world.ports at.0) seen → seen.due ≤ most_due
due-small b user at seen legal asker =
    let few = due-few b.pool b.entries (is_shutting_at at.0) asker.port legal asker.found_is in
    let due = asker.is_seen.due in
    omega (arith, few, due)
