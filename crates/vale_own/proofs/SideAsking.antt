-- The calls that a session makes of its own side are asks that it may make.
use Rattle.std.proofs.Common.{ℕ, zero, suc, ◌+◌, ◌-◌, ◌≤◌, ◌≡◌, Bool, true, false, cond, not, ◌&&◌, ◌||◌, ◌==◌, nat_le, List, [], ◌∷◌, ◌++◌, map, flat_map, length, Option, Some, None, refl, ◌∙◌, ap, arith, inl, inr, length-append}
use Rattle.std.specs.Prelude.{find}
use Rattle.std.specs.List.{AllByRecursion as Each, list_all}
use Rattle.std.proofs.lemmas.Bool.{cases_Bool, and_parts, eqb-true, eq-eqb, leb-true}
use Rattle.std.proofs.lemmas.Bool.Decides.{nat_tests}
use Rattle.nm_types.specs.Limits.{most_extra}
use Rattle.nm_types.specs.Names.{is_name, is_monitor_name}
use Rattle.nm_types.specs.declared.id.Sides.{Sides}
use Rattle.nm_types.specs.SyncChecks.{contains_index}
use Rattle.nm_types.specs.Chain.{link_of, seen_in_chain, found_in_chain, chain_of}
use Rattle.nm_types.specs.OwnPorts.{OwnRing, OwnPort, OwnState, bytes_at, buffers_in, held_if, port_with_id}
use Rattle.vale_entry.specs.declared.entry.Ask.TheVariants.{Shut, Watch, Stat}
use Rattle.vale_entry.specs.declared.entry.Entry.{Entry}
use Rattle.vale_entry.specs.World.{Port, is_open_at, open_port, due_of}
use Rattle.vale_entry.specs.Holdings.{contains, are_distinct, is_buffer_index}
use Rattle.vale_entry.specs.OwnCalls.{finish_call}
use Rattle.vale_entry.specs.Opening.{is_ring_size, are_sizes, opened_port}
use Rattle.vale_entry.specs.Delivery.{port_after_done, port_after_sync}
use Rattle.vale_entry.specs.Closing.{is_port_of, is_shutting_at, shutting_port, shut as shut-port}
use Rattle.vale_entry.specs.Grant.{port_after_grant, granted_frames}
use Rattle.vale_entry.specs.Pipe.{frames_of_items, port_after_put}
use Rattle.vale_entry.specs.Legal.{Standing, standing_of, fresh_standing, fits_u32, fits_chain}
use Rattle.vale_entry.proofs.Steps.{standing-by}
use Rattle.vale_entry.proofs.Follows.{EachKind, after-by}
use Rattle.vale_entry.proofs.Removals.{each-filter}
use Rattle.vale_entry.proofs.Each.{each-append, each-map, each-unmap, each-find, each-changed_at}
use Rattle.vale_entry.proofs.Counting.{count_of, count_of-cons, count_of-append, contains-count, contains-none}
use Rattle.vale_own.specs.Own.{Own, own_of, port_alone, is_settled_own, buffers_of_lease, all_buffers_of}
use Rattle.vale_own.specs.OwnAsks.{holds_own, may_ask}
use Rattle.vale_own.specs.Side.{buffers_on, size_if, is_shut, port_of_side, IsTxRingIf, IsSoundPort}
use Rattle.vale_own.specs.SideAsks.{HasSide, ShutMayBeAsked, StatMayBeAsked, WatchMayBeAsked, FinishMayBeAsked, OpenMayBeAsked, LeaveMayBeAsked}
use Rattle.vale_own.proofs.Buffers.{buffers-apart}
use Rattle.vale_own.proofs.SidePlaces.{in-ports}
use Rattle.vale_own.proofs.SideMoves.{one_if}
use Rattle.vale_own.proofs.SideOpens.{opened-allowed}

-- a port has a name, and the sizes that its name allows
abbrev pub IsSized : Port → Type 0
IsSized port = (is_name port.name ≡ true) × (are_sizes port.name port.tx port.rx port.extra ≡ true)

abbrev pub AreSized : Standing → Type 0
AreSized s = Each IsSized s.world.ports

sized-kinds : (s : Standing) → AreSized s → EachKind s (λ ask made. AreSized made.next)
sized-kinds s all = record {
  enters = λ user fits. all;
  quiet = λ ask by reply quiet. all;
  opens = λ session name tx rx extra can refusal. each-append IsSized s.world.ports (opened_port (s.world.entry_count + 1) session.0 name tx rx extra ∷ []) all ((can.named, opened-allowed s.world name tx rx extra refusal), tt);
  sends = λ from frames port e can settled. all;
  grants = λ origin to offer first same. each-changed_at IsSized IsSized offer.to (port_after_grant (s.world.entry_count + 1) offer.session (granted_frames s.world offer)) (λ p is. is) (λ p is. is) s.world.ports all;
  completes = λ lease lot e. each-map IsSized IsSized (port_after_done lease.0) (λ p is. is) s.world.ports all;
  receives = λ ask at back port receives e can. each-changed_at IsSized IsSized port.id (port_after_sync (length back)) (λ p is. is) (λ p is. is) s.world.ports all;
  puts = λ at offered items port peer e can found. each-changed_at IsSized IsSized peer.id (port_after_put (s.world.entry_count + 1) port.session (frames_of_items items)) (λ p is. is) (λ p is. is) s.world.ports all;
  watches = λ at target sides port found e can there none. all;
  shuts = λ at port e settled. each-changed_at IsSized IsSized port.id shut-port (λ p is. is) (λ p is. is) s.world.ports all;
  finishes = λ at bufs chain port fits e can out. each-filter IsSized _ s.world.ports all;
  leaves = λ session can. all;
}

pub sized-all : (pool : ℕ) (past : List Entry) → AreSized (standing_of pool past)
sized-all pool past = standing-by AreSized (λ s e all. after-by s AreSized e all (sized-kinds s all)) (fresh_standing pool) past tt

-- a port of the side as it stands
find-first : {X : Type 0} (test : X → Bool) (x : X) (xs : List X) → test x ≡ true → find test (x ∷ xs) ≡ Some x
find-first test x xs e = rw e refl

seen-open : (session : ℕ) (shut : Option ℕ) (id : ℕ) (ports : List OwnPort) (p : OwnPort) → find (λ (q : OwnPort). q.id.0 == id) ports ≡ Some p → is_shut shut id ≡ false
    → find (is_open_at id) (map (port_of_side session shut) ports) ≡ Some (port_of_side session shut p)
seen-open session shut id [] p found stays = absurd cc
seen-open session shut id (q ∷ ports) p found stays = elim (cases_Bool (q.id.0 == id)) [
  | inl here ↦ (let is : q ≡ p = (let first : Some q ≡ Some p = rw here at found in cc) in
      let same : is_shut shut q.id.0 ≡ false = ap (is_shut shut) (eqb-true q.id.0 id here) ∙ stays in
      let passes : is_open_at id (port_of_side session shut q) ≡ true = both (q.id.0 == id) (is_shut shut q.id.0) here same in
      find-first (is_open_at id) (port_of_side session shut q) (map (port_of_side session shut) ports) passes ∙ ap (λ (x : OwnPort). Some (port_of_side session shut x)) is)
  | inr other ↦ rw other (seen-open session shut id ports p (rw other at found) stays)
]
  where
    both : (a b : Bool) → a ≡ true → b ≡ false → (a && not b) ≡ true
    both a b e f = rw (e, f) refl

seen-shut : (session : ℕ) (shut : Option ℕ) (id : ℕ) (ports : List OwnPort) (p : OwnPort) → find (λ (q : OwnPort). q.id.0 == id) ports ≡ Some p → is_shut shut id ≡ true
    → find (is_shutting_at id) (map (port_of_side session shut) ports) ≡ Some (port_of_side session shut p)
seen-shut session shut id [] p found is-shut = absurd cc
seen-shut session shut id (q ∷ ports) p found is-shut = elim (cases_Bool (q.id.0 == id)) [
  | inl here ↦ (let is : q ≡ p = (let first : Some q ≡ Some p = rw here at found in cc) in
      let same : is_shut shut q.id.0 ≡ true = ap (is_shut shut) (eqb-true q.id.0 id here) ∙ is-shut in
      let passes : is_shutting_at id (port_of_side session shut q) ≡ true = both (q.id.0 == id) (is_shut shut q.id.0) here same in
      find-first (is_shutting_at id) (port_of_side session shut q) (map (port_of_side session shut) ports) passes ∙ ap (λ (x : OwnPort). Some (port_of_side session shut x)) is)
  | inr other ↦ rw other (seen-shut session shut id ports p (rw other at found) is-shut)
]
  where
    both : (a b : Bool) → a ≡ true → b ≡ true → (a && b) ≡ true
    both a b e f = rw (e, f) refl

-- buffers that stand no more often than the session's are its own, each named once
contains-some : (b : ℕ) (xs : List ℕ) → 1 ≤ count_of b xs → contains b xs ≡ true
contains-some b xs some = elim (cases_Bool (contains b xs)) [
  | inl here ↦ here
  | inr out ↦ absurd (let none = contains-none b xs out in omega (arith, none, some))
]

all-held : (own xs : List ℕ) → ((b : ℕ) → count_of b xs ≤ count_of b own) → list_all (λ b. contains b own) xs ≡ true
all-held own [] fewer = refl
all-held own (x ∷ xs) fewer =
    let all = count_of-cons x x xs in
    let here : one_if (x == x) ≡ one_if true = ap one_if (eq-eqb x x refl) in
    let one = fewer x in
    let first = contains-some x own (omega (arith, all, here, one)) in
    let rest = all-held own xs (λ b. let some = count_of-cons b x xs in let more = fewer b in omega (arith, some, more)) in
    rw (first, rest) refl

all-distinct : (xs : List ℕ) → ((b : ℕ) → count_of b xs ≤ 1) → are_distinct xs ≡ true
all-distinct [] once = refl
all-distinct (x ∷ xs) once =
    let all = count_of-cons x x xs in
    let here : one_if (x == x) ≡ one_if true = ap one_if (eq-eqb x x refl) in
    let one = once x in
    let out : contains x xs ≡ false = elim (cases_Bool (contains x xs)) [
      | inl again ↦ absurd (let more = contains-count x xs again in omega (arith, all, here, one, more))
      | inr no-more ↦ no-more
    ] in
    let rest = all-distinct xs (λ b. let some = count_of-cons b x xs in let most = once b in omega (arith, some, most)) in
    rw (out, rest) refl

holds-by : (own : Own) (xs : List ℕ) → ((b : ℕ) → count_of b xs ≤ count_of b own.buffers) → ((b : ℕ) → count_of b own.buffers ≤ 1) → holds_own own xs ≡ true
holds-by own xs fewer once =
    let held = all-held own.buffers xs fewer in
    let apart = all-distinct xs (λ b. let one = fewer b in let two = once b in omega (arith, one, two)) in
    rw (held, apart) refl

-- a side after a legal history
module _ (pool : ℕ) (past : List Entry) (session : ℕ) (shut : Option ℕ) (side : OwnState) (k : HasSide pool past session shut side) where
  abbrev own : Own
  own = own_of session (standing_of pool past)

  once-own : (b : ℕ) → count_of b own.buffers ≤ 1
  once-own b =
      let all = buffers-apart pool past session b k.legal in
      let parts = count_of-append b own.buffers (flat_map buffers_of_lease own.leases) in
      once-by (count_of b own.buffers) (count_of b (flat_map buffers_of_lease own.leases)) (count_of b (all_buffers_of own)) (is_buffer_index pool b) parts all
    where
      once-by : (a c n : ℕ) (is : Bool) → n ≡ a + c → n ≤ cond is 1 0 → a ≤ 1
      once-by a c n true sum le = omega (arith, sum, le)
      once-by a c n false sum le = omega (arith, sum, le)

  pub once-side : (b : ℕ) → count_of b (buffers_on side) ≤ 1
  once-side b = let one = once-own b in let two = k.of.of.buffers b in omega (arith, one, two)

  pub holds-side : (xs : List ℕ) → ((b : ℕ) → count_of b xs ≤ count_of b (buffers_on side)) → holds_own own xs ≡ true
  holds-side xs fewer = holds-by own xs (λ b. let one = fewer b in let two = k.of.of.buffers b in omega (arith, one, two)) once-own

  -- a port of the side has a name, and the sizes that its name allows
  module _ (p : OwnPort) (found : port_with_id side p.id.0 ≡ Some p) where
    pub port-sized : IsSized (port_of_side session shut p)
    port-sized =
        let standing = each-filter IsSized (is_port_of session) (map port_alone (standing_of pool past).world.ports)
        (each-map IsSized IsSized port_alone (λ q is. is) (standing_of pool past).world.ports (sized-all pool past)) in
        let seen = each-unmap IsSized (port_of_side session shut) side.ports (rw (← k.of.of.ports) standing) in
        each-find (λ (q : OwnPort). IsSized (port_of_side session shut q)) (λ (q : OwnPort). q.id.0 == p.id.0) side.ports p seen found

    pub own-open : is_shut shut p.id.0 ≡ false → open_port own.ports p.id.0 ≡ Some (port_of_side session shut p)
    own-open stays = ap (find (is_open_at p.id.0)) k.of.of.ports ∙ seen-open session shut p.id.0 side.ports p found stays

    own-shut : is_shut shut p.id.0 ≡ true → shutting_port own.ports p.id.0 ≡ Some (port_of_side session shut p)
    own-shut is-shut = ap (find (is_shutting_at p.id.0)) k.of.of.ports ∙ seen-shut session shut p.id.0 side.ports p found is-shut

    pub port-sound : IsSoundPort p
    port-sound = each-find IsSoundPort (λ (q : OwnPort). q.id.0 == p.id.0) side.ports p k.of.sound.each found

    asked-shut : is_shut shut p.id.0 ≡ false → is_settled_own own ≡ true → may_ask session own (Shut p.id) ≡ true
    asked-shut stays settled = rw (own-open stays) settled

    asked-stat : is_shut shut p.id.0 ≡ false → may_ask session own (Stat p.id) ≡ true
    asked-stat stays = rw (own-open stays) refl

    asked-watch : (target : List ℕ) (sides : Sides) → is_shut shut p.id.0 ≡ false → is_monitor_name p.name ≡ true → is_name target ≡ true → is_monitor_name target ≡ false → may_ask session own (Watch p.id target sides) ≡ true
    asked-watch target sides stays monitor named other = rw (own-open stays, monitor, named, other) refl

    -- a detach
    due-is : length (buffers_in p) ≡ due_of (port_of_side session shut p)
    due-is =
        let whole = length-append (held_if p.tx) (p.rx.held ++ p.extra) in
        let rest = length-append p.rx.held p.extra in
        let tx = tx-held p.tx port-sound.tx in
        omega (arith, whole, rest, tx)
      where
        tx-held : (o : Option OwnRing) → IsTxRingIf o → length (held_if o) ≡ size_if o
        tx-held None is = refl
        tx-held (Some r) is = is.held

    extra-few : length p.extra ≤ most_extra
    extra-few =
        let sizes = port-sized.1 in
        let rings = and_parts _ (is_ring_size p.rx.ring.size && nat_le (length p.extra) most_extra) sizes in
        let most = and_parts (is_ring_size p.rx.ring.size) (nat_le (length p.extra) most_extra) rings.1 in
        leb-true (length p.extra) most_extra most.1

    asked-finish : is_shut shut p.id.0 ≡ true → may_ask session own (finish_call side p) ≡ true
    asked-finish is-shut =
        let fits = chain-fits p.extra (λ idx. link_of (bytes_at side idx)) p.extra_head extra-few in
        let held = holds-side (buffers_in p) (λ b. in-ports p.id.0 side.ports p b found) in
        let due : (length (buffers_in p) == due_of (port_of_side session shut p)) ≡ true = eq-eqb (length (buffers_in p)) (due_of (port_of_side session shut p)) due-is in
        rw (fits, own-shut is-shut, due, held) refl
      where
        seen-few : (turns : ℕ) (extras : List ℕ) (link : ℕ → ℕ) (seen : List ℕ) (at : ℕ) → length (seen_in_chain turns extras link seen at) ≤ length seen + turns
        seen-few zero extras link seen at = omega arith
        seen-few (suc turns) extras link seen at =
            let rest = seen-few turns extras link (seen ++ at ∷ []) (link at) in
            let more = length-append seen (at ∷ []) in
            by ((at == 0) || (not (contains_index extras at) || contains_index seen at)) (omega (arith, rest, more))
          where
            by : (b : Bool) → length (seen_in_chain turns extras link (seen ++ at ∷ []) (link at)) ≤ length seen + suc turns
                → length (cond b seen (seen_in_chain turns extras link (seen ++ at ∷ []) (link at))) ≤ length seen + suc turns
            by true le = omega arith
            by false le = le

        both-fit : (found astray : ℕ) → found ≤ most_extra → astray ≤ most_extra → (fits_u32 found && fits_u32 astray) ≡ true
        both-fit found astray one two = let first : fits_u32 found ≡ true = small found one in let second : fits_u32 astray ≡ true = small astray two in rw (first, second) refl
          where
            small : (n : ℕ) → n ≤ most_extra → fits_u32 n ≡ true
            small n le = grind (arith, nat_tests)

        chain-fits : (extras : List ℕ) (link : ℕ → ℕ) (head : ℕ) → length extras ≤ most_extra → fits_chain (chain_of extras link head) ≡ true
        chain-fits extras link head few =
            let seen = seen-few (length extras) extras link [] head in
            both-fit (found_in_chain extras link head) (length extras - found_in_chain extras link head) (omega (arith, seen, few)) (omega (arith, few))

pub shut-asked : ShutMayBeAsked
shut-asked pool past session shut side p k settled is = asked-shut pool past session shut side k p is.0 is.1 settled

pub stat-asked : StatMayBeAsked
stat-asked pool past session shut side p k is = asked-stat pool past session shut side k p is.0 is.1

pub watch-asked : WatchMayBeAsked
watch-asked pool past session shut side p target sides k is monitor named other = asked-watch pool past session shut side k p is.0 target sides is.1 monitor named other

pub finish-asked : FinishMayBeAsked
finish-asked pool past session shut side p k is = asked-finish pool past session shut side k p is.0 is.1

pub open-asked : OpenMayBeAsked
open-asked pool past session shut side name tx rx extra k named first second third =
    let there = k.of.of.there in
    let mine : (session.0 == session.0) ≡ true = eq-eqb session.0 session.0 refl in
    rw (there, named, first, second, third, mine) refl

pub leave-asked : LeaveMayBeAsked
leave-asked pool past session shut side k settled none =
    let there = k.of.of.there in
    let ports : (own_of session.0 (standing_of pool past)).ports ≡ [] = k.of.of.ports ∙ ap (map (port_of_side session.0 shut)) none in
    let mine : (session.0 == session.0) ≡ true = eq-eqb session.0 session.0 refl in
    rw (there, ports, settled, mine) refl
