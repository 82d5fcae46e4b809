-- Each buffer has one owner.
use Rattle.std.proofs.Common.{Bool, true, false, cond, not, ℕ, zero, suc, ◌+◌, ◌<◌, ◌≤◌, ◌≡◌, ◌⊎◌, inl, inr, List, [], ◌∷◌, ◌++◌, length, map, filter, take, get_or, slice_get, sum_by, Option, Some, None, refl, sym, ◌∙◌, ap, subst, arith}
use Rattle.std.specs.Prelude.{◌==◌, flat_map}
use Rattle.std.specs.Option.{option_map_or}
use Rattle.std.specs.List.{range_with_len, AllByRecursion}
use Rattle.std.proofs.lemmas.Bool.{eqb-true, eq-eqb, ne_eqb, cases_Bool, cases_lt}
use Rattle.std.proofs.lemmas.List.{length-append, length-replicate, length-map}
use Rattle.std.proofs.lemmas.List.Sums.{sum_by-cons, sum_by-append}
use Rattle.std.proofs.lemmas.List.Filters.{sum_by-filter_both}
use Rattle.nm_types.specs.declared.id.SessionId.{SessionId}
use Rattle.nm_types.specs.declared.id.Side.TheVariants.{Tx}
use Rattle.nm_types.specs.Frames.{size_of_frames}
use Rattle.nm_types.specs.Positions.{is_user_slot}
use Rattle.nm_types.specs.OwnPorts.{OwnRing, OwnPort, OwnState, buffer_in, buffers_in, held_if}
use Rattle.vale_entry.specs.declared.entry.Entry.{Entry}
use Rattle.vale_entry.specs.World.{World, Port, Lot, is_session}
use Rattle.vale_entry.specs.Holdings.{PortBuffers, SessionBuffers, Holdings, PortsAgree, buffers_at_port, buffers_held, buffers_of_session, is_buffer_index}
use Rattle.vale_entry.specs.Laws.{Rise}
use Rattle.vale_entry.specs.Legal.{Standing, IsLegal, standing_of}
use Rattle.vale_entry.proofs.Counting.{count_of, count_of-cons, count_of-append, contains-count, contains-none}
use Rattle.vale_entry.proofs.ListLaws.{sum-map_same}
use Rattle.vale_entry.proofs.Numbered.{world-numbered}
use Rattle.vale_entry.proofs.HistoryLaws.{buffers-parted, holdings-agree}
use Rattle.vale_own.specs.Side.{IsTxRingIf, IsSoundPort}
use Rattle.vale_script.specs.Script.{Program}
use Rattle.vale_replay.specs.Tasks.{Captures}
use Rattle.vale_replay.specs.Machine.{Machine}
use Rattle.vale_replay.specs.Replay.{Cast, IsUnderWay}
use Rattle.vale_replay.specs.Owners.{Owner, Pool, KernelSlot, Lease, UserSlot, ExtraList, owner_of_each, owners_of_lots, owners_at, user_places, kernel_places, owners_of_tx, owners_of_port, owners_of_user, owners_of, buffers_of_user, BuffersHaveOneOwner, BuffersAlwaysHaveOneOwner}
use Rattle.vale_replay.proofs.Numbers.{rise-above}
use Rattle.vale_replay.proofs.Legal.{played-legal}
use Rattle.vale_replay.proofs.Prefixes.{prefix-under-way}
use Rattle.vale_replay.proofs.TaskSides.{SideOf}
use Rattle.vale_replay.proofs.Sides.{StandsOnSides, holds-by, each-from, users-sides}
use Rattle.vale_replay.proofs.Comers.{HasSession, session-of-user}
use Rattle.vale_replay.proofs.Sums.{sum-same}

each-owned : (b : ℕ) (owner : Owner) (buffers : List ℕ) → length (owner_of_each b owner buffers) ≡ count_of b buffers
each-owned b owner buffers = length-replicate (count_of b buffers) owner

-- The kernel sides.

lots-owned : (b : ℕ) (line : List Lot) (helds : List (List ℕ)) → length helds ≡ length line
    → length (owners_of_lots b line helds) ≡ count_of b (flat_map (λ (list : List ℕ). list) helds)
lots-owned b [] [] same = refl
lots-owned b [] (held ∷ helds) same = absurd (omega (arith, same))
lots-owned b (lot ∷ line) [] same = absurd (omega (arith, same))
lots-owned b (lot ∷ line) (held ∷ helds) same =
    let owner : Owner = cond lot.is_done KernelSlot Lease in
    let one = each-owned b owner held in
    let rest = lots-owned b line helds (omega (arith, same)) in
    let all = length-append (owner_of_each b owner held) (owners_of_lots b line helds) in
    let counts = count_of-append b held (flat_map (λ (list : List ℕ). list) helds) in
    omega (arith, one, rest, all, counts)

ports-owned : (b : ℕ) (ports : List Port) (helds : List PortBuffers) → PortsAgree ports helds
    → length (owners_at b ports helds) ≡ count_of b (flat_map buffers_at_port helds)
ports-owned b [] [] agree = refl
ports-owned b [] (held ∷ helds) agree = absurd agree
ports-owned b (port ∷ ports) [] agree = absurd agree
ports-owned b (port ∷ ports) (held ∷ helds) agree =
    let buffers : length (map (λ (list : List ℕ). length list) held.lots) ≡ length held.lots = length-map held.lots (λ (list : List ℕ). length list) in
    let frames : length (map (λ (lot : Lot). size_of_frames lot.frames) port.line) ≡ length port.line = length-map port.line (λ (lot : Lot). size_of_frames lot.frames) in
    let lines : length held.lots ≡ length port.line = sym buffers ∙ ap (λ (ns : List ℕ). length ns) agree.0.lots ∙ frames in
    let idle = each-owned b KernelSlot held.idle in
    let lots = lots-owned b port.line held.lots lines in
    let rest = ports-owned b ports helds agree.1 in
    let front = length-append (owner_of_each b KernelSlot held.idle) (owners_of_lots b port.line held.lots) in
    let all = length-append (owner_of_each b KernelSlot held.idle ++ owners_of_lots b port.line held.lots) (owners_at b ports helds) in
    let counts = count_of-append b held.idle (flat_map (λ (list : List ℕ). list) held.lots) in
    let whole = count_of-append b (buffers_at_port held) (flat_map buffers_at_port helds) in
    omega (arith, idle, lots, rest, front, all, counts, whole)

-- The users' sides.

places-are : (f : ℕ → ℕ) (low : ℕ) (xs : List ℕ) → ((i : ℕ) → f (low + i) ≡ get_or xs i 0)
    → map f (range_with_len low (length xs)) ≡ xs
places-are f low [] at = refl
places-are f low (x ∷ xs) at =
    let first : low ≡ low + 0 = omega arith in
    let here : f low ≡ x = ap f first ∙ at 0 in
    ap (λ (y : ℕ). y ∷ map f (range_with_len (low + 1) (length xs))) here
    ∙ ap (λ (ys : List ℕ). x ∷ ys) (places-are f (low + 1) xs (λ i. let next : low + 1 + i ≡ low + suc i = omega arith in ap f next ∙ at (suc i)))

mapped-counts : (b : ℕ) (g : ℕ → ℕ) (ys : List ℕ) → count_of b (map g ys) ≡ sum_by (λ (at : ℕ). cond (g at == b) 1 0) ys
mapped-counts b g ys = sum-map_same (λ (x : ℕ). cond (x == b) 1 0) (λ (at : ℕ). cond (g at == b) 1 0) g (λ x. refl) ys

parted-counts : (b : ℕ) (g : ℕ → ℕ) (test : ℕ → Bool) (ys : List ℕ)
    → count_of b (map g (filter test ys)) + count_of b (map g (filter (λ at. not (test at)) ys)) ≡ count_of b (map g ys)
parted-counts b g test ys =
    let both = sum_by-filter_both test (λ (at : ℕ). not (test at)) (λ x. refl) (λ (at : ℕ). cond (g at == b) 1 0) ys in
    let one = mapped-counts b g (filter test ys) in
    let other = mapped-counts b g (filter (λ at. not (test at)) ys) in
    let all = mapped-counts b g ys in
    omega (arith, both, one, other, all)

tx-owned : (b : ℕ) (tx : Option OwnRing) → IsTxRingIf tx → length (owners_of_tx b tx) ≡ count_of b (held_if tx)
tx-owned b None sound = refl
tx-owned b (Some r) sound =
    let places : map (buffer_in Tx r) (range_with_len 0 r.ring.size) ≡ r.held =
    ap (λ (n : ℕ). map (buffer_in Tx r) (range_with_len 0 n)) (sym sound.held) ∙ places-are (buffer_in Tx r) 0 r.held (λ i. let same : 0 + i ≡ i = omega arith in ap (λ (k : ℕ). get_or r.held k 0) same) in
    let both = parted-counts b (buffer_in Tx r) (is_user_slot r.ring) (range_with_len 0 r.ring.size) in
    let counts = ap (count_of b) places in
    let users = each-owned b UserSlot (user_places r) in
    let kernel = each-owned b KernelSlot (kernel_places r) in
    let all = length-append (owner_of_each b UserSlot (user_places r)) (owner_of_each b KernelSlot (kernel_places r)) in
    omega (arith, both, counts, users, kernel, all)

port-owned : (b : ℕ) (p : OwnPort) → IsSoundPort p → length (owners_of_port b p) ≡ count_of b (buffers_in p)
port-owned b p sound =
    let tx = tx-owned b p.tx sound.tx in
    let rx = each-owned b UserSlot p.rx.held in
    let extra = each-owned b ExtraList p.extra in
    let back = length-append (owner_of_each b UserSlot p.rx.held) (owner_of_each b ExtraList p.extra) in
    let all = length-append (owners_of_tx b p.tx) (owner_of_each b UserSlot p.rx.held ++ owner_of_each b ExtraList p.extra) in
    let counts = count_of-append b p.rx.held p.extra in
    let whole = count_of-append b (held_if p.tx) (p.rx.held ++ p.extra) in
    omega (arith, tx, rx, extra, back, all, counts, whole)

side-owned : (b : ℕ) (ports : List OwnPort) → AllByRecursion IsSoundPort ports
    → length (flat_map (owners_of_port b) ports) ≡ count_of b (flat_map buffers_in ports)
side-owned b [] sound = refl
side-owned b (p ∷ ports) sound =
    let one = port-owned b p sound.0 in
    let rest = side-owned b ports sound.1 in
    let all = length-append (owners_of_port b p) (flat_map (owners_of_port b) ports) in
    let whole = count_of-append b (buffers_in p) (flat_map buffers_in ports) in
    omega (arith, one, rest, all, whole)

-- a user owns as many as it has in its places, and so as its session holds
user-owned : (pool : ℕ) (s : Standing) (user : Machine) (session : Option SessionId) (shut : Option ℕ) (b : ℕ)
    → user.session ≡ session → SideOf pool s session shut user.own → length (owners_of_user b user) ≡ count_of b (buffers_of_user s user)
user-owned pool s user None shut b is side =
    ap (λ (o : OwnState). length (flat_map (owners_of_port b) o.ports)) side.0
    ∙ ap (λ (x : Option SessionId). count_of b (option_map_or (λ (y : SessionId). buffers_of_session s.holdings.sessions y.0) x [])) (sym is)
user-owned pool s user (Some x) shut b is side =
    side-owned b user.own.ports side.sound.each ∙ holds-by pool s user (Some x) shut is side b

-- The sessions.

abbrev session_numbers : Option SessionId → List ℕ
session_numbers None = []
session_numbers (Some session) = session.0 ∷ []

abbrev sessions_in : List Machine → List ℕ
sessions_in users = flat_map (λ (user : Machine). session_numbers user.session) users

abbrev times_held : ℕ → List SessionBuffers → ℕ → ℕ
times_held b helds session = count_of b (buffers_of_session helds session)

session-owned : (b : ℕ) (helds : List SessionBuffers) (session : Option SessionId)
    → count_of b (option_map_or (λ (y : SessionId). buffers_of_session helds y.0) session []) ≡ sum_by (times_held b helds) (session_numbers session)
session-owned b helds None = refl
session-owned b helds (Some x) = let one = sum_by-cons (times_held b helds) x.0 [] in omega (arith, one)

users-owned : (b : ℕ) (s : Standing) (users : List Machine)
    → AllByRecursion (λ (user : Machine). length (owners_of_user b user) ≡ count_of b (buffers_of_user s user)) users
    → length (flat_map (owners_of_user b) users) ≡ sum_by (times_held b s.holdings.sessions) (sessions_in users)
users-owned b s [] each = refl
users-owned b s (u ∷ users) each =
    let one = each.0 in
    let held = session-owned b s.holdings.sessions u.session in
    let rest = users-owned b s users each.1 in
    let all = length-append (owners_of_user b u) (flat_map (owners_of_user b) users) in
    let whole = sum_by-append (times_held b s.holdings.sessions) (session_numbers u.session) (sessions_in users) in
    omega (arith, one, held, rest, all, whole)

-- each session's buffers are those found under its number
others-held : (b : ℕ) (held : SessionBuffers) (helds : List SessionBuffers) (low : ℕ) (ns : List ℕ) (high : ℕ)
    → held.session ≤ low → Rise low ns high → sum_by (times_held b (held ∷ helds)) ns ≡ sum_by (times_held b helds) ns
others-held b held helds low [] high up rise = refl
others-held b held helds low (n ∷ ns) high up rise =
    let above = rise.0 in
    let miss : (held.session == n) ≡ false = ne_eqb held.session n (λ e. omega (arith, e, up, above)) in
    let here : times_held b (held ∷ helds) n ≡ times_held b helds n = ap (λ (t : Bool). count_of b (cond t held.buffers (buffers_of_session helds n))) miss in
    let rest = others-held b held helds n ns high (omega (arith, up, above)) rise.1 in
    let front = sum_by-cons (times_held b (held ∷ helds)) n ns in
    let back = sum_by-cons (times_held b helds) n ns in
    omega (arith, here, rest, front, back)

sessions-held : (b : ℕ) (helds : List SessionBuffers) (low high : ℕ) → Rise low (map (λ (held : SessionBuffers). held.session) helds) high
    → sum_by (times_held b helds) (map (λ (held : SessionBuffers). held.session) helds) ≡ count_of b (flat_map buffers_held helds)
sessions-held b [] low high rise = refl
sessions-held b (held ∷ helds) low high rise =
    let ids = map (λ (h : SessionBuffers). h.session) helds in
    let hit : (held.session == held.session) ≡ true = eq-eqb held.session held.session refl in
    let here : times_held b (held ∷ helds) held.session ≡ count_of b held.buffers = ap (λ (t : Bool). count_of b (cond t held.buffers (buffers_of_session helds held.session))) hit in
    let front = sum_by-cons (times_held b (held ∷ helds)) held.session ids in
    let others = others-held b held helds held.session ids high (omega arith) rise.1 in
    let rest = sessions-held b helds held.session high rise.1 in
    let whole = count_of-append b held.buffers (flat_map buffers_held helds) in
    omega (arith, here, front, others, rest, whole)

-- The sessions that are there are those of the users.

number-of_by : (x : ℕ) (s : SessionId) → ((s.0 == x) ≡ true) ⊎ ((s.0 == x) ≡ false)
    → (count_of x (s.0 ∷ []) ≡ 0) ⊎ ((Some s ≡ Some (record { 0 = x })) × (count_of x (s.0 ∷ []) ≡ 1))
number-of_by x s (inl e) =
    inr (ap (λ (n : ℕ). Some (record { 0 = n })) (eqb-true s.0 x e), count_of-cons x s.0 [] ∙ ap (λ (t : Bool). cond t 1 0 + 0) e)
number-of_by x s (inr e) = inl (count_of-cons x s.0 [] ∙ ap (λ (t : Bool). cond t 1 0 + 0) e)

number-of : (x : ℕ) (session : Option SessionId)
    → (count_of x (session_numbers session) ≡ 0) ⊎ ((session ≡ Some (record { 0 = x })) × (count_of x (session_numbers session) ≡ 1))
number-of x None = inl refl
number-of x (Some s) = number-of_by x s (cases_Bool (s.0 == x))

some-user : (users : List Machine) (x : ℕ) → 1 ≤ count_of x (sessions_in users) → HasSession users x
some-user [] x some = absurd (omega (arith, some))
some-user (u ∷ users) x some = by_first (number-of x u.session) (some-user users x)
  where
    all : count_of x (sessions_in (u ∷ users)) ≡ count_of x (session_numbers u.session) + count_of x (sessions_in users)
    all = count_of-append x (session_numbers u.session) (sessions_in users)

    by_first : (count_of x (session_numbers u.session) ≡ 0) ⊎ ((u.session ≡ Some (record { 0 = x })) × (count_of x (session_numbers u.session) ≡ 1))
        → (1 ≤ count_of x (sessions_in users) → HasSession users x) → HasSession (u ∷ users) x
    by_first (inl none) rest =
        let later = rest (omega (arith, all, none, some)) in
        record { place = suc later.place; user = later.user; here = later.here; is = later.is }
    by_first (inr here) rest = record { place = 0; user = u; here = refl; is = here.0 }

user-counts : (users : List Machine) (x i : ℕ) (v : Machine) → slice_get users i ≡ Some v → v.session ≡ Some (record { 0 = x })
    → 1 ≤ count_of x (sessions_in users)
user-counts [] x i v at is = absurd cc
user-counts (u ∷ users) x zero v at is =
    let same : u ≡ v = cc in
    let all = count_of-append x (session_numbers u.session) (sessions_in users) in
    let mine : u.session ≡ Some (record { 0 = x }) = ap (λ (m : Machine). m.session) same ∙ is in
    let one : count_of x (session_numbers u.session) ≡ count_of x (x ∷ []) = ap (λ (s : Option SessionId). count_of x (session_numbers s)) mine in
    let hit : count_of x (x ∷ []) ≡ 1 = count_of-cons x x [] ∙ ap (λ (t : Bool). cond t 1 0 + 0) (eq-eqb x x refl) in
    omega (arith, all, one, hit)
user-counts (u ∷ users) x (suc i) v at is =
    let all = count_of-append x (session_numbers u.session) (sessions_in users) in
    let rest = user-counts users x i v at is in
    omega (arith, all, rest)

abbrev HasOneAt : ℕ → List Machine → Type 0
HasOneAt x users =
    (i j : ℕ) (u v : Machine) → slice_get users i ≡ Some u → slice_get users j ≡ Some v
    → u.session ≡ Some (record { 0 = x }) → v.session ≡ Some (record { 0 = x }) → i ≡ j

few-users : (users : List Machine) (x : ℕ) → HasOneAt x users → count_of x (sessions_in users) ≤ 1
few-users [] x one = omega arith
few-users (u ∷ users) x one =
    by_first (number-of x u.session) (few-users users x (λ i j v w at at' is is'. let same = one (suc i) (suc j) v w at at' is is' in omega (arith, same)))
  where
    all : count_of x (sessions_in (u ∷ users)) ≡ count_of x (session_numbers u.session) + count_of x (sessions_in users)
    all = count_of-append x (session_numbers u.session) (sessions_in users)

    by_more : u.session ≡ Some (record { 0 = x }) → (0 < count_of x (sessions_in users)) ⊎ (count_of x (sessions_in users) ≤ 0)
        → count_of x (sessions_in users) ≡ 0
    by_more mine (inl more) =
        let who = some-user users x (omega (arith, more)) in
        let same = one 0 (suc who.place) u who.user refl who.here mine who.is in
        absurd (omega (arith, same))
    by_more mine (inr none) = omega (arith, none)

    by_first : (count_of x (session_numbers u.session) ≡ 0) ⊎ ((u.session ≡ Some (record { 0 = x })) × (count_of x (session_numbers u.session) ≡ 1))
        → count_of x (sessions_in users) ≤ 1 → count_of x (sessions_in (u ∷ users)) ≤ 1
    by_first (inl none) rest = omega (arith, all, none, rest)
    by_first (inr here) rest =
        let once = here.1 in
        let none = by_more here.0 (cases_lt 0 (count_of x (sessions_in users))) in
        omega (arith, all, once, none)

rise-once : (low : ℕ) (ns : List ℕ) (high b : ℕ) → Rise low ns high → count_of b ns ≤ 1
rise-once low [] high b rise = omega arith
rise-once low (n ∷ ns) high b rise = by_here (cases_Bool (n == b)) (rise-once n ns high b rise.1)
  where
    by_here : ((n == b) ≡ true) ⊎ ((n == b) ≡ false) → count_of b ns ≤ 1 → count_of b (n ∷ ns) ≤ 1
    by_here (inl e) rest =
        let is : n ≡ b = eqb-true n b e in
        let none = rise-above n ns high b rise.1 (omega (arith, is)) in
        let all : count_of b (n ∷ ns) ≡ 1 + count_of b ns = count_of-cons b n ns ∙ ap (λ (t : Bool). cond t 1 0 + count_of b ns) e in
        omega (arith, none, all)
    by_here (inr e) rest =
        let all : count_of b (n ∷ ns) ≡ 0 + count_of b ns = count_of-cons b n ns ∙ ap (λ (t : Bool). cond t 1 0 + count_of b ns) e in
        omega (arith, all, rest)

sessions-same : (program : Program) (captures : Captures) (h : List Entry) (nows : Cast) (x : ℕ)
    → IsUnderWay program captures h nows → count_of x (sessions_in nows.users) ≡ count_of x (standing_of program.pool h).world.sessions
sessions-same program captures h nows x way = by_there (is_session w x) refl
  where
    w : World
    w = (standing_of program.pool h).world

    stands : StandsOnSides program.pool h nows
    stands = users-sides program captures h nows way

    no_user : is_session w x ≡ false → (who : HasSession nows.users x) → ⊥
    no_user none who = by_side (stands.sides who.place who.user who.here)
      where
        by_side : (shut : Option ℕ) × SideOf program.pool (standing_of program.pool h) who.user.session shut who.user.own → ⊥
        by_side side =
            let mine = subst (λ (s : Option SessionId). SideOf program.pool (standing_of program.pool h) s side.0 who.user.own) who.is side.1 in
            let there : is_session w x ≡ true = mine.of.there in
            let clash : true ≡ false = sym there ∙ none in
            absurd cc

    by_count : is_session w x ≡ false → (0 < count_of x (sessions_in nows.users)) ⊎ (count_of x (sessions_in nows.users) ≤ 0)
        → count_of x (sessions_in nows.users) ≡ 0
    by_count none (inl some) = absurd (no_user none (some-user nows.users x (omega (arith, some))))
    by_count none (inr few) = omega (arith, few)

    by_there : (b : Bool) → is_session w x ≡ b → count_of x (sessions_in nows.users) ≡ count_of x w.sessions
    by_there true there =
        let who = session-of-user program captures h nows x way there in
        let some = user-counts nows.users x who.place who.user who.here who.is in
        let few = few-users nows.users x (λ i j u v at at' is is'. stands.come.one i j u v (record { 0 = x }) at at' is is') in
        let some' = contains-count x w.sessions there in
        let few' = rise-once 0 w.sessions w.entry_count x (world-numbered program.pool h).sessions_rise in
        omega (arith, some, few, some', few')
    by_there false none =
        by_count none (cases_lt 0 (count_of x (sessions_in nows.users))) ∙ sym (contains-none x w.sessions none)

-- Together.

pub owned-once : BuffersHaveOneOwner
owned-once program captures h nows way b =
    omega (arith, free, ports, users, same, held, parted, front, back, counted, counted')
  where
    s : Standing
    s = standing_of program.pool h

    legal : IsLegal program.pool h
    legal = played-legal program captures h nows way

    stands : StandsOnSides program.pool h nows
    stands = users-sides program captures h nows way

    x : Holdings
    x = s.holdings

    ids : List ℕ
    ids = map (λ (held : SessionBuffers). held.session) x.sessions

    ids_are : ids ≡ s.world.sessions
    ids_are = (holdings-agree program.pool h legal).session_ids

    free : length (owner_of_each b Pool x.free) ≡ count_of b x.free
    free = each-owned b Pool x.free

    ports : length (owners_at b s.world.ports x.ports) ≡ count_of b (flat_map buffers_at_port x.ports)
    ports = ports-owned b s.world.ports x.ports (holdings-agree program.pool h legal).ports_agree

    users : length (flat_map (owners_of_user b) nows.users) ≡ sum_by (times_held b x.sessions) (sessions_in nows.users)
    users = users-owned b s nows.users (each-from (λ (u : Machine). length (owners_of_user b u) ≡ count_of b (buffers_of_user s u)) nows.users
        (λ i u at. let side = stands.sides i u at in user-owned program.pool s u u.session side.0 b refl side.1))

    same : sum_by (times_held b x.sessions) (sessions_in nows.users) ≡ sum_by (times_held b x.sessions) ids
    same = sum-same (times_held b x.sessions) (sessions_in nows.users) ids (λ z. sessions-same program captures h nows z way ∙ ap (count_of z) (sym ids_are))

    held : sum_by (times_held b x.sessions) ids ≡ count_of b (flat_map buffers_held x.sessions)
    held = sessions-held b x.sessions 0 s.world.entry_count (subst (λ (ns : List ℕ). Rise 0 ns s.world.entry_count) (sym ids_are) (world-numbered program.pool h).sessions_rise)

    parted : count_of b ((x.free ++ flat_map buffers_at_port x.ports) ++ flat_map buffers_held x.sessions) ≡ cond (is_buffer_index program.pool b) 1 0
    parted = buffers-parted program.pool h legal b

    front : length (owners_of s nows.users b) ≡ length (owner_of_each b Pool x.free) + length (owners_at b s.world.ports x.ports ++ flat_map (owners_of_user b) nows.users)
    front = length-append (owner_of_each b Pool x.free) (owners_at b s.world.ports x.ports ++ flat_map (owners_of_user b) nows.users)

    back : length (owners_at b s.world.ports x.ports ++ flat_map (owners_of_user b) nows.users) ≡ length (owners_at b s.world.ports x.ports) + length (flat_map (owners_of_user b) nows.users)
    back = length-append (owners_at b s.world.ports x.ports) (flat_map (owners_of_user b) nows.users)

    counted : count_of b ((x.free ++ flat_map buffers_at_port x.ports) ++ flat_map buffers_held x.sessions) ≡ count_of b (x.free ++ flat_map buffers_at_port x.ports) + count_of b (flat_map buffers_held x.sessions)
    counted = count_of-append b (x.free ++ flat_map buffers_at_port x.ports) (flat_map buffers_held x.sessions)

    counted' : count_of b (x.free ++ flat_map buffers_at_port x.ports) ≡ count_of b x.free + count_of b (flat_map buffers_at_port x.ports)
    counted' = count_of-append b x.free (flat_map buffers_at_port x.ports)

pub always-owned-once : BuffersAlwaysHaveOneOwner
always-owned-once program captures h nows way count =
    let before = prefix-under-way program captures h nows count way in
    (before.0, (before.1, owned-once program captures (take count h) before.0 before.1))
