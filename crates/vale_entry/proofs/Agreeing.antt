-- Ports and the buffers held for them, side by side; sessions and the buffers that they hold.
use Rattle.std.proofs.Common.{ℕ, zero, suc, ◌+◌, ◌<◌, ◌≤◌, ◌≡◌, Bool, true, false, cond, ◌||◌, ◌==◌, List, [], ◌∷◌, ◌++◌, map, filter, sum_by, Some, refl, sym, ◌∙◌, ap, subst, arith, slice_get, slice_set}
use Rattle.std.specs.List.{AllByRecursion as Each, list_any, remove}
use Rattle.std.proofs.lemmas.List.Sums.{sum_by-cons, sum_by_push}
use Rattle.std.proofs.lemmas.Bool.{eqb-true, eq-eqb, ne_eqb}
use Rattle.vale_entry.specs.World.{Port, due_of}
use Rattle.vale_entry.specs.Holdings.{PortBuffers, SessionBuffers, PortAgrees, PortsAgree, due_of_session, session_given, sessions_given, session_less, sessions_less, buffers_without, changed_buffers}
use Rattle.vale_entry.specs.Laws.{Rise, id_of_port, id_of_held, id_of_session, IsThere}
use Rattle.vale_entry.proofs.Rising.{rise-bounds, rise-slice_get, map-at_key}
use Rattle.vale_entry.proofs.Each.{each-weaker}
use Rattle.vale_entry.proofs.InStep.{zip-at}
use Rattle.vale_entry.proofs.Removals.{sum-remove}
use Rattle.vale_entry.proofs.ListLaws.{sum-set, sum-map_same, map-set_same}

pub agree-ids :
    (ports : List Port) (helds : List PortBuffers) → PortsAgree ports helds
    → map id_of_held helds ≡ map id_of_port ports
agree-ids [] [] a = refl
agree-ids [] (held ∷ helds) a = absurd a
agree-ids (port ∷ ports) [] a = absurd a
agree-ids (port ∷ ports) (held ∷ helds) a =
    let here : held.port ≡ port.id = a.0.id in
    let rest = agree-ids ports helds a.1 in
    cc

-- what is held for the port at a place
pub record HeldAt (helds : List PortBuffers) (i : ℕ) (port : Port) : Type 0 where
  pub held : PortBuffers
  pub here : slice_get helds i ≡ Some held
  pub agrees : PortAgrees port held

pub agree-at :
    (ports : List Port) (helds : List PortBuffers) (i : ℕ) (port : Port) → PortsAgree ports helds
    → slice_get ports i ≡ Some port
    → HeldAt helds i port
agree-at ports helds i port a e =
    let found = zip-at PortAgrees ports helds i port a e in
    record { held = found.item; here = found.here; agrees = found.holds }

pub agree-map :
    (change : Port → Port)
    → ((port : Port) (held : PortBuffers) → PortAgrees port held → PortAgrees (change port) held)
    → (ports : List Port) (helds : List PortBuffers) → PortsAgree ports helds
    → PortsAgree (map change ports) helds
agree-map change keeps [] [] a = tt
agree-map change keeps [] (h ∷ hs) a = absurd a
agree-map change keeps (p ∷ ps) [] a = absurd a
agree-map change keeps (p ∷ ps) (h ∷ hs) a = (keeps p h a.0, agree-map change keeps ps hs a.1)

-- what the ports of a session are due, as a sum over all ports
abbrev pub due_for : ℕ → Port → ℕ
due_for session port = cond (port.session == session) (due_of port) 0

due_by :
    (session : ℕ) (port : Port) (ports : List Port) (mine : Bool)
    → due_of_session ports session ≡ sum_by (due_for session) ports
    → sum_by due_of
    (cond mine (port ∷ filter (λ (p : Port). p.session == session) ports)
    (filter (λ (p : Port). p.session == session) ports))
    ≡ cond mine (due_of port) 0 + sum_by (due_for session) ports
due_by session port ports true rest =
    let front = sum_by-cons due_of port (filter (λ (p : Port). p.session == session) ports) in
    omega arith
due_by session port ports false rest = omega arith

pub due-sum :
    (ports : List Port) (session : ℕ)
    → due_of_session ports session ≡ sum_by (due_for session) ports
due-sum [] session = refl
due-sum (port ∷ ports) session =
    let whole = sum_by-cons (due_for session) port ports in
    due_by session port ports (port.session == session) (due-sum ports session) ∙ sym whole

-- after a change at a place that keeps the session
pub due-set :
    (ports : List Port) (i : ℕ) (port changed : Port) (session : ℕ) → slice_get ports i ≡ Some port
    → due_of_session (slice_set ports i changed) session + due_for session port
    ≡ due_of_session ports session + due_for session changed
due-set ports i port changed session e =
    let old = due-sum ports session in
    let new = due-sum (slice_set ports i changed) session in
    let sum = sum-set (due_for session) ports i port changed e in
    omega arith

pub due-push : (ports : List Port) (port : Port) (session : ℕ)
    → due_of_session (ports ++ port ∷ []) session
    ≡ due_of_session ports session + due_for session port
due-push ports port session =
    let old = due-sum ports session in
    let new = due-sum (ports ++ port ∷ []) session in
    let sum = sum_by_push (due_for session) ports port in
    omega arith

-- a port that is gone
pub due-remove :
    (ports : List Port) (i : ℕ) (port : Port) (session : ℕ) → slice_get ports i ≡ Some port
    → due_of_session (remove ports i) session + due_for session port ≡ due_of_session ports session
due-remove ports i port session e =
    let old = due-sum ports session in
    let new = due-sum (remove ports i) session in
    let sum = sum-remove (due_for session) ports i port e in
    omega arith

-- a session without a port is due nothing
pub due-without :
    (ports : List Port) (session : ℕ)
    → Each (λ (port : Port). (port.session == session) ≡ false) ports
    → due_of_session ports session ≡ 0
due-without ports session all = due-sum ports session ∙ zeros ports all
  where
    zeros :
        (ps : List Port) → Each (λ (port : Port). (port.session == session) ≡ false) ps
        → sum_by (due_for session) ps ≡ 0
    zeros [] all = refl
    zeros (p ∷ ps) all =
        let here : due_for session p ≡ 0 = rw (all.0) refl in
        let rest = zeros ps all.1 in
        let sum = sum_by-cons (due_for session) p ps in
        omega arith

-- nor is a session of later number
pub due-none :
    (ports : List Port) (session : ℕ) → Each (λ (port : Port). port.session < session) ports
    → due_of_session ports session ≡ 0
due-none ports session all =
    due-without ports session
    (each-weaker (λ (port : Port). port.session < session)
    (λ (port : Port). (port.session == session) ≡ false)
    (λ port later. ne_eqb port.session session (λ e. omega arith)) ports all)

-- a number among numbers that rise is within their bounds
among_by :
    (low n : ℕ) (ns : List ℕ) (high k : ℕ) (here : Bool) → (n == k) ≡ here → n ≤ high
    → (list_any (λ (s : ℕ). s == k) ns ≡ true → k ≤ high)
    → (here || list_any (λ (s : ℕ). s == k) ns) ≡ true → k ≤ high
among_by low n ns high k true t first rest e = let same = eqb-true n k t in omega arith
among_by low n ns high k false t first rest e = rest e

pub among-bound : (low : ℕ) (ns : List ℕ) (high k : ℕ) → Rise low ns high → IsThere ns k → k ≤ high
among-bound low [] high k r e = absurd cc
among-bound low (n ∷ ns) high k r e =
    among_by low n ns high k (n == k) refl (rise-bounds n ns high r.1) (among-bound n ns high k r.1)
    e

-- where a session's buffers stand
pub record SessionPlace (helds : List SessionBuffers) (session : ℕ) : Type 0 where
  pub place : ℕ
  pub held : SessionBuffers
  pub here : slice_get helds place ≡ Some held
  pub id_is : held.session ≡ session

-- the sessions have their ids where one has other buffers
pub users-named :
    {session : ℕ} (helds : List SessionBuffers) (user : SessionPlace helds session)
    (new : SessionBuffers) (later : List SessionBuffers)
    → later ≡ slice_set helds user.place new → new.session ≡ user.held.session
    → map id_of_session later ≡ map id_of_session helds
users-named helds user new later are same =
    ap (map id_of_session) are
    ∙ map-set_same id_of_session helds user.place user.held new user.here same

session_place_by :
    (x : SessionBuffers) (xs : List SessionBuffers) (session : ℕ) (hit : Bool)
    → (x.session == session) ≡ hit
    → (IsThere (map id_of_session xs) session → SessionPlace xs session)
    → (hit || list_any (λ (s : ℕ). s == session) (map id_of_session xs)) ≡ true
    → SessionPlace (x ∷ xs) session
session_place_by x xs session true t later e =
    record { place = 0; held = x; here = refl; id_is = eqb-true x.session session t }
session_place_by x xs session false t later e =
    let rest = later e in
    record { place = suc rest.place; held = rest.held; here = rest.here; id_is = rest.id_is }

pub session-place :
    (helds : List SessionBuffers) (session : ℕ) → IsThere (map id_of_session helds) session
    → SessionPlace helds session
session-place [] session e = absurd cc
session-place (x ∷ xs) session e =
    session_place_by x xs session (x.session == session) refl (session-place xs session) e

-- a change at one session: the others keep what holds of them
pub each-set_key :
    {X : Type 0} (key : X → ℕ) (P Q : X → Type 0) (low : ℕ) (xs : List X) (high i : ℕ) (x y : X)
    → Rise low (map key xs) high
    → slice_get xs i ≡ Some x
    → ((z : X) → (key z == key x) ≡ false → P z → Q z) → Each P xs → Q y → Each Q (slice_set xs i y)
each-set_key key P Q low [] high i x y r e others all new = tt
each-set_key key P Q low (z ∷ zs) high zero x y r e others all new =
    let same : z ≡ x = cc in
    let at_key : key z ≡ key x = ap key same in
    (new, later (key z) zs r.1 all.1 (omega arith))
  where
    later :
        (from : ℕ) (ws : List _) → Rise from (map key ws) high → Each P ws → key x ≤ from
        → Each Q ws
    later from [] r all below = tt
    later from (w ∷ ws) r all below =
        let first : from < key w = r.0 in (
          others w (ne_eqb (key w) (key x) (λ k. omega arith)) all.0,
          later (key w) ws r.1 all.1
              (omega arith),
        )
each-set_key key P Q low (z ∷ zs) high (suc i) x y r e others all new =
    let above = rise-slice_get key (key z) zs high i x r.1 e in (
      others z (ne_eqb (key z) (key x) (λ k. omega arith)) all.0,
      each-set_key key P Q (key z) zs high
          i x y r.1 e others all.1 new,
    )

-- changes at one session, at its place
pub given-place :
    (more : List ℕ) (helds : List SessionBuffers) (high session : ℕ)
    → Rise 0 (map id_of_session helds) high
    → (p : SessionPlace helds session)
    → sessions_given session more helds
    ≡ slice_set helds p.place (record p.held { buffers = p.held.buffers ++ more })
given-place more helds high session r p =
    let change = session_given p.held.session more in
    let all =
    map-at_key id_of_session change 0 helds high p.place p.held r p.here (λ x other. rw other refl)
    in
    let hit : change p.held ≡ record p.held { buffers = p.held.buffers ++ more } =
    rw (eq-eqb p.held.session p.held.session refl) refl in
    subst
    (λ (k : ℕ).
    sessions_given k more helds
    ≡ slice_set helds p.place (record p.held { buffers = p.held.buffers ++ more })) p.id_is
    (all ∙ ap (slice_set helds p.place) hit)

pub less-place :
    (gone : List ℕ) (helds : List SessionBuffers) (high session : ℕ)
    → Rise 0 (map id_of_session helds) high
    → (p : SessionPlace helds session)
    → sessions_less session gone helds
    ≡ slice_set helds p.place (record p.held { buffers = buffers_without gone p.held.buffers })
less-place gone helds high session r p =
    let change = session_less p.held.session gone in
    let all =
    map-at_key id_of_session change 0 helds high p.place p.held r p.here (λ x other. rw other refl)
    in
    let hit : change p.held ≡ record p.held { buffers = buffers_without gone p.held.buffers } =
    rw (eq-eqb p.held.session p.held.session refl) refl in
    subst
    (λ (k : ℕ).
    sessions_less k gone helds
    ≡ slice_set helds p.place (record p.held { buffers = buffers_without gone p.held.buffers }))
    p.id_is (all ∙ ap (slice_set helds p.place) hit)

map-twice : {X : Type 0} (f g : X → X) (xs : List X) → map f (map g xs) ≡ map (λ x. f (g x)) xs
map-twice f g [] = refl
map-twice f g (x ∷ xs) = let rest = map-twice f g xs in cc

-- what is given after some were taken away
pub moved-place :
    (gone more : List ℕ) (helds : List SessionBuffers) (high session : ℕ)
    → Rise 0 (map id_of_session helds) high
    → (p : SessionPlace helds session)
    → sessions_given session more (sessions_less session gone helds)
    ≡ slice_set helds p.place
    (record p.held { buffers = buffers_without gone p.held.buffers ++ more })
moved-place gone more helds high session r p =
    let change =
    λ (x : SessionBuffers). session_given p.held.session more (session_less p.held.session gone x)
    in
    let all =
    map-at_key id_of_session change 0 helds high p.place p.held r p.here
    (λ x other. rw (other, other) refl) in
    let hit : change p.held
    ≡ record p.held { buffers = buffers_without gone p.held.buffers ++ more } =
    rw (eq-eqb p.held.session p.held.session refl, eq-eqb p.held.session p.held.session refl) refl
    in
    let twice =
    map-twice (session_given p.held.session more) (session_less p.held.session gone) helds in
    subst
    (λ (k : ℕ).
    sessions_given k more (sessions_less k gone helds)
    ≡ slice_set helds p.place
    (record p.held { buffers = buffers_without gone p.held.buffers ++ more })) p.id_is
    (twice ∙ all ∙ ap (slice_set helds p.place) hit)

changed_buffers_by :
    {X : Type 0} (P : PortBuffers → X → Type 0) (see : PortBuffers → X) (b : Bool)
    (change : PortBuffers → PortBuffers) (held : PortBuffers)
    → P held (see held) → P held (see (change held)) → P held (see (cond b (change held) held))
changed_buffers_by P see true change held old new = new
changed_buffers_by P see false change held old new = old

pub changed_buffers-same :
    (id : ℕ) (change : PortBuffers → PortBuffers) → ((held : PortBuffers) → change held ≡ held)
    → (helds : List PortBuffers)
    → changed_buffers id change helds ≡ helds
changed_buffers-same id change same [] = refl
changed_buffers-same id change same (held ∷ helds) =
    let here : cond (held.port == id) (change held) held ≡ held =
    changed_buffers_by (λ x y. y ≡ x) (λ (x : PortBuffers). x) (held.port == id) change held refl
    (same held) in
    let rest = changed_buffers-same id change same helds in
    cc

pub sum-changed_buffers :
    (f : PortBuffers → ℕ) (id : ℕ) (change : PortBuffers → PortBuffers)
    → ((held : PortBuffers) → f (change held) ≡ f held)
    → (helds : List PortBuffers) → sum_by f (changed_buffers id change helds) ≡ sum_by f helds
sum-changed_buffers f id change keeps helds =
    sum-map_same f f (λ (held : PortBuffers). cond (held.port == id) (change held) held)
    (λ held. changed_buffers_by (λ x n. n ≡ f x) f (held.port == id) change held refl (keeps held))
    helds
