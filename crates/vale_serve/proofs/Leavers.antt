-- A session leaves, which has nothing any more.
use Rattle.std.proofs.Common.{ℕ, zero, suc, ◌≡◌, ◌≤◌, ◌==◌, ◌&&◌, not, Bool, true, false, cond, List, [], ◌∷◌, length, map, filter, sum_by, slice_get, get_or, position, Option, Some, None, refl, sym, ◌∙◌, ap, subst, arith}
use Rattle.std.specs.List.{AllByRecursion as Each, remove, list_any}
use Rattle.std.proofs.lemmas.Bool.{and_parts, eqb-true, eq-eqb, ne_eqb}
use Rattle.std.proofs.lemmas.List.{length-map}
use Rattle.nm_types.specs.declared.id.SessionId.{SessionId}
use Rattle.nm_region.specs.Buffers.{indices_of}
use Rattle.vale_entry.specs.declared.entry.Ask.TheVariants.{Leave}
use Rattle.vale_entry.specs.World.{is_session, is_settled, due_of}
use Rattle.vale_entry.specs.Closing.{can_leave, sessions_without, is_port_of}
use Rattle.vale_entry.specs.Laws.{Rise}
use Rattle.vale_entry.specs.Legal.{Standing, Outcome, standing_after, step, is_enabled, leave_step, IsLegal, Follows}
use Rattle.vale_entry.proofs.Counting.{count_of-cons}
use Rattle.vale_entry.proofs.Rising.{rise-slice_get}
use Rattle.vale_entry.proofs.Worlds.{standing-push}
use Rattle.vale_own.specs.Own.{Own, own_of, is_empty, is_settled_own}
use Rattle.vale_own.specs.OwnAsks.{may_leave}
use Rattle.vale_own.proofs.Asking.{own-tells}
use Rattle.vale_own.proofs.Reading.{settled-own, buffers-due}
use Rattle.vale_book.specs.Recorded.{Recorded, standing, after_ask, entry_of}
use Rattle.vale_serve.specs.declared.users.User.{User}
use Rattle.vale_serve.specs.Buffers.{times}
use Rattle.vale_serve.specs.Joined.{AreUsersOf}
use Rattle.vale_serve.specs.Users.{id_of_user, is_user, AreSame, HasNothing, IsUser, is_settled_user}
use Rattle.vale_serve.proofs.Acting.{settled-parts, settled-user}
use Rattle.vale_serve.proofs.Keeping.{grown, step-follows, stepped, legal-after, rising, user-other, room-count}
use Rattle.vale_serve.proofs.Places.{none-passes}
use Rattle.vale_serve.proofs.Asked.{any-user}
use Rattle.vale_serve.proofs.Sought.{at-place, session-there, same-session}

abbrev one_if : Bool → ℕ
one_if t = cond t 1 0

abbrev can_leave_user : User → Bool
can_leave_user user = (length user.rooms.items == 0) && is_settled_user user

-- ---- whether it may leave

empty-length : {X : Type 0} (xs : List X) → is_empty xs ≡ (length xs == 0)
empty-length [] = refl
empty-length (x ∷ xs) = sym (ne_eqb (length (x ∷ xs)) 0 (λ e. absurd (omega (arith, e))))

no-items : {X : Type 0} (xs : List X) → length xs ≡ 0 → xs ≡ []
no-items [] e = refl
no-items (x ∷ xs) e = absurd (omega (arith, e))

and-on : (a : Bool) → (a && true) ≡ a
and-on true = refl
and-on false = refl

module _ (b : Recorded) (user : User) (legal : IsLegal b.pool b.entries) (is : IsUser b user) (there : is_session (standing b).world user.id.0 ≡ true) where
  abbrev own : Own
  own = own_of user.id.0 (standing b)

  leaves-own : may_leave (own_of user.id.0 (standing b)) ≡ can_leave_user user
  leaves-own =
      ap (λ (t : Bool). t && (is_empty own.ports && is_settled_own own)) there
      ∙ (ap (λ (t : Bool). t && is_settled_own own) (empty-length own.ports ∙ ap (λ (n : ℕ). n == 0) (room-count user.rooms.items own.ports is.room_each))
      ∙ ap (λ (t : Bool). (length user.rooms.items == 0) && t) (sym (settled-own b.pool b.entries user.id.0 legal) ∙ settled-user b user legal is))

  pub leaves : is_enabled (standing b) (Leave user.id) ≡ can_leave_user user
  leaves =
      let same : (user.id.0 == user.id.0) ≡ true = eq-eqb user.id.0 user.id.0 refl in
      sym (and-on (is_enabled (standing b) (Leave user.id)))
      ∙ (ap (λ (t : Bool). is_enabled (standing b) (Leave user.id) && t) (sym same)
      ∙ (own-tells b.pool b.entries user.id.0 (Leave user.id) legal
      ∙ (ap (λ (t : Bool). may_leave own && t) same ∙ (and-on (may_leave own) ∙ leaves-own))))

  -- then it has nothing
  pub leaves-nothing : can_leave_user user ≡ true → HasNothing user
  leaves-nothing e =
      let parts = and_parts (length user.rooms.items == 0) (is_settled_user user) e in
      let settled = settled-parts user parts.1 in
      let none = eqb-true (length user.rooms.items) 0 parts.0 in
      let ports : own.ports ≡ [] = no-items own.ports (room-count user.rooms.items own.ports is.room_each ∙ none) in
      let due : length own.buffers ≡ 0 = buffers-due b.pool b.entries user.id.0 legal there ∙ ap (sum_by due_of) ports in
      let same : AreSame (indices_of user.bufs.items) [] = subst (AreSame (indices_of user.bufs.items)) (no-items own.buffers due) is.buffers in
      record {
        bufs = no-items user.bufs.items (sym (length-map user.bufs.items (λ b. b.index)) ∙ none-same (indices_of user.bufs.items) same);
        leases = settled.1;
        sent = settled.0;
        rooms = no-items user.rooms.items none;
      }
    where
      none-same : (ns : List ℕ) → AreSame ns [] → length ns ≡ 0
      none-same [] same = refl
      none-same (n ∷ ns) same =
          let here : times n (n ∷ ns) ≡ 0 = same n in
          let sum = count_of-cons n n ns in
          let on : ◌≡◌ {A = ℕ} (cond (n == n) 1 0) 1 = ap (λ (t : Bool). one_if t) (eq-eqb n n refl) in
          absurd (omega (arith, here, sum, on))

-- ---- where there is none

pub none-leaves : (b : Recorded) (users : List User) (session : SessionId) → AreUsersOf b users → position (is_user session.0) users ≡ None → is_enabled (standing b) (Leave session) ≡ false
none-leaves b users session k none =
    let off : is_session (standing b).world session.0 ≡ false = ap (λ ids. list_any (λ s. s == session.0) ids) (sym k.ids) ∙ (any-user users session.0 ∙ none-passes (is_user session.0) users none) in
    ap (λ (t : Bool). t && (not (list_any (is_port_of session.0) (standing b).world.ports) && is_settled (standing b).world session.0)) off

-- ---- the others stay

above-all : (low high session : ℕ) (users : List User) → session ≤ low → Rise low (map id_of_user users) high → filter (λ (s : ℕ). not (s == session)) (map id_of_user users) ≡ map id_of_user users
above-all low high session [] below rise = refl
above-all low high session (u ∷ us) below rise =
    let up = rise.0 in
    let miss : (u.id.0 == session) ≡ false = ne_eqb u.id.0 session (λ same. absurd (omega (arith, up, below, same))) in
    ap (λ (t : Bool). cond (not t) (u.id.0 ∷ filter (λ (s : ℕ). not (s == session)) (map id_of_user us)) (filter (λ (s : ℕ). not (s == session)) (map id_of_user us))) miss
    ∙ ap (λ (ns : List ℕ). u.id.0 ∷ ns) (above-all u.id.0 high session us (omega (arith, up, below)) rise.1)

ids-without : (low high : ℕ) (users : List User) (place : ℕ) (user : User) → Rise low (map id_of_user users) high → slice_get users place ≡ Some user
    → map id_of_user (remove users place) ≡ filter (λ (s : ℕ). not (s == user.id.0)) (map id_of_user users)
ids-without low high [] place user rise here = absurd cc
ids-without low high (u ∷ us) zero user rise here =
    let same : u ≡ user = cc in
    let hit : (u.id.0 == user.id.0) ≡ true = eq-eqb u.id.0 user.id.0 (ap id_of_user same) in
    sym (ap (λ (t : Bool). cond (not t) (u.id.0 ∷ filter (λ (s : ℕ). not (s == user.id.0)) (map id_of_user us)) (filter (λ (s : ℕ). not (s == user.id.0)) (map id_of_user us))) hit
    ∙ above-all u.id.0 high user.id.0 us (let e = ap id_of_user same in omega (arith, e)) rise.1)
ids-without low high (u ∷ us) (suc place) user rise here =
    let up = (rise-slice_get id_of_user u.id.0 us high place user rise.1 here).0 in
    let miss : (u.id.0 == user.id.0) ≡ false = ne_eqb u.id.0 user.id.0 (λ same. absurd (omega (arith, up, same))) in
    ap (λ (ns : List ℕ). u.id.0 ∷ ns) (ids-without u.id.0 high us place user rise.1 here)
    ∙ sym (ap (λ (t : Bool). cond (not t) (u.id.0 ∷ filter (λ (s : ℕ). not (s == user.id.0)) (map id_of_user us)) (filter (λ (s : ℕ). not (s == user.id.0)) (map id_of_user us))) miss)

module _ (b : Recorded) (users : List User) (k : AreUsersOf b users) (place : ℕ) (user : User) (here : slice_get users place ≡ Some user) (can : can_leave (standing b).world user.id.0 ≡ true) where
  abbrev made : Outcome
  made = leave_step (standing b) user.id.0

  is : step (standing b) (Leave user.id) ≡ Some (leave_step (standing b) user.id.0)
  is = ap (λ (t : Bool). cond t (Some made) None) can

  follows : Follows (standing b) (entry_of (Leave user.id) (leave_step (standing b) user.id.0))
  follows = step-follows (standing b) (Leave user.id) (leave_step (standing b) user.id.0) is

  abbrev after' : Recorded
  after' = grown b (entry_of (Leave user.id) made)

  others-above : (low high : ℕ) (all : List User) → user.id.0 ≤ low → Rise low (map id_of_user all) high → Each (IsUser b) all → Each (IsUser (grown b (entry_of (Leave user.id) (leave_step (standing b) user.id.0)))) all
  others-above low high [] below rise each = tt
  others-above low high (u ∷ us) below rise each =
      let up = rise.0 in
      (user-other b (entry_of (Leave user.id) made) k.legal follows u (λ same. absurd (omega (arith, up, below, same))) each.0, others-above u.id.0 high us (omega (arith, up, below)) rise.1 each.1)

  others : (low high : ℕ) (all : List User) (at : ℕ) → Rise low (map id_of_user all) high → Each (IsUser b) all → slice_get all at ≡ Some user
      → Each (IsUser (grown b (entry_of (Leave user.id) (leave_step (standing b) user.id.0)))) (remove all at)
  others low high [] at rise each found = absurd cc
  others low high (u ∷ us) zero rise each found =
      let same : u ≡ user = cc in let id = ap id_of_user same in others-above u.id.0 high us (omega (arith, id)) rise.1 each.1
  others low high (u ∷ us) (suc at) rise each found =
      let up = (rise-slice_get id_of_user u.id.0 us high at user rise.1 found).0 in
      (user-other b (entry_of (Leave user.id) made) k.legal follows u (λ same. absurd (omega (arith, up, same))) each.0, others u.id.0 high us at rise.1 each.1 found)

  sessions : (standing (grown b (entry_of (Leave user.id) (leave_step (standing b) user.id.0)))).world.sessions ≡ sessions_without user.id.0 (standing b).world.sessions
  sessions = ap (λ (t : Standing). t.world.sessions) (standing-push b.pool b.entries (entry_of (Leave user.id) made))
      ∙ ap (λ (o : Option Outcome). (standing_after (standing b) (entry_of (Leave user.id) made) o).world.sessions) is

  pub left : (after : Recorded) → after ≡ after_ask b (Leave user.id) → AreUsersOf after (remove users place)
  left after grew =
      let rises = rising b users k (Leave user.id) made is in
      subst (λ (r : Recorded). AreUsersOf r (remove users place)) (sym (grew ∙ stepped b users k (Leave user.id) made is)) (record {
        legal = legal-after b users k (Leave user.id) made is;
        ids = ids-without 0 (length b.entries) users place user rises here ∙ (ap (sessions_without user.id.0) k.ids ∙ sym sessions);
        each = others 0 (length b.entries) users place rises k.each here;
      })

-- ---- the session at its place

pub record LeavesAt (b : Recorded) (users : List User) (session : SessionId) (place : ℕ) (user : User) : Type 0 where
  pub here : slice_get users place ≡ Some user
  pub is : IsUser b user
  pub there : is_session (standing b).world user.id.0 ≡ true
  pub named : user.id ≡ session
  pub enabled : is_enabled (standing b) (Leave session) ≡ can_leave_user user

pub leaves-at : (b : Recorded) (users : List User) (session : SessionId) (place : ℕ) (user : User) → AreUsersOf b users → position (is_user session.0) users ≡ Some place → user ≡ get_or users place user
    → LeavesAt b users session place user
leaves-at b users session place user k e is =
    let at = at-place b users (is_user session.0) place user k e is in
    let there = session-there b users place user k at.here in
    let named = same-session user.id session at.passes in
    record {
      here = at.here;
      is = at.is;
      there = there;
      named = named;
      enabled = subst (λ (s : SessionId). is_enabled (standing b) (Leave s) ≡ can_leave_user user) named (leaves b user k.legal at.is there);
    }

pub one-place : (users : List User) (place : ℕ) (user other : User) → slice_get users place ≡ Some user → slice_get users place ≡ Some other → user ≡ other
one-place users place user other a b' = let e = sym a ∙ b' in cc
