-- A session at a place acts, and the drive's sessions have what is their own.
use Rattle.std.proofs.Common.{ℕ, zero, suc, get_or, ◌≡◌, ◌==◌, Bool, true, false, List, [], ◌∷◌, ◌||◌, map, slice_get, slice_set, position, Option, Some, None, option_map, Result, Ok, Err, is_some, refl, sym, ◌∙◌, ap, subst}
use Rattle.std.specs.Prelude.{find, IfSome, ◌≢◌}
use Rattle.std.specs.List.{list_any}
use Rattle.std.proofs.lemmas.Bool.{eqb-true}
use Rattle.std.proofs.lemmas.Option.{get_or_from_slice_get, same_Some}
use Rattle.nm_types.specs.declared.fault.StepFault.{StepFault}
use Rattle.nm_types.specs.declared.id.PortId.{PortId}
use Rattle.nm_types.specs.declared.id.SessionId.{SessionId}
use Rattle.vale_entry.specs.declared.entry.Ask.{Ask}
use Rattle.vale_entry.specs.declared.entry.Ask.TheVariants.{Shut}
use Rattle.vale_entry.specs.declared.entry.Reply.{Reply}
use Rattle.vale_entry.specs.World.{Port, open_port, is_settled}
use Rattle.vale_entry.specs.Closing.{shut}
use Rattle.vale_entry.specs.Laws.{IsPortOf}
use Rattle.vale_entry.specs.Legal.{Standing, Outcome, step, kept_ask, is_enabled, is_met, can_shut, world_of, IsLegal}
use Rattle.vale_entry.proofs.Each.{each-find}
use Rattle.vale_entry.proofs.ListLaws.{each-at, each-set}
use Rattle.vale_entry.proofs.Numbered.{world-numbered}
use Rattle.vale_own.specs.Asker.{asker_of, is_enter, owner_of_port}
use Rattle.vale_own.specs.Own.{Own, own_of}
use Rattle.vale_own.specs.OwnEntries.{own_after_entry}
use Rattle.vale_own.proofs.Askers.{askers-make-steps}
use Rattle.vale_book.specs.Asking.{IsSeenAs}
use Rattle.vale_book.specs.Recorded.{Recorded, standing, entry_of, after_ask, after_outcome}
use Rattle.vale_book.specs.declared.asking.PortSeen.{PortSeen}
use Rattle.vale_serve.specs.declared.users.User.{User}
use Rattle.vale_serve.specs.Joined.{AreUsersOf, AsksAt, IsOwner}
use Rattle.vale_serve.specs.Serving.{IsServed}
use Rattle.vale_serve.specs.Users.{id_of_user, is_user, HasOwn, IsUser, IsAsker, IsMine, is_settled_user}
use Rattle.vale_serve.proofs.Keeping.{SameHands, grown, hands-same, ids-changed, own-later, step-follows, ids-set, drive-set}
use Rattle.vale_entry.proofs.Enabled.{asks-answered}
use Rattle.vale_book.proofs.Said.{Steps}
use Rattle.vale_serve.proofs.Acting.{IsPlain, later, acts, mine-by, settled-user, some-step}
use Rattle.vale_serve.proofs.Places.{none-passes, found-at}
use Rattle.vale_serve.proofs.Sessions.{comes_or_goes, sessions-stay}

-- ---- what changes nothing in hand

pub quiet-kept : (b after : Recorded) (user : User) (ask : Ask) (made : Outcome) → IsLegal b.pool b.entries → IsUser b user → after ≡ after_ask b ask → step (standing b) ask ≡ Some made
    → user.id.0 ≡ made.session
    → SameHands (own_of user.id.0 (standing b)) (own_after_entry (standing b) (kept_ask ask) made.reply (own_of user.id.0 (standing b))) → IsUser after user
quiet-kept b after user ask made legal is grew step-is mine hands =
    let own = own_of user.id.0 (standing b) in
    acts b after ask made user legal grew step-is mine
    (subst (λ (n : ℕ). HasOwn after (own_after_entry (standing b) (kept_ask ask) made.reply (own_of n (standing b))) user) mine
    (hands-same after own (own_after_entry (standing b) (kept_ask ask) made.reply own) user hands (own-later b after (later b after ask grew) own user is)))

pub can-shut-is : (b : Recorded) (user : User) (at : PortId) → IsLegal b.pool b.entries → IsUser b user → IsMine user (open_port (standing b).world.ports at.0)
    → is_enabled (standing b) (Shut at) ≡ is_settled_user user
can-shut-is b user at legal is m =
    ap (is_met (can_shut (standing b).world)) m.found_is ∙ (ap (is_settled (standing b).world) m.mine ∙ settled-user b user legal is)

pub shut-hands : (s : Standing) (at : PortId) (reply : Reply) (own : Own) → SameHands own (own_after_entry s (Shut at) reply own)
shut-hands s at reply own = record { offers = refl; leases = refl; buffers = refl; ports = ids-changed at.0 shut (λ p. refl) own.ports }

-- ---- the session of a port

pub set-same : (users : List User) (place : ℕ) (b : Recorded) (old new : User) → AreUsersOf b users → slice_get users place ≡ Some old → new.id ≡ old.id → IsUser b new → AreUsersOf b (slice_set users place new)
set-same users place b old new k here id is = record {
  legal = k.legal;
  ids = ids-set users place old new here (ap (λ (i : SessionId). i.0) id) ∙ k.ids;
  each = each-set (IsUser b) users place new k.each is;
}

acted_by : (b after : Recorded) (users : List User) (place : ℕ) (old new : User) (ask : Ask) (found : Option Outcome) → AreUsersOf b users → slice_get users place ≡ Some old → new.id ≡ old.id
    → IsUser after new → step (standing b) ask ≡ found → after ≡ after_ask b ask → comes_or_goes (kept_ask ask) ≡ false → is_enter ask ≡ false → asker_of (standing b) ask ≡ Some old.id.0
    → AreUsersOf after (slice_set users place new)
acted_by b after users place old new ask None k here id is step-is grew other no-enter asker =
    let same : after ≡ b = grew ∙ ap (after_outcome b ask) step-is in
    subst (λ (r : Recorded). AreUsersOf r (slice_set users place new)) (sym same) (set-same users place b old new k here id (subst (λ (r : Recorded). IsUser r new) same is))
acted_by b after users place old new ask (Some made) k here id is step-is grew other no-enter asker =
    let same : after ≡ grown b (entry_of ask made) = grew ∙ ap (after_outcome b ask) step-is in
    let whose : old.id.0 ≡ made.session = same_Some old.id.0 made.session (sym asker ∙ askers-make-steps (standing b) ask made no-enter step-is) in
    drive-set b users k ask made step-is after place old new (slice_set users place new) grew
    (sessions-stay b.pool b.entries (entry_of ask made) (step-follows (standing b) ask made step-is) other) here whose (ap (λ (i : SessionId). i.0) id) refl
    (subst (λ (r : Recorded). IsUser r new) same is)

set-here : (users : List User) (place : ℕ) (user : User) → slice_get users place ≡ Some user → slice_set users place user ≡ users
set-here [] place user here = absurd cc
set-here (x ∷ xs) zero user here = let same : x ≡ user = cc in ap (λ (u : User). u ∷ xs) (sym same)
set-here (x ∷ xs) (suc place) user here = ap (λ (us : List User). x ∷ us) (set-here xs place user here)

-- whatever it is answered
pub acted : (b after : Recorded) (users : List User) (place : ℕ) (old new : User) (ask : Ask) (result : Result (Option Reply) StepFault) → AreUsersOf b users → slice_get users place ≡ Some old
    → new.id ≡ old.id → IsUser after new → IsServed b after ask result → comes_or_goes (kept_ask ask) ≡ false → is_enter ask ≡ false → asker_of (standing b) ask ≡ Some old.id.0
    → AreUsersOf after (slice_set users place new)
acted b after users place old new ask (Ok reply) k here id is served other no-enter asker =
    acted_by b after users place old new ask (step (standing b) ask) k here id is refl served.1 other no-enter asker
acted b after users place old new ask (Err fault) k here id is served other no-enter asker =
    subst (λ (r : Recorded). AreUsersOf r (slice_set users place new)) (sym served.1) (set-same users place b old new k here id (subst (λ (r : Recorded). IsUser r new) served.1 is))

-- the session of a port stands among those of the drive
pub any-user : (users : List User) (session : ℕ) → list_any (λ s. s == session) (map id_of_user users) ≡ list_any (is_user session) users
any-user [] session = refl
any-user (u ∷ us) session = ap (λ (t : Bool). (u.id.0 == session) || t) (any-user us session)

pub owner-there : (b : Recorded) (users : List User) (test : Port → Bool) (port : Port) → AreUsersOf b users → find test (standing b).world.ports ≡ Some port → position (is_user port.session) users ≡ None → ⊥
owner-there b users test port k here none =
    let owned = each-find (IsPortOf (world_of b.pool b.entries).sessions) test (world_of b.pool b.entries).ports port (world-numbered b.pool b.entries).ports_owned here in
    let off = none-passes (is_user port.session) users none in
    let on = sym (any-user users port.session) ∙ (ap (list_any (λ s. s == port.session)) k.ids ∙ owned) in
    absurd cc

seen_by : (users : List User) (seen : PortSeen) (place : ℕ) (whole found : Option Port) → whole ≡ found → IsSeenAs found (Some seen)
    → position (is_user seen.session.0) users ≡ Some place → IsOwner users whole seen place
seen_by users seen place whole None e is here = absurd is
seen_by users seen place whole (Some port) e is here =
    let f = found-at (is_user seen.session.0) users place here in
    record {
      user = f.it;
      here = f.here;
      within = f.within;
      asker = record { port = port; found_is = e; is_seen = is; mine = sym is.session ∙ sym (eqb-true f.it.id.0 seen.session.0 f.passes) };
    }

pub owner-is : (users : List User) (found : Option Port) (seen : PortSeen) (place : ℕ) → IsSeenAs found (Some seen) → position (is_user seen.session.0) users ≡ Some place → IsOwner users found seen place
owner-is users found seen place is here = seen_by users seen place found found refl is here

pub not-there : (found : Option Port) → IsSeenAs found None → found ≡ None
not-there None is = refl
not-there (Some port) is = absurd is

missing_by : (b : Recorded) (users : List User) (test : Port → Bool) (seen : PortSeen) (found : Option Port) → AreUsersOf b users → find test (standing b).world.ports ≡ found → IsSeenAs found (Some seen)
    → position (is_user seen.session.0) users ≡ None → ⊥
missing_by b users test seen None k e is none = absurd is
missing_by b users test seen (Some port) k e is none = owner-there b users test port k e (subst (λ (n : ℕ). position (is_user n) users ≡ None) is.session none)

-- nor of a port that was sought and not seen
pub never-missing : (b : Recorded) (users : List User) (test : Port → Bool) (seen : Option PortSeen) → AreUsersOf b users → IsSeenAs (find test (standing b).world.ports) seen
    → IfSome seen (λ port. position (is_user port.session.0) users ≢ None)
never-missing b users test None k is = tt
never-missing b users test (Some port) k is = λ none. missing_by b users test port (find test (standing b).world.ports) k refl is none

-- ---- the steps of these

pub steps-of : (b : Recorded) (ask : Ask) → IsPlain ask → is_enabled (standing b) ask ≡ true → Steps b ask
steps-of b ask plain enabled =
    let made = some-step (step (standing b) ask) (subst (λ (r : Option Reply). is_some r ≡ true) (plain (standing b)) (sym (asks-answered (standing b) ask) ∙ enabled)) in
    record { makes = made.0; is = made.1 }

pub mine-of : (b : Recorded) (user : User) (ask : Ask) (steps : Steps b ask) (at : PortId) → IsMine user (open_port (standing b).world.ports at.0) → is_enter ask ≡ false
    → asker_of (standing b) ask ≡ option_map owner_of_port (open_port (standing b).world.ports at.0) → user.id.0 ≡ steps.makes.session
mine-of b user ask steps at m other whose = sym m.mine ∙ mine-by b ask steps.makes (open_port (standing b).world.ports at.0) m.port steps.is other whose m.found_is

asker-at : (user : User) (found : Option Port) (seen : PortSeen) → IsAsker user found seen → option_map owner_of_port found ≡ Some user.id.0
asker-at user found seen asker = ap (option_map owner_of_port) asker.found_is ∙ ap (λ (n : ℕ). Some n) asker.mine

-- the session at the place is that of the port
pub record OwnerAt (users : List User) (found : Option Port) (seen : PortSeen) (place : ℕ) (user : User) : Type 0 where
  pub here : slice_get users place ≡ Some user
  pub asker : option_map owner_of_port found ≡ Some user.id.0
  pub seen_so : IsAsker user found seen
  pub mine : IsMine user found

pub owner-at : (users : List User) (found : Option Port) (seen : PortSeen) (place : ℕ) (user : User) → IsOwner users found seen place → user ≡ get_or users place user
    → OwnerAt users found seen place user
owner-at users found seen place user o is =
    let same : o.user ≡ user = sym (get_or_from_slice_get users place o.user user o.here) ∙ sym is in
    subst (OwnerAt users found seen place) same (record {
      here = o.here;
      asker = asker-at o.user found seen o.asker;
      seen_so = o.asker;
      mine = record { port = o.asker.port; found_is = o.asker.found_is; mine = o.asker.mine };
    })

-- it asks at its port
pub asks-at : (b : Recorded) (users : List User) (found : Option Port) (seen : PortSeen) (place : ℕ) (user : User) → AreUsersOf b users → IsOwner users found seen place → user ≡ get_or users place user
    → AsksAt b user found seen
asks-at b users found seen place user k o is =
    let at = owner-at users found seen place user o is in
    record { legal = k.legal; user = each-at (IsUser b) users place user k.each at.here; asker = at.seen_so }

-- one that is not changed
pub acted-still : (b after : Recorded) (users : List User) (place : ℕ) (user : User) (ask : Ask) (result : Result (Option Reply) StepFault) → AreUsersOf b users → slice_get users place ≡ Some user
    → IsUser after user → IsServed b after ask result → comes_or_goes (kept_ask ask) ≡ false → is_enter ask ≡ false → asker_of (standing b) ask ≡ Some user.id.0
    → AreUsersOf after users
acted-still b after users place user ask result k here is served other no-enter asker =
    subst (AreUsersOf after) (set-here users place user here) (acted b after users place user user ask result k here refl is served other no-enter asker)
