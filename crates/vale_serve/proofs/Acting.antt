-- A session acts: what its ask makes, and what it is answered.
use Rattle.std.proofs.Common.{ℕ, ◌≡◌, ◌≤◌, ◌-◌, ◌==◌, ◌&&◌, not, Bool, true, false, List, [], ◌∷◌, ◌++◌, length, slice_get, Option, Some, None, option_map, is_some, Ok, append-nil, refl, sym, ◌∙◌, ap, subst, arith, length-append, map}
use Rattle.std.specs.List.{AllByRecursion as Each}
use Rattle.std.specs.Option.{option_map_or}
use Rattle.std.proofs.lemmas.Bool.{and_parts, eqb-true, ne_eqb}
use Rattle.std.proofs.lemmas.Option.{same_Some}
use Rattle.nm_types.specs.declared.fault.StepFault.TheVariants as faults
use Rattle.nm_region.specs.Buffers.{Buffer, indices_of}
use Rattle.nm_types.specs.Frames.{Frame}
use Rattle.vale_batch.specs.Wants.{Wanted}
use Rattle.vale_line.specs.Leased.{Leased}
use Rattle.vale_entry.specs.declared.entry.Ask.{Ask}
use Rattle.vale_entry.specs.declared.entry.Entry.{Entry}
use Rattle.vale_entry.specs.declared.entry.Reply.{Reply}
use Rattle.vale_entry.specs.World.{Port, Offer, is_settled}
use Rattle.vale_entry.specs.Legal.{Standing, Outcome, step, reply_of, reply_to, kept_ask, is_enabled, IsLegal}
use Rattle.vale_entry.proofs.Enabled.{asks-answered}
use Rattle.vale_own.specs.Asker.{asker_of, is_enter, owner_of_port}
use Rattle.vale_own.specs.Own.{Own, HeldLot, own_of, is_empty}
use Rattle.vale_own.specs.OwnEntries.{own_after_entry}
use Rattle.vale_own.proofs.Askers.{askers-make-steps}
use Rattle.vale_own.proofs.Reading.{settled-own}
use Rattle.vale_parts.specs.Batches.{AreOffersOf}
use Rattle.vale_book.specs.BookView.{AreOf}
use Rattle.nm_types.specs.declared.id.SessionId.{SessionId}
use Rattle.vale_book.specs.Recorded.{Recorded, standing, entry_of, after_outcome, after_ask, IsRefusal, room_by}
use Rattle.vale_book.proofs.Placed.{get-last}
use Rattle.vale_serve.specs.declared.users.Sent.{Sent}
use Rattle.vale_serve.specs.declared.users.User.{User}
use Rattle.vale_serve.specs.Replies.{dests_in, dests_of_entry, last_dests}
use Rattle.vale_serve.specs.Serving.{IsServed}
use Rattle.vale_serve.specs.Users.{HasOffers, AreHeldAs, AreSame, IsRoom, HasOwn, IsUser, SameUser, wants_left, is_settled_user, port_of_room}
use Rattle.vale_serve.proofs.Keeping.{IsLater, grown, step-follows, user-own}
use Rattle.vale_serve.specs.declared.users.Room.{Room}

-- ---- what is answered

-- the step of an ask with its reply
pub record Said (b : Recorded) (ask : Ask) (reply : Reply) : Type 0 where
  pub made : Outcome
  pub is : step (standing b) ask ≡ Some made
  pub reply_is : made.reply ≡ reply

said_by : (b : Recorded) (ask : Ask) (reply : Reply) (found : Option Outcome) → step (standing b) ask ≡ found → option_map reply_of found ≡ Some reply → Said b ask reply
said_by b ask reply None is e = absurd cc
said_by b ask reply (Some made) is e = record { made = made; is = is; reply_is = cc }

pub said : (b : Recorded) (ask : Ask) (reply : Reply) → option_map reply_of (step (standing b) ask) ≡ Some reply → Said b ask reply
said b ask reply e = said_by b ask reply (step (standing b) ask) refl e

pub some-step : (found : Option Outcome) → is_some (option_map reply_of found) ≡ true → (made : Outcome) × (found ≡ Some made)
some-step None e = absurd cc
some-step (Some made) e = (made, refl)

pub no-memory : (b : Recorded) (ask : Ask) (made : Outcome) → step (standing b) ask ≡ Some made → IsRefusal b ask faults.NoMemory
no-memory b ask made is = rw is tt

none-reply : (found : Option Reply) → is_some found ≡ false → None ≡ found
none-reply None e = refl
none-reply (Some reply) e = absurd cc

none-step : (found : Option Outcome) → is_some (option_map reply_of found) ≡ false → found ≡ None
none-step None e = refl
none-step (Some made) e = absurd cc

-- an ask whose reply is its step's
abbrev pub IsPlain : Ask → Type 0
IsPlain ask = (s : Standing) → reply_to s ask ≡ option_map reply_of (step s ask)

-- one that is not enabled is not answered, and changes nothing
pub unserved : (b : Recorded) (ask : Ask) → IsPlain ask → is_enabled (standing b) ask ≡ false → IsServed b b ask (Ok None)
unserved b ask plain off =
    let no' : is_some (reply_to (standing b) ask) ≡ false = sym (asks-answered (standing b) ask) ∙ off in
    let none : step (standing b) ask ≡ None = none-step (step (standing b) ask) (subst (λ (r : Option Reply). is_some r ≡ false) (plain (standing b)) no') in
    let room : room_by b ask (step (standing b) ask) = rw none tt in
    (none-reply (reply_to (standing b) ask) no', sym (ap (after_outcome b ask) none), room)

-- ---- what stands after it

later_by : (b after : Recorded) (ask : Ask) (found : Option Outcome) → after ≡ after_outcome b ask found → IsLater b after
later_by b after ask None is = record { region = ap (λ (r : Recorded). r.region) is; more = []; is = ap (λ (r : Recorded). r.entries) is ∙ sym (append-nil b.entries) }
later_by b after ask (Some made) is = record { region = ap (λ (r : Recorded). r.region) is; more = entry_of ask made ∷ []; is = ap (λ (r : Recorded). r.entries) is }

pub later : (b after : Recorded) (ask : Ask) → after ≡ after_ask b ask → IsLater b after
later b after ask is = later_by b after ask (step (standing b) ask) is

-- the session of the ask has what is its own after its entry
pub acts : (b after : Recorded) (ask : Ask) (made : Outcome) (new : User) → IsLegal b.pool b.entries → after ≡ after_ask b ask → step (standing b) ask ≡ Some made → new.id.0 ≡ made.session
    → HasOwn after (own_after_entry (standing b) (kept_ask ask) made.reply (own_of made.session (standing b))) new → IsUser after new
acts b after ask made new legal is step-is mine has =
    let same : after ≡ grown b (entry_of ask made) = is ∙ ap (after_outcome b ask) step-is in
    let own' = own_after_entry (standing b) (kept_ask ask) made.reply (own_of made.session (standing b)) in
    subst (λ (r : Recorded). IsUser r new) (sym same)
    (user-own b (entry_of ask made) legal (step-follows (standing b) ask made step-is) new mine (subst (λ (r : Recorded). HasOwn r own' new) same has))

-- which is the session of the port
pub mine-by : (b : Recorded) (ask : Ask) (made : Outcome) (found : Option Port) (port : Port) → step (standing b) ask ≡ Some made → is_enter ask ≡ false
    → asker_of (standing b) ask ≡ option_map owner_of_port found → found ≡ Some port → port.session ≡ made.session
mine-by b ask made found port is other whose here =
    same_Some port.session made.session (sym (ap (option_map owner_of_port) here) ∙ (sym whose ∙ askers-make-steps (standing b) ask made other is))

-- the destinations of its entry
pub last-told : (b after : Recorded) (ask : Ask) (made : Outcome) → after ≡ after_ask b ask → step (standing b) ask ≡ Some made → last_dests after.entries ≡ dests_in made.reply
last-told b after ask made is step-is =
    let e = entry_of ask made in
    let more : after.entries ≡ b.entries ++ e ∷ [] = ap (λ (r : Recorded). r.entries) (is ∙ ap (after_outcome b ask) step-is) in
    let long = length-append b.entries (e ∷ []) in
    let place : length (b.entries ++ e ∷ []) - 1 ≡ length b.entries = omega (arith, long) in
    ap last_dests more
    ∙ (ap (λ (n : ℕ). option_map_or dests_of_entry (slice_get (b.entries ++ e ∷ []) n) []) place
    ∙ ap (λ (found : Option Entry). option_map_or dests_of_entry found []) (get-last b.entries e))

-- ---- the session's own

pub own-same : (b : Recorded) (own : Own) (old new : User) → SameUser old new → HasOwn b own old → HasOwn b own new
own-same b own old new same is =
    let leases = ap (λ (ls : List Leased). length ls) same.leases in
    let wants = ap wants_left same.sent in
    let room = is.lease_room in
    let more = same.lease_room in
    record {
      offers = subst (HasOffers own.offers) (sym same.sent) is.offers;
      leases = subst (AreHeldAs b own.leases) (sym same.leases) is.leases;
      rise = is.rise;
      buffers = subst (λ (bufs : List Buffer). AreSame (indices_of bufs) own.buffers) (sym same.bufs) is.buffers;
      region_is = subst (λ (bufs : List Buffer). AreOf b.region bufs) (sym same.bufs) is.region_is;
      lease_room = omega (arith, leases, wants, room, more);
      rooms = subst (Each IsRoom) (sym same.rooms) is.rooms;
      room_each = ap (λ (rs : List Room). map port_of_room rs) same.rooms ∙ is.room_each;
    }

pub user-same : (b : Recorded) (old new : User) → SameUser old new → IsUser b old → IsUser b new
user-same b old new same is =
    let id : old.id.0 ≡ new.id.0 = ap (λ (i : SessionId). i.0) (sym same.id) in
    own-same b (own_of new.id.0 (standing b)) old new same (subst (λ (n : ℕ). HasOwn b (own_of n (standing b)) old) id is)

-- it is settled if it has nothing left to grant and no lease
offers-none : (frames : List Frame) (wants : List Wanted) (offers : List Offer) → 1 ≤ length wants → AreOffersOf frames wants offers → is_empty offers ≡ false
offers-none frames [] offers some are = absurd (omega (arith, some))
offers-none frames (want ∷ wants) [] some are = absurd are
offers-none frames (want ∷ wants) (offer ∷ offers) some are = refl

settled-offers : (offers : List Offer) (sent : Option Sent) → HasOffers offers sent → is_empty offers ≡ not (is_some sent)
settled-offers offers None has = ap is_empty has
settled-offers offers (Some sent) has = offers-none has.frames sent.offers.wants offers has.some has.are

settled-leases : (b : Recorded) (helds : List HeldLot) (leases : List Leased) → AreHeldAs b helds leases → is_empty helds ≡ (length leases == 0)
settled-leases b [] [] are = refl
settled-leases b [] (lease ∷ leases) are = absurd are
settled-leases b (held ∷ helds) [] are = absurd are
settled-leases b (held ∷ helds) (lease ∷ leases) are = sym (ne_eqb (length (lease ∷ leases)) 0 (λ e. absurd (omega (arith, e))))

none-left : (leases : List Leased) → length leases ≡ 0 → leases ≡ []
none-left [] e = refl
none-left (lease ∷ leases) e = absurd (omega (arith, e))

no-sent : (sent : Option Sent) → not (is_some sent) ≡ true → sent ≡ None
no-sent None e = refl
no-sent (Some sent) e = absurd cc

pub settled-parts : (user : User) → is_settled_user user ≡ true → (user.sent ≡ None) × (user.leases.items ≡ [])
settled-parts user e =
    let parts = and_parts (not (is_some user.sent)) (length user.leases.items == 0) e in
    (no-sent user.sent parts.0, none-left user.leases.items (eqb-true (length user.leases.items) 0 parts.1))

pub settled-user : (b : Recorded) (user : User) → IsLegal b.pool b.entries → IsUser b user → is_settled (standing b).world user.id.0 ≡ is_settled_user user
settled-user b user legal is =
    let own = own_of user.id.0 (standing b) in
    settled-own b.pool b.entries user.id.0 legal
    ∙ (ap (λ (t : Bool). t && is_empty own.leases) (settled-offers own.offers user.sent is.offers)
    ∙ ap (λ (t : Bool). not (is_some user.sent) && t) (settled-leases b own.leases user.leases.items is.leases))

pub settled-same : (old new : User) → SameUser old new → is_settled_user new ≡ is_settled_user old
settled-same old new same =
    ap (λ (x : Option Sent). not (is_some x) && (length new.leases.items == 0)) same.sent
    ∙ ap (λ (ls : List Leased). not (is_some old.sent) && (length ls == 0)) same.leases
