-- A session comes, and has nothing.
use Rattle.std.proofs.Common.{ℕ, ◌≡◌, ◌<◌, ◌≤◌, ◌+◌, ◌^◌, true, List, [], ◌∷◌, ◌++◌, length, Option, Some, option_map, refl, sym, ◌∙◌, ap, subst, arith, length-append, map}
use Rattle.std.specs.List.{AllByRecursion as Each}
use Rattle.std.proofs.lemmas.List.{map-append}
use Rattle.nm_types.specs.declared.fault.StepFault.TheVariants as steps
use Rattle.vale_line.specs.Leased.{Leased}
use Rattle.vale_entry.specs.declared.entry.Ask.TheVariants.{Enter}
use Rattle.vale_entry.specs.declared.entry.Entry.{Entry}
use Rattle.vale_entry.specs.declared.entry.Reply.TheVariants as replies
use Rattle.vale_entry.specs.Legal.{Standing, Outcome, standing_after, step, enter_step, Follows, reply_of, reply_to}
use Rattle.vale_entry.proofs.Each.{each-append}
use Rattle.vale_entry.proofs.Rising.{rise-within}
use Rattle.vale_entry.proofs.Worlds.{standing-push, count-world_of}
use Rattle.vale_own.specs.OwnEntries.{nothing_own}
use Rattle.vale_book.specs.Recorded.{Recorded, standing, entry_of, after_ask, IsRefusal}
use Rattle.vale_book.proofs.Comings.{enter-made}
use Rattle.vale_serve.specs.declared.users.User.{User}
use Rattle.vale_serve.specs.Joined.{AreUsersOf}
use Rattle.vale_serve.specs.Users.{id_of_user, wants_left, HasNothing, HasOwn, IsUser, port_of_room}
use Rattle.vale_serve.proofs.Keeping.{grown, user-own, user-other, step-follows, stepped, legal-after, rising}
use Rattle.vale_serve.specs.declared.users.Room.{Room}

abbrev made : Recorded → Outcome
made b = enter_step (standing b)

abbrev entry : Recorded → ℕ → Entry
entry b user = entry_of (Enter user) (made b)

has-nothing : (b : Recorded) (user : User) → HasNothing user → HasOwn b (record nothing_own { there = true }) user
has-nothing b user is = record {
  offers = rw is.sent refl;
  leases = rw is.leases tt;
  rise = omega arith;
  buffers = λ n. rw is.bufs refl;
  region_is = rw is.bufs tt;
  lease_room = let none : length user.leases.items ≡ 0 = ap (λ (ls : List Leased). length ls) is.leases in let left : wants_left user.sent ≡ 0 = ap wants_left is.sent in omega (arith, none, left);
  rooms = rw is.rooms tt;
  room_each = ap (λ (rs : List Room). map port_of_room rs) is.rooms;
}

module _ (b : Recorded) (users : List User) (k : AreUsersOf b users) (user : ℕ) (fits : user < 2 ^ 64) where
  is : step (standing b) (Enter user) ≡ Some (made b)
  is = enter-made (standing b) user fits

  follows : Follows (standing b) (entry b user)
  follows = step-follows (standing b) (Enter user) (made b) is

  earlier : (all : List User) → Each (λ (u : User). u.id.0 ≤ length b.entries) all → Each (IsUser b) all → Each (IsUser (grown b (entry b user))) all
  earlier [] low each = tt
  earlier (u ∷ us) low each =
      let count = count-world_of b.pool b.entries in
      let here = low.0 in
      (user-other b (entry b user) k.legal follows u (λ same. absurd (omega (arith, count, here, same))) each.0, earlier us low.1 each.1)

  sessions : (standing (grown b (entry b user))).world.sessions ≡ (standing b).world.sessions ++ ((standing b).world.entry_count + 1) ∷ []
  sessions = ap (λ (t : Standing). t.world.sessions) (standing-push b.pool b.entries (entry b user))
      ∙ ap (λ (o : Option Outcome). (standing_after (standing b) (entry b user) o).world.sessions) is

  pub came : (after : Recorded) (users' : List User) (new : User) → after ≡ after_ask b (Enter user) → users' ≡ users ++ new ∷ []
      → new.id.0 ≡ length after.entries → HasNothing new → AreUsersOf after users'
  came after users' new made' more id_is nothing =
      let count = count-world_of b.pool b.entries in
      let long = ap (λ (r : Recorded). length r.entries) (made' ∙ stepped b users k (Enter user) (made b) is) ∙ length-append b.entries (entry b user ∷ []) in
      let id : new.id.0 ≡ (standing b).world.entry_count + 1 = omega (arith, id_is, count, long) in
      let whole : AreUsersOf (grown b (entry b user)) (users ++ new ∷ []) = record {
        legal = legal-after b users k (Enter user) (made b) is;
        ids = map-append id_of_user users (new ∷ []) ∙ (ap (λ (ns : List ℕ). ns ++ new.id.0 ∷ []) k.ids ∙ (ap (λ (n : ℕ). (standing b).world.sessions ++ n ∷ []) id ∙ sym sessions));
        each = each-append (IsUser (grown b (entry b user))) users (new ∷ [])
            (earlier users (rise-within id_of_user 0 users (length b.entries) (rising b users k (Enter user) (made b) is)) k.each)
            (user-own b (entry b user) k.legal follows new id (has-nothing (grown b (entry b user)) new nothing), tt);
      } in
      subst (λ (r : Recorded). AreUsersOf r users') (sym (made' ∙ stepped b users k (Enter user) (made b) is)) (subst (AreUsersOf (grown b (entry b user))) (sym more) whole)

  pub came-said : Some replies.Made ≡ reply_to (standing b) (Enter user)
  came-said = sym (ap (option_map reply_of) is)

  pub no-room : IsRefusal b (Enter user) steps.NoMemory
  no-room = rw is tt
