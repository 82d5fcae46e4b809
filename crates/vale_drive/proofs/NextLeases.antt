-- The oldest lease is completed next, by the session that has it.
use Rattle.std.proofs.Common.{ℕ, ◌≡◌, ◌≤◌, ◌==◌, ◌&&◌, ◌||◌, not, Bool, true, false, cond, List, [], ◌∷◌, length, map, filter, find, flat_map, filter_map, slice_get, position, Option, Some, None, option_map, is_some, refl, sym, ◌∙◌, ap, subst, arith}
use Rattle.std.specs.Prelude.{Ok}
use Rattle.std.specs.List.{AllByRecursion as Each, list_any}
use Rattle.std.proofs.lemmas.Bool.{eqb-true, eq-eqb}
use Rattle.vale_line.specs.Leased.{Leased}
use Rattle.vale_entry.specs.declared.entry.Ask.TheVariants.{Done}
use Rattle.vale_entry.specs.declared.entry.Reply.{Reply}
use Rattle.vale_entry.specs.World.{Lot, is_undone}
use Rattle.vale_entry.specs.Delivery.{is_lease as is_lease_lot, line_of, lease_at}
use Rattle.vale_entry.specs.Holdings.{contains}
use Rattle.vale_entry.specs.Laws.{Rise}
use Rattle.vale_entry.proofs.ListLaws.{each-at}
use Rattle.vale_own.specs.Own.{HeldLot, own_of}
use Rattle.vale_book.specs.Recorded.{Recorded, standing}
use Rattle.vale_serve.specs.declared.users.User.{User}
use Rattle.vale_serve.specs.declared.users.Sent.{Sent}
use Rattle.vale_serve.specs.Joined.{AreUsersOf}
use Rattle.vale_serve.specs.Serving.{IsServed}
use Rattle.vale_serve.specs.Users.{AreHeldAs, IsUser, has_lease, is_lease, number_of}
use Rattle.vale_serve.specs.Users.{leased_by, id_of_lease}
use Rattle.vale_drive.specs.Turns.{HasGranted, IsQuiet}
use Rattle.vale_drive.specs.Winding.{least, number_of_lot, undone_numbers, leases_ending, offers_ending, sessions_ending, next_ending, IsNextMade}
use Rattle.vale_serve.proofs.Acting.{settled-parts}
use Rattle.vale_serve.proofs.Completed.{may-complete}
use Rattle.vale_drive.proofs.Least.{Below, ReadAt, least-same, least-in, least-none, read-at, at-read, none-read, read-none}
use Rattle.vale_drive.proofs.NextOffers.{next-made, granted-all, each-to}
use Rattle.vale_serve.proofs.Places.{found-at}
use Rattle.vale_serve.proofs.Sought.{none-done}

-- ---- the leases of the world

found-lot : (n : ℕ) (lots : List Lot) → is_some (find (is_lease_lot n) lots) ≡ contains n (map number_of_lot (filter is_undone lots))
found-lot n [] = refl
found-lot n (l ∷ ls) = by (l.number == n) l.is_done refl (found-lot n ls)
  where
    by : (t u : Bool) → (l.number == n) ≡ t → is_some (find (is_lease_lot n) ls) ≡ contains n (map number_of_lot (filter is_undone ls))
        → is_some (cond (t && not u) (Some l) (find (is_lease_lot n) ls)) ≡ contains n (map number_of_lot (cond (not u) (l ∷ filter is_undone ls) (filter is_undone ls)))
    by true false is rest = sym (ap (λ (x : Bool). x || contains n (map number_of_lot (filter is_undone ls))) is)
    by false false is rest = rest ∙ sym (ap (λ (x : Bool). x || contains n (map number_of_lot (filter is_undone ls))) is)
    by true true is rest = rest
    by false true is rest = rest

-- ---- the leases of the sessions

held-numbers : (b : Recorded) (helds : List HeldLot) (leases : List Leased) → AreHeldAs b helds leases → map number_of helds ≡ map id_of_lease leases
held-numbers b [] [] are = refl
held-numbers b [] (l ∷ ls) are = absurd are
held-numbers b (h ∷ hs) [] are = absurd are
held-numbers b (h ∷ hs) (l ∷ ls) are = ap (λ (n : ℕ). n ∷ map number_of hs) are.0.number ∙ ap (λ (ns : List ℕ). l.id ∷ ns) (held-numbers b hs ls are.1)

-- the first of the leases is the oldest
record FirstBelow (n : ℕ) (leases : List Leased) : Type 0 where
  first : ℕ
  few : first ≤ n
  is : option_map id_of_lease (slice_get leases 0) ≡ Some first

above-first : (n low high : ℕ) (leases : List Leased) → Rise low (map id_of_lease leases) high → list_any (is_lease n) leases ≡ true → low ≤ n
above-first n low high [] rise e = absurd cc
above-first n low high (l ∷ ls) rise e = by (l.id == n) refl e (above-first n l.id high ls rise.1)
  where
    by : (t : Bool) → (l.id == n) ≡ t → (t || list_any (is_lease n) ls) ≡ true → (list_any (is_lease n) ls ≡ true → l.id ≤ n) → low ≤ n
    by true is e' rest = let same = eqb-true l.id n is in let up = rise.0 in omega (arith, same, up)
    by false is e' rest = let more = rest e' in let up = rise.0 in omega (arith, more, up)

first-below : (n low high : ℕ) (leases : List Leased) → Rise low (map id_of_lease leases) high → list_any (is_lease n) leases ≡ true → FirstBelow n leases
first-below n low high [] rise e = absurd cc
first-below n low high (l ∷ ls) rise e = record { first = l.id; few = by (l.id == n) refl e; is = refl }
  where
    by : (t : Bool) → (l.id == n) ≡ t → (t || list_any (is_lease n) ls) ≡ true → l.id ≤ n
    by true is e' = let same = eqb-true l.id n is in omega (arith, same)
    by false is e' = above-first n l.id high ls rise.1 e'

record LeaseFirst (leases : List Leased) (n : ℕ) : Type 0 where
  lease : Leased
  here : slice_get leases 0 ≡ Some lease
  id_is : lease.id ≡ n

lease-first : (leases : List Leased) (n : ℕ) → option_map id_of_lease (slice_get leases 0) ≡ Some n → LeaseFirst leases n
lease-first [] n e = absurd cc
lease-first (l ∷ ls) n e = let same : l.id ≡ n = cc in record { lease = l; here = refl; id_is = same }

module _ (b : Recorded) (users : List User) (k : AreUsersOf b users) where
  abbrev lots : List Lot
  lots = flat_map line_of (standing b).world.ports

  has-lease-user : (n : ℕ) (found : Option ℕ) → position (has_lease n) users ≡ found → is_some (lease_at (standing b).world.ports n) ≡ true → Below n (filter_map leased_by users)
  has-lease-user n None e there = absurd (let off = none-done b users (record { 0 = n }) k e in cc)
  has-lease-user n (Some place) e there =
      let f = found-at (has_lease n) users place e in
      let is = each-at (IsUser b) users place f.it k.each f.here in
      let own = own_of f.it.id.0 (standing b) in
      let rise : Rise 0 (map id_of_lease f.it.leases.items) (length b.entries) =
      subst (λ (ns : List ℕ). Rise 0 ns (length b.entries)) (held-numbers b own.leases f.it.leases.items is.leases) is.rise in
      let first = first-below n 0 (length b.entries) f.it.leases.items rise f.passes in
      record { number = first.first; few = first.few; there = at-read leased_by users place f.it first.first f.here first.is }

  -- it may be completed
  pub may-first : (n : ℕ) → contains n (filter_map leased_by users) ≡ true → is_some (lease_at (standing b).world.ports n) ≡ true
  may-first n e =
      let r : ReadAt leased_by users n = read-at leased_by users n e in
      let is = each-at (IsUser b) users r.place r.it k.each r.here in
      let first = lease-first r.it.leases.items n r.is in
      may-complete b r.it (record { 0 = n }) 0 first.lease k.legal is first.here first.id_is

  pub leases-least : least (undone_numbers (standing b).world) ≡ least (filter_map leased_by users)
  leases-least =
      least-same (undone_numbers (standing b).world) (filter_map leased_by users)
      (λ n e. has-lease-user n (position (has_lease n) users) refl (found-lot n lots ∙ e))
      (λ n e. record { number = n; few = omega arith; there = sym (found-lot n lots) ∙ may-first n e })

pub completes-next : (b after : Recorded) (users : List User) (n : ℕ) (reply : Option Reply) → AreUsersOf b users → Each HasGranted users
    → least (filter_map leased_by users) ≡ Some n → IsServed b after (Done (record { 0 = n })) (Ok reply) → IsNextMade b after
completes-next b after users n reply k granted first served =
    next-made b after (Done (record { 0 = n })) reply served (λ s. refl) (may-first b users k n (least-in (filter_map leased_by users) n first))
    (ap (offers_ending (standing b)) (granted-all b users k granted) ∙ ap (leases_ending (standing b)) (leases-least b users k ∙ first))

-- ---- none is left

none-leased : (user : User) → leased_by user ≡ None → length user.leases.items ≡ 0
none-leased user e = by user.leases.items e
  where
    by : (leases : List Leased) → option_map id_of_lease (slice_get leases 0) ≡ None → length leases ≡ 0
    by [] e = refl
    by (l ∷ ls) e = absurd cc

quiet_by : (s : Bool) (leases : ℕ) → s ≡ false → leases ≡ 0 → (not s && (leases == 0)) ≡ true
quiet_by true leases a e = absurd cc
quiet_by false leases a e = eq-eqb leases 0 e

each-and : {X : Type 0} (P Q R : X → Type 0) (xs : List X) → ((x : X) → P x → Q x → R x) → Each P xs → Each Q xs → Each R xs
each-and P Q R [] f one two = tt
each-and P Q R (x ∷ xs) f one two = (f x one.0 two.0, each-and P Q R xs f one.1 two.1)

pub all-quiet : (users : List User) → Each HasGranted users → least (filter_map leased_by users) ≡ None → Each IsQuiet users
all-quiet users granted none =
    each-and HasGranted (λ (u : User). leased_by u ≡ None) IsQuiet users (λ u a e. quiet_by (is_some u.sent) (length u.leases.items) a (none-leased u e)) granted
    (none-read leased_by users (least-none (filter_map leased_by users) none))

quiet-sent : (user : User) → IsQuiet user → HasGranted user
quiet-sent user e = let parts = settled-parts user e in ap (λ (x : Option Sent). is_some x) parts.0

quiet-lease : (user : User) → IsQuiet user → leased_by user ≡ None
quiet-lease user e = let parts = settled-parts user e in ap (λ (ls : List Leased). option_map id_of_lease (slice_get ls 0)) parts.1

pub quiet-next : (b : Recorded) (users : List User) → AreUsersOf b users → Each IsQuiet users → next_ending (standing b) ≡ sessions_ending (standing b) (standing b).world.sessions
quiet-next b users k quiet =
    ap (offers_ending (standing b)) (granted-all b users k (each-to IsQuiet HasGranted users quiet-sent quiet))
    ∙ ap (leases_ending (standing b))
    (leases-least b users k ∙ ap least (read-none leased_by users (each-to IsQuiet (λ (u : User). leased_by u ≡ None) users quiet-lease quiet)))
