use Rattle.std.proofs.Common.{ℕ, ◌≡◌, List, slice_get, get_or, position, Some, refl, sym, ◌∙◌, ap, subst, arith, rules}
use Rattle.std.proofs.lemmas.Bool.{eqb-true}
use Rattle.std.proofs.lemmas.Option.{get_or_from_slice_get}
use Rattle.vale_line.specs.Leased.{Leased}
use Rattle.vale_entry.specs.declared.entry.Ask.TheVariants.{Done}
use Rattle.vale_book.specs.Granting.{lease_id}
use Rattle.vale_book.specs.Recorded.{after_ask, HasRoom}
use Rattle.vale_book.proofs.Said.{done-said, said-by}
use Rattle.vale_serve.specs.Users.{is_lease}
use Rattle.vale_serve.proofs.Completed.{held-here, steps, lease-filled, completed-kept}
use Rattle.vale_serve.proofs.Places.{found-at, none-passes}
use Rattle.vale_serve.proofs.completing.done.Goals as goal

-- the lease is there, at its place
record Here (leases : List Leased) (id place : ℕ) (lease : Leased) : Type 0 where
  at : slice_get leases place ≡ Some lease
  number : lease.id ≡ id

here-by : (leases : List Leased) (id place : ℕ) (lease : Leased) → position (is_lease id) leases ≡ Some place → lease ≡ get_or leases place lease → Here leases id place lease
here-by leases id place lease e is =
    let found = found-at (is_lease id) leases place e in
    let same : found.it ≡ lease = sym (get_or_from_slice_get leases place found.it lease found.here) ∙ sym is in
    record { at = found.here ∙ ap (λ (l : Leased). Some l) same; number = ap (λ (l : Leased). l.id) (sym same) ∙ eqb-true found.it.id id found.passes }

pub unreachable-requires : goal.unreachable-requires
unreachable-requires c =
    let off = none-passes (is_lease c.args.id.0) c.args.user.now.leases.items (rw c.deref.ensures.value at (sym c.place_of.ensures ∙ c.in_default.is)) in
    let on = c.requires.mine in
    absurd cc

pub done-requires-clause-filled : goal.done-requires-clause-filled
done-requires-clause-filled c =
    let h = here-by c.args.user.now.leases.items c.args.id.0 c.in-Some.place c.remove-lease.result (rw c.deref.ensures.value at (sym c.place_of.ensures ∙ c.in-Some.is)) (search rules) in
    lease-filled c.args.book.now c.args.user.now c.args.id c.in-Some.place c.remove-lease.result c.requires.legal c.requires.user h.at h.number

pub done-requires-clause-full : goal.done-requires-clause-full
done-requires-clause-full c =
    let h = here-by c.args.user.now.leases.items c.args.id.0 c.in-Some.place c.remove-lease.result (rw c.deref.ensures.value at (sym c.place_of.ensures ∙ c.in-Some.is)) (search rules) in
    (held-here c.args.book.now c.args.user.now c.args.id c.in-Some.place c.remove-lease.result c.requires.legal c.requires.user h.at h.number).is.full

pub done-requires-clause-empty : goal.done-requires-clause-empty
done-requires-clause-empty c =
    let h = here-by c.args.user.now.leases.items c.args.id.0 c.in-Some.place c.remove-lease.result (rw c.deref.ensures.value at (sym c.place_of.ensures ∙ c.in-Some.is)) (search rules) in
    (held-here c.args.book.now c.args.user.now c.args.id c.in-Some.place c.remove-lease.result c.requires.legal c.requires.user h.at h.number).is.empty

pub done-requires-clause-region : goal.done-requires-clause-region
done-requires-clause-region c =
    let h = here-by c.args.user.now.leases.items c.args.id.0 c.in-Some.place c.remove-lease.result (rw c.deref.ensures.value at (sym c.place_of.ensures ∙ c.in-Some.is)) (search rules) in
    (held-here c.args.book.now c.args.user.now c.args.id c.in-Some.place c.remove-lease.result c.requires.legal c.requires.user h.at h.number).is.region_is

pub returns-clause-served : goal.returns-clause-served
returns-clause-served c =
    let h = here-by c.args.user.now.leases.items c.args.id.0 c.in-Some.place c.remove-lease.result (rw c.deref.ensures.value at (sym c.place_of.ensures ∙ c.in-Some.is)) (search rules) in
    let st = steps c.args.book.now c.args.user.now c.args.id c.in-Some.place c.remove-lease.result c.requires.legal c.requires.user h.at h.number in (
      sym (said-by st (done-said st)),
      subst (λ (n : ℕ). c.done.new.self ≡ after_ask c.args.book.now (Done (lease_id n))) h.number c.done.ensures.made,
      subst (λ (n : ℕ). HasRoom c.args.book.now (Done (lease_id n))) h.number c.done.ensures.room,
    )

pub returns-clause-kept : goal.returns-clause-kept
returns-clause-kept c =
    let h = here-by c.args.user.now.leases.items c.args.id.0 c.in-Some.place c.remove-lease.result (rw c.deref.ensures.value at (sym c.place_of.ensures ∙ c.in-Some.is)) (search rules) in
    let made = subst (λ (n : ℕ). c.done.new.self ≡ after_ask c.args.book.now (Done (lease_id n))) h.number c.done.ensures.made in
    let capacity = c.remove-lease.ensures.capacity in
    completed-kept c.args.book.now c.args.user.now c.args.id c.in-Some.place c.remove-lease.result c.requires.legal c.requires.user h.at h.number c.done.new.self
    (record c.args.user.now { leases = c.remove-lease.new.self }) made refl refl refl refl c.remove-lease.ensures.items (omega (arith, capacity))
