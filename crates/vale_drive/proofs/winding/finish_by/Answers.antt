use Rattle.std.proofs.Common.{ℕ, ◌≡◌, true, List, length, take, get_or, ◌∙◌, ap, subst, arith, rules, slice_set}
use Rattle.std.specs.Prelude.{Ok}
use Rattle.std.proofs.lemmas.List.{length-take-le}
use Rattle.nm_region.specs.Buffers.{Buffer, indices_of}
use Rattle.vale_entry.specs.declared.entry.Ask.TheVariants.{Finish}
use Rattle.vale_entry.specs.Closing.{shutting_port}
use Rattle.vale_entry.specs.Legal.{fits_chain}
use Rattle.vale_book.specs.Recorded.{standing}
use Rattle.vale_serve.specs.Serving.{IsServed}
use Rattle.vale_serve.proofs.Asked.{owner-at}
use Rattle.vale_serve.specs.declared.users.User.{User}
use Rattle.vale_drive.specs.Winding.{no_chain}
use Rattle.vale_drive.proofs.NextPorts.{due-held, finishes-next}
use Rattle.vale_drive.proofs.Rising.{sorted-at, set-here}
use Rattle.vale_drive.proofs.winding.finish_by.Goals as goal

pub write_indices-requires : goal.write_indices-requires
write_indices-requires c =
    let b = c.args.book.now in
    let users = c.args.users.now.items in
    let found = shutting_port (standing b).world.ports c.args.port.0 in
    let at = sorted-at b users c.args.place found c.args.seen c.index_mut.result.now c.sort_bufs.new.self c.requires.turn.users
    (owner-at users found c.args.seen c.args.place c.index_mut.result.now c.requires.turn.owner c.index_mut.ensures.value) c.sort_bufs.ensures in
    let due = due-held b c.sort_bufs.new.self c.args.port c.args.seen c.requires.turn.users.legal at.is at.there at.asker in
    let is : c.index.result.now ≡ get_or (slice_set users c.args.place c.sort_bufs.new.self) c.args.place c.index.result.now = search rules in
    let new = set-here users c.args.place c.sort_bufs.new.self c.index.result.now c.requires.turn.owner.within is in
    let size = length-take-le c.args.seen.due c.args.numbers.now c.requires.space in
    let same : length c.deref.result.now ≡ length c.sort_bufs.new.self.bufs.items = ap (λ (bs : List Buffer). length bs) c.deref.ensures.value ∙ ap (λ (u : User). length u.bufs.items) new in
    omega (arith, due, size, same)

pub finish_at-requires : goal.finish_at-requires
finish_at-requires c =
    let found = shutting_port (standing c.args.book.now).world.ports c.args.port.0 in
    (sorted-at c.args.book.now c.args.users.now.items c.args.place found c.args.seen c.index_mut.result.now c.sort_bufs.new.self c.requires.turn.users
    (owner-at c.args.users.now.items found c.args.seen c.args.place c.index_mut.result.now c.requires.turn.owner c.index_mut.ensures.value) c.sort_bufs.ensures).kept

pub returns-clause-made : goal.returns-clause-made
returns-clause-made c =
    let b = c.args.book.now in
    let users = c.args.users.now.items in
    let user = c.sort_bufs.new.self in
    let found = shutting_port (standing b).world.ports c.args.port.0 in
    let at = sorted-at b users c.args.place found c.args.seen c.index_mut.result.now user c.requires.turn.users
    (owner-at users found c.args.seen c.args.place c.index_mut.result.now c.requires.turn.owner c.index_mut.ensures.value) c.sort_bufs.ensures in
    let fits : fits_chain no_chain ≡ true = search rules in
    let is : c.index.result.now ≡ get_or (slice_set users c.args.place user) c.args.place c.index.result.now = search rules in
    let new = set-here users c.args.place user c.index.result.now c.requires.turn.owner.within is in
    let named : c.write_indices.new.numbers ≡ take c.args.seen.due (indices_of user.bufs.items) =
    c.write_indices.ensures
    ∙ (ap (λ (n : ℕ). take n (indices_of c.deref.result.now)) (length-take-le c.args.seen.due c.args.numbers.now c.requires.space)
    ∙ ap (λ (bs : List Buffer). take c.args.seen.due (indices_of bs)) (c.deref.ensures.value ∙ ap (λ (u : User). u.bufs.items) new)) in
    finishes-next b users user c.args.port c.args.seen c.requires.turn.users c.requires.turn.quiet at.is at.there at.asker fits c.finish_at.new.book c.finish_at.result c.requires.turn.first c.sort_bufs.ensures.rise c.requires.turn.shut
    (subst (λ (ns : List ℕ). IsServed b c.finish_at.new.book (Finish c.args.port ns no_chain) (Ok c.finish_at.result)) named c.finish_at.ensures.served)
