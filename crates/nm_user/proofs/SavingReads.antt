-- What is read at a session's port, from one sight of the history to the next.
use Rattle.std.proofs.Common.{ℕ, ◌-◌, ◌≡◌, List, ◌++◌, [], take, slice_get, Option, Some, sym, ◌∙◌, ap, subst, refl}
use Rattle.std.specs.Option.{option_map_or}
use Rattle.std.proofs.lemmas.List.Elements.{recursion_from_All}
use Rattle.nm_types.specs.Frames.{Frame}
use Rattle.vale_entry.specs.declared.entry.Entry.{Entry}
use Rattle.vale_entry.specs.declared.entry.Reply.TheVariants.{Gave}
use Rattle.vale_entry.specs.OwnCalls.{rx_call}
use Rattle.vale_fabric.specs.Fabrics.{entry_by}
use Rattle.vale_entry.specs.Delivered.{read_by, of_entry_in, read_frames}
use Rattle.vale_entry.specs.Legal.{world_of}
use Rattle.vale_entry.proofs.ListLaws.{each-at}
use Rattle.vale_fabric.specs.declared.kept.Fixed.{Fixed}
use Rattle.nm_user.specs.Saving.{read_of}
use Rattle.nm_user.specs.PortReads.{ReadsNot, PortsAreOwn, PortsStayOwn, ReadsStay, ReadsGrow}
use Rattle.nm_user.proofs.SavingHistory.{port-past, told-stays}
use Rattle.nm_user.proofs.SavingSights.{port-there, receive-grows}

pub ports-are-own : PortsAreOwn
ports-are-own s id there has = port-there id there has

pub ports-stay-own : PortsStayOwn
ports-stay-own pool past more session id k = port-past pool past more session id k

pub reads-stay : ReadsStay
reads-stay pool past more session id legal k none =
    let each = recursion_from_All (ReadsNot session id) more none in
    told-stays (of_entry_in read_by id) pool id (λ w e is. is) past more session legal k (λ at e here. each-at (ReadsNot session id) more at e each here)

pub reads-grow : ReadsGrow
reads-grow s t id received there after is =
    let pool = t.fixed.pool in
    let n = received.entry in
    let entry : Entry = entry_by s.id (rx_call s.own is.at.port) (Gave received.gave is.to) in
    let stands = (is.synced.told.stand 0 is.synced.number entry refl).1 in
    let at = subst (λ (m : ℕ). slice_get t.knows.seen (m - 1) ≡ Some entry) (sym is.entry) stands in
    let grown = receive-grows (of_entry_in read_by id) pool id (λ w e is. is) refl there after is n refl entry at in
    let read = ap (λ (o : Option Entry). option_map_or (of_entry_in read_by id (world_of pool (take (n - 1) t.knows.seen))) o []) at in
    grown ∙ (ap (λ (xs : List Frame). read_frames pool s.knows.seen id ++ xs) (sym read)
    ∙ ap (λ (f : Fixed). read_frames f.pool s.knows.seen id ++ read_of pool t.knows.seen id n) is.synced.fixed)
