-- A step that changes the record and the sessions alone.
use Rattle.std.proofs.Common.{[], ◌∷◌, ◌++◌, ◌≡◌, ◌+◌, map, Some, rules}
use Rattle.std.specs.List.{AllByRecursion as Each}
use Rattle.vale_entry.specs.declared.entry.Ask.{Ask}
use Rattle.vale_entry.specs.Legal.{Outcome, step, kept_ask}
use Rattle.vale_port.specs.Lists.{ArePortsOf}
use Rattle.vale_parts.specs.Parts.{ArePartsAfter}
use Rattle.vale_book.specs.declared.book.Book.TheInside.{Inside}
use Rattle.vale_book.specs.BookView.{recorded, parts_in, number_of_session, HasBuffersOf, IsBook}
use Rattle.vale_own.specs.Recorded.{entry_of, HasRoomFor}
use Rattle.vale_book.proofs.Moves.{Moves, before, free-same}

pub quiet-moves : (b next : Inside) (ask : Ask) (made : Outcome) → IsBook b → step (before b) ask ≡ Some made
    → ArePortsOf made.next.world.ports made.next.holdings.ports b.ports.items
    → ArePartsAfter (before b).world (before b).holdings (kept_ask ask) made.reply (parts_in b) (parts_in b)
    → next.history.entries ≡ b.history.entries ++ entry_of ask made ∷ [] → next.history.limits ≡ b.history.limits
    → next.history.promised + 1 + made.back ≡ b.history.promised + made.want → HasRoomFor (recorded b) ask made
    → map number_of_session next.sessions.items ≡ made.next.world.sessions
    → next.ports.items ≡ b.ports.items → parts_in next ≡ parts_in b → next.region ≡ b.region → next.buffers ≡ b.buffers
    → Moves b next ask made
quiet-moves b next ask made k is stand after entries limits promised room sessions ports parts region buffers =
    let standing : ArePortsOf made.next.world.ports made.next.holdings.ports next.ports.items = rw ports stand in
    let kept : ArePartsAfter (before b).world (before b).holdings (kept_ask ask) made.reply (parts_in b) (parts_in next) = rw parts after in
    let free = free-same b next parts k.free_are in
    let lines : Each (HasBuffersOf b.region.region) next.ports.items = rw ports k.lines_are in
    search rules
