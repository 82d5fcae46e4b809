-- A port that is opened: the memory for it, what is known once the book has opened it, and what a refusal
-- does.
use Rattle.std.specs.Prelude.{ℕ, false, ◌≡◌, ◌++◌, nat_eq, List, length, Option, Some, None, option_map}
use Rattle.std.specs.List.{AllByRecursion, IsDistinct}
use Rattle.nm_types.specs.declared.fault.OpenFault.{OpenFault}
use Rattle.nm_types.specs.Openings.{are_sizes}
use Rattle.nm_types.specs.OwnPorts.{OwnState, port_with_id}
use Rattle.nm_region.specs.Buffers.{indices_of}
use Rattle.nm_own.specs.NewPorts.{NewPortState, HasRoomFor}
use Rattle.nm_own.specs.Opening.{IsNew}
use Rattle.nm_port.specs.Regions.{SideState}
use Rattle.vale_entry.specs.declared.entry.Ask.{Ask}
use Rattle.vale_entry.specs.declared.entry.Reply.TheVariants as replies
use Rattle.vale_steps.specs.declared.opening.Opened.{Opened}
use Rattle.vale_book.specs.OpenAnswers.{ByFault}
use Rattle.vale_own.specs.Recorded.{Recorded}
use Rattle.nm_desk.specs.Desks.{DeskState}
use Rattle.nm_desk.specs.Calls.{Made, MadeNone}

-- all memory for such a port is there; for sizes that its name does not allow none is wanted
abbrev pub IsReady : OwnState → List ℕ → ℕ → ℕ → ℕ → Option NewPortState → Type 0
IsReady own name tx rx extra None = are_sizes name tx rx extra ≡ false
IsReady own name tx rx extra (Some new) = (new.name ≡ name) × (new.sizes ≡ record { tx = tx; rx = rx; extra = extra }) × HasRoomFor own new

-- the own side is there, with the memory for the port that was opened, whose buffers are new to it
pub record CanAdd (own : Option SideState) (new : Option NewPortState) (opened : Opened) : Type 0 where
  pub side : SideState
  pub side_is : own ≡ Some side
  pub port : NewPortState
  pub port_is : new ≡ Some port
  pub tx : length opened.tx.items ≡ port.sizes.tx
  pub extra : length opened.extra.items ≡ port.sizes.extra
  pub room : HasRoomFor side.own port
  pub id : port_with_id side.own opened.port.0 ≡ None
  pub away : AllByRecursion (IsNew side.own) (indices_of opened.tx.items ++ indices_of opened.extra.items)
  pub once : IsDistinct nat_eq (indices_of opened.tx.items ++ indices_of opened.extra.items)

-- what the session has on a side that is there
abbrev pub own_if : Option SideState → Option OwnState
own_if found = option_map (λ (side : SideState). side.own) found

-- a refusal by the name, the sizes or the free buffers is an entry; want of room or memory is none
abbrev pub OpensNot : Recorded → Recorded → DeskState → DeskState → Ask → OpenFault → Type 0
OpensNot b new d after ask fault = ByFault (λ named. Made b new d after ask (replies.Refused named)) (MadeNone b new d after ask) fault
