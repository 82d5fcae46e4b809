-- The ends of pipes that are open, as the entries tell it: an opening that is not refused opens one,
-- and a Shut of it ends that.
use Rattle.std.specs.Prelude.{ℕ, Bool, true, false, not, ◌&&◌, ◌==◌, if◌then◌else◌, List, [], ◌∷◌, ◌++◌, filter, find, Option, Some, None, bytes_eq}
use Rattle.nm_types.specs.Names.{is_pipe_name, peer_name}
use Rattle.vale_entry.specs.declared.entry.Ask.{Ask}
use Rattle.vale_entry.specs.declared.entry.Ask.TheVariants.{Open, Shut}
use Rattle.vale_entry.specs.declared.entry.Reply.{Reply}
use Rattle.vale_entry.specs.declared.entry.Reply.TheVariants.{Opened}
use Rattle.vale_told.specs.declared.ends.End.{End}

abbrev pub is_opened : Reply → Bool
is_opened Opened = true
is_opened _ = false

abbrev pub has_id : ℕ → End → Bool
has_id id end = end.id == id

abbrev pub has_name : List ℕ → End → Bool
has_name name end = bytes_eq end.name name

abbrev pub has_other_id : ℕ → End → Bool
has_other_id id end = not (end.id == id)

-- the ends behind an opening
abbrev pub ends_opened : ℕ → List ℕ → Reply → List End → List End
ends_opened id name reply ends =
    if is_opened reply && is_pipe_name name then
    ends ++ (record { id = id; name = name; peer = peer_name name }) ∷ []
    else ends

-- the ends behind an entry of this number
abbrev pub ends_by : ℕ → Ask → Reply → List End → List End
ends_by number (Open session name tx rx extra) reply ends = ends_opened number name reply ends
ends_by number (Shut port) reply ends = filter (has_other_id port.0) ends
ends_by number _ reply ends = ends

abbrev pub id_of_end : Option End → Option ℕ
id_of_end None = None
id_of_end (Some end) = Some end.id

abbrev pub peer_of_end : List End → Option End → Option ℕ
peer_of_end ends None = None
peer_of_end ends (Some end) = id_of_end (find (has_name end.peer) ends)

-- the port at the other end of this one, if both are open
abbrev pub peer_among : List End → ℕ → Option ℕ
peer_among ends id = peer_of_end ends (find (has_id id) ends)
