-- Closing a port, and leaving. A port that is shut gets no frame more, and its watches end. It goes
-- once each lease to it is done; the frames that nobody read are counted then. A session leaves
-- without a port.
use Rattle.std.specs.Prelude.{ℕ, Bool, true, not, ◌&&◌, ◌||◌, ◌==◌, List, length, filter, find, count_by, flat_map, Option}
use Rattle.std.specs.List.{list_any}
use Rattle.vale_entry.specs.World.{World, Port, Watch, is_undone, is_session, is_settled}
use Rattle.vale_entry.specs.Delivery.{frames_of_lot}

abbrev pub is_shutting_at : ℕ → Port → Bool
is_shutting_at id port = (port.id == id) && port.shutting

-- the shutting port of this id
abbrev pub shutting_port : List Port → ℕ → Option Port
shutting_port ports id = find (is_shutting_at id) ports

abbrev pub shut : Port → Port
shut port = record port { shutting = true }

-- a watch by this port or of it
abbrev pub is_watch_of : ℕ → Watch → Bool
is_watch_of id watch = (watch.monitor == id) || (watch.target == id)

abbrev pub watches_without : ℕ → List Watch → List Watch
watches_without id watches = filter (λ (watch : Watch). not (is_watch_of id watch)) watches

-- the leases of a port that are not done
abbrev pub leases_out : Port → ℕ
leases_out port = count_by is_undone port.line

-- the frames in a port's line
abbrev pub unread_count : Port → ℕ
unread_count port = length (flat_map frames_of_lot port.line)

abbrev pub ports_without : ℕ → List Port → List Port
ports_without id ports = filter (λ (port : Port). not (port.id == id)) ports

abbrev pub is_port_of : ℕ → Port → Bool
is_port_of session port = port.session == session

abbrev pub can_leave : World → ℕ → Bool
can_leave w session =
    is_session w session && (not (list_any (is_port_of session) w.ports) && is_settled w session)

abbrev pub sessions_without : ℕ → List ℕ → List ℕ
sessions_without session sessions = filter (λ (s : ℕ). not (s == session)) sessions
