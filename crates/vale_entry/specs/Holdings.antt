-- Who holds which buffer: the free ones, for each port its idle ones and those of each lot, and
-- those of each session. The buffers of a pool of N are 2 to N + 1.
use Rattle.std.specs.Prelude.{ℕ, Bool, true, not, ◌&&◌, ◌==◌, ◌≡◌, ◌+◌, nat_le, nat_lt, if◌then◌else◌, List, [], ◌∷◌, ◌++◌, length, map, filter, take, drop, count_by, sum_by, flat_map, All}
use Rattle.std.specs.List.{list_any, list_all, range_with_len, AllZip}
use Rattle.nm_types.specs.Frames.{size_of_frames}
use Rattle.vale_entry.specs.World.{Port, Lot, World, space_of, due_of}

pub record PortBuffers : Type 0 where
  pub port : ℕ
  pub idle : List ℕ
  pub lots : List (List ℕ)

pub record SessionBuffers : Type 0 where
  pub session : ℕ
  pub buffers : List ℕ

-- the free buffers rise; a port's lots stand in the order of its line
pub record Holdings : Type 0 where
  pub free : List ℕ
  pub ports : List PortBuffers
  pub sessions : List SessionBuffers

abbrev pub all_free : ℕ → Holdings
all_free pool = record { free = range_with_len 2 pool; ports = []; sessions = [] }

abbrev pub contains : ℕ → List ℕ → Bool
contains b buffers = list_any (λ x. x == b) buffers

-- a session's buffers with some more at the end
abbrev pub session_given : ℕ → List ℕ → SessionBuffers → SessionBuffers
session_given session more held =
    if held.session == session then record held { buffers = held.buffers ++ more } else held

abbrev pub sessions_given : ℕ → List ℕ → List SessionBuffers → List SessionBuffers
sessions_given session more sessions = map (session_given session more) sessions

-- a session's buffers without some
abbrev pub buffers_without : List ℕ → List ℕ → List ℕ
buffers_without gone buffers = filter (λ b. not (contains b gone)) buffers

abbrev pub session_less : ℕ → List ℕ → SessionBuffers → SessionBuffers
session_less session gone held =
    if held.session == session then record held { buffers = buffers_without gone held.buffers }
    else held

abbrev pub sessions_less : ℕ → List ℕ → List SessionBuffers → List SessionBuffers
sessions_less session gone sessions = map (session_less session gone) sessions

abbrev pub buffers_of_session : List SessionBuffers → ℕ → List ℕ
buffers_of_session [] session = []
buffers_of_session (held ∷ others) session =
    if held.session == session then held.buffers else buffers_of_session others session

abbrev pub buffers_at_port : PortBuffers → List ℕ
buffers_at_port held = held.idle ++ flat_map (λ list. list) held.lots

abbrev pub changed_buffers : ℕ → (PortBuffers → PortBuffers) → List PortBuffers → List PortBuffers
changed_buffers port change ports =
    map (λ held. if held.port == port then change held else held) ports

-- Enter: a session without buffers
abbrev pub holdings_after_enter : ℕ → Holdings → Holdings
holdings_after_enter session x =
    record x { sessions = x.sessions ++ (record { session = session; buffers = [] }) ∷ [] }

-- Open: the smallest free buffers for the transmit slots, the next ones for the receive ring's
-- kernel side, the next ones as extras; transmit and extra buffers are the session's
abbrev pub holdings_after_open : ℕ → ℕ → ℕ → ℕ → ℕ → Holdings → Holdings
holdings_after_open port session tx rx extra x = record {
  free = drop (tx + rx + extra) x.free;
  ports = x.ports ++ (record { port = port; idle = take rx (drop tx x.free); lots = [] }) ∷ [];
  sessions =
      sessions_given session (take tx x.free ++ take extra (drop (tx + rx) x.free)) x.sessions;
}

-- Grant: the first idle buffers, as many as the frames given take, to the new lot
abbrev pub with_lot_buffers : ℕ → PortBuffers → PortBuffers
with_lot_buffers size held =
    if size == 0 then held
    else record held { idle = drop size held.idle; lots = held.lots ++ take size held.idle ∷ [] }

abbrev pub holdings_after_grant : ℕ → ℕ → Holdings → Holdings
holdings_after_grant port size x =
    record x { ports = changed_buffers port (with_lot_buffers size) x.ports }

-- Sync and Get: the buffers of the lots given to the session, and those that it brings to the end
-- of idle
abbrev pub delivered_buffers : ℕ → ℕ → List PortBuffers → List ℕ
delivered_buffers port lots [] = []
delivered_buffers port lots (held ∷ others) =
    if held.port == port then concat_of (take lots held.lots)
    else delivered_buffers port lots others
  where
    concat_of : List (List ℕ) → List ℕ
    concat_of lists = flat_map (λ list. list) lists

abbrev pub with_returned : ℕ → List ℕ → PortBuffers → PortBuffers
with_returned lots back held = record held { idle = held.idle ++ back; lots = drop lots held.lots }

abbrev pub holdings_after_sync : ℕ → ℕ → ℕ → List ℕ → Holdings → Holdings
holdings_after_sync port session lots back x = record x {
  ports = changed_buffers port (with_returned lots back) x.ports;
  sessions =
      sessions_given session (delivered_buffers port lots x.ports)
      (sessions_less session back x.sessions);
}

-- Put: the buffers of the frames taken to the other end's new lot, and as many of its first idle
-- ones to the session in their place
abbrev pub with_put_buffers : List ℕ → PortBuffers → PortBuffers
with_put_buffers taken held =
    if length taken == 0 then held
    else record held { idle = drop (length taken) held.idle; lots = held.lots ++ taken ∷ [] }

abbrev pub first_idle : ℕ → ℕ → List PortBuffers → List ℕ
first_idle port count [] = []
first_idle port count (held ∷ others) =
    if held.port == port then take count held.idle else first_idle port count others

abbrev pub holdings_after_put : ℕ → ℕ → List ℕ → Holdings → Holdings
holdings_after_put port session taken x = record x {
  ports = changed_buffers port (with_put_buffers taken) x.ports;
  sessions =
      sessions_given session (first_idle port (length taken) x.ports)
      (sessions_less session taken x.sessions);
}

-- Finish: the port's buffers and those that its session brings back are free again, each at its
-- place among the free ones, which rise
abbrev pub with_free : ℕ → List ℕ → List ℕ
with_free b [] = b ∷ []
with_free b (first ∷ free) = if nat_lt b first then b ∷ first ∷ free else first ∷ with_free b free

abbrev pub all_with_free : List ℕ → List ℕ → List ℕ
all_with_free [] free = free
all_with_free (b ∷ bs) free = all_with_free bs (with_free b free)

abbrev pub buffers_of_port : ℕ → List PortBuffers → List ℕ
buffers_of_port port [] = []
buffers_of_port port (held ∷ others) =
    if held.port == port then buffers_at_port held else buffers_of_port port others

abbrev pub holdings_after_finish : ℕ → ℕ → List ℕ → Holdings → Holdings
holdings_after_finish port session bufs x = record {
  free = all_with_free (buffers_of_port port x.ports ++ bufs) x.free;
  ports = filter (λ (held : PortBuffers). not (held.port == port)) x.ports;
  sessions = sessions_less session bufs x.sessions;
}

-- Leave: the session has no buffers left
abbrev pub holdings_after_leave : ℕ → Holdings → Holdings
holdings_after_leave session x =
    record x {
      sessions = filter (λ (held : SessionBuffers). not (held.session == session)) x.sessions;
    }

-- buffers that a session may bring back: its own, each once
abbrev pub are_distinct : List ℕ → Bool
are_distinct [] = true
are_distinct (b ∷ bs) = not (contains b bs) && are_distinct bs

abbrev pub holds_all : Holdings → ℕ → List ℕ → Bool
holds_all x session bs =
    list_all (λ b. contains b (buffers_of_session x.sessions session)) bs && are_distinct bs

-- all buffers that somebody holds
abbrev pub buffers_held : SessionBuffers → List ℕ
buffers_held held = held.buffers

abbrev pub all_buffers : Holdings → List ℕ
all_buffers x = x.free ++ flat_map buffers_at_port x.ports ++ flat_map buffers_held x.sessions

abbrev pub is_buffer_index : ℕ → ℕ → Bool
is_buffer_index pool b = nat_le 2 b && nat_le b (pool + 1)

-- each buffer of the pool stands exactly once among all that are held, and nothing else does
abbrev pub IsParted : ℕ → Holdings → Type 0
IsParted pool x =
    (b : ℕ) → count_by (λ y. y == b) (all_buffers x) ≡ (if is_buffer_index pool b then 1 else 0)

-- each lot has as many buffers as its frames take, and each port one idle buffer more than its
-- space
pub record PortAgrees (port : Port) (held : PortBuffers) : Type 0 where
  pub id : held.port ≡ port.id
  pub idle : length held.idle ≡ space_of port + 1
  pub lots :
      map (λ (list : List ℕ). length list) held.lots
      ≡ map (λ (lot : Lot). size_of_frames lot.frames) port.line

abbrev pub PortsAgree : List Port → List PortBuffers → Type 0
PortsAgree ports helds = AllZip PortAgrees ports helds

-- the buffers that the ports of a session are due
abbrev pub due_of_session : List Port → ℕ → ℕ
due_of_session ports session = sum_by due_of (filter (λ port. port.session == session) ports)

pub record Agrees (w : World) (x : Holdings) : Type 0 where
  pub ports_agree : PortsAgree w.ports x.ports
  pub session_ids : map (λ (held : SessionBuffers). held.session) x.sessions ≡ w.sessions
  pub dues :
      All (λ (held : SessionBuffers). length held.buffers ≡ due_of_session w.ports held.session)
      x.sessions
