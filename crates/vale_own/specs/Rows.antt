-- Worked examples of what is a session's own, as theorems about the definitions: a pool of 64 buffers,
-- and two sessions with a port of 4 and 4 slots each.
use Rattle.std.specs.Prelude.{ℕ, ◌≡◌, true, false, List, [], ◌∷◌, ◌++◌, take, codes, Some, None, refl}
use Rattle.nm_types.specs.Names.{is_name, is_switch_port_name, is_pipe_name, is_monitor_name, switch_of, peer_name}
use Rattle.vale_entry.specs.declared.entry.Ask.{Ask}
use Rattle.vale_entry.specs.declared.entry.Ask.TheVariants.{Enter, Send, Grant, Sync, Shut, Finish, PutKept}
use Rattle.vale_entry.specs.declared.entry.Entry.{Entry}
use Rattle.vale_entry.specs.declared.entry.Reply.TheVariants.{Made, Opened, Offered, Shared, Gave, Took, LeasesOut}
use Rattle.vale_entry.specs.World.{Port}
use Rattle.vale_entry.specs.RowWords.{entry, port, opening, completes, dest, item, no_chain, frame_f}
use Rattle.vale_entry.specs.Legal.{Standing, IsLegal, standing_of, reply_to, session_of}
use Rattle.vale_own.specs.Own.{Own, HeldLot, own_of}
use Rattle.vale_own.specs.Asker.{asker_of, asks}
use Rattle.vale_own.specs.OwnAsks.{may_ask}

abbrev opened : ℕ → List ℕ → Entry
opened session name = entry session (opening session name 4 4) Opened

-- a port as its session sees it
abbrev port_seen : ℕ → ℕ → List ℕ → ℕ → Port
port_seen id session name out = record { id = id; session = session; name = name; tx = 4; rx = 4; extra = 0; shutting = false; out = out; line = [] }

-- two sessions come, and each opens a port
abbrev come : List ℕ → List ℕ → List Entry
come one two = entry 1 (Enter 1) Made ∷ entry 2 (Enter 2) Made ∷ opened 1 one ∷ opened 2 two ∷ []

-- The first session sends a frame that the second one's port wants.
abbrev pub sent : List Entry
sent =
    come (codes "vale0:a") (codes "vale0:b")
    ++ entry 1 (Send (port 3) (frame_f ∷ [])) (Offered 0 0 (dest 4 1 ∷ []))
    ∷ []

-- It grants the frame and fills it; the second one reads it after that, or shuts its port before.
abbrev start : List Entry
start = sent ++ entry 1 (Grant 5 (port 4)) (Shared 1 0 0) ∷ []

abbrev pub run : List Entry
run =
    start
    ++ entry 1 (completes 6) Made
    ∷ entry 2 (Sync (port 4) []) (Gave 1 [])
    ∷ entry 2 (Sync (port 4) (14 ∷ [])) (Gave 0 [])
    ∷ []

run-legal : IsLegal 64 run
unfolding is_name is_switch_port_name is_pipe_name is_monitor_name switch_of peer_name
run-legal = (refl, (refl, (refl, (refl, (refl, (refl, (refl, (refl, (refl, tt)))))))))

abbrev own_at : ℕ → ℕ → Own
own_at session count = own_of session (standing_of 64 (take count run))

abbrev first_own : Own
first_own = record { there = true; ports = port_seen 3 1 (codes "vale0:a") 0 ∷ []; offers = []; leases = []; buffers = 2 ∷ 3 ∷ 4 ∷ 5 ∷ [] }

abbrev second_own : Own
second_own = record { there = true; ports = port_seen 4 2 (codes "vale0:b") 0 ∷ []; offers = []; leases = []; buffers = 10 ∷ 11 ∷ 12 ∷ 13 ∷ [] }

-- a session that has not come has nothing, one that came is there
not_come : own_at 2 1 ≡ record { there = false; ports = []; offers = []; leases = []; buffers = [] }
not_come = refl

came : own_at 2 2 ≡ record { there = true; ports = []; offers = []; leases = []; buffers = [] }
came = refl

-- each has its port and the buffers of its transmit slots
both_opened : (own_at 1 4 ≡ first_own) × (own_at 2 4 ≡ second_own)
unfolding is_name is_switch_port_name is_pipe_name is_monitor_name switch_of peer_name
both_opened = (refl, refl)

-- an offer is the sender's
offered : (own_at 1 5 ≡ record first_own { offers = record { origin = 5; session = 1; to = 4; frames = frame_f ∷ [] } ∷ [] }) × (own_at 2 5 ≡ second_own)
unfolding is_name is_switch_port_name is_pipe_name is_monitor_name switch_of peer_name
offered = (refl, refl)

-- a lease is the sender's, with the first idle buffer of the other's port, at which it is queued
abbrev lease_6 : HeldLot
lease_6 = (record { number = 6; session = 1; frames = frame_f ∷ []; is_done = false }, 14 ∷ [])

leased : (own_at 1 6 ≡ record first_own { leases = lease_6 ∷ [] }) × (own_at 2 6 ≡ second_own)
unfolding is_name is_switch_port_name is_pipe_name is_monitor_name switch_of peer_name
leased = (refl, refl)

-- once it is done nobody has it
done : (own_at 1 7 ≡ first_own) × (own_at 2 7 ≡ second_own)
unfolding is_name is_switch_port_name is_pipe_name is_monitor_name switch_of peer_name
done = (refl, refl)

-- what is read is out, and its buffer is the reader's
read : (own_at 2 8 ≡ record second_own { ports = port_seen 4 2 (codes "vale0:b") 1 ∷ []; buffers = 10 ∷ 11 ∷ 12 ∷ 13 ∷ 14 ∷ [] }) × (own_at 1 8 ≡ first_own)
unfolding is_name is_switch_port_name is_pipe_name is_monitor_name switch_of peer_name
read = (refl, refl)

brought_back : own_at 2 9 ≡ second_own
unfolding is_name is_switch_port_name is_pipe_name is_monitor_name switch_of peer_name
brought_back = refl

-- A Finish that waits for a lease is its session's still, though it makes no entry.
abbrev waiting : Standing
waiting = standing_of 64 (start ++ entry 2 (Shut (port 4)) Made ∷ [])

abbrev finish_4 : Ask
finish_4 = Finish (port 4) (10 ∷ 11 ∷ 12 ∷ 13 ∷ []) no_chain

waits : reply_to waiting finish_4 ≡ Some (LeasesOut 1)
unfolding is_name is_switch_port_name is_pipe_name is_monitor_name switch_of peer_name
waits = refl

waits_of_second : asks waiting 2 finish_4 ≡ true
unfolding is_name is_switch_port_name is_pipe_name is_monitor_name switch_of peer_name
waits_of_second = refl

waits_not_of_first : asks waiting 1 finish_4 ≡ false
unfolding is_name is_switch_port_name is_pipe_name is_monitor_name switch_of peer_name
waits_not_of_first = refl

told_by_own : may_ask 2 (own_of 2 waiting) finish_4 ≡ true
unfolding is_name is_switch_port_name is_pipe_name is_monitor_name switch_of peer_name
told_by_own = refl

-- not with a buffer less
too_few : may_ask 2 (own_of 2 waiting) (Finish (port 4) (10 ∷ 11 ∷ 12 ∷ []) no_chain) ≡ false
unfolding is_name is_switch_port_name is_pipe_name is_monitor_name switch_of peer_name
too_few = refl

-- a session with a lease may complete it, and not send
may_complete : may_ask 1 (own_at 1 6) (completes 6) ≡ true
unfolding is_name is_switch_port_name is_pipe_name is_monitor_name switch_of peer_name
may_complete = refl

may_not_send : may_ask 1 (own_at 1 6) (Send (port 3) []) ≡ false
unfolding is_name is_switch_port_name is_pipe_name is_monitor_name switch_of peer_name
may_not_send = refl

-- nor complete what is another's
not_of_other : may_ask 2 (own_at 2 6) (completes 6) ≡ false
unfolding is_name is_switch_port_name is_pipe_name is_monitor_name switch_of peer_name
not_of_other = refl

waits_without_entry : session_of waiting finish_4 ≡ None
unfolding is_name is_switch_port_name is_pipe_name is_monitor_name switch_of peer_name
waits_without_entry = refl

-- an offer, a lease and a port tell whose an ask is; an Enter is nobody's
grant_of_first : asker_of (standing_of 64 (take 5 run)) (Grant 5 (port 4)) ≡ Some 1
unfolding is_name is_switch_port_name is_pipe_name is_monitor_name switch_of peer_name
grant_of_first = refl

done_of_first : asker_of (standing_of 64 (take 6 run)) (completes 6) ≡ Some 1
unfolding is_name is_switch_port_name is_pipe_name is_monitor_name switch_of peer_name
done_of_first = refl

sync_of_second : asker_of (standing_of 64 (take 6 run)) (Sync (port 4) []) ≡ Some 2
unfolding is_name is_switch_port_name is_pipe_name is_monitor_name switch_of peer_name
sync_of_second = refl

enter_of_nobody : asker_of (standing_of 64 (take 6 run)) (Enter 3) ≡ None
enter_of_nobody = refl

-- A Put swaps buffers: the one with the frame goes to the other end, an idle one of that comes; nothing
-- of the other's own changes until it reads.
abbrev pipe_run : List Entry
pipe_run =
    come (codes "pipe0{") (codes "pipe0}")
    ++ entry 1 (PutKept (port 3) 1) (Took (item 2 frame_f.bytes ∷ []) [])
    ∷ []

pipe_run-legal : IsLegal 64 pipe_run
unfolding is_name is_switch_port_name is_pipe_name is_monitor_name switch_of peer_name
pipe_run-legal = (refl, (refl, (refl, (refl, (refl, tt)))))

put : own_of 1 (standing_of 64 pipe_run) ≡ record { there = true; ports = port_seen 3 1 (codes "pipe0{") 0 ∷ []; offers = []; leases = []; buffers = 3 ∷ 4 ∷ 5 ∷ 14 ∷ [] }
unfolding is_name is_switch_port_name is_pipe_name is_monitor_name switch_of peer_name
put = refl

put_by_other : own_of 2 (standing_of 64 pipe_run) ≡ record second_own { ports = port_seen 4 2 (codes "pipe0}") 0 ∷ [] }
unfolding is_name is_switch_port_name is_pipe_name is_monitor_name switch_of peer_name
put_by_other = refl
