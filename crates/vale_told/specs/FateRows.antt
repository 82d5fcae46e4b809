-- What is told of frames, worked as theorems that hold by computation.
use Rattle.std.specs.Prelude.{ℕ, ◌≡◌, ◌++◌, List, [], ◌∷◌, Some, None, codes, map, refl}
use Rattle.nm_types.specs.Frames.{Frame}
use Rattle.nm_types.specs.Names.{is_pipe_name, peer_name}
use Rattle.vale_entry.specs.declared.entry.Ask.TheVariants.{Send, Grant, Sync, Shut, Finish, PutKept, Get}
use Rattle.vale_entry.specs.declared.entry.Entry.{Entry}
use Rattle.vale_entry.specs.declared.entry.Reply.TheVariants.{Made, Offered, Shared, Gave, Took, Unread}
use Rattle.vale_entry.specs.RowWords.{entry, port, entered, opened, completes, no_chain, dest, bytes, item}
use Rattle.vale_told.specs.declared.fates.Fate.{Fate}
use Rattle.vale_told.specs.declared.fates.Fate.TheVariants.{Unknown, Pending, Full, Gone, Given}
use Rattle.vale_told.specs.declared.fates.Trace.{Trace}
use Rattle.vale_told.specs.Fates.{entry_at, frames_in, traces_told}

abbrev frame : Frame
frame = bytes (1 ∷ 2 ∷ 3 ∷ [])

abbrev trace : ℕ → ℕ → Fate → Trace
trace to count fate = record { to = to; count = count; fate = fate }

-- Entry 5 sends three frames, of which all are wanted at port 4, and the last two, say, at port 9.
abbrev sent : List Entry
sent =
    entered 1 ∷ entered 2 ∷ opened 1 (codes "vale0:a") 4 4 ∷ opened 2 (codes "vale0:b") 2 2
    ∷ entry 1 (Send (port 3) (frame ∷ frame ∷ frame ∷ [])) (Offered 0 0 (dest 4 3 ∷ dest 9 2 ∷ []))
    ∷ []

-- Port 4 has room for one, fills it with entry 7, and reads it with entry 9.
abbrev granted : List Entry
granted =
    sent
    ++ entry 1 (Grant 5 (port 4)) (Shared 1 2 0)
    ∷ entry 1 (completes 6) Made
    ∷ entry 2 (Sync (port 3) []) (Gave 1 [])
    ∷ entry 2 (Sync (port 4) []) (Gave 1 [])
    ∷ entry 2 (Shut (port 4)) Made
    ∷ entry 2 (Finish (port 4) [] no_chain) (Unread 0)
    ∷ []

abbrev unknown : Trace
unknown = trace 9 2 Unknown

frames_there : map (λ number. frames_in (entry_at granted number)) (0 ∷ 4 ∷ 5 ∷ 9 ∷ 12 ∷ []) ≡ 0 ∷ 0 ∷ 3 ∷ 1 ∷ 0 ∷ []
frames_there = refl

pending : traces_told sent 5 0 ≡ trace 4 3 Pending ∷ unknown ∷ []
pending = refl

given_and_read :
    traces_told granted 5 0
    ≡ trace 4 3 (Given (record { by = 6; done = Some 7; read = Some 9; finished = Some 11 })) ∷ unknown ∷ []
given_and_read = refl

full : traces_told granted 5 1 ≡ trace 4 3 (Full 6) ∷ unknown ∷ []
full = refl

none_there : traces_told granted 5 3 ∷ traces_told granted 4 0 ∷ traces_told granted 0 0 ∷ [] ≡ [] ∷ [] ∷ [] ∷ []
none_there = refl

gone : traces_told (sent ++ entry 1 (Grant 5 (port 4)) (Shared 0 0 3) ∷ []) 5 2 ≡ trace 4 3 (Gone 6) ∷ unknown ∷ []
gone = refl

-- a share of fewer frames than are wanted
wrong_share : traces_told (sent ++ entry 1 (Grant 5 (port 4)) (Shared 1 1 0) ∷ []) 5 0 ≡ trace 4 3 Unknown ∷ unknown ∷ []
wrong_share = refl

-- The second of two Puts, of which the first frame alone is read before the port is gone.
abbrev piped : List Entry
piped =
    entered 1 ∷ opened 1 (codes "pipe0{") 4 4 ∷ opened 1 (codes "pipe0}") 4 4
    ∷ entry 1 (PutKept (port 2) 1) (Took (item 7 (1 ∷ 2 ∷ 3 ∷ []) ∷ []) [])
    ∷ entry 1 (PutKept (port 2) 1) (Took (item 8 (1 ∷ 2 ∷ 3 ∷ []) ∷ []) [])
    ∷ entry 1 (Get (port 3) []) (Gave 1 [])
    ∷ entry 1 (Shut (port 3)) Made
    ∷ entry 1 (Finish (port 3) [] no_chain) (Unread 1)
    ∷ []

put_and_read : traces_told piped 4 0 ≡ trace 3 1 (Given (record { by = 4; done = Some 4; read = Some 6; finished = Some 8 })) ∷ []
unfolding is_pipe_name peer_name
put_and_read = refl

put_and_lost : traces_told piped 5 0 ≡ trace 3 1 (Given (record { by = 5; done = Some 5; read = None; finished = Some 8 })) ∷ []
unfolding is_pipe_name peer_name
put_and_lost = refl
