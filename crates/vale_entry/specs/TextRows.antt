-- Worked examples of the lines of a transcript.
use Rattle.std.specs.Prelude.{ℕ, List, ◌≡◌, ◌∷◌, ◌++◌, [], map, take, codes, refl}
use Rattle.std.specs.Fmt.{digits}
use Rattle.nm_types.specs.declared.fault.OpenFault.{OpenFault}
use Rattle.nm_types.specs.declared.fault.OpenFault.TheVariants.{BadSize, SwitchesFull, PortsFull, NameTaken, NoBuffers}
use Rattle.nm_types.specs.declared.fault.SyncFault.{SyncFault}
use Rattle.nm_types.specs.declared.fault.SyncFault.TheVariants as faults
use Rattle.nm_types.specs.declared.id.Side.{Side}
use Rattle.nm_types.specs.declared.id.Side.TheVariants.{Tx, Rx}
use Rattle.nm_types.specs.declared.id.Sides.TheVariants.{T, R, TR}
use Rattle.vale_entry.specs.declared.entry.Entry.{Entry}
use Rattle.vale_entry.specs.declared.entry.Ask.TheVariants.{Send, Grant, Sync, Reset, Finish, Get, Watch, Stat}
use Rattle.vale_entry.specs.declared.entry.Reply.TheVariants.{Made, Refused, Offered, Shared, Gave, Unread, Watching, NoTarget, Watched, Counted}
use Rattle.vale_entry.specs.Transcript.{buffers_text, entry_line, entry_lines, start_line, end_line, text_of}
use Rattle.vale_entry.specs.RowWords.{entry, port, opening, dest, counters, bytes, marked}
use Rattle.vale_entry.specs.PortRows.{pipe_run}

-- The text of a grant that drops frames, and of refusals of an opening.
grant-text : entry_line 2 6 (entry 1 (Grant 5 (port 4)) (Shared 1 2 3))
    ≡ codes "6 1 grant 5 4 = given 1 full 2 gone 3\n"
unfolding digits
grant-text = refl

abbrev refused : OpenFault → Entry
refused fault = entry 1 (opening 1 (codes "vale0:a") 2 3) (Refused fault)

refusals-text :
    entry_lines 2 3
    (map refused (BadSize ∷ SwitchesFull ∷ PortsFull ∷ NameTaken ∷ NoBuffers 7 2 ∷ []))
    ≡ codes "3 1 open vale0:a 2 3 0 = badsize\n4 1 open vale0:a 2 3 0 = switchesfull\n"
    ++ codes "5 1 open vale0:a 2 3 0 = portsfull\n6 1 open vale0:a 2 3 0 = nametaken\n"
    ++ codes "7 1 open vale0:a 2 3 0 = nobuffers 7 2\n"
unfolding digits
refusals-text = refl

send-text :
    entry_line 2 5 (entry 1 (Send (port 3) (bytes [] ∷ marked (bytes (171 ∷ [])) ∷ []))
    (Offered 2 1 (dest 4 1 ∷ dest 6 2 ∷ [])))
    ≡ codes "5 1 send 3 .,~ab = short 2 lone 1 to 4*1,6*2\n"
unfolding digits
send-text = refl

finish-text :
    entry_line 2 8
    (entry 1 (Finish (port 3) (2 ∷ 3 ∷ []) (record { found = 1; astray = 2 })) (Unread 4))
    ≡ codes "8 1 finish 3 2-3 found 1 astray 2 = unread 4\n"
unfolding digits
finish-text = refl

-- Spans of neighbours, as they stand in a list, and the same in a text of version 1.
abbrev spans_text : List ℕ → List ℕ
spans_text numbers = buffers_text 2 numbers

spans-text :
    map spans_text
    ([] ∷ (4 ∷ []) ∷ (4 ∷ 5 ∷ 3 ∷ 4 ∷ []) ∷ (5 ∷ 4 ∷ []) ∷ (7 ∷ 7 ∷ 8 ∷ []) ∷
    (9 ∷ 10 ∷ 11 ∷ 2 ∷ []) ∷ [])
    ≡ codes "-" ∷ codes "4" ∷ codes "4-5,3-4" ∷ codes "5,4" ∷ codes "7,7-8" ∷ codes "9-11,2" ∷ []
unfolding digits
spans-text = refl

numbers-text : buffers_text 1 (4 ∷ 5 ∷ 3 ∷ 4 ∷ []) ≡ codes "4,5,3,4"
unfolding digits
numbers-text = refl

first-version-text :
    text_of 1 8
    (entry 2 (Sync (port 4) (14 ∷ 15 ∷ 16 ∷ [])) (Gave 1 [])
    ∷ entry 1 (Finish (port 3) (2 ∷ 3 ∷ []) (record { found = 1; astray = 2 })) (Unread 4) ∷ []) 5
    ≡ codes "vale 1 pool 8\n1 2 sync 4 14,15,16 = gave 1 to -\n"
    ++ codes "2 1 finish 3 2,3 found 1 astray 2 = unread 4\nend 2 free 5\n"
unfolding digits text_of start_line end_line
first-version-text = refl

second-version-text :
    text_of 2 8
    (entry 2 (Sync (port 4) (14 ∷ 15 ∷ 16 ∷ [])) (Gave 1 [])
    ∷ entry 2 (Get (port 4) (7 ∷ 5 ∷ 6 ∷ [])) (Gave 0 []) ∷ []) 5
    ≡ codes "vale 2 pool 8\n1 2 sync 4 14-16 = gave 1 to -\n"
    ++ codes "2 2 get 4 7,5-6 = gave 0 to -\nend 2 free 5\n"
unfolding digits text_of start_line end_line
second-version-text = refl

pipe_run-text : entry_lines 2 1 (take 8 pipe_run)
    ≡ codes "1 enter 1\n2 enter 2\n3 1 open pipep{ 4 4 0 = ok\n4 1 put 3 2 = peergone\n"
    ++ codes "5 2 open pipep} 4 4 0 = ok\n6 1 put 3 4 = took 2:aabb,3:.,4:01 to -\n"
    ++ codes "7 1 put 3 1 = took - to -\n8 2 get 5 - = gave 3 to -\n"
unfolding digits
pipe_run-text = refl

watches-text :
    entry_lines 2 7
    (entry 2 (Watch (port 5) (codes "vale0:c") TR) NoTarget
    ∷ entry 2 (Watch (port 5) (codes "vale0:a") T) (Watching (port 3))
    ∷ entry 2 (Watch (port 6) (codes "vale0:a") R) (Watched (port 5)) ∷ [])
    ≡ codes "7 2 watch 5 vale0:c tr = notarget\n8 2 watch 5 vale0:a t = ok 3\n"
    ++ codes "9 2 watch 6 vale0:a r = watched 5\n"
unfolding digits
watches-text = refl

counted-text : entry_line 2 9 (entry 1 (Stat (port 3)) (Counted (counters 1 2 3 4 5 6)))
    ≡ codes "9 1 stat 3 = sent 1 short 2 lone 3 given 4 full 5 read 6\n"
unfolding digits
counted-text = refl

-- The text of each refusal of a sync, as a reset keeps it.
abbrev reset : Side → SyncFault → Entry
reset side fault = entry 1 (Reset (port 2) side fault) Made

resets-text :
    entry_lines 2 4
    (reset Tx (faults.HeadOut 9 0 4)
    ∷ reset Tx (faults.CurOut 7 1 3)
    ∷ reset Rx (faults.Indirect 2)
    ∷ reset Tx (faults.IndexOut 1 70000)
    ∷ reset Rx (faults.NotHeld 2 9)
    ∷ reset Tx (faults.Doubled 3 5)
    ∷ reset Tx (faults.Unannounced 1 2 3)
    ∷ reset Tx (faults.LongLen 3 4000)
    ∷ reset Tx (faults.Fragment 3) ∷ [])
    ≡ codes "4 1 reset 2 tx headout 9 0 4\n5 1 reset 2 tx curout 7 1 3\n"
    ++ codes "6 1 reset 2 rx indirect 2\n7 1 reset 2 tx indexout 1 70000\n"
    ++ codes "8 1 reset 2 rx notheld 2 9\n9 1 reset 2 tx doubled 3 5\n"
    ++ codes "10 1 reset 2 tx unannounced 1 2 3\n11 1 reset 2 tx longlen 3 4000\n"
    ++ codes "12 1 reset 2 tx fragment 3\n"
unfolding digits
resets-text = refl
