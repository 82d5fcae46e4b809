-- Entries by the verb of what was asked.
use Rattle.std.specs.Prelude.{ℕ, Bool, List, [], ◌∷◌, codes, bytes_eq}
use Rattle.vale_entry.specs.declared.entry.Ask.{Ask}
use Rattle.vale_entry.specs.declared.entry.Ask.TheVariants.{Enter, Open, Send, Grant, Done, Sync, Reset, Shut, Finish, Leave, Put, PutKept, Get, Watch, Stat}
use Rattle.vale_entry.specs.declared.entry.Entry.{Entry}

abbrev pub verb_of : Ask → List ℕ
verb_of (Enter user) = codes "enter"
verb_of (Open session name tx rx extra) = codes "open"
verb_of (Send port frames) = codes "send"
verb_of (Grant origin to) = codes "grant"
verb_of (Done lease) = codes "done"
verb_of (Sync port back) = codes "sync"
verb_of (Reset port side fault) = codes "reset"
verb_of (Shut port) = codes "shut"
verb_of (Finish port bufs chain) = codes "finish"
verb_of (Leave session) = codes "leave"
verb_of (Put port offered) = codes "put"
verb_of (PutKept port offered) = codes "put"
verb_of (Get port back) = codes "get"
verb_of (Watch monitor target sides) = codes "watch"
verb_of (Stat port) = codes "stat"

abbrev pub has_verb : List ℕ → Entry → Bool
has_verb verb entry = bytes_eq (verb_of entry.ask) verb

-- all verbs
abbrev pub verbs : List (List ℕ)
verbs =
    codes "enter" ∷ codes "open" ∷ codes "send" ∷ codes "put" ∷ codes "grant" ∷ codes "done" ∷ codes "sync" ∷ codes "get" ∷ codes "reset" ∷ codes "watch" ∷ codes "stat"
    ∷ codes "shut" ∷ codes "finish" ∷ codes "leave" ∷ []
