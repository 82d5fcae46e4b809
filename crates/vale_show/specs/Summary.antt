-- The summary of a transcript: its first and last line, how many entries have which verb, the users,
-- the ports with their frames, all ports together, and each entry that did nothing.
use Rattle.std.specs.Prelude.{ℕ, ◌==◌, if◌then◌else◌, List, [], ◌++◌, length, count_by, codes, decimal}
use Rattle.std.specs.List.{flat_map}
use Rattle.vale_entry.specs.declared.entry.Entry.{Entry}
use Rattle.vale_told.specs.declared.tally.Tally.{Tally}
use Rattle.vale_told.specs.declared.opened.Port.{Port}
use Rattle.vale_told.specs.declared.entered.User.{User}
use Rattle.vale_told.specs.Ports.{ports_told, total_of}
use Rattle.vale_told.specs.Users.{users_told}
use Rattle.vale_told.specs.Verbs.{has_verb, verbs}
use Rattle.vale_show.specs.Page.{or_dash}
use Rattle.vale_show.specs.Refusals.{refusal_texts}

unfoldable pub start_line : ℕ → ℕ → ℕ → ℕ → List ℕ
start_line version pool free count =
    codes "version " ++ decimal version ++ codes " pool " ++ decimal pool ++ codes " free " ++ decimal free ++ codes " entries " ++ decimal count ++ codes "\n"

unfoldable pub verb_line : List ℕ → ℕ → List ℕ
verb_line verb count = codes "entries " ++ verb ++ codes " " ++ decimal count ++ codes "\n"

-- of a verb that some entry has
abbrev pub verb_line_of : List ℕ → ℕ → List ℕ
verb_line_of verb count = if count == 0 then [] else verb_line verb count

abbrev pub verb_text : List Entry → List ℕ → List ℕ
verb_text history verb = verb_line_of verb (count_by (has_verb verb) history)

abbrev pub verbs_text : List Entry → List ℕ
verbs_text history = flat_map (verb_text history) verbs

unfoldable pub user_line : User → List ℕ
user_line user =
    codes "user " ++ decimal user.user ++ codes " session " ++ decimal user.session ++ codes " entries " ++ decimal user.entries ++ codes "\n"

unfoldable pub tally_text : Tally → List ℕ
tally_text tally =
    codes " sent " ++ decimal tally.counts.sent ++ codes " short " ++ decimal tally.counts.short ++ codes " lone " ++ decimal tally.counts.lone
    ++ codes " given " ++ decimal tally.counts.given ++ codes " full " ++ decimal tally.counts.full ++ codes " gone " ++ decimal tally.gone
    ++ codes " read " ++ decimal tally.counts.read ++ codes " unread " ++ decimal tally.unread ++ codes "\n"

-- its number, its name, the session that opened it, and the entries that closed it
unfoldable pub port_start : Port → List ℕ
port_start port =
    codes "port " ++ decimal port.id ++ codes " " ++ port.name ++ codes " session " ++ decimal port.session ++ codes " shut " ++ or_dash port.told.shut
    ++ codes " finished " ++ or_dash port.told.finished

abbrev pub port_line : Port → List ℕ
port_line port = port_start port ++ tally_text port.told.tally

abbrev pub total_line : Tally → List ℕ
total_line tally = codes "all ports" ++ tally_text tally

abbrev pub lists_text : List Entry → List ℕ
lists_text history =
    flat_map user_line (users_told history)
    ++ (flat_map port_line (ports_told history) ++ total_line (total_of (ports_told history)))

abbrev pub summary_text : ℕ → ℕ → List Entry → ℕ → List ℕ
summary_text version pool history free =
    start_line version pool free (length history)
    ++ (verbs_text history ++ (lists_text history ++ refusal_texts 1 history))
