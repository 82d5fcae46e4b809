-- A record each of whose entries had room is within its limits, as it was before each entry.
use Rattle.std.proofs.Common.{ℕ, zero, suc, List, [], ◌∷◌, ◌++◌, take}
use Rattle.vale_entry.specs.declared.entry.Entry.{Entry}
use Rattle.vale_entry.specs.Legal.{fresh_standing}
use Rattle.vale_entry.proofs.Worlds.{legal-take}
use Rattle.vale_own.specs.Recorded.{Recorded, HadRoomFrom}
use Rattle.vale_own.proofs.Rooms.{within-had}
use Rattle.vale_book.specs.Fitting.{HadRoomIsWithin, PrefixHadRoom, PrefixIsWithin}

pub had-within : HadRoomIsWithin
had-within = within-had

had-take_from :
    (b : Recorded) (count : ℕ) (entries : List Entry) → HadRoomFrom b entries
    → HadRoomFrom b (take count entries)
had-take_from b zero entries had = tt
had-take_from b (suc count) [] had = tt
had-take_from b (suc count) (entry ∷ entries) had =
    (had.0, had-take_from (record b { entries = b.entries ++ entry ∷ [] }) count entries had.1)

pub had-take : PrefixHadRoom
had-take b count had = had-take_from (record b { entries = [] }) count b.entries had

pub take-within : PrefixIsWithin
take-within b count legal had =
    within-had (record b { entries = take count b.entries })
    (legal-take (fresh_standing b.pool) b.entries count legal) (had-take b count had)
