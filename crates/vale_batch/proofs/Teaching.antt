-- What was taught can be taken back, from the last to the first.
use Rattle.std.proofs.Common.{ℕ, ◌≡◌, ◌+◌, List, [], ◌∷◌, ◌++◌, length, set, Option, Some, None, ◌∙◌, ap, sym}
use Rattle.std.specs.Prelude.{fold}
use Rattle.std.proofs.lemmas.List.{reverse-append, set-get_or}
use Rattle.nm_types.specs.Limits.{buckets}
use Rattle.nm_types.specs.declared.id.Mac.{Mac}
use Rattle.nm_types.specs.declared.id.PortId.{PortId}
use Rattle.vale_learn.specs.AddressTable.{Entries, bucket_of, entry_of, learned, port_of_address}
use Rattle.vale_learn.specs.declared.table.Station.{Station}
use Rattle.vale_learn.proofs.TableLaws.{found_where_held, restoring_undoes_learning}
use Rattle.vale_batch.specs.declared.looking.Taught.{Taught}
use Rattle.vale_batch.specs.Looking.{untaught, untaught_all}

-- the last of what was taught is taken back first
pub untaught-last : (entries : Entries) (taughts : List Taught) (taught : Taught) → untaught_all entries (taughts ++ taught ∷ []) ≡ untaught_all (untaught entries taught) taughts
untaught-last entries taughts taught = ap (λ (ts : List Taught). fold untaught entries ts) (reverse-append taughts (taught ∷ []))

pub untaught-learned : (entries : Entries) (taughts : List Taught) (address : Mac) (port : PortId) → length entries ≡ buckets
    → untaught_all (learned entries address port) (taughts ++ record { address = address; before = entry_of entries address.0 } ∷ []) ≡ untaught_all entries taughts
untaught-learned entries taughts address port size =
    untaught-last (learned entries address port) taughts (record { address = address; before = entry_of entries address.0 })
    ∙ ap (λ (es : Entries). untaught_all es taughts) (restoring_undoes_learning entries address port size)

pub same-port : (port other : PortId) → port.0 ≡ other.0 → port ≡ other
same-port port other same = ap (λ (n : ℕ). numbered n) same
  where
    numbered : ℕ → PortId
    numbered n = record { 0 = n }

-- what is known of an address is not changed by learning it again
pub known-learned : (entries : Entries) (address : Mac) (port : PortId) → port_of_address entries address.0 ≡ Some port → learned entries address port ≡ entries
known-learned entries address port found =
    let held : entry_of entries address.0 ≡ Some (record { address = address; port = port }) = (found_where_held entries address port).0 found in
    ap (λ (seen : Option Station). set entries (bucket_of address.0) seen) (sym held) ∙ set-get_or entries (bucket_of address.0) None

pub ruleset teaching = (untaught-last, untaught-learned)
