-- What a frame taught the table, a second frame with its addresses does not teach again.
use Rattle.std.proofs.Common.{List, ℕ, ◌≡◌, inl, inr, Some, refl}
use Rattle.std.proofs.lemmas.Bool.{cases_Bool}
use Rattle.std.proofs.lemmas.List.{set-set}
use Rattle.nm_types.specs.Frames.{Frame}
use Rattle.nm_types.specs.declared.id.PortId.{PortId}
use Rattle.vale_learn.specs.AddressTable.{Entries, bucket_of}
use Rattle.vale_learn.specs.declared.table.Station.{Station}
use Rattle.vale_batch.specs.Addresses.{is_learnable, source_address}
use Rattle.vale_batch.specs.Looking.{mac_of, learned_from}

pub taught_once : (from : PortId) (entries : Entries) (frame : Frame)
    → learned_from from (learned_from from entries frame) frame ≡ learned_from from entries frame
taught_once from entries frame = elim (cases_Bool (is_learnable frame)) [
  | inl learnable ↦ rw learnable
      (set-set entries (bucket_of (source_address frame)) (Some (station (source_address frame))) (Some (station (source_address frame))))
  | inr other ↦ rw other refl
]
  where
    station : List ℕ → Station
    station address = record { address = mac_of address; port = from }
