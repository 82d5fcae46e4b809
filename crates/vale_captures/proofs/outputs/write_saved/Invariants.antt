use Rattle.std.proofs.Common.{◌≤◌, ℕ, List, take}
use Rattle.pcap_io.specs.Written.{capture_text}
use Rattle.vale_captures.proofs.Pages.{HasGone}
use Rattle.vale_captures.proofs.outputs.write_saved.Given as goal

abbrev pub invariant-loop-item : goal.invariant-loop-item
invariant-loop-item g l = let shelf = g.S.Shelf in record {
  gone : HasGone (shelf.files l.fn.shelf) (shelf.files l.shelf) l.name (capture_text (take l.item-index l.records)) l.page.bytes.items;
  reads_later : (other : List ℕ) → shelf.read_faults l.fn.shelf other ≤ shelf.read_faults l.shelf other;
  appends_later : (other : List ℕ) → shelf.append_faults l.fn.shelf other ≤ shelf.append_faults l.shelf other;
}
