use Rattle.std.proofs.Common.{◌≤◌, take}
use Rattle.std.specs.List.{flat_map}
use Rattle.nm_io.specs.Gathered.{Gathered}
use Rattle.vale_strip.specs.Pieces.{behind, piece_text}
use Rattle.vale_strip.proofs.pieces.put_words.Given as goal

abbrev pub invariant-loop-piece : goal.invariant-loop-piece
invariant-loop-piece g l = let sink = g.K.Sink in record {
  gathered : Gathered (sink.holds l.fn.out) (sink.holds l.out) l.fn.strip l.strip (flat_map (behind 32 piece_text) (take l.piece-index l.pieces));
  later : sink.faults l.fn.out ≤ sink.faults l.out;
}
