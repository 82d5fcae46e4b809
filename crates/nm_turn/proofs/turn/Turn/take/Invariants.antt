use Rattle.std.proofs.Common.{◌≡◌}
use Rattle.nm_turn.proofs.turn.Turn.take.Given as goal

abbrev pub invariant-loop : goal.invariant-loop
invariant-loop g l = record {
  same_table : l.pass.seat.table_id ≡ l.initial.pass.seat.table_id;
  same_seat : l.pass.seat.id ≡ l.initial.pass.seat.id;
  same_view : l.pass.seat.me ≡ l.initial.pass.seat.me;
}
