use Rattle.std.proofs.Common.{◌≡◌, ◌<◌, ◌-◌, ◌^◌, length, drop}
use Rattle.vale_script.specs.Keys.{packed}
use Rattle.vale_script.proofs.keys.packed_few.Given as goal

abbrev pub invariant-loop-i : goal.invariant-loop-i
invariant-loop-i l = record {
  value : l.number ≡ packed (drop (length l.word - l.i) l.word);
  small : l.number < 256 ^ l.i;
}
