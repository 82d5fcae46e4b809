use Rattle.std.proofs.Common.{◌++◌, arith}
use Rattle.vale_fields.specs.Fields.{bytes_of}
use Rattle.vale_fields.proofs.Pairs.{pairs_end}
use Rattle.vale_fields.proofs.hex.push_few.Goals as goal

pub returns : goal.returns
returns c = record { ok = pairs_end c.args.digits.now c.loop-k.bytes.items (c.args.bytes.now.items ++ bytes_of c.args.digits.now) c.loop-k.k (omega (arith, c.loop-k-test.false, c.loop-k.auto.k-end)) c.loop-k.invariant }
