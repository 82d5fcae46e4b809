use Rattle.std.proofs.Common.{◌≡◌, ◌+◌, length, decimal, drop, replicate, arith, rules}
use Rattle.std.proofs.lemmas.Fmt.{length-decimal-le}
use Rattle.vale_strip.proofs.Places.{placed-number}
use Rattle.vale_strip.proofs.numerals.place_long.Goals as goal

pub write_digits-start-requires : goal.write_digits-start-requires
write_digits-start-requires c = search (rules, length-decimal-le 20)

pub returns : goal.returns
returns c =
    let n = c.args.number in
    let start = c.write_digits-start.result in
    let ys = c.write_digits-start.new.buf in
    let whole : start + length (decimal n) ≡ 20 = c.write_digits-start.ensures.start in
    record {
      placed = placed-number c.args.buf.now ys (decimal n) (drop 20 (replicate 40 0)) c.args.at start whole c.write_digits-start.auto.buf c.write_digits-start.ensures.written c.requires;
      within = omega arith;
    }
