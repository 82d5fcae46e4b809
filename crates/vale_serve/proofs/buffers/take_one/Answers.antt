use Rattle.std.proofs.Common.{◌≡◌, get_or, sym, ◌∙◌, rules}
use Rattle.vale_serve.specs.Buffers.{is_buffer}
use Rattle.vale_serve.proofs.Places.{none-passes}
use Rattle.vale_serve.proofs.Taking.{taken-one}
use Rattle.vale_serve.proofs.buffers.take_one.Goals as goal

pub unreachable-requires : goal.unreachable-requires
unreachable-requires c =
    let off = none-passes (is_buffer c.args.index) c.args.bufs.now.items (rw c.deref.ensures.value at (sym c.place_of.ensures ∙ c.in_default.is)) in
    let on = c.requires in
    absurd cc

pub returns-clause-taken : goal.returns-clause-taken
returns-clause-taken c =
    let buf = c.remove.result in
    let is : buf ≡ get_or c.args.bufs.now.items c.in-Some.place buf = search rules in
    taken-one c.args.bufs.now.items c.remove.new.self.items c.args.index c.in-Some.place buf (rw c.deref.ensures.value at (sym c.place_of.ensures ∙ c.in-Some.is)) is c.remove.ensures.items
