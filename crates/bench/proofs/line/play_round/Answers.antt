use Rattle.std.proofs.Common.{List, ◌++◌, length, ◌∙◌, All, sym, subst, ap, arith}
use Rattle.nm_region.specs.Buffers.{Buffer}
use Rattle.vale_line.specs.Fitting.{IsFrameSize}
use Rattle.vale_line.specs.Gots.{buffers_of}
use Rattle.bench.proofs.Rounds.{room-most, sizes-ones, round-granted, round-lot, round-complete, round-rest}
use Rattle.bench.proofs.line.play_round.Goals as goal

pub grant-requires-clause-sizes : goal.grant-requires-clause-sizes
grant-requires-clause-sizes c = subst (All IsFrameSize) (sym c.ones-want.ensures) (sizes-ones 64)

pub fill_all-requires-clause-ones : goal.fill_all-requires-clause-ones
fill_all-requires-clause-ones c =
    let is = round-granted c.ones-want.result c.ones-want.ensures c.args.line.now c.grant.new.self c.in-Some.lease c.args.id 0 c.in-Some.ensures.lease c.in-Some.ensures.count c.in-Some.ensures.lot in
    is.ones

pub fill_all-requires-clause-room : goal.fill_all-requires-clause-room
fill_all-requires-clause-room c =
    let is = round-granted c.ones-want.result c.ones-want.ensures c.args.line.now c.grant.new.self c.in-Some.lease c.args.id 0 c.in-Some.ensures.lease c.in-Some.ensures.count c.in-Some.ensures.lot in
    is.room

pub done-requires-clause-lot : goal.done-requires-clause-lot
done-requires-clause-lot c =
    let is = round-granted c.ones-want.result c.ones-want.ensures c.args.line.now c.grant.new.self c.in-Some.lease c.args.id 0 c.in-Some.ensures.lease c.in-Some.ensures.count c.in-Some.ensures.lot in
    round-lot c.args.line.now c.grant.new.self c.in-Some.lease c.fill_all.new.lease c.args.id c.requires.rest.no_lots is c.fill_all.ensures.id c.fill_all.ensures.count

pub sync-got-requires-clause-returned : goal.sync-got-requires-clause-returned
sync-got-requires-clause-returned c =
    let is = round-granted c.ones-want.result c.ones-want.ensures c.args.line.now c.grant.new.self c.in-Some.lease c.args.id 0 c.in-Some.ensures.lease c.in-Some.ensures.count c.in-Some.ensures.lot in
    let all = round-complete c.args.region.now c.args.line.now c.grant.new.self c.done.new.self c.args.back.items c.in-Some.lease c.fill_all.new.lease c.args.id c.requires.rest is c.fill_all.ensures.id c.fill_all.ensures.names c.done.ensures.line in
    all.is_done.returned

pub sync-got-requires-clause-room : goal.sync-got-requires-clause-room
sync-got-requires-clause-room c =
    let is = round-granted c.ones-want.result c.ones-want.ensures c.args.line.now c.grant.new.self c.in-Some.lease c.args.id 0 c.in-Some.ensures.lease c.in-Some.ensures.count c.in-Some.ensures.lot in
    let all = round-complete c.args.region.now c.args.line.now c.grant.new.self c.done.new.self c.args.back.items c.in-Some.lease c.fill_all.new.lease c.args.id c.requires.rest is c.fill_all.ensures.id c.fill_all.ensures.names c.done.ensures.line in
    let few = all.few in
    let most = room-most c.done.new.self.lots in
    let room = c.requires.gots_room in
    omega (arith, few, most, room)

pub unwrap_all-requires : goal.unwrap_all-requires
unwrap_all-requires c =
    let is = round-granted c.ones-want.result c.ones-want.ensures c.args.line.now c.grant.new.self c.in-Some.lease c.args.id 0 c.in-Some.ensures.lease c.in-Some.ensures.count c.in-Some.ensures.lot in
    let all = round-complete c.args.region.now c.args.line.now c.grant.new.self c.done.new.self c.args.back.items c.in-Some.lease c.fill_all.new.lease c.args.id c.requires.rest is c.fill_all.ensures.id c.fill_all.ensures.names c.done.ensures.line in
    let few = all.few in
    let room = c.requires.bufs_room in
    let got = ap length c.sync-got.ensures.got in
    let none = ap length c.requires.bufs in
    let size = c.args.rooms.bufs.ok.0 in
    omega (arith, few, room, got, none, size)

pub returns-clause-rest : goal.returns-clause-rest
returns-clause-rest c =
    let is = round-granted c.ones-want.result c.ones-want.ensures c.args.line.now c.grant.new.self c.in-Some.lease c.args.id 0 c.in-Some.ensures.lease c.in-Some.ensures.count c.in-Some.ensures.lot in
    let all = round-complete c.args.region.now c.args.line.now c.grant.new.self c.done.new.self c.args.back.items c.in-Some.lease c.fill_all.new.lease c.args.id c.requires.rest is c.fill_all.ensures.id c.fill_all.ensures.names c.done.ensures.line in
    round-rest c.args.region.now c.done.new.self c.sync-got.new.self c.args.back.items c.unwrap_all.new.to.items c.fill_all.new.lease c.sync-got.result.items all c.sync-got.ensures.line c.sync-got.ensures.got
    (c.unwrap_all.ensures.items ∙ ap (λ (bs : List Buffer). bs ++ buffers_of c.sync-got.result.items) c.requires.bufs)

pub returns-clause-few : goal.returns-clause-few
returns-clause-few c =
    let is = round-granted c.ones-want.result c.ones-want.ensures c.args.line.now c.grant.new.self c.in-Some.lease c.args.id 0 c.in-Some.ensures.lease c.in-Some.ensures.count c.in-Some.ensures.lot in
    let all = round-complete c.args.region.now c.args.line.now c.grant.new.self c.done.new.self c.args.back.items c.in-Some.lease c.fill_all.new.lease c.args.id c.requires.rest is c.fill_all.ensures.id c.fill_all.ensures.names c.done.ensures.line in
    let few = all.few in
    let got = ap length c.sync-got.ensures.got in
    let count = c.len-count.ensures in
    omega (arith, few, got, count)
