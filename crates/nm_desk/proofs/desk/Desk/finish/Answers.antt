use Rattle.std.proofs.Common.{rules, ◌≡◌, ◌<◌, subst, sym, IfSome, None, refl}
use Rattle.nm_types.specs.OwnPorts.{OwnPort, port_with_id}
use Rattle.nm_types.specs.OwnSyncs.{chain_in}
use Rattle.nm_region.specs.Buffers.{indices_of}
use Rattle.nm_port.specs.Closing.{buffers_with_id}
use Rattle.nm_desk.specs.Desks.{DeskState, desk_of}
use Rattle.nm_desk.proofs.Edits.{lent, region-lent}
use Rattle.nm_desk.proofs.Leaves.{waits, finish-enabled, finished, finished-own}
use Rattle.nm_desk.proofs.desk.Desk.finish.Goals.{After-close_port}
use Rattle.nm_desk.proofs.desk.Desk.finish.Goals as goal

pub returns-then-out-gt0-clause-waits : goal.returns-then-out-gt0-clause-waits
returns-then-out-gt0-clause-waits c =
    let more : 0 < c.leases_out-out.result = search rules in
    waits c.args.book.now c.args.self.now c.args.port c.requires.desk c.requires.shut c.requires.there c.leases_out-out.result c.leases_out-out.ensures more

-- the buffers of the port, and what its chain found
bufs-are : (c : After-close_port) → indices_of c.close_port.result.0.items ≡ buffers_with_id c.args.self.now.own c.args.port.0
bufs-are c =
    subst (λ (d : DeskState). indices_of c.close_port.result.0.items ≡ buffers_with_id d.own c.args.port.0)
    (sym (lent c.self.inside c.args.self.now c.in-Some.own c.self.view_is c.in-Some.is)) c.close_port.ensures.back

chain-is : (c : After-close_port) → IfSome (port_with_id c.args.self.now.own c.args.port.0) (λ (p : OwnPort). c.close_port.result.1 ≡ chain_in c.args.self.now.own p)
chain-is c =
    subst (λ (d : DeskState). IfSome (port_with_id d.own c.args.port.0) (λ (p : OwnPort). c.close_port.result.1 ≡ chain_in d.own p))
    (sym (lent c.self.inside c.args.self.now c.in-Some.own c.self.view_is c.in-Some.is)) c.close_port.ensures.chain

pub finish-requires-clause-enabled : goal.finish-requires-clause-enabled
finish-requires-clause-enabled c =
    let at = (goal.at.finish-requires-clause-enabled c).After-close_port in
    finish-enabled c.args.book.now c.args.self.now c.args.port c.requires.desk c.requires.shut c.requires.there (indices_of c.close_port.result.0.items) c.close_port.result.1 (bufs-are at) (chain-is at)

pub finish-requires-clause-region : goal.finish-requires-clause-region
finish-requires-clause-region c =
    c.close_port.ensures.out c.args.book.now.region (region-lent c.args.book.now.region c.self.inside c.args.self.now c.in-Some.own c.self.view_is c.in-Some.is c.requires.desk.region)

pub returns-clause-finished : goal.returns-clause-finished
returns-clause-finished c =
    let at = (goal.at.returns-clause-finished c).After-close_port in
    let b = c.args.book.now in
    let i = c.self.inside in
    let d = c.args.self.now in
    let new = c.close_port.new.self in
    let bufs = indices_of c.close_port.result.0.items in
    finished b d c.args.port c.requires.desk c.requires.shut c.requires.there bufs c.close_port.result.1 (bufs-are at) (chain-is at)
    c.finish.new.self (desk_of i.id.0 None new) (record { unread = c.in-Ok.unread; chain = c.close_port.result.1 }) refl c.in-Ok.ensures.made c.in-Ok.ensures.said c.in-Ok.ensures.room
    (finished-own i d c.in-Some.own new c.args.port.0 bufs c.self.view_is c.in-Some.is c.close_port.ensures.back c.close_port.ensures.own)
    (c.close_port.ensures.region b.region (region-lent b.region i d c.in-Some.own c.self.view_is c.in-Some.is c.requires.desk.region))
