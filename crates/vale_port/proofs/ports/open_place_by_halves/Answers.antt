use Rattle.std.proofs.Common.{◌≡◌, ◌∙◌, sym, true, false}
use Rattle.vale_port.specs.Ports.{is_open_state}
use Rattle.vale_port.proofs.ByRisingIds.{open-bears, found-by, missed-here, missed-past}
use Rattle.vale_port.proofs.ports.open_place_by_halves.Goals as goal
use Rattle.vale_port.proofs.ports.open_place_by_halves.Goals.{else-at-ports-via-then-at-ports+else-is_open_at, else-at-ports-via-else-at-ports}

pub returns-then-is_open_at : goal.returns-then-is_open_at
returns-then-is_open_at c =
    let id = c.args.id.0 in
    let passes : is_open_state id c.index-ports-at.result ≡ true = sym c.is_open_at.ensures ∙ c.if-is_open_at.true in
    found-by id (is_open_state id) (open-bears id) c.args.ports.now c.index-ports-at.result c.rank_of-at.result c.rank_of-at.ensures.rank c.if-at-ports.true c.index-ports-at.is passes

pub returns-else-at-ports : goal.returns-else-at-ports
returns-else-at-ports c =
    let id = c.args.id.0 in
    elim c.else-at-ports.branch [
      | else-at-ports-via-then-at-ports+else-is_open_at w ↦
          let fails : is_open_state id w.index-ports-at.result ≡ false = sym w.is_open_at.ensures ∙ w.if-is_open_at.false in
          missed-here id (is_open_state id) (open-bears id) c.args.ports.now w.index-ports-at.result c.rank_of-at.result c.requires c.rank_of-at.ensures.rank w.index-ports-at.is fails
      | else-at-ports-via-else-at-ports w ↦
          missed-past id (is_open_state id) (open-bears id) c.args.ports.now c.rank_of-at.result c.requires c.rank_of-at.ensures.rank w.if-at-ports.false
    ]
