use Rattle.std.proofs.Common.{ℕ, ◌≡◌, ◌==◌, ◌∙◌, ap, sym, true, false}
use Rattle.vale_port.specs.Ports.{is_state_of}
use Rattle.vale_port.proofs.ByRisingIds.{bears-id, found-by, missed-here, missed-past}
use Rattle.vale_port.proofs.ports.place_by_halves.Goals as goal
use Rattle.vale_port.proofs.ports.place_by_halves.Goals.{else-at-ports-via-then-at-ports+else-eq, else-at-ports-via-else-at-ports}

pub returns-then-eq : goal.returns-then-eq
returns-then-eq c =
    let id = c.args.id.0 in
    let passes : is_state_of id c.index-ports-at.result ≡ true = ap (λ (n : ℕ). n == id) (sym c.id.ensures) ∙ (sym c.eq.ensures ∙ c.if-eq.true) in
    found-by id (is_state_of id) (bears-id id) c.args.ports.now c.index-ports-at.result c.rank_of-at.result c.rank_of-at.ensures.rank c.if-at-ports.true c.index-ports-at.is passes

pub returns-else-at-ports : goal.returns-else-at-ports
returns-else-at-ports c =
    let id = c.args.id.0 in
    elim c.else-at-ports.branch [
      | else-at-ports-via-then-at-ports+else-eq w ↦
          let fails : is_state_of id w.index-ports-at.result ≡ false = ap (λ (n : ℕ). n == id) (sym w.id.ensures) ∙ (sym w.eq.ensures ∙ w.if-eq.false) in
          missed-here id (is_state_of id) (bears-id id) c.args.ports.now w.index-ports-at.result c.rank_of-at.result c.requires c.rank_of-at.ensures.rank w.index-ports-at.is fails
      | else-at-ports-via-else-at-ports w ↦
          missed-past id (is_state_of id) (bears-id id) c.args.ports.now c.rank_of-at.result c.requires c.rank_of-at.ensures.rank w.if-at-ports.false
    ]
