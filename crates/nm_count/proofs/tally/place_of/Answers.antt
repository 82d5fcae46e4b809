use Rattle.std.proofs.Common.{◌≡◌, ◌∙◌, sym, false, get_or, arith}
use Rattle.nm_count.specs.Tallies.{is_port}
use Rattle.nm_count.proofs.TallyLemmas.{blank, place_none}
use Rattle.nm_count.proofs.tally.place_of.Goals as goal
use Rattle.nm_count.proofs.tally.place_of.Goals.{else-at-ports-via-then-at-ports+else-eq, else-at-ports-via-else-at-ports}

pub returns-else-at-ports : goal.returns-else-at-ports
returns-else-at-ports c =
    let ports = c.args.ports.now in
    let port = c.args.port.0 in
    let rank = c.rank_of-at.ensures.rank in
    elim c.else-at-ports.branch [
      | else-at-ports-via-then-at-ports+else-eq w ↦
          let other : is_port port (get_or ports c.rank_of-at.result blank) ≡ false = sym w.eq.ensures ∙ w.if-eq.false in
          let at_rank = rw rank at other in
          sym (place_none port ports blank c.requires (λ _. at_rank))
      | else-at-ports-via-else-at-ports w ↦
          let past = w.if-at-ports.false in
          sym (place_none port ports blank c.requires (λ reach. absurd (omega arith)))
    ]
