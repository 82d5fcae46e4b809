-- A session's pass that is cut in two, and that takes another in.
use Rattle.std.proofs.Common.{◌≡◌, sym, subst, None}
use Rattle.nm_turn.specs.Numbered.{Stands}
use Rattle.nm_turn.specs.Passes.{Knows, kept_view, joined_view}
use Rattle.nm_turn.proofs.Numbered.{merged-Stands_left}
use Rattle.vale_entry.specs.Legal.{IsLegal}
use Rattle.vale_fabric.specs.Roots.{root_of}
use Rattle.vale_fabric.specs.Fabrics.{Knowing}
use Rattle.nm_user.specs.Sessions.{SessionState, IsThere}
use Rattle.nm_user.proofs.Later.{goes-on}
use Rattle.nm_user.proofs.After.{there-later}

pub there-forked : {s : SessionState} → IsThere None s → IsThere None (record s { knows = kept_view s.knows })
there-forked {s} t = record { come = t.come; speaks = t.speaks; legal = t.legal; side = t.side; settled = t.settled }

pub there-joined : {s : SessionState} (w k : Knowing) → IsThere None s → k ≡ joined_view s.knows w → Knows root_of k.seen s.knows.seen s.knows.mine → IsLegal s.fixed.pool k.seen → IsThere None (record s { knows = k })
there-joined {s} w k t is known legal =
    let more = goes-on k.seen s.knows.seen s.knows.mine s.id known.begins known.no_root t.come t.speaks in
    there-later k more.0 t more.1.0 more.1.1 legal (subst (λ (j : Knowing). Stands s.id j.mine) (sym is) (merged-Stands_left s.id s.knows.mine w.mine t.speaks))
