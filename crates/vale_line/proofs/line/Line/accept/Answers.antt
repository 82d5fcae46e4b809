use Rattle.std.proofs.Common.{◌≡◌, ◌≤◌, List, [], ◌∷◌, ◌++◌, Vec, Global, ap, refl, sym, ◌∙◌, subst, length, map, false, arith, rules}
use Rattle.vale_lease.specs.declared.leases.LeaseSlots.{LeaseSlots}
use Rattle.vale_lease.specs.Leases.{LeaseRing, is_there, completed as ring_completed}
use Rattle.vale_line.specs.declared.got.Got.{Got}
use Rattle.vale_line.specs.Lines.{LineState, out_of, opened_lot, put_lot, leases_of, lease_of}
use Rattle.vale_line.specs.Stored.{state_of}
use Rattle.vale_line.proofs.StoredAfter.{stored-after}
use Rattle.vale_line.proofs.CutLemmas.{cut-singles}
use Rattle.vale_line.proofs.LotLemmas.{IsLine-put, leases_of-push, leases-completed, opened-done}
use Rattle.vale_line.proofs.RingLemmas.{few-held}
use Rattle.vale_line.proofs.line.Line.accept.Goals as goal

pub accept-requires-clause-lots : goal.accept-requires-clause-lots
accept-requires-clause-lots c = few-held c.self.inside.ring c.self.invariant.line

pub invariant_of-self : goal.invariant_of-self
invariant_of-self c =
    let line = state_of c.self.inside in
    let id = c.args.id in
    let gots = c.args.frames.now.items in
    let own : c.replace-gots.result.items ≡ gots = ap (λ (v : Vec Got Global). v.items) c.replace-gots.ensures.value in
    let n = length gots in
    let some : 1 ≤ n = search (rules, arith) in
    let few : n ≤ out_of line = subst (λ (l : LineState). n ≤ out_of l) (sym c.self.view_is) c.requires.lent in
    let fresh : is_there id.0 (leases_of line.lots) ≡ false = ap (λ (l : LineState). is_there id.0 (leases_of l.lots)) c.self.view_is ∙ c.requires.new in
    let is = IsLine-put line id gots (cut-singles gots c.requires.single c.requires.fits) c.self.invariant.line some few fresh in
    let put : LineState = record line { lots = line.lots ++ put_lot id gots ∷ [] } in
    let after : state_of (record c.self.inside { ring = c.accept.new.self }) ≡ put = c.accept.ensures.line ∙ ap (λ (gs : List Got). record line { lots = line.lots ++ put_lot id gs ∷ [] }) own in
    let count : c.len.result ≡ n = search rules in
    let opened : c.open.new.self ≡ record { size = line.size; leases = leases_of line.lots ++ lease_of (opened_lot id n) ∷ [] } =
    rw (← count) (c.open.ensures ∙ ap (λ (r : LeaseRing). record r { leases = r.leases ++ lease_of (opened_lot id c.len.result) ∷ [] }) c.self.invariant.leases) in
    let whole : map (ring_completed id.0) (leases_of line.lots ++ lease_of (opened_lot id n) ∷ []) ≡ leases_of put.lots =
    ap (map (ring_completed id.0)) (sym (leases_of-push line.lots (opened_lot id n)))
    ∙ (sym (leases-completed id.0 gots (line.lots ++ opened_lot id n ∷ []))
    ∙ ap leases_of (opened-done id gots line.lots fresh)) in
    stored-after c.self.inside (record c.self.inside { ring = c.accept.new.self; leases = c.done.new.self; room = c.accept.new.room }) put c.self.invariant is c.accept.ensures.ring after refl refl
    (c.done.ensures ∙ (ap (λ (r : LeaseRing). record r { leases = map (ring_completed id.0) r.leases }) opened ∙ ap (λ (ls : List LeaseSlots). record { size = line.size; leases = ls }) whole))
    c.accept.ensures.none c.accept.ensures.capacity
