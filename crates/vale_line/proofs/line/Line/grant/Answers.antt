use Rattle.std.proofs.Common.{◌≡◌, ◌≤◌, List, [], ◌∷◌, ◌++◌, ap, subst, sym, ◌∙◌, length, map, take, ℕ, false, arith, rules, refl}
use Rattle.std.specs.Prelude.{sum}
use Rattle.nm_region.specs.Buffers.{Buffer}
use Rattle.std.proofs.lemmas.List.Elements.{All-take}
use Rattle.vale_line.specs.Fitting.{IsFrameSize, fitting_sizes}
use Rattle.vale_line.proofs.FittingLemmas.{fitting-sum, fitting-total, fitting-count}
use Rattle.std.proofs.lemmas.List.{length-map, length-take-le}
use Rattle.vale_lease.specs.declared.leases.LeaseSlots.{LeaseSlots}
use Rattle.vale_lease.specs.Leases.{LeaseRing, is_there, slots_of as ring_slots}
use Rattle.vale_line.specs.declared.got.Got.{Got}
use Rattle.vale_line.specs.Gots.{blank, buffers_of}
use Rattle.vale_line.specs.Leased.{Leased, buffer_count}
use Rattle.vale_line.specs.Lines.{LineState, IsLine, with_lease, granted_sizes, space_of, opened_lot, leases_of, lease_of}
use Rattle.vale_line.specs.Stored.{state_of}
use Rattle.vale_line.proofs.StoredAfter.{stored-after}
use Rattle.vale_line.proofs.LotLemmas.{leased-slots, IsLine-granted, leases_of-push}
use Rattle.vale_line.proofs.RingLemmas.{few-held}
use Rattle.vale_line.proofs.Moving.{buffers-blank}
use Rattle.vale_line.proofs.line.Line.grant.Goals as goal

abbrev lease_of_buffers : ℕ → ℕ → List ℕ → List Buffer → Leased
lease_of_buffers id to sizes bufs = record { id = id; to = to; filled = []; sizes = sizes; empty = bufs }

sizes-some : (sizes : List ℕ) → 1 ≤ sum sizes → 1 ≤ length sizes
sizes-some [] h = h
sizes-some (size ∷ sizes) h = omega arith

-- what is leased of a line that was settled first
blanks-settled : {now was : LineState} (n : ℕ) (gots : List Got) → now ≡ was → gots ≡ map blank (take n now.idle) → gots ≡ map blank (take n was.idle)
blanks-settled n gots same is = subst (λ (l : LineState). gots ≡ map blank (take n l.idle)) same is

pub lease-gots-requires-clause-lots : goal.lease-gots-requires-clause-lots
lease-gots-requires-clause-lots c = few-held c.settle.new.self (subst IsLine (sym c.settle.ensures.line) c.self.invariant.line)

-- which frames are granted, and how many buffers they take
pub record Granting (c : goal.After-new) : Type 0 where
  pub sizes : take c.fitting-frames.result.0 c.args.want.now ≡ granted_sizes c.args.want.now (state_of c.self.inside)
  pub count : c.fitting-frames.result.1 ≡ sum (granted_sizes c.args.want.now (state_of c.self.inside))
  pub some : 1 ≤ c.fitting-frames.result.1
  pub fits : c.fitting-frames.result.1 ≤ space_of (state_of c.self.inside)

granting : (c : goal.After-new) → Granting c
granting c =
    let line = state_of c.self.inside in
    let n = c.fitting-frames.result.1 in
    let space : c.space.result ≡ space_of line = c.space.ensures.space ∙ ap space_of (sym c.self.view_is) in
    let sizes : take c.fitting-frames.result.0 c.args.want.now ≡ granted_sizes c.args.want.now line = c.fitting-frames.ensures.sizes ∙ ap (λ (k : ℕ). fitting_sizes k c.args.want.now) space in
    let count : n ≡ sum (granted_sizes c.args.want.now line) = c.fitting-frames.ensures.sum ∙ ap (λ (k : ℕ). sum (fitting_sizes k c.args.want.now)) space in
    let most = fitting-sum (space_of line) c.args.want.now in
    let some : 1 ≤ n = search (rules, arith) in
    record { sizes = sizes; count = count; some = some; fits = omega (arith, count, most) }

pub invariant_of-self : goal.invariant_of-self
invariant_of-self c =
    let line = state_of c.self.inside in
    let n = c.fitting-frames.result.1 in
    let g = granting c in
    let fresh : is_there c.args.id.0 (leases_of line.lots) ≡ false = ap (λ (l : LineState). is_there c.args.id.0 (leases_of l.lots)) c.self.view_is ∙ c.requires.new in
    let is = IsLine-granted line c.args.id n c.self.invariant.line g.some g.fits fresh in
    stored-after c.self.inside (record c.self.inside { ring = c.lease-gots.new.self; leases = c.open.new.self; room = c.settle.new.room }) (with_lease c.args.id n line) c.self.invariant is c.lease-gots.ensures.ring (c.lease-gots.ensures.line ∙ ap (with_lease c.args.id n) c.settle.ensures.line) refl refl
    (c.open.ensures
    ∙ (ap (λ (r : LeaseRing). record r { leases = r.leases ++ lease_of (opened_lot c.args.id n) ∷ [] }) c.self.invariant.leases
    ∙ ap (λ (ls : List LeaseSlots). record { size = line.size; leases = ls }) (sym (leases_of-push line.lots (opened_lot c.args.id n)))))
    c.settle.ensures.none c.settle.ensures.capacity

pub returns-clause-some : goal.returns-clause-some
returns-clause-some c =
    let g = granting c in
    let some = sizes-some (granted_sizes c.args.want.now (state_of c.self.inside)) in
    let count = g.count in
    let is = g.some in
    rw (← c.self.view_is) (some (omega (arith, count, is)))

pub returns-clause-lease : goal.returns-clause-lease
returns-clause-lease c =
    let line = state_of c.self.inside in
    let n = c.fitting-frames.result.1 in
    let g = granting c in
    let lent : buffers_of c.lease-gots.result.items ≡ take n line.idle = ap buffers_of (blanks-settled c.fitting-frames.result.1 c.lease-gots.result.items c.settle.ensures.line c.lease-gots.ensures.gots) ∙ buffers-blank (take n line.idle) in
    let start = lease_of_buffers c.args.id.0 c.args.to.0 in
    rw (← c.self.view_is) (c.new.ensures
    ∙ (ap (λ (bs : List Buffer). start (take c.fitting-frames.result.0 c.args.want.now) bs) lent
    ∙ (ap (λ (k : ℕ). start (take c.fitting-frames.result.0 c.args.want.now) (take k line.idle)) g.count
    ∙ ap (λ (ns : List ℕ). start ns (take (sum (granted_sizes c.args.want.now line)) line.idle)) g.sizes)))

pub returns-clause-lot : goal.returns-clause-lot
returns-clause-lot c =
    let g = granting c in
    rw (← c.self.view_is) (c.lease-gots.ensures.line ∙ ap (with_lease c.args.id c.fitting-frames.result.1) c.settle.ensures.line ∙ ap (λ (k : ℕ). with_lease c.args.id k (state_of c.self.inside)) g.count)

none-left : (sizes : List ℕ) → length sizes ≤ 0 → sizes ≡ []
none-left [] h = refl
none-left (size ∷ sizes) h = absurd (omega (arith, h))

pub returns-then-count-eq0-clause-none : goal.returns-then-count-eq0-clause-none
returns-then-count-eq0-clause-none c =
    let want = c.args.want.now in
    let few = fitting-count c.space.result want c.requires.sizes in
    let none = c.if-count-eq0.true in
    let count = c.fitting-frames.ensures.sum in
    let all = none-left (fitting_sizes c.space.result want) (omega (arith, few, none, count)) in
    let space : c.space.result ≡ space_of c.args.self.now = c.space.ensures.space in
    (ap (λ (k : ℕ). fitting_sizes k want) (sym space) ∙ all, refl)

pub open-requires-clause-room : goal.open-requires-clause-room
open-requires-clause-room c =
    let line = state_of c.self.inside in
    let most = fitting-sum c.space.result c.args.want.now in
    let count = c.fitting-frames.ensures.sum in
    let space : c.space.result ≡ space_of line = c.space.ensures.space ∙ ap space_of (sym c.self.view_is) in
    let slots = ap (λ (r : LeaseRing). ring_slots r.leases) c.self.invariant.leases ∙ leased-slots line.lots in
    let size = ap (λ (r : LeaseRing). r.size) c.self.invariant.leases in
    let within = c.self.invariant.line.within in
    let some = c.self.invariant.line.some in
    omega (arith, most, count, space, slots, size, within, some)

pub lease-gots-requires-clause-gots_room : goal.lease-gots-requires-clause-gots_room
lease-gots-requires-clause-gots_room c =
    let line = state_of c.self.inside in
    let most = fitting-sum c.space.result c.args.want.now in
    let total = fitting-total c.space.result c.args.want.now in
    let count = c.fitting-frames.ensures.sum in
    let space : c.space.result ≡ space_of line = c.space.ensures.space ∙ ap space_of (sym c.self.view_is) in
    let size : line.size ≡ c.args.self.now.size = ap (λ (l : LineState). l.size) c.self.view_is in
    let within = c.self.invariant.line.within in
    let room = c.requires.room in
    let gots = c.into_vec-gots.ensures.room in
    omega (arith, most, total, count, space, size, within, room, gots)

pub lease-gots-requires-clause-enough : goal.lease-gots-requires-clause-enough
lease-gots-requires-clause-enough c =
    let most = fitting-sum c.space.result c.args.want.now in
    let count = c.fitting-frames.ensures.sum in
    let space : c.space.result ≡ space_of (state_of c.self.inside) = c.space.ensures.space ∙ ap space_of (sym c.self.view_is) in
    let idle = ap (λ (l : LineState). length l.idle) c.settle.ensures.line in
    omega (arith, most, count, space, idle)

pub new-requires-clause-few_frames : goal.new-requires-clause-few_frames
new-requires-clause-few_frames c =
    let line = state_of c.self.inside in
    let frames = fitting-count c.space.result c.args.want.now c.requires.sizes in
    let most = fitting-sum c.space.result c.args.want.now in
    let sizes = ap length c.fitting-frames.ensures.sizes in
    let space : c.space.result ≡ space_of line = c.space.ensures.space ∙ ap space_of (sym c.self.view_is) in
    let few = c.self.invariant.line.few in
    let within = c.self.invariant.line.within in
    omega (arith, frames, most, sizes, space, few, within)

pub new-requires-clause-room : goal.new-requires-clause-room
new-requires-clause-room c =
    let idle = (state_of c.self.inside).idle in
    let n = c.fitting-frames.result.1 in
    let most = fitting-sum c.space.result c.args.want.now in
    let sum_is = ap sum c.fitting-frames.ensures.sizes in
    let count = c.fitting-frames.ensures.sum in
    let space : c.space.result ≡ space_of (state_of c.self.inside) = c.space.ensures.space ∙ ap space_of (sym c.self.view_is) in
    let enough : n ≤ length idle = omega (arith, most, count, space) in
    let blanks = ap length (blanks-settled c.fitting-frames.result.1 c.lease-gots.result.items c.settle.ensures.line c.lease-gots.ensures.gots) ∙ (length-map (take n idle) blank ∙ length-take-le n idle enough) in
    omega (arith, sum_is, count, blanks)

pub new-requires-clause-blank : goal.new-requires-clause-blank
new-requires-clause-blank c =
    let bufs = take c.fitting-frames.result.1 (state_of c.self.inside).idle in
    let is = blanks-settled c.fitting-frames.result.1 c.lease-gots.result.items c.settle.ensures.line c.lease-gots.ensures.gots in
    is ∙ ap (λ (bs : List Buffer). map blank bs) (sym (ap buffers_of is ∙ buffers-blank bufs))

pub new-requires-clause-sizes : goal.new-requires-clause-sizes
new-requires-clause-sizes c = All-take IsFrameSize c.fitting-frames.result.0 c.args.want.now c.requires.sizes

pub returns-clause-count : goal.returns-clause-count
returns-clause-count c =
    let line = c.args.self.now in
    let sizes = granted_sizes c.args.want.now line in
    let most = fitting-sum (space_of line) c.args.want.now in
    let taken = length-take-le (sum sizes) line.idle (omega (arith, most)) in
    ap buffer_count (returns-clause-lease c) ∙ omega (arith, taken)

pub new-requires-clause-within : goal.new-requires-clause-within
new-requires-clause-within c = c.fitting-frames.ensures.within
