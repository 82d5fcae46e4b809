-- The calls of a port, over plain values.
use Rattle.std.proofs.Common.{ℕ, ◌≡◌, ◌+◌, ◌-◌, ◌≤◌, List, [], ◌∷◌, ◌++◌, length, take, drop, min, Option, Some, None, refl, sym, ◌∙◌, ap, subst, arith}
use Rattle.std.specs.Prelude.{All, sum, IfSome, IfNone}
use Rattle.std.proofs.lemmas.List.Elements.{All-take}
use Rattle.std.proofs.lemmas.List.{length-append, length-map, length-take-le}
use Rattle.nm_types.specs.declared.id.LeaseId.{LeaseId}
use Rattle.nm_types.specs.Frames.{Frame, slots_of, size_of_frames}
use Rattle.nm_region.specs.Buffers.{Buffer, indices_of}
use Rattle.vale_line.specs.declared.got.Got.{Got}
use Rattle.vale_line.specs.Gots.{FitsPart, IsSingle, frames_in, buffers_of}
use Rattle.vale_line.specs.Leased.{Leased, buffer_count}
use Rattle.vale_line.specs.Lines.{LineState, IsLine, with_lease, leased, granted_sizes, given_by_sync, out_of, ready_gots, with_put}
use Rattle.vale_line.specs.Lines.{space_of as line_space}
use Rattle.vale_line.proofs.LotLemmas.{slots-parts, length-ready}
use Rattle.vale_entry.specs.World.{Offer, space_of}
use Rattle.vale_entry.specs.Delivery.{delivered_frames}
use Rattle.vale_port.specs.Kept.{bytes_of}
use Rattle.vale_port.specs.Laws.{line_after_put}
use Rattle.vale_port.specs.Ports.{PortState, IsSeatOf, IsLeaseFor, sizes_of}
use Rattle.vale_port.specs.Seat.{Seat, given_frames, seat_given, seat_put}
use Rattle.vale_port.proofs.LineTies.{given-lots, ties-line, indices-take}
use Rattle.vale_port.proofs.SeatTies.{sizes_are_sizes, grant_is_grant, no_grant_is_none, put_is_put, space_is_space, idle-seat, sum-sizes}

pub IfSome-weaker : {X : Type 0} {P Q : X → Type 0} (o : Option X) → ((x : X) → P x → Q x) → IfSome o P → IfSome o Q
IfSome-weaker None f h = h
IfSome-weaker (Some x) f h = f x h

pub ready-seat : (seat : Seat) (p : PortState) → IsSeatOf seat p → IsLine p.line → length (ready_gots p.line.lots) ≡ size_of_frames (delivered_frames seat.port)
ready-seat seat p is line =
    length-ready p.line.lots line.lots ∙ (given-lots p.line.lots seat.port.line seat.held.lots (ties-line seat.port seat.held p.line is.line)).slots

-- A grant: what the line answers for the sizes of an offer's frames.

none-of : (frames : List Frame) → sizes_of frames ≡ [] → frames ≡ []
none-of [] e = refl
none-of (f ∷ fs) e = absurd cc

pub record Granting (seat : Seat) (p : PortState) (offer : Offer) (want : List ℕ) : Type 0 where
  pub sizes : granted_sizes want p.line ≡ sizes_of (given_frames offer seat)
  pub total : sum (granted_sizes want p.line) ≡ size_of_frames (given_frames offer seat)
  pub count : length (granted_sizes want p.line) ≡ length (given_frames offer seat)

granting : (seat : Seat) (p : PortState) (offer : Offer) (want : List ℕ) → IsSeatOf seat p → IsLine p.line → want ≡ sizes_of offer.frames → Granting seat p offer want
granting seat p offer want is line same =
    let sizes : granted_sizes want p.line ≡ sizes_of (given_frames offer seat) = ap (λ (ns : List ℕ). granted_sizes ns p.line) same ∙ sizes_are_sizes seat p offer is line in
    record {
      sizes = sizes;
      total = ap sum sizes ∙ sum-sizes (given_frames offer seat);
      count = ap length sizes ∙ length-map (given_frames offer seat) slots_of;
    }

-- nothing is given exactly where the line gives nothing
pub none-given : (seat : Seat) (p : PortState) (offer : Offer) (want : List ℕ) → IsSeatOf seat p → IsLine p.line → want ≡ sizes_of offer.frames
    → granted_sizes want p.line ≡ [] → given_frames offer seat ≡ []
none-given seat p offer want is line same none = none-of (given_frames offer seat) (sym (granting seat p offer want is line same).sizes ∙ none)

pub lease-given : (seat : Seat) (p : PortState) (id : LeaseId) (offer : Offer) (want : List ℕ) (lease : Leased) → IsSeatOf seat p → IsLine p.line → want ≡ sizes_of offer.frames
    → 1 ≤ length (granted_sizes want p.line) → lease ≡ leased id p.id (granted_sizes want p.line) p.line → buffer_count lease ≡ sum (granted_sizes want p.line)
    → IsLeaseFor id.0 offer seat lease
lease-given seat p id offer want lease is line same some made slots =
    let g = granting seat p offer want is line same in
    let count = g.count in
    record {
      id = ap (λ (l : Leased). l.id) made;
      to = ap (λ (l : Leased). l.to) made ∙ is.id;
      filled = ap (λ (l : Leased). l.filled) made;
      sizes = ap (λ (l : Leased). l.sizes) made ∙ g.sizes;
      buffers =
          ap (λ (l : Leased). indices_of l.empty) made
          ∙ (indices-take (sum (granted_sizes want p.line)) p.line.idle
          ∙ (ap (λ (is : List ℕ). take (sum (granted_sizes want p.line)) is) (idle-seat seat p is) ∙ ap (λ (n : ℕ). take n seat.held.idle) g.total));
      slots = slots ∙ g.total;
      some = omega (arith, some, count);
    }

-- the port after a grant, whether it gave a lease or not
abbrev GivesNone : PortState → List ℕ → LineState → Type 0
GivesNone p want line = (granted_sizes want p.line ≡ []) × (line ≡ p.line)

pub seat-granted : (seat : Seat) (p : PortState) (id : LeaseId) (offer : Offer) (want : List ℕ) (line : LineState) (r : Option Leased) → IsSeatOf seat p → IsLine p.line → want ≡ sizes_of offer.frames
    → IfNone r (GivesNone p want line) → IfSome r (λ (lease : Leased). 1 ≤ length (granted_sizes want p.line))
    → IfSome r (λ (lease : Leased). line ≡ with_lease id (sum (granted_sizes want p.line)) p.line)
    → IsSeatOf (seat_given id.0 offer seat) (record p { line = line })
seat-granted seat p id offer want line None is kept same none some made =
    let nothing = none-given seat p offer want is kept same none.0 in
    subst (λ (s : Seat). IsSeatOf s (record p { line = line })) (sym (no_grant_is_none seat id.0 offer nothing))
    (subst (λ (l : LineState). IsSeatOf seat (record p { line = l })) (sym none.1) is)
seat-granted seat p id offer want line (Some lease) is kept same none some made =
    let g = granting seat p offer want is kept same in
    let count = g.count in
    let next = grant_is_grant seat p id offer is kept (omega (arith, some, count)) in
    subst (λ (l : LineState). IsSeatOf (seat_given id.0 offer seat) (record p { line = l }))
    (ap (λ (n : ℕ). with_lease id n p.line) (sym g.total) ∙ sym made) next

-- A sync: how many buffers are out after it.
pub out-synced : (line : LineState) (back : List Buffer) → IsLine line → length back ≤ out_of line
    → out_of line + length (ready_gots line.lots) - length back ≡ out_of (given_by_sync back line)
out-synced line back is few =
    let all : length (line.idle ++ back) ≡ length line.idle + length back = length-append line.idle back in
    let parts = slots-parts line.lots in
    let ready = length-ready line.lots is.lots in
    let within = is.within in
    omega (arith, all, parts, ready, within, few)

-- A put: so many buffers were handed out, and as many frames taken
pub record Taking (p : PortState) (pending : List Got) (count n : ℕ) (back : List Buffer) (taken : List Got) : Type 0 where
  pub count_is : count ≡ n
  pub least : n ≡ min (length pending) (line_space p.line)
  pub back_is : back ≡ take n p.line.idle
  pub taken_is : taken ≡ take n pending
  pub as_many : length (take n pending) ≡ n

pub taking : (p : PortState) (pending : List Got) (count : ℕ) (back : List Buffer) (taken : List Got) → IsLine p.line → count ≡ min (length pending) (line_space p.line)
    → back ≡ take count p.line.idle → taken ≡ take (length back) pending → Taking p pending count (length back) back taken
taking p pending count back taken line least lent took =
    let some = line.some in
    let within : count ≤ length p.line.idle = omega (arith, least, some) in
    let number : length back ≡ count = ap length lent ∙ length-take-le count p.line.idle within in
    record {
      count_is = sym number;
      least = number ∙ least;
      back_is = lent ∙ ap (λ (n : ℕ). take n p.line.idle) (sym number);
      taken_is = took;
      as_many = length-take-le (length back) pending (omega (arith, number, least));
    }

pub line-taken : (p : PortState) (id : LeaseId) (pending : List Got) (count n : ℕ) (back : List Buffer) (taken : List Got) (line : LineState)
    → Taking p pending count n back taken → line ≡ with_put id taken (record p.line { idle = drop count p.line.idle }) → line ≡ line_after_put id (take n pending) p.line
line-taken p id pending count n back taken line takes made =
    made
    ∙ (ap (λ (gots : List Got). with_put id gots (record p.line { idle = drop count p.line.idle })) takes.taken_is
    ∙ ap (λ (k : ℕ). with_put id (take n pending) (record p.line { idle = drop k p.line.idle })) (takes.count_is ∙ sym takes.as_many))

pub seat-taken : (seat : Seat) (p : PortState) (id : LeaseId) (session : ℕ) (frames : List Frame) (pending : List Got) (count n : ℕ) (back : List Buffer) (taken : List Got) (line : LineState)
    → IsSeatOf seat p → IsLine p.line → All IsSingle pending → All FitsPart pending → Taking p pending count n back taken → line ≡ line_after_put id (take n pending) p.line
    → bytes_of frames ≡ frames_in (take n pending)
    → IsSeatOf (seat_put id.0 session frames (indices_of (buffers_of (take n pending))) seat) (record p { line = line })
seat-taken seat p id session frames pending count n back taken line is kept single fit takes made bytes =
    let many = takes.as_many in
    let least = takes.least in
    let next = put_is_put seat p id session frames (take n pending) is kept (All-take IsSingle n pending single) (All-take FitsPart n pending fit) bytes (omega (arith, many, least)) in
    subst (λ (l : LineState). IsSeatOf (seat_put id.0 session frames (indices_of (buffers_of (take n pending))) seat) (record p { line = l })) (sym made) next

pub count-taken : (seat : Seat) (p : PortState) (offered n : ℕ) → IsSeatOf seat p → IsLine p.line → n ≡ min offered (line_space p.line) → n ≡ min offered (space_of seat.port)
count-taken seat p offered n is line least = least ∙ ap (λ (k : ℕ). min offered k) (space_is_space seat p is line)

pub lent-seat : (seat : Seat) (p : PortState) (n : ℕ) (back : List Buffer) → IsSeatOf seat p → back ≡ take n p.line.idle → indices_of back ≡ take n seat.held.idle
lent-seat seat p n back is lent = ap indices_of lent ∙ (indices-take n p.line.idle ∙ ap (λ (is : List ℕ). take n is) (idle-seat seat p is))

-- the lease that a grant gave, and that it gave none, for any seat

abbrev GivesLease : PortState → LeaseId → List ℕ → Leased → Type 0
GivesLease p id want lease = lease ≡ leased id p.id (granted_sizes want p.line) p.line

pub lease-for : (p now : PortState) (id : LeaseId) (want : List ℕ) (r : Option Leased) → p ≡ now → IsLine p.line
    → IfSome r (λ (lease : Leased). 1 ≤ length (granted_sizes want p.line)) → IfSome r (GivesLease p id want)
    → IfSome r (λ (lease : Leased). buffer_count lease ≡ sum (granted_sizes want p.line))
    → IfSome r (λ (lease : Leased). (seat : Seat) (offer : Offer) → IsSeatOf seat now → want ≡ sizes_of offer.frames → IsLeaseFor id.0 offer seat lease)
lease-for p now id want None same kept some made count = tt
lease-for p now id want (Some lease) same kept some made count = λ seat offer is sizes.
    lease-given seat p id offer want lease (subst (IsSeatOf seat) (sym same) is) kept sizes some made count

pub nothing-given : (p now : PortState) (want : List ℕ) (line : LineState) (r : Option Leased) → p ≡ now → IsLine p.line → IfNone r (GivesNone p want line)
    → IfNone r ((seat : Seat) (offer : Offer) → IsSeatOf seat now → want ≡ sizes_of offer.frames → given_frames offer seat ≡ [])
nothing-given p now want line None same kept none = λ seat offer is sizes.
    none-given seat p offer want (subst (IsSeatOf seat) (sym same) is) kept sizes none.0
nothing-given p now want line (Some lease) same kept none = tt
