-- The buffers that come for the frames that a pipe's other end took are new to the session.
use Rattle.std.proofs.Common.{ℕ, ◌≡◌, ◌≤◌, nat_eq, List, take, drop, length, sym, ap, subst, refl, ◌∙◌, arith, None}
use Rattle.std.specs.List.{AllByRecursion as Each, IsDistinct}
use Rattle.std.specs.declared.alloc.Global.{Global}
use Rattle.std.specs.declared.vec.Vec.{Vec}
use Rattle.std.proofs.lemmas.List.{length-map, drop-map}
use lib.ListN.{length-drop}
use Rattle.std.proofs.lemmas.List.Elements.{recursion_from_All}
use Rattle.nm_types.specs.declared.id.PortId.{PortId}
use Rattle.nm_types.specs.OwnPorts.{Arrival, OwnState}
use Rattle.nm_types.specs.OwnSyncs.{buffers_of_arrivals}
use Rattle.nm_region.specs.Buffers.{Buffer, indices_of}
use Rattle.nm_own.specs.Opening.{IsNew}
use Rattle.nm_port.specs.Regions.{SideState}
use Rattle.vale_line.specs.declared.got.Got.{Got}
use Rattle.vale_line.specs.Gots.{buffer_of, buffers_of}
use Rattle.vale_entry.specs.declared.entry.Ask.TheVariants.{Put, PutKept}
use Rattle.vale_entry.specs.declared.entry.Reply.{Reply}
use Rattle.vale_entry.specs.declared.entry.Reply.TheVariants.{Took}
use Rattle.vale_entry.specs.Arrivals.{arrivals_of}
use Rattle.vale_entry.specs.Holdings.{is_buffer_index}
use Rattle.vale_entry.specs.Legal.{Standing, standing_of, kept_items}
use Rattle.vale_entry.proofs.Counting.{count_of}
use Rattle.vale_own.specs.Own.{Own, own_of}
use Rattle.vale_own.specs.Side.{IsSoundSideOf}
use Rattle.vale_own.specs.SideLaws.{IsNewTo}
use Rattle.vale_own.proofs.Arriving.{arrivals-apart, buffers-come-new}
use Rattle.vale_own.proofs.Buffers.{blank-buffers}
use Rattle.vale_own.proofs.SideArrivals.{arrivals-many}
use Rattle.vale_parts.specs.Batches.{dests_wanted}
use Rattle.vale_steps.specs.declared.putting.Put.{Put as GivenPut}
use Rattle.vale_book.specs.Putting.{items_of, IsPut}
use Rattle.vale_fabric.specs.Fabrics.{Knowing, Answers, before_in, earlier, entry_by, seen_in}
use Rattle.nm_user.specs.Sessions.{SessionState, IsThere}
use Rattle.nm_user.specs.declared.putting.Offering.{Offering}
use Rattle.nm_user.specs.Offering.{IsOffering, CanTake}
use Rattle.nm_user.proofs.After.{last, whose}
use Rattle.nm_user.proofs.Later.{between, same-own}
use Rattle.nm_user.proofs.Opened.{distinct-once, each-new, once-by}
use Rattle.nm_user.proofs.TransmitsPut.{Puts, came-is, put-asks, taken-length, took-few}

pub record ComeNew (s : SessionState) (gots : List Got) (put : GivenPut) : Type 0 where
  pub new : Each (IsNew s.own) (indices_of put.back.items)
  pub once : IsDistinct nat_eq (indices_of put.back.items)
  pub count : length (indices_of put.back.items) ≡ put.took
  pub few : put.took ≤ length gots

pub come-new : {s : SessionState} {w : Knowing} {port : PortId} (gots : List Got) (put : GivenPut) (t : IsThere None s) (c : Puts s.own port (items_of gots))
    → Answers s.fixed s.knows w (Put port (items_of gots)) (Took (items_of (take put.took gots)) (dests_wanted put.offers.wants)) → IsPut (before_in s.fixed w) (seen_in s.fixed w) port gots put
    → ComeNew s gots put
come-new {s} {w} {port} gots put t c a is =
    let pool = s.fixed.pool in
    let h = earlier w.seen in
    let now : Standing = standing_of pool h in
    let bufs = indices_of put.back.items in
    let kept = PutKept port (length (items_of gots)) in
    let m = a.makes in
    let e = entry_by m.session (Put port (items_of gots)) m.reply in
    let l = last m in
    let b = between s.id m t.come t.speaks in
    let side : IsSoundSideOf pool s.id None (own_of s.id now) s.own = subst (λ (o : Own). IsSoundSideOf pool s.id None o s.own) (sym (same-own b)) t.side in
    let own-side : IsSoundSideOf pool m.session None (own_of m.session now) s.own = subst (λ (n : ℕ). IsSoundSideOf pool n None (own_of n now) s.own) (sym (whose t m refl (put-asks t c))) side in
    let come : buffers_of_arrivals (arrivals_of now kept m.reply) ≡ bufs =
    ap (λ (r : Reply). buffers_of_arrivals (arrivals_of now kept r)) a.reply_is ∙ (ap (λ (these : List Arrival). buffers_of_arrivals these) (came-is gots put t c a is) ∙ blank-buffers bufs) in
    let new = recursion_from_All (IsNewTo pool s.own) _ (buffers-come-new pool h e None s.own l.legal l.follows own-side) in
    let many : length (arrivals_of now kept m.reply) ≡ length (kept_items m.reply) = arrivals-many pool h e None s.own l.legal l.follows own-side in
    let taken : length (kept_items m.reply) ≡ put.took = ap (λ (r : Reply). length (kept_items r)) a.reply_is ∙ taken-length gots put t c a is in
    let most = took-few is.peer (length gots) in
    let took = is.is.took in
    record {
      count = sym (ap (λ (bs : List ℕ). length bs) come) ∙ (length-map (arrivals_of now kept m.reply) (λ (x : Arrival). x.buffer) ∙ (many ∙ taken));
      few = omega (arith, most, took);
      new = each-new pool s.own bufs side.of.pool_is (subst (Each (IsNewTo pool s.own)) come new);
      once = distinct-once bufs (λ x. once-by (count_of x (own_of m.session now).buffers) (count_of x bufs) (is_buffer_index pool x) (rw (← ap (count_of x) come) (arrivals-apart pool h e x l.legal l.follows)));
    }

-- so the first frames can be taken: `pending` has the others
pub can-take : {s : SessionState} (side : SideState) (o : Offering) (pending : Vec Got Global) (put : GivenPut) → side.own ≡ s.own → IsOffering side o → pending.items ≡ drop put.took o.pending.items → ComeNew s o.pending.items put
    → CanTake side o.pending.items (record o { pending = pending }) put.back.items
can-take {s} side o pending put same is left come =
    let all = o.pending.items in
    let came = length-map put.back.items (λ (b : Buffer). b.index) in
    let number = come.count in
    let count : length put.back.items ≡ put.took = omega (arith, came, number) in
    let back : buffers_of pending.items ≡ drop (length put.back.items) (buffers_of all) =
    ap buffers_of left ∙ (sym (drop-map buffer_of put.took all) ∙ ap (λ (n : ℕ). drop n (buffers_of all)) (sym count)) in
    let few = come.few in
    let long = length-map all buffer_of in
    let rest = ap (λ (gs : List Got). length gs) left ∙ length-drop put.took all in
    let room = is.room in
    record {
      lent = record {
        lends = is.lent;
        back = back;
        few = omega (arith, count, few, long);
        new = subst (λ (own : OwnState). Each (IsNew own) (indices_of put.back.items)) (sym same) come.new;
        once = come.once;
      };
      empty = is.empty;
      room = omega (arith, rest, room);
    }
