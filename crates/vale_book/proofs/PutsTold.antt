-- How a put is answered.
use Rattle.std.proofs.Common.{ℕ, ◌≡◌, Bool, true, false, ◌&&◌, List, [], ◌∷◌, take, length, Option, Some, None, refl, sym, ◌∙◌, ap}
use Rattle.std.specs.Prelude.{if◌then◌else◌, zero, suc, nat_le, All}
use Rattle.std.specs.List.{list_all, AllByRecursion as Each}
use Rattle.std.proofs.lemmas.Bool.{and_parts, leb-true}
use Rattle.std.proofs.lemmas.List.Elements.{All-from_recursion}
use Rattle.std.proofs.lemmas.List.{length-map, take-map}
use Rattle.nm_types.specs.Frames.{Frame}
use Rattle.nm_types.specs.Limits.{most_batch}
use Rattle.nm_types.specs.Sendable.{fits_buffer}
use Rattle.nm_types.specs.declared.id.PortId.{PortId}
use Rattle.vale_line.specs.declared.got.Got.{Got}
use Rattle.vale_line.specs.Gots.{part_in, FitsPart}
use Rattle.vale_entry.specs.declared.entry.Ask.TheVariants.{Put}
use Rattle.vale_entry.specs.declared.entry.Dest.{Dest}
use Rattle.vale_entry.specs.declared.entry.Item.{Item}
use Rattle.vale_entry.specs.declared.entry.Reply.TheVariants as replies
use Rattle.vale_entry.specs.World.{Port, open_port, is_settled, transmit_monitor}
use Rattle.vale_entry.specs.Offers.{dests_of}
use Rattle.vale_entry.specs.Pipe.{peer_of, peer_of_found, peer_at, taken_count, indices_of, frames_of_items, is_pipe_item}
use Rattle.vale_entry.specs.Holdings.{holds_all}
use Rattle.vale_entry.specs.Legal.{Outcome, IsLegal, made_at, can_put, can_offer, put_step, put_step_at, put_step_by, offers_of_put}
use Rattle.nm_types.specs.Names.{is_pipe_name}
use Rattle.vale_parts.specs.Batches.{dests_wanted}
use Rattle.vale_parts.proofs.BatchWants.{puts_replied}
use Rattle.vale_steps.specs.declared.putting.Put.{Put as Given}
use Rattle.vale_book.specs.Putting.{item_of, items_of, copied, IsPut}
use Rattle.vale_own.specs.Recorded.{Recorded, standing}
use Rattle.vale_book.proofs.Said.{Steps}
use Rattle.vale_book.proofs.Said.{sought}

-- what is made at what is looked for
made-one : {X : Type 0} (test : X → Bool) (make : X → Outcome) (x : X) (outcome : Outcome) → made_at test make (Some x) ≡ Some outcome → (outcome ≡ make x) × (test x ≡ true)
made-one test make x outcome e = by (test x) refl e
  where
    by : (b : Bool) → test x ≡ b → (if b then Some (make x) else None) ≡ Some outcome → (outcome ≡ make x) × (test x ≡ true)
    by false t e = absurd cc
    by true t e = (cc, t)

put-steps : (b : Recorded) (at : PortId) (items : List Item) (port : Port) (steps : Steps b (Put at items)) → open_port (standing b).world.ports at.0 ≡ Some port
    → (steps.makes ≡ put_step_at (standing b) items port) × (can_put (standing b) items port ≡ true)
put-steps b at items port steps here =
    made-one (can_put (standing b) items) (put_step_at (standing b) items) port steps.makes
    (ap (made_at (can_put (standing b) items) (put_step_at (standing b) items)) (sym here) ∙ steps.is)

-- what was taken
pub put-said : {b new : Recorded} {at : PortId} {gots : List Got} {put : Given} (steps : Steps b (Put at (items_of gots))) → IsLegal b.pool b.entries → IsPut b new at gots put
    → steps.makes.reply ≡ replies.Took (items_of (take put.took gots)) (dests_wanted put.offers.wants)
put-said {b} {new} {at} {gots} {put} steps legal is =
    let s = standing b in
    let port = is.port in
    let peer = is.peer in
    let taken = items_of (take put.took gots) in
    let made = (put-steps b at (items_of gots) port steps is.here).0 in
    let by : put_step_at s (items_of gots) port ≡ put_step s (take (taken_count (Some peer) (length (items_of gots))) (items_of gots)) port peer =
    ap (λ (found : Option Port). put_step_by s (take (taken_count found (length (items_of gots))) (items_of gots)) port found) is.there in
    let count : taken_count (Some peer) (length (items_of gots)) ≡ put.took = ap (taken_count (Some peer)) (length-map gots item_of) ∙ sym is.is.took in
    let items : take (taken_count (Some peer) (length (items_of gots))) (items_of gots) ≡ taken = ap (λ (n : ℕ). take n (items_of gots)) count ∙ take-map item_of put.took gots in
    let dests : dests_of (offers_of_put s.world port (frames_of_items taken)) ≡ dests_wanted put.offers.wants =
    puts_replied b.pool b.entries port (frames_of_items taken) legal ∙ ap dests_wanted (sym is.is.offers.wants) in
    ap (λ (o : Outcome). o.reply) (made ∙ by)
    ∙ (ap (λ (its : List Item). (put_step s its port peer).reply) items ∙ ap (λ (to : List Dest). replies.Took taken to) dests)

-- that the other end is not open
pub gone-said : {b : Recorded} {at : PortId} {items : List Item} (steps : Steps b (Put at items)) → peer_at (standing b).world.ports at.0 ≡ None → steps.makes.reply ≡ replies.PeerGone
gone-said {b} {at} {items} steps gone =
    let s = standing b in
    let found = sought (can_put s items) (put_step_at s items) (open_port s.world.ports at.0) steps.makes steps.is in
    let port = found.0 in
    let made = (put-steps b at items port steps found.1).0 in
    let none : peer_of s.world.ports port ≡ None = ap (peer_of_found s.world.ports) (sym found.1) ∙ gone in
    ap (λ (o : Outcome). o.reply) made ∙ ap (λ (f : Option Port). (put_step_by s (take (taken_count f (length items)) items) port f).reply) none

-- what is put fits a buffer

fit-each : (gots : List Got) → list_all is_pipe_item (items_of gots) ≡ true → Each FitsPart gots
fit-each [] all = tt
fit-each (got ∷ gots) all =
    let parts = and_parts (is_pipe_item (item_of got)) (list_all is_pipe_item (items_of gots)) all in
    (leb-true (length (part_in got)) 2048 (and_parts (fits_buffer (item_of got).bytes) _ parts.0).0, fit-each gots parts.1)

pub fit-parts : (gots : List Got) → list_all is_pipe_item (items_of gots) ≡ true → All FitsPart gots
fit-parts gots all = All-from_recursion FitsPart gots (fit-each gots all)

pub fit-taken : (n : ℕ) (gots : List Got) → list_all is_pipe_item (items_of gots) ≡ true → list_all fits_buffer (frames_of_items (items_of (take n gots))) ≡ true
fit-taken zero gots all = refl
fit-taken (suc n) [] all = refl
fit-taken (suc n) (got ∷ gots) all =
    let parts = and_parts (is_pipe_item (item_of got)) (list_all is_pipe_item (items_of gots)) all in
    let fits = (and_parts (fits_buffer (item_of got).bytes) _ parts.0).0 in
    ap (λ (b : Bool). b && list_all fits_buffer (frames_of_items (items_of (take n gots)))) fits ∙ fit-taken n gots parts.1

fit-copied : {X : Type 0} (monitor : Option X) (frames : List Frame) → list_all fits_buffer frames ≡ true → list_all fits_buffer (copied monitor frames) ≡ true
fit-copied None frames fit = refl
fit-copied (Some monitor) frames fit = fit

pub copies-fit : {b new : Recorded} {at : PortId} {gots : List Got} {put : Given} (steps : Steps b (Put at (items_of gots))) → IsPut b new at gots put → list_all fits_buffer put.copies ≡ true
copies-fit {b} {new} {at} {gots} {put} steps is =
    let s = standing b in
    let items = items_of gots in
    let port = is.port in
    let can = (put-steps b at items port steps is.here).1 in
    let offer = (and_parts (can_offer s items port) (nat_le (length items) most_batch) can).0 in
    let settled = (and_parts (is_pipe_name port.name) _ offer).1 in
    let each = (and_parts (is_settled s.world port.session) _ settled).1 in
    let pipe = (and_parts (list_all is_pipe_item items) (holds_all s.holdings port.session (indices_of items)) each).0 in
    ap (list_all fits_buffer) is.is.copies
    ∙ fit-copied (transmit_monitor s.world port.id) (frames_of_items (items_of (take put.took gots))) (fit-taken put.took gots pipe)
