-- What an entry records, kind by kind: for each kind of step what its ask found, whatever is shown
-- of the step. What is shown so of each kind holds of every entry that is made.
use Rattle.std.proofs.Common.{ℕ, ◌≡◌, Bool, true, false, cond, ◌&&◌, ◌||◌, ◌==◌, List, Option, Some, None, refl, subst, nat_le, length}
use Rattle.std.specs.Prelude.{option_map}
use Rattle.std.specs.List.{list_all}
use Rattle.std.proofs.lemmas.Bool.{and_parts, eqb-true}
use Rattle.nm_types.specs.Limits.{most_batch}
use Rattle.nm_types.specs.Frames.{Frame}
use Rattle.nm_types.specs.Names.{is_name, is_switch_port_name, is_pipe_name, is_monitor_name}
use Rattle.nm_types.specs.Sendable.{is_sendable}
use Rattle.nm_types.specs.declared.fault.OpenFault.{OpenFault}
use Rattle.nm_types.specs.declared.fault.SyncFault.{SyncFault}
use Rattle.nm_types.specs.declared.id.SessionId.{SessionId}
use Rattle.nm_types.specs.declared.id.PortId.{PortId}
use Rattle.nm_types.specs.declared.id.LeaseId.{LeaseId}
use Rattle.nm_types.specs.declared.id.Side.{Side}
use Rattle.nm_types.specs.declared.id.Sides.{Sides}
use Rattle.nm_types.specs.declared.id.Chain.{Chain}
use Rattle.vale_entry.specs.declared.entry.Ask.{Ask}
use Rattle.vale_entry.specs.declared.entry.Ask.TheVariants.{Enter, Open, Send, Grant, Done, Sync, Reset, Shut, Finish, Leave, Put, PutKept, Get, Watch, Stat}
use Rattle.vale_entry.specs.declared.entry.Item.{Item}
use Rattle.vale_entry.specs.declared.entry.Reply.{Reply}
use Rattle.vale_entry.specs.declared.entry.Reply.TheVariants.{Made, Refused, PeerGone, NoTarget, Watched, Counted}
use Rattle.vale_entry.specs.declared.entry.Entry.{Entry}
use Rattle.vale_entry.specs.World.{Port, Lot, Offer, Watch as Watcher, is_session, is_settled, open_port}
use Rattle.vale_entry.specs.Opening.{open_refusal}
use Rattle.vale_entry.specs.Grant.{first_offer}
use Rattle.vale_entry.specs.Delivery.{lease_at}
use Rattle.vale_entry.specs.Closing.{shutting_port, leases_out}
use Rattle.vale_entry.specs.Holdings.{holds_all}
use Rattle.vale_entry.specs.Monitors.{open_port_as, watch_of, can_watch}
use Rattle.vale_entry.specs.Pipe.{peer_of, taken_count, indices_of, is_pipe_item}
use Rattle.vale_entry.specs.Counters.{counts_of}
use Rattle.vale_entry.specs.Legal.{Standing, Outcome, unchanged, recorded_step, after, standing_with, standing_after, session_and_reply, Follows, enter_step, open_step_by, send_step, can_send, grant_step, is_offer_next, done_step, sync_step, can_sync, can_get, can_receive, shut_step, can_finish, finish_step, finish_step_at, leave_step, put_step, put_step_by, kept_items, can_keep, watch_step, watch_step_by, watch_step_of, reset_step, can_reset, stat_step, fits_u32, fits_u64, fits_chain, can_open, made_at}
use Rattle.vale_entry.proofs.Closings.{CanLeave, made-if, shut-by, finish-by, leave-by}

-- the asks that receive frames at a port
pub data Receives : Ask → PortId → List ℕ → Type 0 where
  by_sync : (at : PortId) (back : List ℕ) → Receives (Sync at back) at back
  by_get : (at : PortId) (back : List ℕ) → Receives (Get at back) at back

-- the session is settled, and these are buffers of it, no more of them than are out
pub record CanReceive (s : Standing) (back : List ℕ) (port : Port) : Type 0 where
  pub settled : is_settled s.world port.session ≡ true
  pub few : nat_le (length back) port.out ≡ true
  pub held : holds_all s.holdings port.session back ≡ true

-- the session is there, the name is one, and the numbers fit their fields
pub record CanOpen (s : Standing) (session : ℕ) (name : List ℕ) (tx rx extra : ℕ) : Type 0 where
  pub here : is_session s.world session ≡ true
  pub named : is_name name ≡ true
  pub tx_fits : fits_u32 tx ≡ true
  pub rx_fits : fits_u32 rx ≡ true
  pub extra_fits : fits_u32 extra ≡ true

-- a pipe end's session is settled; so many frames were offered, of which these are as many as the
-- other end has room for
pub record CanKeep (s : Standing) (offered : ℕ) (items : List Item) (port : Port) : Type 0 where
  pub pipe : is_pipe_name port.name ≡ true
  pub settled : is_settled s.world port.session ≡ true
  pub sound : list_all is_pipe_item items ≡ true
  pub held : holds_all s.holdings port.session (indices_of items) ≡ true
  pub few : nat_le offered most_batch ≡ true
  pub taken : length items ≡ taken_count (peer_of s.world.ports port) offered

-- what is answered without a change: the ask, whose it is, and the reply
pub data IsQuiet (s : Standing) : Ask → ℕ → Reply → Type 0 where
  refused_open :
      (session : SessionId) (name : List ℕ) (tx rx extra : ℕ) (fault : OpenFault)
      → CanOpen s session.0 name tx rx extra → open_refusal s.world name tx rx extra ≡ Some fault
      → IsQuiet s (Open session name tx rx extra) session.0 (Refused fault)
  resets :
      (at : PortId) (side : Side) (fault : SyncFault) (port : Port)
      → open_port s.world.ports at.0 ≡ Some port → can_reset side fault port ≡ true
      → IsQuiet s (Reset at side fault) port.session Made
  finds_no_peer :
      (at : PortId) (offered : ℕ) (port : Port) → open_port s.world.ports at.0 ≡ Some port
      → nat_le offered most_batch ≡ true → peer_of s.world.ports port ≡ None
      → IsQuiet s (PutKept at offered) port.session PeerGone
  finds_no_target :
      (at : PortId) (target : List ℕ) (sides : Sides) (port : Port)
      → open_port s.world.ports at.0 ≡ Some port → can_watch target port ≡ true
      → open_port_as s.world.ports target ≡ None
      → IsQuiet s (Watch at target sides) port.session NoTarget
  finds_watched :
      (at : PortId) (target : List ℕ) (sides : Sides) (port found : Port) (watch : Watcher)
      → open_port s.world.ports at.0 ≡ Some port → can_watch target port ≡ true
      → open_port_as s.world.ports target ≡ Some found
      → watch_of s.world.watches found.id ≡ Some watch
      → IsQuiet s (Watch at target sides) port.session (Watched (record { 0 = watch.monitor }))
  counts :
      (at : PortId) (port : Port) → open_port s.world.ports at.0 ≡ Some port
      → IsQuiet s (Stat at) port.session (Counted (counts_of s.world.counts port.id))

-- a fact of each kind of step that an entry may record
pub record EachKind (s : Standing) (Q : Ask → Outcome → Type 0) : Type 0 where
  pub enters : (user : ℕ) → fits_u64 user ≡ true → Q (Enter user) (enter_step s)
  pub quiet :
      (ask : Ask) (session : ℕ) (reply : Reply) → IsQuiet s ask session reply
      → Q ask (unchanged s session reply)
  pub opens :
      (session : SessionId) (name : List ℕ) (tx rx extra : ℕ) → CanOpen s session.0 name tx rx extra
      → open_refusal s.world name tx rx extra ≡ None
      → Q (Open session name tx rx extra) (open_step_by None s session.0 name tx rx extra)
  pub sends :
      (from : PortId) (frames : List Frame) (port : Port)
      → open_port s.world.ports from.0 ≡ Some port → can_send s.world frames port ≡ true
      → is_settled s.world port.session ≡ true
      → Q (Send from frames) (send_step s frames port)
  pub grants :
      (origin : ℕ) (to : PortId) (offer : Offer) → first_offer s.world origin ≡ Some offer
      → offer.to ≡ to.0
      → Q (Grant origin to) (grant_step s offer)
  pub completes :
      (lease : LeaseId) (lot : Lot) → lease_at s.world.ports lease.0 ≡ Some lot
      → Q (Done lease) (done_step s lease.0 lot)
  pub receives :
      (ask : Ask) (at : PortId) (back : List ℕ) (port : Port) → Receives ask at back
      → open_port s.world.ports at.0 ≡ Some port → CanReceive s back port
      → Q ask (sync_step s back port)
  pub puts :
      (at : PortId) (offered : ℕ) (items : List Item) (port peer : Port)
      → open_port s.world.ports at.0 ≡ Some port → CanKeep s offered items port
      → peer_of s.world.ports port ≡ Some peer
      → Q (PutKept at offered) (put_step s items port peer)
  pub watches :
      (at : PortId) (target : List ℕ) (sides : Sides) (port found : Port)
      → open_port s.world.ports at.0 ≡ Some port → can_watch target port ≡ true
      → open_port_as s.world.ports target ≡ Some found → watch_of s.world.watches found.id ≡ None
      → Q (Watch at target sides) (watch_step s sides port found)
  pub shuts :
      (at : PortId) (port : Port) → open_port s.world.ports at.0 ≡ Some port
      → is_settled s.world port.session ≡ true → Q (Shut at) (shut_step s port)
  pub finishes :
      (at : PortId) (bufs : List ℕ) (chain : Chain) (port : Port) → fits_chain chain ≡ true
      → shutting_port s.world.ports at.0 ≡ Some port → can_finish s bufs port ≡ true
      → leases_out port ≡ 0 → Q (Finish at bufs chain) (finish_step s bufs port)
  pub leaves :
      (session : SessionId) → CanLeave s.world session.0
      → Q (Leave session) (leave_step s session.0)

-- a fact of an outcome, if there is one
abbrev pub IfMade : (Outcome → Type 0) → Option Outcome → Type 0
IfMade P None = Unit {0}
IfMade P (Some made) = P made

pub can-open :
    (s : Standing) (session : ℕ) (name : List ℕ) (tx rx extra : ℕ)
    → can_open s.world session name tx rx extra ≡ true → CanOpen s session name tx rx extra
can-open s session name tx rx extra can =
    let one =
    and_parts (is_session s.world session)
    (is_name name && (fits_u32 tx && (fits_u32 rx && fits_u32 extra))) can in
    let two = and_parts (is_name name) (fits_u32 tx && (fits_u32 rx && fits_u32 extra)) one.1 in
    let three = and_parts (fits_u32 tx) (fits_u32 rx && fits_u32 extra) two.1 in
    let four = and_parts (fits_u32 rx) (fits_u32 extra) three.1 in
    record { here = one.0; named = two.0; tx_fits = three.0; rx_fits = four.0; extra_fits = four.1 }

pub can-receive :
    (s : Standing) (back : List ℕ) (port : Port) → can_receive s back port ≡ true
    → CanReceive s back port
can-receive s back port can =
    let settled =
    and_parts (is_settled s.world port.session)
    (nat_le (length back) port.out && holds_all s.holdings port.session back) can in
    let limits =
    and_parts (nat_le (length back) port.out) (holds_all s.holdings port.session back) settled.1 in
    record { settled = settled.0; few = limits.0; held = limits.1 }

pub can-keep :
    (s : Standing) (offered : ℕ) (items : List Item) (port : Port)
    → can_keep s offered items port ≡ true → CanKeep s offered items port
can-keep s offered items port can =
    let outer = and_parts
    (is_pipe_name port.name
    &&
    (is_settled s.world port.session
    && (list_all is_pipe_item items && holds_all s.holdings port.session (indices_of items))))
    (nat_le offered most_batch && (length items == taken_count (peer_of s.world.ports port) offered)) can
    in
    let pipe =
    and_parts (is_pipe_name port.name)
    (is_settled s.world port.session
    && (list_all is_pipe_item items && holds_all s.holdings port.session (indices_of items)))
    outer.0 in
    let settled =
    and_parts (is_settled s.world port.session)
    (list_all is_pipe_item items && holds_all s.holdings port.session (indices_of items)) pipe.1 in
    let held =
    and_parts (list_all is_pipe_item items) (holds_all s.holdings port.session (indices_of items))
    settled.1 in
    let count =
    and_parts (nat_le offered most_batch)
    (length items == taken_count (peer_of s.world.ports port) offered) outer.1 in
    record {
      pipe = pipe.0;
      settled = settled.0;
      sound = held.0;
      held = held.1;
      few = count.0;
      taken = eqb-true (length items) (taken_count (peer_of s.world.ports port) offered) count.1;
    }

-- what is made at something that is looked for
at-by :
    {X : Type 0} (P : Option Outcome → Type 0) (test : X → Bool) (make : X → Outcome)
    (found : Option X)
    → P None → ((x : X) → found ≡ Some x → test x ≡ true → P (Some (make x)))
    → P (made_at test make found)
at-by P test make None none some = none
at-by P test make (Some x) none some = made-if P (make x) (test x) none (λ can. some x refl can)

mapped-by :
    {X : Type 0} (P : Option Outcome → Type 0) (make : X → Outcome) (found : Option X) → P None
    → ((x : X) → found ≡ Some x → P (Some (make x))) → P (option_map make found)
mapped-by P make None none some = none
mapped-by P make (Some x) none some = some x refl

of_open :
    (s : Standing) (Q : Ask → Outcome → Type 0) (session : SessionId) (name : List ℕ)
    (tx rx extra : ℕ) (refusal : Option OpenFault)
    → CanOpen s session.0 name tx rx extra
    → open_refusal s.world name tx rx extra ≡ refusal → EachKind s Q
    → Q (Open session name tx rx extra) (open_step_by refusal s session.0 name tx rx extra)
of_open s Q session name tx rx extra None can e all = all.opens session name tx rx extra can e
of_open s Q session name tx rx extra (Some fault) can e all =
    all.quiet (Open session name tx rx extra) session.0 (Refused fault)
    (refused_open session name tx rx extra fault can e)

of_put :
    (s : Standing) (Q : Ask → Outcome → Type 0) (at : PortId) (offered : ℕ) (items : List Item)
    (port : Port) (peer : Option Port)
    → open_port s.world.ports at.0 ≡ Some port
    → CanKeep s offered items port → peer_of s.world.ports port ≡ peer → EachKind s Q
    → Q (PutKept at offered) (put_step_by s items port peer)
of_put s Q at offered items port None e can gone all =
    all.quiet (PutKept at offered) port.session PeerGone
    (finds_no_peer at offered port e can.few gone)
of_put s Q at offered items port (Some peer) e can found all =
    all.puts at offered items port peer e can found

of_watch_by :
    (s : Standing) (Q : Ask → Outcome → Type 0) (at : PortId) (target : List ℕ) (sides : Sides)
    (port found : Port) (watch : Option Watcher)
    → open_port s.world.ports at.0 ≡ Some port
    → can_watch target port ≡ true → open_port_as s.world.ports target ≡ Some found
    → watch_of s.world.watches found.id ≡ watch → EachKind s Q
    → Q (Watch at target sides) (watch_step_by s sides port found watch)
of_watch_by s Q at target sides port found None e can there none all =
    all.watches at target sides port found e can there none
of_watch_by s Q at target sides port found (Some watch) e can there some all =
    all.quiet (Watch at target sides) port.session (Watched (record { 0 = watch.monitor }))
    (finds_watched at target sides port found watch e can there some)

of_watch :
    (s : Standing) (Q : Ask → Outcome → Type 0) (at : PortId) (target : List ℕ) (sides : Sides)
    (port : Port) (found : Option Port)
    → open_port s.world.ports at.0 ≡ Some port
    → can_watch target port ≡ true → open_port_as s.world.ports target ≡ found → EachKind s Q
    → Q (Watch at target sides) (watch_step_of s sides port found)
of_watch s Q at target sides port None e can there all =
    all.quiet (Watch at target sides) port.session NoTarget
    (finds_no_target at target sides port e can there)
of_watch s Q at target sides port (Some found) e can there all =
    of_watch_by s Q at target sides port found (watch_of s.world.watches found.id) e can there refl
    all

-- what holds of each kind holds of what an entry records
pub recorded-by :
    (s : Standing) (Q : Ask → Outcome → Type 0) (ask : Ask) (reply : Reply) → EachKind s Q
    → IfMade (Q ask) (recorded_step s ask reply)
recorded-by s Q (Enter user) reply all =
    made-if (IfMade (Q (Enter user))) (enter_step s) (fits_u64 user) tt
    (λ fits. all.enters user fits)
recorded-by s Q (Open session name tx rx extra) reply all =
    made-if (IfMade (Q (Open session name tx rx extra)))
    (open_step_by (open_refusal s.world name tx rx extra) s session.0 name tx rx extra)
    (can_open s.world session.0 name tx rx extra) tt
    (λ can.
    of_open s Q session name tx rx extra (open_refusal s.world name tx rx extra)
    (can-open s session.0 name tx rx extra can) refl all)
recorded-by s Q (Send from frames) reply all =
    at-by (IfMade (Q (Send from frames))) (can_send s.world frames) (send_step s frames)
    (open_port s.world.ports from.0) tt
    (λ port e can.
    let named =
    and_parts (is_switch_port_name port.name)
    (is_settled s.world port.session && is_sendable frames) can in
    let settled = and_parts (is_settled s.world port.session) (is_sendable frames) named.1 in
    all.sends from frames port e can settled.0)
recorded-by s Q (Grant origin to) reply all =
    at-by (IfMade (Q (Grant origin to))) (is_offer_next to.0) (grant_step s)
    (first_offer s.world origin) tt
    (λ offer e same. all.grants origin to offer e (eqb-true offer.to to.0 same))
recorded-by s Q (Done lease) reply all =
    mapped-by (IfMade (Q (Done lease))) (done_step s lease.0) (lease_at s.world.ports lease.0) tt
    (λ lot e. all.completes lease lot e)
recorded-by s Q (Sync at back) reply all =
    at-by (IfMade (Q (Sync at back))) (can_sync s back) (sync_step s back)
    (open_port s.world.ports at.0) tt
    (λ port e can. all.receives (Sync at back) at back port (by_sync at back) e
    (can-receive s back port
    (and_parts (is_switch_port_name port.name || is_monitor_name port.name) (can_receive s back port)
    can).1))
recorded-by s Q (Reset at side fault) reply all =
    at-by (IfMade (Q (Reset at side fault))) (can_reset side fault) (reset_step s)
    (open_port s.world.ports at.0) tt
    (λ port e can.
    all.quiet (Reset at side fault) port.session Made (resets at side fault port e can))
recorded-by s Q (Shut at) reply all =
    shut-by (IfMade (Q (Shut at))) s (open_port s.world.ports at.0) tt
    (λ port e settled. all.shuts at port e settled)
recorded-by s Q (Finish at bufs chain) reply all = by_chain (fits_chain chain) refl
  where
    by_chain :
        (b : Bool) → fits_chain chain ≡ b
        → IfMade (Q (Finish at bufs chain))
        (cond b (finish_step_at s bufs (shutting_port s.world.ports at.0)) None)
    by_chain true fits =
        finish-by (IfMade (Q (Finish at bufs chain))) s bufs (shutting_port s.world.ports at.0) tt
        (λ port e can out. all.finishes at bufs chain port fits e can out)
    by_chain false fits = tt
recorded-by s Q (Leave session) reply all =
    leave-by (IfMade (Q (Leave session))) s session.0 tt (λ can. all.leaves session can)
recorded-by s Q (Put port offered) reply all = tt
recorded-by s Q (PutKept at offered) reply all =
    at-by (IfMade (Q (PutKept at offered))) (can_keep s offered (kept_items reply))
    (λ (port : Port). put_step_by s (kept_items reply) port (peer_of s.world.ports port))
    (open_port s.world.ports at.0) tt
    (λ port e can.
    of_put s Q at offered (kept_items reply) port (peer_of s.world.ports port) e
    (can-keep s offered (kept_items reply) port can) refl all)
recorded-by s Q (Get at back) reply all =
    at-by (IfMade (Q (Get at back))) (can_get s back) (sync_step s back)
    (open_port s.world.ports at.0) tt
    (λ port e can.
    all.receives (Get at back) at back port (by_get at back) e
    (can-receive s back port (and_parts (is_pipe_name port.name) (can_receive s back port) can).1))
recorded-by s Q (Watch at target sides) reply all =
    at-by (IfMade (Q (Watch at target sides))) (can_watch target)
    (λ (port : Port). watch_step_of s sides port (open_port_as s.world.ports target))
    (open_port s.world.ports at.0) tt
    (λ port e can.
    of_watch s Q at target sides port (open_port_as s.world.ports target) e can refl all)
recorded-by s Q (Stat at) reply all =
    mapped-by (IfMade (Q (Stat at))) (stat_step s) (open_port s.world.ports at.0) tt
    (λ port e.
    all.quiet (Stat at) port.session (Counted (counts_of s.world.counts port.id))
    (counts at port e))

-- what holds of a standing whatever step is made holds also where an entry makes none
after_by :
    (s : Standing) (P : Standing → Type 0) (e : Entry) (found : Option Outcome)
    → P (standing_with s e s) → IfMade (λ made. P (standing_with s e made.next)) found
    → P (standing_after s e found)
after_by s P e None none some = none
after_by s P e (Some made) none some = some

pub after-by :
    (s : Standing) (P : Standing → Type 0) (e : Entry) → P (standing_with s e s)
    → EachKind s (λ ask made. P (standing_with s e made.next)) → P (after s e)
after-by s P e none all =
    after_by s P e (recorded_step s e.ask e.reply) none
    (recorded-by s (λ ask made. P (standing_with s e made.next)) e.ask e.reply all)

-- the entry of an outcome
abbrev pub entry_made : Ask → Outcome → Entry
entry_made ask made =
    record { session = record { 0 = made.session }; ask = ask; reply = made.reply }

-- what stands after an outcome's entry
abbrev pub Left : Standing → (Entry → Standing → Type 0) → Ask → Outcome → Type 0
Left s P ask made = P (entry_made ask made) (standing_with s (entry_made ask made) made.next)

of_entry : (s : Standing) (P : Entry → Standing → Type 0) (e : Entry) (found : Option Outcome)
    → option_map session_and_reply found ≡ Some (e.session.0, e.reply)
    → IfMade (Left s P e.ask) found → P e (standing_after s e found)
of_entry s P e None follows left = absurd cc
of_entry s P e (Some made) follows left =
    let same : session_and_reply made ≡ (e.session.0, e.reply) = cc in
    subst
    (λ (pair : ℕ × Reply).
    let x : Entry = record { session = record { 0 = pair.0 }; ask = e.ask; reply = pair.1 } in P x
    (standing_with s x made.next)) same left

-- what holds of each kind of entry holds of one that follows
pub follows-by :
    (s : Standing) (P : Entry → Standing → Type 0) (e : Entry) → Follows s e → EachKind s (Left s P)
    → P e (after s e)
follows-by s P e follows all =
    of_entry s P e (recorded_step s e.ask e.reply) follows
    (recorded-by s (Left s P) e.ask e.reply all)
