-- What an ask makes is of its asker.
use Rattle.std.proofs.Common.{ℕ, ◌≡◌, Bool, true, false, cond, List, Option, Some, None, refl, sym, ◌∙◌, ap}
use Rattle.std.specs.Prelude.{option_map}
use Rattle.nm_types.specs.declared.fault.OpenFault.{OpenFault}
use Rattle.nm_types.specs.declared.id.Sides.{Sides}
use Rattle.vale_entry.specs.declared.entry.Ask.{Ask}
use Rattle.vale_entry.specs.declared.entry.Ask.TheVariants.{Enter, Open, Send, Grant, Done, Sync, Reset, Shut, Finish, Leave, Put, PutKept, Get, Watch, Stat}
use Rattle.vale_entry.specs.declared.entry.Entry.{Entry}
use Rattle.vale_entry.specs.declared.entry.Item.{Item}
use Rattle.vale_entry.specs.declared.entry.Reply.{Reply}
use Rattle.vale_entry.specs.World.{Port, Watch as Watcher, open_port}
use Rattle.vale_entry.specs.Opening.{open_refusal}
use Rattle.vale_entry.specs.Grant.{first_offer}
use Rattle.vale_entry.specs.Delivery.{lease_at}
use Rattle.vale_entry.specs.Closing.{shutting_port, can_leave}
use Rattle.vale_entry.specs.Monitors.{open_port_as, watch_of, can_watch}
use Rattle.vale_entry.specs.Pipe.{peer_of}
use Rattle.vale_entry.specs.Legal.{Standing, Outcome, recorded_step, session_and_reply, made_at, fits_chain, can_open, open_step_by, can_send, send_step, is_offer_next, grant_step, done_step, can_sync, sync_step, can_reset, reset_step, can_shut, shut_step, can_go, finish_step, finish_step_at, leave_step, can_put, put_step_at, put_step_by, can_keep, kept_items, can_get, watch_step_of, watch_step_by, stat_step}
use Rattle.vale_own.specs.Asker.{asker_of, is_enter, owner_of_port, owner_of_offer, owner_of_lot}
use Rattle.vale_own.specs.Laws.{AskersMakeSteps, EntriesAreOfAskers}

made-if-of : (b : Bool) (x made : Outcome) (owner : ℕ) → x.session ≡ owner → cond b (Some x) None ≡ Some made → owner ≡ made.session
made-if-of true x made owner is e = let same : x ≡ made = cc in sym is ∙ ap (λ (m : Outcome). m.session) same
made-if-of false x made owner is e = absurd cc

made-of : {X : Type 0} (owner : X → ℕ) (test : X → Bool) (make : X → Outcome) → ((x : X) → (make x).session ≡ owner x) → (found : Option X) (made : Outcome) → made_at test make found ≡ Some made
    → option_map owner found ≡ Some made.session
made-of owner test make is None made e = absurd cc
made-of owner test make is (Some x) made e = ap (λ (k : ℕ). Some k) (made-if-of (test x) (make x) made (owner x) (is x) e)

mapped-of : {X : Type 0} (owner : X → ℕ) (make : X → Outcome) → ((x : X) → (make x).session ≡ owner x) → (found : Option X) (made : Outcome) → option_map make found ≡ Some made
    → option_map owner found ≡ Some made.session
mapped-of owner make is None made e = absurd cc
mapped-of owner make is (Some x) made e = let same : make x ≡ made = cc in ap (λ (k : ℕ). Some k) (sym (is x) ∙ ap (λ (m : Outcome). m.session) same)

open-of : (refusal : Option OpenFault) (s : Standing) (session : ℕ) (name : List ℕ) (tx rx extra : ℕ) → (open_step_by refusal s session name tx rx extra).session ≡ session
open-of None s session name tx rx extra = refl
open-of (Some fault) s session name tx rx extra = refl

put-of : (s : Standing) (items : List Item) (port : Port) (peer : Option Port) → (put_step_by s items port peer).session ≡ port.session
put-of s items port None = refl
put-of s items port (Some peer) = refl

watch-by-of : (s : Standing) (sides : Sides) (port target : Port) (watch : Option Watcher) → (watch_step_by s sides port target watch).session ≡ port.session
watch-by-of s sides port target None = refl
watch-by-of s sides port target (Some watch) = refl

watch-of : (s : Standing) (sides : Sides) (port : Port) (target : Option Port) → (watch_step_of s sides port target).session ≡ port.session
watch-of s sides port None = refl
watch-of s sides port (Some target) = watch-by-of s sides port target (watch_of s.world.watches target.id)

finish-of : (s : Standing) (bufs : List ℕ) (found : Option Port) (made : Outcome) (b : Bool) → cond b (finish_step_at s bufs found) None ≡ Some made → option_map owner_of_port found ≡ Some made.session
finish-of s bufs found made true e = made-of owner_of_port (can_go s bufs) (finish_step s bufs) (λ p. refl) found made e
finish-of s bufs found made false e = absurd cc

pub askers-make-steps : AskersMakeSteps
askers-make-steps s (Enter user) made other e = absurd cc
askers-make-steps s (Open session name tx rx extra) made other e =
    ap (λ (k : ℕ). Some k) (made-if-of (can_open s.world session.0 name tx rx extra) (open_step_by (open_refusal s.world name tx rx extra) s session.0 name tx rx extra) made session.0
    (open-of (open_refusal s.world name tx rx extra) s session.0 name tx rx extra) e)
askers-make-steps s (Send port frames) made other e = made-of owner_of_port (can_send s.world frames) (send_step s frames) (λ p. refl) (open_port s.world.ports port.0) made e
askers-make-steps s (Grant origin to) made other e = made-of owner_of_offer (is_offer_next to.0) (grant_step s) (λ o. refl) (first_offer s.world origin) made e
askers-make-steps s (Done lease) made other e = mapped-of owner_of_lot (done_step s lease.0) (λ l. refl) (lease_at s.world.ports lease.0) made e
askers-make-steps s (Sync port back) made other e = made-of owner_of_port (can_sync s back) (sync_step s back) (λ p. refl) (open_port s.world.ports port.0) made e
askers-make-steps s (Reset port side fault) made other e = made-of owner_of_port (can_reset side fault) (reset_step s) (λ p. refl) (open_port s.world.ports port.0) made e
askers-make-steps s (Shut port) made other e = made-of owner_of_port (can_shut s.world) (shut_step s) (λ p. refl) (open_port s.world.ports port.0) made e
askers-make-steps s (Finish port bufs chain) made other e = finish-of s bufs (shutting_port s.world.ports port.0) made (fits_chain chain) e
askers-make-steps s (Leave session) made other e = ap (λ (k : ℕ). Some k) (made-if-of (can_leave s.world session.0) (leave_step s session.0) made session.0 refl e)
askers-make-steps s (Put port offered) made other e =
    made-of owner_of_port (can_put s offered) (put_step_at s offered) (λ p. put-of s _ p (peer_of s.world.ports p)) (open_port s.world.ports port.0) made e
askers-make-steps s (PutKept port offered) made other e = absurd cc
askers-make-steps s (Get port back) made other e = made-of owner_of_port (can_get s back) (sync_step s back) (λ p. refl) (open_port s.world.ports port.0) made e
askers-make-steps s (Watch monitor target sides) made other e =
    made-of owner_of_port (can_watch target) (λ (port : Port). watch_step_of s sides port (open_port_as s.world.ports target)) (λ p. watch-of s sides p (open_port_as s.world.ports target))
    (open_port s.world.ports monitor.0) made e
askers-make-steps s (Stat port) made other e = mapped-of owner_of_port (stat_step s) (λ p. refl) (open_port s.world.ports port.0) made e

-- what an entry records is what its ask makes, but for a Put
recorded-of : (s : Standing) (ask : Ask) (reply : Reply) (made : Outcome) → is_enter ask ≡ false → recorded_step s ask reply ≡ Some made → asker_of s ask ≡ Some made.session
recorded-of s (Put port offered) reply made other e = absurd cc
recorded-of s (PutKept port offered) reply made other e =
    made-of owner_of_port (can_keep s offered (kept_items reply)) (λ (p : Port). put_step_by s (kept_items reply) p (peer_of s.world.ports p))
    (λ p. put-of s (kept_items reply) p (peer_of s.world.ports p)) (open_port s.world.ports port.0) made e
recorded-of s (Enter user) reply made other e = absurd cc
recorded-of s (Open session name tx rx extra) reply made other e = askers-make-steps s (Open session name tx rx extra) made other e
recorded-of s (Send port frames) reply made other e = askers-make-steps s (Send port frames) made other e
recorded-of s (Grant origin to) reply made other e = askers-make-steps s (Grant origin to) made other e
recorded-of s (Done lease) reply made other e = askers-make-steps s (Done lease) made other e
recorded-of s (Sync port back) reply made other e = askers-make-steps s (Sync port back) made other e
recorded-of s (Reset port side fault) reply made other e = askers-make-steps s (Reset port side fault) made other e
recorded-of s (Shut port) reply made other e = askers-make-steps s (Shut port) made other e
recorded-of s (Finish port bufs chain) reply made other e = askers-make-steps s (Finish port bufs chain) made other e
recorded-of s (Leave session) reply made other e = askers-make-steps s (Leave session) made other e
recorded-of s (Get port back) reply made other e = askers-make-steps s (Get port back) made other e
recorded-of s (Watch monitor target sides) reply made other e = askers-make-steps s (Watch monitor target sides) made other e
recorded-of s (Stat port) reply made other e = askers-make-steps s (Stat port) made other e

follows-of : (s : Standing) (e : Entry) (found : Option Outcome) → recorded_step s e.ask e.reply ≡ found → is_enter e.ask ≡ false
    → option_map session_and_reply found ≡ Some (e.session.0, e.reply) → asker_of s e.ask ≡ Some e.session.0
follows-of s e None is other follows = absurd cc
follows-of s e (Some made) is other follows =
    let same : session_and_reply made ≡ (e.session.0, e.reply) = cc in
    recorded-of s e.ask e.reply made other is ∙ ap (λ (pair : ℕ × Reply). Some pair.0) same

pub entries-are-of-askers : EntriesAreOfAskers
entries-are-of-askers s e other follows = follows-of s e (recorded_step s e.ask e.reply) refl other follows
