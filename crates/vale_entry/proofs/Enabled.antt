-- The table of the asks that are enabled says which have a step, and which a reply.
use Rattle.std.proofs.Common.{ℕ, ◌≡◌, Bool, true, false, cond, ◌&&◌, List, Option, Some, None, is_some, refl, sym, ◌∙◌}
use Rattle.std.specs.Prelude.{option_map}
use Rattle.vale_entry.specs.declared.entry.Ask.{Ask}
use Rattle.vale_entry.specs.declared.entry.Ask.TheVariants.{Enter, Open, Send, Grant, Done, Sync, Reset, Shut, Finish, Leave, Put, PutKept, Get, Watch, Stat}
use Rattle.vale_entry.specs.World.{Port, open_port}
use Rattle.vale_entry.specs.Grant.{first_offer}
use Rattle.vale_entry.specs.Delivery.{lease_at}
use Rattle.vale_entry.specs.Closing.{shutting_port, can_leave}
use Rattle.vale_entry.specs.Monitors.{open_port_as, can_watch}
use Rattle.vale_entry.specs.Legal.{Standing, Outcome, step, reply_to, reply_of, is_enabled, IsEnabled, is_met, made_at, fits_u64, can_open, enter_step, open_step, can_send, send_step, is_offer_next, grant_step, done_step, can_sync, sync_step, can_reset, reset_step, can_shut, shut_step, fits_chain, can_finish, finish_reply, finish_reply_at, leave_step, can_put, put_step_at, can_get, watch_step_of, stat_step}
use Rattle.vale_entry.specs.Laws.{AsksAreAnswered}

-- whether an ask has a step, or, a Finish, a reply
abbrev pub has_step : Standing → Ask → Bool
has_step s (Finish port bufs chain) = is_some (reply_to s (Finish port bufs chain))
has_step s ask = is_some (step s ask)

some_if : {X : Type 0} (b : Bool) (x : X) → b ≡ is_some (cond b (Some x) None)
some_if true x = refl
some_if false x = refl

made-some :
    {X : Type 0} (test : X → Bool) (make : X → Outcome) (found : Option X)
    → is_met test found ≡ is_some (made_at test make found)
made-some test make None = refl
made-some test make (Some x) = some_if (test x) (make x)

mapped-some :
    {X Y : Type 0} (f : X → Y) (found : Option X) → is_some found ≡ is_some (option_map f found)
mapped-some f None = refl
mapped-some f (Some x) = refl

finish-some :
    (s : Standing) (bufs : List ℕ) (fits : Bool) (found : Option Port)
    → (fits && is_met (can_finish s bufs) found) ≡ is_some
    (cond fits (finish_reply_at s bufs found) None)
finish-some s bufs false found = refl
finish-some s bufs true None = refl
finish-some s bufs true (Some port) = some_if (can_finish s bufs port) (finish_reply port)

pub enabled-step : (s : Standing) (ask : Ask) → is_enabled s ask ≡ has_step s ask
enabled-step s (Enter user) = some_if (fits_u64 user) (enter_step s)
enabled-step s (Open session name tx rx extra) =
    some_if (can_open s.world session.0 name tx rx extra) (open_step s session.0 name tx rx extra)
enabled-step s (Send port frames) =
    made-some (can_send s.world frames) (send_step s frames) (open_port s.world.ports port.0)
enabled-step s (Grant origin to) =
    made-some (is_offer_next to.0) (grant_step s) (first_offer s.world origin)
enabled-step s (Done lease) = mapped-some (done_step s lease.0) (lease_at s.world.ports lease.0)
enabled-step s (Sync port back) =
    made-some (can_sync s back) (sync_step s back) (open_port s.world.ports port.0)
enabled-step s (Reset port side fault) =
    made-some (can_reset side fault) (reset_step s) (open_port s.world.ports port.0)
enabled-step s (Shut port) =
    made-some (can_shut s.world) (shut_step s) (open_port s.world.ports port.0)
enabled-step s (Finish port bufs chain) =
    finish-some s bufs (fits_chain chain) (shutting_port s.world.ports port.0)
enabled-step s (Leave session) = some_if (can_leave s.world session.0) (leave_step s session.0)
enabled-step s (Put port offered) =
    made-some (can_put s offered) (put_step_at s offered) (open_port s.world.ports port.0)
enabled-step s (PutKept port offered) = refl
enabled-step s (Get port back) =
    made-some (can_get s back) (sync_step s back) (open_port s.world.ports port.0)
enabled-step s (Watch monitor target sides) =
    made-some (can_watch target)
    (λ (port : Port). watch_step_of s sides port (open_port_as s.world.ports target))
    (open_port s.world.ports monitor.0)
enabled-step s (Stat port) = mapped-some (stat_step s) (open_port s.world.ports port.0)

-- an enabled ask has its step, or a waiting Finish its reply, and the other way round
pub enabled-has : (s : Standing) (ask : Ask) → IsEnabled s ask → has_step s ask ≡ true
enabled-has s ask e = sym (enabled-step s ask) ∙ e

pub has-enabled : (s : Standing) (ask : Ask) → has_step s ask ≡ true → IsEnabled s ask
has-enabled s ask e = enabled-step s ask ∙ e

replied : (s : Standing) (ask : Ask) → has_step s ask ≡ is_some (reply_to s ask)
replied s (Finish port bufs chain) = refl
replied s (PutKept port offered) = refl
replied s ask = mapped-some reply_of (step s ask)

pub asks-answered : AsksAreAnswered
asks-answered s ask = enabled-step s ask ∙ replied s ask
