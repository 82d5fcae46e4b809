-- A monitor watches, which changes nothing in hand.
use Rattle.std.proofs.Common.{ℕ, ◌≡◌, ◌&&◌, not, List, refl, sym, ◌∙◌, ap, subst, Result, Ok, Err}
use Rattle.std.specs.Prelude.{IfOk, IfErr}
use Rattle.nm_types.specs.Names.{is_name, is_monitor_name}
use Rattle.nm_types.specs.declared.fault.StepFault.{StepFault}
use Rattle.nm_types.specs.declared.fault.StepFault.TheVariants as steps
use Rattle.nm_types.specs.declared.fault.WatchFault.{WatchFault}
use Rattle.nm_types.specs.declared.fault.WatchFault.TheVariants as watches
use Rattle.nm_types.specs.declared.id.PortId.{PortId}
use Rattle.nm_types.specs.declared.id.Sides.{Sides}
use Rattle.vale_entry.specs.declared.entry.Ask.{Ask}
use Rattle.vale_entry.specs.declared.entry.Ask.TheVariants.{Watch, Reset}
use Rattle.vale_entry.specs.declared.entry.Reply.{Reply}
use Rattle.vale_entry.specs.declared.entry.Reply.TheVariants as replies
use Rattle.vale_entry.specs.World.{open_port}
use Rattle.vale_entry.specs.Legal.{is_enabled, is_met, can_reset, IsLegal}
use Rattle.vale_entry.specs.Monitors.{can_watch}
use Rattle.nm_types.specs.declared.fault.SyncFault.{SyncFault}
use Rattle.nm_types.specs.declared.id.Side.{Side}
use Rattle.vale_book.proofs.Said.{Steps}
use Rattle.vale_book.specs.Recorded.{Recorded, standing, after_ask, IsRefusal, IsRecordedAs}
use Rattle.vale_book.specs.WatchAnswers.{IsUnwatched}
use Rattle.vale_book.specs.declared.asking.PortSeen.{PortSeen}
use Rattle.vale_serve.specs.declared.users.User.{User}
use Rattle.vale_serve.specs.Replies.{watch_answer}
use Rattle.vale_serve.specs.Users.{IsUser, IsAsker}
use Rattle.vale_serve.proofs.Acting.{Said, said, mine-by}
use Rattle.vale_serve.proofs.Asked.{quiet-kept}

pub can-watch-is : (b : Recorded) (user : User) (monitor : PortId) (seen : PortSeen) (target : List ℕ) (sides : Sides) → IsAsker user (open_port (standing b).world.ports monitor.0) seen
    → is_enabled (standing b) (Watch monitor target sides) ≡ (is_monitor_name seen.name && (is_name target && not (is_monitor_name target)))
can-watch-is b user monitor seen target sides asker =
    ap (is_met (can_watch target)) asker.found_is ∙ ap (λ (name : List ℕ). is_monitor_name name && (is_name target && not (is_monitor_name target))) (sym asker.is_seen.name)

pub watched-as : (b after : Recorded) (ask : Ask) (r : Result PortId WatchFault) (reply : Reply) → IfOk r (λ port. IsRecordedAs b after ask (replies.Watching port)) → IfErr r (IsUnwatched b after ask)
    → watch_answer r ≡ Ok reply → IsRecordedAs b after ask reply
watched-as b after ask (Ok port) reply made not' e = let same : replies.Watching port ≡ reply = cc in subst (IsRecordedAs b after ask) same made
watched-as b after ask (Err watches.NoTarget) reply made not' e = let same : replies.NoTarget ≡ reply = cc in subst (IsRecordedAs b after ask) same not'
watched-as b after ask (Err (watches.Watched by)) reply made not' e = let same : replies.Watched by ≡ reply = cc in subst (IsRecordedAs b after ask) same not'
watched-as b after ask (Err (watches.RecordFull what used want)) reply made not' e = absurd cc
watched-as b after ask (Err watches.NoMemory) reply made not' e = absurd cc

pub unwatched-as : (b after : Recorded) (ask : Ask) (r : Result PortId WatchFault) (fault : StepFault) → IfErr r (IsUnwatched b after ask) → watch_answer r ≡ Err fault → IsRefusal b ask fault × (after ≡ b)
unwatched-as b after ask (Ok port) fault not' e = absurd cc
unwatched-as b after ask (Err watches.NoTarget) fault not' e = absurd cc
unwatched-as b after ask (Err (watches.Watched by)) fault not' e = absurd cc
unwatched-as b after ask (Err (watches.RecordFull what used want)) fault not' e =
    let same : steps.RecordFull what used want ≡ fault = cc in (subst (IsRefusal b ask) same not'.1, not'.0)
unwatched-as b after ask (Err watches.NoMemory) fault not' e = let same : steps.NoMemory ≡ fault = cc in (subst (IsRefusal b ask) same not'.1, not'.0)

pub watched-kept : (b after : Recorded) (user : User) (monitor : PortId) (seen : PortSeen) (target : List ℕ) (sides : Sides) (reply : Reply) → IsLegal b.pool b.entries → IsUser b user
    → IsAsker user (open_port (standing b).world.ports monitor.0) seen → IsRecordedAs b after (Watch monitor target sides) reply → IsUser after user
watched-kept b after user monitor seen target sides reply legal is asker recorded =
    let ask = Watch monitor target sides in
    let s : Said b ask reply = said b ask reply recorded.reply_is in
    quiet-kept b after user ask s.made legal is recorded.entry s.is
    (sym asker.mine ∙ mine-by b ask s.made (open_port (standing b).world.ports monitor.0) asker.port s.is refl refl asker.found_is)
    (record { offers = refl; leases = refl; buffers = refl; ports = refl })

-- ---- resets

pub can-reset-is : (b : Recorded) (user : User) (port : PortId) (seen : PortSeen) (side : Side) (fault : SyncFault) (asker : IsAsker user (open_port (standing b).world.ports port.0) seen)
    → is_enabled (standing b) (Reset port side fault) ≡ can_reset side fault asker.port
can-reset-is b user port seen side fault asker = ap (is_met (can_reset side fault)) asker.found_is

pub reset-kept : (b after : Recorded) (user : User) (port : PortId) (seen : PortSeen) (side : Side) (fault : SyncFault) → IsLegal b.pool b.entries → IsUser b user
    → (asker : IsAsker user (open_port (standing b).world.ports port.0) seen) → Steps b (Reset port side fault) → after ≡ after_ask b (Reset port side fault) → IsUser after user
reset-kept b after user port seen side fault legal is asker steps made =
    let ask = Reset port side fault in
    quiet-kept b after user ask steps.makes legal is made steps.is
    (sym asker.mine ∙ mine-by b ask steps.makes (open_port (standing b).world.ports port.0) asker.port steps.is refl refl asker.found_is)
    (record { offers = refl; leases = refl; buffers = refl; ports = refl })
