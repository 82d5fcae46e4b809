-- A port's counters are read, and a sync of it is refused.
use Rattle.std.proofs.Common.{ℕ, true, ◌≡◌, Some, None, Option, Result, Ok, Err, IfOk, refl, sym, ◌∙◌, ap, option_map, is_some}
use Rattle.nm_types.specs.declared.id.Counts.{Counts}
use Rattle.nm_types.specs.declared.id.PortId.{PortId}
use Rattle.nm_types.specs.declared.id.SessionId.{SessionId}
use Rattle.nm_types.specs.declared.id.Side.{Side}
use Rattle.nm_types.specs.declared.fault.StepFault.{StepFault}
use Rattle.nm_types.specs.declared.fault.SyncFault.{SyncFault}
use Rattle.nm_count.specs.Tallies.{counts_of}
use Rattle.vale_entry.specs.declared.entry.Ask.TheVariants.{Stat, Reset}
use Rattle.vale_entry.specs.declared.entry.Reply.{Reply}
use Rattle.vale_entry.specs.declared.entry.Reply.TheVariants.{Made, Counted}
use Rattle.vale_entry.specs.Counters.{counts_of as world_counts}
use Rattle.vale_entry.specs.World.{Port, open_port}
use Rattle.vale_entry.specs.Legal.{unchanged, stat_step, reset_step, can_reset, made_at, reply_of, reply_to, IsEnabled}
use Rattle.vale_parts.proofs.CountsKept.{open_counted}
use Rattle.vale_port.specs.Lists.{IsFoundAt, OfState}
use Rattle.vale_port.specs.Ports.{PortState}
use Rattle.vale_book.specs.declared.book.Book.TheInside.{Inside}
use Rattle.vale_book.specs.BookView.{parts_in, IsBook}
use Rattle.vale_book.proofs.Moves.{before, parts-stay}
use Rattle.vale_book.proofs.Found.{open_at, any_port, met-any, open-here, session-here}
use Rattle.vale_book.proofs.Notes.{IsNote}

-- the world's port has the session and the id
unchanged-by : (b : Inside) (session session' : ℕ) (reply reply' : Reply) → session ≡ session' → reply ≡ reply' → Some (unchanged (before b) session reply) ≡ Some (unchanged (before b) session' reply')
unchanged-by b session session' reply reply' one two = rw (one, two) refl

pub counted-here : (b : Inside) (port : PortId) → IsBook b → IsEnabled (before b) (Stat port) → counts_of b.tally port.0 ≡ Some (world_counts (before b).world.counts port.0)
counted-here b port k enabled =
    by_port (open_port (before b).world.ports port.0) refl enabled
  where
    by_port : (found : Option Port) → open_port (before b).world.ports port.0 ≡ found → is_some found ≡ true → counts_of b.tally port.0 ≡ Some (world_counts (before b).world.counts port.0)
    by_port None is some = absurd cc
    by_port (Some p) is some = open_counted b.pool.buffers b.history.entries b.tally port.0 p k.stands.legal k.stands.parts_are.counts_are is

pub stat-note : (b : Inside) (port : PortId) (session : SessionId) (place : ℕ) (counts : Counts) → IsBook b → IsEnabled (before b) (Stat port)
    → IsFoundAt (open_at port.0) b.ports.items place → OfState (λ (p : PortState). session.0 ≡ p.session) b.ports.items place → Some counts ≡ counts_of b.tally port.0
    → IsNote b (Stat port) session.0 (Counted counts)
stat-note b port session place counts k enabled found own is =
    let s = before b in
    let here = open-here b port.0 place any_port k found (met-any (open_port s.world.ports port.0) enabled) in
    let told : Some counts ≡ Some (world_counts s.world.counts port.0) = is ∙ counted-here b port k enabled in
    let same : world_counts s.world.counts here.port.id ≡ counts = ap (world_counts s.world.counts) here.id_is ∙ cc in
    record {
      step_is = ap (option_map (stat_step s)) here.here.found ∙ unchanged-by b here.port.session session.0 (Counted (world_counts s.world.counts here.port.id)) (Counted counts) (session-here b port.0 place any_port here session own) (ap Counted same);
      no_bytes = refl;
      parts = parts-stay s (Stat port) (Counted counts) (parts_in b) refl;
    }

pub stat-said : (r : Result Counts StepFault) (b : Inside) (port : PortId) (session : ℕ) (counts : Counts) → IsNote b (Stat port) session (Counted counts) → IfOk r (λ (told : Counts). told ≡ counts)
    → IfOk r (λ (told : Counts). reply_to (before b) (Stat port) ≡ Some (Counted told))
stat-said (Err e) b port session counts note is = tt
stat-said (Ok told) b port session counts note is = ap (option_map reply_of) note.step_is ∙ ap (λ (c : Counts). Some (Counted c)) (sym is)

pub reset-note : (b : Inside) (port : PortId) (side : Side) (fault : SyncFault) (session : SessionId) (place : ℕ) → IsBook b → IsEnabled (before b) (Reset port side fault)
    → IsFoundAt (open_at port.0) b.ports.items place → OfState (λ (p : PortState). session.0 ≡ p.session) b.ports.items place
    → IsNote b (Reset port side fault) session.0 Made
reset-note b port side fault session place k enabled found own =
    let s = before b in
    let here = open-here b port.0 place (can_reset side fault) k found enabled in
    let passes = here.passes in
    let made : made_at (can_reset side fault) (reset_step s) (Some here.port) ≡ Some (reset_step s here.port) = rw passes refl in
    record {
      step_is = ap (made_at (can_reset side fault) (reset_step s)) here.here.found ∙ (made ∙ unchanged-by b here.port.session session.0 Made Made (session-here b port.0 place (can_reset side fault) here session own) refl);
      no_bytes = refl;
      parts = parts-stay s (Reset port side fault) Made (parts_in b) refl;
    }
