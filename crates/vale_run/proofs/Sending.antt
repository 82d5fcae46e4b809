-- What the Sends of a legal history send fits 64 bits: there are fewer than 2^32 entries, and each sends the
-- frames and bytes of a batch at most.
use Rattle.std.proofs.Common.{ℕ, ◌+◌, ◌*◌, ◌<◌, ◌≤◌, ◌^◌, ◌≡◌, ◌&&◌, Bool, true, false, cond, nat_le, List, [], ◌∷◌, length, take, slice_get, sum_by, Option, Some, None, option_map, refl, ◌∙◌, ap, arith}
use Rattle.std.specs.List.{list_all}
use Rattle.std.proofs.lemmas.Bool.{leb-true, and_parts}
use Rattle.std.proofs.lemmas.List.Sums.{sum_by-cons, sum_by_push, sum_by-take-le}
use Rattle.nm_types.specs.Limits.{most_batch}
use Rattle.nm_types.specs.Frames.{Frame, bytes_of_frames, size_of_frames}
use Rattle.nm_types.specs.Names.{is_switch_port_name}
use Rattle.nm_types.specs.Sendable.{is_frame, fit_slots, is_sendable}
use Rattle.vale_entry.specs.declared.entry.Ask.{Ask}
use Rattle.vale_entry.specs.declared.entry.Ask.TheVariants.{Send}
use Rattle.vale_entry.specs.declared.entry.Entry.{Entry}
use Rattle.vale_entry.specs.declared.entry.Reply.{Reply}
use Rattle.vale_entry.specs.World.{Port, is_settled, open_port}
use Rattle.vale_entry.specs.Legal.{Standing, IsLegal, IsLegalFrom, after, can_send, fresh_standing, made_at, recorded_step, send_step, session_and_reply}
use Rattle.vale_entry.proofs.FrameBytes.{frames-slots}
use Rattle.vale_captures.proofs.Pages.{taken-next}
use Rattle.vale_run.specs.Load.{frames_of_ask, count_sent, bytes_sent}

record AreFew (frames : List Frame) : Type 0 where
  count : length frames ≤ most_batch
  bytes : bytes_of_frames frames ≤ 2048 * most_batch

sendable-few : (frames : List Frame) → is_sendable frames ≡ true → AreFew frames
sendable-few frames may =
    let parts = and_parts (nat_le (length frames) most_batch) (fit_slots most_batch frames) may in
    let fits = and_parts (nat_le (size_of_frames frames) most_batch) (list_all is_frame frames) parts.1 in
    let count = leb-true (length frames) most_batch parts.0 in
    let size = leb-true (size_of_frames frames) most_batch fits.0 in
    let bytes = frames-slots frames in
    record { count = count; bytes = omega (arith, size, bytes) }

-- a Send that was made carries what one send may carry
made-sendable : (s : Standing) (frames : List Frame) (found : Option Port) (made : ℕ × Reply)
    → option_map session_and_reply (made_at (can_send s.world frames) (send_step s frames) found)
    ≡ Some made
    → is_sendable frames ≡ true
made-sendable s frames None made is = absurd cc
made-sendable s frames (Some port) made is = by (can_send s.world frames port) refl is
  where
    by : (b : Bool) → can_send s.world frames port ≡ b
        → option_map session_and_reply (cond b (Some (send_step s frames port)) None) ≡ Some made
        → is_sendable frames ≡ true
    by true can is =
        let named = and_parts (is_switch_port_name port.name)
        (is_settled s.world port.session && is_sendable frames) can in
        (and_parts (is_settled s.world port.session) (is_sendable frames) named.1).1
    by false can is = absurd cc

few-sent : (s : Standing) (session : ℕ) (ask : Ask) (reply : Reply)
    → option_map session_and_reply (recorded_step s ask reply) ≡ Some (session, reply)
    → AreFew (frames_of_ask ask)
few-sent s session (Send from frames) reply follows = sendable-few frames
    (made-sendable s frames (open_port s.world.ports from.0) (session, reply) follows)
few-sent s session ask reply follows = record { count = omega arith; bytes = omega arith }

record AreSumsFew (history : List Entry) : Type 0 where
  count : sum_by count_sent history ≤ most_batch * length history
  bytes : sum_by bytes_sent history ≤ 2048 * most_batch * length history

sums-few : (s : Standing) (history : List Entry) → IsLegalFrom s history → AreSumsFew history
sums-few s [] legal = record { count = omega arith; bytes = omega arith }
sums-few s (e ∷ history) legal =
    let here = few-sent s e.session.0 e.ask e.reply legal.0 in
    let rest = sums-few (after s e) history legal.1 in
    let count = here.count in
    let bytes = here.bytes in
    let counts = rest.count in
    let sizes = rest.bytes in
    let all-counts = sum_by-cons count_sent e history in
    let all-bytes = sum_by-cons bytes_sent e history in
    record {
      count = omega (arith, count, counts, all-counts);
      bytes = omega (arith, bytes, sizes, all-bytes);
    }

pub counts-fit : (pool : ℕ) (history : List Entry) → IsLegal pool history
    → length history < 2 ^ 32 → sum_by count_sent history < 2 ^ 64
counts-fit pool history legal few =
    omega (arith, few, (sums-few (fresh_standing pool) history legal).count)

pub bytes-fit : (pool : ℕ) (history : List Entry) → IsLegal pool history
    → length history < 2 ^ 32 → sum_by bytes_sent history < 2 ^ 64
bytes-fit pool history legal few =
    omega (arith, few, (sums-few (fresh_standing pool) history legal).bytes)

-- Entries are gone through one after another.

module _ (f : Entry → ℕ) (entries : List Entry) (k : ℕ) (entry : Entry)
    (there : slice_get entries k ≡ Some entry) where
  pub sum-next : sum_by f (take (k + 1) entries) ≡ sum_by f (take k entries) + f entry
  sum-next =
      ap (sum_by f) (taken-next entries k entry there) ∙ sum_by_push f (take k entries) entry

  pub sum-within : sum_by f (take k entries) + f entry ≤ sum_by f entries
  sum-within =
      let next = sum-next in
      let all = sum_by-take-le f entries (k + 1) in
      omega (arith, next, all)
