-- The frames that a receive sync has brought: as many as it says, and no longer than frames are.
use Rattle.std.proofs.Common.{ℕ, ◌-◌, ◌≡◌, true, false, Bool, cond, ◌==◌, List, [], ◌∷◌, map, take, length, slice_get, Option, Some, None, refl, sym, ◌∙◌, ap, subst}
use Rattle.std.specs.Prelude.{◌&&◌, nat_le, option_and_then}
use Rattle.std.specs.List.{AllByRecursion as Each, list_all}
use Rattle.std.specs.Option.{option_map_or}
use Rattle.std.proofs.lemmas.List.{length-map}
use Rattle.nm_types.specs.declared.id.Side.TheVariants.{Rx}
use Rattle.nm_types.specs.Frames.{Frame}
use Rattle.nm_types.specs.OwnPorts.{OwnPort, OwnState, ring_on}
use Rattle.nm_types.specs.Limits.{most_frame_bytes}
use Rattle.nm_types.specs.Sendable.{AreFrames, is_frame}
use Rattle.vale_entry.specs.declared.entry.Ask.{Ask}
use Rattle.vale_entry.specs.declared.entry.Ask.TheVariants.{Sync, Get}
use Rattle.vale_entry.specs.declared.entry.Entry.{Entry}
use Rattle.vale_entry.specs.declared.entry.Reply.{Reply}
use Rattle.vale_entry.specs.World.{World, Port, is_open_at, open_port}
use Rattle.vale_entry.specs.Delivered.{frames_at, of_entry_in, read_by}
use Rattle.vale_entry.specs.Delivery.{delivered_frames}
use Rattle.vale_entry.specs.Laws.{LotHasFrames}
use Rattle.vale_entry.specs.Legal.{IsLegal, world_of, fresh_standing}
use Rattle.vale_entry.proofs.Each.{each-find}
use Rattle.vale_entry.proofs.LinesOfFrames.{delivered-whole, lines-have_frames}
use Rattle.vale_entry.proofs.Worlds.{legal-take}
use Rattle.nm_user.specs.declared.receiving.Received.{Received}
use Rattle.nm_user.specs.Receives.{HasPort, IsReceived}
use Rattle.nm_user.specs.Saving.{bytes_of_frame, frames_from, read_of}
use Rattle.nm_user.specs.Sessions.{SessionState, IsThere}
use Rattle.nm_user.proofs.SavingRead.{is-read, received-are-read}
use Rattle.vale_player.specs.Kept.{AreReceived, HasReceived, SavesBy, rx_tail, tail_of_ring}

-- where a port's ring ends
pub tail-is : (own : OwnState) (id : ℕ) (at : HasPort own id) → rx_tail own id ≡ at.port.rx.ring.tail
tail-is own id at = ap (λ (o : Option OwnPort). option_map_or tail_of_ring (option_and_then (ring_on Rx) o) 0) at.found

-- ---- what an entry reads are frames

abbrev LineHasFrames : Port → Type 0
LineHasFrames port = Each LotHasFrames port.line

found-fit : (ports : List Port) (id : ℕ) → Each LineHasFrames ports → AreFrames (frames_at delivered_frames (open_port ports id))
found-fit ports id whole = by (open_port ports id) refl
  where
    by : (found : Option Port) → open_port ports id ≡ found → AreFrames (frames_at delivered_frames found)
    by None e = refl
    by (Some p) e = delivered-whole p (each-find LineHasFrames (is_open_at id) ports p whole e)

either-fit : (b : Bool) (frames : List Frame) → AreFrames frames → AreFrames (cond b frames [])
either-fit true frames fit = fit
either-fit false frames fit = refl

reads-fit : (id : ℕ) (w : World) (ask : Ask) (reply : Reply) → Each LineHasFrames w.ports → AreFrames (read_by id w ask reply)
reads-fit id w (Sync at back) reply whole = either-fit (at.0 == id) (frames_at delivered_frames (open_port w.ports at.0)) (found-fit w.ports at.0 whole)
reads-fit id w (Get at back) reply whole = either-fit (at.0 == id) (frames_at delivered_frames (open_port w.ports at.0)) (found-fit w.ports at.0 whole)
reads-fit id w _ reply whole = refl

read-fit : (pool : ℕ) (history : List Entry) (id number : ℕ) → IsLegal pool history → AreFrames (read_of pool history id number)
read-fit pool history id number legal = by (slice_get history (number - 1))
  where
    before : List Entry
    before = take (number - 1) history

    by : (found : Option Entry) → AreFrames (option_map_or (of_entry_in read_by id (world_of pool before)) found [])
    by None = refl
    by (Some e) = reads-fit id (world_of pool before) e.ask e.reply (lines-have_frames pool before (legal-take (fresh_standing pool) history (number - 1) legal)).lines

-- ---- and so are those that stand in the ring

abbrev is-short : List ℕ → Bool
is-short bytes = nat_le (length bytes) most_frame_bytes

told-fit : (frames : List Frame) → list_all is_frame frames ≡ list_all is-short (map bytes_of_frame frames)
told-fit [] = refl
told-fit (frame ∷ frames) = ap (λ (b : Bool). is_frame frame && b) (told-fit frames)

pub are-received : (s t : SessionState) (id : ℕ) (received : Received) → IsThere None s → IsThere None t → (is : IsReceived s t id received)
    → AreReceived received (frames_from t.own id is.at.port.rx.ring.tail)
are-received s t id received here there is =
    let read = read_of t.fixed.pool t.knows.seen id received.entry in
    let found = frames_from t.own id is.at.port.rx.ring.tail in
    let same : map bytes_of_frame found ≡ map bytes_of_frame read = received-are-read s t id received here there is in
    record {
      count = (is-read there is).gave ∙ (sym (length-map read bytes_of_frame) ∙ (ap (λ (all : List (List ℕ)). length all) (sym same) ∙ length-map found bytes_of_frame));
      fit = told-fit found ∙ (ap (list_all is-short) same ∙ (sym (told-fit read) ∙ read-fit t.fixed.pool t.knows.seen id received.entry there.legal));
    }

pub has-received : (s t : SessionState) (at : ℕ) (got : Option Received) → IsThere None s → SavesBy s t at got → HasReceived t.own at (rx_tail s.own at) got
has-received s t at None here saves = tt
has-received s t at (Some received) here saves =
    subst (λ (tail : ℕ). AreReceived received (frames_from t.own at tail)) (sym (tail-is s.own at saves.0.at)) (are-received s t at received here saves.1 saves.0)
