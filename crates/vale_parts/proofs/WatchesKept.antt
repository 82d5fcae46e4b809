-- What each entry makes of the watches keeps whom they name.
use Rattle.std.proofs.Common.{ℕ, ◌≡◌, List, [], ◌∷◌, ◌++◌, None, Some, refl, sym, ◌∙◌, ap, subst}
use Rattle.nm_types.specs.declared.id.PortId.{PortId}
use Rattle.nm_types.specs.declared.id.Sides.{Sides}
use Rattle.nm_types.specs.declared.id.Side.TheVariants.{Tx, Rx}
use Rattle.nm_watch.specs.Watching.{Watching, watch_of, watch_after_add, watch_after_forget}
use Rattle.vale_entry.specs.declared.entry.Ask.{Ask}
use Rattle.vale_entry.specs.declared.entry.Reply.{Reply}
use Rattle.vale_entry.specs.declared.entry.Entry.{Entry}
use Rattle.vale_entry.specs.World.{World, Port, open_port}
use Rattle.vale_entry.specs.Monitors.{watch_of as watcher_of}
use Rattle.vale_entry.specs.Closing.{watches_without}
use Rattle.vale_entry.specs.Legal.{Standing, after, standing_of, world_of, Follows, sync_step}
use Rattle.vale_entry.proofs.Places.{open-place}
use Rattle.vale_entry.proofs.Worlds.{standing-push}
use Rattle.vale_entry.proofs.Numbered.{Numbered}
use Rattle.vale_entry.proofs.Watched.{Watched}
use Rattle.vale_entry.proofs.HistoryLaws.{history-stands}
use Rattle.vale_entry.proofs.Follows.{EachKind, Left, IsQuiet, refused_open, resets, finds_no_peer, finds_no_target, finds_watched, counts, Receives, by_sync, by_get, follows-by}
use Rattle.vale_parts.specs.Ids.{port_id}
use Rattle.vale_parts.specs.WorldWatches.{WatchesAre, AreWatchesAfter}
use Rattle.vale_parts.specs.WatchLaws.{WatchesFollow, WatchedAreWatched}
use Rattle.vale_parts.proofs.WatchSides.{side_monitor, side-same, side-more, side-less, watched-same}

abbrev AreSame : Watching → Watching → Type 0
AreSame watching next = (port : ℕ) → watch_of next port ≡ watch_of watching port

quiet_watches : (s : Standing) (watching next : Watching) (ask : Ask) (session : ℕ) (reply : Reply) → IsQuiet s ask session reply → AreWatchesAfter ask reply watching next → AreSame watching next
quiet_watches s watching next _ _ _ (counts at port e) same = same
quiet_watches s watching next _ _ _ _ same = same

read_watches : (watching next : Watching) (ask : Ask) (at : PortId) (back : List ℕ) (reply : Reply) → Receives ask at back → AreWatchesAfter ask reply watching next → AreSame watching next
read_watches watching next _ _ _ reply (by_sync at back) same = same
read_watches watching next _ _ _ reply (by_get at back) same = same

module _ (s : Standing) (n : Numbered s) (k : Watched s) (watching next : Watching) (are : WatchesAre s.world watching) where
  abbrev w : World
  w = s.world

  abbrev Kept : Entry → Standing → Type 0
  Kept e left = AreWatchesAfter e.ask e.reply watching next → WatchesAre left.world next

  same_watches : (other : World) → other.watches ≡ w.watches → AreSame watching next → WatchesAre other next
  same_watches other e same =
      let tx = side-same w.watches watching next Tx same are.transmit in
      let rx = side-same w.watches watching next Rx same are.receive in
      record {
        transmit = λ port. tx port ∙ sym (ap (λ ws. side_monitor ws Tx port) e);
        receive = λ port. rx port ∙ sym (ap (λ ws. side_monitor ws Rx port) e);
      }

  watch_more : (at : PortId) (sides : Sides) (port found : Port) → open_port w.ports at.0 ≡ Some port → watcher_of w.watches found.id ≡ None
      → ((p : ℕ) → watch_of next p ≡ watch_after_add watching (port_id found.id) at sides p)
      → WatchesAre (record w { watches = w.watches ++ (record { monitor = port.id; target = found.id; sides = sides }) ∷ [] }) next
  watch_more at sides port found e none added =
      let id = (open-place w.ports w.entry_count at.0 port n.ports_rise e).id_is in
      let tx = side-more w.watches watching next Tx (port_id found.id) at sides none added are.transmit in
      let rx = side-more w.watches watching next Rx (port_id found.id) at sides none added are.receive in
      record {
        transmit = λ p. tx p ∙ ap (λ (m : ℕ). side_monitor (w.watches ++ (record { monitor = m; target = found.id; sides = sides }) ∷ []) Tx p) (sym id);
        receive = λ p. rx p ∙ ap (λ (m : ℕ). side_monitor (w.watches ++ (record { monitor = m; target = found.id; sides = sides }) ∷ []) Rx p) (sym id);
      }

  watch_less : (at : PortId) (port : Port) → open_port w.ports at.0 ≡ Some port → ((p : ℕ) → watch_of next p ≡ watch_after_forget watching at p)
      → WatchesAre (record w { watches = watches_without port.id w.watches }) next
  watch_less at port e forgot =
      let id = (open-place w.ports w.entry_count at.0 port n.ports_rise e).id_is in
      let tx = side-less w.watches watching next Tx at k.once forgot are.transmit in
      let rx = side-less w.watches watching next Rx at k.once forgot are.receive in
      record {
        transmit = λ p. tx p ∙ ap (λ (g : ℕ). side_monitor (watches_without g w.watches) Tx p) (sym id);
        receive = λ p. rx p ∙ ap (λ (g : ℕ). side_monitor (watches_without g w.watches) Rx p) (sym id);
      }

  seen : (other : World) → WatchesAre (record w { watches = other.watches }) next → WatchesAre other next
  seen other is = record { transmit = is.transmit; receive = is.receive }

  kinds : EachKind s (Left s Kept)
  kinds = record {
    enters = λ user fits same. seen _ (same_watches w refl same);
    quiet = λ ask session reply quiet same. seen _ (same_watches w refl (quiet_watches s watching next ask session reply quiet same));
    opens = λ session name tx rx extra can refusal same. seen _ (same_watches w refl same);
    sends = λ from frames port e can settled same. seen _ (same_watches w refl same);
    grants = λ origin to offer first here same. seen _ (same_watches w refl same);
    completes = λ lease lot e same. seen _ (same_watches w refl same);
    receives = λ ask at back port receives e can same. seen _ (same_watches w refl (read_watches watching next ask at back (sync_step s back port).reply receives same));
    puts = λ at offered items port peer e can found same. seen _ (same_watches w refl same);
    watches = λ at target sides port found e can there none added. seen _ (watch_more at sides port found e none added);
    shuts = λ at port e settled forgot. seen _ (watch_less at port e forgot);
    finishes = λ at bufs chain port fits e can out same. seen _ (same_watches w refl same);
    leaves = λ session can same. seen _ (same_watches w refl same);
  }

  pub kept : (e : Entry) → Follows s e → Kept e (after s e)
  kept e follows = follows-by s Kept e follows kinds

pub watches_follow : WatchesFollow
watches_follow pool h e watching next legal follows are made =
    let s = standing_of pool h in
    let k = history-stands pool h legal in
    subst (λ (t : Standing). WatchesAre t.world next) (sym (standing-push pool h e)) (kept s k.numbered k.watched watching next are e follows made)

pub watched_are_watched : WatchedAreWatched
watched_are_watched pool h watching port legal are =
    let w = world_of pool h in
    watched-same w.watches watching port ((history-stands pool h legal).watched.once port) are.transmit are.receive
