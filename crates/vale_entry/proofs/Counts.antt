-- The replies of Grants and Syncs count the frames that are given and read.
use Rattle.std.proofs.Common.{ℕ, ◌+◌, ◌≡◌, Bool, true, false, cond, ◌==◌, List, [], ◌∷◌, ◌++◌, map, length, sum, Option, Some, None, refl, ◌∙◌, ap, arith, length-append}
use Rattle.std.proofs.lemmas.List.{map-append, length-map}
use Rattle.std.proofs.lemmas.List.Sums.{sum_by-append}
use Rattle.nm_types.specs.Frames.{Frame}
use Rattle.vale_entry.specs.declared.entry.Reply.TheVariants.{Gave}
use Rattle.vale_entry.specs.declared.entry.Dest.{Dest}
use Rattle.vale_entry.specs.declared.entry.Entry.{Entry}
use Rattle.vale_entry.specs.World.{World, Port, Offer, open_port}
use Rattle.vale_entry.specs.Grant.{first_offer, given_at, grant_reply, grant_reply_at}
use Rattle.vale_entry.specs.Delivery.{delivered_frames}
use Rattle.vale_entry.specs.Legal.{Standing, standing_of, world_of, IsLegal, Follows, sync_step, offers_of_sync}
use Rattle.vale_entry.specs.Offers.{dests_of}
use Rattle.vale_entry.specs.Delivered.{frames_at, Brought, count_brought, granted_of_offer, brought_by, brought_to, read_by, read_frames, count_given, given_by, given_counts, count_gave, gave_by, read_counts, of_entry, of_entry_in}
use Rattle.vale_entry.specs.DeliveryLaws.{AreCounted, RepliesCountFrames}
use Rattle.vale_entry.specs.Pipe.{frame_of_item, frames_of_items}
use Rattle.vale_entry.specs.declared.entry.Item.{Item}
use Rattle.vale_entry.proofs.Told.{told-push, flat_map-push, history-by}
use Rattle.vale_entry.proofs.Follows.{EachKind, Left, follows-by}
use Rattle.vale_entry.proofs.Tells.{tells-nothing, tells-received, tells-put}

-- what one entry grants and reads, and what its reply counts of it
abbrev Counted : ℕ → World → Entry → Standing → Type 0
Counted port w e left =
    AreCounted (brought_by port w e.ask e.reply) (given_by port w e.ask e.reply)
    (read_by port w e.ask e.reply) (gave_by port e.ask e.reply)

none : AreCounted [] [] [] []
none = record { given_counted = refl; read_counted = refl }

given_count-is :
    (found : Option Port) (frames : List Frame)
    → length (given_at found frames) ∷ [] ≡ count_given (grant_reply_at found frames)
given_count-is None frames = refl
given_count-is (Some port) frames = refl

grants : (w : World) (offer : Offer) (found : Option Offer) (hit : Bool) → found ≡ Some offer
    → AreCounted (cond hit (granted_of_offer w found) [] ++ [])
    (cond hit (count_given (grant_reply w offer)) []) [] []
grants w offer found true e =
    rw e
    (record {
      given_counted = given_count-is (open_port w.ports offer.to) offer.frames;
      read_counted = refl;
    })
grants w offer found false e = none

syncs : (port : Port) (found : Option Port) (to : List Dest) (hit : Bool) → found ≡ Some port
    → AreCounted [] [] (cond hit (frames_at delivered_frames found) [])
    (cond hit (count_gave (Gave (length (delivered_frames port)) to)) [])
syncs port found to true e = rw e (record { given_counted = refl; read_counted = omega arith })
syncs port found to false e = none

puts : (items : List Item) (number : ℕ) (hit : Bool)
    → AreCounted (cond hit (record { origin = number; frames = frames_of_items items } ∷ []) [])
    (cond hit (length items ∷ []) []) [] []
puts items number true =
    let count : length (frames_of_items items) ≡ length items = length-map items frame_of_item in
    record { given_counted = ap (λ (n : ℕ). n ∷ []) count; read_counted = refl }
puts items number false = none

counts : (s : Standing) (port : ℕ) → EachKind s (Left s (Counted port s.world))
counts s port = record {
  enters = λ user fits. none;
  quiet = λ ask session reply quiet.
      let tells = tells-nothing s ask session reply quiet in
      rw (tells.granted port, tells.put port, tells.given port, tells.read port, tells.gave port)
      none;
  opens = λ session name tx rx extra can refusal. none;
  sends = λ from frames sender e can settled. none;
  grants =
      λ origin to offer first same. grants s.world offer (first_offer s.world origin) (to.0 == port)
      first;
  completes = λ lease lot e. none;
  receives = λ ask at back reader receives e can.
      let tells = tells-received s ask at back (sync_step s back reader) receives in
      rw (tells.granted port, tells.put port, tells.given port, tells.read port, tells.gave port)
      (syncs reader (open_port s.world.ports at.0) (dests_of (offers_of_sync s.world reader))
      (at.0 == port) e);
  puts = λ at offered items sender peer e can found.
      let tells = tells-put s at offered items sender peer e found in
      rw (tells.granted port, tells.put port, tells.given port, tells.read port, tells.gave port)
      (puts items (s.world.entry_count + 1) (peer.id == port));
  watches = λ at target sides reader found e can there none'. none;
  shuts = λ at reader e settled. none;
  finishes = λ at bufs chain reader fits e can out. none;
  leaves = λ session can. none;
}

both :
    (granted more : List Brought) (given counts : List ℕ) (read frames : List Frame)
    (gave numbers : List ℕ)
    → AreCounted granted given read gave → AreCounted more counts frames numbers
    → AreCounted (granted ++ more) (given ++ counts) (read ++ frames) (gave ++ numbers)
both granted more given counts read frames gave numbers a b = record {
  given_counted =
      map-append count_brought granted more
      ∙
      (ap (λ (ns : List ℕ). ns ++ map count_brought more) a.given_counted
      ∙ ap (λ (ns : List ℕ). given ++ ns) b.given_counted);
  read_counted =
      let whole = length-append read frames in
      let total : sum (gave ++ numbers) ≡ sum gave + sum numbers =
      sum_by-append (λ (n : ℕ). n) gave numbers in
      omega (arith, whole, total, a.read_counted, b.read_counted);
}

counted-is :
    (granted gifts : List Brought) (given counts : List ℕ) (read frames : List Frame)
    (gave numbers : List ℕ)
    → granted ≡ gifts → given ≡ counts → read ≡ frames → gave ≡ numbers
    → AreCounted gifts counts frames numbers → AreCounted granted given read gave
counted-is granted gifts given counts read frames gave numbers a b c d k = rw (a, b, c, d) k

pub replies-count : RepliesCountFrames
replies-count pool h legal port =
    history-by pool
    (λ (h : List Entry).
    AreCounted (brought_to pool h port) (given_counts pool h port) (read_frames pool h port)
    (read_counts h port)) keeps none h legal
  where
    keeps :
        (h : List Entry) (e : Entry) → IsLegal pool h → Follows (standing_of pool h) e
        → AreCounted (brought_to pool h port) (given_counts pool h port) (read_frames pool h port)
        (read_counts h port)
        → AreCounted (brought_to pool (h ++ e ∷ []) port) (given_counts pool (h ++ e ∷ []) port)
        (read_frames pool (h ++ e ∷ []) port) (read_counts (h ++ e ∷ []) port)
    keeps h e legal follows k =
        let one =
        follows-by (standing_of pool h) (Counted port (world_of pool h)) e follows
        (counts (standing_of pool h) port) in
        counted-is _ _ _ _ _ _ _ _ (told-push (of_entry_in brought_by port) pool h e)
        (told-push (of_entry_in given_by port) pool h e)
        (told-push (of_entry_in read_by port) pool h e)
        (flat_map-push (of_entry gave_by port) h e)
        (both _ _ _ _ _ _ _ _ k one)
