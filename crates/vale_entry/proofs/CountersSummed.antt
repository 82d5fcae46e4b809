-- The counters of a port that is there are what the entries of the history tell of it.
use Rattle.std.proofs.Common.{ℕ, ◌+◌, ◌<◌, ◌≤◌, ◌≡◌, ◌⊎◌, inl, inr, Bool, true, false, cond, not, ◌||◌, ◌==◌, List, [], ◌∷◌, ◌++◌, map, filter, length, sum, count_by, flat_map, Option, Some, None, refl, sym, ◌∙◌, ap, subst, arith, length-append}
use Rattle.std.specs.List.{list_any}
use Rattle.std.proofs.lemmas.Bool.{eqb-true, eqb-false, ne_eqb}
use Rattle.std.proofs.lemmas.List.{length-map}
use Rattle.std.proofs.lemmas.List.Sums.{sum_by-append}
use Rattle.std.proofs.lemmas.List.Folds.{list_any-append}
use Rattle.std.proofs.lemmas.Grind.{flat_map-append}
use Rattle.nm_types.specs.Frames.{Frame}
use Rattle.nm_types.specs.Counters.{zero_counts, sum_of_counts}
use Rattle.nm_types.specs.declared.id.Counts.{Counts}
use Rattle.nm_types.specs.declared.id.PortId.{PortId}
use Rattle.vale_entry.specs.declared.entry.Ask.{Ask}
use Rattle.vale_entry.specs.declared.entry.Ask.TheVariants.{Enter, Open, Send, Grant, Done, Shut, Finish, Leave, PutKept, Watch}
use Rattle.vale_entry.specs.declared.entry.Dest.{Dest}
use Rattle.vale_entry.specs.declared.entry.Item.{Item}
use Rattle.vale_entry.specs.declared.entry.Reply.{Reply}
use Rattle.vale_entry.specs.declared.entry.Reply.TheVariants.{Offered, Gave, Took, PeerGone}
use Rattle.vale_entry.specs.declared.entry.Entry.{Entry}
use Rattle.vale_entry.specs.World.{World, Port, Offer, PortCounts, open_port, space_of}
use Rattle.vale_entry.specs.Learning.{is_short}
use Rattle.vale_entry.specs.Lookup.{is_lone}
use Rattle.vale_entry.specs.Offers.{is_offer_of, dests_of}
use Rattle.vale_entry.specs.Grant.{first_offer, longest_fitting, given_at, grant_reply_at}
use Rattle.vale_entry.specs.Delivery.{delivered_frames}
use Rattle.vale_entry.specs.Pipe.{frame_of_item, frames_of_items, puts_to_port}
use Rattle.vale_entry.specs.Counters.{counts_if, count_sent, count_shared, count_gave_at, count_put, count_taken_at, counted_in, with_counted, counts_of}
use Rattle.vale_entry.specs.Delivered.{has_id, port_at, frames_at, Brought, frames_brought, brought_by, brought_to, read_by, read_frames, granted_of_offer, taken_of, of_entry, of_entry_in, gathered}
use Rattle.vale_entry.specs.Counted.{switched_by, piped_by, lone_by, count_full, full_by}
use Rattle.vale_entry.specs.Legal.{Standing, after, recorded_step, standing_of, world_of, named_of, offers_of_send, offers_of_sync, offers_of_put, unchanged, enter_step, open_step_by, send_step, grant_step, done_step, sync_step, put_step, watch_step, shut_step, finish_step, leave_step, IsLegal, Follows}
use Rattle.vale_entry.specs.Laws.{id_of_port, id_of_counted, IsTo}
use Rattle.vale_entry.specs.DeliveryLaws.{CountersAreSums}
use Rattle.vale_entry.proofs.Each.{each-find}
use Rattle.vale_entry.proofs.Worlds.{standing-push, count-standing_after}
use Rattle.vale_entry.proofs.Told.{told-push, flat_map-push, history-by}
use Rattle.vale_entry.proofs.Tells.{goes-to}
use Rattle.vale_entry.proofs.PortAt.{found-open, port_at-below, port_at-under, found-peer}
use Rattle.vale_entry.proofs.Numbered.{Numbered, world-numbered}
use Rattle.vale_entry.proofs.CountersKept.{moved-quiet, moved-read, counters-kept}
use Rattle.vale_entry.proofs.Follows.{EachKind, Left, entry_made, IsQuiet, finds_no_peer, Receives, by_sync, by_get, follows-by}

-- Counters of one port among those of all.

abbrev is_at : ℕ → PortCounts → Bool
is_at id c = c.port == id

abbrev of_six : ℕ → ℕ → ℕ → ℕ → ℕ → ℕ → Counts
of_six a b c d e f = record { sent = a; short = b; lone = c; given = d; full = e; read = f }

six :
    (a b c d e f a' b' c' d' e' f' : ℕ) → a ≡ a' → b ≡ b' → c ≡ c' → d ≡ d' → e ≡ e' → f ≡ f'
    → of_six a b c d e f ≡ of_six a' b' c' d' e' f'
six a b c d e f a' b' c' d' e' f' p q r s t u = rw (p, q, r, s, t, u) refl

there-counted :
    (w : World) (e : Entry) (id : ℕ) (cs : List PortCounts)
    → list_any (is_at id) (map (with_counted w e) cs) ≡ list_any (is_at id) cs
there-counted w e id [] = refl
there-counted w e id (c ∷ cs) = ap (λ (b : Bool). (c.port == id) || b) (there-counted w e id cs)

counts-counted :
    (w : World) (e : Entry) (id : ℕ) (cs : List PortCounts) → list_any (is_at id) cs ≡ true
    → counts_of (map (with_counted w e) cs) id ≡ sum_of_counts (counts_of cs id) (counted_in id w e)
counts-counted w e id [] there = absurd cc
counts-counted w e id (c ∷ cs) there = by_test (c.port == id) refl there (counts-counted w e id cs)
  where
    by_test : (b : Bool) → (c.port == id) ≡ b → (b || list_any (is_at id) cs) ≡ true
        →
        (list_any (is_at id) cs ≡ true
        → counts_of (map (with_counted w e) cs) id ≡ sum_of_counts (counts_of cs id)
        (counted_in id w e))
        → cond b (sum_of_counts c.counts (counted_in c.port w e))
        (counts_of (map (with_counted w e) cs) id)
        ≡ sum_of_counts (cond b c.counts (counts_of cs id)) (counted_in id w e)
    by_test true t found later =
        ap (λ (n : ℕ). sum_of_counts c.counts (counted_in n w e)) (eqb-true c.port id t)
    by_test false t found later = later found

counts-front :
    (cs more : List PortCounts) (id : ℕ) → list_any (is_at id) cs ≡ true
    → counts_of (cs ++ more) id ≡ counts_of cs id
counts-front [] more id there = absurd cc
counts-front (c ∷ cs) more id there = by_test (c.port == id) there (counts-front cs more id)
  where
    by_test :
        (b : Bool) → (b || list_any (is_at id) cs) ≡ true
        → (list_any (is_at id) cs ≡ true → counts_of (cs ++ more) id ≡ counts_of cs id)
        → cond b c.counts (counts_of (cs ++ more) id) ≡ cond b c.counts (counts_of cs id)
    by_test true found later = refl
    by_test false found later = later found

counts-behind :
    (cs more : List PortCounts) (id : ℕ) → list_any (is_at id) cs ≡ false
    → counts_of (cs ++ more) id ≡ counts_of more id
counts-behind [] more id there = refl
counts-behind (c ∷ cs) more id there = by_test (c.port == id) there (counts-behind cs more id)
  where
    by_test :
        (b : Bool) → (b || list_any (is_at id) cs) ≡ false
        → (list_any (is_at id) cs ≡ false → counts_of (cs ++ more) id ≡ counts_of more id)
        → cond b c.counts (counts_of (cs ++ more) id) ≡ counts_of more id
    by_test true missing later = absurd cc
    by_test false missing later = later missing

-- without the counters of one port
there-other : (gone id : ℕ) (cs : List PortCounts) → (gone ≡ id → ⊥)
    →
    (list_any (is_at id) (filter (λ (c : PortCounts). not (c.port == gone)) cs)
    ≡ list_any (is_at id) cs)
    × (counts_of (filter (λ (c : PortCounts). not (c.port == gone)) cs) id ≡ counts_of cs id)
there-other gone id [] other = (refl, refl)
there-other gone id (c ∷ cs) other = by_test (c.port == gone) refl (there-other gone id cs other)
  where
    left : List PortCounts
    left = filter (λ (d : PortCounts). not (d.port == gone)) cs

    by_test :
        (b : Bool) → (c.port == gone) ≡ b
        → (list_any (is_at id) left ≡ list_any (is_at id) cs) ×
        (counts_of left id ≡ counts_of cs id)
        →
        (list_any (is_at id) (cond (not b) (c ∷ left) left)
        ≡ ((c.port == id) || list_any (is_at id) cs))
        ×
        (counts_of (cond (not b) (c ∷ left) left) id ≡ cond (c.port == id) c.counts (counts_of cs id))
    by_test true t rest =
        let miss : (c.port == id) ≡ false =
        ne_eqb c.port id (λ same. other (sym (eqb-true c.port gone t) ∙ same)) in
        rw miss rest
    by_test false t rest = (
      ap (λ (b : Bool). (c.port == id) || b) rest.0,
      ap
          (λ (x : Counts). cond (c.port == id) c.counts x) rest.1,
    )

there-gone :
    (gone : ℕ) (cs : List PortCounts)
    → list_any (is_at gone) (filter (λ (c : PortCounts). not (c.port == gone)) cs) ≡ false
there-gone gone [] = refl
there-gone gone (c ∷ cs) = by_test (c.port == gone) refl (there-gone gone cs)
  where
    left : List PortCounts
    left = filter (λ (d : PortCounts). not (d.port == gone)) cs

    by_test :
        (b : Bool) → (c.port == gone) ≡ b → list_any (is_at gone) left ≡ false
        → list_any (is_at gone) (cond (not b) (c ∷ left) left) ≡ false
    by_test true t rest = rest
    by_test false t rest = rw t rest

-- What is told of a port, and what it counts.

record TellsAs (switched piped : List Frame) (lone : List ℕ) (brought : List Brought)
    (full : List ℕ) (read : List Frame) (c : Counts) : Type 0 where
  sent : c.sent ≡ length switched + length piped
  short : c.short ≡ count_by is_short switched
  alone : c.lone ≡ sum lone
  given : c.given ≡ length (flat_map frames_brought brought)
  filled : c.full ≡ sum full
  gave : c.read ≡ length read

nothing : TellsAs [] [] [] [] [] [] zero_counts
nothing =
    record { sent = refl; short = refl; alone = refl; given = refl; filled = refl; gave = refl }

both :
    (s1 s2 p1 p2 : List Frame) (l1 l2 : List ℕ) (b1 b2 : List Brought) (f1 f2 : List ℕ)
    (r1 r2 : List Frame) (c d : Counts)
    → TellsAs s1 p1 l1 b1 f1 r1 c → TellsAs s2 p2 l2 b2 f2 r2 d
    → TellsAs (s1 ++ s2) (p1 ++ p2) (l1 ++ l2) (b1 ++ b2) (f1 ++ f2) (r1 ++ r2) (sum_of_counts c d)
both s1 s2 p1 p2 l1 l2 b1 b2 f1 f2 r1 r2 c d x y =
    let switched = length-append s1 s2 in
    let piped = length-append p1 p2 in
    let short = sum_by-append (λ (f : Frame). cond {A = ℕ} (is_short f) 1 0) s1 s2 in
    let lone : sum (l1 ++ l2) ≡ sum l1 + sum l2 = sum_by-append (λ (n : ℕ). n) l1 l2 in
    let full : sum (f1 ++ f2) ≡ sum f1 + sum f2 = sum_by-append (λ (n : ℕ). n) f1 f2 in
    let frames = ap (λ (fs : List Frame). length fs) (flat_map-append frames_brought b1 b2) in
    let given = length-append (flat_map frames_brought b1) (flat_map frames_brought b2) in
    let read = length-append r1 r2 in
    record {
      sent = omega (arith, switched, piped, x.sent, y.sent);
      short = omega (arith, short, x.short, y.short);
      alone = omega (arith, lone, x.alone, y.alone);
      given = omega (arith, frames, given, x.given, y.given);
      filled = omega (arith, full, x.filled, y.filled);
      gave = omega (arith, read, x.gave, y.gave);
    }

-- what an entry tells of a port, and counts there
abbrev Tells : ℕ → World → Entry → Counts → Type 0
Tells id w e c =
    TellsAs (switched_by id e.ask e.reply) (piped_by id e.ask e.reply) (lone_by id e.ask e.reply)
    (brought_by id w e.ask e.reply) (full_by id e.ask e.reply) (read_by id w e.ask e.reply) c

tells-sent : (frames : List Frame) (lone : ℕ) (to : List Dest) (hit : Bool)
    → TellsAs (cond hit frames []) [] (cond hit (lone ∷ []) []) [] [] []
    (counts_if hit (count_sent frames (Offered (count_by is_short frames) lone to)))
tells-sent frames lone to true =
    record {
      sent = omega arith;
      short = refl;
      alone = omega arith;
      given = refl;
      filled = refl;
      gave = refl;
    }
tells-sent frames lone to false = nothing

shared-tells : (origin : ℕ) (found : Option Port) (frames : List Frame)
    → TellsAs [] [] [] (record { origin = origin; frames = given_at found frames } ∷ [])
    (count_full (grant_reply_at found frames)) [] (count_shared (grant_reply_at found frames))
shared-tells origin None frames =
    record { sent = refl; short = refl; alone = refl; given = refl; filled = refl; gave = refl }
shared-tells origin (Some port) frames =
    let size = length-append (longest_fitting (space_of port) frames) [] in
    record {
      sent = refl;
      short = refl;
      alone = refl;
      given = omega (arith, size);
      filled = omega arith;
      gave = refl;
    }

tells-shared : (origin : ℕ) (found : Option Port) (frames : List Frame) (hit : Bool)
    → TellsAs [] [] []
    (cond hit (record { origin = origin; frames = given_at found frames } ∷ []) [] ++ [])
    (cond hit (count_full (grant_reply_at found frames)) []) []
    (counts_if hit (count_shared (grant_reply_at found frames)))
tells-shared origin found frames true = shared-tells origin found frames
tells-shared origin found frames false = nothing

tells-read :
    (frames : List Frame) (to : List Dest) (hit : Bool)
    → TellsAs [] [] [] [] [] (cond hit frames [])
    (counts_if hit (count_gave_at (Gave (length frames) to)))
tells-read frames to true =
    record { sent = refl; short = refl; alone = refl; given = refl; filled = refl; gave = refl }
tells-read frames to false = nothing

tells-taken : (number : ℕ) (items : List Item) (to : List Dest) (mine there : Bool)
    → TellsAs [] (cond mine (frames_of_items items) []) []
    ([] ++ cond there (taken_of number (Took items to)) []) [] []
    (sum_of_counts (counts_if mine (count_put (Took items to)))
    (counts_if there (count_taken_at (Took items to))))
tells-taken number items to true true =
    let size = length-map items frame_of_item in
    let brought = length-append (frames_of_items items) [] in
    record {
      sent = omega (arith, size);
      short = refl;
      alone = refl;
      given = omega (arith, size, brought);
      filled = refl;
      gave = refl;
    }
tells-taken number items to true false =
    let size = length-map items frame_of_item in record {
      sent = omega (arith, size);
      short = refl;
      alone = refl;
      given = refl;
      filled = refl;
      gave = refl;
    }
tells-taken number items to false true =
    let size = length-map items frame_of_item in
    let brought = length-append (frames_of_items items) [] in
    record {
      sent = refl;
      short = refl;
      alone = refl;
      given = omega (arith, size, brought);
      filled = refl;
      gave = refl;
    }
tells-taken number items to false false = nothing

tells-gone : (number : ℕ) (mine there : Bool)
    → TellsAs [] (cond mine [] []) [] ([] ++ cond there (taken_of number PeerGone) []) [] []
    (sum_of_counts (counts_if mine (count_put PeerGone)) (counts_if there (count_taken_at PeerGone)))
tells-gone number true true = nothing
tells-gone number true false = nothing
tells-gone number false true = nothing
tells-gone number false false = nothing

-- What an entry does to the counters of one port.

record Sums (id count : ℕ) (cs : List PortCounts) (switched piped : List Frame) (lone : List ℕ)
    (brought : List Brought) (full : List ℕ) (read : List Frame) : Type 0 where
  counted :
      list_any (is_at id) cs ≡ true
      → TellsAs switched piped lone brought full read (counts_of cs id)
  future : count < id → TellsAs switched piped lone brought full read zero_counts

-- counts that are moved on: whichever stand later stood before, or are those of a port that is
-- opened
record Moves (id count : ℕ) (mapped later : List PortCounts) : Type 0 where
  stays :
      list_any (is_at id) later ≡ true
      → ((list_any (is_at id) mapped ≡ true) × (counts_of later id ≡ counts_of mapped id)) ⊎
      ((count < id) × (counts_of later id ≡ zero_counts))

kept : (id count : ℕ) (cs : List PortCounts) → Moves id count cs cs
kept id count cs = record { stays = λ there. inl (there, refl) }

opened :
    (id count : ℕ) (mapped : List PortCounts)
    → Moves id count mapped (mapped ++ (record { port = count + 1; counts = zero_counts }) ∷ [])
opened id count mapped = record { stays = λ there. by_test (list_any (is_at id) mapped) refl there }
  where
    new : List PortCounts
    new = (record { port = count + 1; counts = zero_counts }) ∷ []

    by_new :
        (b : Bool) → (count + 1 == id) ≡ b → list_any (is_at id) mapped ≡ false
        → (b || false) ≡ true → (count < id) × (counts_of (mapped ++ new) id ≡ zero_counts)
    by_new true t missing there =
        let same = eqb-true (count + 1) id t in
        let hit : counts_of new id ≡ zero_counts = rw t refl in
        (omega (arith, same), counts-behind mapped new id missing ∙ hit)
    by_new false t missing there = absurd cc

    by_test :
        (b : Bool) → list_any (is_at id) mapped ≡ b → list_any (is_at id) (mapped ++ new) ≡ true
        →
        ((list_any (is_at id) mapped ≡ true) × (counts_of (mapped ++ new) id ≡ counts_of mapped id))
        ⊎ ((count < id) × (counts_of (mapped ++ new) id ≡ zero_counts))
    by_test true t there = inl (t, counts-front mapped new id t)
    by_test false t there =
        let parts : (list_any (is_at id) mapped || ((count + 1 == id) || false)) ≡ true =
        sym (list_any-append (is_at id) mapped new) ∙ there in
        inr
        (by_new (count + 1 == id) refl t
        (ap (λ (b : Bool). b || ((count + 1 == id) || false)) (sym t) ∙ parts))

finished :
    (id count gone : ℕ) (mapped : List PortCounts)
    → Moves id count mapped (filter (λ (c : PortCounts). not (c.port == gone)) mapped)
finished id count gone mapped = record { stays = λ there. by_test (gone == id) refl there }
  where
    left : List PortCounts
    left = filter (λ (c : PortCounts). not (c.port == gone)) mapped

    by_test :
        (b : Bool) → (gone == id) ≡ b → list_any (is_at id) left ≡ true
        → ((list_any (is_at id) mapped ≡ true) × (counts_of left id ≡ counts_of mapped id)) ⊎
        ((count < id) × (counts_of left id ≡ zero_counts))
    by_test true t there =
        let none : list_any (is_at id) left ≡ false =
        subst (λ (n : ℕ). list_any (is_at n) left ≡ false) (eqb-true gone id t)
        (there-gone gone mapped) in
        absurd (let no : true ≡ false = sym there ∙ none in cc)
    by_test false t there =
        let same = there-other gone id mapped (eqb-false gone id t) in
        inl (sym same.0 ∙ there, same.1)

-- what is told with one entry more
abbrev More :
    ℕ → World → Entry → List Frame → List Frame → List ℕ → List Brought → List ℕ → List Frame
    → Counts → Type 0
More id w e s p l b f r c =
    TellsAs (s ++ switched_by id e.ask e.reply) (p ++ piped_by id e.ask e.reply)
    (l ++ lone_by id e.ask e.reply) (b ++ brought_by id w e.ask e.reply)
    (f ++ full_by id e.ask e.reply) (r ++ read_by id w e.ask e.reply) c

abbrev SumsMore :
    ℕ → World → Entry → List Frame → List Frame → List ℕ → List Brought → List ℕ → List Frame
    → List PortCounts → Type 0
SumsMore id w e s p l b f r later =
    Sums id (w.entry_count + 1) later (s ++ switched_by id e.ask e.reply)
    (p ++ piped_by id e.ask e.reply)
    (l ++ lone_by id e.ask e.reply) (b ++ brought_by id w e.ask e.reply)
    (f ++ full_by id e.ask e.reply) (r ++ read_by id w e.ask e.reply)

sums-next :
    (id : ℕ) (w : World) (e : Entry) (later : List PortCounts) (s p : List Frame) (l : List ℕ)
    (b : List Brought) (f : List ℕ) (r : List Frame)
    → Tells id w e (counted_in id w e) → (w.entry_count < id → counted_in id w e ≡ zero_counts)
    → Moves id w.entry_count (map (with_counted w e) w.counts) later
    → Sums id w.entry_count w.counts s p l b f r → SumsMore id w e s p l b f r later
sums-next id w e later s p l b f r tells beyond moves k = record {
  counted = λ there. by_case (moves.stays there);
  future = λ above. early (omega (arith, above));
}
  where
    early : w.entry_count < id → More id w e s p l b f r zero_counts
    early above =
        both s (switched_by id e.ask e.reply) p (piped_by id e.ask e.reply) l
        (lone_by id e.ask e.reply) b (brought_by id w e.ask e.reply) f
        (full_by id e.ask e.reply) r (read_by id w e.ask e.reply) zero_counts zero_counts
        (k.future above) (subst (λ (c : Counts). Tells id w e c) (beyond above) tells)

    by_case :
        ((list_any (is_at id) (map (with_counted w e) w.counts) ≡ true)
        × (counts_of later id ≡ counts_of (map (with_counted w e) w.counts) id))
        ⊎ ((w.entry_count < id) × (counts_of later id ≡ zero_counts))
        → More id w e s p l b f r (counts_of later id)
    by_case (inl stays) =
        let there : list_any (is_at id) w.counts ≡ true =
        sym (there-counted w e id w.counts) ∙ stays.0 in
        subst (λ (c : Counts). More id w e s p l b f r c)
        (sym (stays.1 ∙ counts-counted w e id w.counts there))
        (both s (switched_by id e.ask e.reply) p (piped_by id e.ask e.reply) l
        (lone_by id e.ask e.reply) b (brought_by id w e.ask e.reply) f
        (full_by id e.ask e.reply) r (read_by id w e.ask e.reply) (counts_of w.counts id)
        (counted_in id w e)
        (k.counted there) tells)
    by_case (inr new) = subst (λ (c : Counts). More id w e s p l b f r c) (sym new.1) (early new.0)

-- Each kind of entry.

none_if : (b : Bool) (c : Counts) → b ≡ false → counts_if b c ≡ zero_counts
none_if true c e = absurd cc
none_if false c e = refl

none_put :
    (mine there : Bool) (c d : Counts) → mine ≡ false → there ≡ false
    → sum_of_counts (counts_if mine c) (counts_if there d) ≡ zero_counts
none_put mine there c d one two = rw (one, two) refl

none_gone :
    (mine there : Bool)
    → sum_of_counts (counts_if mine zero_counts) (counts_if there zero_counts) ≡ zero_counts
none_gone true true = refl
none_gone true false = refl
none_gone false true = refl
none_gone false false = refl

tells-quiet :
    (s : Standing) (id : ℕ) (ask : Ask) (session : ℕ) (reply : Reply) → IsQuiet s ask session reply
    → Tells id s.world (entry_made ask (unchanged s session reply))
    (counted_in id s.world (entry_made ask (unchanged s session reply)))
tells-quiet s id _ _ _ (finds_no_peer at offered port e few gone) =
    tells-gone (s.world.entry_count + 1) (at.0 == id) (puts_to_port s.world.ports at.0 id)
tells-quiet s id _ _ _ _ = nothing

counts-quiet :
    (s : Standing) (id : ℕ) (ask : Ask) (session : ℕ) (reply : Reply) → IsQuiet s ask session reply
    → counted_in id s.world (entry_made ask (unchanged s session reply)) ≡ zero_counts
counts-quiet s id _ _ _ (finds_no_peer at offered port e few gone) =
    none_gone (at.0 == id) (puts_to_port s.world.ports at.0 id)
counts-quiet s id _ _ _ _ = refl

tells-granted : (w : World) (offer : Offer) (found : Option Offer) (hit : Bool) → found ≡ Some offer
    → TellsAs [] [] [] (cond hit (granted_of_offer w found) [] ++ [])
    (cond hit (count_full (grant_reply_at (open_port w.ports offer.to) offer.frames)) []) []
    (counts_if hit (count_shared (grant_reply_at (open_port w.ports offer.to) offer.frames)))
tells-granted w offer found hit e =
    rw e (tells-shared offer.origin (open_port w.ports offer.to) offer.frames hit)

tells-given : (found : Option Port) (port : Port) (to : List Dest) (hit : Bool) → found ≡ Some port
    → TellsAs [] [] [] [] [] (cond hit (frames_at delivered_frames found) [])
    (counts_if hit (count_gave_at (Gave (length (delivered_frames port)) to)))
tells-given found port to hit e = rw e (tells-read (delivered_frames port) to hit)

tells-receives :
    (s : Standing) (id : ℕ) (ask : Ask) (at : PortId) (back : List ℕ) (port : Port)
    → Receives ask at back → open_port s.world.ports at.0 ≡ Some port
    → Tells id s.world (entry_made ask (sync_step s back port))
    (counted_in id s.world (entry_made ask (sync_step s back port)))
tells-receives s id _ _ _ port (by_sync at back) e =
    tells-given (open_port s.world.ports at.0) port (dests_of (offers_of_sync s.world port))
    (at.0 == id) e
tells-receives s id _ _ _ port (by_get at back) e =
    tells-given (open_port s.world.ports at.0) port (dests_of (offers_of_sync s.world port))
    (at.0 == id) e

counts-receives :
    (s : Standing) (id : ℕ) (ask : Ask) (at : PortId) (back : List ℕ) (port : Port)
    → Receives ask at back → (at.0 == id) ≡ false
    → counted_in id s.world (entry_made ask (sync_step s back port)) ≡ zero_counts
counts-receives s id _ _ _ port (by_sync at back) other = none_if (at.0 == id) _ other
counts-receives s id _ _ _ port (by_get at back) other = none_if (at.0 == id) _ other

module _ (s : Standing) (id : ℕ) (sent piped : List Frame) (lone : List ℕ)
    (brought : List Brought) (full : List ℕ) (read : List Frame) (n : Numbered s)
    (k : Sums id s.world.entry_count s.world.counts sent piped lone brought full read) where
  abbrev w : World
  w = s.world

  abbrev KeepsSums : Entry → Standing → Type 0
  KeepsSums e left = SumsMore id w e sent piped lone brought full read left.world.counts

  made :
      (e : Entry) (later : List PortCounts) → Tells id w e (counted_in id w e)
      → (w.entry_count < id → counted_in id w e ≡ zero_counts)
      → Moves id w.entry_count (map (with_counted w e) w.counts) later
      → SumsMore id w e sent piped lone brought full read later
  made e later tells beyond moves =
      sums-next id w e later sent piped lone brought full read tells beyond moves k

  still :
      (e : Entry) → Tells id w e (counted_in id w e)
      → (w.entry_count < id → counted_in id w e ≡ zero_counts)
      → SumsMore id w e sent piped lone brought full read (map (with_counted w e) w.counts)
  still e tells beyond =
      made e (map (with_counted w e) w.counts) tells beyond
      (kept id w.entry_count (map (with_counted w e) w.counts))

  other : (n at : ℕ) → n ≤ w.entry_count → n ≡ at → w.entry_count < id → (at == id) ≡ false
  other n at under same above = ne_eqb at id (λ is. omega (arith, under, same, above, is))

  under-open :
      (at : ℕ) (port : Port) → open_port w.ports at ≡ Some port → w.entry_count < id
      → (at == id) ≡ false
  under-open at port e above =
      let found = found-open w.ports w.entry_count at port n.ports_rise e in
      other port.id at (port_at-below w.ports w.entry_count at port n.ports_rise found) found.id_is
      above

  kinds : EachKind s (Left s KeepsSums)
  kinds = record {
    enters = λ user fits. still (entry_made (Enter user) (enter_step s)) nothing (λ above. refl);
    quiet = λ ask session reply quiet.
        let e : Entry = entry_made ask (unchanged s session reply) in
        subst (λ (cs : List PortCounts). SumsMore id w e sent piped lone brought full read cs)
        (sym
        (moved-quiet s (w.entry_count + 1) ask session reply (map (with_counted w e) w.counts) quiet))
        (still e (tells-quiet s id ask session reply quiet)
        (λ above. counts-quiet s id ask session reply quiet));
    opens = λ session name tx rx extra can refusal.
        let e : Entry =
        entry_made (Open session name tx rx extra) (open_step_by None s session.0 name tx rx extra)
        in
        made e _ nothing (λ above. refl)
        (opened id w.entry_count (map (with_counted w e) w.counts));
    sends = λ from frames port e can settled.
        still (entry_made (Send from frames) (send_step s frames port))
        (tells-sent frames (count_by (is_lone w.ports port) (named_of w port frames))
        (dests_of (offers_of_send w port frames)) (from.0 == id))
        (λ above. none_if (from.0 == id) _ (under-open from.0 port e above));
    grants = λ origin to offer first same.
        let goes : offer.to ≤ w.entry_count =
        each-find (IsTo w.entry_count) (is_offer_of origin) w.offers offer n.offers_to first in
        still (entry_made (Grant origin to) (grant_step s offer))
        (tells-granted w offer (first_offer w origin) (to.0 == id) first)
        (λ above. none_if (to.0 == id) _ (other offer.to to.0 goes same above));
    completes =
        λ lease lot e. still (entry_made (Done lease) (done_step s lease.0 lot)) nothing
        (λ above. refl);
    receives = λ ask at back port receives e can.
        let x : Entry = entry_made ask (sync_step s back port) in
        subst (λ (cs : List PortCounts). SumsMore id w x sent piped lone brought full read cs)
        (sym
        (moved-read (w.entry_count + 1) ask at back (sync_step s back port).reply
        (map (with_counted w x) w.counts) receives))
        (still x (tells-receives s id ask at back port receives e)
        (λ above. counts-receives s id ask at back port receives (under-open at.0 port e above)));
    puts = λ at offered items port peer e can found.
        still (entry_made (PutKept at offered) (put_step s items port peer))
        (tells-taken (w.entry_count + 1) items
        (dests_of (offers_of_put w port (frames_of_items items))) (at.0 == id)
        (puts_to_port w.ports at.0 id))
        (λ above.
        none_put (at.0 == id) (puts_to_port w.ports at.0 id) _ _ (under-open at.0 port e above)
        (goes-to w.ports at.0 id port peer e found
        ∙ other peer.id peer.id
        (port_at-under w.ports w.entry_count peer.id peer n.ports_rise
        (found-peer w.ports w.entry_count port peer n.ports_rise found)) refl above));
    watches =
        λ at target sides port found e can there missing.
        still (entry_made (Watch at target sides) (watch_step s sides port found)) nothing
        (λ above. refl);
    shuts =
        λ at port e settled. still (entry_made (Shut at) (shut_step s port)) nothing
        (λ above. refl);
    finishes = λ at bufs chain port fits e can out.
        let x : Entry = entry_made (Finish at bufs chain) (finish_step s bufs port) in
        made x _ nothing (λ above. refl)
        (finished id w.entry_count at.0 (map (with_counted w x) w.counts));
    leaves =
        λ session can. still (entry_made (Leave session) (leave_step s session.0)) nothing
        (λ above. refl);
  }

-- The law.

abbrev SumsAt : ℕ → ℕ → List Entry → Type 0
SumsAt id pool h =
    Sums id (world_of pool h).entry_count (world_of pool h).counts (gathered switched_by h id)
    (gathered piped_by h id) (gathered lone_by h id) (brought_to pool h id) (gathered full_by h id)
    (read_frames pool h id)

sums-is :
    (id : ℕ) (w v : World) (s s' p p' : List Frame) (l l' : List ℕ) (b b' : List Brought)
    (f f' : List ℕ) (r r' : List Frame)
    → w ≡ v → s ≡ s' → p ≡ p' → l ≡ l' → b ≡ b' → f ≡ f' → r ≡ r'
    → Sums id v.entry_count v.counts s' p' l' b' f' r' → Sums id w.entry_count w.counts s p l b f r
sums-is id w v s s' p p' l l' b b' f f' r r' e1 e2 e3 e4 e5 e6 e7 k =
    rw (e1, e2, e3, e4, e5, e6, e7) k

sums-keeps :
    (id pool : ℕ) (h : List Entry) (e : Entry) → IsLegal pool h → Follows (standing_of pool h) e
    → SumsAt id pool h → SumsAt id pool (h ++ e ∷ [])
sums-keeps id pool h e legal follows k =
    let s = standing_of pool h in
    let n = world-numbered pool h in
    let next : SumsMore id s.world e (gathered switched_by h id) (gathered piped_by h id)
    (gathered lone_by h id) (brought_to pool h id) (gathered full_by h id) (read_frames pool h id)
    (after s e).world.counts =
    follows-by s
    (KeepsSums s id (gathered switched_by h id) (gathered piped_by h id) (gathered lone_by h id)
    (brought_to pool h id) (gathered full_by h id) (read_frames pool h id) n k) e follows
    (kinds s id (gathered switched_by h id) (gathered piped_by h id) (gathered lone_by h id)
    (brought_to pool h id) (gathered full_by h id) (read_frames pool h id) n k) in
    let count = count-standing_after s e (recorded_step s e.ask e.reply) in
    sums-is id (world_of pool (h ++ e ∷ [])) (after s e).world _ _ _ _ _ _ _ _ _ _ _ _
    (ap (λ (t : Standing). t.world) (standing-push pool h e))
    (flat_map-push (of_entry switched_by id) h e) (flat_map-push (of_entry piped_by id) h e)
    (flat_map-push (of_entry lone_by id) h e) (told-push (of_entry_in brought_by id) pool h e)
    (flat_map-push (of_entry full_by id) h e) (told-push (of_entry_in read_by id) pool h e)
    (rw count next)

history-sums : (id pool : ℕ) (h : List Entry) → IsLegal pool h → SumsAt id pool h
history-sums id pool h legal =
    history-by pool (SumsAt id pool) (sums-keeps id pool)
    (record { counted = λ there. absurd cc; future = λ above. nothing }) h legal

-- a port that is there has counters
any-keyed :
    {X : Type 0} (key : X → ℕ) (id : ℕ) (xs : List X)
    → list_any (λ x. key x == id) xs ≡ list_any (λ (m : ℕ). m == id) (map key xs)
any-keyed key id [] = refl
any-keyed key id (x ∷ xs) = ap (λ (b : Bool). (key x == id) || b) (any-keyed key id xs)

any-found :
    (id : ℕ) (ports : List Port) (port : Port) → port_at ports id ≡ Some port
    → list_any (has_id id) ports ≡ true
any-found id [] port e = absurd cc
any-found id (p ∷ ps) port e = by_test (p.id == id) e (any-found id ps port)
  where
    by_test :
        (b : Bool) → cond b (Some p) (port_at ps id) ≡ Some port
        → (port_at ps id ≡ Some port → list_any (has_id id) ps ≡ true)
        → (b || list_any (has_id id) ps) ≡ true
    by_test true e later = refl
    by_test false e later = later e

pub counters-sums : CountersAreSums
counters-sums pool h legal id port e =
    let w = world_of pool h in
    let there : list_any (is_at id) w.counts ≡ true =
    any-keyed id_of_counted id w.counts
    ∙
    (ap (λ (ns : List ℕ). list_any (λ (m : ℕ). m == id) ns) (counters-kept pool h legal)
    ∙ (sym (any-keyed id_of_port id w.ports) ∙ any-found id w.ports port e)) in
    let k = (history-sums id pool h legal).counted there in
    six _ _ _ _ _ _ _ _ _ _ _ _ k.sent k.short k.alone k.given k.filled k.gave
