-- In a legal history what is told of a port's frames is what the definitions of a history say.
use Rattle.std.proofs.Common.{ℕ, ◌+◌, ◌≡◌, Bool, true, false, cond, not, ◌&&◌, ◌==◌, List, [], ◌∷◌, ◌++◌, map, length, sum, count_by, flat_map, Option, Some, None, refl, sym, ◌∙◌, ap, arith, zero-add, add-zero, append_assoc, append-nil, length-append}
use Rattle.std.proofs.lemmas.List.Sums.{sum_by-append}
use Rattle.nm_types.specs.Frames.{Frame}
use Rattle.nm_types.specs.Names.{is_pipe_name}
use Rattle.nm_types.specs.declared.id.Counts.{Counts}
use Rattle.nm_types.specs.declared.id.PortId.{PortId}
use Rattle.vale_entry.specs.declared.entry.Ask.{Ask}
use Rattle.vale_entry.specs.declared.entry.Reply.{Reply}
use Rattle.vale_entry.specs.declared.entry.Entry.{Entry}
use Rattle.vale_entry.specs.World.{World, Port, changed_at, open_port}
use Rattle.vale_entry.specs.Learning.{is_short}
use Rattle.vale_entry.specs.Opening.{opened_port}
use Rattle.vale_entry.specs.Grant.{granted_frames, port_after_grant}
use Rattle.vale_entry.specs.Delivery.{port_after_done, port_after_sync}
use Rattle.vale_entry.specs.Closing.{shut, shutting_port}
use Rattle.vale_entry.specs.Pipe.{puts_to_port, frames_of_items, port_after_put}
use Rattle.vale_entry.specs.Legal.{Standing, Outcome, unchanged, sync_step, after, standing_of, world_of, IsLegal, Follows}
use Rattle.vale_entry.specs.Delivered.{of_entry, of_entry_in, gathered, Brought, frames_brought, count_brought, brought_to, given_frames, given_by, given_counts}
use Rattle.vale_entry.specs.Counted.{switched_by}
use Rattle.vale_entry.specs.Laws.{Rise, id_of_port, IsNumbered}
use Rattle.vale_entry.proofs.Counts.{replies-count}
use Rattle.vale_entry.proofs.Follows.{EachKind, Left, Receives, by_sync, by_get, IsQuiet, refused_open, resets, finds_no_peer, finds_no_target, finds_watched, counts, follows-by}
use Rattle.vale_entry.proofs.Numbered.{world-numbered}
use Rattle.vale_entry.proofs.Places.{open-place, shutting-place}
use Rattle.vale_entry.proofs.PortAt.{found-open, found-shutting}
use Rattle.vale_entry.proofs.Tells.{goes-to}
use Rattle.vale_entry.proofs.Told.{told-push, flat_map-push, history-by}
use Rattle.vale_entry.proofs.Worlds.{standing-push, count-world_of}
use Rattle.vale_told.specs.declared.ends.End.{End}
use Rattle.vale_told.specs.Ends.{ends_by, peer_among}
use Rattle.vale_told.specs.Told.{short_by, granted_by, is_port, put_by, puts_from}
use Rattle.vale_told.specs.Laws.{TellsCounters}
use Rattle.vale_told.proofs.PipeEnds.{end_of, ends_in, ends-append, ends-map, ends-changed, ends-shut, ends-without, id_of, peer-told}

-- One entry.

-- what an entry that follows on a world tells of each port, and what it makes of the ends
record Adds (w : World) (e : Entry) (next : World) : Type 0 where
  ends : ends_by (w.entry_count + 1) e.ask e.reply (ends_in w.ports) ≡ ends_in next.ports
  given :
      (port : ℕ)
      → sum (given_by port w e.ask e.reply)
      ≡ sum (granted_by port e.ask e.reply) + sum (put_by (ends_in w.ports) port e.ask e.reply)
  short : (port : ℕ) → sum (short_by port e.ask e.reply) ≡ count_by is_short (switched_by port e.ask e.reply)

none_sum : (b : Bool) → sum (cond b [] []) ≡ 0
none_sum true = refl
none_sum false = refl

abbrev IsAdded : Standing → Entry → Standing → Type 0
IsAdded s e next = Adds s.world e next.world

quiet-adds :
    (s : Standing) (ask : Ask) (session : ℕ) (reply : Reply) → IsQuiet s ask session reply
    → Left s (IsAdded s) ask (unchanged s session reply)
quiet-adds s _ _ _ (finds_no_peer at offered port e few gone) = record {
  ends = refl;
  given =
      λ to. none_sum (puts_to_port s.world.ports at.0 to)
      ∙ sym (ap (λ n. 0 + n) (none_sum (is_port (peer_among (ends_in s.world.ports) at.0) to)));
  short = λ to. refl;
}
quiet-adds s _ _ _ (refused_open session name tx rx extra fault can is) =
    record { ends = refl; given = λ to. refl; short = λ to. refl }
quiet-adds s _ _ _ (resets at side fault port e can) =
    record { ends = refl; given = λ to. refl; short = λ to. refl }
quiet-adds s _ _ _ (finds_no_target at target sides port e can none) =
    record { ends = refl; given = λ to. refl; short = λ to. refl }
quiet-adds s _ _ _ (finds_watched at target sides port found watch e can there some) =
    record { ends = refl; given = λ to. refl; short = λ to. refl }
quiet-adds s _ _ _ (counts at port e) =
    record { ends = refl; given = λ to. refl; short = λ to. refl }

opens-end : (ends : List End) (port : Port) (b : Bool) → is_pipe_name port.name ≡ b
    → port.shutting ≡ false
    → cond b (ends ++ end_of port ∷ []) ends ≡ ends ++ ends_in (port ∷ [])
opens-end ends port true is open' =
    ap (λ b. ends ++ cond b (end_of port ∷ []) [])
    (sym (ap (λ s. not s && is_pipe_name port.name) open' ∙ is))
opens-end ends port false is open' =
    sym
    (ap (λ b. ends ++ cond b (end_of port ∷ []) [])
    (ap (λ s. not s && is_pipe_name port.name) open' ∙ is)
    ∙ append-nil ends)

short_if : (frames : List Frame) (b : Bool)
    → sum (cond b (count_by is_short frames ∷ []) []) ≡ count_by is_short (cond b frames [])
short_if frames true = zero-add (count_by is_short frames)
short_if frames false = refl

no_open : (ports : List Port) (high id : ℕ) (port : Port) → Rise 0 (map id_of_port ports) high
    → shutting_port ports id ≡ Some port → (found : Option Port) → open_port ports id ≡ found
    → found ≡ None
no_open ports high id port r e None is = refl
no_open ports high id port r e (Some other) is =
    let shuts = shutting-place ports high id port r e in
    let opens = open-place ports high id other r is in
    let one = found-shutting ports high id port r e in
    let two = found-open ports high id other r is in
    let same : Some port ≡ Some other = sym one.here ∙ two.here in
    let port_is : port ≡ other = cc in
    let never : true ≡ false =
    sym shuts.shutting_is ∙ ap (λ (p : Port). p.shutting) port_is ∙ opens.shutting_is in
    absurd cc

receives-adds :
    (s : Standing) (ask : Ask) (at : PortId) (back : List ℕ) (made : Outcome) → Receives ask at back
    → ends_in s.world.ports ≡ ends_in made.next.world.ports → Left s (IsAdded s) ask made
receives-adds s _ _ _ made (by_sync at back) same =
    record { ends = same; given = λ to. refl; short = λ to. refl }
receives-adds s _ _ _ made (by_get at back) same =
    record { ends = same; given = λ to. refl; short = λ to. refl }

adds : (s : Standing) → IsNumbered s.world → EachKind s (Left s (IsAdded s))
adds s numbered = record {
  enters = λ user fits. record { ends = refl; given = λ to. refl; short = λ to. refl };
  quiet = quiet-adds s;
  opens =
      λ session name tx rx extra can none.
      let port = opened_port (s.world.entry_count + 1) session.0 name tx rx extra in record {
        ends =
            opens-end (ends_in s.world.ports) port (is_pipe_name name) refl refl
            ∙ sym (ends-append s.world.ports (port ∷ []));
        given = λ to. refl;
        short = λ to. refl;
      };
  sends = λ from frames port e can settled. record {
    ends = refl;
    given = λ to. refl;
    short = λ to. short_if frames (from.0 == to);
  };
  grants = λ origin to offer e same. record {
    ends =
        sym
        (ends-changed offer.to
        (port_after_grant (s.world.entry_count + 1) offer.session (granted_frames s.world offer))
        (λ port. refl) (λ port. refl) s.world.ports);
    given = λ port. sym (add-zero _);
    short = λ port. refl;
  };
  completes = λ lease lot e. record {
    ends = sym (ends-map (port_after_done lease.0) (λ port. refl) (λ port. refl) s.world.ports);
    given = λ port. refl;
    short = λ port. refl;
  };
  receives = λ ask at back port r e can.
      receives-adds s ask at back (sync_step s back port) r
      (sym
      (ends-changed port.id (port_after_sync (length back)) (λ p. refl) (λ p. refl) s.world.ports));
  puts = λ at offered items port peer e can found. record {
    ends =
        sym
        (ends-changed peer.id
        (port_after_put (s.world.entry_count + 1) port.session (frames_of_items items)) (λ p. refl)
        (λ p. refl) s.world.ports);
    given =
        λ to.
        ap (λ (b : Bool). sum (cond b (length items ∷ []) [])) (goes-to s.world.ports at.0 to port peer e found)
        ∙ sym (zero-add (sum (cond (peer.id == to) (length items ∷ []) [])))
        ∙ ap (λ (o : Option ℕ). 0 + sum (cond (is_port o to) (length items ∷ []) []))
        (sym
        (peer-told s.world.ports at.0 port e can.pipe
        ∙ ap id_of found));
    short = λ to. refl;
  };
  watches =
      λ at target sides port found e can there none.
      record { ends = refl; given = λ to. refl; short = λ to. refl };
  shuts = λ at port e settled. record {
    ends =
        ends-shut s.world.ports at.0
        ∙ ap (λ id. ends_in (changed_at id shut s.world.ports))
        (sym (found-open s.world.ports s.world.entry_count at.0 port numbered.ports_rise e).id_is);
    given = λ to. refl;
    short = λ to. refl;
  };
  finishes = λ at bufs chain port fits e can out. record {
    ends =
        sym
        (ends-without s.world.ports port.id
        (let found = found-shutting s.world.ports s.world.entry_count at.0 port numbered.ports_rise e in
        ap (open_port s.world.ports) found.id_is
        ∙ no_open s.world.ports s.world.entry_count at.0 port numbered.ports_rise e
        (open_port s.world.ports at.0) refl));
    given = λ to. refl;
    short = λ to. refl;
  };
  leaves = λ session can. record { ends = refl; given = λ to. refl; short = λ to. refl };
}

-- All entries.

abbrev ends_from : ℕ → List End → List Entry → List End
ends_from number ends [] = ends
ends_from number ends (entry ∷ entries) =
    ends_from (number + 1) (ends_by number entry.ask entry.reply ends) entries

ends-push : (number : ℕ) (ends : List End) (h : List Entry) (e : Entry)
    → ends_from number ends (h ++ e ∷ [])
    ≡ ends_by (number + length h) e.ask e.reply (ends_from number ends h)
ends-push number ends [] e =
    ap (λ n. ends_by n e.ask e.reply ends) (sym (add-zero number))
ends-push number ends (d ∷ ds) e =
    let later = ends_by number d.ask d.reply ends in
    let count : number + 1 + length ds ≡ number + length (d ∷ ds) = omega arith in
    ends-push (number + 1) later ds e
    ∙ ap (λ n. ends_by n e.ask e.reply (ends_from (number + 1) later ds)) count

puts-push : (number : ℕ) (ends : List End) (h : List Entry) (e : Entry) (port : ℕ)
    → puts_from number ends (h ++ e ∷ []) port
    ≡ puts_from number ends h port ++ put_by (ends_from number ends h) port e.ask e.reply
puts-push number ends [] e port = append-nil (put_by ends port e.ask e.reply)
puts-push number ends (d ∷ ds) e port =
    let later = ends_by number d.ask d.reply ends in
    ap (λ xs. put_by ends port d.ask d.reply ++ xs) (puts-push (number + 1) later ds e port)
    ∙ sym
    (append_assoc (put_by ends port d.ask d.reply) (puts_from (number + 1) later ds port)
    (put_by (ends_from (number + 1) later ds) port e.ask e.reply))

sum-append : (xs ys : List ℕ) → sum (xs ++ ys) ≡ sum xs + sum ys
sum-append xs ys = sum_by-append (λ (n : ℕ). n) xs ys

record AreTold (pool : ℕ) (h : List Entry) : Type 0 where
  ends : ends_from 1 [] h ≡ ends_in (world_of pool h).ports
  given :
      (port : ℕ)
      → sum (given_counts pool h port)
      ≡ sum (gathered granted_by h port) + sum (puts_from 1 [] h port)
  short :
      (port : ℕ)
      → sum (gathered short_by h port) ≡ count_by is_short (gathered switched_by h port)

told-keeps : (pool : ℕ) (h : List Entry) (e : Entry) → IsLegal pool h
    → Follows (standing_of pool h) e → AreTold pool h → AreTold pool (h ++ e ∷ [])
told-keeps pool h e legal follows k = record {
  ends =
      ends-push 1 [] h e
      ∙ ap (λ n. ends_by n e.ask e.reply (ends_from 1 [] h)) number
      ∙ ap (λ es. ends_by (w.entry_count + 1) e.ask e.reply es) k.ends
      ∙ one.ends
      ∙ ap (λ (s : Standing). ends_in s.world.ports) (sym (standing-push pool h e));
  given = given';
  short = short';
}
  where
    w : World
    w = world_of pool h

    one : Adds w e (after (standing_of pool h) e).world
    one =
        follows-by (standing_of pool h) (IsAdded (standing_of pool h)) e follows
        (adds (standing_of pool h) (world-numbered pool h))

    number : 1 + length h ≡ w.entry_count + 1
    number = omega (arith, count-world_of pool h)

    given' : (port : ℕ)
        → sum (given_counts pool (h ++ e ∷ []) port)
        ≡ sum (gathered granted_by (h ++ e ∷ []) port) + sum (puts_from 1 [] (h ++ e ∷ []) port)
    given' port =
        let grown = ap sum (told-push (of_entry_in given_by port) pool h e) in
        let parted = sum-append (given_counts pool h port) (given_by port w e.ask e.reply) in
        let granted = ap sum (flat_map-push (of_entry granted_by port) h e) in
        let grants = sum-append (gathered granted_by h port) (granted_by port e.ask e.reply) in
        let put = ap sum (puts-push 1 [] h e port) in
        let puts = sum-append (puts_from 1 [] h port) (put_by (ends_from 1 [] h) port e.ask e.reply) in
        let same = ap (λ es. sum (put_by es port e.ask e.reply)) k.ends in
        let here = one.given port in
        let before = k.given port in
        omega (arith, grown, parted, granted, grants, put, puts, same, here, before)

    short' : (port : ℕ)
        → sum (gathered short_by (h ++ e ∷ []) port)
        ≡ count_by is_short (gathered switched_by (h ++ e ∷ []) port)
    short' port =
        let grown = ap sum (flat_map-push (of_entry short_by port) h e) in
        let parted = sum-append (gathered short_by h port) (short_by port e.ask e.reply) in
        let sent = ap (count_by is_short) (flat_map-push (of_entry switched_by port) h e) in
        let counted = sum_by-append (λ (f : Frame). cond {A = ℕ} (is_short f) 1 0) (gathered switched_by h port) (switched_by port e.ask e.reply) in
        let here = one.short port in
        let before = k.short port in
        omega (arith, grown, parted, sent, counted, here, before)

all-told : (pool : ℕ) (h : List Entry) → IsLegal pool h → AreTold pool h
all-told pool h legal =
    history-by pool (AreTold pool) (told-keeps pool)
    (record { ends = refl; given = λ port. refl; short = λ port. refl }) h legal

abbrev counts_as : ℕ → ℕ → ℕ → ℕ → ℕ → ℕ → Counts
counts_as a b c d e f = record { sent = a; short = b; lone = c; given = d; full = e; read = f }

counts_as-same :
    (a b c d e f b' d' f' : ℕ) → b ≡ b' → d ≡ d' → f ≡ f'
    → counts_as a b c d e f ≡ counts_as a b' c d' e f'
counts_as-same a b c d e f b' d' f' p q r = rw (p, q, r) refl

brought-counted : (brought : List Brought)
    → length (flat_map frames_brought brought) ≡ sum (map count_brought brought)
brought-counted [] = refl
brought-counted (b ∷ bs) =
    length-append b.frames (flat_map frames_brought bs)
    ∙ ap (λ n. length b.frames + n) (brought-counted bs)
    ∙ ap (λ n. n + sum (map count_brought bs)) (sym (zero-add (length b.frames)))
    ∙ sym (sum-append (length b.frames ∷ []) (map count_brought bs))

pub tells-counters : TellsCounters
tells-counters pool h legal port =
    let told = all-told pool h legal in
    let counted = replies-count pool h legal port in
    let given : sum (gathered granted_by h port) + sum (puts_from 1 [] h port) ≡ length (given_frames pool h port) =
    sym (told.given port) ∙ ap sum (sym counted.given_counted) ∙ sym (brought-counted (brought_to pool h port)) in
    counts_as-same _ _ _ _ _ _ _ _ _ (told.short port) given (sym counted.read_counted)
