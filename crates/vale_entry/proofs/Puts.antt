-- What a Put brings to a port is brought once, under the number of its entry, and is not wanted
-- there beside: a monitor is no pipe end.
use Rattle.std.proofs.Common.{ℕ, ◌+◌, ◌<◌, ◌≤◌, ◌≡◌, ◌⊎◌, inl, inr, Bool, true, false, cond, not, ◌&&◌, ◌==◌, List, [], ◌∷◌, ◌++◌, map, length, take, filter, find, Option, Some, None, refl, sym, ◌∙◌, ap, subst, arith, append-nil, append_assoc}
use Rattle.std.proofs.lemmas.List.Elements.{filter-append}
use Rattle.std.proofs.lemmas.Bool.{and_parts, eqb-true, eqb-false, eq-eqb, ne_eqb}
use Rattle.nm_types.specs.Frames.{Frame}
use Rattle.nm_types.specs.Names.{is_pipe_name, is_monitor_name, kind_of, is_pipe_kind, is_monitor_kind}
use Rattle.nm_types.specs.declared.name.Kind.{Kind}
use Rattle.nm_types.specs.declared.name.Kind.TheVariants.{Monitor}
use Rattle.vale_entry.specs.declared.entry.Entry.{Entry}
use Rattle.nm_types.specs.declared.id.Side.TheVariants.{Tx}
use Rattle.nm_types.specs.Sides.{watches_side}
use Rattle.vale_entry.specs.World.{World, Port, Watch as Watcher, is_open_at, open_port, monitor_id, transmit_monitor}
use Rattle.vale_entry.specs.Offers.{wanted_if, monitored_frames}
use Rattle.vale_entry.specs.Pipe.{peer_of, frames_of_items}
use Rattle.vale_entry.specs.Legal.{Standing, standing_of, world_of, sync_step, IsLegal, Follows}
use Rattle.vale_entry.specs.Delivered.{port_at, frames_at, Brought, frames_brought, granted_by, put_by, brought_by, brought_to, of_entry_in}
use Rattle.vale_entry.specs.Fate.{wanted_of_put, wanted_in, wanted_at, Share, shares_at, is_brought_of, granted_at, puts_at}
use Rattle.vale_entry.specs.Laws.{Rise, id_of_port, is_monitor_open, IsWatch, AreWatches}
use Rattle.vale_entry.specs.DeliveryLaws.{PutsBringOnce}
use Rattle.vale_entry.proofs.Worlds.{standing-push}
use Rattle.vale_entry.proofs.Told.{told-push, history-by}
use Rattle.vale_entry.proofs.ListLaws.{place-of, each-at}
use Rattle.vale_entry.proofs.Follows.{EachKind, Left, follows-by}
use Rattle.vale_entry.proofs.Tells.{tells-nothing, tells-received, tells-put}
use Rattle.vale_entry.proofs.Places.{peer-place}
use Rattle.vale_entry.proofs.PortAt.{found-peer}
use Rattle.vale_entry.proofs.Numbered.{Numbered, world-numbered}
use Rattle.vale_entry.proofs.Shares.{no_items, no_image}
use Rattle.vale_entry.proofs.SharedOnce.{history-account}
use Rattle.vale_entry.proofs.Watched.{Watched, only-place, any-each}
use Rattle.vale_entry.proofs.HistoryLaws.{history-stands}

-- A monitor's name is no pipe's.

kinds_apart : (kind : Option Kind) → is_pipe_kind kind ≡ true → is_monitor_kind kind ≡ true → ⊥
kinds_apart (Some Monitor) pipe monitor = absurd cc
kinds_apart _ pipe monitor = absurd cc

names-apart : (name : List ℕ) → is_pipe_name name ≡ true → is_monitor_name name ≡ true → ⊥
unfolding is_pipe_name is_monitor_name
names-apart name pipe monitor = kinds_apart (kind_of name) pipe monitor

-- a port that watches is none of a pipe
not_watching :
    (ports : List Port) (high : ℕ) (port peer : Port) (watch : Watcher)
    → Rise 0 (map id_of_port ports) high → peer_of ports port ≡ Some peer → IsWatch ports watch
    → watch.monitor ≡ peer.id → ⊥
not_watching ports high port peer watch r found k same =
    let p = peer-place ports high port peer r found in
    let monitor =
    any-each (is_monitor_open watch.monitor) (λ (q : Port). q.id ≡ peer.id → q ≡ peer) ports
    (only-place ports high p.place peer r p.here) k.monitor in
    let tests =
    and_parts (is_open_at watch.monitor monitor.x) (is_monitor_name monitor.x.name) monitor.passes
    in
    let id = and_parts (monitor.x.id == watch.monitor) (not monitor.x.shutting) tests.0 in
    let is : monitor.x ≡ peer = monitor.holds (eqb-true monitor.x.id watch.monitor id.0 ∙ same) in
    names-apart peer.name p.is_pipe (subst (λ (q : Port). is_monitor_name q.name ≡ true) is tests.1)

no_frames :
    (watches : Option Watcher) (frames : List Frame) (peer : Port)
    → ((watch : Watcher) → watches ≡ Some watch → watch.monitor ≡ peer.id → ⊥)
    → monitored_frames (monitor_id watches) frames peer ≡ []
no_frames None frames peer apart = refl
no_frames (Some watch) frames peer apart = by_test (peer.id == watch.monitor) refl
  where
    by_test : (b : Bool) → (peer.id == watch.monitor) ≡ b → wanted_if b frames ≡ []
    by_test true t = absurd (apart watch refl (sym (eqb-true peer.id watch.monitor t)))
    by_test false t = refl

-- so a put's frames are not wanted at its other end
unwanted :
    (w : World) (high at to : ℕ) (port peer : Port) (frames : List Frame)
    → Rise 0 (map id_of_port w.ports) high → AreWatches w.ports w.watches
    → open_port w.ports at ≡ Some port → peer_of w.ports port ≡ Some peer → (peer.id == to) ≡ true
    → wanted_of_put w frames to (open_port w.ports at) ≡ []
unwanted w high at to port peer frames r k e found hit =
    let here : port_at w.ports to ≡ Some peer =
    subst (λ (n : ℕ). port_at w.ports n ≡ Some peer) (eqb-true peer.id to hit)
    (found-peer w.ports high port peer r found) in
    let none = no_frames
    (find (λ (watch : Watcher). (watch.target == port.id) && watches_side watch.sides Tx) w.watches)
    frames peer
    (λ watch is same.
    let p =
    place-of (λ (watch : Watcher). (watch.target == port.id) && watches_side watch.sides Tx)
    w.watches watch is in
    not_watching w.ports high port peer watch r found
    (each-at (IsWatch w.ports) w.watches p.place watch k.each p.here) same) in
    ap (λ (o : Option Port). wanted_of_put w frames to o) e ∙
    (ap (frames_at (monitored_frames (transmit_monitor w port.id) frames)) here ∙ none)

-- What is put of one entry at one port.

pub record IsPut (number count : ℕ) (wanted : List Frame) (puts granted brought : List Brought)
    : Type 0 where
  pub once : length puts ≤ 1
  pub alone : (puts ≡ []) ⊎ (wanted ≡ [])
  pub parts : brought ≡ puts ++ granted
  pub future : count < number → puts ≡ []

-- one more that puts nothing
put-still :
    (number count : ℕ) (wanted more : List Frame) (puts granted brought gift : List Brought)
    → (count + 1 ≡ number → wanted ≡ []) → (b : Bool) → (count + 1 == number) ≡ b
    → IsPut number count wanted puts granted brought
    → IsPut number (count + 1) (wanted ++ cond b more []) (puts ++ []) (granted ++ gift)
    (brought ++ gift)
put-still number count wanted more puts granted brought gift none true t k =
    let mine : count + 1 ≡ number = eqb-true (count + 1) number t in
    let nothing : puts ≡ [] = k.future (omega (arith, mine)) in
    rw (append-nil puts) (record {
      once = k.once;
      alone = inl nothing;
      parts = ap (λ (xs : List Brought). xs ++ gift) k.parts ∙ append_assoc puts granted gift;
      future = λ above. nothing;
    })
put-still number count wanted more puts granted brought gift none false t k =
    rw (append-nil puts, append-nil wanted) (record {
      once = k.once;
      alone = k.alone;
      parts = ap (λ (xs : List Brought). xs ++ gift) k.parts ∙ append_assoc puts granted gift;
      future = λ above. k.future (omega (arith, above));
    })

one-gift :
    (number : ℕ) (gift : Brought) (hit : Bool) → (gift.origin == number) ≡ true
    → filter (is_brought_of number) (cond hit (gift ∷ []) []) ≡ cond hit (gift ∷ []) []
one-gift number gift true t = rw t refl
one-gift number gift false t = refl

no-gift :
    (number : ℕ) (gift : Brought) (hit : Bool) → (gift.origin == number) ≡ false
    → filter (is_brought_of number) (cond hit (gift ∷ []) []) ≡ []
no-gift number gift true t = rw t refl
no-gift number gift false t = refl

few-gift : (gift : Brought) (hit : Bool) → length (cond hit (gift ∷ []) []) ≤ 1
few-gift gift true = omega arith
few-gift gift false = omega arith

-- a put of another entry, and the one of this number
put-puts :
    (number count : ℕ) (wanted more : List Frame) (puts granted brought : List Brought)
    (gift : Brought) (hit : Bool)
    → gift.origin ≡ count + 1
    → (hit ≡ true → more ≡ []) → (count + 1 ≡ number → (wanted ≡ []) × (granted ≡ [])) → (b : Bool)
    → (count + 1 == number) ≡ b
    → IsPut number count wanted puts granted brought
    → IsPut number (count + 1) (wanted ++ cond b more [])
    (puts ++ filter (is_brought_of number) (cond hit (gift ∷ []) [])) (granted ++ [])
    (brought ++ filter (is_brought_of number) (cond hit (gift ∷ []) []))
put-puts number count wanted more puts granted brought gift hit mine unwanted none true t k =
    let same : count + 1 ≡ number = eqb-true (count + 1) number t in
    let nothing : puts ≡ [] = k.future (omega (arith, same)) in
    let empty = none same in
    let all : brought ≡ [] =
    k.parts ∙ (ap (λ (xs : List Brought). xs ++ granted) nothing ∙ empty.1) in
    rw (nothing, empty.0, empty.1, all, one-gift number gift hit (eq-eqb gift.origin number (mine ∙ same))) (record {
      once = few-gift gift hit;
      alone = by_hit hit unwanted;
      parts = sym (append-nil (cond hit (gift ∷ []) []));
      future = λ above. absurd (omega (arith, above, same));
    })
  where
    by_hit : (b : Bool) → (b ≡ true → more ≡ []) → (cond b (gift ∷ []) [] ≡ []) ⊎ (more ≡ [])
    by_hit true none = inr (none refl)
    by_hit false none = inl refl
put-puts number count wanted more puts granted brought gift hit mine unwanted none false t k =
    let other : (gift.origin == number) ≡ false =
    ne_eqb gift.origin number (λ e. eqb-false (count + 1) number t (sym mine ∙ e)) in
    rw (no-gift number gift hit other, append-nil puts, append-nil wanted, append-nil granted, append-nil brought) (record {
      once = k.once;
      alone = k.alone;
      parts = k.parts;
      future = λ above. k.future (omega (arith, above));
    })

-- Each kind of entry.

abbrev KeptPuts :
    ℕ → ℕ → World → List Frame → List Brought → List Brought → List Brought → Entry → Standing
    → Type 0
KeptPuts number to w wanted puts granted brought e left =
    IsPut number left.world.entry_count (wanted ++ wanted_in number to w e)
    (puts ++ filter (is_brought_of number) (put_by to w e.ask e.reply))
    (granted ++ filter (is_brought_of number) (granted_by to w e.ask e.reply))
    (brought ++ filter (is_brought_of number) (brought_by to w e.ask e.reply))

module _ (s : Standing) (number to : ℕ) (wanted : List Frame)
    (puts granted brought : List Brought) (n : Numbered s) (watched : Watched s)
    (none : s.world.entry_count + 1 ≡ number → (wanted ≡ []) × (granted ≡ []))
    (k : IsPut number s.world.entry_count wanted puts granted brought) where
  abbrev w : World
  w = s.world

  still :
      (more : List Frame)
      → IsPut number (w.entry_count + 1) (wanted ++ cond (w.entry_count + 1 == number) more [])
      (puts ++ []) (granted ++ []) (brought ++ [])
  still more =
      put-still number w.entry_count wanted more puts granted brought [] (λ mine. (none mine).0)
      (w.entry_count + 1 == number) refl k

  granting : (gift : List Brought)
      → IsPut number (w.entry_count + 1) (wanted ++ cond (w.entry_count + 1 == number) [] [])
      (puts ++ []) (granted ++ filter (is_brought_of number) gift)
      (brought ++ filter (is_brought_of number) (gift ++ []))
  granting gift =
      rw (append-nil gift)
      (put-still number w.entry_count wanted [] puts granted brought
      (filter (is_brought_of number) gift) (λ mine. (none mine).0) (w.entry_count + 1 == number)
      refl k)

  kinds : EachKind s (Left s (KeptPuts number to w wanted puts granted brought))
  kinds = record {
    enters = λ user fits. still [];
    quiet = λ ask session reply quiet.
        let tells = tells-nothing s ask session reply quiet in
        rw (tells.wanted number to, tells.put to, tells.granted to) (still []);
    opens = λ session name tx rx extra can refusal. still [];
    sends = λ from frames port e can settled. still _;
    grants = λ origin at offer first same. granting _;
    completes = λ lease lot e. still [];
    receives = λ ask at back port receives e can.
        let tells = tells-received s ask at back (sync_step s back port) receives in
        rw (tells.wanted number to, tells.put to, tells.granted to) (still _);
    puts = λ at offered items port peer e can found.
        let tells = tells-put s at offered items port peer e found in
        rw (tells.wanted number to, tells.put to, tells.granted to)
        (put-puts number w.entry_count wanted
        (wanted_of_put w (frames_of_items items) to (open_port w.ports at.0)) puts granted brought
        (record { origin = w.entry_count + 1; frames = frames_of_items items }) (peer.id == to) refl
        (λ hit.
        unwanted w w.entry_count at.0 to port peer (frames_of_items items) n.ports_rise watched e
        found hit) none (w.entry_count + 1 == number) refl k);
    watches = λ at target sides port found e can there missing. still [];
    shuts = λ at port e settled. still [];
    finishes = λ at bufs chain port fits e can out. still [];
    leaves = λ session can. still [];
  }

-- The law.

abbrev PutAt : ℕ → ℕ → ℕ → List Entry → Type 0
PutAt number to pool h =
    IsPut number (world_of pool h).entry_count (wanted_at pool h number to)
    (puts_at pool h number to) (granted_at pool h number to)
    (filter (is_brought_of number) (brought_to pool h to))

filtered-push :
    (number to pool : ℕ) (tell : World → Entry → List Brought) (all more : List Brought)
    (h : List Entry) (e : Entry)
    → all ≡ more ++ tell (world_of pool h) e
    → filter (is_brought_of number) all
    ≡ filter (is_brought_of number) more ++ filter (is_brought_of number) (tell (world_of pool h) e)
filtered-push number to pool tell all more h e is =
    ap (filter (is_brought_of number)) is ∙ filter-append (is_brought_of number) more
    (tell (world_of pool h) e)

put-is :
    (number : ℕ) (count other : ℕ) (wanted wants : List Frame)
    (puts ps granted gs brought bs : List Brought)
    → count ≡ other → wanted ≡ wants → puts ≡ ps → granted ≡ gs → brought ≡ bs
    → IsPut number other wants ps gs bs → IsPut number count wanted puts granted brought
put-is number count other wanted wants puts ps granted gs brought bs a b c d e k =
    rw (a, b, c, d, e) k

put-keeps :
    (number to pool : ℕ) (h : List Entry) (e : Entry) → IsLegal pool h
    → Follows (standing_of pool h) e → PutAt number to pool h → PutAt number to pool (h ++ e ∷ [])
put-keeps number to pool h e legal follows k =
    let s = standing_of pool h in
    let account = history-account pool h legal number to in
    let next = follows-by s
    (KeptPuts number to s.world (wanted_at pool h number to) (puts_at pool h number to)
    (granted_at pool h number to) (filter (is_brought_of number) (brought_to pool h to))) e follows
    (kinds s number to (wanted_at pool h number to) (puts_at pool h number to)
    (granted_at pool h number to) (filter (is_brought_of number) (brought_to pool h to))
    (world-numbered pool h)
    (history-stands pool h legal).watched
    (λ mine.
    let none : wanted_at pool h number to ≡ [] = account.future (omega (arith, mine)) in
    let empty : length (wanted_at pool h number to) ≡ 0 =
    ap (λ (xs : List Frame). length xs) none in
    let no_shares : shares_at h number to ≡ [] =
    no_items (shares_at h number to) (omega (arith, account.once, empty)) in
    let images : map frames_brought (granted_at pool h number to) ≡ [] =
    account.first_given
    ∙ ap
    (λ (xs : List Share). map (λ (share : Share). take share.given (wanted_at pool h number to)) xs)
    no_shares in
    (none, no_image frames_brought (granted_at pool h number to) images)) k) in
    put-is number _ _ _ _ _ _ _ _ _ _
    (ap (λ (s : Standing). s.world.entry_count) (standing-push pool h e))
    (told-push (wanted_in number to) pool h e)
    (filtered-push number to pool (of_entry_in put_by to) _ _ h e
    (told-push (of_entry_in put_by to) pool h e))
    (filtered-push number to pool (of_entry_in granted_by to) _ _ h e
    (told-push (of_entry_in granted_by to) pool h e))
    (filtered-push number to pool (of_entry_in brought_by to) _ _ h e
    (told-push (of_entry_in brought_by to) pool h e)) next

pub history-puts :
    (pool : ℕ) (h : List Entry) → IsLegal pool h → (number to : ℕ) → PutAt number to pool h
history-puts pool h legal number to =
    history-by pool (PutAt number to pool) (put-keeps number to pool)
    (record { once = omega arith; alone = inl refl; parts = refl; future = λ above. refl }) h legal

pub puts-once : PutsBringOnce
puts-once pool h legal number to =
    let k = history-puts pool h legal number to in
    record { once = k.once; alone = k.alone }
