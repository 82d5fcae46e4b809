-- The laws of legal histories: what each entry keeps, from the fresh pool on.
use Rattle.std.specs.List.{AllByRecursion as Each}
use Rattle.std.proofs.Common.{ℕ, ◌+◌, ◌≤◌, ◌≡◌, List, [], ◌∷◌, sum_by, refl, sym, ◌∙◌, subst, arith, All, length-append, ◌<◌, take, drop}
use Rattle.std.proofs.lemmas.List.Elements.{All-from_recursion}
use Rattle.vale_entry.specs.declared.entry.Entry.{Entry}
use Rattle.vale_entry.specs.World.{Port, size_of_line, space_of, due_of, buffers_of}
use Rattle.vale_entry.specs.Holdings.{IsParted}
use Rattle.vale_entry.specs.Legal.{Standing, after, standing_of, world_of, holdings_of, fresh_standing, IsLegal, Follows}
use Rattle.vale_entry.specs.Laws.{Rise, IsFilled, AreNumbered, IsPromised, NumbersRise, PortsAreWithinSizes, FreeBuffersRise, BuffersAreParted, HoldingsAgree, SessionsHaveOneUnsettled, WatchesAreOpen, LotsAreSingle, RoomIsPromised, RoomIsUsed}
use Rattle.vale_entry.proofs.Worlds.{standing-push, count-world_of}
use Rattle.vale_entry.proofs.Steps.{legal-by}
use Rattle.vale_entry.proofs.Follows.{EachKind, after-by}
use Rattle.vale_entry.proofs.Rising.{rise-cut}
use Rattle.vale_entry.proofs.Each.{each-weaker}
use Rattle.vale_entry.proofs.Numbered.{Numbered, numbered_entry, world-numbered}
use Rattle.vale_entry.proofs.Roomy.{HasRoom, Roomy, roomy_entry}
use Rattle.vale_entry.proofs.FreeBuffers.{free_entry, free_fresh}
use Rattle.vale_entry.proofs.Holding.{Held, HasFree}
use Rattle.vale_entry.proofs.Held.{held_entry, held_fresh, held-parted, held-agrees}
use Rattle.vale_entry.proofs.OneEntry.{OneEntry, one_entry}
use Rattle.vale_entry.proofs.SingleLots.{Single, single_entry}
use Rattle.vale_entry.proofs.Watched.{Watched, watched_entry}
use Rattle.vale_entry.proofs.Promised.{promised_entry}

-- no entry changes the pool
pool_kinds : (s : Standing) → EachKind s (λ ask made. made.next.world.pool ≡ s.world.pool)
pool_kinds s = record {
  enters = λ user fits. refl;
  quiet = λ ask session reply quiet. refl;
  opens = λ session name tx rx extra can refusal. refl;
  sends = λ from frames port e can settled. refl;
  grants = λ origin to offer first same. refl;
  completes = λ lease lot e. refl;
  receives = λ ask at back port receives e can. refl;
  puts = λ at offered items port peer e can found. refl;
  watches = λ at target sides port found e can there none. refl;
  shuts = λ at port e settled. refl;
  finishes = λ at bufs chain port fits e can out. refl;
  leaves = λ session can. refl;
}

pool_entry : (s : Standing) (e : Entry) → (after s e).world.pool ≡ s.world.pool
pool_entry s e = after-by s (λ (t : Standing). t.world.pool ≡ s.world.pool) e refl (pool_kinds s)

-- what stands after a legal history
pub record Stands (pool : ℕ) (s : Standing) : Type 0 where
  pub pool_is : s.world.pool ≡ pool
  pub numbered : Numbered s
  pub roomy : Roomy s
  pub free : HasFree s
  pub held : Held s
  pub one : OneEntry s
  pub single : Single s
  pub watched : Watched s

stands_entry :
    (pool : ℕ) (s : Standing) (e : Entry) → Stands pool s → Follows s e → Stands pool (after s e)
stands_entry pool s e k follows = record {
  pool_is = pool_entry s e ∙ k.pool_is;
  numbered = numbered_entry s e k.numbered;
  roomy = roomy_entry s e k.numbered k.roomy;
  free = free_entry s e k.numbered k.roomy k.held k.free;
  held = held_entry s e k.numbered k.roomy k.free k.held;
  one = one_entry s e k.one;
  single = single_entry s e k.numbered k.single;
  watched = watched_entry s e k.numbered k.watched;
}

stands_fresh : (pool : ℕ) → Stands pool (fresh_standing pool)
stands_fresh pool = record {
  pool_is = refl;
  numbered = world-numbered pool [];
  roomy = record { roomy = tt; within = omega arith };
  free = free_fresh pool;
  held = held_fresh pool;
  one = λ session. (0, tt);
  single = λ number. omega arith;
  watched = record { each = tt; once = λ target. omega arith };
}

pub history-stands : (pool : ℕ) (h : List Entry) → IsLegal pool h → Stands pool (standing_of pool h)
history-stands pool h legal =
    legal-by (Stands pool) (stands_entry pool) pool h legal (stands_fresh pool)

-- what stands after a legal history, said of the pool that stands there
pub stands-own :
    (pool : ℕ) (h : List Entry) → IsLegal pool h
    → Stands (standing_of pool h).world.pool (standing_of pool h)
stands-own pool h legal =
    let stands = history-stands pool h legal in
    subst (λ (n : ℕ). Stands n (standing_of pool h)) (sym stands.pool_is) stands

pub pool-small :
    (pool : ℕ) (h : List Entry) → IsLegal pool h → pool < 4294967296
    → (standing_of pool h).world.pool < 4294967296
pool-small pool h legal small =
    subst (λ (n : ℕ). n < 4294967296) (sym (history-stands pool h legal).pool_is) small

-- The laws, in the words of their statements.
pub numbers-rise : NumbersRise
numbers-rise pool h =
    let w = world_of pool h in
    subst (λ (count : ℕ). AreNumbered count w.sessions w.ports w.offers) (count-world_of pool h)
    (world-numbered pool h)

port-parts :
    (port : Port) → HasRoom port
    → due_of port + (space_of port + 1) + size_of_line port.line ≡ buffers_of port
port-parts port room = let fits = room.fits in omega arith

pub ports-within : PortsAreWithinSizes
ports-within pool h legal =
    let k = history-stands pool h legal in
    let w = world_of pool h in
    let all = k.roomy.roomy in
    record {
      pool_is = k.pool_is;
      lots_filled = All-from_recursion (λ (port : Port). All IsFilled port.line) w.ports
          (each-weaker HasRoom (λ (port : Port). All IsFilled port.line)
          (λ port room. All-from_recursion IsFilled port.line room.lots_filled) w.ports all);
      room_kept =
          All-from_recursion (λ (port : Port). port.out + size_of_line port.line + 1 ≤ port.rx)
          w.ports
          (each-weaker HasRoom (λ (port : Port). port.out + size_of_line port.line + 1 ≤ port.rx)
          (λ port room. room.fits) w.ports all);
      parts_are_all =
          All-from_recursion
          (λ (port : Port).
          due_of port + (space_of port + 1) + size_of_line port.line ≡ buffers_of port) w.ports
          (each-weaker HasRoom
          (λ (port : Port).
          due_of port + (space_of port + 1) + size_of_line port.line ≡ buffers_of port) port-parts
          w.ports all);
      fits_pool = subst (λ (n : ℕ). sum_by buffers_of w.ports ≤ n) k.pool_is k.roomy.within;
    }

pub free-rises : FreeBuffersRise
free-rises pool h legal =
    let k = history-stands pool h legal in
    let w = world_of pool h in
    let free = (holdings_of pool h).free in
    let count = k.free.count in
    record {
      rise = subst (λ (n : ℕ). Rise 1 (holdings_of pool h).free (n + 1)) k.pool_is k.free.rise;
      smallest =
          λ n. All-from_recursion (λ (taken : ℕ). All (λ (left : ℕ). taken < left) (drop n free))
          (take n free)
          (each-weaker (λ (taken : ℕ). Each (λ (left : ℕ). taken < left) (drop n free))
          (λ (taken : ℕ). All (λ (left : ℕ). taken < left) (drop n free))
          (λ taken all. All-from_recursion (λ (left : ℕ). taken < left) (drop n free) all)
          (take n free) (rise-cut n 1 free (w.pool + 1) k.free.rise));
      count = omega arith;
    }

pub buffers-parted : BuffersAreParted
buffers-parted pool h legal =
    let k = history-stands pool h legal in
    let w = world_of pool h in
    subst (λ (n : ℕ). IsParted n (holdings_of pool h)) k.pool_is
    (held-parted w.pool w.sessions w.ports (holdings_of pool h) k.held)

pub holdings-agree : HoldingsAgree
holdings-agree pool h legal =
    held-agrees (world_of pool h) (holdings_of pool h) (history-stands pool h legal).held

pub sessions-one_unsettled : SessionsHaveOneUnsettled
sessions-one_unsettled pool h legal = (history-stands pool h legal).one

pub watches-open : WatchesAreOpen
watches-open pool h legal = (history-stands pool h legal).watched

pub lots-single : LotsAreSingle
lots-single pool h legal = (history-stands pool h legal).single

pub room-promised : RoomIsPromised
room-promised pool h e made legal follows is =
    let k = history-stands pool h legal in
    subst (λ (s : Standing). IsPromised (world_of pool h) s.world made)
    (sym (standing-push pool h e))
    (promised_entry (standing_of pool h) e made k.numbered k.single is)

pub room-used : RoomIsUsed
room-used pool h e made legal follows is =
    let step = room-promised pool h e made legal follows is in
    let size = length-append h (e ∷ []) in
    omega (arith, step, size)

pub ruleset history_laws = (
  numbers-rise,
  ports-within,
  free-rises,
  buffers-parted,
  holdings-agree,
  sessions-one_unsettled,
  watches-open,
  lots-single,
  room-promised,
  room-used,
)
