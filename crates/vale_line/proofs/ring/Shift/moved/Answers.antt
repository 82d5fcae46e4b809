use Rattle.std.proofs.Common.{◌≡◌, ◌+◌, ◌-◌, ◌++◌, ℕ, List, Option, length, take, drop, map, ap, sym, ◌∙◌, subst, arith}
use Rattle.std.proofs.lemmas.List.{length-append, length-map}
use Rattle.nm_reach.specs.Fields.{Run, round, end_of}
use Rattle.nm_region.specs.Buffers.{Buffer}
use Rattle.vale_line.specs.declared.got.Got.{Got}
use Rattle.vale_line.specs.Cells.{AreFull, AreEmpty, gots_in}
use Rattle.vale_line.specs.Gots.{blank}
use Rattle.vale_line.proofs.CellLemmas.{gots-append}
use Rattle.vale_line.proofs.RingLemmas.{moves, seam-at, round-round}
use Rattle.vale_line.proofs.ring.Shift.moved.Goals as goal

pub put_run_bufs-requires-clause-empty : goal.put_run_bufs-requires-clause-empty
put_run_bufs-requires-clause-empty c = (moves {g = c.args.self.given} c.args.lent c.args.k c.len-count.result c.split_front-all.ensures.first c.split_front-all.ensures.rest c.len-count.ensures c.take_run_bufs.ensures.cells c.take_run_bufs.ensures.empty c.take_run_bufs.ensures.bufs c.requires.none c.join.ensures c.join-2.ensures c.split_front-idle.ensures.first c.split_front-idle.ensures.rest c.split_front-full.ensures.first c.split_front-full.ensures.rest c.requires.within.1 c.requires.few c.requires.lent c.requires.full c.requires.given).full_empty

pub put_run_bufs-requires-clause-count : goal.put_run_bufs-requires-clause-count
put_run_bufs-requires-clause-count c = let m = moves {g = c.args.self.given} c.args.lent c.args.k c.len-count.result c.split_front-all.ensures.first c.split_front-all.ensures.rest c.len-count.ensures c.take_run_bufs.ensures.cells c.take_run_bufs.ensures.empty c.take_run_bufs.ensures.bufs c.requires.none c.join.ensures c.join-2.ensures c.split_front-idle.ensures.first c.split_front-idle.ensures.rest c.split_front-full.ensures.first c.split_front-full.ensures.rest c.requires.within.1 c.requires.few c.requires.lent c.requires.full c.requires.given in m.bufs_count ∙ sym m.full_count

pub join-requires-3 : goal.join-requires-3
join-requires-3 c =
    let m = moves {g = c.args.self.given} c.args.lent c.args.k c.len-count.result c.split_front-all.ensures.first c.split_front-all.ensures.rest c.len-count.ensures c.take_run_bufs.ensures.cells c.take_run_bufs.ensures.empty c.take_run_bufs.ensures.bufs c.requires.none c.join.ensures c.join-2.ensures c.split_front-idle.ensures.first c.split_front-idle.ensures.rest c.split_front-full.ensures.first c.split_front-full.ensures.rest c.requires.within.1 c.requires.few c.requires.lent c.requires.full c.requires.given in
    let w = c.args.self.idle in
    let cells = c.put_run_bufs.ensures.cells in
    let idle = c.split_front-idle.result in
    let i = m.idle_count in
    let f = m.full_count in
    let n = cells.count in
    let size = m.idle_at.size in
    let room = c.requires.meet.room in
    let few = c.requires.few in
    let within = c.requires.within.1 in
    record {
      field = cells.field ∙ (m.full_at.field ∙ sym m.idle_at.field);
      size = cells.size ∙ (m.full_at.size ∙ sym m.idle_at.size);
      start =
          cells.start ∙ (m.full_at.start ∙ sym (ap (λ (s : ℕ). round s idle.start (length idle.values)) m.idle_at.size
          ∙ (ap (λ (s : ℕ). round w.size s (length idle.values)) m.idle_at.start ∙ ap (λ (j : ℕ). round w.size w.start j) m.idle_count)));
      room = omega (arith, i, f, n, size, room, few, within);
    }

pub returns-clause-idle_count : goal.returns-clause-idle_count
returns-clause-idle_count c =
    let m = moves {g = c.args.self.given} c.args.lent c.args.k c.len-count.result c.split_front-all.ensures.first c.split_front-all.ensures.rest c.len-count.ensures c.take_run_bufs.ensures.cells c.take_run_bufs.ensures.empty c.take_run_bufs.ensures.bufs c.requires.none c.join.ensures c.join-2.ensures c.split_front-idle.ensures.first c.split_front-idle.ensures.rest c.split_front-full.ensures.first c.split_front-full.ensures.rest c.requires.within.1 c.requires.few c.requires.lent c.requires.full c.requires.given in
    let now = ap (λ (i : Run (Option Got)). length i.values) c.join-3.ensures in
    let both = length-append c.split_front-idle.result.values c.put_run_bufs.new.run.values in
    let i = m.idle_count in
    let f = m.full_count in
    let n = c.put_run_bufs.ensures.cells.count in
    omega (arith, now, both, i, f, n)

pub returns-clause-lent : goal.returns-clause-lent
returns-clause-lent c =
    let m = moves {g = c.args.self.given} c.args.lent c.args.k c.len-count.result c.split_front-all.ensures.first c.split_front-all.ensures.rest c.len-count.ensures c.take_run_bufs.ensures.cells c.take_run_bufs.ensures.empty c.take_run_bufs.ensures.bufs c.requires.none c.join.ensures c.join-2.ensures c.split_front-idle.ensures.first c.split_front-idle.ensures.rest c.split_front-full.ensures.first c.split_front-full.ensures.rest c.requires.within.1 c.requires.few c.requires.lent c.requires.full c.requires.given in
    let now = ap (λ (i : Run (Option Got)). i.values) c.join-3.ensures in
    let parts = seam-at c.args.k c.split_front-idle.result.values c.put_run_bufs.new.run.values (sym m.idle_count) in
    subst AreEmpty (sym (ap (λ (l : List (Option Got)). take c.args.k l) now ∙ parts.0)) m.idle_empty

pub returns-clause-full : goal.returns-clause-full
returns-clause-full c =
    let m = moves {g = c.args.self.given} c.args.lent c.args.k c.len-count.result c.split_front-all.ensures.first c.split_front-all.ensures.rest c.len-count.ensures c.take_run_bufs.ensures.cells c.take_run_bufs.ensures.empty c.take_run_bufs.ensures.bufs c.requires.none c.join.ensures c.join-2.ensures c.split_front-idle.ensures.first c.split_front-idle.ensures.rest c.split_front-full.ensures.first c.split_front-full.ensures.rest c.requires.within.1 c.requires.few c.requires.lent c.requires.full c.requires.given in
    let now = ap (λ (i : Run (Option Got)). i.values) c.join-3.ensures in
    let parts = seam-at c.args.k c.split_front-idle.result.values c.put_run_bufs.new.run.values (sym m.idle_count) in
    let gots = ap length c.put_run_bufs.ensures.gots ∙ length-map c.take_run_bufs.new.bufs.items blank in
    let bufs = m.bufs_count in
    let f = m.full_count in
    let n = c.put_run_bufs.ensures.cells.count in
    subst AreFull (sym (ap (λ (l : List (Option Got)). drop c.args.k l) now ∙ parts.1)) (omega (arith, gots, bufs, f, n))

pub returns-clause-gots : goal.returns-clause-gots
returns-clause-gots c =
    let m = moves {g = c.args.self.given} c.args.lent c.args.k c.len-count.result c.split_front-all.ensures.first c.split_front-all.ensures.rest c.len-count.ensures c.take_run_bufs.ensures.cells c.take_run_bufs.ensures.empty c.take_run_bufs.ensures.bufs c.requires.none c.join.ensures c.join-2.ensures c.split_front-idle.ensures.first c.split_front-idle.ensures.rest c.split_front-full.ensures.first c.split_front-full.ensures.rest c.requires.within.1 c.requires.few c.requires.lent c.requires.full c.requires.given in
    let run = c.put_run_bufs.new.run in
    let now = ap (λ (i : Run (Option Got)). gots_in i.values) c.join-3.ensures in
    now ∙ (gots-append c.split_front-idle.result.values run.values ∙ (ap (λ (l : List Got). l ++ gots_in run.values) m.idle_empty
    ∙ (c.put_run_bufs.ensures.gots ∙ ap (λ (l : List Buffer). map blank l) m.bufs_are)))

pub returns-clause-given : goal.returns-clause-given
returns-clause-given c =
    let m = moves {g = c.args.self.given} c.args.lent c.args.k c.len-count.result c.split_front-all.ensures.first c.split_front-all.ensures.rest c.len-count.ensures c.take_run_bufs.ensures.cells c.take_run_bufs.ensures.empty c.take_run_bufs.ensures.bufs c.requires.none c.join.ensures c.join-2.ensures c.split_front-idle.ensures.first c.split_front-idle.ensures.rest c.split_front-full.ensures.first c.split_front-full.ensures.rest c.requires.within.1 c.requires.few c.requires.lent c.requires.full c.requires.given in
    let w = c.args.self.idle in
    let idle = c.join-3.new.self in
    let count = returns-clause-idle_count c in
    let size : idle.size ≡ w.size = ap (λ (i : Run (Option Got)). i.size) c.join-3.ensures ∙ m.idle_at.size in
    let start : idle.start ≡ w.start = ap (λ (i : Run (Option Got)). i.start) c.join-3.ensures ∙ m.idle_at.start in
    let room = c.requires.meet.room in
    let few = c.requires.few in
    let within = c.requires.within.1 in
    let ends : end_of idle ≡ round w.size w.start (c.args.k + (length w.values - c.args.lent)) =
    ap (λ (s : ℕ). round s idle.start (length idle.values)) size ∙ (ap (λ (s : ℕ). round w.size s (length idle.values)) start ∙ ap (λ (j : ℕ). round w.size w.start j) count) in
    record {
      field = m.rest_at.field;
      size = m.rest_at.size;
      start = m.rest_at.start ∙ (round-round w.size w.start c.args.k (length w.values - c.args.lent) c.requires.within.0 (omega (arith, room, few, within)) ∙ sym ends);
    }

pub returns-clause-given_empty : goal.returns-clause-given_empty
returns-clause-given_empty c = (moves {g = c.args.self.given} c.args.lent c.args.k c.len-count.result c.split_front-all.ensures.first c.split_front-all.ensures.rest c.len-count.ensures c.take_run_bufs.ensures.cells c.take_run_bufs.ensures.empty c.take_run_bufs.ensures.bufs c.requires.none c.join.ensures c.join-2.ensures c.split_front-idle.ensures.first c.split_front-idle.ensures.rest c.split_front-full.ensures.first c.split_front-full.ensures.rest c.requires.within.1 c.requires.few c.requires.lent c.requires.full c.requires.given).rest_empty
