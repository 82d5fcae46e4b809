use Rattle.std.proofs.Common.{◌≡◌, ◌+◌, ◌≤◌, ℕ, List, length, drop, count_by, rules}
use Rattle.std.proofs.lemmas.Simd.{length-chunk}
use Rattle.vale_script.specs.Grammar.{is_line_feed}
use Rattle.vale_script.proofs.Counts.{count_on, few_feeds}
use Rattle.vale_script.proofs.feeds.line_feeds.Goals as goal

pub line_feeds_in-count-requires : goal.line_feeds_in-count-requires
line_feeds_in-count-requires c =
    let room : c.loop-at.at + 64 ≤ length c.args.bytes.now = search rules in
    length-chunk c.loop-at.at 64 c.args.bytes.now room

pub overflow_add-count : goal.overflow_add-count
overflow_add-count c =
    let bytes : List ℕ = c.args.bytes.now in
    let more : (c.loop-at.count + c.line_feeds_in-count.result) + count_by is_line_feed (drop (c.loop-at.at + 64) bytes) ≡ count_by is_line_feed bytes =
    count_on bytes c.loop-at.at c.loop-at.count c.line_feeds_in-count.result (count_by is_line_feed bytes) c.loop-at.invariant.counted c.line_feeds_in-count.ensures in
    let few : c.loop-at.count + c.line_feeds_in-count.result ≤ length bytes = few_feeds bytes (c.loop-at.count + c.line_feeds_in-count.result) _ more in
    search (rules, few)

pub loop-at-preserved : goal.loop-at-preserved
loop-at-preserved c =
    let bytes : List ℕ = c.args.bytes.now in
    let room : c.loop-at.at + 64 ≤ length bytes = search rules in
    record {
      within = room;
      counted = count_on bytes c.loop-at.at c.loop-at.count c.line_feeds_in-count.result (count_by is_line_feed bytes) c.loop-at.invariant.counted c.line_feeds_in-count.ensures;
    }
