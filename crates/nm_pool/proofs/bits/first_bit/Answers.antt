use Rattle.std.proofs.Common.{ℕ, ◌≡◌, ◌≤◌, ◌<◌, length, refl, sym, ◌∙◌, arith}
use Rattle.std.specs.Prelude.{get_or}
use Rattle.std.proofs.lemmas.List.{get_or_read_under}
use Rattle.nm_pool.proofs.Marked.{none-in, none-behind, lowest}
use Rattle.nm_pool.proofs.bits.first_bit.Goals as goal

pub loop-at-init : goal.loop-at-init
loop-at-init c = λ k h. c.requires.before k (omega (arith, h))

pub returns-then-word-ne0-clause-set : goal.returns-then-word-ne0-clause-set
returns-then-word-ne0-clause-set c =
    let words = c.args.words.now.items in
    let at = c.loop-at.at in
    let within : at < length words = omega (arith, c.loop-at-test.true, c.len.ensures, c.args.words.now.ok.0) in
    (lowest words at c.index-word.result.now c.index-word.ensures within c.if-word-ne0.true (c.type_inv.words at 0 within)).set

pub returns-then-word-ne0-clause-before : goal.returns-then-word-ne0-clause-before
returns-then-word-ne0-clause-before c =
    let words = c.args.words.now.items in
    let at = c.loop-at.at in
    let within : at < length words = omega (arith, c.loop-at-test.true, c.len.ensures, c.args.words.now.ok.0) in
    (lowest words at c.index-word.result.now c.index-word.ensures within c.if-word-ne0.true (c.type_inv.words at 0 within)).before c.loop-at.invariant

pub loop-at-smaller : goal.loop-at-smaller
loop-at-smaller c =
    let within : c.loop-at.at < length c.args.words.now.items = omega (arith, c.loop-at-test.true, c.len.ensures, c.args.words.now.ok.0) in
    omega (arith, within)

pub loop-at-preserved : goal.loop-at-preserved
loop-at-preserved c =
    let words = c.args.words.now.items in
    let at = c.loop-at.at in
    let w = c.index-word.result.now in
    let within : at < length words = omega (arith, c.loop-at-test.true, c.len.ensures, c.args.words.now.ok.0) in
    let is : w ≡ get_or words at 0 = get_or_read_under words at (length words) w 0 c.index-word.ensures within refl in
    none-in words at (sym is ∙ c.if-word-ne0.false) c.loop-at.invariant

pub returns-clause-none : goal.returns-clause-none
returns-clause-none c =
    let end : length c.args.words.now.items ≤ c.loop-at.at = omega (arith, c.loop-at-test.false, c.len.ensures, c.args.words.now.ok.0) in
    none-behind c.args.words.now.items c.loop-at.at end c.loop-at.invariant
