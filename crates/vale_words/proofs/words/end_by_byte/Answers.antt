use Rattle.std.proofs.Common.{◌≡◌, ℕ, ◌<◌, ◌≤◌, false, List, length, get_or, rules}
use Rattle.vale_words.specs.Words.{is_graphic}
use Rattle.vale_words.proofs.Ends.{ends_at, ends_nowhere}
use Rattle.vale_words.proofs.words.end_by_byte.Goals as goal

pub returns-then-not-is_graphic : goal.returns-then-not-is_graphic
returns-then-not-is_graphic c =
    let bytes : List ℕ = c.args.bytes.now in
    let low : c.loop-at.at < length bytes = search rules in
    let here : is_graphic (get_or bytes c.loop-at.at 0) ≡ false = search rules in
    ends_at bytes c.loop-at.at low c.loop-at.invariant here

pub returns : goal.returns
returns c =
    let past : length c.args.bytes.now ≤ c.loop-at.at = search rules in
    ends_nowhere c.args.bytes.now c.loop-at.at past c.loop-at.invariant
