use Rattle.std.proofs.Common.{◌≡◌, true, sym, ◌∙◌, ap}
use Rattle.vale_words.specs.Words.{are_digits}
use Rattle.vale_show.proofs.Digits.{parsed-is, long-is, other-is}
use Rattle.vale_show.proofs.views.number_of.Goals.{else-word-le-MAX_DIGITS-via-then-word-le-MAX_DIGITS+else-are_digits, else-word-le-MAX_DIGITS-via-else-word-le-MAX_DIGITS}
use Rattle.vale_show.proofs.views.number_of.Goals as goal

pub returns-then-are_digits : goal.returns-then-are_digits
returns-then-are_digits c =
    let digits : are_digits c.args.word.now ≡ true = ap are_digits (sym c.as_bytes.ensures.value)
    ∙ (sym c.are_digits.ensures ∙ c.if-are_digits.true) in
    c.ok.ensures.value
    ∙ parsed-is c.args.word.now c.parse.result c.if-word-le-MAX_DIGITS.true digits
    c.parse.ensures.value.0

pub returns-else-word-le-MAX_DIGITS : goal.returns-else-word-le-MAX_DIGITS
returns-else-word-le-MAX_DIGITS c = elim c.else-word-le-MAX_DIGITS.branch [
  | else-word-le-MAX_DIGITS-via-then-word-le-MAX_DIGITS+else-are_digits w ↦ sym
      (other-is c.args.word.now (ap are_digits (sym w.as_bytes.ensures.value)
      ∙ (sym w.are_digits.ensures ∙ w.if-are_digits.false)))
  | else-word-le-MAX_DIGITS-via-else-word-le-MAX_DIGITS w ↦ sym
      (long-is c.args.word.now w.if-word-le-MAX_DIGITS.false)
]
