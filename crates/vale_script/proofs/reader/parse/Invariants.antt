use Rattle.std.proofs.Common.{◌≡◌, ◌≤◌, ◌+◌, length}
use Rattle.std.specs.Str.Lines.{lines}
use Rattle.vale_script.specs.Drafts.{draft_of}
use Rattle.vale_script.specs.Grammar.{said_from}
use Rattle.vale_script.specs.Keeps.{IsSoundDraft}
use Rattle.vale_script.specs.Rules.{nothing_said}
use Rattle.vale_script.proofs.reader.parse.Given as goal

abbrev pub invariant-loop-rest : goal.invariant-loop-rest
invariant-loop-rest l = record {
  same : said_from l.at (draft_of l.draft) (lines l.rest) ≡ said_from 1 nothing_said (lines l.fn.bytes);
  number : l.at + length l.rest ≤ length l.fn.bytes + 1;
  sound : IsSoundDraft (draft_of l.draft);
  few : length l.draft.units.items + length (lines l.rest) ≤ length (lines l.fn.bytes);
}

abbrev pub decreases-loop-rest : goal.decreases-loop-rest
decreases-loop-rest l = length l.rest
