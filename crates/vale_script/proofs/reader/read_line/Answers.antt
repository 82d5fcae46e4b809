use Rattle.std.proofs.Common.{sym, subst, None, ◌≡◌, rules}
use Rattle.vale_script.specs.Drafts.{draft_of}
use Rattle.vale_script.specs.Keeps.{IsSoundDraft}
use Rattle.vale_script.specs.Rules.{cause_of}
use Rattle.vale_script.specs.Statements.{shown}
use Rattle.vale_script.proofs.Soundness.{after_sound}
use Rattle.vale_script.proofs.reader.read_line.Goals as goal

pub returns-in_ok-add-in-None-clause-sound : goal.returns-in_ok-add-in-None-clause-sound
returns-in_ok-add-in-None-clause-sound c =
    let none : cause_of (draft_of c.args.draft.now) (shown c.in-Ok.said) ≡ None = search rules in
    λ sound. subst IsSoundDraft (sym c.in_ok-add-in-None.ensures.value)
    (after_sound (draft_of c.args.draft.now) c.args.at (shown c.in-Ok.said) sound c.in-Ok.ensures.sound none)
