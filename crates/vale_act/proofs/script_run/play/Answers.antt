use Rattle.std.proofs.Common.{◌≡◌, ◌∙◌, List, Option, Some, IfOk, IfSome, Vec, sym, ap, subst}
use Rattle.std.specs.Prelude.{flat_map}
use Rattle.std.specs.declared.alloc.Global.{Global}
use Rattle.vale_fabric.specs.Fabrics.{fixed_in, knowing}
use Rattle.vale_replay.specs.Machine.{Save}
use Rattle.vale_player.specs.Inputs.{captures_of}
use Rattle.vale_player.specs.Kept.{KeptFrames, AreWhole, KeepsAll, ports_in}
use Rattle.vale_act.specs.Seats.{ScriptDone, files_in}
use Rattle.vale_act.proofs.KeptPlays.{plays-script}
use Rattle.vale_act.proofs.script_run.play.Goals as goal

pub returns-in-Ok-gathered_outputs-clause-played : goal.returns-in-Ok-gathered_outputs-clause-played
returns-in-Ok-gathered_outputs-clause-played g c =
    let program = c.args.script.now in
    let captures = captures_of c.args.inputs.now in
    let pool = (fixed_in c.args.fabric.now).pool in
    let v = knowing c.play_keeping-main.result.0 in
    let left = c.in-Ok-done.left in
    let done : ScriptDone program captures v left.0.items = subst (λ r. IfOk r (λ l. ScriptDone program captures v l.0.items)) c.in-Ok-done.is c.play_keeping-main.ensures.plays in
    let kept = c.in-Some.kept in
    let same : left.1 ≡ Some kept.items = sym c.into_ports.ensures ∙ ap ports_in c.in-Some.is in
    let whole : AreWhole pool v.seen kept.items =
    subst (λ (k : Option (List KeptFrames)). IfSome k (AreWhole pool v.seen)) same (subst (λ r. IfOk r (λ l. IfSome l.1 (AreWhole pool v.seen))) c.in-Ok-done.is c.play_keeping-main.ensures.kept) in
    plays-script program captures pool v left.0.items kept.items c.in-Ok-gathered_outputs.files c.requires.pool done whole
    (λ history users saves all. c.in-Ok-gathered_outputs.ensures.made history users (saves ∙ ap (flat_map files_in) (sym c.deref_mut.ensures.value))
    (subst (λ (l : List KeptFrames). AreWhole program.pool history l) (sym c.deref.ensures.value) all))
    c.in-Ok-gathered_outputs.ensures.writable

pub gathered_outputs-requires : goal.gathered_outputs-requires
gathered_outputs-requires g c =
    let left = c.in-Ok-done.left in
    let kept = c.in-Some.kept in
    let same : left.1 ≡ Some kept.items = sym c.into_ports.ensures ∙ ap ports_in c.in-Some.is in
    let all : KeepsAll left.1 (flat_map files_in left.0.items) = subst (λ r. IfOk r (λ l. KeepsAll l.1 (flat_map files_in l.0.items))) c.in-Ok-done.is c.play_keeping-main.ensures.saves in
    subst (λ (l : List KeptFrames). KeepsAll (Some l) (flat_map files_in c.deref_mut.result.now)) (sym c.deref.ensures.value)
    (subst (λ (lists : List (Vec Save Global)). KeepsAll (Some kept.items) (flat_map files_in lists)) (sym c.deref_mut.ensures.value)
    (subst (λ (k : Option (List KeptFrames)). KeepsAll k (flat_map files_in left.0.items)) same all))
