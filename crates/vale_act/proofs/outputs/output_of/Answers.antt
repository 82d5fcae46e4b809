use Rattle.std.proofs.Common.{ℕ, List, ◌≡◌, ◌==◌, Some, IfOk, sym, subst, ap, ◌∙◌}
use Rattle.std.specs.Prelude.{find}
use Rattle.std.specs.List.{AllByRecursion}
use Rattle.pcap_io.specs.declared.record.Record.{Record}
use Rattle.vale_captures.specs.Outputs.{IsShortRecord}
use Rattle.vale_entry.specs.declared.entry.Entry.{Entry}
use Rattle.vale_replay.specs.Machine.{Save}
use Rattle.vale_replay.specs.Saved.{saved_file}
use Rattle.vale_player.specs.Kept.{KeptFrames, AreWhole}
use Rattle.vale_act.specs.Outputs.{output_of}
use Rattle.vale_act.proofs.ActOutputs.{file-on}
use Rattle.vale_act.proofs.outputs.output_of.Goals as goal

pub returns-clause-made : goal.returns-clause-made
returns-clause-made c =
    let kept = c.args.kept.now in
    let save : Save = record { file = c.save.inside.file; port = c.save.inside.port } in
    let k : KeptFrames = record { id = c.one.inside.port.0; records = c.one.inside.records.items } in
    let found : find (λ (one : KeptFrames). one.id == save.port.0) kept ≡ Some k = sym c.kept_of.ensures ∙ rw c.in-Some.is (ap (λ (x : KeptFrames). Some x) (sym c.one.view_is)) in
    let made : IfOk c.file_with.result (λ made. made ≡ record { file = save.file; records = k.records }) =
    subst (λ (rs : List Record). IfOk c.file_with.result (λ made. made ≡ record { file = save.file; records = rs })) c.as_slice.ensures.value c.file_with.ensures.made in
    subst (λ (s : Save). IfOk c.file_with.result (λ made. (pool : ℕ) (history : List Entry) → AreWhole pool history kept → made ≡ output_of (saved_file pool history s))) c.save.view_is
    (file-on kept save k c.file_with.result found made)

pub file_with-requires : goal.file_with-requires
file_with-requires c = subst (AllByRecursion IsShortRecord) (sym c.as_slice.ensures.value) c.one.invariant
