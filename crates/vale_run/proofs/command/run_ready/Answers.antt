use Rattle.std.proofs.Common.{◌<◌, ◌^◌, List, map, IfOk, IfErr, refl, sym, subst, arith}
use Rattle.nm_types.specs.declared.limits.TheConstants.Limits.{VERSION_2}
use Rattle.vale_entry.specs.Transcript.{transcript_text}
use Rattle.vale_book.specs.Recorded.{Recorded, HadRoom}
use Rattle.vale_script.specs.Script.{Program}
use Rattle.vale_captures.specs.Inputs.{InputFile, frames_of}
use Rattle.vale_captures.specs.Outputs.{OutputFile}
use Rattle.vale_act.specs.Plays.{PlaysScript, IsStoppedBy}
use Rattle.vale_run.specs.Run.{Io, io_of, HistoryOf, Ends, saved_in}
use Rattle.vale_run.specs.Writing.{IsPlayOf, Written}
use Rattle.vale_run.proofs.Histories.{book-is, is-history, ends-written, few-used, ends-stopped}
use Rattle.vale_run.proofs.command.run_ready.Goals as goal

pub stopped-requires : goal.stopped-requires
stopped-requires g c =
    let program : Program = c.args.script.now in
    let inputs : List InputFile = c.args.inputs.now in
    let book : Recorded = c.in-Ok.book in
    let p : IsPlayOf VERSION_2 program inputs book c.in-Ok.played = c.in-Ok.ensures in
    few-used VERSION_2 p.fixed program inputs book.entries p.pool p.limits_are
    (subst HadRoom (book-is VERSION_2 program inputs book c.in-Ok.played p) p.roomy) c.in-Err.fault
    (omega arith) (omega arith)
    (subst (λ r. IfErr r (IsStoppedBy p.fixed program (map frames_of inputs) book.entries))
    c.in-Err.is p.stops)

pub returns-in-Ok-played-clause-ends : goal.returns-in-Ok-played-clause-ends
returns-in-Ok-played-clause-ends g c = λ name ready.
    let program : Program = c.args.script.now in
    let inputs : List InputFile = c.args.inputs.now in
    let book : Recorded = c.in-Ok.book in
    let p : IsPlayOf VERSION_2 program inputs book c.in-Ok.played = c.in-Ok.ensures in
    let is = book-is VERSION_2 program inputs book c.in-Ok.played p in
    let plays : PlaysScript program (map frames_of inputs) book.entries c.in-Ok-played.outputs =
    subst (λ r. IfOk r (PlaysScript program (map frames_of inputs) book.entries)) c.in-Ok-played.is
    p.plays in
    let small : program.pool < 2 ^ 32 = (let most = c.requires.sound.most in omega (arith, most)) in
    let io : Io = io_of g.S.Shelf g.K.Sink c.args.shelf.now c.write.new.shelf c.args.out.now
    c.write.new.out in
    let run : HistoryOf VERSION_2 io.files name = record {
      program = program;
      played = inputs;
      ready = ready;
      entries = book.entries;
      cast = plays.cast;
      history = is-history VERSION_2 p.fixed.region program inputs book.entries plays.cast
          (subst HadRoom is p.roomy) p.few small plays.played;
    } in
    ends-written VERSION_2 io name run c.write.result
    (subst (λ (b : Recorded). Written (transcript_text b.pool b.entries) (saved_in run) io
    c.write.result) is
    (subst (λ (saved : List OutputFile). Written (transcript_text book.pool book.entries) saved io
    c.write.result) plays.saved c.write.ensures.written))

pub returns-in-Err-clause-ends : goal.returns-in-Err-clause-ends
returns-in-Err-clause-ends g c = λ name ready.
    let program : Program = c.args.script.now in
    let inputs : List InputFile = c.args.inputs.now in
    let book : Recorded = c.in-Ok.book in
    let p : IsPlayOf VERSION_2 program inputs book c.in-Ok.played = c.in-Ok.ensures in
    let io : Io = io_of g.S.Shelf g.K.Sink c.args.shelf.now c.args.shelf.now c.args.out.now
    c.args.out.now in
    subst (Ends VERSION_2 io name) (sym c.stopped.ensures)
    (ends-stopped VERSION_2 p.fixed program inputs book.entries p.pool p.limits_are
    (subst HadRoom (book-is VERSION_2 program inputs book c.in-Ok.played p) p.roomy) io name
    c.in-Err.fault ready c.requires.sound (record { sink = refl; shelf = refl })
    (subst (λ r. IfErr r (IsStoppedBy p.fixed program (map frames_of inputs) book.entries))
    c.in-Err.is p.stops))
