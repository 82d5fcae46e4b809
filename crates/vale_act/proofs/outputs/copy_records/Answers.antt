use Rattle.std.proofs.Common.{◌∷◌, [], ◌++◌, take, List, ◌∙◌, sym, ap}
use Rattle.pcap_io.specs.declared.record.Record.{Record}
use Rattle.vale_act.proofs.ActOutputs.{one-more-of}
use Rattle.vale_act.proofs.outputs.copy_records.Goals as goal

pub loop-one-preserved : goal.loop-one-preserved
loop-one-preserved c =
    let records = c.args.records.now in
    let i = c.loop-one.one-index in
    let one = c.one-item.result in
    let made = c.in_ok-copy_record.field-0 in
    c.in_ok-push.ensures.items ∙ (ap (λ (rs : List Record). rs ++ made ∷ []) c.loop-one.invariant
    ∙ (ap (λ (r : Record). take i records ++ r ∷ []) c.in_ok-copy_record.ensures ∙ sym (one-more-of records i one c.loop-one-test.true c.one-item.is)))
