use Rattle.std.proofs.Common.{rules, ◌+◌, ◌≤◌, List, take, length, refl, ap, ◌∙◌, arith}
use Rattle.std.proofs.lemmas.List.{take_all}
use Rattle.std.proofs.lemmas.Option.{slice_get_read}
use Rattle.std.proofs.lemmas.Result.{err_from_is_err_and}
use Rattle.nm_io.specs.Files.{appended_told}
use Rattle.pcap_io.specs.declared.record.Record.{Record}
use Rattle.pcap_io.specs.Written.{capture_text}
use Rattle.vale_captures.proofs.Pages.{flushed-gone, record-gone, all-went, page-kept, page-stops}
use Rattle.vale_captures.proofs.outputs.write_saved.Goals as goal

pub returns-in_err-put-clause-appends : goal.returns-in_err-put-clause-appends
returns-in_err-put-clause-appends g c =
    rw ((err_from_is_err_and c.from_residual-in_err-put.result c.from_residual-in_err-put.ensures.1).1)
    (page-kept (g.S.Shelf.files c.args.shelf.now) (g.S.Shelf.files c.loop-item.shelf)
    c.args.name.now c.loop-item.page.bytes.items c.args.records.now c.loop-item.item-index
    c.loop-item.invariant.gone)

pub returns-in_err-flush_full-clause-appends : goal.returns-in_err-flush_full-clause-appends
returns-in_err-flush_full-clause-appends g c =
    let old = g.S.Shelf.files c.args.shelf.now in
    let now = g.S.Shelf.files c.loop-item.shelf in
    let rs = c.args.records.now in
    let k = c.loop-item.item-index in
    let r = c.item-item.result in
    let page = c.put.new.self.bytes.items in
    rw ((err_from_is_err_and c.from_residual-in_err-flush_full.result c.from_residual-in_err-flush_full.ensures.1).1)
    (page-stops old now (g.S.Shelf.files c.flush_full.new.shelf) c.args.name.now page rs (k + 1)
    (record-gone old now c.args.name.now c.loop-item.page.bytes.items page rs k r
    (slice_get_read rs (length rs) k r refl (omega (arith, c.loop-item-test.true)) c.item-item.is)
    c.in_ok-put.ensures c.loop-item.invariant.gone) c.in_err-flush_full.ensures.part)

pub loop-item-preserved : goal.loop-item-preserved
loop-item-preserved g c =
    let old = g.S.Shelf.files c.args.shelf.now in
    let now = g.S.Shelf.files c.loop-item.shelf in
    let name = c.args.name.now in
    let rs = c.args.records.now in
    let k = c.loop-item.item-index in
    let r = c.item-item.result in
    let page = c.put.new.self.bytes.items in
    let put = record-gone old now name c.loop-item.page.bytes.items page rs k r
    (slice_get_read rs (length rs) k r refl (omega (arith, c.loop-item-test.true)) c.item-item.is)
    c.in_ok-put.ensures c.loop-item.invariant.gone in
    record {
      gone = flushed-gone old now (g.S.Shelf.files c.flush_full.new.shelf) name
          (capture_text (take (k + 1) rs)) page c.flush_full.new.self.bytes.items put
          c.in_ok-flush_full.ensures.appends;
      reads_later = search rules;
      appends_later = search rules;
    }

pub returns-in_err-flush-clause-appends : goal.returns-in_err-flush-clause-appends
returns-in_err-flush-clause-appends g c =
    rw ((err_from_is_err_and c.from_residual-in_err-flush.result c.from_residual-in_err-flush.ensures.1).1)
    (page-stops (g.S.Shelf.files c.args.shelf.now) (g.S.Shelf.files c.loop-item.shelf)
    (g.S.Shelf.files c.flush.new.shelf) c.args.name.now c.loop-item.page.bytes.items
    c.args.records.now c.loop-item.item-index c.loop-item.invariant.gone
    c.in_err-flush.ensures.appends)

pub returns-clause-appends : goal.returns-clause-appends
returns-clause-appends g c =
    let old = g.S.Shelf.files c.args.shelf.now in
    let now = g.S.Shelf.files c.loop-item.shelf in
    let new = g.S.Shelf.files c.flush.new.shelf in
    let name = c.args.name.now in
    let rs = c.args.records.now in
    let k = c.loop-item.item-index in
    let past : length rs ≤ k = omega (arith, c.loop-item-test.false) in
    all-went old now new name (capture_text (take k rs)) c.loop-item.page.bytes.items c.loop-item.invariant.gone c.in_ok-flush.ensures.appends
    ∙ ap (λ (xs : List Record). appended_told old name (capture_text xs)) (take_all k rs past)
