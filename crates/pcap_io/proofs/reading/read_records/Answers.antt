use Rattle.std.proofs.Common.{◌≡◌, ◌+◌, ◌-◌, [], length, drop, Ok, ap, rules, arith, append-nil}
use Rattle.std.proofs.lemmas.Grind.{common_steps}
use Rattle.pcap_io.specs.Faults.{record_size}
use Rattle.pcap_io.proofs.Records.{fault_behind, records_more}
use Rattle.pcap_io.proofs.reading.read_records.Goals as goal

pub records-preserved : goal.records-preserved
records-preserved g c =
    let number = g.T.ByteOrder.number_of in
    let rest = c.records.rest.now in
    let size = c.in_ok-size.size in
    let whole : record_size number (length c.args.bytes.now - length rest) rest ≡ Ok size = search rules in
    let offset : length c.args.bytes.now - length (drop size rest) ≡ (length c.args.bytes.now - length rest) + size =
    omega (arith, c.split_at-in-records.ensures.back_len, ap length c.split_at-in-records.ensures.back, c.records.invariant.behind) in
    record {
      behind = omega (arith, c.split_at-in-records.ensures.back_len);
      more = rw (c.split_at-in-records.ensures.back, c.in_ok-push.ensures.items)
          (records_more number (drop 24 c.args.bytes.now) rest size c.records.records.items c.in_ok-read_record.field-0 c.in_ok-read_record.ensures.ok.0 c.in_ok-read_record.ensures.ok.1 c.records.invariant.more);
      fault = rw (c.split_at-in-records.ensures.back, offset, ← fault_behind number (length c.args.bytes.now - length rest) size rest whole) c.records.invariant.fault;
    }

pub returns-clause-ok : goal.returns-clause-ok
returns-clause-ok g c =
    let empty : c.records.rest.now ≡ [] = grind (arith, common_steps) in
    rw append-nil at (c.records.invariant.more [] empty)
