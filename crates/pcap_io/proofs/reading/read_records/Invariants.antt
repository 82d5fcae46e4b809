use Rattle.std.proofs.Common.{◌≡◌, ◌+◌, ◌-◌, ◌≤◌, List, ◌++◌, length, drop}
use Rattle.pcap_io.specs.declared.record.Record.{Record}
use Rattle.pcap_io.specs.Capture.{AreRecords}
use Rattle.pcap_io.specs.Faults.{fault_from}
use Rattle.pcap_io.proofs.reading.read_records.Given as goal

abbrev pub invariant-records : goal.invariant-records
invariant-records g l = let number = g.T.ByteOrder.number_of in record {
  behind : length l.rest + 24 ≤ length l.bytes;
  more : (rs : List Record) → AreRecords number l.rest rs → AreRecords number (drop 24 l.bytes) (l.records.items ++ rs);
  fault : fault_from number (length l.bytes - length l.rest) l.rest ≡ fault_from number 24 (drop 24 l.bytes);
}

abbrev pub decreases-records : goal.decreases-records
decreases-records g l = length l.rest
