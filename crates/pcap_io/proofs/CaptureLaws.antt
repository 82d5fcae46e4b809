-- The laws of captures.
use Rattle.pcap_io.specs.Laws.{CapturesHaveNoFault, BytesDetermineRecords, WrittenIsReadAgain}
use Rattle.pcap_io.proofs.Captures.{capture_or_faulty, same_capture}
use Rattle.pcap_io.proofs.WrittenAgain.{capture_again}

pub no_fault : CapturesHaveNoFault
no_fault = capture_or_faulty

pub determined : BytesDetermineRecords
determined = same_capture

pub read_again : WrittenIsReadAgain
read_again = capture_again

pub ruleset capture_laws = (no_fault, determined, read_again)
