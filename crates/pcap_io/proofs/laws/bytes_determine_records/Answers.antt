use Rattle.pcap_io.proofs.CaptureLaws.{determined}
use Rattle.pcap_io.proofs.laws.bytes_determine_records.Goals as goal

pub returns : goal.returns
returns c = determined
