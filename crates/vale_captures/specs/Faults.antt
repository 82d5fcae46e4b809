-- Faults of a read and of a capture, as faults of an input.
use Rattle.nm_io.specs.declared.read_error.ReadError.{ReadError}
use Rattle.nm_io.specs.declared.read_error.ReadError.TheVariants as reads
use Rattle.pcap_io.specs.declared.fault.PcapFault.{PcapFault}
use Rattle.pcap_io.specs.declared.fault.PcapFault.TheVariants as pcap
use Rattle.vale_captures.specs.declared.inputs.InputFault.{InputFault}
use Rattle.vale_captures.specs.declared.inputs.InputFault.TheVariants.{Failed, TooLong, BadPcap, NoMemory}

abbrev pub fault_of_read : ReadError → InputFault
fault_of_read reads.TooLong = TooLong
fault_of_read reads.Failed = Failed
fault_of_read reads.NoMemory = NoMemory

abbrev pub fault_of_capture : PcapFault → InputFault
fault_of_capture pcap.NoMemory = NoMemory
fault_of_capture fault = BadPcap fault
