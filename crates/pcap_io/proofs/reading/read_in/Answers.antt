use Rattle.pcap_io.proofs.reading.read_in.Goals as goal

pub returns-in-Big-clause-bad : goal.returns-in-Big-clause-bad
returns-in-Big-clause-bad c = rw c.in-Big.is c.read_past_magic.ensures.bad

pub returns-in-Little-clause-bad : goal.returns-in-Little-clause-bad
returns-in-Little-clause-bad c = rw c.in-Little.is c.read_past_magic-in-Little.ensures.bad
