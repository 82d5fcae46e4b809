use Rattle.vale_show.specs.Status.{read_fault_line, bad_text_line}
use Rattle.vale_show.proofs.status.put_status.Goals as goal

pub returns-in-ReadFault-clause-writes : goal.returns-in-ReadFault-clause-writes
unfolding read_fault_line
returns-in-ReadFault-clause-writes g c = rw (c.in-ReadFault.is, ← c.as_bytes.ensures.value)
    c.put_parts.ensures.writes

pub returns-in-BadText-clause-writes : goal.returns-in-BadText-clause-writes
unfolding bad_text_line
returns-in-BadText-clause-writes g c =
    rw (c.in-BadText.is, ← c.as_bytes-in-BadText.ensures.value)
    c.put_parts-in-BadText.ensures.writes
