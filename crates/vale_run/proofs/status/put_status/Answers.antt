use Rattle.vale_run.specs.Status.{bad_script_line, read_fault_line, write_fault_line, no_memory_line}
use Rattle.vale_run.proofs.status.put_status.Goals as goal

pub returns-in-BadScript-clause-writes : goal.returns-in-BadScript-clause-writes
unfolding bad_script_line
returns-in-BadScript-clause-writes g c = rw (c.in-BadScript.is, ← c.cause_text.ensures)
    c.put_parts.ensures.writes

pub returns-in-ReadFault-clause-writes : goal.returns-in-ReadFault-clause-writes
unfolding read_fault_line
returns-in-ReadFault-clause-writes g c = rw (c.in-ReadFault.is, ← c.as_bytes.ensures.value)
    c.put_parts-in-ReadFault.ensures.writes

pub returns-in-WriteFault-clause-writes : goal.returns-in-WriteFault-clause-writes
unfolding write_fault_line
returns-in-WriteFault-clause-writes g c = rw c.in-WriteFault.is
    c.put_all-in-WriteFault.ensures.writes

pub returns-in-NoMemory-clause-writes : goal.returns-in-NoMemory-clause-writes
unfolding no_memory_line
returns-in-NoMemory-clause-writes g c = rw c.in-NoMemory.is c.put_all-in-NoMemory.ensures.writes
