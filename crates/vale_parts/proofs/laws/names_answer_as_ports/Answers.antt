use Rattle.vale_parts.proofs.NameAnswers.{openings_answered, names_find, names_find_peers}
use Rattle.vale_parts.proofs.NameRoom.{openings_undone, openings_room}
use Rattle.vale_parts.proofs.laws.names_answer_as_ports.Goals as goal

pub returns-clause-openings : goal.returns-clause-openings
returns-clause-openings c = openings_answered

pub returns-clause-ports : goal.returns-clause-ports
returns-clause-ports c = names_find

pub returns-clause-peers : goal.returns-clause-peers
returns-clause-peers c = names_find_peers

pub returns-clause-undone : goal.returns-clause-undone
returns-clause-undone c = openings_undone

pub returns-clause-room : goal.returns-clause-room
returns-clause-room c = openings_room
