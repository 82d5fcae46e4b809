use Rattle.vale_book.proofs.book.Book.send.Goals as goal

pub send_compared-requires : goal.send_compared-requires
send_compared-requires c = rw c.new.ensures c.requires

pub returns-clause-made : goal.returns-clause-made
returns-clause-made c = rw (← c.new.ensures) c.send_compared.ensures.made

pub returns-clause-said : goal.returns-clause-said
returns-clause-said c = rw (← c.new.ensures) c.send_compared.ensures.said

pub returns-clause-offers : goal.returns-clause-offers
returns-clause-offers c = rw (← c.new.ensures) c.send_compared.ensures.offers

pub returns-clause-room : goal.returns-clause-room
returns-clause-room c = rw (← c.new.ensures) c.send_compared.ensures.room

pub returns-clause-full : goal.returns-clause-full
returns-clause-full c = rw (← c.new.ensures) c.send_compared.ensures.full
