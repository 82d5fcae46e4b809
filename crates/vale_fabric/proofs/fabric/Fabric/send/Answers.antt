use Rattle.vale_fabric.proofs.fabric.Fabric.send.Goals as goal

pub send_compared-requires-clause-may : goal.send_compared-requires-clause-may
send_compared-requires-clause-may g c = rw c.new.ensures c.requires.may

pub returns-clause-made : goal.returns-clause-made
returns-clause-made g c = rw (← c.new.ensures) c.send_compared.ensures.made

pub returns-clause-offers : goal.returns-clause-offers
returns-clause-offers g c = rw (← c.new.ensures) c.send_compared.ensures.offers

pub returns-clause-hand : goal.returns-clause-hand
returns-clause-hand g c = rw (← c.new.ensures) c.send_compared.ensures.hand

pub returns-clause-full : goal.returns-clause-full
returns-clause-full g c = rw (← c.new.ensures) c.send_compared.ensures.full
