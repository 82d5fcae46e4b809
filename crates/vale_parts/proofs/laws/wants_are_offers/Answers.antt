use Rattle.vale_parts.proofs.BatchWants.{sent_offers, given_offers, put_offers, dests_are_wanted}
use Rattle.vale_parts.proofs.laws.wants_are_offers.Goals as goal

pub returns-clause-sent : goal.returns-clause-sent
returns-clause-sent c = sent_offers

pub returns-clause-given : goal.returns-clause-given
returns-clause-given c = given_offers

pub returns-clause-put : goal.returns-clause-put
returns-clause-put c = put_offers

pub returns-clause-dests : goal.returns-clause-dests
returns-clause-dests c = dests_are_wanted
