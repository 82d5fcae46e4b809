use Rattle.vale_text.proofs.rows.put_fault.Goals as goal

pub returns-in-Unannounced-clause-gathers : goal.returns-in-Unannounced-clause-gathers
returns-in-Unannounced-clause-gathers g c = rw (c.in-Unannounced.is) (c.put_three-in-Unannounced.ensures.gathers)
