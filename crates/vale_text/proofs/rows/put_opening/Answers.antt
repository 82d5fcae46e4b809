use Rattle.vale_text.proofs.rows.put_opening.Goals as goal

pub returns-in-SwitchesFull-clause-gathers : goal.returns-in-SwitchesFull-clause-gathers
returns-in-SwitchesFull-clause-gathers g c = rw (c.in-SwitchesFull.is) c.put_answer-in-SwitchesFull.ensures.gathers

pub returns-in-NoBuffers-clause-gathers : goal.returns-in-NoBuffers-clause-gathers
returns-in-NoBuffers-clause-gathers g c = rw (c.in-NoBuffers.is) c.put_answer_with_two.ensures.gathers
