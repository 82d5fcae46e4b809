use Rattle.vale_serve.proofs.reading.take_in.Goals as goal

pub returns-clause-taken : goal.returns-clause-taken
returns-clause-taken c = record {
  between = c.give_all.new.user;
  more = c.give_all.ensures.more;
  frames = c.copy-copied.result;
  copied = rw c.deref.ensures.value at c.copy-copied.ensures;
  sent = c.keep.ensures;
}
