use Rattle.std.proofs.Common.{ℕ, sym, ◌∙◌, ap}
use Rattle.std.specs.Prelude.{Vec}
use Rattle.std.specs.declared.alloc.Global.{Global}
use Rattle.std.proofs.lemmas.List.{take-map}
use Rattle.vale_line.specs.Gots.{buffers_of}
use Rattle.vale_serve.specs.Users.{contents}
use Rattle.vale_serve.proofs.Exchanges.{more-more}
use Rattle.vale_serve.proofs.putting.take_in.Goals as goal

pub returns : goal.returns
returns c = record {
  between = c.give.new.user;
  more = more-more c.args.user.now c.give_all.new.user c.give.new.user (buffers_of c.args.left.items) c.args.put.back.items c.give_all.ensures.more c.give.ensures.more;
  kept = c.truncate.new.self;
  kept_are = ap contents c.truncate.ensures.items ∙ sym (take-map (λ (v : Vec ℕ Global). v.items) c.args.put.took c.args.frames.items);
  sent = c.keep.ensures;
}
