use Rattle.vale_script.specs.Grammar.{is_line_feed}
use Rattle.vale_script.proofs.Cuts.{first_byte}
use Rattle.vale_script.proofs.reader.line_feed_in.Goals as goal

pub returns : goal.returns
returns c = first_byte is_line_feed c.args.bytes.now c.memchr.result c.memchr.ensures
