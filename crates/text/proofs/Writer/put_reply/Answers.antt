-- `text::Writer::put_reply` meets its contract: the outputs' lines are put behind the first line.
use Rattle.std.proofs.Common.{arith}
use Rattle.text.specs.Text.{reply_text}
use Rattle.text.proofs.Putting.{puts_more}
use Rattle.text.proofs.Writer.put_reply.Goals as goal

pub returns : goal.returns
unfolding reply_text
returns c = puts_more (omega arith) c.put_summary.ensures.0 c.put_outputs.ensures
