-- `text::Writer::put_field` meets its contract: a number is put behind a word.
use Rattle.std.proofs.Common.{arith}
use Rattle.text.proofs.Putting.{puts_more}
use Rattle.text.proofs.Writer.put_field.Goals as goal

pub returns : goal.returns
returns c = (puts_more (omega arith) c.put_word.ensures c.put_number.ensures.0, omega (arith, c.put_word.ensures.bytes.ends))
