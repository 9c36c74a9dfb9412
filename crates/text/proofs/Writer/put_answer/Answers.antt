-- `text::Writer::put_answer` meets its contract: a reply's text, or the word and the number of a refusal.
use Rattle.std.proofs.Common.{arith, ◌∙◌}
use Rattle.text.specs.Text.{text_of, refused_text}
use Rattle.text.proofs.Putting.{puts_more}
use Rattle.text.proofs.Writer.put_answer.Goals as goal

pub returns-in-Ok : goal.returns-in-Ok
unfolding text_of
returns-in-Ok c = rw c.in-Ok.is c.put_reply.ensures

pub returns-in-Err : goal.returns-in-Err
unfolding text_of refused_text
returns-in-Err c = rw c.in-Err.is (puts_more (omega arith) (rw (c.from.ensures ∙ c.number.ensures) at c.put_field.ensures.0) c.put_word.ensures)
