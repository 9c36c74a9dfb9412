-- `text::write_text` meets its contract: what is put from place 0 on stands over the buffer's start.
use Rattle.std.proofs.Common.{refl, rules}
use Rattle.text.proofs.Putting.{puts-over}
use Rattle.text.proofs.write_text.Goals as goal

pub returns : goal.returns
returns c = let told = puts-over refl c.put_answer.ensures in search (rules, c.put_answer.ensures.same, told.0, told.1)
