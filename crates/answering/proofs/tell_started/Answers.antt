-- `answering::tell_started` meets its contract.
use Rattle.std.proofs.Common.{sym, ap, ◌∙◌}
use Rattle.answering.specs.Answers.{number_of_started}
use Rattle.answering.proofs.tell_started.Goals as goal

pub returns-in-Err : goal.returns-in-Err
returns-in-Err c = c.number.ensures ∙ sym (ap number_of_started c.in-Err.is)
