-- `answering::tell_advanced` meets its contract: the state in the first place, or a refusal's number.
use Rattle.std.proofs.Common.{refl, pos}
use Rattle.answering.specs.Answers.{number_of_state}
use Rattle.answering.proofs.Telling.{one_written, state-told}
use Rattle.answering.proofs.tell_advanced.Goals as goal

pub returns-in-Ok : goal.returns-in-Ok
returns-in-Ok c = rw c.in-Ok.is (refl, rw (state-told c.in-Ok.state c.number_of_state.ensures) (one_written c.args.answers.now (pos (number_of_state c.in-Ok.state)) c.requires))

pub returns-in-Err : goal.returns-in-Err
returns-in-Err c = rw c.in-Err.is (c.number.ensures, refl)
