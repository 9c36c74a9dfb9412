-- `panel::shahfureel_run_ask`: the call, told to C.
use Rattle.std.proofs.Common.{arith}
use Rattle.answering.proofs.Told.{ask-told}
use Rattle.panel.proofs.shahfureel_run_ask.Goals as goal

pub returns : goal.returns
returns c = ask-told c.args.numbers.now c.args.answers.now (omega arith) c.tell_asked.ensures
