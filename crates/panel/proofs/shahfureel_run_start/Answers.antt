-- `panel::shahfureel_run_start`: the call, told to C.
use Rattle.answering.proofs.Told.{start-told}
use Rattle.panel.proofs.shahfureel_run_start.Goals as goal

pub returns : goal.returns
returns c = start-told _ _ _ c.start.ensures c.tell_started.ensures
