-- `panel::shahfureel_gencost`: the call, told to C.
use Rattle.std.proofs.Common.{arith}
use Rattle.telling.proofs.Told.{gencost_told}
use Rattle.panel.proofs.shahfureel_gencost.Goals as goal

pub returns : goal.returns
returns c = gencost_told c.args.row.now c.args.answers.now (omega arith) c.read.ensures c.tell_costs.ensures.0 c.tell_costs.ensures.1
