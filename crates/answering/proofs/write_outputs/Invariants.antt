-- `answering::write_outputs`: the first i outputs are written.
use Rattle.std.proofs.Common.{map, take, pos}
use Rattle.rules.proofs.Encoding.Front.{Front}
use Rattle.answering.proofs.write_outputs.Given as goal

abbrev pub invariant-loop-i : goal.invariant-loop-i
invariant-loop-i l = Front l.initial.list (map pos (take l.i l.outputs)) l.list l.i
