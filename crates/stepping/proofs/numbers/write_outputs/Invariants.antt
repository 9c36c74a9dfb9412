-- `stepping::numbers::write_outputs`: the first i outputs are copied.
use Rattle.stepping.proofs.Copying.{Copying}
use Rattle.stepping.proofs.numbers.write_outputs.Given as goal

abbrev pub invariant-loop-i : goal.invariant-loop-i
invariant-loop-i l = Copying l.initial.list 0 l.outputs l.list l.i
