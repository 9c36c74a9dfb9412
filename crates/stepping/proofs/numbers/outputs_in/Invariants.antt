-- `stepping::numbers::outputs_in`: the first i outputs are copied.
use Rattle.stepping.proofs.Copying.{Copying}
use Rattle.stepping.proofs.numbers.outputs_in.Given as goal

abbrev pub invariant-loop-i : goal.invariant-loop-i
invariant-loop-i l = Copying l.initial.outputs 0 l.list l.outputs l.i
