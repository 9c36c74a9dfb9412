-- `judging::sum_outputs`: cost and net are those of the outputs so far.
use Rattle.judging.proofs.Summing.{Totalling}
use Rattle.judging.proofs.sum_outputs.Given as goal

abbrev pub invariant-loop-i : goal.invariant-loop-i
invariant-loop-i l = Totalling l.site.coefficients l.site.ends l.site.ranges l.site.count l.outputs l.cost l.net l.i
