-- `sensitivity::greatest_dual`: the greatest of the pairs so far.
use Rattle.sensitivity.proofs.Computed.{Reached}
use Rattle.sensitivity.proofs.greatest_dual.Given as goal

abbrev pub invariant-loop-k : goal.invariant-loop-k
invariant-loop-k l = Reached l.trace l.shift l.k l.greatest
