-- `sensitivity::write_floors`: the floors of the first j demands are written.
use Rattle.sensitivity.proofs.Writing.{Writing}
use Rattle.sensitivity.proofs.write_floors.Given as goal

abbrev pub invariant-loop-j : goal.invariant-loop-j
invariant-loop-j l = Writing l.trace l.count l.target l.demands l.initial.floors l.floors l.j
