-- The first units are lowered as far as all together then still cover.
use Rattle.lowering.proofs.Lowered.{Lowering}
use Rattle.lowering.proofs.lower.Given as goal

abbrev pub invariant-loop-i : goal.invariant-loop-i
invariant-loop-i l = Lowering l.site.coefficients l.site.count l.site.target l.initial.sums l.least l.fn.outputs l.outputs l.sums l.i
