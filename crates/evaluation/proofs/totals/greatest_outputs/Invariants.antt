-- The first units have their greatest outputs.
use Rattle.rules.specs.Lists.{greatest}
use Rattle.evaluation.proofs.Allocating.{Allocating}
use Rattle.evaluation.proofs.totals.greatest_outputs.Given as goal

abbrev pub invariant-loop-i : goal.invariant-loop-i
invariant-loop-i l = Allocating (λ o. greatest o.outputs) l.site.coefficients l.site.ends l.site.ranges l.site.count l.outputs l.cost l.net l.i
