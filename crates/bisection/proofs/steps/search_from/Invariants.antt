-- Where the search stands (`Searching`); behind the units the outputs are zeros. Each turn halves the width.
use Rattle.std.proofs.Common.{◌≡◌, ◌≤◌, drop, replicate}
use Rattle.bisection.specs.Clauses.{Holding, Reached}
use Rattle.bisection.proofs.steps.search_from.Given as goal

abbrev pub invariant-loop-outputs : goal.invariant-loop-outputs
invariant-loop-outputs l =
    record {
      reached : Reached (Holding l.site.coefficients l.site.ends l.site.ranges l.site.count l.site.target) l.site.count l.fn.start l.fn.trace l.state l.trace;
      few : l.state.evaluations ≤ l.fn.start.most;
      empty : drop l.site.count l.outputs ≡ drop l.site.count (replicate 32 0);
    }

abbrev pub decreases-loop-outputs : goal.decreases-loop-outputs
decreases-loop-outputs l = l.state.width
