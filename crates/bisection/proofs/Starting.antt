-- Where a search starts: what step 1 found is the problem of the file, with its first best.
use Prim.Native.Nat.{ℕ}
use mathlib.Core.List.{List}
use Rattle.rules.specs.Problem.{problem_in}
use Rattle.rules.specs.Bisection.{greatest_outputs}
use Rattle.rules.proofs.Demand3.{case-accepted}
use Rattle.evaluation.specs.Clauses.{HoldsOutputs, First}
use Rattle.bisection.specs.Clauses.{Holding, FirstHeld}

module _ {file coefficients ends ranges outputs : List ℕ} {n t c w : ℕ} (f : First file coefficients ends ranges outputs n t c w) where
  pub holding : Holding coefficients ends ranges n t (problem_in file)
  holding = record { problem = f.site.holds; demanded = f.site.demanded }

  pub greatest-held : HoldsOutputs (problem_in file) (greatest_outputs (problem_in file)) outputs (record { cost = c; net = w })
  unfolding greatest_outputs
  greatest-held = f.allocates.held (problem_in file) f.site.holds

  pub solving : FirstHeld coefficients ends ranges n t (record { outputs = outputs; cost = c; net = w })
  solving = record { problem = problem_in file; holds = holding; solves = (case-accepted file f.accepted).1; sized = f.allocates.sized; greatest = greatest-held }
