-- What step 1 tells of the problems that the arrays hold, by its answer; and with the search behind it, their solution.
use mathlib.Core.List.{List}
use Prim.Native.Nat.{ℕ}
use Rattle.std.proofs.Common.{None, Some}
use Rattle.rules.specs.Bisection.{greatest_outputs}
use Rattle.rules.specs.declared.Refusal.{Refusal}
use Rattle.evaluation.specs.Clauses.{Covering, NotCovering}
use Rattle.bisection.specs.declared.steps.Allocation as code-allocation
use Rattle.bisection.specs.Clauses.{Searchable, FirstHeld}
use Rattle.solving.specs.declared.Reply as code-reply
use Rattle.solving.specs.Clauses.{Solves, HoldsSolution}

module _ {coefficients ends ranges : List ℕ} {n t : ℕ} where
  -- no allocation
  pub unsolvable-held : {x : Refusal} → NotCovering coefficients ends ranges n t x → HoldsSolution coefficients ends ranges n t None
  unsolvable-held c q h = c.unsolved q h.problem h.demanded

  module _ {outputs : List ℕ} {c w : ℕ} (f : Covering coefficients ends ranges n t outputs c w) where
    abbrev first : code-allocation.Allocation
    first = record { outputs = outputs; cost = c; net = w }

    pub first-held : Searchable coefficients ends ranges n t → FirstHeld coefficients ends ranges n t first
    unfolding greatest_outputs
    first-held s =
        record {
          problem = s.problem;
          holds = s.holds;
          solves = f.solves s.problem s.holds.problem s.holds.demanded;
          sized = f.allocates.sized;
          greatest = f.allocates.held s.problem s.holds.problem;
        }

    pub solution-held : {r : code-reply.Reply} → Solves coefficients ends ranges n t first r → HoldsSolution coefficients ends ranges n t (Some r)
    unfolding greatest_outputs
    solution-held s q h = (f.solves q h.problem h.demanded, s.held q h (f.allocates.held q h.problem))
