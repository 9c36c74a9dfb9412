-- What is asked and answered between the search and the reply, for every problem that the arrays hold.
use Rattle.std.specs.Prelude.{ℕ, ◌≤◌, ◌≡◌, true, false, List, length, Option, None, Some}
use Rattle.rules.specs.Problem.{Problem, target}
use Rattle.rules.specs.Bisection.{Found, greatest_outputs, solvable, reply_of, solve}
use Rattle.evaluation.specs.Clauses.{HoldsOutputs}
use Rattle.bisection.specs.declared.steps.Allocation as code-allocation
use Rattle.bisection.specs.declared.steps.Found as code-found
use Rattle.bisection.specs.Clauses.{sums_of, Holding, HoldsFound, Measurable}
use Rattle.solving.specs.declared.Reply as code-reply
use Rattle.solving.specs.ReplyHeld.{reply_held}

-- gap and surplus are not negative
pub record Stateable (t : ℕ) (f : code-found.Found) : Type 0 where
  pub covers : t ≤ f.best.net
  pub measurable : Measurable f.best.cost f.floor

pub record States (t : ℕ) (f : code-found.Found) (r : code-reply.Reply) : Type 0 where
  pub held : (q : Problem) → t ≡ target q → (g : Found (List ℕ)) → HoldsFound q g f → reply_held (length q.offers) r ≡ reply_of q g

-- the reply to every such problem
pub record Solves (coefficients ends ranges : List ℕ) (n t : ℕ) (first : code-allocation.Allocation) (r : code-reply.Reply) : Type 0 where
  pub held : (q : Problem) → Holding coefficients ends ranges n t q → HoldsOutputs q (greatest_outputs q) first.outputs (sums_of first) → reply_held n r ≡ solve q

-- the reply to a problem, if it is solvable; of every problem that the arrays hold
abbrev pub HoldsSolution : List ℕ → List ℕ → List ℕ → ℕ → ℕ → Option code-reply.Reply → Type 0
HoldsSolution coefficients ends ranges n t None = (q : Problem) → Holding coefficients ends ranges n t q → solvable q ≡ false
HoldsSolution coefficients ends ranges n t (Some reply) = (q : Problem) → Holding coefficients ends ranges n t q → (solvable q ≡ true) × (reply_held n reply ≡ solve q)
