-- What functions below start and advance ask and answer: a run's numbers as the code writes them, and one evaluation on the arrays of a site, for every problem that these hold.
use Rattle.std.specs.Prelude.{ℕ, ◌≡◌, true, List}
use Rattle.rules.specs.Problem.{Problem}
use Rattle.bisection.specs.Clauses.{Holding, Searchable}
use Rattle.stepping.specs.declared.numbers.Numbers.{Numbers}
use Rattle.stepping.specs.Runs.{Run, begun, evaluated}

abbrev pub run_of : Numbers → Run
run_of n = record { started = 1; finished = n.finished; evaluations = n.evaluations; low = n.low; cost = n.cost; surplus = n.surplus; floor = n.floor; count = n.count; length = n.length; outputs = n.outputs }

-- an unfinished run, and the arrays of a site
pub record Advanceable (before : Numbers) (coefficients ends ranges : List ℕ) (n t : ℕ) : Type 0 where
  pub begins : begun (run_of before) ≡ true
  pub unfinished : before.finished ≡ 1 → ⊥
  pub searchable : Searchable coefficients ends ranges n t

-- one evaluation of every problem that the arrays hold
pub record Evaluates (before : Numbers) (coefficients ends ranges : List ℕ) (n t : ℕ) (after : Numbers) : Type 0 where
  pub held : (q : Problem) → Holding coefficients ends ranges n t q → run_of after ≡ evaluated q (run_of before)
