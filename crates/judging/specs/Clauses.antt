-- What the functions ask and answer over a decoded site: for every problem that its arrays hold.
use Rattle.std.specs.Prelude.{ℕ, ◌-◌, ◌≤◌, ◌≡◌, Bool, true, false, List, pos, ◌-ℤ◌, length, Some, None, Option}
use Rattle.rules.specs.Numbers.{natural}
use Rattle.rules.specs.Problem.{total_cost, total_net, Problem, units_of}
use Rattle.rules.specs.Choice.{greatest_floor}
use Rattle.rules.specs.Bisection.{greatest_outputs, found}
use Rattle.rules.specs.Offers.{Given}
use Rattle.site.specs.Site.{Within, HoldsProblem}
use Rattle.evaluation.specs.declared.Sums.{Sums}
use Rattle.evaluation.specs.Clauses.{SiteHeld, HoldsOutputs, Sized}
use Rattle.bisection.specs.declared.steps.Allocation as code-allocation
use Rattle.bisection.specs.Clauses.{sums_of, Holding}
use Rattle.judging.specs.declared.Judgement.{Judgement}

-- whether p lies in one of the regions first to last
pub record LiesTold (ends : List ℕ) (first last p : ℕ) (r : Bool) : Type 0 where
  pub inside : r ≡ true → Within ends first last p
  pub outside : r ≡ false → Within ends first last p → ⊥

-- the arrays hold some problem, and there is an output for each of its units
pub record Summable (coefficients ends ranges : List ℕ) (n : ℕ) (ps : List ℕ) : Type 0 where
  pub held : SiteHeld coefficients ends ranges n
  pub each : length ps ≡ n

-- the outputs ps, which the units of q offer, have this cost and net
pub record Summing (q : Problem) (ps : List ℕ) (c w : ℕ) : Type 0 where
  pub given : Given q.offers ps
  pub cost : c ≡ total_cost (units_of q) ps
  pub net : w ≡ total_net (units_of q) ps

pub record SumHeld (coefficients ends ranges : List ℕ) (n : ℕ) (ps : List ℕ) (c w : ℕ) : Type 0 where
  pub sized : Sized n (record { cost = c; net = w })
  pub held : (q : Problem) → HoldsProblem coefficients ends ranges n q → Summing q ps c w

abbrev pub SumTold : List ℕ → List ℕ → List ℕ → ℕ → List ℕ → Option Sums → Type 0
SumTold coefficients ends ranges n ps (Some s) = SumHeld coefficients ends ranges n ps s.cost s.net
SumTold coefficients ends ranges n ps None = (q : Problem) → HoldsProblem coefficients ends ranges n q → Given q.offers ps → ⊥

-- what is told of outputs of q, for the net t that covers its demand
pub record ToldHeld (q : Problem) (t : ℕ) (ps : List ℕ) (j : Judgement) : Type 0 where
  pub given : Given q.offers ps
  pub covers : t ≤ total_net (units_of q) ps
  pub cost : j.cost ≡ total_cost (units_of q) ps
  pub surplus : j.surplus ≡ total_net (units_of q) ps - t
  pub distance : j.distance ≡ natural (pos (total_cost (units_of q) ps) -ℤ greatest_floor q (found q).evaluated)

abbrev pub JudgedOf : Problem → ℕ → List ℕ → Option Judgement → Type 0
JudgedOf q t ps (Some j) = ToldHeld q t ps j
JudgedOf q t ps None = Given q.offers ps → t ≤ total_net (units_of q) ps → ⊥

abbrev pub JudgedHeld : List ℕ → List ℕ → List ℕ → ℕ → ℕ → code-allocation.Allocation → List ℕ → Option Judgement → Type 0
JudgedHeld coefficients ends ranges n t first ps a =
    (q : Problem) → Holding coefficients ends ranges n t q → HoldsOutputs q (greatest_outputs q) first.outputs (sums_of first) → JudgedOf q t ps a

-- (rule 1.7) the numbers that are told are in range
pub record SmallAnswer (c s d : ℕ) : Type 0 where
  pub cost : c ≤ 6432000000000
  pub surplus : s ≤ 35200000000000
  pub distance : d ≤ 6432000000000
