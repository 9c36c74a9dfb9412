-- What the search asks and holds, and what its callers know before and after it (`FirstHeld`, `Measurable`): for every problem that the arrays of a site hold, the best allocation, the greatest floor and the number of the evaluations that the steps of rules 11.3 to 11.11 make; and a trace of these, each multiplier with its dual value (rule 20.3).
use Rattle.std.specs.Prelude.{ℕ, ◌+◌, ◌*◌, ◌^◌, ◌≤◌, ◌≡◌, cond, true, List, [], ◌∷◌, ◌⊎◌, ltb, ℤ, pos, length, get_or, drop, replicate, set, ◌≤ℤ◌}
use Rattle.std.specs.Int.Signed.{le_z}
use Rattle.rules.specs.Lists.{True}
use Rattle.rules.specs.Problem.{Problem, units_of, total_net, target}
use Rattle.rules.specs.Choice.{selected, dual_value, floor, greatest_floor}
use Rattle.rules.specs.Bisection.{Found, greatest_outputs, found, solvable}
use Rattle.site.specs.Site.{HoldsProblem}
use Rattle.evaluation.specs.declared.Sums.{Sums}
use Rattle.evaluation.specs.Clauses.{HoldsOutputs, Sized}
use Rattle.bisection.specs.declared.steps.Allocation as code-allocation
use Rattle.bisection.specs.declared.steps.Found as code
use Rattle.bisection.specs.declared.steps.SearchState as code-state
use Rattle.rules.specs.Stages.{Stage, at_zero, at_top, halving, finished, Standing, onward}

-- the arrays hold the problem q, and t is the net that covers its demand
pub record Holding (coefficients ends ranges : List ℕ) (n t : ℕ) (q : Problem) : Type 0 where
  pub problem : HoldsProblem coefficients ends ranges n q
  pub demanded : t ≡ target q

pub record Searchable (coefficients ends ranges : List ℕ) (n t : ℕ) : Type 0 where
  pub problem : Problem
  pub holds : Holding coefficients ends ranges n t problem

-- ---- H q says that the arrays hold q

abbrev pub sums_of : code-allocation.Allocation → Sums
sums_of a = record { cost = a.cost; net = a.net }

-- what an evaluation takes besides the outputs: their cost and net together, and the multiplier's dual value
pub record Selected : Type 0 where
  pub cost : ℕ
  pub net : ℕ
  pub dual : ℤ

abbrev pub allocated : List ℕ → Selected → code-allocation.Allocation
allocated outputs s = record { outputs = outputs; cost = s.cost; net = s.net }

-- an evaluation of m took these outputs; behind them are zeros
pub record Selects (H : Problem → Type 0) (n m : ℕ) (outputs : List ℕ) (s : Selected) : Type 0 where
  pub sized : Sized n (sums_of (allocated outputs s))
  pub taken : (q : Problem) → H q → HoldsOutputs q (selected m q) outputs (sums_of (allocated outputs s))
  pub dual : (q : Problem) → H q → s.dual ≡ dual_value m q
  pub beyond : drop n outputs ≡ drop n (replicate 32 0)

-- f holds what a search found: its best allocation and, of the multipliers that it evaluated, the greatest floor and the number
pub record HoldsFound (q : Problem) (g : Found (List ℕ)) (f : code.Found) : Type 0 where
  pub best : HoldsOutputs q g.best f.best.outputs (sums_of f.best)
  pub floor : f.floor ≡ greatest_floor q g.evaluated
  pub evaluations : f.evaluations ≡ length g.evaluated

-- ---- a trace of the evaluations: pair k, from place 2 × k on, is the multiplier of number k and its dual value

abbrev pub multiplier_at : List ℤ → ℕ → ℤ
multiplier_at trace k = get_or trace (2 * k) (pos 0)

abbrev pub dual_at : List ℤ → ℕ → ℤ
dual_at trace k = get_or trace (2 * k + 1) (pos 0)

-- pair k noted, if there is room for it
abbrev pub recorded : List ℤ → ℕ → ℕ → ℤ → List ℤ
recorded trace k m d = cond (ltb (2 * k + 1) (length trace)) (set (set trace (2 * k) (pos m)) (2 * k + 1) d) trace

-- it has the evaluated multipliers, given the last one first, in the order of evaluation
abbrev pub Traces : Problem → List ℕ → List ℤ → Type 0
Traces q [] trace = True
Traces q (m ∷ ms) trace = (multiplier_at trace (length ms) ≡ pos m) × (dual_at trace (length ms) ≡ dual_value m q) × Traces q ms trace

-- what a search found, and its trace, if that has room for 18 pairs
pub record HoldsTraced (q : Problem) (g : Found (List ℕ)) (f : code.Found) (trace : List ℤ) : Type 0 where
  pub found : HoldsFound q g f
  pub traced : 36 ≤ length trace → Traces q g.evaluated trace

-- ---- a search from where it stands

-- the numbers of a stage, after e evaluations: the next one is of low + width modulo 131,072, so the first of 0; a finished search has width 0
abbrev pub At : Stage → ℕ → ℕ → ℕ → Type 0
At at_zero low width e = (low ≡ 0) × (width ≡ 131072) × (e ≡ 0)
At at_top low width e = (low ≡ 0) × (width ≡ 65536) × (e ≡ 1)
At (halving k l) low width e = (low ≡ l) × (width ≡ 2 ^ k) × (e + k ≡ 17) × (low + 2 * width ≤ 65536)
At finished low width e = (width ≡ 0) × (e ≤ 18)

-- the numbers are those of some stage, and no more evaluations are made than asked for
pub record Begun (start : code-state.SearchState) : Type 0 where
  pub asked : start.evaluations ≤ start.most
  pub stage : Stage
  pub numbers : At stage start.low start.width start.evaluations

-- the greatest of z and the floors of some multipliers
abbrev pub raised_floor : Problem → ℤ → List ℕ → ℤ
raised_floor q z [] = z
raised_floor q z (m ∷ ms) = cond (le_z (floor m q) (raised_floor q z ms)) (raised_floor q z ms) (floor m q)

abbrev pub onward_of : Problem → ℕ → Standing (List ℕ) → Standing (List ℕ)
onward_of q = onward (λ m. selected m q) (total_net (units_of q)) (target q)

-- either x and a are x₀ and a₀, or a holds x with zeros behind it
abbrev pub HoldsBest : Problem → ℕ → List ℕ → code-allocation.Allocation → List ℕ → code-allocation.Allocation → Type 0
HoldsBest q n x₀ a₀ x a = ((x ≡ x₀) × (a ≡ a₀)) ⊎ (HoldsOutputs q x a.outputs (sums_of a) × (drop n a.outputs ≡ drop n (replicate 32 0)))

-- what `start` and `before` hold of s, f and `trace` hold of g
pub record HoldsStanding (q : Problem) (n : ℕ) (s : Standing (List ℕ)) (start : code-state.SearchState) (before : List ℤ) (stage : Stage) (g : Standing (List ℕ)) (f : code-state.SearchState) (trace : List ℤ) : Type 0 where
  pub best : HoldsBest q n s.best start.best g.best f.best
  pub floor : (z : ℤ) → start.floor ≡ raised_floor q z s.evaluated → f.floor ≡ raised_floor q z g.evaluated
  pub evaluations : start.evaluations ≡ length s.evaluated → f.evaluations ≡ length g.evaluated
  pub traced : 36 ≤ length trace → start.evaluations ≡ length s.evaluated → Traces q s.evaluated before → Traces q g.evaluated trace
  pub staged : g.stage ≡ stage

-- after `rounds` evaluations from `start`
pub record Reached (H : Problem → Type 0) (n : ℕ) (start : code-state.SearchState) (before : List ℤ) (f : code-state.SearchState) (trace : List ℤ) : Type 0 where
  pub stage : Stage
  pub rounds : ℕ
  pub numbers : At stage f.low f.width f.evaluations
  pub counted : f.evaluations ≡ start.evaluations + rounds
  pub most : f.most ≡ start.most
  pub sized : (k : ℕ) → n ≤ k → Sized k (sums_of start.best) → Sized k (sums_of f.best)
  pub held : (q : Problem) → H q → (s : Standing (List ℕ)) → At s.stage start.low start.width start.evaluations → HoldsStanding q n s start before stage (onward_of q rounds s) f trace

-- until it is finished, or has made as many evaluations as it may
pub record SearchesFrom (H : Problem → Type 0) (n : ℕ) (start : code-state.SearchState) (before : List ℤ) (r : code-state.SearchState) (trace : List ℤ) : Type 0 where
  pub reached : Reached H n start before r trace
  pub ended : (r.width ≡ 0) ⊎ (r.evaluations ≡ start.most)
  pub few : r.evaluations ≤ start.most
  pub low : r.width ≡ 0 → r.low ≡ 0

-- steps 2 to 4 of a problem, from the greatest outputs
pub record Searches (H : Problem → Type 0) (n : ℕ) (first : code-allocation.Allocation) (r : code.Found) (trace : List ℤ) : Type 0 where
  pub sized : Sized n (sums_of r.best)
  pub few : r.evaluations ≤ 18
  pub held : (q : Problem) → H q → HoldsOutputs q (greatest_outputs q) first.outputs (sums_of first) → HoldsTraced q (found q) r trace

-- ---- what is known before a search (crates `solving` and `judging` ask it), and a cost and a floor of which `distance` takes the difference

-- the arrays hold a problem that step 1 accepts, and its first best
pub record FirstHeld (coefficients ends ranges : List ℕ) (n t : ℕ) (first : code-allocation.Allocation) : Type 0 where
  pub problem : Problem
  pub holds : Holding coefficients ends ranges n t problem
  pub solves : solvable problem ≡ true
  pub sized : Sized n (sums_of first)
  pub greatest : HoldsOutputs problem (greatest_outputs problem) first.outputs (sums_of first)

-- a cost in range, and a floor from 0 to it
pub record Measurable (cost : ℕ) (floor : ℤ) : Type 0 where
  pub range : cost ≤ 6432000000000
  pub above : floor ≤ℤ pos cost
  pub positive : pos 0 ≤ℤ floor
