-- What is asked and answered where a node is evaluated: numbers and the lent best outputs hold what a search has; the sums of two multipliers are those of the node's choices; and then an evaluation leaves what `Branching.evaluated` says, or nothing else is seen of it.
use Rattle.std.specs.Prelude.{ℕ, suc, ◌+◌, ◌-◌, ◌≤◌, ◌<◌, max, min, ◌≡◌, true, cond, List, ltb, ℤ, take, Some, None}
use Rattle.rules.specs.Numbers.{natural}
use Rattle.rules.specs.Problem.{Offer, Problem, target}
use Rattle.rules.specs.Choice.{floor}
use Rattle.rules.specs.Bisection.{Reply, greatest_outputs, solvable, solve}
use Rattle.evaluation.specs.declared.Sums.{Sums}
use Rattle.evaluation.specs.Clauses.{HoldsOutputs}
use Rattle.bisection.specs.declared.steps.Allocation as code-allocation
use Rattle.bisection.specs.Clauses.{sums_of, Holding}
use Rattle.sums.specs.declared.Totals.{Totals}
use Rattle.sums.specs.Sums.{HoldsSums}
use Rattle.branching.specs.Branching.{Progress, evaluated, floor_of, least_or}
use Rattle.branching.specs.Nodes.{NodeUnit, problem_at, tree}
use Rattle.nodes.specs.declared.Progress as code-progress
use Rattle.nodes.specs.declared.Node as code-node
use Rattle.nodes.specs.declared.Seen as code-seen
use Rattle.nodes.specs.declared.NodeEvaluation as code-evaluation
use Rattle.nodes.specs.declared.Dispatch as code-dispatch
use Rattle.nodes.specs.declared.Searched as code-searched

-- ---- two multipliers

abbrev pub totals_of : Totals → Sums
totals_of s = record { cost = s.cost; net = s.net }

-- z is the floor of m of every problem whose sums at m these are
abbrev pub Floors : Totals → ℕ → ℕ → ℤ → Type 0
Floors s t m z = (q : Problem) → HoldsSums m q.offers s → t ≡ target q → z ≡ floor m q

-- the lower one does not cover, the upper one does, and nothing ties at that
pub record Confirms (low high : Totals) (t : ℕ) : Type 0 where
  pub short : low.net < t
  pub covers : t ≤ high.net
  pub alone : high.ties ≡ 0

-- x has the sums of the choices of some offers at its two multipliers
pub record SumsAt (os : List Offer) (x : code-node.Node) : Type 0 where
  pub low : HoldsSums x.multiplier os x.low
  pub high : HoldsSums (x.multiplier + 1) os x.high

-- f is the greater of the floors of the two multipliers, of every problem whose sums these are
abbrev pub KnownFloor : code-node.Node → ℕ → ℕ → Type 0
KnownFloor x t f = (q : Problem) → SumsAt q.offers x → t ≡ target q → f ≡ max (natural (floor x.multiplier q)) (natural (floor (x.multiplier + 1) q))

-- ---- what a search has

-- s and the array hold p; of the floors left open s has the least, as far as it lies below the best cost
pub record HoldsProgress (n : ℕ) (p : Progress Reply) (s : code-progress.Progress) (best : List ℕ) : Type 0 where
  pub visited : s.visited ≡ p.visited
  pub cost : s.cost ≡ p.best.cost
  pub surplus : s.surplus ≡ p.best.surplus
  pub outputs : take n best ≡ p.best.outputs
  pub bound : min s.cost s.floor ≡ least_or p.best.cost p.floors

-- ---- one node

-- d has of the dispatch of q what is stated besides the outputs
pub record Dispatches (q : Problem) (d : code-dispatch.Dispatch) : Type 0 where
  pub solves : solvable q ≡ true
  pub cost : d.cost ≡ (solve q).cost
  pub surplus : d.surplus ≡ (solve q).surplus
  pub floor : d.floor ≡ (solve q).cost - (solve q).gap

-- what the search has then, the best outputs apart
abbrev pub progress_after : code-progress.Progress → code-dispatch.Dispatch → code-progress.Progress
progress_after s d =
    cond (ltb d.cost s.cost) (record { visited = s.visited + 1; cost = d.cost; surplus = d.surplus; floor = s.floor }) (record { visited = s.visited + 1; cost = s.cost; surplus = s.surplus; floor = s.floor })

abbrev pub taken_at : ℕ → code-progress.Progress → code-dispatch.Dispatch → code-evaluation.NodeEvaluation
taken_at parent s d = record { seen = Some (record { floor = max parent d.floor; multiplier = d.multiplier }); progress = progress_after s d }

-- the dispatch of every problem that the arrays hold
pub record SearchesNode (coefficients ends ranges : List ℕ) (n t : ℕ) (first : code-allocation.Allocation) (r : code-searched.Searched) : Type 0 where
  pub multiplier : r.dispatch.multiplier ≤ 65535
  pub dispatches : (q : Problem) → Holding coefficients ends ranges n t q → solvable q ≡ true → HoldsOutputs q (greatest_outputs q) first.outputs (sums_of first) → Dispatches q r.dispatch × (take n r.outputs ≡ (solve q).outputs)

-- the node y evaluated: it has an allocation, its floor, and what the search then has
pub record SeenAt (n parent d : ℕ) (y : List NodeUnit) (p : Progress Reply) (v : code-seen.Seen) (s : code-progress.Progress) (best : List ℕ) : Type 0 where
  pub solves : solvable (problem_at d y) ≡ true
  pub floor : v.floor ≡ floor_of (tree d) parent y
  pub progress : HoldsProgress n (evaluated (tree d) y p) s best

-- the node y has no allocation, or the floor of its dispatch reaches the best cost: it only counts
pub record ClosedAt (n d : ℕ) (y : List NodeUnit) (p : Progress Reply) (s : code-progress.Progress) (best : List ℕ) : Type 0 where
  pub reaches : solvable (problem_at d y) ≡ true → p.best.cost ≤ (solve (problem_at d y)).cost - (solve (problem_at d y)).gap
  pub progress : HoldsProgress n (record { visited = suc p.visited; best = p.best; floors = p.floors }) s best

pub record EvaluatedAt (n parent d : ℕ) (y : List NodeUnit) (p : Progress Reply) (r : code-evaluation.NodeEvaluation) (best : List ℕ) : Type 0 where
  pub seen : (v : code-seen.Seen) → r.seen ≡ Some v → SeenAt n parent d y p v r.progress best
  pub closed : r.seen ≡ None → ClosedAt n d y p r.progress best

-- of every node of whose problem H holds, and whatever is held of a search before
pub record Evaluates (H : Problem → Type 0) (n parent : ℕ) (s : code-progress.Progress) (before : List ℕ) (r : code-evaluation.NodeEvaluation) (best : List ℕ) : Type 0 where
  pub multiplier : (v : code-seen.Seen) → r.seen ≡ Some v → v.multiplier ≤ 65535
  pub evaluates : (d : ℕ) (y : List NodeUnit) → H (problem_at d y) → (p : Progress Reply) → HoldsProgress n p s before → EvaluatedAt n parent d y p r best

-- by a dispatch of every node whose problem the arrays hold
abbrev pub DispatchesNode : List ℕ → List ℕ → List ℕ → ℕ → ℕ → ℕ → code-progress.Progress → List ℕ → code-evaluation.NodeEvaluation → List ℕ → Type 0
DispatchesNode coefficients ends ranges n t parent = Evaluates (Holding coefficients ends ranges n t) n parent

-- in any way, of every such node whose sums x has
abbrev pub EvaluatesNode : List ℕ → List ℕ → List ℕ → ℕ → ℕ → code-node.Node → code-progress.Progress → List ℕ → code-evaluation.NodeEvaluation → List ℕ → Type 0
EvaluatesNode coefficients ends ranges n t x = Evaluates (λ q. Holding coefficients ends ranges n t q × SumsAt q.offers x) n x.parent

-- asked: the arrays hold a problem, whose sums these are, and one node more can be counted
pub record NodeEvaluable (coefficients ends ranges : List ℕ) (n t : ℕ) (x : code-node.Node) (s : code-progress.Progress) : Type 0 where
  pub problem : Problem
  pub holds : Holding coefficients ends ranges n t problem
  pub sums : SumsAt problem.offers x
  pub multiplier : x.multiplier ≤ 65535
  pub under : s.visited < 4294967295
