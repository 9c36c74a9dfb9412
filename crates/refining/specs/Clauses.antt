-- What is asked and answered between the functions of the search: the arrays hold a node if they hold each of its units with the regions that the node leaves it; numbers with the lent best outputs hold what a search has (crate `nodes`). A visit of any node that the arrays hold then gives what `Branching.visit` says.
use Rattle.std.specs.Prelude.{ℕ, ◌+◌, ◌*◌, ◌≤◌, ◌<◌, ◌≡◌, true, List, [], length, get_or, take, set, Option, Some, None}
use Rattle.rules.specs.Unit.{permitted}
use Rattle.rules.specs.Regions.{in_some}
use Rattle.rules.specs.Lists.{Every}
use Rattle.rules.specs.Problem.{Offer, Problem}
use Rattle.rules.specs.Offers.{Available}
use Rattle.rules.specs.Bisection.{Reply}
use Rattle.site.specs.Site.{first, last, Coefficients, Regions, regions_at, HoldsOffer, HoldsProblem, no_offer}
use Rattle.sums.specs.Sums.{HoldsTerm, TermHeld, Terms}
use Rattle.branching.specs.Branching.{Progress, visit}
use Rattle.branching.specs.Nodes.{NodeUnit, problem_at, tree, RefinedReply}
use Rattle.nodes.specs.declared.Progress as code-progress
use Rattle.nodes.specs.declared.Node as code-node
use Rattle.nodes.specs.Clauses.{SumsAt, HoldsProgress}
use Rattle.refining.specs.declared.exchanging.UnitTerms as code-terms
use Rattle.refining.specs.declared.reply.Refined as code-refined

-- ---- ranges

-- unit k has the regions from a to b
abbrev pub ranged : List ℕ → ℕ → ℕ → ℕ → List ℕ
ranged ranges k a b = set (set ranges (2 * k) a) (2 * k + 1) b

-- unit k is the first of n with several regions
pub record SeveralAt (ranges : List ℕ) (n k : ℕ) : Type 0 where
  pub place : k < n
  pub before : (j : ℕ) → j < k → first ranges j ≡ last ranges j
  pub several : first ranges k ≡ last ranges k → ⊥

-- k is that unit; or none has several
abbrev pub FirstSeveral : List ℕ → ℕ → Option ℕ → Type 0
FirstSeveral ranges n (Some k) = SeveralAt ranges n k
FirstSeveral ranges n None = (j : ℕ) → j < n → first ranges j ≡ last ranges j

-- ---- the arrays hold a node

-- unit i of the arrays is h: its unit's coefficients, and the regions left to it, one by one; each output in them is permitted
pub record HoldsNodeUnit (coefficients ends ranges : List ℕ) (i : ℕ) (h : NodeUnit) : Type 0 where
  pub unit : Coefficients coefficients i h.unit
  pub from : 6 * i ≤ first ranges i
  pub to : last ranges i < 6 * i + 6
  pub ascending : Regions ends (first ranges i) (last ranges i)
  pub regions : regions_at ends ranges i ≡ h.regions
  pub permitted : (p : ℕ) → in_some p h.regions ≡ true → permitted h.unit p ≡ true

-- what stands past the end of a node
abbrev pub no_unit : NodeUnit
no_unit = record { unit = no_offer.unit; regions = [] }

pub record HoldsNode (coefficients ends ranges : List ℕ) (n : ℕ) (x : List NodeUnit) : Type 0 where
  pub count : length x ≡ n
  pub few : n ≤ 32
  pub units : (i : ℕ) → i < n → HoldsNodeUnit coefficients ends ranges i (get_or x i no_unit)

-- the node x, for the demand d
pub record NodeHeld (coefficients ends ranges : List ℕ) (n t : ℕ) (d : ℕ) (x : List NodeUnit) : Type 0 where
  pub node : HoldsNode coefficients ends ranges n x
  pub demand : d ≤ 320000
  pub target : t ≡ 100000000 * d

-- they hold some node, whose sums at its two multipliers x has
pub record Visitable (coefficients ends ranges : List ℕ) (n t : ℕ) (x : code-node.Node) : Type 0 where
  pub demand : ℕ
  pub node : List NodeUnit
  pub held : NodeHeld coefficients ends ranges n t demand node
  pub sums : SumsAt (problem_at demand node).offers x
  pub multiplier : x.multiplier ≤ 65535

-- ---- the sums of a node

-- x has the parent's floor f, and the sums at m and m + 1 of every problem that the arrays hold
pub record SumsHeld (coefficients ends ranges : List ℕ) (n f m : ℕ) (x : code-node.Node) : Type 0 where
  pub parent : x.parent ≡ f
  pub multiplier : x.multiplier ≡ m
  pub sums : (q : Problem) → HoldsProblem coefficients ends ranges n q → SumsAt q.offers x

-- of every such problem whose sums x has
pub record SumsKept (coefficients ends ranges : List ℕ) (n f m : ℕ) (x r : code-node.Node) : Type 0 where
  pub parent : r.parent ≡ f
  pub multiplier : r.multiplier ≡ m
  pub sums : (q : Problem) → HoldsProblem coefficients ends ranges n q → SumsAt q.offers x → SumsAt q.offers r

-- the terms of unit k of the arrays at m and at m + 1
pub record HoldsUnitTerms (coefficients ends ranges : List ℕ) (k m : ℕ) (r : code-terms.UnitTerms) : Type 0 where
  pub low : Terms coefficients ends ranges k m r.low
  pub high : Terms coefficients ends ranges k (m + 1) r.high

-- x has the sums of some offers, and old the terms of number k in them
pub record SumsWith (os : List Offer) (k : ℕ) (x : code-node.Node) (old : code-terms.UnitTerms) : Type 0 where
  pub sums : SumsAt os x
  pub low : HoldsTerm x.multiplier (get_or os k no_offer) old.low
  pub high : HoldsTerm (x.multiplier + 1) (get_or os k no_offer) old.high

pub record NodeExchangeable (coefficients ends ranges : List ℕ) (k : ℕ) (x : code-node.Node) (old : code-terms.UnitTerms) : Type 0 where
  pub unit : TermHeld coefficients ends ranges k (x.multiplier + 1)
  pub offers : List Offer
  pub available : Every Available offers
  pub few : length offers ≤ 32
  pub place : k < length offers
  pub sums : SumsWith offers k x old

-- r has the sums of these offers with another for number k, which is unit k of the arrays
pub record ExchangesNode (coefficients ends ranges : List ℕ) (k : ℕ) (x : code-node.Node) (old : code-terms.UnitTerms) (r : code-node.Node) : Type 0 where
  pub parent : r.parent ≡ x.parent
  pub multiplier : r.multiplier ≡ x.multiplier
  pub sums : (os : List Offer) (o : Offer) → k < length os → SumsWith os k x old → HoldsOffer coefficients ends ranges k o → SumsAt (set os k o) r

-- ---- a visit of every node that the arrays hold and whose sums x has

pub record Visits (coefficients ends ranges : List ℕ) (n t budget left : ℕ) (x : code-node.Node) (s : code-progress.Progress) (before : List ℕ) (r : code-progress.Progress) (best : List ℕ) : Type 0 where
  pub visits : (d : ℕ) (y : List NodeUnit) → NodeHeld coefficients ends ranges n t d y → SumsAt (problem_at d y).offers x → (p : Progress Reply) → HoldsProgress n p s before → HoldsProgress n (visit (tree d) budget left x.parent y p) r best

-- ---- the reply

-- what the code's `Refined` holds for n units
abbrev pub refined_held : ℕ → code-refined.Refined → RefinedReply
refined_held n r = record { nodes = r.nodes; cost = r.cost; gap = r.gap; surplus = r.surplus; outputs = take n r.outputs }
