-- Rules 26.1 to 26.11 of docs/SPECIFICATION.md. Lower bounds of a case from other cases, one for each part of its allocations. (Proved in proofs/Claims.)
-- The idea is a Lagrangian relaxation of each part. In a part three inequalities hold (by branching, or as valid inequalities): the total output is at most M, the number of running units at most R and at least r. The costs of another case contain the multipliers of these, so that with them it costs no more than the case does in the part; hence a lower bound of the other case gives one of the part. Branch and bound puts the parts together: the lesser of two bounds is one of both parts.
use Rattle.std.specs.Prelude.{ℕ, ◌+◌, ◌*◌, ◌-◌, ◌≤◌, min, true, cond, List, [], ◌∷◌, map, ◌≡◌, eqb, pos, get_or, Ok, Err}
use Rattle.rules.specs.Lists.{sum, True, Pairwise}
use Rattle.rules.specs.Unit.{Unit, permitted, cost, net}
use Rattle.rules.specs.Regions.{Region}
use Rattle.rules.specs.Layout.{Case, case_of}
use Rattle.rules.specs.Problem.{total_cost}
use Rattle.rules.specs.Promise.{Permitted, Covering}
use Rattle.rules.specs.declared.Refusal.TheVariants.{NoAllocation}
use Rattle.rules.specs.Refusal.{file_verdict}
use Rattle.branching.specs.Refining.{refined_in, refined}
use Rattle.branching.specs.Claims.{Asked}

-- ---- (rule 26.1) an allocation's total output, in steps, and how many of its units run

abbrev pub total_output : List ℕ → ℕ
total_output ps = sum ps

-- 1 of a unit that runs, 0 of one that stands
abbrev pub runs : ℕ → ℕ
runs p = cond (eqb p 0) 0 1

abbrev pub running_units : List ℕ → ℕ
running_units ps = sum (map runs ps)

-- ---- (rule 26.2) a part of a case's allocations: a range for each unit, and bounds of the total output and of the number of running units

pub record Part : Type 0 where
  pub ranges : List Region
  pub most_output : ℕ  -- M
  pub least_running : ℕ  -- r
  pub most_running : ℕ  -- R

abbrev pub Inside : Region → ℕ → Type 0
Inside r p = (r.low ≤ p) × (p ≤ r.high)

pub record InPart (x : Part) (ps : List ℕ) : Type 0 where
  pub inside : Pairwise Inside x.ranges ps
  pub output : total_output ps ≤ x.most_output
  pub least : x.least_running ≤ running_units ps
  pub most : running_units ps ≤ x.most_running

-- ---- (rule 26.3) a shift of costs: the share at which the other case's costs count, and the multipliers of the three inequalities

pub record Shift : Type 0 where
  pub share : ℕ
  pub step : ℕ  -- added for each step of output: the multiplier of total output ≤ M
  pub start : ℕ  -- added for each running unit: of running units ≤ R
  pub credit : ℕ  -- taken off for each running unit: of r ≤ running units

-- v replaces u in a range: v permits each output there that u permits, and at the share costs no more than u with step and start added and the credit taken off (here without subtraction)
pub record Replaces (s : Shift) (u v : Unit) (r : Region) : Type 0 where
  pub outputs : (p : ℕ) → Inside r p → permitted u p ≡ true → permitted v p ≡ true
  pub costs :
      (p : ℕ) → Inside r p → permitted u p ≡ true
      → s.share * (cost v p + s.credit * runs p) ≤ cost u p + s.share * (s.step * p + s.start * runs p)

-- a relation between two units and a range, unit by unit, as many in each list
abbrev pub UnitByUnit : (Unit → Unit → Region → Type 0) → List Unit → List Unit → List Region → Type 0
UnitByUnit R [] [] [] = True
UnitByUnit R [] [] (r ∷ rs) = ⊥
UnitByUnit R [] (v ∷ vs) rs = ⊥
UnitByUnit R (u ∷ us) [] rs = ⊥
UnitByUnit R (u ∷ us) (v ∷ vs) [] = ⊥
UnitByUnit R (u ∷ us) (v ∷ vs) (r ∷ rs) = R u v r × UnitByUnit R us vs rs

-- the units of e replace those of c in the part
abbrev pub Replacement : Shift → Case → Case → Part → Type 0
Replacement s c e x = UnitByUnit (Replaces s) c.units e.units x.ranges

-- ---- (rule 26.4) bounds from below

-- no allocation that covers costs less than f
abbrev pub LowerBound : Case → ℕ → Type 0
LowerBound c f = (ps : List ℕ) → Permitted c ps → Covering c ps → f ≤ total_cost c.units ps

-- no such allocation of which P holds costs less than f
abbrev pub LowerBoundOn : Case → (List ℕ → Type 0) → ℕ → Type 0
LowerBoundOn c P f = (ps : List ℕ) → Permitted c ps → Covering c ps → P ps → f ≤ total_cost c.units ps

-- no allocation covers
abbrev pub Uncoverable : Case → Type 0
Uncoverable c = (ps : List ℕ) → Permitted c ps → Covering c ps → ⊥

-- ---- (rule 26.5) a lower bound of e bounds the allocations of the part that cover in e

abbrev pub PartBounded : Type 0
PartBounded =
    (s : Shift) (c e : Case) (x : Part) (f : ℕ) → Replacement s c e x → LowerBound e f
    → (ps : List ℕ) → Permitted c ps → InPart x ps → Covering e ps
    → s.share * (f + s.credit * x.least_running) ≤ total_cost c.units ps + s.share * (s.step * x.most_output + s.start * x.most_running)

-- ---- (rule 26.6) where nothing covers in e, the part has no such allocation

abbrev pub PartEmpty : Type 0
PartEmpty =
    (s : Shift) (c e : Case) (x : Part) → Replacement s c e x → Uncoverable e
    → (ps : List ℕ) → Permitted c ps → InPart x ps → Covering e ps → ⊥

-- ---- what covers in e

-- (rule 26.7) what covers in c, if no unit of e nets less than the one that it replaces and e demands no more
abbrev pub NetsNoLess : Unit → Unit → Region → Type 0
NetsNoLess u v r = (p : ℕ) → Inside r p → permitted u p ≡ true → net u p ≤ net v p

abbrev pub CoversWithNoMoreLosses : Type 0
CoversWithNoMoreLosses =
    (c e : Case) (x : Part) → UnitByUnit NetsNoLess c.units e.units x.ranges → e.demand ≤ c.demand
    → (ps : List ℕ) → Permitted c ps → InPart x ps → Covering c ps → Covering e ps

-- (rule 26.8) what has a total output of at least the demand of e, if its units have no losses
abbrev pub NoLosses : Unit → Region → Type 0
NoLosses v r = (v.b ≡ 0) × (v.b1 ≡ pos 0)

abbrev pub CoversWithoutLosses : Type 0
CoversWithoutLosses =
    (e : Case) (x : Part) → Pairwise NoLosses e.units x.ranges
    → (ps : List ℕ) → InPart x ps → e.demand ≤ total_output ps → Covering e ps

-- ---- (rule 26.9) rule 26.5 as a lower bound: each z that the bound of e reaches is one of the allocations of the part that cover in e

abbrev pub BoundOnPart : Type 0
BoundOnPart =
    (s : Shift) (c e : Case) (x : Part) (f z : ℕ) → Replacement s c e x → LowerBound e f
    → z + s.share * (s.step * x.most_output + s.start * x.most_running) ≤ s.share * (f + s.credit * x.least_running)
    → LowerBoundOn c (λ ps. InPart x ps × Covering e ps) z

-- ---- (rule 26.10) parts together (branch and bound)

-- two parts, f at most m and f above m: the lesser of their bounds is a lower bound on both together
abbrev pub SplitsBy : (List ℕ → ℕ) → Type 1
SplitsBy f =
    (c : Case) (P : List ℕ → Type 0) (m y z : ℕ)
    → LowerBoundOn c (λ ps. P ps × (f ps ≤ m)) y
    → LowerBoundOn c (λ ps. P ps × (m + 1 ≤ f ps)) z
    → LowerBoundOn c P (min y z)

pub record PartsTogether : Type 1 where
  -- f is the total output, the number of running units, or the output of unit i, counted from 0
  pub output : SplitsBy total_output
  pub running : SplitsBy running_units
  pub unit : (i : ℕ) → SplitsBy (λ ps. get_or ps i 0)
  -- a bound on a part is one on what lies in it; a part where nothing covers has every bound
  pub within : (c : Case) (P Q : List ℕ → Type 0) (z : ℕ) → ((ps : List ℕ) → Permitted c ps → Covering c ps → P ps → Q ps) → LowerBoundOn c Q z → LowerBoundOn c P z
  pub empty : (c : Case) (P : List ℕ → Type 0) (z : ℕ) → ((ps : List ℕ) → Permitted c ps → Covering c ps → P ps → ⊥) → LowerBoundOn c P z
  -- and a bound on the part that has every allocation is a lower bound of the case
  pub all : (c : Case) (z : ℕ) → LowerBoundOn c (λ ps. True) z → LowerBound c z

-- ---- (rule 26.11) what refining says of an accepted file: a reply's cost less its gap is a lower bound; where number 11 refuses, nothing covers

abbrev pub RefinedBound : Type 0
RefinedBound =
    (file : List ℕ) (budget : ℕ) (reply : List ℕ) → file_verdict file ≡ Ok tt → Asked budget reply
    → ¬ ((refined file budget reply).answer ≡ Err NoAllocation)
    → LowerBound (case_of file) ((refined_in (refined file budget reply).reply).cost - (refined_in (refined file budget reply).reply).gap)

abbrev pub RefusedUncoverable : Type 0
RefusedUncoverable =
    (file : List ℕ) (budget : ℕ) (reply : List ℕ) → file_verdict file ≡ Ok tt → Asked budget reply
    → (refined file budget reply).answer ≡ Err NoAllocation
    → Uncoverable (case_of file)
