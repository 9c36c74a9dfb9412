-- Rules 24.1, 24.2 and 24.8 of docs/SPECIFICATION.md (since S-11). The nodes of the search of a case: for each unit a consecutive range of its regions; and what the reply states of the search.
use Rattle.std.specs.Prelude.{ℕ, suc, ◌-◌, Bool, false, cond, ◌&&◌, ◌||◌, List, [], ◌∷◌, map, ltb, length}
use Rattle.rules.specs.Lists.{each, filter, sum}
use Rattle.rules.specs.Unit.{Unit, permitted}
use Rattle.rules.specs.Regions.{Region, in_some, regions}
use Rattle.rules.specs.Layout.{Case}
use Rattle.rules.specs.Problem.{Offer, Problem}
use Rattle.rules.specs.Bisection.{Reply, solvable, solve}
use Rattle.branching.specs.Branching.{Tree, Progress, search, bound}

-- ---- nodes (the field's subproblems)

-- a unit with the regions that a node leaves it
pub record NodeUnit : Type 0 where
  pub unit : Unit
  pub regions : List Region

-- its permitted outputs in these
unfoldable pub offer_within : NodeUnit → Offer
offer_within h =
    record {
      unit = h.unit;
      outputs = filter (λ p. permitted h.unit p && in_some p h.regions) (each (suc h.unit.greatest) (λ p. p));
    }

-- a dispatch restricted to the node
abbrev pub problem_at : ℕ → List NodeUnit → Problem
problem_at d x = record { demand = d; offers = map offer_within x }

abbrev pub has_several : NodeUnit → Bool
has_several h = ltb 1 (length h.regions)

abbrev pub lowest_of : List Region → List Region
lowest_of [] = []
lowest_of (r ∷ rs) = r ∷ []

abbrev pub rest_of : List Region → List Region
rest_of [] = []
rest_of (r ∷ rs) = rs

abbrev pub any_several : List NodeUnit → Bool
any_several [] = false
any_several (h ∷ hs) = has_several h || any_several hs

-- the first unit with several regions keeps a part of them
unfoldable pub divided : (List Region → List Region) → List NodeUnit → List NodeUnit
divided part [] = []
divided part (h ∷ hs) = cond (has_several h) (record { unit = h.unit; regions = part h.regions } ∷ hs) (h ∷ divided part hs)

-- how many regions are left to split off
abbrev pub splits : List NodeUnit → ℕ
splits x = sum (map (λ h. length h.regions - 1) x)

-- evaluating a node is a dispatch restricted to it; its floor is that one's cost less its gap
abbrev pub tree : ℕ → Tree (List NodeUnit) Reply
tree d =
    record {
      solvable = λ x. solvable (problem_at d x);
      dispatch = λ x. solve (problem_at d x);
      cost = λ r. r.cost;
      floor = λ r. r.cost - r.gap;
      several = any_several;
      lowest = divided lowest_of;
      rest = divided rest_of;
    }

-- the root leaves each unit all its regions
abbrev pub root : Case → List NodeUnit
root c = map (λ u. record { unit = u; regions = regions u }) c.units

-- ---- what the search replies

pub record RefinedReply : Type 0 where
  pub nodes : ℕ
  pub cost : ℕ
  pub gap : ℕ
  pub surplus : ℕ
  pub outputs : List ℕ

unfoldable pub reply_of_search : ℕ → Progress Reply → RefinedReply
reply_of_search d s =
    record {
      nodes = s.visited;
      cost = s.best.cost;
      gap = s.best.cost - bound (tree d) s;
      surplus = s.best.surplus;
      outputs = s.best.outputs;
    }

unfoldable pub refined_reply : ℕ → Case → RefinedReply
refined_reply budget c = reply_of_search c.demand (search (tree c.demand) budget (splits (root c)) (root c))
