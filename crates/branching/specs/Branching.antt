-- Rules 24.3 to 24.8 of docs/SPECIFICATION.md (since S-11). Branch and bound within a budget of evaluations, over any type of nodes: which nodes it visits, in which order, and what it then has.
use Rattle.std.specs.Prelude.{ℕ, zero, suc, max, min, Bool, cond, ◌&&◌, List, [], ◌∷◌, ltb}

-- the nodes of a search; R is what a dispatch of one gives
pub record Tree (N R : Type 0) : Type 0 where
  -- whether a node has an allocation that covers (here always meant by one); then its dispatch, that one's cost, and the floor that it proves of the node
  pub solvable : N → Bool
  pub dispatch : N → R
  pub cost : R → ℕ
  pub floor : R → ℕ
  -- whether a unit of the node has several regions; then the part of the node where the first such unit has its lowest region alone, and the part where it has the rest
  pub several : N → Bool
  pub lowest : N → N
  pub rest : N → N

-- what the search has: how many nodes are evaluated, the cheapest of their dispatches (the field's incumbent), and the floors of the nodes that are not replaced by children
pub record Progress (R : Type 0) : Type 0 where
  pub visited : ℕ
  pub best : R
  pub floors : List ℕ

-- the least of some numbers and c
abbrev pub least_or : ℕ → List ℕ → ℕ
least_or c [] = c
least_or c (x ∷ xs) = min x (least_or c xs)

module _ {N R : Type 0} (t : Tree N R) where
  -- a node has an allocation, and its dispatch is cheaper than the best
  abbrev pub is_cheaper : N → Progress R → Bool
  is_cheaper x s = t.solvable x && ltb (t.cost (t.dispatch x)) (t.cost s.best)

  -- a node is evaluated: it counts, also without an allocation; its dispatch is the best if it is cheaper than the best
  abbrev pub evaluated : N → Progress R → Progress R
  evaluated x s = record { visited = suc s.visited; best = cond (is_cheaper x s) (t.dispatch x) s.best; floors = s.floors }

  -- a node's floor: the larger of its parent's and its own
  abbrev pub floor_of : ℕ → N → ℕ
  floor_of parent x = max parent (t.floor (t.dispatch x))

  -- a node is split (branched) if a unit has several regions and the floor does not reach the best cost, the node's own dispatch counted
  abbrev pub is_split : ℕ → N → Progress R → Bool
  is_split parent x s = t.solvable x && t.several x && ltb (floor_of parent x) (t.cost s.best)

  -- a floor joins those left open
  abbrev pub with_floor : ℕ → Progress R → Progress R
  with_floor f s = record { visited = s.visited; best = s.best; floors = f ∷ s.floors }

  -- a node that is not split stays open, with its floor; one without an allocation is dropped
  abbrev pub stays : ℕ → N → Progress R → Progress R
  stays parent x s = cond (t.solvable x) (with_floor (floor_of parent x) s) s

  -- a node that is not evaluated, the budget being spent, has its parent's floor
  abbrev pub unevaluated : ℕ → Progress R → Progress R
  unevaluated parent s = with_floor parent s

  -- Depth first: the part with the lowest region, and all that comes of it; then the rest.
  -- The numbers are the budget, how many regions are left to split off, which falls at each split and never hinders one (`Claims.LeftSuffices`), and the parent's floor.
  unfoldable pub visit : ℕ → ℕ → ℕ → N → Progress R → Progress R
  visit budget zero parent x s = cond (ltb s.visited budget) (stays parent x (evaluated x s)) (unevaluated parent s)
  visit budget (suc left) parent x s =
      let next = evaluated x s in
      let below = floor_of parent x in
      let parts = visit budget left below (t.rest x) (visit budget left below (t.lowest x) next) in
      cond (ltb s.visited budget) (cond (is_split parent x next) parts (stays parent x next)) (unevaluated parent s)

  -- from the root, which has an allocation. (It has no parent; no floor is negative. Its own dispatch is the first best: an equal cost does not replace it.)
  unfoldable pub search : ℕ → ℕ → N → Progress R
  search budget left root = visit budget left 0 root (record { visited = 0; best = t.dispatch root; floors = [] })

  -- what is proved of every allocation: the least floor among the nodes not replaced by children, or the best cost if that is lower
  abbrev pub bound : Progress R → ℕ
  bound s = least_or (t.cost s.best) s.floors
