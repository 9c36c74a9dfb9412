-- A visit of the node that the arrays hold, by what happens at it: each way out of the function gives what `Branching.visit` says.
use mathlib.Core.Path.{◌≡◌, sym, subst, ◌∙◌}
use mathlib.Core.Bool.{Bool, cond, true≢false}
use mathlib.Core.List.{List}
use Rattle.std.proofs.Common.{Some, None}
use Prim.Native.Nat.{ℕ, suc, ◌+◌, ◌-◌, ◌≤◌, ◌<◌, min}
use native.Mathlib.Omega.{arith}
use Rattle.rules.specs.Bisection.{Reply}
use Rattle.site.specs.Site.{first, last}
use Rattle.branching.specs.Branching.{Progress, evaluated, floor_of, with_floor, stays, visit}
use Rattle.rules.specs.Regions.{Region}
use Rattle.branching.specs.Nodes.{NodeUnit, problem_at, lowest_of, rest_of, divided, tree}
use Rattle.branching.proofs.NodeByNode.{visit-spent, visit-last, visit-stays, visit-splits}
use Rattle.branching.proofs.Closed.{closed}
use Rattle.nodes.specs.declared.Progress as code-progress
use Rattle.nodes.specs.declared.Node as code-node
use Rattle.nodes.specs.declared.Seen as code-seen
use Rattle.nodes.specs.declared.NodeEvaluation as code-evaluation
use Rattle.nodes.specs.Clauses.{SumsAt, HoldsProgress, SeenAt, EvaluatesNode}
use Rattle.refining.specs.Clauses.{ranged, SeveralAt, FirstSeveral, NodeHeld, Visits}
use Rattle.refining.proofs.NodesHeld.{node-problem, no_several, any_several_lem, lowest-held, rest-held}
use Rattle.refining.proofs.ProgressHeld.{floor-held, alike-held}

abbrev joined : code-progress.Progress → ℕ → code-progress.Progress
joined s f = record { visited = s.visited; cost = s.cost; surplus = s.surplus; floor = min f s.floor }

-- ---- the parts of a node that is split at unit i

module _ {coefficients ends ranges : List ℕ} {n t i : ℕ} (f : SeveralAt ranges n i) {d : ℕ} {y : List NodeUnit} (h : NodeHeld coefficients ends ranges n t d y) where
  pub lowest-node : NodeHeld coefficients ends (ranged ranges i (first ranges i) (first ranges i)) n t d (divided lowest_of y)
  lowest-node = record { node = lowest-held h.node f; demand = h.demand; target = h.target }

  pub rest-node : NodeHeld coefficients ends (ranged ranges i (first ranges i + 1) (last ranges i)) n t d (divided rest_of y)
  rest-node = record { node = rest-held h.node f; demand = h.demand; target = h.target }

-- x₁ has the floor of a node x that is split, and the sums of one of its parts
pub record PartOf (coefficients ends ranges : List ℕ) (n t : ℕ) (x : code-node.Node) (part : List Region → List Region) (floor : ℕ) (x₁ : code-node.Node) : Type 0 where
  pub parent : x₁.parent ≡ floor
  pub multiplier : x₁.multiplier ≤ 65535
  pub sums : (d : ℕ) (y : List NodeUnit) → NodeHeld coefficients ends ranges n t d y → SumsAt (problem_at d y).offers x → SumsAt (problem_at d (divided part y)).offers x₁

-- ---- a visit

module _ {coefficients ends ranges : List ℕ} {n t : ℕ} (budget left : ℕ) (x : code-node.Node) (s : code-progress.Progress) (before : List ℕ) where
  -- the budget is spent
  pub visits-spent : budget ≤ s.visited → {r : code-progress.Progress} → r ≡ joined s x.parent → Visits coefficients ends ranges n t budget left x s before r before
  visits-spent h e =
      record {
        visits = λ d y node sums p held. rw (visit-spent (tree d) budget left x.parent y p (omega (arith, h, held.visited))) (floor-held d x.parent held e);
      }

  -- the node is evaluated
  module _ {e : code-evaluation.NodeEvaluation} {best : List ℕ} (under : s.visited < budget) (evaluation : EvaluatesNode coefficients ends ranges n t x s before e best) where
    -- nothing else is seen of it
    pub visits-closed : e.seen ≡ None → Visits coefficients ends ranges n t budget left x s before e.progress best
    visits-closed k =
        record {
          visits = λ d y node sums p held.
              let c = (evaluation.evaluates d y (node-problem node, sums) p held).closed k in
              alike-held d (closed (tree d) budget left x.parent y p (omega (arith, under, held.visited)) (λ some. record { reaches = c.reaches some; proved = omega arith })) c.progress;
        }

    module _ {v : code-seen.Seen} (k : e.seen ≡ Some v) where
      -- of a node that is held
      module _ (d : ℕ) (y : List NodeUnit) (node : NodeHeld coefficients ends ranges n t d y) (sums : SumsAt (problem_at d y).offers x) (p : Progress Reply) (held : HoldsProgress n p s before) where
        at : SeenAt n x.parent d y p v e.progress best
        at = (evaluation.evaluates d y (node-problem node, sums) p held).seen v k

        abbrev next : Progress Reply
        next = evaluated (tree d) y p

        few : p.visited < budget
        few = omega (arith, under, held.visited)

        cost-is : e.progress.cost ≡ next.best.cost
        cost-is = at.progress.cost

        -- its floor joins
        kept : {r : code-progress.Progress} → r ≡ joined e.progress v.floor → HoldsProgress n (stays (tree d) x.parent y next) r best
        kept {r} q =
            subst (λ (b : Bool). HoldsProgress n (cond b (with_floor (tree d) (floor_of (tree d) x.parent y) next) next) r best) (sym at.solves)
            (subst (λ (f : ℕ). HoldsProgress n (with_floor (tree d) f next) r best) at.floor (floor-held d v.floor at.progress q))

      -- its floor reaches the best cost
      pub visits-reached : e.progress.cost ≤ v.floor → {r : code-progress.Progress} → r ≡ joined e.progress v.floor → Visits coefficients ends ranges n t budget left x s before r best
      visits-reached h q =
          record {
            visits = λ d y node sums p held.
                rw (visit-stays (tree d) budget left x.parent y p (few d y node sums p held) (λ _ _. omega (arith, h, cost-is d y node sums p held, (at d y node sums p held).floor)))
                (kept d y node sums p held q);
          }

      -- no unit has several regions
      pub visits-whole : FirstSeveral ranges n None → {r : code-progress.Progress} → r ≡ joined e.progress v.floor → Visits coefficients ends ranges n t budget left x s before r best
      visits-whole f q =
          record {
            visits = λ d y node sums p held.
                rw (visit-stays (tree d) budget left x.parent y p (few d y node sums p held) (λ _ several. absurd (true≢false (sym several ∙ no_several node.node f))))
                (kept d y node sums p held q);
          }

      -- no region may be split off any more
      pub visits-last : left ≡ 0 → {r : code-progress.Progress} → r ≡ joined e.progress v.floor → Visits coefficients ends ranges n t budget left x s before r best
      visits-last h q =
          record {
            visits = λ d y node sums p held.
                rw (h, visit-last (tree d) budget left x.parent y p (few d y node sums p held)) (kept d y node sums p held q);
          }

      -- it is split at unit i, into two parts with these sums
      pub visits-split : {i : ℕ} → SeveralAt ranges n i → v.floor < e.progress.cost → (left ≡ 0 → ⊥) → {x₁ x₂ : code-node.Node} → PartOf coefficients ends ranges n t x lowest_of v.floor x₁ → PartOf coefficients ends ranges n t x rest_of v.floor x₂ → {after last' : code-progress.Progress} {best₁ best₂ : List ℕ} → Visits coefficients ends (ranged ranges i (first ranges i) (first ranges i)) n t budget (left - 1) x₁ e.progress best after best₁ → Visits coefficients ends (ranged ranges i (first ranges i + 1) (last ranges i)) n t budget (left - 1) x₂ after best₁ last' best₂ → Visits coefficients ends ranges n t budget left x s before last' best₂
      visits-split f short more {x₁} {x₂} g h first-visit second-visit =
          record {
            visits = λ d y node sums p held.
                let floor-is : v.floor ≡ floor_of (tree d) x.parent y = (at d y node sums p held).floor in
                let first_part = first-visit.visits d ((tree d).lowest y) (lowest-node f node) (g.sums d y node sums) (evaluated (tree d) y p) (at d y node sums p held).progress in
                let second-part = second-visit.visits d ((tree d).rest y) (rest-node f node) (h.sums d y node sums) (visit (tree d) budget (left - 1) x₁.parent ((tree d).lowest y) (evaluated (tree d) y p)) first_part in
                let splits = visit-splits (tree d) budget (left - 1) x.parent y p (few d y node sums p held) (at d y node sums p held).solves (any_several_lem node.node f) (omega (arith, short, cost-is d y node sums p held, floor-is)) in
                let count : suc (left - 1) ≡ left = omega (arith, more) in
                rw (← count) (rw (splits, ← floor-is) (rw (g.parent, h.parent) at second-part));
          }
