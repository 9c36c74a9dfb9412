-- What a case's search gives, of a case whose units are sound and that has an allocation: the laws of branch and bound at its root.
use mathlib.Core.Path.{◌≡◌, refl, sym, ap, subst, ◌∙◌}
use mathlib.Core.Bool.{true}
use mathlib.Core.List.{List, [], ◌∷◌, map}
use Prim.Native.Nat.{ℕ, ◌+◌, ◌*◌, ◌-◌, ◌≤◌, ◌<◌}
use native.Mathlib.Omega.{arith}
use lib.ListN.{length}
use borrow.Author.Tests.{leb-true, le-leb}
use Rattle.fields.proofs.Integers.{ints, is_pos, is_minus}
use Rattle.rules.specs.Lists.{Every}
use Rattle.rules.specs.Unit.{Unit}
use Rattle.rules.specs.Regions.{regions}
use Rattle.rules.specs.Layout.{Case}
use Rattle.rules.specs.Problem.{total_cost, total_net, Problem, problem_of}
use Rattle.rules.specs.Bisection.{Reply, solvable, solve}
use Rattle.rules.specs.Promise.{Permitted, Covering}
use Rattle.rules.specs.Sound.{Sound}
use Rattle.rules.specs.Offers.{Given}
use Rattle.rules.proofs.Lists.{every_more}
use Rattle.rules.proofs.Demand3.{allocation-length, allocation-small}
use Rattle.rules.proofs.Economics.Totals.{total_cost_range, total_net_range}
use Rattle.rules.proofs.Economics.Solvable.{case-proper}
use Rattle.rules.proofs.Economics.Solution.{floor_not_negative, permitted-given, given-permitted}
use Rattle.branching.specs.Branching.{Progress, search, bound}
use Rattle.branching.specs.Nodes.{NodeUnit, problem_at, splits, tree, root, RefinedReply, reply_of_search, refined_reply}
use Rattle.branching.specs.Claims.{RefinedPromise}
use Rattle.branching.proofs.Visits.{Branching, at_most_budget, at_least_root, bounded, best_good, best-each}
use Rattle.branching.proofs.Budgets.{larger_budget, ended}
use Rattle.branching.proofs.FirstNode.{first-node}
use Rattle.branching.proofs.Nodes.{Node, Has, branching, surplus-is, root-problem}
use Rattle.branching.proofs.ReplySpelled.{Fitting}

module _ (c : Case) (sound : Every Sound c.units) (solves : solvable (problem_of c) ≡ true) where
  -- ---- the root

  root-node : Node c.demand c.units sound (root c)
  root-node = go c.units
    where
      go : (us : List Unit) → map (λ (h : NodeUnit). h.unit) (map (λ u. record { unit = u; regions = regions u }) us) ≡ us
      go [] = refl
      go (u ∷ us) = ap (λ (vs : List Unit). u ∷ vs) (go us)

  root-solves : solvable (problem_at c.demand (root c)) ≡ true
  root-solves = ap solvable (root-problem c) ∙ solves

  -- it has what is permitted and covers, and nothing else
  root_has : (ps : List ℕ) → Permitted c ps → Covering c ps → Has c.demand c.units sound (root c) ps
  root_has ps a k = (subst (λ (q : Problem). Given q.offers ps) (sym (root-problem c)) (permitted-given c ps a), leb-true (100000000 * c.demand) (total_net c.units ps) k)

  has_permitted : (ps : List ℕ) → Has c.demand c.units sound (root c) ps → Permitted c ps × Covering c ps
  has_permitted ps h = (given-permitted c ps (subst (λ (q : Problem). Given q.offers ps) (root-problem c) h.0), le-leb (100000000 * c.demand) (total_net c.units ps) h.1)

  abbrev laws : Branching (tree c.demand) (Node c.demand c.units sound) (Has c.demand c.units sound) (total_cost c.units) (λ r. r.outputs)
  laws = branching c.demand c.units sound

  -- ---- the search

  module _ (budget : ℕ) where
    abbrev s : Progress Reply
    s = search (tree c.demand) budget (splits (root c)) (root c)

    pub promise : 1 ≤ budget → RefinedPromise c budget (refined_reply budget c)
    unfolding refined_reply reply_of_search
    promise h =
        let good = best_good laws budget (splits (root c)) (root c) root-node root-solves in
        let allowed = has_permitted s.best.outputs good.0 in
        let least : (ps : List ℕ) → Permitted c ps → Covering c ps → bound (tree c.demand) s ≤ total_cost c.units ps = λ ps a k. bounded laws budget (splits (root c)) (root c) root-node root-solves ps (root_has ps a k) in
        record {
          permitted = allowed.0;
          covering = allowed.1;
          cost = good.1;
          surplus = best-each laws budget (splits (root c)) (root c) root-node root-solves (λ r. 100000000 * c.demand + r.surplus ≡ total_net c.units r.outputs) (surplus-is c.demand c.units sound);
          gap = omega arith;
          nobody_spends_less = λ ps a k. omega (arith, least ps a k);
          optimal = λ e ps a k. omega (arith, least ps a k);
          root_evaluated = at_least_root laws budget (splits (root c)) (root c) root-node root-solves h;
          within_budget = at_most_budget laws budget (splits (root c)) (root c) root-node root-solves;
        }

    -- every number fits its field
    pub fits : 1 ≤ budget → budget ≤ 100000 → length c.units ≤ 32 → Fitting (refined_reply budget c)
    fits h k few =
        let r = refined_reply budget c in
        let p = promise h in
        let small = allocation-small c.units r.outputs sound p.permitted in
        let cost = total_cost_range c.units r.outputs sound small in
        record {
          count = omega (arith, allocation-length c.units r.outputs p.permitted);
          second = omega (arith, p.within_budget);
          cost = omega (arith, p.cost, cost);
          gap = omega (arith, p.gap, p.cost, cost);
          surplus = omega (arith, p.surplus, total_net_range c.units r.outputs sound small);
          outputs = every_more (λ n. n ≤ 10000) (λ n. n < 65536) (λ n h. omega arith) r.outputs small;
        }

  -- ---- two budgets

  pub no_worse : (budget larger : ℕ) → budget ≤ larger → ((refined_reply larger c).cost ≤ (refined_reply budget c).cost) × ((refined_reply larger c).gap ≤ (refined_reply budget c).gap)
  unfolding refined_reply reply_of_search
  no_worse budget larger h = larger_budget laws budget larger h (splits (root c)) (root c) root-node

  pub same_ended : (budget larger : ℕ) → budget ≤ larger → (refined_reply budget c).nodes < budget → refined_reply larger c ≡ refined_reply budget c
  unfolding refined_reply reply_of_search
  same_ended budget larger h k = ap (reply_of_search c.demand) (ended laws budget larger h (splits (root c)) (root c) root-node k)

  -- ---- the first node is the dispatch

  -- the dispatch with the nodes in place of its evaluations
  abbrev pub as_dispatch : RefinedReply
  as_dispatch = let r = solve (problem_of c) in record { nodes = 1; cost = r.cost; gap = r.gap; surplus = r.surplus; outputs = r.outputs }

  gap_at_most : (solve (problem_of c)).gap ≤ (solve (problem_of c)).cost
  gap_at_most = let r = solve (problem_of c) in omega (arith, ints, floor_not_negative (problem_of c) (case-proper c sound) solves, is_minus (is_pos r.cost) (is_pos r.gap), is_pos 0)

  pub first-is : refined_reply 1 c ≡ as_dispatch
  unfolding refined_reply reply_of_search
  first-is =
      let f = first-node (tree c.demand) (root c) root-solves (splits (root c)) in
      let best : (s 1).best ≡ solve (problem_of c) = f.best ∙ ap solve (root-problem c) in
      let gap : (s 1).best.cost - bound (tree c.demand) (s 1) ≡ (solve (problem_of c)).gap =
      omega (arith, gap_at_most, f.bound, ap (λ (r : Reply). r.cost) best, ap (λ (q : Problem). (solve q).cost) (root-problem c), ap (λ (q : Problem). (solve q).gap) (root-problem c)) in
      λ i. record { nodes = f.visited i; cost = (best i).cost; gap = gap i; surplus = (best i).surplus; outputs = (best i).outputs }
