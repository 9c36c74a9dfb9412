-- Refine by where it ends. The arrays hold the root of the file's search; a visit of it, from a best that is dearer than its dispatch, is the search; and what is stated of that is the reply.
use Rattle.std.specs.Prelude.{Ok, Err}
use Prim.Native.Nat.{ℕ, ◌+◌, ◌-◌, ◌≤◌, ◌<◌, min}
use native.Mathlib.Omega.{arith}
use mathlib.Core.Path.{◌≡◌, refl, sym, ap, subst, ◌∙◌}
use mathlib.Core.Bool.{true}
use mathlib.Core.List.{List, []}
use lib.ListN.{length, get_or, take, length-map}
use Rattle.rules.specs.Lists.{each, over}
use Rattle.rules.specs.Unit.{Unit}
use Rattle.rules.specs.Regions.{regions}
use Rattle.rules.specs.Layout.{count, unit_at, case_of}
use Rattle.rules.specs.Problem.{Problem, offer, problem_of, problem_in}
use Rattle.rules.specs.Bisection.{Reply, solvable, solve}
use Rattle.rules.specs.Calls.{case_verdict}
use Rattle.rules.specs.declared.Refusal.{Refusal}
use Rattle.rules.proofs.Lists.{length-each, get_or_each}
use Rattle.rules.proofs.Demand3.{case-accepted}
use Rattle.rules.proofs.Regions.{some-permitted}
use Rattle.rules.proofs.Economics.Solution.{at_most_first}
use Rattle.site.specs.Site.{HoldsOffer, no_offer}
use Rattle.site.proofs.UnitsWritten.{mapped}
use Rattle.evaluation.specs.Clauses.{First}
use Rattle.evaluation.proofs.Offers.{held-proper}
use Rattle.bisection.proofs.Starting.{greatest-held}
use Rattle.branching.specs.Branching.{Progress, visit, search}
use Rattle.branching.specs.Nodes.{NodeUnit, problem_at, tree, root, reply_of_search, refined_reply}
use Rattle.branching.specs.Refining.{refined_bytes, refine_ends, refined}
use Rattle.branching.specs.Claims.{Asked}
use Rattle.branching.proofs.NodeByNode.{search-from}
use Rattle.branching.proofs.Nodes.{reply-best, root-problem}
use Rattle.branching.proofs.Enough.{file_160}
use Rattle.branching.proofs.Claims.{by-case}
use Rattle.nodes.specs.declared.Progress as code-progress
use Rattle.nodes.specs.declared.Node as code-node
use Rattle.nodes.specs.Clauses.{SumsAt, HoldsProgress}
use Rattle.refining.specs.declared.reply.Refined as code-refined
use Rattle.refining.specs.Clauses.{HoldsNodeUnit, no_unit, NodeHeld, Visits, refined_held}

-- ---- the root

module _ {file coefficients ends ranges outputs : List ℕ} {n t c w : ℕ} (f : First file coefficients ends ranges outputs n t c w) where
  abbrev node_unit : Unit → NodeUnit
  node_unit u = record { unit = u; regions = regions u }

  units-count : length (case_of file).units ≡ n
  unfolding problem_of
  units-count = sym (length-map (case_of file).units offer) ∙ f.site.holds.count

  unit-is : (i : ℕ) → i < n → get_or (root (case_of file)) i no_unit ≡ node_unit (unit_at file i)
  unfolding case_of
  unit-is i h =
      let all : length (each (count file) (unit_at file)) ≡ n = units-count in
      let few : i < count file = omega (arith, all, length-each (count file) (unit_at file)) in
      mapped node_unit (each (count file) (unit_at file)) i (unit_at file i) no_unit (omega (arith, all)) ∙ ap node_unit (get_or_each (count file) (unit_at file) i (unit_at file i) few)

  offer-is : (i : ℕ) → i < n → get_or (problem_in file).offers i no_offer ≡ offer (unit_at file i)
  unfolding problem_of case_of
  offer-is i h =
      let all : length (each (count file) (unit_at file)) ≡ n = units-count in
      let few : i < count file = omega (arith, all, length-each (count file) (unit_at file)) in
      mapped offer (each (count file) (unit_at file)) i (unit_at file i) no_offer (omega (arith, all)) ∙ ap offer (get_or_each (count file) (unit_at file) i (unit_at file i) few)

  offer-held : (i : ℕ) → i < n → HoldsOffer coefficients ends ranges i (offer (unit_at file i))
  offer-held i h = subst (HoldsOffer coefficients ends ranges i) (offer-is i h) (f.site.holds.offers i h)

  root-unit : (i : ℕ) → i < n → HoldsNodeUnit coefficients ends ranges i (node_unit (unit_at file i))
  unfolding offer
  root-unit i h =
      let o = offer-held i h in
      record {
        unit = o.unit;
        from = o.from;
        to = o.to;
        ascending = o.regions;
        regions = f.site.regions i h;
        permitted = some-permitted o.unit.sound;
      }

  pub root-held : NodeHeld coefficients ends ranges n t (case_of file).demand (root (case_of file))
  unfolding problem_of
  root-held =
      record {
        node =
            record {
              count = length-map (case_of file).units node_unit ∙ units-count;
              few = f.site.holds.few;
              units = λ i h. rw (unit-is i h) (root-unit i h);
            };
        demand = f.site.holds.demand;
        target = f.site.demanded;
      }

  -- ---- the search

  abbrev d : ℕ
  d = (case_of file).demand

  own : problem_at d (root (case_of file)) ≡ problem_in file
  own = root-problem (case_of file)

  solves : solvable (problem_at d (root (case_of file))) ≡ true
  solves = ap solvable own ∙ (case-accepted file f.accepted).1

  at_most : (solve (problem_at d (root (case_of file)))).cost ≤ c
  at_most =
      let q = problem_in file in
      omega (arith, ap (λ (x : Problem). (solve x).cost) own, (reply-best q).1, at_most_first q (held-proper f.site.holds) (case-accepted file f.accepted).1, (greatest-held f).cost)

  -- what it starts from
  abbrev first : Reply
  first = record { evaluations = 0; cost = c + 1; gap = 0; surplus = 0; outputs = take n outputs }

  abbrev begun : Progress Reply
  begun = record { visited = 0; best = first; floors = [] }

  module _ (budget : ℕ) (some : 1 ≤ budget) where
    abbrev found : Progress Reply
    found = search (tree d) budget 160 (root (case_of file))

    from_first : visit (tree d) budget 160 0 (root (case_of file)) begun ≡ found
    from_first = search-from (tree d) budget 160 (root (case_of file)) some solves first (omega (arith, at_most))

    module _ {r : code-progress.Progress} {best : List ℕ} (h : HoldsProgress n found r best) where
      -- what is stated of it
      abbrev told : code-refined.Refined
      told = record { nodes = r.visited; cost = r.cost; gap = r.cost - min r.cost r.floor; surplus = r.surplus; outputs = best }

      told_is : refined_held n told ≡ reply_of_search d found
      unfolding reply_of_search
      told_is = λ i. record { nodes = h.visited i; cost = h.cost i; gap = h.cost i - h.bound i; surplus = h.surplus i; outputs = h.outputs i }

    pub refined-is : {x : code-node.Node} {r : code-progress.Progress} {best : List ℕ} → x.parent ≡ 0 → SumsAt (problem_at d (root (case_of file))).offers x → Visits coefficients ends ranges n t budget 160 x (record { visited = 0; cost = c + 1; surplus = 0; floor = c + 1 }) outputs r best → refined_held n (record { nodes = r.visited; cost = r.cost; gap = r.cost - min r.cost r.floor; surplus = r.surplus; outputs = best }) ≡ refined_reply budget (case_of file)
    refined-is {x} {r} {best} top sums v =
        let start : HoldsProgress n begun (record { visited = 0; cost = c + 1; surplus = 0; floor = c + 1 }) outputs = record { visited = refl; cost = refl; surplus = refl; outputs = refl; bound = omega arith } in
        let h = v.visits d (root (case_of file)) root-held sums begun start in
        let same : visit (tree d) budget 160 x.parent (root (case_of file)) begun ≡ found = ap (λ (f : ℕ). visit (tree d) budget 160 f (root (case_of file)) begun) top ∙ from_first in
        told_is (subst (λ (s : Progress Reply). HoldsProgress n s r best) same h) ∙ sym (file_160 file f.site.accepted budget)

-- ---- the ends

module _ (file : List ℕ) (budget : ℕ) (reply : List ℕ) (asked : Asked budget reply) where
  pub refused : (r : Refusal) → case_verdict file ≡ Err r → refined file budget reply ≡ record { answer = Err r; reply = reply }
  unfolding refine_ends
  refused r e = by-case file budget reply asked ∙ rw e

  pub replied : case_verdict file ≡ Ok tt → (k : ℕ) (r : code-refined.Refined) → refined_held k r ≡ refined_reply budget (case_of file) → {l : ℕ} {s : List ℕ} → l ≡ length (refined_bytes (refined_held k r)) → s ≡ over (refined_bytes (refined_held k r)) reply → refined file budget reply ≡ record { answer = Ok l; reply = s }
  unfolding refine_ends
  replied e k r v m n = by-case file budget reply asked ∙ rw (e, m, n, v)
