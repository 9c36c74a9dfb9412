-- `refining::visiting::visit` meets its contract, by induction over `left`: each way out is a law of `NodeVisited`, and the ranges are put back (`Ranged`).
use Rattle.std.proofs.Common.{◌≡◌, ℕ, ◌+◌, ◌≤◌, List, ap, ◌∙◌, arith}
use Rattle.site.specs.Site.{first, last}
use Rattle.site.specs.declared.Site.{Site}
use Rattle.branching.specs.Nodes.{divided, lowest_of, rest_of}
use Rattle.nodes.specs.declared.Node as code-node
use Rattle.refining.specs.declared.exchanging.UnitTerms as code-terms
use Rattle.refining.specs.Clauses.{ranged, SeveralAt, Visitable, SumsKept, HoldsUnitTerms, ExchangesNode}
use Rattle.refining.proofs.Ranged.{ranged-over, ranged-own}
use Rattle.refining.proofs.NodesHeld.{node-problem, lowest_exchanged, rest_exchanged}
use Rattle.refining.proofs.Exchanged.{site-held, term_held, node-exchangeable, exchanged_at}
use Rattle.refining.proofs.NodeVisited.{PartOf, lowest-node, rest-node, visits-spent, visits-closed, visits-reached, visits-whole, visits-last, visits-split}
use Rattle.refining.proofs.visiting.+visit.Goals as goal

-- ---- the ranges, over what was put before

abbrev ranges_of : Site → List ℕ
ranges_of s = s.ranges

put-over : {old now new : List ℕ} (xs : List ℕ) (k a b c d : ℕ) → old ≡ ranged xs k a b → now ≡ old → new ≡ ranged now k c d → new ≡ ranged xs k c d
put-over xs k a b c d e f g = rw (g, f, e) (ranged-over xs k a b c d)

put-back : {old now new : List ℕ} (xs : List ℕ) (k a b : ℕ) → old ≡ ranged xs k a b → now ≡ old → new ≡ ranged now k (first xs k) (last xs k) → new ≡ xs
put-back xs k a b e f g = put-over xs k a b (first xs k) (last xs k) e f g ∙ ranged-own xs k

-- ---- the two parts of a node that is split at unit k

module _ {coefficients ends ranges : List ℕ} {count t : ℕ} {k : ℕ} (f : SeveralAt ranges count k) where
  -- the sums of the parts
  module _ {floor m : ℕ} {x own r : code-node.Node} {old : code-terms.UnitTerms} (few : m ≤ 65535) (kept : SumsKept coefficients ends ranges count floor m x own) (terms : HoldsUnitTerms coefficients ends ranges k m old) where
    lowest-part : ExchangesNode coefficients ends (ranged ranges k (first ranges k) (first ranges k)) k own old r → PartOf coefficients ends ranges count t x lowest_of floor r
    lowest-part e =
        record {
          parent = e.parent ∙ kept.parent;
          multiplier = omega (arith, e.multiplier, kept.multiplier, few);
          sums = λ d y n s. exchanged_at f.place n kept terms s (lowest-node f n) (lowest_exchanged n.node f) e;
        }

    rest-part : ExchangesNode coefficients ends (ranged ranges k (first ranges k + 1) (last ranges k)) k own old r → PartOf coefficients ends ranges count t x rest_of floor r
    rest-part e =
        record {
          parent = e.parent ∙ kept.parent;
          multiplier = omega (arith, e.multiplier, kept.multiplier, few);
          sums = λ d y n s. exchanged_at f.place n kept terms s (rest-node f n) (rest_exchanged n.node f) e;
        }

  -- they can be visited
  module _ {floor : ℕ} {x r : code-node.Node} (n : Visitable coefficients ends ranges count t x) where
    lowest-visitable : PartOf coefficients ends ranges count t x lowest_of floor r → Visitable coefficients ends (ranged ranges k (first ranges k) (first ranges k)) count t r
    lowest-visitable p =
        record {
          demand = n.demand;
          node = divided lowest_of n.node;
          held = lowest-node f n.held;
          sums = p.sums n.demand n.node n.held n.sums;
          multiplier = p.multiplier;
        }

    rest-visitable : PartOf coefficients ends ranges count t x rest_of floor r → Visitable coefficients ends (ranged ranges k (first ranges k + 1) (last ranges k)) count t r
    rest-visitable p =
        record {
          demand = n.demand;
          node = divided rest_of n.node;
          held = rest-node f n.held;
          sums = p.sums n.demand n.node n.held n.sums;
          multiplier = p.multiplier;
        }

-- ---- the ways out, and what is asked on them

pub returns-then-visited-budget-clause-visits : goal.returns-then-visited-budget-clause-visits
returns-then-visited-budget-clause-visits t c =
    let s = c.args in
    visits-spent s.budget s.left s.x s.s s.best.now c.if-visited-budget.true c.with_floor.ensures

pub evaluate_node-seen-requires : goal.evaluate_node-seen-requires
evaluate_node-seen-requires t c =
    let n = c.requires in
    record { problem = _; holds = node-problem n.held; sums = n.sums; multiplier = n.multiplier; under = omega (arith, c.if-visited-budget.false, c.ranges.budget) }

pub returns-in_default-clause-visits : goal.returns-in_default-clause-visits
returns-in_default-clause-visits t c =
    let s = c.args in
    visits-closed s.budget s.left s.x s.s s.best.now c.if-visited-budget.false c.evaluate_node-seen.ensures c.in_default.is

pub returns-then-floor-cost-clause-visits : goal.returns-then-floor-cost-clause-visits
returns-then-floor-cost-clause-visits t c =
    let s = c.args in
    visits-reached s.budget s.left s.x s.s s.best.now c.if-visited-budget.false c.evaluate_node-seen.ensures c.in-Some.is c.if-floor-cost.true c.with_floor-then-floor-cost.ensures

pub returns-in_default-first_several-clause-visits : goal.returns-in_default-first_several-clause-visits
returns-in_default-first_several-clause-visits t c =
    let s = c.args in
    visits-whole s.budget s.left s.x s.s s.best.now c.if-visited-budget.false c.evaluate_node-seen.ensures c.in-Some.is c.in_default-first_several.ensures c.with_floor-in_default-first_several.ensures

pub returns-then-left-eq0-clause-visits : goal.returns-then-left-eq0-clause-visits
returns-then-left-eq0-clause-visits t c =
    let s = c.args in
    visits-last s.budget s.left s.x s.s s.best.now c.if-visited-budget.false c.evaluate_node-seen.ensures c.in-Some.is c.if-left-eq0.true c.with_floor-then-left-eq0.ensures

pub node_again-own-requires : goal.node_again-own-requires
node_again-own-requires t c = (site-held c.in-Some-first_several.ensures.place c.requires.held, c.evaluate_node-seen.ensures.multiplier _ c.in-Some.is)

pub unit_terms-old-requires : goal.unit_terms-old-requires
unit_terms-old-requires t c = term_held c.in-Some-first_several.ensures.place c.requires.held (c.evaluate_node-seen.ensures.multiplier _ c.in-Some.is)

pub exchanged_node-lowest-requires : goal.exchanged_node-lowest-requires
exchanged_node-lowest-requires t c =
    let n = c.requires in
    let f = c.in-Some-first_several.ensures in
    let few = c.evaluate_node-seen.ensures.multiplier _ c.in-Some.is in
    rw c.put_range.ensures (node-exchangeable f.place n.held c.node_again-own.ensures c.unit_terms-old.ensures n.sums (lowest-node f n.held) few)

pub visit-after-requires : goal.visit-after-requires
visit-after-requires t c =
    let f = c.in-Some-first_several.ensures in
    let few = c.evaluate_node-seen.ensures.multiplier _ c.in-Some.is in
    let e = rw c.put_range.ensures at c.exchanged_node-lowest.ensures in
    let part = lowest-part f few c.node_again-own.ensures c.unit_terms-old.ensures e in
    (omega (arith, c.if-left-eq0.false, c.decreases), rw c.put_range.ensures (lowest-visitable f c.requires part))

pub exchanged_node-rest-requires : goal.exchanged_node-rest-requires
exchanged_node-rest-requires t c =
    let n = c.requires in
    let f = c.in-Some-first_several.ensures in
    let few = c.evaluate_node-seen.ensures.multiplier _ c.in-Some.is in
    let k = c.in-Some-first_several.k in
    let xs = c.args.site.now.ranges in
    let put = put-over xs k (first xs k) (first xs k) (first xs k + 1) (last xs k) c.put_range.ensures (ap ranges_of c.visit-after.ensures.kept) c.put_range-2.ensures in
    rw (c.visit-after.ensures.kept, put) (node-exchangeable f.place n.held c.node_again-own.ensures c.unit_terms-old.ensures n.sums (rest-node f n.held) few)

pub visit-last-requires : goal.visit-last-requires
visit-last-requires t c =
    let f = c.in-Some-first_several.ensures in
    let few = c.evaluate_node-seen.ensures.multiplier _ c.in-Some.is in
    let k = c.in-Some-first_several.k in
    let xs = c.args.site.now.ranges in
    let put = put-over xs k (first xs k) (first xs k) (first xs k + 1) (last xs k) c.put_range.ensures (ap ranges_of c.visit-after.ensures.kept) c.put_range-2.ensures in
    let e = rw (c.visit-after.ensures.kept, put) at c.exchanged_node-rest.ensures in
    let part = rest-part f few c.node_again-own.ensures c.unit_terms-old.ensures e in
    (omega (arith, c.if-left-eq0.false, c.decreases), rw (c.visit-after.ensures.kept, put) (rest-visitable f c.requires part))

pub returns-clause-kept : goal.returns-clause-kept
returns-clause-kept t c =
    let k = c.in-Some-first_several.k in
    let xs = c.args.site.now.ranges in
    let put = put-over xs k (first xs k) (first xs k) (first xs k + 1) (last xs k) c.put_range.ensures (ap ranges_of c.visit-after.ensures.kept) c.put_range-2.ensures in
    let back = put-back xs k (first xs k + 1) (last xs k) put (ap ranges_of c.visit-last.ensures.kept) c.put_range-3.ensures in
    let s = c.args.site.now in
    rw (c.visit-last.ensures.kept, c.visit-after.ensures.kept) (λ i. record { coefficients = s.coefficients; ends = s.ends; ranges = back i; count = s.count; target = s.target })

pub returns-clause-visits : goal.returns-clause-visits
returns-clause-visits t c =
    let f = c.in-Some-first_several.ensures in
    let k = c.in-Some-first_several.k in
    let s = c.args in
    let xs = c.args.site.now.ranges in
    let put = put-over xs k (first xs k) (first xs k) (first xs k + 1) (last xs k) c.put_range.ensures (ap ranges_of c.visit-after.ensures.kept) c.put_range-2.ensures in
    let few = c.evaluate_node-seen.ensures.multiplier _ c.in-Some.is in
    let lowest = lowest-part f few c.node_again-own.ensures c.unit_terms-old.ensures (rw c.put_range.ensures at c.exchanged_node-lowest.ensures) in
    let rest = rest-part f few c.node_again-own.ensures c.unit_terms-old.ensures (rw (c.visit-after.ensures.kept, put) at c.exchanged_node-rest.ensures) in
    visits-split s.budget s.left s.x s.s s.best.now c.if-visited-budget.false c.evaluate_node-seen.ensures c.in-Some.is f c.if-floor-cost.false c.if-left-eq0.false lowest rest (rw c.put_range.ensures at c.visit-after.ensures.visits) (rw (c.visit-after.ensures.kept, put) at c.visit-last.ensures.visits)
