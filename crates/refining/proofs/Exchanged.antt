-- The sums of a part of a node that is split at unit i: those of the node, with the offer of that unit exchanged.
use mathlib.Core.Path.{◌≡◌, sym, subst}
use mathlib.Core.List.{List, map}
use Prim.Native.Nat.{ℕ, ◌+◌, ◌≤◌, ◌<◌}
use native.Mathlib.Omega.{arith}
use lib.ListN.{get_or, set}
use Rattle.rules.specs.Problem.{Offer}
use Rattle.site.specs.Site.{no_offer, HoldsOffer}
use Rattle.evaluation.specs.Clauses.{SiteHeld}
use Rattle.evaluation.proofs.Offers.{held-available}
use Rattle.sums.specs.Sums.{TermHeld}
use Rattle.branching.specs.Nodes.{NodeUnit, offer_within, problem_at}
use Rattle.nodes.specs.declared.Node as code-node
use Rattle.nodes.specs.Clauses.{SumsAt}
use Rattle.refining.specs.declared.exchanging.UnitTerms as code-terms
use Rattle.refining.specs.Clauses.{NodeHeld, SumsKept, HoldsUnitTerms, SumsWith, NodeExchangeable, ExchangesNode}
use Rattle.refining.proofs.NodesHeld.{node-problem}

module _ {coefficients ends ranges : List ℕ} {count t : ℕ} {i d : ℕ} {y : List NodeUnit} (place : i < count) (n : NodeHeld coefficients ends ranges count t d y) where
  offer-held : HoldsOffer coefficients ends ranges i (get_or (problem_at d y).offers i no_offer)
  offer-held = (node-problem n).problem.offers i place

  pub site-held : SiteHeld coefficients ends ranges count
  site-held = record { problem = problem_at d y; holds = (node-problem n).problem }

  pub term_held : {m : ℕ} → m ≤ 65535 → TermHeld coefficients ends ranges i (m + 1)
  term_held few = record { few = omega (arith, place, n.node.few); multiplier = omega arith; offer = _; holds = offer-held }

  -- the node has these sums, and its unit i these terms of them
  module _ {f m : ℕ} {x own : code-node.Node} {old : code-terms.UnitTerms} (kept : SumsKept coefficients ends ranges count f m x own) (terms : HoldsUnitTerms coefficients ends ranges i m old) (sums : SumsAt (problem_at d y).offers x) where
    with_terms : SumsWith (problem_at d y).offers i own old
    with_terms =
        record { sums = kept.sums (problem_at d y) (node-problem n).problem sums; low = rw kept.multiplier (terms.low _ offer-held); high = rw kept.multiplier (terms.high _ offer-held) }

    -- and the part of the node is held by other ranges
    module _ {ranges' : List ℕ} {y' : List NodeUnit} (n' : NodeHeld coefficients ends ranges' count t d y') where
      pub node-exchangeable : m ≤ 65535 → NodeExchangeable coefficients ends ranges' i own old
      node-exchangeable few =
          record {
            unit = record { few = omega (arith, place, n.node.few); multiplier = omega (arith, kept.multiplier); offer = _; holds = (node-problem n').problem.offers i place };
            offers = (problem_at d y).offers;
            available = held-available (node-problem n).problem;
            few = omega (arith, (node-problem n).problem.count, n.node.few);
            place = omega (arith, (node-problem n).problem.count);
            sums = with_terms;
          }

      pub exchanged_at : map offer_within y' ≡ set (map offer_within y) i (get_or (map offer_within y') i no_offer) → {r : code-node.Node} → ExchangesNode coefficients ends ranges' i own old r → SumsAt (problem_at d y').offers r
      exchanged_at is {r} e =
          subst (λ (os : List Offer). SumsAt os r) (sym is) (e.sums (problem_at d y).offers _ (omega (arith, (node-problem n).problem.count)) with_terms ((node-problem n').problem.offers i place))
