-- A loop that adds up given outputs unit by unit: the outputs so far are offered, and what is summed, with what is still to come, is the whole.
use mathlib.Core.Path.{◌≡◌, sym, ap, ◌∙◌, subst}
use mathlib.Core.List.{List, [], ◌∷◌, map}
use Prim.Native.Nat.{ℕ, ◌+◌, ◌*◌, ◌≤◌, ◌<◌}
use native.Mathlib.Numerals.{add-one}
use native.Mathlib.Decide.{ℕ_discrete}
use native.Mathlib.Omega.{arith}
use lib.ListN.{length, get_or, drop, drop_of_length-le}
use lib.Seq.{drop-cons}
use Rattle.rules.specs.Unit.{Unit, cost, net}
use Rattle.rules.specs.Problem.{total_cost, total_net, Offer, Problem, units_of}
use Rattle.rules.proofs.Lists.{pairwise_from, pairwise_at}
use Rattle.rules.specs.Offers.{Among, Given}
use Rattle.rules.proofs.Economics.Quantities.{cost-range, net-range}
use Rattle.site.specs.Site.{first, last, Within, Coefficients, no_offer, HoldsProblem}
use Rattle.choice.proofs.Regions.{small}
use Rattle.evaluation.specs.Clauses.{Sized}
use Rattle.judging.specs.Clauses.{Summable, Summing, SumHeld}

abbrev units : List Offer → List Unit
units os = map (λ o. o.unit) os

-- of a problem: the first i outputs
pub record Prefix (q : Problem) (ps : List ℕ) (c w i : ℕ) : Type 0 where
  pub given : (j : ℕ) → j < i → Among (get_or ps j 0) (get_or q.offers j no_offer).outputs
  pub cost : c + total_cost (units (drop i q.offers)) (drop i ps) ≡ total_cost (units_of q) ps
  pub net : w + total_net (units (drop i q.offers)) (drop i ps) ≡ total_net (units_of q) ps

module _ (q : Problem) (ps : List ℕ) {c w i : ℕ} (s : Prefix q ps c w i) where
  prefix_more : {x y : ℕ} → i < length ps → i < length q.offers → let o = get_or q.offers i no_offer in let p = get_or ps i 0 in Among p o.outputs → x ≡ cost o.unit p → y ≡ net o.unit p → Prefix q ps (c + x) (w + y) (i + 1)
  unfolding total_cost total_net
  prefix_more {x} {y} h l a d f =
      let o = get_or q.offers i no_offer in
      let p = get_or ps i 0 in
      let next : drop i q.offers ≡ o ∷ drop (i + 1) q.offers = drop-cons q.offers i no_offer l ∙ ap (λ (k : ℕ). o ∷ drop k q.offers) (sym (add-one i)) in
      let rest : drop i ps ≡ p ∷ drop (i + 1) ps = drop-cons ps i 0 h ∙ ap (λ (k : ℕ). p ∷ drop k ps) (sym (add-one i)) in
      record {
        given = λ j k. by j k (ℕ_discrete j i);
        cost = omega (arith, d, rw (next, rest) at s.cost);
        net = omega (arith, f, rw (next, rest) at s.net);
      }
    where
      by : (j : ℕ) → j < i + 1 → Dec (j ≡ i) → Among (get_or ps j 0) (get_or q.offers j no_offer).outputs
      by j k (yes e) = rw e a
      by j k (no n) = s.given j (omega arith)

  prefix_ends : i ≡ length ps → length ps ≡ length q.offers → Summing q ps c w
  unfolding total_cost total_net
  prefix_ends e l =
      let none : drop i q.offers ≡ [] = drop_of_length-le q.offers {i = i} (omega arith) in
      record {
        given = pairwise_from (λ o p. Among p o.outputs) no_offer 0 q.offers ps (sym l) (λ j k. s.given j (omega arith));
        cost = omega (arith, rw none at s.cost);
        net = omega (arith, rw none at s.net);
      }

-- of whichever problem the arrays hold
pub record Totalling (coefficients ends ranges : List ℕ) (n : ℕ) (ps : List ℕ) (c w i : ℕ) : Type 0 where
  pub within : i ≤ n
  pub sized : Sized i (record { cost = c; net = w })
  pub held : (q : Problem) → HoldsProblem coefficients ends ranges n q → Prefix q ps c w i

module _ {coefficients ends ranges : List ℕ} {n : ℕ} {ps : List ℕ} (g : Summable coefficients ends ranges n ps) where
  module _ {c w i : ℕ} (s : Totalling coefficients ends ranges n ps c w i) (l : i < n) where
    -- an output outside the unit's regions is given by nobody
    pub not-given : (Within ends (first ranges i) (last ranges i) (get_or ps i 0) → ⊥) → (q : Problem) → HoldsProblem coefficients ends ranges n q → Given q.offers ps → ⊥
    not-given out q h a = out (((h.offers i l).outputs (get_or ps i 0)).0 (pairwise_at (λ o p. Among p o.outputs) no_offer 0 q.offers ps a i (omega (arith, h.count))))

    -- one within them costs and gives no more than a unit can
    module _ (inside : Within ends (first ranges i) (last ranges i) (get_or ps i 0)) where
      in_range : get_or ps i 0 ≤ 10000
      in_range = small (g.held.holds.offers i l).regions (get_or ps i 0) inside

      module _ {x : ℕ} (d : (u : Unit) → Coefficients coefficients i u → x ≡ cost u (get_or ps i 0)) where
        pub cost_more : c + x ≤ 201000000000 * (i + 1)
        cost_more = let u = (g.held.holds.offers i l).unit in omega (arith, s.sized.cost, d _ u, cost-range u.sound in_range)

        module _ {y : ℕ} (f : (u : Unit) → Coefficients coefficients i u → y ≡ net u (get_or ps i 0)) where
          pub net_more : w + y ≤ 1100000000000 * (i + 1)
          net_more = let u = (g.held.holds.offers i l).unit in omega (arith, s.sized.net, f _ u, net-range u.sound in_range)

          pub totalling_more : Totalling coefficients ends ranges n ps (c + x) (w + y) (i + 1)
          totalling_more =
              record {
                within = omega arith;
                sized = record { cost = cost_more; net = net_more };
                held = λ q h. prefix_more q ps (s.held q h) (omega (arith, g.each)) (omega (arith, h.count)) (((h.offers i l).outputs (get_or ps i 0)).1 inside) (d _ (h.offers i l).unit) (f _ (h.offers i l).unit);
              }

  pub totalling_ends : {c w i : ℕ} → Totalling coefficients ends ranges n ps c w i → i ≡ n → SumHeld coefficients ends ranges n ps c w
  totalling_ends {c} {w} s e =
      record {
        sized = subst (λ (k : ℕ). Sized k (record { cost = c; net = w })) e s.sized;
        held = λ q h. prefix_ends q ps (s.held q h) (omega (arith, g.each)) (omega (arith, g.each, h.count));
      }
