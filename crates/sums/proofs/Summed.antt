-- Cost, net and ties of the choices are sums over the offers: so they are those of the allocation of the choices, a loop adds them up unit by unit, and where one offer is exchanged its part is taken off and another added.
use Prim.Native.Nat.{ℕ, zero, suc, ◌+◌, ◌*◌, ◌-◌, ◌≤◌, ◌<◌}
use mathlib.Core.Bool.{Bool, true, false, cond}
use mathlib.Core.Path.{◌≡◌, refl, ap, ap₂}
use mathlib.Core.List.{List, [], ◌∷◌, map}
use native.Mathlib.Numerals.{add-one}
use native.Mathlib.Omega.{arith}
use lib.Dec.{eqb}
use lib.ListN.{length, get_or, drop, set, drop_of_length-le}
use lib.Seq.{drop-cons}
use borrow.Author.Tests.{eqb-true}
use Rattle.rules.specs.Lists.{sum, True, Every}
use Rattle.rules.specs.Problem.{total_cost, total_net, Offer, Problem}
use Rattle.rules.specs.Choice.{choice, least_tied}
use Rattle.rules.specs.Offers.{Available}
use Rattle.rules.proofs.Economics.Allocations.{chosen}
use Rattle.rules.proofs.Economics.Quantities.{cost-range, net-range}
use Rattle.site.specs.Site.{no_offer, HoldsProblem}
use Rattle.evaluation.specs.Clauses.{SiteHeld, Sized}
use Rattle.evaluation.proofs.Offers.{offer-available}
use Rattle.sums.specs.declared.Totals.{Totals}
use Rattle.sums.specs.Sums.{cost_at, net_at, ties_at, HoldsTerm, HoldsSums, Terms, Exchangeable}

-- ---- a sum over a list

module _ {A : Type 0} (f : A → ℕ) where
  pub sum_exchanged : (xs : List A) (k : ℕ) (x d : A) → k < length xs → sum (map f (set xs k x)) + f (get_or xs k d) ≡ sum (map f xs) + f x
  sum_exchanged [] k x d l = absurd (omega arith)
  sum_exchanged (y ∷ ys) zero x d l = omega arith
  sum_exchanged (y ∷ ys) (suc k) x d l = omega (arith, sum_exchanged ys k x d (omega arith))

  pub term_at_most : (xs : List A) (k : ℕ) (d : A) → k < length xs → f (get_or xs k d) ≤ sum (map f xs)
  term_at_most [] k d l = absurd (omega arith)
  term_at_most (y ∷ ys) zero d l = omega arith
  term_at_most (y ∷ ys) (suc k) d l = omega (arith, term_at_most ys k d (omega arith))

  -- from i on: element i, and those behind it
  sum-from : (xs : List A) (i : ℕ) (d : A) → i < length xs → sum (map f (drop i xs)) ≡ f (get_or xs i d) + sum (map f (drop (i + 1) xs))
  sum-from xs i d l = rw (add-one, drop-cons xs i d)

  sum_from_end : (xs : List A) (i : ℕ) → length xs ≤ i → sum (map f (drop i xs)) ≡ 0
  sum_from_end xs i l = rw (drop_of_length-le xs)

  sum_at_most : (P : A → Type 0) (b : ℕ) → ((x : A) → P x → f x ≤ b) → (xs : List A) → Every P xs → sum (map f xs) ≤ b * length xs
  sum_at_most P b h [] p = omega arith
  sum_at_most P b h (x ∷ xs) p = omega (arith, h x p.0, sum_at_most P b h xs p.1)

-- ---- the sums, and the allocation of the choices

module _ (m : ℕ) where
  pub costs_together : (os : List Offer) → total_cost (map (λ o. o.unit) os) (map (choice m) os) ≡ sum (map (cost_at m) os)
  unfolding total_cost
  costs_together [] = refl
  costs_together (o ∷ os) = omega (arith, costs_together os)

  pub nets_together : (os : List Offer) → total_net (map (λ o. o.unit) os) (map (choice m) os) ≡ sum (map (net_at m) os)
  unfolding total_net
  nets_together [] = refl
  nets_together (o ∷ os) = omega (arith, nets_together os)

  -- where no unit ties
  pub untied : (os : List Offer) → sum (map (ties_at m) os) ≡ 0 → map (least_tied m) os ≡ map (choice m) os
  untied [] e = refl
  untied (o ∷ os) e = ap₂ (λ (p : ℕ) (ps : List ℕ). p ∷ ps) (alone (eqb (least_tied m o) (choice m o)) refl (omega arith)) (untied os (omega arith))
    where
      alone : (b : Bool) → eqb (least_tied m o) (choice m o) ≡ b → cond {A = ℕ} b 0 1 ≡ 0 → least_tied m o ≡ choice m o
      alone true k z = eqb-true _ _ k
      alone false k z = absurd (omega arith)

-- ---- in range

module _ (m : ℕ) (o : Offer) where
  tie_few : ties_at m o ≤ 1
  tie_few = by (eqb (least_tied m o) (choice m o))
    where
      by : (b : Bool) → cond {A = ℕ} b 0 1 ≤ 1
      by true = omega arith
      by false = omega arith

  module _ (a : Available o) where
    choice-small : choice m o ≤ 10000
    choice-small = a.proper.small (choice m o) (chosen m a).candidate

    cost-small : cost_at m o ≤ 201000000000
    cost-small = cost-range a.proper.sound choice-small

    net-small : net_at m o ≤ 1100000000000
    net-small = net-range a.proper.sound choice-small

pub record TermSized (r : Totals) : Type 0 where
  pub cost : r.cost ≤ 201000000000
  pub net : r.net ≤ 1100000000000
  pub ties : r.ties ≤ 1

pub term_sized : {m : ℕ} {o : Offer} {r : Totals} → Available o → HoldsTerm m o r → TermSized r
term_sized {m} {o} a h = record { cost = omega (arith, h.cost, cost-small m o a); net = omega (arith, h.net, net-small m o a); ties = omega (arith, h.ties, tie_few m o) }

module _ {m : ℕ} {os : List Offer} {r : Totals} where
  pub sums-sized : Every Available os → HoldsSums m os r → Sized (length os) (record { cost = r.cost; net = r.net })
  sums-sized a h =
      record {
        cost = omega (arith, h.cost, sum_at_most (cost_at m) Available 201000000000 (cost-small m) os a);
        net = omega (arith, h.net, sum_at_most (net_at m) Available 1100000000000 (net-small m) os a);
      }

  pub ties-few : HoldsSums m os r → r.ties ≤ length os
  ties-few h = omega (arith, h.ties, sum_at_most (ties_at m) (λ o. True) 1 (λ o t. tie_few m o) os (every os))
    where
      every : (os : List Offer) → Every (λ o. True) os
      every [] = tt
      every (o ∷ os) = (tt, every os)

-- ---- a loop over the units: the sums of the first i, with those of the units still to come, are the whole

pub record Left (m : ℕ) (os : List Offer) (c w t i : ℕ) : Type 0 where
  pub cost : c + sum (map (cost_at m) (drop i os)) ≡ sum (map (cost_at m) os)
  pub net : w + sum (map (net_at m) (drop i os)) ≡ sum (map (net_at m) os)
  pub ties : t + sum (map (ties_at m) (drop i os)) ≡ sum (map (ties_at m) os)

-- of whichever problem the arrays hold
pub record Summing (m : ℕ) (coefficients ends ranges : List ℕ) (n c w t i : ℕ) : Type 0 where
  pub within : i ≤ n
  pub sized : Sized i (record { cost = c; net = w })
  pub few : t ≤ i
  pub held : (q : Problem) → HoldsProblem coefficients ends ranges n q → Left m q.offers c w t i

module _ {m : ℕ} {coefficients ends ranges : List ℕ} {n : ℕ} where
  module _ {c w t i : ℕ} (s : Summing m coefficients ends ranges n c w t i) where
    module _ (g : SiteHeld coefficients ends ranges n) (l : i < n) {r : Totals} (p : Terms coefficients ends ranges i m r) where
      pub next-sized : TermSized r
      next-sized = let u = g.holds.offers i l in term_sized (offer-available u) (p _ u)

      pub summing_more : Summing m coefficients ends ranges n (c + r.cost) (w + r.net) (t + r.ties) (i + 1)
      summing_more =
          let z = next-sized in
          record {
            within = omega arith;
            sized = record { cost = omega (arith, s.sized.cost, z.cost); net = omega (arith, s.sized.net, z.net) };
            few = omega (arith, s.few, z.ties);
            held = λ q h.
                let b : i < length q.offers = omega (arith, h.count) in
                let k = p _ (h.offers i l) in
                let f = s.held q h in
                record {
                  cost = omega (arith, f.cost, k.cost, sum-from (cost_at m) q.offers i no_offer b);
                  net = omega (arith, f.net, k.net, sum-from (net_at m) q.offers i no_offer b);
                  ties = omega (arith, f.ties, k.ties, sum-from (ties_at m) q.offers i no_offer b);
                };
          }

-- ---- offer k exchanged for o

module _ {m : ℕ} {os : List Offer} {k : ℕ} {o : Offer} {s old new : Totals} (l : k < length os) (h : HoldsSums m os s) (b : HoldsTerm m (get_or os k no_offer) old) (a : HoldsTerm m o new) where
  pub exchanged_sums : {r : Totals} → r ≡ record { cost = s.cost - old.cost + new.cost; net = s.net - old.net + new.net; ties = s.ties - old.ties + new.ties } → HoldsSums m (set os k o) r
  exchanged_sums e =
      record {
        cost = omega (arith, ap (λ (x : Totals). x.cost) e, h.cost, b.cost, a.cost, sum_exchanged (cost_at m) os k o no_offer l, term_at_most (cost_at m) os k no_offer l);
        net = omega (arith, ap (λ (x : Totals). x.net) e, h.net, b.net, a.net, sum_exchanged (net_at m) os k o no_offer l, term_at_most (net_at m) os k no_offer l);
        ties = omega (arith, ap (λ (x : Totals). x.ties) e, h.ties, b.ties, a.ties, sum_exchanged (ties_at m) os k o no_offer l, term_at_most (ties_at m) os k no_offer l);
      }

pub exchangeable : {m : ℕ} {os : List Offer} {k : ℕ} {o : Offer} {s old new : Totals} → Every Available os → length os ≤ 32 → k < length os → Available o → HoldsSums m os s → HoldsTerm m (get_or os k no_offer) old → HoldsTerm m o new → Exchangeable s old new
exchangeable {m} {os} {k} e f l v h b a =
    let z = sums-sized e h in
    let n = term_sized v a in
    record {
      cost = omega (arith, h.cost, b.cost, term_at_most (cost_at m) os k no_offer l);
      net = omega (arith, h.net, b.net, term_at_most (net_at m) os k no_offer l);
      ties = omega (arith, h.ties, b.ties, term_at_most (ties_at m) os k no_offer l);
      cost-small = omega (arith, z.cost);
      net-small = omega (arith, z.net);
      ties-few = omega (arith, ties-few h);
      new-cost = n.cost;
      new-net = n.net;
      new-ties = n.ties;
    }
