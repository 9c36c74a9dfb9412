-- The instance of the duality laws, of any problem: outputs given from the offers. Whatever is tied at each m, unit by unit of least priced cost, is a relaxation, and the choices are; the greatest outputs have the greatest net.
use mathlib.Core.Path.{◌≡◌, refl, sym, subst}
use mathlib.Core.List.{List, [], ◌∷◌, map}
use mathlib.Core.Logic.{inl, inr}
use Prim.Native.Nat.{ℕ, ◌+◌, ◌*◌, ◌≤◌, ◌<◌, max}
use native.Mathlib.Nat.{le-max_left, le-max_right, max-eq_left, max-eq_right}
use native.Mathlib.Decide.{dec_le}
use native.Mathlib.Omega.{arith}
use lib.IntN.{ℤ}
use lib.ListN.{length}
use lib.Signed.{◌≤ℤ◌}
use Rattle.rules.specs.Lists.{greatest, Every, Pairwise}
use Rattle.rules.specs.Numbers.{total}
use Rattle.rules.specs.Unit.{cost, net}
use Rattle.rules.specs.Problem.{total_cost, total_net, Offer, Problem, units_of, target}
use Rattle.rules.specs.Offers.{Given, Proper, Available, Chosen, Among}
use Rattle.rules.specs.Choice.{priced_cost, choice, least_tied, least_priced_cost, choices, dual_value}
use Rattle.rules.proofs.Lists.{pairwise_more, pairwise_map}
use Rattle.fields.specs.Integers.{Is}
use Rattle.fields.proofs.Integers.{ints, is_pos, is_add}
use Rattle.rules.proofs.Economics.Chosen.{some-among, scanned}
use Rattle.rules.proofs.Economics.Quantities.{priced-is, net_monotone}
use Rattle.rules.proofs.Economics.Duality.{Relaxation}

-- ---- tied at m: each unit is given an output that it offers, of its least priced cost

abbrev LeastPriced : ℕ → Offer → ℕ → Type 0
LeastPriced m o p = priced_cost m o.unit p ≡ least_priced_cost m o

abbrev pub Tied : ℕ → List Offer → List ℕ → Type 0
Tied m = Pairwise (λ o p. Among p o.outputs × LeastPriced m o p)

-- a unit's choice and its least tied output are offered, of least priced cost, and the greatest and the least on a tie
pub chosen : (m : ℕ) {o : Offer} → Available o → Chosen (priced_cost m o.unit) (λ p. Among p o.outputs) (choice m o) (least_tied m o)
chosen m {o} g = scanned (priced_cost m o.unit) o.outputs g.proper.ascends g.some

pub tied-given : (m : ℕ) (os : List Offer) (xs : List ℕ) → Tied m os xs → Given os xs
tied-given m = pairwise_more (λ o p. Among p o.outputs × LeastPriced m o p) (λ o p. Among p o.outputs) (λ o p t. t.0)

tied-least : (m : ℕ) (os : List Offer) (xs ys : List ℕ) → Every Available os → Tied m os xs → Given os ys → 100000 * total_cost (map (λ o. o.unit) os) xs + m * total_net (map (λ o. o.unit) os) ys ≤ 100000 * total_cost (map (λ o. o.unit) os) ys + m * total_net (map (λ o. o.unit) os) xs
unfolding total_cost total_net
tied-least m [] [] [] g t a = omega arith
tied-least m [] (x ∷ xs) ys g t a = absurd t
tied-least m [] [] (y ∷ ys) g t a = absurd a
tied-least m (o ∷ os) [] ys g t a = absurd t
tied-least m (o ∷ os) (x ∷ xs) [] g t a = absurd a
tied-least m (o ∷ os) (x ∷ xs) (y ∷ ys) g t a =
    let least : priced_cost m o.unit x ≤ℤ priced_cost m o.unit y = rw t.0.1 ((chosen m g.0).least y a.0) in
    let one : 100000 * cost o.unit x + m * net o.unit y ≤ 100000 * cost o.unit y + m * net o.unit x =
    omega (arith, ints, least, priced-is m o.unit x, priced-is m o.unit y) in
    omega (arith, one, tied-least m os xs ys g.1 t.1 a.1)

-- ---- the dual value, by what is tied

least-total : (m : ℕ) (os : List Offer) (xs : List ℕ) → Pairwise (LeastPriced m) os xs → Is (total (map (least_priced_cost m) os)) (100000 * total_cost (map (λ o. o.unit) os) xs) (m * total_net (map (λ o. o.unit) os) xs)
unfolding total total_cost total_net
least-total m [] [] t = record { is = omega (arith, is_pos 0) }
least-total m [] (x ∷ xs) t = absurd t
least-total m (o ∷ os) [] t = absurd t
least-total m (o ∷ os) (x ∷ xs) t =
    let here : Is (least_priced_cost m o) (100000 * cost o.unit x) (m * net o.unit x) = subst (λ (z : ℤ). Is z (100000 * cost o.unit x) (m * net o.unit x)) t.0 (priced-is m o.unit x) in
    record { is = omega (arith, is_add here (least-total m os xs t.1)) }

module _ (m : ℕ) (q : Problem) where
  dual-by : (xs : List ℕ) → Pairwise (LeastPriced m) q.offers xs → Is (dual_value m q) (100000 * total_cost (units_of q) xs + m * target q) (m * total_net (units_of q) xs)
  unfolding dual_value
  dual-by xs t = record { is = omega (arith, is_add (least-total m q.offers xs t) (is_pos (m * target q))) }

  pub dual-is : Is (dual_value m q) (100000 * total_cost (units_of q) (choices m q) + m * target q) (m * total_net (units_of q) (choices m q))
  unfolding choices
  dual-is = dual-by (choices m q) (priced q.offers)
    where
      priced : (os : List Offer) → Pairwise (LeastPriced m) os (map (choice m) os)
      priced [] = tt
      priced (o ∷ os) = (refl, priced os)

-- ---- a relaxation, of whatever is tied at each m

pub relaxation : (q : Problem) → Every Available q.offers → (x : ℕ → List ℕ) → ((m : ℕ) → Tied m q.offers (x m)) → Relaxation (Given q.offers) (total_cost (units_of q)) (total_net (units_of q)) 100000 (target q) x (λ m. dual_value m q)
relaxation q g x t =
    record {
      positive = omega arith;
      allowed = λ m. tied-given m q.offers (x m) (t m);
      least = λ m ys a. tied-least m q.offers (x m) ys g (t m) a;
      value-is = λ m. dual-by m q (x m) (pairwise_more (λ o p. Among p o.outputs × LeastPriced m o p) (LeastPriced m) (λ o p t. t.1) q.offers (x m) (t m));
    }

-- the choices are
pub choices_tied : (m : ℕ) (q : Problem) → Every Available q.offers → Tied m q.offers (choices m q)
unfolding choices
choices_tied m q g = pairwise_map Available (λ o p. Among p o.outputs × LeastPriced m o p) (choice m) (λ o a. ((chosen m a).candidate, refl)) q.offers g

-- ---- the greatest outputs

pub at_most_greatest : (ps : List ℕ) (p : ℕ) → Among p ps → p ≤ greatest ps
at_most_greatest [] p i = absurd i
at_most_greatest (q ∷ qs) p (inl e) = omega (arith, le-max_left q (greatest qs))
at_most_greatest (q ∷ qs) p (inr i) = omega (arith, at_most_greatest qs p i, le-max_right q (greatest qs))

greatest-among : (ps : List ℕ) → 0 < length ps → Among (greatest ps) ps
greatest-among [] h = absurd (omega arith)
greatest-among (p ∷ []) h = inl (omega arith)
greatest-among (p ∷ q ∷ qs) h = by (dec_le (greatest (q ∷ qs)) p) (greatest-among (q ∷ qs) (omega arith))
  where
    by : Dec (greatest (q ∷ qs) ≤ p) → Among (greatest (q ∷ qs)) (q ∷ qs) → Among (max p (greatest (q ∷ qs))) (p ∷ q ∷ qs)
    by (yes k) i = inl (max-eq_left k)
    by (no k) i = inr (subst (λ (n : ℕ). Among n (q ∷ qs)) (sym (max-eq_right {n = p} {m = greatest (q ∷ qs)} (omega arith))) i)

pub greatest-given : (os : List Offer) → Every Available os → Given os (map (λ o. greatest o.outputs) os)
greatest-given = pairwise_map Available (λ o p. Among p o.outputs) (λ o. greatest o.outputs) (λ o a. greatest-among o.outputs a.some)

pub greatest-net : (os : List Offer) (ys : List ℕ) → Every Proper os → Given os ys → total_net (map (λ o. o.unit) os) ys ≤ total_net (map (λ o. o.unit) os) (map (λ o. greatest o.outputs) os)
unfolding total_net
greatest-net [] [] g a = omega arith
greatest-net [] (y ∷ ys) g a = absurd a
greatest-net (o ∷ os) [] g a = absurd a
greatest-net (o ∷ os) (y ∷ ys) g a =
    let top = greatest-among o.outputs (some-among y o.outputs a.0) in
    omega (arith, net_monotone g.0.sound (at_most_greatest o.outputs y a.0) (g.0.small (greatest o.outputs) top), greatest-net os ys g.1 a.1)
