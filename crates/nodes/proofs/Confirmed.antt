-- A dispatch from two evaluations. Where the choices of m do not cover and those of m + 1 do, and at m + 1 nothing ties, the dispatch is the choices of m + 1, and the greatest floor is that of m or of m + 1.
use mathlib.Core.Path.{◌≡◌, refl, subst, ap, ◌∙◌}
use mathlib.Core.Bool.{true}
use mathlib.Core.List.Memᴰ
use mathlib.Core.List.{List, [], ◌∷◌, map}
use mathlib.Core.Logic.{◌⊎◌, inl, inr, ⊎_elim}
use Prim.Native.Nat.{ℕ, suc, ◌+◌, ◌*◌, ◌≤◌, ◌<◌}
use native.Mathlib.Omega.{arith}
use native.Mathlib.Decide.{dec_lt, ℕ_discrete}
use lib.IntN.{ℤ}
use lib.Signed.{◌≤ℤ◌}
use Rattle.fields.proofs.Integers.{ints}
use Rattle.rules.specs.Unit.{cost, net}
use Rattle.rules.specs.Problem.{total_cost, total_net, Offer, Problem, units_of, target}
use Rattle.rules.specs.Choice.{priced_cost, choice, least_tied, choices, selected, dual_value, floor, greatest_floor}
use Rattle.rules.specs.Bisection.{Found, step4, step3, search, greatest_outputs, solvable, found}
use Rattle.rules.specs.Lists.{Every}
use Rattle.rules.proofs.Economics.Quantities.{priced-is}
use Rattle.rules.proofs.Economics.Greatest.{each_more}
use Rattle.rules.proofs.Economics.Duality.{Relaxation, floor_at, costs-least, net-rises, floor-rises, floor-falls}
use Rattle.rules.proofs.Economics.Search.{Seen, Halved, halving-ends}
use Rattle.rules.proofs.Economics.Steps.{step3-equal, step3-covers, search-short}
use Rattle.rules.proofs.Economics.Allocations.{chosen, choices_tied, relaxation}
use Rattle.rules.specs.Offers.{Given, Proper, Available}
use Rattle.rules.proofs.Economics.Lowering.{selected-tied, selected-lowered, selected-kept, lowered-alone}
use Rattle.rules.proofs.Economics.Solvable.{solvable-available}
use Rattle.rules.proofs.Economics.Solution.{greatest-floor}

-- ---- over any type of allocations

module _ {X : Type 0} {Allowed : X → Type 0} {cost net : X → ℕ} {s target : ℕ} {choose : ℕ → X} {value : ℕ → ℤ} (r : Relaxation Allowed cost net s target choose value) (first : X) (m : ℕ) (few : suc m ≤ 65536) (short : net (choose m) < target) (covers : target ≤ net (choose (suc m))) where
  -- the search ends at m + 1, or past it with an equal net
  abbrev Ends : X → Type 0
  Ends x = (x ≡ choose (suc m)) ⊎ ((k : ℕ) × (suc m ≤ k) × (x ≡ choose k) × (net (choose k) ≡ target))

  past : (k : ℕ) → target ≤ net (choose k) → suc m ≤ k
  past k h = by (dec_lt m k)
    where
      by : Dec (m < k) → suc m ≤ k
      by (yes l) = l
      by (no l) = absurd (omega (arith, net-rises r k m (omega arith)))

  ends-halving : (f : Found X) → Halved choose net target f → Ends f.best
  ends-halving f (inl (k, e)) = inr (k, past k (omega (arith, e.equal)), e.best-is, e.equal)
  ends-halving f (inr (low, b)) =
      let l : m ≤ low = omega (arith, past (suc low) b.high-covers) in
      let same : low ≡ m = by (dec_lt m low) l in
      inl (b.best-is ∙ ap (λ (k : ℕ). choose (suc k)) same)
    where
      by : Dec (m < low) → m ≤ low → low ≡ m
      by (yes h) l = absurd (omega (arith, b.low-short, net-rises r (suc m) low h))
      by (no h) l = omega arith

  seen : Seen (65536 ∷ 0 ∷ [])
  seen = record { zero_seen = Memᴰ.tail (Memᴰ.head refl); within = each_more (λ n. n ≤ 65536) (omega arith) (each_more (λ n. n ≤ 65536) (omega arith) (λ n h. absurd (Memᴰ.not-nil h))) }

  pub ends : Ends (search choose net target first).best
  ends =
      let zero-short : net (choose 0) < target = omega (arith, net-rises r 0 m (omega arith)) in
      let top : target ≤ net (choose 65536) = omega (arith, net-rises r (suc m) 65536 few) in
      rw (search-short choose net target first zero-short) (by (ℕ_discrete (net (choose 65536)) target) top zero-short)
    where
      by : Dec (net (choose 65536) ≡ target) → target ≤ net (choose 65536) → net (choose 0) < target → Ends (step3 choose net target first).best
      by (yes e) h z = rw (step3-equal choose net target first e) (inr (65536, few, refl, e))
      by (no n) h z = rw (step3-covers choose net target first (omega arith)) (ends-halving (step4 choose net target 16 0 (choose 65536) (65536 ∷ 0 ∷ [])) (halving-ends choose net target 16 0 (choose 65536) (65536 ∷ 0 ∷ []) (record { seen = seen; low-seen = Memᴰ.tail (Memᴰ.head refl); high-seen = Memᴰ.head refl; low-short = z; high-covers = h; best-is = refl })))

  -- every floor is at most one of the two
  pub two-floors : (n : ℕ) → (floor_at value s n ≤ℤ floor_at value s m) ⊎ (floor_at value s n ≤ℤ floor_at value s (suc m))
  two-floors n = by (dec_lt m n)
    where
      by : Dec (m < n) → (floor_at value s n ≤ℤ floor_at value s m) ⊎ (floor_at value s n ≤ℤ floor_at value s (suc m))
      by (yes h) = inr (floor-falls r (suc m) n covers h)
      by (no h) = inl (floor-rises r m n (omega arith) (omega arith))

-- ---- of a problem

-- outputs from the offers that cost no more at m than the choices are the choices, if nothing ties with these
module _ (m : ℕ) where
  least_of : (os : List Offer) (ys : List ℕ) → Every Available os → Given os ys → 100000 * total_cost (map (λ o. o.unit) os) (map (choice m) os) + m * total_net (map (λ o. o.unit) os) ys ≤ 100000 * total_cost (map (λ o. o.unit) os) ys + m * total_net (map (λ o. o.unit) os) (map (choice m) os)
  unfolding choices
  least_of os ys g a = let q : Problem = record { demand = 0; offers = os } in (relaxation q g (λ n. choices n q) (λ n. choices_tied n q g)).least m ys a

  alone : (os : List Offer) (ys : List ℕ) → Every Available os → map (least_tied m) os ≡ map (choice m) os → Given os ys
      → 100000 * total_cost (map (λ o. o.unit) os) ys + m * total_net (map (λ o. o.unit) os) (map (choice m) os) ≤ 100000 * total_cost (map (λ o. o.unit) os) (map (choice m) os) + m * total_net (map (λ o. o.unit) os) ys
      → ys ≡ map (choice m) os
  unfolding total_cost total_net
  alone [] [] g e a h = refl
  alone [] (y ∷ ys) g e a h = absurd a
  alone (o ∷ os) [] g e a h = absurd a
  alone (o ∷ os) (y ∷ ys) g e a h =
      let c = chosen m g.0 in
      let x = choice m o in
      let least = c.least y a.0 in
      let one : 100000 * cost o.unit x + m * net o.unit y ≤ 100000 * cost o.unit y + m * net o.unit x = omega (arith, ints, least, priced-is m o.unit x, priced-is m o.unit y) in
      let others : 100000 * total_cost (map (λ o. o.unit) os) (map (choice m) os) + m * total_net (map (λ o. o.unit) os) ys ≤ 100000 * total_cost (map (λ o. o.unit) os) ys + m * total_net (map (λ o. o.unit) os) (map (choice m) os) = least_of os ys g.1 a.1 in
      let level : priced_cost m o.unit y ≡ priced_cost m o.unit x = omega (arith, ints, least, priced-is m o.unit x, priced-is m o.unit y) in
      let rest : ys ≡ map (choice m) os = alone os ys g.1 (cc) a.1 (omega arith) in
      let same : least_tied m o ≡ x = cc in
      let here : y ≡ x = omega (arith, c.last y a.0 level, c.first y a.0 level, same) in
      rw (here, rest)

-- m does not cover, m + 1 does and has no ties
module _ (q : Problem) (proper : Every Proper q.offers) (solves : solvable q ≡ true) (m : ℕ) (few : suc m ≤ 65536) (short : total_net (units_of q) (choices m q) < target q) (covers : target q ≤ total_net (units_of q) (choices (suc m) q)) (untied : map (least_tied (suc m)) q.offers ≡ map (choice (suc m)) q.offers) where
  abbrev available : Every Available q.offers
  available = solvable-available q proper solves

  abbrev x : ℕ → List ℕ
  x n = selected n q

  abbrev law : Relaxation (Given q.offers) (total_cost (units_of q)) (total_net (units_of q)) 100000 (target q) x (λ n. dual_value n q)
  law = relaxation q available x (selected-tied q available)

  same_low : selected m q ≡ choices m q
  same_low = selected-kept q available m short

  same-high : selected (suc m) q ≡ choices (suc m) q
  unfolding choices
  same-high = selected-lowered q available (suc m) covers ∙ lowered-alone (suc m) (target q) (total_net (units_of q) (choices (suc m) q)) q.offers untied (omega arith)

  short' : total_net (units_of q) (selected m q) < target q
  short' = rw same_low short

  covers' : target q ≤ total_net (units_of q) (selected (suc m) q)
  covers' = rw same-high covers

  -- an equal net past m + 1 is reached by the same outputs
  equal : (k : ℕ) → suc m ≤ k → total_net (units_of q) (selected k q) ≡ target q → selected k q ≡ choices (suc m) q
  unfolding choices
  equal k l e =
      let nets : total_net (units_of q) (selected k q) ≡ total_net (units_of q) (choices (suc m) q) = omega (arith, e, covers, net-rises law (suc m) k l, ap (total_net (units_of q)) same-high) in
      let dear = costs-least law k (selected (suc m) q) (law.allowed (suc m)) (omega (arith, nets, ap (total_net (units_of q)) same-high)) in
      alone (suc m) q.offers (selected k q) available untied (law.allowed k) (omega (arith, dear, ap (total_cost (units_of q)) same-high, ap (λ (n : ℕ). suc m * n) nets))

  pub confirmed_best : (found q).best ≡ choices (suc m) q
  unfolding found
  confirmed_best = ⊎_elim (λ e. e ∙ same-high) (λ h. h.2 ∙ equal h.0 h.1 h.3) (ends law (greatest_outputs q) m few short' covers')

  -- the greatest floor is one of the two, and neither is greater
  pub confirmed_floor : (floor m q ≤ℤ greatest_floor q (found q).evaluated) × (floor (suc m) q ≤ℤ greatest_floor q (found q).evaluated) × ((greatest_floor q (found q).evaluated ≤ℤ floor m q) ⊎ (greatest_floor q (found q).evaluated ≤ℤ floor (suc m) q))
  unfolding floor
  confirmed_floor =
      let g = greatest-floor q proper solves in
      (g.greatest m (omega arith), g.greatest (suc m) few, subst (λ (z : ℤ). (z ≤ℤ floor m q) ⊎ (z ≤ℤ floor (suc m) q)) g.one.2 (two-floors law (greatest_outputs q) m few short' covers' g.one.0))
