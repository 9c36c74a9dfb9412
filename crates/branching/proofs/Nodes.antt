-- The instance of branch and bound: nodes whose units are those of a case. A node's outputs are the permitted ones in its regions, and its two parts have them together.
use mathlib.Core.Path.{◌≡◌, refl, sym, subst, ap, ◌∙◌}
use mathlib.Core.Bool.{Bool, true, false, cond, ◌&&◌, ◌||◌, true≢false}
use mathlib.Core.List.{List, [], ◌∷◌, map}
use mathlib.Core.Logic.{◌⊎◌, inl, inr, ⊎_elim, ◌↔◌}
use Prim.Native.Nat.{ℕ, suc, ◌+◌, ◌*◌, ◌≤◌}
use native.Mathlib.Omega.{arith}
use Rattle.fields.proofs.Integers.{ints, is_pos, is_minus}
use Rattle.rules.specs.Lists.{each, filter, Every}
use Rattle.rules.specs.Unit.{Unit, permitted}
use Rattle.rules.specs.Regions.{Region, in_region, in_some, regions}
use Rattle.rules.specs.Layout.{Case}
use Rattle.rules.specs.Problem.{total_cost, total_net, Offer, Problem, units_of, offer, problem_of}
use Rattle.rules.specs.Bisection.{solvable, found, reply_of, solve}
use Rattle.rules.specs.Sound.{Sound}
use Rattle.rules.specs.Offers.{Among, Given, Proper}
use Rattle.rules.proofs.Lists.{every_map, every_more}
use Rattle.rules.proofs.Verdicts.{and-true}
use Rattle.rules.proofs.Regions.{permitted-some}
use Rattle.rules.proofs.Economics.Outputs.{kept, holds, ascends, each_among, each_ascends, permitted-greatest}
use Rattle.rules.proofs.Economics.Solvable.{unsolvable}
use Rattle.rules.proofs.Economics.Solution.{shown, difference, floor_at_most}
use Rattle.branching.specs.Nodes.{NodeUnit, offer_within, problem_at, has_several, lowest_of, rest_of, divided, tree, root}
use Rattle.branching.proofs.Visits.{Branching}

-- ---- one unit

-- p is offered: permitted, and in one of the regions
pub offered : (h : NodeUnit) (p : ℕ) → Among p (offer_within h).outputs ↔ ((permitted h.unit p ≡ true) × (in_some p h.regions ≡ true))
unfolding offer_within
offered h p =
    let test : ℕ → Bool = λ p. permitted h.unit p && in_some p h.regions in
    let all = each (suc h.unit.greatest) (λ p. p) in
    let both = and-true (permitted h.unit p) (in_some p h.regions) in
    (λ i. both.0 (holds test p all i).0, λ k. kept test p all (both.1 k) (each_among (suc h.unit.greatest) (λ p. p) p (omega (arith, permitted-greatest h.unit p k.0))))

unit-within : (h : NodeUnit) → (offer_within h).unit ≡ h.unit
unfolding offer_within
unit-within h = refl

pub within-proper : (h : NodeUnit) → Sound h.unit → Proper (offer_within h)
unfolding offer_within
within-proper h s =
    record {
      sound = s;
      ascends = ascends (λ p. permitted h.unit p && in_some p h.regions) (each (suc h.unit.greatest) (λ p. p)) (each_ascends (suc h.unit.greatest) (λ p. p) (λ k. omega arith));
      small = λ p i. omega (arith, permitted-greatest h.unit p ((offered h p).0 i).0, s.greatest);
    }

-- the parts of some regions together
some-either : (p : ℕ) (rs : List Region) → in_some p rs ≡ true → (in_some p (lowest_of rs) ≡ true) ⊎ (in_some p (rest_of rs) ≡ true)
some-either p [] e = absurd (true≢false (sym e))
some-either p (r ∷ rs) e = by (in_region p r) refl e
  where
    by : (b : Bool) → in_region p r ≡ b → (b || in_some p rs) ≡ true → ((b || false) ≡ true) ⊎ (in_some p rs ≡ true)
    by true f e = inl refl
    by false f e = inr e

pub some-lowest : (p : ℕ) (rs : List Region) → in_some p (lowest_of rs) ≡ true → in_some p rs ≡ true
some-lowest p [] e = e
some-lowest p (r ∷ rs) e = by (in_region p r) e
  where
    by : (b : Bool) → (b || false) ≡ true → (b || in_some p rs) ≡ true
    by true e = refl
    by false e = absurd (true≢false (sym e))

pub some-rest : (p : ℕ) (rs : List Region) → in_some p (rest_of rs) ≡ true → in_some p rs ≡ true
some-rest p [] e = e
some-rest p (r ∷ rs) e = by (in_region p r)
  where
    by : (b : Bool) → (b || in_some p rs) ≡ true
    by true = refl
    by false = e

-- ---- all units

abbrev pub GivenAt : List NodeUnit → List ℕ → Type 0
GivenAt x ys = Given (map offer_within x) ys

-- what one part of a node's unit has
module _ (part : List Region → List Region) (less : (p : ℕ) (rs : List Region) → in_some p (part rs) ≡ true → in_some p rs ≡ true) where
  in_part : (x : List NodeUnit) (ys : List ℕ) → GivenAt (divided part x) ys → GivenAt x ys
  unfolding divided
  in_part [] ys g = g
  in_part (h ∷ hs) ys g = by (has_several h) ys g (in_part hs)
    where
      by : (b : Bool) (ys : List ℕ) → GivenAt (cond b (record { unit = h.unit; regions = part h.regions } ∷ hs) (h ∷ divided part hs)) ys → ((zs : List ℕ) → GivenAt (divided part hs) zs → GivenAt hs zs) → GivenAt (h ∷ hs) ys
      by true [] g f = g
      by true (y ∷ ys) g f = let o = (offered (record { unit = h.unit; regions = part h.regions }) y).0 g.0 in ((offered h y).1 (o.0, less y h.regions o.1), g.1)
      by false [] g f = g
      by false (y ∷ ys) g f = (g.0, f ys g.1)

  units-part : (x : List NodeUnit) → map (λ h. h.unit) (divided part x) ≡ map (λ h. h.unit) x
  unfolding divided
  units-part [] = refl
  units-part (h ∷ hs) = by (has_several h) (units-part hs)
    where
      by : (b : Bool) → map (λ h. h.unit) (divided part hs) ≡ map (λ h. h.unit) hs → map (λ h. h.unit) (cond b (record { unit = h.unit; regions = part h.regions } ∷ hs) (h ∷ divided part hs)) ≡ map (λ h. h.unit) (h ∷ hs)
      by true e = refl
      by false e = ap (λ (us : List Unit). h.unit ∷ us) e

in_either : (x : List NodeUnit) (ys : List ℕ) → GivenAt x ys → GivenAt (divided lowest_of x) ys ⊎ GivenAt (divided rest_of x) ys
unfolding divided
in_either [] ys g = inl g
in_either (h ∷ hs) [] g = absurd g
in_either (h ∷ hs) (y ∷ ys) g = by (has_several h) (in_either hs ys g.1)
  where
    o : (permitted h.unit y ≡ true) × (in_some y h.regions ≡ true)
    o = (offered h y).0 g.0

    by : (b : Bool) → GivenAt (divided lowest_of hs) ys ⊎ GivenAt (divided rest_of hs) ys → GivenAt (cond b (record { unit = h.unit; regions = lowest_of h.regions } ∷ hs) (h ∷ divided lowest_of hs)) (y ∷ ys) ⊎ GivenAt (cond b (record { unit = h.unit; regions = rest_of h.regions } ∷ hs) (h ∷ divided rest_of hs)) (y ∷ ys)
    by true r = ⊎_elim (λ e. inl ((offered (record { unit = h.unit; regions = lowest_of h.regions }) y).1 (o.0, e), g.1)) (λ e. inr ((offered (record { unit = h.unit; regions = rest_of h.regions }) y).1 (o.0, e), g.1)) (some-either y h.regions o.1)
    by false r = ⊎_elim (λ e. inl (g.0, e)) (λ e. inr (g.0, e)) r

-- ---- the instance

units-at : (d : ℕ) (x : List NodeUnit) → units_of (problem_at d x) ≡ map (λ h. h.unit) x
units-at d [] = refl
units-at d (h ∷ hs) = rw (unit-within h) (ap (λ (us : List Unit). h.unit ∷ us) (units-at d hs))

-- what a reply states of what the search found
pub reply-best : (q : Problem) → ((solve q).outputs ≡ (found q).best) × ((solve q).cost ≡ total_cost (units_of q) (found q).best)
unfolding solve reply_of
reply-best q = (refl, refl)

module _ (d : ℕ) (us : List Unit) (sound : Every Sound us) where
  -- a node of a search over these units
  abbrev pub Node : List NodeUnit → Type 0
  Node x = map (λ h. h.unit) x ≡ us

  abbrev pub Has : List NodeUnit → List ℕ → Type 0
  Has x ys = GivenAt x ys × (100000000 * d ≤ total_net us ys)

  proper : (x : List NodeUnit) → Node x → Every Proper (map offer_within x)
  proper x n = (every_map Proper offer_within x).1 (every_more (λ h. Sound h.unit) (λ h. Proper (offer_within h)) within-proper x ((every_map Sound (λ h. h.unit) x).0 (subst (Every Sound) (sym n) sound)))

  net-at : (x : List NodeUnit) (ys : List ℕ) → Node x → total_net (units_of (problem_at d x)) ys ≡ total_net us ys
  net-at x ys n = ap (λ (vs : List Unit). total_net vs ys) (units-at d x ∙ n)

  cost-at : (x : List NodeUnit) (ys : List ℕ) → Node x → total_cost (units_of (problem_at d x)) ys ≡ total_cost us ys
  cost-at x ys n = ap (λ (vs : List Unit). total_cost vs ys) (units-at d x ∙ n)

  pub branching : Branching (tree d) Node Has (total_cost us) (λ r. r.outputs)
  branching =
      record {
        found = λ x n e. let law = shown (problem_at d x) (proper x n) e in rw (reply-best (problem_at d x)).0 (law.allowed, omega (arith, law.covers, net-at x (found (problem_at d x)).best n));
        cost-is = λ x n e. (reply-best (problem_at d x)).1 ∙ cost-at x (found (problem_at d x)).best n ∙ ap (total_cost us) (sym (reply-best (problem_at d x)).0);
        bounds = λ x n e ys k.
            let q = problem_at d x in
            let b = floor_at_most q (proper x n) e ys k.0 (omega (arith, k.1, net-at x ys n)) in
            omega (arith, ints, b, difference q (proper x n) e, cost-at x ys n, is_minus (is_pos (solve q).cost) (is_pos (solve q).gap), is_pos (total_cost (units_of q) ys));
        none = λ x n e ys k. omega (arith, unsolvable (problem_at d x) (proper x n) e ys k.0, net-at x ys n, k.1);
        lowest-node = λ x n. units-part lowest_of some-lowest x ∙ n;
        rest-node = λ x n. units-part rest_of some-rest x ∙ n;
        in_lowest = λ x e ys k. (in_part lowest_of some-lowest x ys k.0, k.1);
        in_rest = λ x e ys k. (in_part rest_of some-rest x ys k.0, k.1);
        in_either = λ x e ys k. ⊎_elim (λ i. inl (i, k.1)) (λ i. inr (i, k.1)) (in_either x ys k.0);
      }

  -- the surplus of a dispatch is stated as it is
  pub surplus-is : (x : List NodeUnit) → Node x → solvable (problem_at d x) ≡ true → 100000000 * d + (solve (problem_at d x)).surplus ≡ total_net us (solve (problem_at d x)).outputs
  unfolding solve reply_of
  surplus-is x n e = omega (arith, (shown (problem_at d x) (proper x n) e).covers, net-at x (found (problem_at d x)).best n)

-- ---- the root is the case's own problem: every permitted output lies in a region, of any unit

filter_same : (f g : ℕ → Bool) (xs : List ℕ) → ((p : ℕ) → f p ≡ g p) → filter f xs ≡ filter g xs
filter_same f g [] h = refl
filter_same f g (x ∷ xs) h = rw (h x, filter_same f g xs h)

-- a unit with all its regions offers what it offers
pub offer-whole : (u : Unit) → offer_within (record { unit = u; regions = regions u }) ≡ offer u
unfolding offer_within offer
offer-whole u = ap (λ (ps : List ℕ). record { unit = u; outputs = ps }) (filter_same (λ p. permitted u p && in_some p (regions u)) (permitted u) (each (suc u.greatest) (λ p. p)) same)
  where
    same : (p : ℕ) → (permitted u p && in_some p (regions u)) ≡ permitted u p
    same p = by (permitted u p) refl
      where
        by : (b : Bool) → permitted u p ≡ b → (b && in_some p (regions u)) ≡ b
        by true e = permitted-some u p e
        by false e = refl

pub root-problem : (c : Case) → problem_at c.demand (root c) ≡ problem_of c
unfolding problem_of
root-problem c = ap (λ (os : List Offer). record { demand = c.demand; offers = os }) (go c.units)
  where
    go : (us : List Unit) → map offer_within (map (λ u. record { unit = u; regions = regions u }) us) ≡ map offer us
    go [] = refl
    go (u ∷ us) = rw (offer-whole u) (ap (λ (os : List Offer). offer u ∷ os) (go us))
