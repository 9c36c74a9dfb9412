-- Branch and bound over any type of nodes and allocations. The one idea: a floor bounds whatever its node has, and a part of a node has only what the node has; so the least of what is left open bounds everything, at every budget.
use mathlib.Core.Path.{◌≡◌, refl, sym, subst, ap}
use mathlib.Core.Bool.{true, false}
use mathlib.Core.List.{List, [], ◌∷◌}
use mathlib.Core.Logic.{◌⊎◌, inl, inr, ⊎_elim}
use Prim.Native.Nat.{ℕ, zero, suc, ◌≤◌, ◌<◌, min}
use native.Mathlib.Omega.{arith}
use lib.Dec.{ltb}
use borrow.Author.Tests.{ltb-true, ltb-false}
use Rattle.rules.proofs.Verdicts.{either_way, accepts}
use Rattle.branching.specs.Branching.{Tree, Progress, is_cheaper, unevaluated, evaluated, floor_of, is_split, stays, visit, search, least_or, bound}
use Rattle.branching.proofs.NodeByNode.{split_parts}

-- The one hypothesis, of the nodes of a search (`Node`): Has x y says that y is an allocation of x that covers, price is its cost.
pub record Branching {N R Y : Type 0} (t : Tree N R) (Node : N → Type 0) (Has : N → Y → Type 0) (price : Y → ℕ) (outputs : R → Y) : Type 0 where
  -- a dispatch is an allocation of its node, at its cost, and its floor bounds them all
  pub found : (x : N) → Node x → t.solvable x ≡ true → Has x (outputs (t.dispatch x))
  pub cost-is : (x : N) → Node x → t.solvable x ≡ true → t.cost (t.dispatch x) ≡ price (outputs (t.dispatch x))
  pub bounds : (x : N) → Node x → t.solvable x ≡ true → (y : Y) → Has x y → t.floor (t.dispatch x) ≤ price y
  pub none : (x : N) → Node x → t.solvable x ≡ false → (y : Y) → Has x y → ⊥
  -- the two parts of a node together have what it has
  pub lowest-node : (x : N) → Node x → Node (t.lowest x)
  pub rest-node : (x : N) → Node x → Node (t.rest x)
  pub in_lowest : (x : N) → t.several x ≡ true → (y : Y) → Has (t.lowest x) y → Has x y
  pub in_rest : (x : N) → t.several x ≡ true → (y : Y) → Has (t.rest x) y → Has x y
  pub in_either : (x : N) → t.several x ≡ true → (y : Y) → Has x y → Has (t.lowest x) y ⊎ Has (t.rest x) y

-- ---- by what happens at a node

module _ {N R : Type 0} (t : Tree N R) where
  -- what holds in each of the three cases holds of every visit
  pub record Visits (budget : ℕ) (P : ℕ → N → Progress R → Progress R → Type 0) : Type 0 where
    pub spent : (parent : ℕ) (x : N) (s : Progress R) → budget ≤ s.visited → P parent x s (unevaluated t parent s)
    pub unsplit : (parent : ℕ) (x : N) (s : Progress R) → s.visited < budget → P parent x s (stays t parent x (evaluated t x s))
    pub parted : (parent : ℕ) (x : N) (s u v : Progress R) → s.visited < budget → t.solvable x ≡ true → t.several x ≡ true → floor_of t parent x < t.cost (evaluated t x s).best → P (floor_of t parent x) (t.lowest x) (evaluated t x s) u → P (floor_of t parent x) (t.rest x) u v → P parent x s v

  module _ {budget : ℕ} {P : ℕ → N → Progress R → Progress R → Type 0} (c : Visits budget P) where
    pub each-visit : (left parent : ℕ) (x : N) (s : Progress R) → P parent x s (visit t budget left parent x s)
    unfolding visit
    each-visit zero parent x s = either_way (P parent x s) (ltb s.visited budget) (λ e. c.unsplit parent x s (ltb-true s.visited budget e)) (λ e. c.spent parent x s (ltb-false s.visited budget e))
    each-visit (suc left) parent x s =
        let fl = floor_of t parent x in
        let n = evaluated t x s in
        either_way (P parent x s) (ltb s.visited budget)
        (λ e. let h = ltb-true s.visited budget e in either_way (P parent x s) (is_split t parent x n)
        (λ f. let p = split_parts t parent x n f in c.parted parent x s (visit t budget left fl (t.lowest x) n) (visit t budget left fl (t.rest x) (visit t budget left fl (t.lowest x) n)) h p.0 p.1 p.2 (each-visit left fl (t.lowest x) n) (each-visit left fl (t.rest x) (visit t budget left fl (t.lowest x) n)))
        (λ f. c.unsplit parent x s h))
        (λ e. c.spent parent x s (ltb-false s.visited budget e))

-- ---- what a visit does to count, best cost and bound

module _ {N R : Type 0} (t : Tree N R) where
  abbrev cost_of : Progress R → ℕ
  cost_of s = t.cost s.best

  -- the best is the node's dispatch where that is cheaper
  pub entered : (x : N) (s : Progress R) → (cost_of (evaluated t x s) ≤ cost_of s) × (((evaluated t x s).best ≡ s.best) ⊎ ((t.solvable x ≡ true) × ((evaluated t x s).best ≡ t.dispatch x)))
  entered x s =
      either_way (λ (r : R). (t.cost r ≤ cost_of s) × ((r ≡ s.best) ⊎ ((t.solvable x ≡ true) × (r ≡ t.dispatch x)))) (is_cheaper t x s)
      (λ e. let (solves, cheaper) = simp accepts at e in (omega (arith, cheaper), inr (solves, refl))) (λ e. (omega arith, inl refl))

  -- a node without an allocation leaves the best as it is
  pub unsolved : (x : N) (s : Progress R) → t.solvable x ≡ false → (evaluated t x s).best ≡ s.best
  unsolved x s e = rw e refl

module _ {N R : Type 0} (t : Tree N R) (budget : ℕ) where
  -- what is not spent is used, and the budget is not exceeded
  abbrev Counts : ℕ → N → Progress R → Progress R → Type 0
  Counts parent x s u = (s.visited ≤ u.visited) × (s.visited ≤ budget → u.visited ≤ budget) × (s.visited < budget → s.visited < u.visited)

  pub visits-count : (left parent : ℕ) (x : N) (s : Progress R) → Counts parent x s (visit t budget left parent x s)
  visits-count = each-visit t {P = Counts} (record {
    spent = λ parent x s h. (omega arith, λ k. k, λ k. omega arith);
    unsplit = λ parent x s h. either_way (Counts parent x s) (t.solvable x) (λ _. (omega arith, λ k. omega arith, λ k. omega arith)) (λ _. (omega arith, λ k. omega arith, λ k. omega arith));
    parted = λ parent x s u v h e f g a b. (omega (arith, a.0, b.0), λ k. b.1 (a.1 (omega arith)), λ k. omega (arith, a.0, b.0));
  })

  -- the best cost does not rise
  abbrev Cheaper : ℕ → N → Progress R → Progress R → Type 0
  Cheaper parent x s u = t.cost u.best ≤ t.cost s.best

  pub visits_cheaper : (left parent : ℕ) (x : N) (s : Progress R) → Cheaper parent x s (visit t budget left parent x s)
  visits_cheaper = each-visit t {P = Cheaper} (record {
    spent = λ parent x s h. omega arith;
    unsplit = λ parent x s h. either_way (Cheaper parent x s) (t.solvable x) (λ _. (entered t x s).0) (λ _. (entered t x s).0);
    parted = λ parent x s u v h e f g a b. omega (arith, a, b, (entered t x s).0);
  })

least_more : (a b : ℕ) (xs : List ℕ) → a ≤ b → least_or a xs ≤ least_or b xs
least_more a b [] h = h
least_more a b (x ∷ xs) h = omega (arith, least_more a b xs h)

pub least_at_most : (a : ℕ) (xs : List ℕ) → least_or a xs ≤ a
least_at_most a [] = omega arith
least_at_most a (x ∷ xs) = omega (arith, least_at_most a xs)

-- a cost that is at most the base
pub least_with : (a b : ℕ) (xs : List ℕ) → a ≤ b → min a (least_or b xs) ≡ least_or a xs
least_with a b [] h = omega arith
least_with a b (x ∷ xs) h = omega (arith, least_with a b xs h)

least_by : (a b : ℕ) (xs : List ℕ) → min (least_or a xs) b ≤ least_or (min a b) xs
least_by a b [] = omega arith
least_by a b (x ∷ xs) = omega (arith, least_by a b xs)

module _ {N R Y : Type 0} {t : Tree N R} {Node : N → Type 0} {Has : N → Y → Type 0} {price : Y → ℕ} {outputs : R → Y} (r : Branching t Node Has price outputs) where
  -- b bounds whatever x has
  abbrev pub Below : ℕ → N → Type 0
  Below b x = (y : Y) → Has x y → b ≤ price y

  pub own-cost : (x : N) (b : ℕ) → Node x → t.solvable x ≡ true → Below b x → b ≤ t.cost (t.dispatch x)
  own-cost x b g e h = omega (arith, r.cost-is x g e, h (outputs (t.dispatch x)) (r.found x g e))

  pub floor-below : (parent : ℕ) (x : N) → Node x → t.solvable x ≡ true → Below parent x → Below (floor_of t parent x) x
  floor-below parent x g e h y k = omega (arith, h y k, r.bounds x g e y k)

module _ {N R Y : Type 0} {t : Tree N R} {Node : N → Type 0} {Has : N → Y → Type 0} {price : Y → ℕ} {outputs : R → Y} (r : Branching t Node Has price outputs) (budget : ℕ) where
  -- ---- nobody spends less

  -- the bound falls, and to what bounds the node's allocations
  abbrev Bounds : ℕ → N → Progress R → Progress R → Type 0
  Bounds parent x s u = (bound t u ≤ bound t s) × (Node x → Below r parent x → Below r (bound t u) x)

  lower : (x : N) (s : Progress R) → least_or (t.cost (evaluated t x s).best) s.floors ≤ bound t s
  lower x s = least_more (t.cost (evaluated t x s).best) (t.cost s.best) s.floors (entered t x s).0

  pub visits-bound : (left parent : ℕ) (x : N) (s : Progress R) → Bounds parent x s (visit t budget left parent x s)
  visits-bound = each-visit t {P = Bounds} (record {
    spent = λ parent x s h. (omega arith, λ g p y k. omega (arith, p y k));
    unsplit = λ parent x s h. either_way (Bounds parent x s) (t.solvable x)
        (λ e. (omega (arith, lower x s), λ g p y k. omega (arith, floor-below r parent x g e p y k)))
        (λ e. (omega (arith, lower x s), λ g p y k. absurd (r.none x g e y k)));
    parted = λ parent x s u v h e f l a b. (
      omega (arith, a.0, b.0, lower x s),
      λ g p y k. ⊎_elim (λ i. omega (arith, b.0, a.1 (r.lowest-node x g) (λ z j. floor-below r parent x g e p z (r.in_lowest x f z j)) y i)) (λ i. b.1 (r.rest-node x g) (λ z j. floor-below r parent x g e p z (r.in_rest x f z j)) y i) (r.in_either x f y k),
    );
  })

  -- ---- and what is still to come does not undercut it

  -- the bound falls no further than to the parent's floor
  abbrev Holds : ℕ → N → Progress R → Progress R → Type 0
  Holds parent x s u = Node x → Below r parent x → min (bound t s) parent ≤ bound t u

  still : (parent : ℕ) (x : N) (s : Progress R) → Node x → t.solvable x ≡ true → Below r parent x → min (bound t s) parent ≤ least_or (t.cost (evaluated t x s).best) s.floors
  still parent x s g e p =
      ⊎_elim (λ i. omega (arith, ap (λ (z : R). least_or (t.cost z) s.floors) i))
      (λ i. omega (arith, ap (λ (z : R). least_or (t.cost z) s.floors) i.1, least_by (t.cost s.best) (t.cost (t.dispatch x)) s.floors, own-cost r x parent g e p, least_more (min (t.cost s.best) (t.cost (t.dispatch x))) (t.cost (t.dispatch x)) s.floors (omega arith))) (entered t x s).1

  pub visits_hold : (left parent : ℕ) (x : N) (s : Progress R) → Holds parent x s (visit t budget left parent x s)
  visits_hold = each-visit t {P = Holds} (record {
    spent = λ parent x s h g p. omega arith;
    unsplit = λ parent x s h. either_way (Holds parent x s) (t.solvable x)
        (λ e g p. omega (arith, still parent x s g e p))
        (λ e g p. omega (arith, ap (λ (z : R). least_or (t.cost z) s.floors) (unsolved t x s e)));
    parted = λ parent x s u v h e f l a b g p. omega (arith, still parent x s g e p, a (r.lowest-node x g) (λ z j. floor-below r parent x g e p z (r.in_lowest x f z j)), b (r.rest-node x g) (λ z j. floor-below r parent x g e p z (r.in_rest x f z j)));
  })

-- ---- the whole search

module _ {N R Y : Type 0} {t : Tree N R} {Node : N → Type 0} {Has : N → Y → Type 0} {price : Y → ℕ} {outputs : R → Y} (r : Branching t Node Has price outputs) (budget left : ℕ) (root : N) (node : Node root) (solves : t.solvable root ≡ true) where
  abbrev start : Progress R
  start = record { visited = 0; best = t.dispatch root; floors = [] }

  pub at_most_budget : (search t budget left root).visited ≤ budget
  unfolding search
  at_most_budget = (visits-count t budget left 0 root start).1 (omega arith)

  pub at_least_root : 1 ≤ budget → 1 ≤ (search t budget left root).visited
  unfolding search
  at_least_root h = omega (arith, (visits-count t budget left 0 root start).2 (omega arith))

  -- nobody spends less
  pub bounded : (y : Y) → Has root y → bound t (search t budget left root) ≤ price y
  unfolding search
  bounded = (visits-bound r budget left 0 root start).1 node (λ y k. omega arith)

  -- the best is an allocation of the root, at its cost
  abbrev Good : Progress R → Type 0
  Good s = Has root (outputs s.best) × (t.cost s.best ≡ price (outputs s.best))

  abbrev Keeps-good : ℕ → N → Progress R → Progress R → Type 0
  Keeps-good parent x s u = Node x → ((y : Y) → Has x y → Has root y) → Good s → Good u

  good_entered : (parent : ℕ) (x : N) (s : Progress R) → Node x → ((y : Y) → Has x y → Has root y) → Good s → Good (evaluated t x s)
  good_entered parent x s n i g =
      ⊎_elim (λ e. subst (λ (z : R). Has root (outputs z) × (t.cost z ≡ price (outputs z))) (sym e) g)
      (λ e. subst (λ (z : R). Has root (outputs z) × (t.cost z ≡ price (outputs z))) (sym e.1) (i (outputs (t.dispatch x)) (r.found x n e.0), r.cost-is x n e.0)) (entered t x s).1

  visits_good : (n parent : ℕ) (x : N) (s : Progress R) → Keeps-good parent x s (visit t budget n parent x s)
  visits_good = each-visit t {P = Keeps-good} (record {
    spent = λ parent x s h n i g. g;
    unsplit = λ parent x s h. either_way (Keeps-good parent x s) (t.solvable x) (λ _ n i g. good_entered parent x s n i g) (λ _ n i g. good_entered parent x s n i g);
    parted = λ parent x s u v h e f k a b n i g. b (r.rest-node x n) (λ y j. i y (r.in_rest x f y j)) (a (r.lowest-node x n) (λ y j. i y (r.in_lowest x f y j)) (good_entered parent x s n i g));
  })

  pub best_good : Good (search t budget left root)
  unfolding search
  best_good = visits_good left 0 root start node (λ y k. k) (r.found root node solves, r.cost-is root node solves)

  -- what holds of every dispatch holds of the best
  module _ (P : R → Type 0) (each : (x : N) → Node x → t.solvable x ≡ true → P (t.dispatch x)) where
    abbrev Keeps-each : ℕ → N → Progress R → Progress R → Type 0
    Keeps-each parent x s u = Node x → P s.best → P u.best

    each-entered : (x : N) (s : Progress R) → Node x → P s.best → P (evaluated t x s).best
    each-entered x s n p = ⊎_elim (λ e. subst P (sym e) p) (λ e. subst P (sym e.1) (each x n e.0)) (entered t x s).1

    visits-each : (n parent : ℕ) (x : N) (s : Progress R) → Keeps-each parent x s (visit t budget n parent x s)
    visits-each = each-visit t {P = Keeps-each} (record {
      spent = λ parent x s h n p. p;
      unsplit = λ parent x s h. either_way (Keeps-each parent x s) (t.solvable x) (λ _ n p. each-entered x s n p) (λ _ n p. each-entered x s n p);
      parted = λ parent x s u v h e f k a b n p. b (r.rest-node x n) (a (r.lowest-node x n) (each-entered x s n p));
    })

    pub best-each : P (search t budget left root).best
    unfolding search
    best-each = visits-each left 0 root start node (each root node solves)
