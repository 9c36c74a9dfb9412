-- Two budgets. Until the smaller one is spent both searches are the same; from then on the smaller one only leaves floors open, and what the larger one still finds undercuts none of them. So a larger budget raises neither the cost nor the gap.
use mathlib.Core.Path.{◌≡◌, refl, sym, subst, ap}
use mathlib.Core.Bool.{Bool, true, false, cond}
use mathlib.Core.List.{[]}
use mathlib.Core.Logic.{◌⊎◌, inl, inr}
use Prim.Native.Nat.{ℕ, zero, suc, ◌-◌, ◌≤◌, ◌<◌}
use native.Mathlib.Omega.{arith}
use native.Mathlib.Decide.{dec_lt}
use borrow.Author.Tests.{lt-ltb, le-ltb}
use Rattle.branching.specs.Branching.{Tree, Progress, evaluated, floor_of, is_split, unevaluated, stays, visit, search, bound}
use Rattle.branching.proofs.NodeByNode.{split_parts}
use Rattle.branching.proofs.Visits.{Branching, Below, floor-below, visits_cheaper, visits_hold}

module _ {N R Y : Type 0} {t : Tree N R} {Node : N → Type 0} {Has : N → Y → Type 0} {price : Y → ℕ} {outputs : R → Y} (r : Branching t Node Has price outputs) (budget larger : ℕ) (more : budget ≤ larger) where
  -- with the smaller budget and with the larger one: the same so far, or the smaller one is spent and the larger one has no dearer best and no smaller bound
  abbrev Ahead : Progress R → Progress R → Type 0
  Ahead s u = (s ≡ u) ⊎ ((budget ≤ s.visited) × (t.cost u.best ≤ t.cost s.best) × (bound t s ≤ bound t u))

  behind : {s u : Progress R} → Ahead s u → budget ≤ s.visited → (t.cost u.best ≤ t.cost s.best) × (bound t s ≤ bound t u)
  behind {s} (inl e) h = (omega (arith, ap (λ (z : Progress R). t.cost z.best) e), omega (arith, ap (bound t) e))
  behind (inr p) h = (p.1, p.2)

  -- once the smaller budget is spent, a node only leaves its parent's floor there
  pub ahead-spent : (left parent : ℕ) (x : N) (s u : Progress R) → Node x → Below r parent x → budget ≤ s.visited → Ahead s u → Ahead (unevaluated t parent s) (visit t larger left parent x u)
  ahead-spent left parent x s u g p h a =
      let b = behind a h in
      inr (h, omega (arith, b.0, visits_cheaper t larger left parent x u), omega (arith, b.1, visits_hold r larger left parent x u g p))

  -- what is shown, of a number of regions left
  abbrev Keeps : ℕ → Type 0
  Keeps left = (parent : ℕ) (x : N) (s u : Progress R) → Node x → Below r parent x → Ahead s u → Ahead (visit t budget left parent x s) (visit t larger left parent x u)

  -- a node that both evaluate
  module _ (parent : ℕ) (x : N) (s : Progress R) (g : Node x) (p : Below r parent x) where
    abbrev n : Progress R
    n = evaluated t x s

    abbrev fl : ℕ
    fl = floor_of t parent x

    splits-alike : (left : ℕ) → Keeps left → (b : Bool) → is_split t parent x n ≡ b → Ahead (cond b (visit t budget left fl (t.rest x) (visit t budget left fl (t.lowest x) n)) (stays t parent x n)) (cond b (visit t larger left fl (t.rest x) (visit t larger left fl (t.lowest x) n)) (stays t parent x n))
    splits-alike left keeps true e =
        let q = split_parts t parent x n e in
        let f = floor-below r parent x g q.0 p in
        keeps fl (t.rest x) (visit t budget left fl (t.lowest x) n) (visit t larger left fl (t.lowest x) n) (r.rest-node x g) (λ y k. f y (r.in_rest x q.1 y k)) (keeps fl (t.lowest x) n n (r.lowest-node x g) (λ y k. f y (r.in_lowest x q.1 y k)) (inl refl))
    splits-alike left keeps false e = inl refl

  keeps-none : Keeps zero
  unfolding visit
  keeps-none parent x s u g p a = by (dec_lt s.visited budget) a
    where
      by : Dec (s.visited < budget) → Ahead s u → Ahead (visit t budget zero parent x s) (visit t larger zero parent x u)
      by (no h) a = rw (le-ltb s.visited budget (omega arith)) (ahead-spent zero parent x s u g p (omega arith) a)
      by (yes h) (inr q) = absurd (omega (arith, q.0))
      by (yes h) (inl e) = subst (λ (z : Progress R). Ahead (visit t budget zero parent x s) (visit t larger zero parent x z)) e (rw (lt-ltb s.visited budget h, lt-ltb s.visited larger (omega arith)) (inl refl))

  keeps-more : (left : ℕ) → Keeps left → Keeps (suc left)
  unfolding visit
  keeps-more left keeps parent x s u g p a = by (dec_lt s.visited budget) a
    where
      by : Dec (s.visited < budget) → Ahead s u → Ahead (visit t budget (suc left) parent x s) (visit t larger (suc left) parent x u)
      by (no h) a = rw (le-ltb s.visited budget (omega arith)) (ahead-spent (suc left) parent x s u g p (omega arith) a)
      by (yes h) (inr q) = absurd (omega (arith, q.0))
      by (yes h) (inl e) = subst (λ (z : Progress R). Ahead (visit t budget (suc left) parent x s) (visit t larger (suc left) parent x z)) e (rw (lt-ltb s.visited budget h, lt-ltb s.visited larger (omega arith)) (splits-alike parent x s g p left keeps (is_split t parent x (evaluated t x s)) refl))

  pub ahead : (left : ℕ) → Keeps left
  ahead zero = keeps-none
  ahead (suc left) = keeps-more left (ahead left)

  -- the whole search: a larger budget raises neither the best cost nor the gap
  pub larger_budget : (left : ℕ) (root : N) → Node root → let s = search t budget left root in let u = search t larger left root in
      (t.cost u.best ≤ t.cost s.best) × (t.cost u.best - bound t u ≤ t.cost s.best - bound t s)
  unfolding search
  larger_budget left root g =
      let start : Progress R = record { visited = 0; best = t.dispatch root; floors = [] } in
      by (visit t budget left 0 root start) (visit t larger left 0 root start) (ahead left 0 root start start g (λ y k. omega arith) (inl refl))
    where
      by : (s u : Progress R) → Ahead s u → (t.cost u.best ≤ t.cost s.best) × (t.cost u.best - bound t u ≤ t.cost s.best - bound t s)
      by s u (inl e) = subst (λ (z : Progress R). (t.cost z.best ≤ t.cost s.best) × (t.cost z.best - bound t z ≤ t.cost s.best - bound t s)) e (omega arith, omega arith)
      by s u (inr (h, c, b)) = (c, omega arith)

  -- a search that ends before its budget is spent is the same with every larger one
  pub ended : (left : ℕ) (root : N) → Node root → (search t budget left root).visited < budget → search t larger left root ≡ search t budget left root
  unfolding search
  ended left root g h =
      let start : Progress R = record { visited = 0; best = t.dispatch root; floors = [] } in
      by (visit t budget left 0 root start) (visit t larger left 0 root start) (ahead left 0 root start start g (λ y k. omega arith) (inl refl)) h
    where
      by : (s u : Progress R) → Ahead s u → s.visited < budget → u ≡ s
      by s u (inl e) h = sym e
      by s u (inr p) h = absurd (omega (arith, p.0))
