-- A visit by what happens at its node, for a program that goes from node to node; and that the number of regions left to split off suffices, however much larger it is.
use mathlib.Core.Path.{◌≡◌, refl, sym, ap, ◌∙◌}
use mathlib.Core.Bool.{Bool, true, false, cond, ◌&&◌, true≢false}
use mathlib.Core.List.{[]}
use Prim.Native.Nat.{ℕ, zero, suc, ◌≤◌, ◌<◌}
use native.Mathlib.Omega.{arith}
use lib.Dec.{ltb}
use borrow.Author.Tests.{lt-ltb, le-ltb}
use Rattle.rules.proofs.Verdicts.{and-true, accepts}
use Rattle.branching.specs.Branching.{Tree, Progress, evaluated, floor_of, is_split, unevaluated, stays, visit, search}

-- what a split asks of its node
module _ {N R : Type 0} (t : Tree N R) where
  pub split_parts : (parent : ℕ) (x : N) (s : Progress R) → is_split t parent x s ≡ true → (t.solvable x ≡ true) × (t.several x ≡ true) × (floor_of t parent x < t.cost s.best)
  split_parts parent x s e =
      let ((solves, several), lower) = simp accepts at e in
      (solves, several, omega (arith, lower))

module _ {N R : Type 0} (t : Tree N R) (budget left parent : ℕ) (x : N) (s : Progress R) where
  -- the budget is spent
  pub visit-spent : budget ≤ s.visited → visit t budget left parent x s ≡ unevaluated t parent s
  unfolding visit
  visit-spent h = by left
    where
      by : (n : ℕ) → visit t budget n parent x s ≡ unevaluated t parent s
      by zero = rw (le-ltb s.visited budget h)
      by (suc n) = rw (le-ltb s.visited budget h)

  module _ (h : s.visited < budget) where
    -- of what the search had only what is left of it by the evaluation is seen
    pub visit-alike : (u : Progress R) → s.visited ≡ u.visited → evaluated t x s ≡ evaluated t x u → visit t budget left parent x s ≡ visit t budget left parent x u
    unfolding visit
    visit-alike u e f = by left
      where
        by : (n : ℕ) → visit t budget n parent x s ≡ visit t budget n parent x u
        by zero = rw (lt-ltb s.visited budget h, lt-ltb u.visited budget (omega (arith, e))) (ap (stays t parent x) f)
        by (suc n) = rw (lt-ltb s.visited budget h, lt-ltb u.visited budget (omega (arith, e))) (ap (λ (y : Progress R). cond (is_split t parent x y) (visit t budget n (floor_of t parent x) (t.rest x) (visit t budget n (floor_of t parent x) (t.lowest x) y)) (stays t parent x y)) f)

    -- no region is left to split off
    pub visit-last : visit t budget zero parent x s ≡ stays t parent x (evaluated t x s)
    unfolding visit
    visit-last = rw (lt-ltb s.visited budget h)

    -- the node is not split
    pub visit-stays : (t.solvable x ≡ true → t.several x ≡ true → t.cost (evaluated t x s).best ≤ floor_of t parent x) → visit t budget left parent x s ≡ stays t parent x (evaluated t x s)
    unfolding visit
    visit-stays f = by left
      where
        whole : (b : Bool) → is_split t parent x (evaluated t x s) ≡ b → (p : Progress R) → cond b p (stays t parent x (evaluated t x s)) ≡ stays t parent x (evaluated t x s)
        whole true e p = let q = split_parts t parent x (evaluated t x s) e in absurd (omega (arith, f q.0 q.1))
        whole false e p = refl

        by : (n : ℕ) → visit t budget n parent x s ≡ stays t parent x (evaluated t x s)
        by zero = rw (lt-ltb s.visited budget h)
        by (suc n) = rw (lt-ltb s.visited budget h) (whole (is_split t parent x (evaluated t x s)) refl _)

  -- the node is split
  pub visit-splits : s.visited < budget → t.solvable x ≡ true → t.several x ≡ true → floor_of t parent x < t.cost (evaluated t x s).best → let below = floor_of t parent x in visit t budget (suc left) parent x s ≡ visit t budget left below (t.rest x) (visit t budget left below (t.lowest x) (evaluated t x s))
  unfolding visit
  visit-splits h e f g =
      let yes : is_split t parent x (evaluated t x s) ≡ true = (and-true (t.solvable x && t.several x) _).1 ((and-true (t.solvable x) (t.several x)).1 (e, f), lt-ltb (floor_of t parent x) (t.cost (evaluated t x s).best) g) in
      rw (lt-ltb s.visited budget h) (ap (λ (b : Bool). cond b (visit t budget left (floor_of t parent x) (t.rest x) (visit t budget left (floor_of t parent x) (t.lowest x) (evaluated t x s))) (stays t parent x (evaluated t x s))) yes)

-- ---- the number of regions left suffices

module _ {N R : Type 0} (t : Tree N R) (size : N → ℕ) (nothing_left : (x : N) → size x ≡ 0 → t.several x ≡ false) (lowest_smaller : (x : N) → t.several x ≡ true → size (t.lowest x) < size x) (rest_smaller : (x : N) → t.several x ≡ true → size (t.rest x) < size x) (budget : ℕ) where
  unsplit : (parent : ℕ) (x : N) (s : Progress R) → size x ≡ 0 → is_split t parent x s ≡ false
  unsplit parent x s e = by (is_split t parent x s) refl
    where
      by : (b : Bool) → is_split t parent x s ≡ b → b ≡ false
      by true f = absurd (true≢false (sym (split_parts t parent x s f).1 ∙ nothing_left x e))
      by false f = refl

  -- as many or more give the same
  pub enough : (left more parent : ℕ) (x : N) (s : Progress R) → size x ≤ left → left ≤ more → visit t budget more parent x s ≡ visit t budget left parent x s
  unfolding visit
  enough zero zero parent x s h k = refl
  enough zero (suc more) parent x s h k = rw (unsplit parent x (evaluated t x s) (omega arith)) refl
  enough (suc left) zero parent x s h k = absurd (omega arith)
  enough (suc left) (suc more) parent x s h k =
      let n = evaluated t x s in
      let fl = floor_of t parent x in
      ap (λ (p : Progress R). cond (ltb s.visited budget) p (unevaluated t parent s)) (by (is_split t parent x n) refl
      (λ e. enough left more fl (t.lowest x) n (omega (arith, lowest_smaller x e)) (omega arith))
      (λ e u. enough left more fl (t.rest x) u (omega (arith, rest_smaller x e)) (omega arith)))
    where
      by : (b : Bool) → is_split t parent x (evaluated t x s) ≡ b
          → (t.several x ≡ true → visit t budget more (floor_of t parent x) (t.lowest x) (evaluated t x s) ≡ visit t budget left (floor_of t parent x) (t.lowest x) (evaluated t x s))
          → (t.several x ≡ true → (u : Progress R) → visit t budget more (floor_of t parent x) (t.rest x) u ≡ visit t budget left (floor_of t parent x) (t.rest x) u)
          → cond b (visit t budget more (floor_of t parent x) (t.rest x) (visit t budget more (floor_of t parent x) (t.lowest x) (evaluated t x s))) (stays t parent x (evaluated t x s)) ≡ cond b (visit t budget left (floor_of t parent x) (t.rest x) (visit t budget left (floor_of t parent x) (t.lowest x) (evaluated t x s))) (stays t parent x (evaluated t x s))
      by true e f g = let q = (split_parts t parent x (evaluated t x s) e).1 in ap (visit t budget more (floor_of t parent x) (t.rest x)) (f q) ∙ g q (visit t budget left (floor_of t parent x) (t.lowest x) (evaluated t x s))
      by false e f g = refl

-- ---- where a search starts

module _ {N R : Type 0} (t : Tree N R) (budget left : ℕ) (root : N) (some : 1 ≤ budget) (solves : t.solvable root ≡ true) where
  -- with any best that the root's dispatch is cheaper than
  pub search-from : (r : R) → t.cost (t.dispatch root) < t.cost r → visit t budget left 0 root (record { visited = 0; best = r; floors = [] }) ≡ search t budget left root
  unfolding search
  search-from r h =
      let own = t.dispatch root in
      let cheaper : (t.solvable root && ltb (t.cost own) (t.cost r)) ≡ true = (and-true (t.solvable root) (ltb (t.cost own) (t.cost r))).1 (solves, lt-ltb (t.cost own) (t.cost r) h) in
      visit-alike t budget left 0 root (record { visited = 0; best = r; floors = [] }) (omega arith) (record { visited = 0; best = own; floors = [] }) refl
      (ap (λ (z : R). record { visited = 1; best = z; floors = [] }) (ap (λ (b : Bool). cond b own r) cheaper ∙ sym (both (t.solvable root && ltb (t.cost own) (t.cost own)))))
    where
      both : (b : Bool) → cond b (t.dispatch root) (t.dispatch root) ≡ t.dispatch root
      both true = refl
      both false = refl
