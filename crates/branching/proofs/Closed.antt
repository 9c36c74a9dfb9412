-- A node of which nothing is seen but that it is evaluated: one without an allocation, and one whose own floor reaches the best cost. Such a floor, cut at the cost, is not seen in the bound.
use mathlib.Core.Path.{◌≡◌, refl, ap, ap₂}
use mathlib.Core.Bool.{Bool, true, false, cond, ◌&&◌}
use Prim.Native.Nat.{ℕ, suc, ◌≤◌, ◌<◌}
use native.Mathlib.Omega.{arith}
use borrow.Author.Tests.{le-ltb}
use Rattle.branching.specs.Branching.{Tree, Progress, evaluated, floor_of, with_floor, visit, least_or, bound}
use Rattle.branching.proofs.NodeByNode.{visit-stays}
use Rattle.branching.proofs.Visits.{least_at_most, entered, unsolved}

-- what is seen of a search: the count, the best and the bound
pub record Alike {N R : Type 0} (t : Tree N R) (s u : Progress R) : Type 0 where
  pub visited : s.visited ≡ u.visited
  pub best : s.best ≡ u.best
  pub bound : bound t s ≡ bound t u

-- an evaluation of which only that is seen
abbrev pub counted : {R : Type 0} → Progress R → Progress R
counted s = record { visited = suc s.visited; best = s.best; floors = s.floors }

module _ {N R : Type 0} (t : Tree N R) (budget left parent : ℕ) (x : N) (s : Progress R) where
  -- the floor of its own dispatch reaches the best cost
  pub record Reaches : Type 0 where
    pub reaches : t.cost s.best ≤ t.floor (t.dispatch x)
    pub proved : t.floor (t.dispatch x) ≤ t.cost (t.dispatch x)

  pub closed : s.visited < budget → (t.solvable x ≡ true → Reaches) → Alike t (visit t budget left parent x s) (counted s)
  closed h f = rw (visit-stays t budget left parent x s h (λ e k. omega (arith, (f e).reaches, (entered t x s).0))) (by (t.solvable x) refl)
    where
      dearer : t.solvable x ≡ true → (evaluated t x s).best ≡ s.best
      dearer e = ap₂ (λ (y z : Bool). cond (y && z) (t.dispatch x) s.best) e (le-ltb (t.cost (t.dispatch x)) (t.cost s.best) (omega (arith, (f e).reaches, (f e).proved)))

      by : (b : Bool) → t.solvable x ≡ b → Alike t (cond b (with_floor t (floor_of t parent x) (evaluated t x s)) (evaluated t x s)) (counted s)
      by true e = record { visited = refl; best = dearer e; bound = omega (arith, ap (λ (z : R). least_or (t.cost z) s.floors) (dearer e), least_at_most (t.cost s.best) s.floors, (f e).reaches) }
      by false e = record { visited = refl; best = unsolved t x s e; bound = ap (λ (z : R). least_or (t.cost z) s.floors) (unsolved t x s e) }
