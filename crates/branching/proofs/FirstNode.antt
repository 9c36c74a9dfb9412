-- A budget of 1 evaluates the root and nothing else: the best is its dispatch, and what is proved is its floor.
use mathlib.Core.Path.{◌≡◌, refl, sym, ap, ◌∙◌}
use mathlib.Core.Bool.{Bool, true, false, cond, true≢false}
use mathlib.Core.List.{[]}
use Prim.Native.Nat.{ℕ, zero, suc, min}
use native.Mathlib.Omega.{arith}
use Rattle.rules.proofs.Verdicts.{either_way}
use Rattle.branching.specs.Branching.{Tree, Progress, is_cheaper, unevaluated, evaluated, floor_of, is_split, stays, visit, search, bound}
use Rattle.branching.proofs.NodeByNode.{visit-spent}

module _ {N R : Type 0} (t : Tree N R) (root : N) (solves : t.solvable root ≡ true) where
  abbrev start : Progress R
  start = record { visited = 0; best = t.dispatch root; floors = [] }

  -- replaced or not, it is the root's
  root-best : (evaluated t root start).best ≡ t.dispatch root
  root-best = either_way (λ (r : R). r ≡ t.dispatch root) (is_cheaper t root start) (λ _. refl) (λ _. refl)

  pub record First (s : Progress R) : Type 0 where
    pub visited : s.visited ≡ 1
    pub best : s.best ≡ t.dispatch root
    pub bound : bound t s ≡ min (t.floor (t.dispatch root)) (t.cost (t.dispatch root))

  first-stays : First (stays t 0 root (evaluated t root start))
  first-stays = either_way First (t.solvable root) (λ _. record { visited = refl; best = root-best; bound = omega (arith, ap t.cost root-best) }) (λ e. absurd (true≢false (sym solves ∙ e)))

  first-parted : (left : ℕ) → let n = evaluated t root start in let f = floor_of t 0 root in First (visit t 1 left f (t.rest root) (visit t 1 left f (t.lowest root) n))
  first-parted left =
      let n = evaluated t root start in
      let f = floor_of t 0 root in
      rw (visit-spent t 1 left f (t.lowest root) n (omega arith), visit-spent t 1 left f (t.rest root) (unevaluated t f n) (omega arith))
      (record { visited = refl; best = root-best; bound = omega (arith, ap t.cost root-best) })

  pub first-node : (left : ℕ) → First (search t 1 left root)
  unfolding search visit
  first-node zero = first-stays
  first-node (suc left) = by (is_split t 0 root (evaluated t root start))
    where
      by : (b : Bool) → let n = evaluated t root start in let f = floor_of t 0 root in First (cond b (visit t 1 left f (t.rest root) (visit t 1 left f (t.lowest root) n)) (stays t 0 root n))
      by true = first-parted left
      by false = first-stays
