-- What a search has, held by numbers and the lent best outputs: as a floor joins, and of whatever else is alike.
use mathlib.Core.Path.{◌≡◌, sym, ap, ◌∙◌}
use mathlib.Core.List.{List}
use Prim.Native.Nat.{ℕ, min}
use native.Mathlib.Omega.{arith}
use Rattle.rules.specs.Bisection.{Reply}
use Rattle.branching.specs.Branching.{Progress, with_floor}
use Rattle.branching.specs.Nodes.{tree}
use Rattle.branching.proofs.Closed.{Alike}
use Rattle.nodes.specs.declared.Progress as code-progress
use Rattle.nodes.specs.Clauses.{HoldsProgress}

-- a floor joins
pub floor-held : {n : ℕ} {p : Progress Reply} {s r : code-progress.Progress} {best : List ℕ} (d f : ℕ) → HoldsProgress n p s best → r ≡ record { visited = s.visited; cost = s.cost; surplus = s.surplus; floor = min f s.floor } → HoldsProgress n (with_floor (tree d) f p) r best
floor-held d f h e =
    rw e (record { visited = h.visited; cost = h.cost; surplus = h.surplus; outputs = h.outputs; bound = omega (arith, h.bound) })

-- nothing else of a search is held than what is seen of it
pub alike-held : {n : ℕ} {p u : Progress Reply} {s : code-progress.Progress} {best : List ℕ} (d : ℕ) → Alike (tree d) u p → HoldsProgress n p s best → HoldsProgress n u s best
alike-held d a h =
    record {
      visited = h.visited ∙ sym a.visited;
      cost = h.cost ∙ ap (λ (r : Reply). r.cost) (sym a.best);
      surplus = h.surplus ∙ ap (λ (r : Reply). r.surplus) (sym a.best);
      outputs = h.outputs ∙ ap (λ (r : Reply). r.outputs) (sym a.best);
      bound = h.bound ∙ sym a.bound;
    }
