-- `judging::lies_within`: none of the regions before k has p.
use Rattle.std.proofs.Common.{ℕ, ◌<◌, ◌≤◌}
use Rattle.regions.specs.Regions.{low, high, Between}
use Rattle.judging.proofs.lies_within.Given as goal

abbrev pub invariant-loop-k : goal.invariant-loop-k
invariant-loop-k l = (j : ℕ) → j < l.k → l.first ≤ j → Between (low l.ends j) (high l.ends j) l.p → ⊥
