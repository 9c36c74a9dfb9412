-- The first k edges are carried over.
use Rattle.std.proofs.Common.{◌≡◌, ℕ, ◌<◌, length, get_or}
use Rattle.regions.proofs.narrow.Given as goal

abbrev pub invariant-loop-k : goal.invariant-loop-k
invariant-loop-k l = (length l.narrowed ≡ 8) × ((j : ℕ) → j < l.k → get_or l.narrowed j 0 ≡ get_or l.edges j 0)
