-- The regions passed end below v.
use Rattle.std.proofs.Common.{ℕ, ◌≤◌, ◌<◌}
use Rattle.regions.specs.Regions.{high}
use Rattle.choice.proofs.choosing.Permitted.region_reaching.Given as goal

abbrev pub invariant-loop-k : goal.invariant-loop-k
invariant-loop-k l = (j : ℕ) → l.self.first ≤ j → j < l.k → high l.self.ends.now j < l.v
