-- The units passed have one region each.
use Rattle.std.proofs.Common.{◌≡◌, ℕ, ◌<◌}
use Rattle.site.specs.Site.{first, last}
use Rattle.refining.proofs.visiting.first_several.Given as goal

abbrev pub invariant-loop-i : goal.invariant-loop-i
invariant-loop-i l = (j : ℕ) → j < l.i → first l.ranges j ≡ last l.ranges j
