-- The sums of the first units.
use Rattle.sums.proofs.Summed.{Summing}
use Rattle.sums.proofs.sums_at.Given as goal

abbrev pub invariant-loop-i : goal.invariant-loop-i
invariant-loop-i l = Summing l.m l.site.coefficients l.site.ends l.site.ranges l.site.count l.cost l.net l.ties l.i
