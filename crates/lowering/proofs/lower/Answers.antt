-- The loop keeps what `Lowering` says.
use Rattle.std.proofs.Common.{arith}
use Rattle.lowering.proofs.Lowered.{nothing_to_lower, lowering_starts, unit-lowerable, lowering_more, lowering_ends}
use Rattle.lowering.proofs.lower.Goals as goal

pub returns-then-alone : goal.returns-then-alone
returns-then-alone c = nothing_to_lower c.requires c.if-alone.true

pub loop-i-init : goal.loop-i-init
loop-i-init c = lowering_starts c.requires

pub lower_unit-sums-requires : goal.lower_unit-sums-requires
lower_unit-sums-requires c = unit-lowerable c.requires c.loop-i.invariant c.loop-i-test.true

pub loop-i-preserved : goal.loop-i-preserved
loop-i-preserved c = lowering_more c.requires c.loop-i.invariant c.loop-i-test.true c.lower_unit-sums.ensures

pub returns : goal.returns
returns c = let v = c.loop-i.invariant in lowering_ends c.requires v (omega (arith, v.within, c.loop-i-test.false))
