-- The sums with the unit lowered stay in range.
use Rattle.std.proofs.Common.{arith}
use Rattle.rules.proofs.Economics.Quantities.{cost-range, net-range}
use Rattle.lowering.proofs.lower_unit.Goals as goal

pub overflow_add-after : goal.overflow_add-after
overflow_add-after c = let s = c.requires in omega (arith, c.net_of-2.ensures s.unit s.holds, net-range s.holds.sound s.least, s.sized.net)

pub overflow_add-result : goal.overflow_add-result
overflow_add-result c = let s = c.requires in omega (arith, c.cost_of-2.ensures s.unit s.holds, cost-range s.holds.sound s.least, s.sized.cost)
