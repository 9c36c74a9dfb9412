-- The curve as it is computed is in range and the unit's (`Heights`).
use Rattle.std.proofs.Common.{arith}
use Rattle.curve.proofs.Heights.{at-multiplier, line-fits, curve-computed}
use Rattle.curve.proofs.curve_of.Goals as goal

pub overflow_mul-result-4 : goal.overflow_mul-result-4
overflow_mul-result-4 c = omega (arith, at-multiplier c.requires)

pub overflow_cast-result-2 : goal.overflow_cast-result-2
overflow_cast-result-2 c = omega (arith, at-multiplier c.requires)

pub overflow_sub-result : goal.overflow_sub-result
overflow_sub-result c = line-fits c.requires

pub returns : goal.returns
returns c = curve-computed c.requires
