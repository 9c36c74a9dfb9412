-- Every product is in range (`Heights`).
use Rattle.std.proofs.Common.{arith}
use Rattle.curve.proofs.Heights.{at-output, net-computed}
use Rattle.curve.proofs.net_of.Goals as goal

pub overflow_sub-result : goal.overflow_sub-result
overflow_sub-result c = omega (arith, at-output c.requires)

pub overflow_mul-result-2 : goal.overflow_mul-result-2
overflow_mul-result-2 c = omega (arith, at-output c.requires)

pub returns : goal.returns
returns c u h = net-computed h _ c.requires.output
