-- `stepping::numbers::stage_fits`: the room asked for is in range.
use Rattle.std.proofs.Common.{arith}
use Rattle.stepping.proofs.Widths.{width-range}
use Rattle.stepping.proofs.numbers.stage_fits.Goals as goal

pub overflow_mul-result : goal.overflow_mul-result
overflow_mul-result c = omega (arith, width-range c.args.evaluations)

pub overflow_add-result : goal.overflow_add-result
overflow_add-result c = omega (arith, width-range c.args.evaluations)
