-- One byte more is read.
use Rattle.std.proofs.Common.{arith}
use Rattle.fields.proofs.Width.{reading_more}
use Rattle.fields.proofs.read_number.Goals as goal

pub loop-byte-preserved : goal.loop-byte-preserved
loop-byte-preserved c = reading_more _ _ _ _ c.loop-byte.invariant c.loop-byte-test.true c.from.ensures (omega arith)
