-- `day::slots`: one slot more, and the end (`Folding`).
use Rattle.day.proofs.Folding.{folded_more}
use Rattle.day.proofs.slots.Goals as goal

pub loop-k-preserved : goal.loop-k-preserved
loop-k-preserved c = folded_more c.requires c.loop-k.invariant c.loop-k-test.true c.slot-total.ensures.0
