-- The greatest outputs cover, or do not (`Covering`).
use Rattle.std.proofs.Common.{arith}
use Rattle.evaluation.proofs.Covering.{uncovered, covered}
use Rattle.evaluation.proofs.step_one.step1.Goals as goal

pub returns-then-first-site : goal.returns-then-first-site
returns-then-first-site c = uncovered c.greatest_outputs-first.ensures c.if-first-site.true

pub returns : goal.returns
returns c = covered c.greatest_outputs-first.ensures (omega (arith, c.if-first-site.false))
