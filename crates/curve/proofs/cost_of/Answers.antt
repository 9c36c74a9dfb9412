-- Of a standing unit nothing, and else every product is in range (`Heights`).
use Rattle.std.proofs.Common.{sym, arith}
use Rattle.rules.proofs.Economics.Quantities.{cost-standing}
use Rattle.curve.proofs.Heights.{cost-computed}
use Rattle.curve.proofs.cost_of.Goals as goal

pub returns-then-stands : goal.returns-then-stands
returns-then-stands c u h = rw c.if-stands.true (sym (cost-standing u))

pub returns : goal.returns
returns c u h = cost-computed h _ (omega arith)
