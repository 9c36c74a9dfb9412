-- The gap is the distance of the cost above the floor, and the surplus is exact (`Stating`).
use Rattle.std.proofs.Common.{rules}
use Rattle.solving.proofs.Stating.{states}
use Rattle.solving.proofs.stated.Goals as goal

pub returns : goal.returns
returns c = states c.args.target c.args.f (search rules)
