-- The difference as it is read (`AboveFloor`).
use Rattle.bisection.proofs.AboveFloor.{distance_is}
use Rattle.bisection.proofs.distance.Goals as goal

pub returns : goal.returns
returns c = distance_is c.requires c.ranges.floor
