-- Step 1 decides, and the search solves (`StepOne`).
use Rattle.solving.proofs.StepOne.{first-held, solution-held}
use Rattle.solving.proofs.solve_held.Goals as goal

pub solve-requires : goal.solve-requires
solve-requires c = first-held c.in-Ok.ensures c.requires

pub returns : goal.returns
returns c = solution-held c.in-Ok.ensures c.solve.ensures
