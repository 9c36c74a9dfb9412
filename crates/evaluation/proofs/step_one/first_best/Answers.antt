-- Decoding refuses the case, or gives a site, of which step 1 decides (`Covering`).
use Rattle.evaluation.proofs.Covering.{of_file}
use Rattle.evaluation.proofs.step_one.first_best.Goals as goal

pub returns : goal.returns
returns c = of_file c.in_ok-decode.ensures _ c.step1.result c.step1.ensures
