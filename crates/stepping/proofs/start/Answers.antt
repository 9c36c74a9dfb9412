-- `stepping::start` meets its contract: a case that step 1 refuses leaves the run as it was; one that it accepts begins a run.
use native.Mathlib.Omega.{arith}
use Rattle.std.proofs.lemmas.Result.{err_from_is_err_and}
use Rattle.rules.proofs.Demand3.{case-accepted}
use Rattle.rules.proofs.Encoding.SoundFile.{accepted-length}
use Rattle.stepping.proofs.Endings.{first-covers, start-refused, start-begun}
use Rattle.stepping.proofs.start.Goals as goal

-- ---- what step 1 told

pub overflow_sub-net : goal.overflow_sub-net
overflow_sub-net c = first-covers c.in_ok-cost.ensures

pub slice_bounds-copy_from_slice-end : goal.slice_bounds-copy_from_slice-end
slice_bounds-copy_from_slice-end c =
    let f = c.in_ok-cost.ensures in
    omega (arith, (accepted-length _ (case-accepted _ f.accepted).0).1)

pub returns-in_err-cost : goal.returns-in_err-cost
returns-in_err-cost c =
    let raised = err_from_is_err_and c.from_residual.result c.from_residual.ensures.1 in
    rw (raised.1, raised.2) (start-refused _ _ _ _ c.in_err-cost.ensures)

pub returns : goal.returns
returns c =
    let file = c.args.file.now in
    let held = c.args.held.now in
    start-begun _ _ _ c.in_ok-cost.ensures c.first_outputs-outputs.ensures c.write.ensures (rw c.copy_from_slice.ensures.after)
