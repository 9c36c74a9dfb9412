-- `dispatching::dispatch` meets its contract: each return is one end of the definition (`Endings`). (A buffer too short is left to the search, so that no answer names that condition.)
use Rattle.std.proofs.Common.{arith}
use Rattle.std.proofs.lemmas.Result.{err_from_is_err_and}
use Rattle.bisection.proofs.Starting.{solving}
use Rattle.dispatching.proofs.Endings.{promised, refused, replied}
use Rattle.dispatching.proofs.dispatch.Goals as goal

pub solve-requires : goal.solve-requires
solve-requires c = solving c.in_ok-cost.ensures

pub returns-in_err-cost : goal.returns-in_err-cost
returns-in_err-cost c =
    let raised = err_from_is_err_and c.from_residual.result c.from_residual.ensures.1 in
    let e = refused c.args.file.now c.args.reply.now (omega arith) _ c.in_err-cost.ensures in
    rw (raised.1, raised.2) (record { outcome = e; promise = promised _ _ e })

pub returns : goal.returns
returns c =
    let e = replied c.args.file.now c.args.reply.now (omega arith) c.in_ok-cost.ensures c.solve.ensures c.write_reply.ensures.0 c.write_reply.ensures.1 in
    record { outcome = e; promise = promised _ _ e }
