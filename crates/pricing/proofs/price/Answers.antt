-- Each return is a case of `Covering`. (What an edit of must-fail changes in a condition is cited without that condition's name.)
use Rattle.std.proofs.Common.{w64, arith, rules}
use Rattle.std.proofs.lemmas.Result.{err_from_is_err_and}
use mir.Facts.{to_z-of_z}
use Rattle.fields.proofs.Integers.{is_same}
use Rattle.evaluation.proofs.Covering.{case-refused, dualable, valued}
use Rattle.pricing.proofs.price.Goals as goal

pub evaluate-cost-requires : goal.evaluate-cost-requires
evaluate-cost-requires c =
    let s = c.in_ok-first_best.ensures.site.holds in
    (record { held = record { problem = _; holds = s }; multiplier = omega arith }, s.few, s.few)

pub dual_of-requires : goal.dual_of-requires
dual_of-requires c = dualable c.args.file.now (omega arith) c.in_ok-first_best.ensures c.evaluate-cost.ensures.allocates

pub returns-in_err-first_best : goal.returns-in_err-first_best
returns-in_err-first_best c =
    let raised = err_from_is_err_and c.from_residual.result c.from_residual.ensures.1 in
    rw (raised.1, raised.2) (case-refused c.args.file.now (omega arith) c.in_err-first_best.ensures)

pub returns : goal.returns
returns c = valued c.args.file.now (omega arith) c.in_ok-first_best.ensures c.evaluate-cost.ensures.allocates (is_same (to_z-of_z {w = w64} (search rules)) c.dual_of.ensures)
