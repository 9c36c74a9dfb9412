-- The first refusal of a row is the first of all rows (`Each`).
use Rattle.std.proofs.Common.{ap, sym, ◌∙◌, arith}
use Rattle.std.proofs.lemmas.Result.{err_from_is_err_and}
use Rattle.rules.specs.Refusal.{unit_verdict}
use Rattle.rules.proofs.Each.{checked-ends, checked_refused, checked-more}
use Rattle.packing.proofs.reading.Rows.check.Goals as goal

pub returns-in_err-check_unit : goal.returns-in_err-check_unit
returns-in_err-check_unit c =
    let raised = err_from_is_err_and c.from_residual.result c.from_residual.ensures.1 in
    rw (raised.1, raised.2) (sym (checked_refused _ _ c.loop-i.i c.loop-i.invariant (omega arith) (sym (ap unit_verdict c.unit.ensures) ∙ sym c.in_err-check_unit.ensures)))

pub loop-i-preserved : goal.loop-i-preserved
loop-i-preserved c =
    let l = c.loop-i in
    checked-more _ _ l.i l.invariant (omega arith) (sym (ap unit_verdict c.unit.ensures) ∙ sym c.in_ok-check_unit.ensures)

pub returns : goal.returns
returns c = sym (checked-ends _ _ c.loop-i.i c.loop-i.invariant (omega arith))
