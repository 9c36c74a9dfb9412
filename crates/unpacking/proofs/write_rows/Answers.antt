-- Each turn writes one row more over the list: the rows written and the next one are one list longer.
use Rattle.std.proofs.Common.{◌∙◌, ap, arith}
use Rattle.rules.specs.Layout.{row_of_unit, rows_of_units}
use Rattle.rules.proofs.Encoding.Front.{front-none}
use Rattle.unpacking.proofs.Rows.{rows_next}
use Rattle.unpacking.proofs.write_rows.Goals as goal

pub loop-i-init : goal.loop-i-init
unfolding rows_of_units
loop-i-init c = front-none c.args.rows.now

pub loop-i-preserved : goal.loop-i-preserved
loop-i-preserved c =
    rows_next c.args.file.now c.loop-i.i _ _ c.loop-i.invariant (c.copy_from_slice.ensures.after ∙ c.row_of-row.ensures ∙ ap row_of_unit c.read_unit.ensures) (omega arith)
