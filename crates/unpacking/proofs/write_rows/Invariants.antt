-- What stands over the list after some rows (`Front`).
use Rattle.std.proofs.Common.{◌*◌}
use Rattle.rules.specs.Lists.{each}
use Rattle.rules.specs.Layout.{rows_of_units, unit_at}
use Rattle.rules.proofs.Encoding.Front.{Front}
use Rattle.unpacking.proofs.write_rows.Given as goal

-- the rows of the first i units are written
abbrev pub invariant-loop-i : goal.invariant-loop-i
invariant-loop-i l = Front l.initial.rows (rows_of_units (each l.i (unit_at l.file))) l.rows (19 * l.i)
