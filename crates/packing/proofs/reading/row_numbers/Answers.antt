-- The numbers taken apart and the edges copied are the unit of the row.
use Rattle.std.proofs.Math.Facts.{to_z-of_z}
use mir.Syntax.{w32}
use Rattle.rules.specs.Unit.{with_loss}
use Rattle.rules.specs.Layout.{unit_of_row}
use Rattle.packing.proofs.reading.row_numbers.Goals as goal

pub returns : goal.returns
unfolding unit_of_row with_loss
returns c = rw (to_z-of_z {w = w32} c.ranges.b1, c.copy_from_slice.ensures.after)
