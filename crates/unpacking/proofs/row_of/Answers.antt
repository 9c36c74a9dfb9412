-- The eleven numbers and the eight edges, copied one behind the other, are the row.
use Rattle.std.proofs.Common.{append-nil}
use Rattle.rules.specs.Layout.{row_of_unit}
use Rattle.unpacking.proofs.row_of.Goals as goal

pub returns : goal.returns
unfolding row_of_unit
returns c = rw (c.copy_from_slice.ensures.after, c.copy_from_slice-2.ensures.after, append-nil)
