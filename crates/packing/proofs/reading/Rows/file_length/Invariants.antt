-- What the length is after some rows, and how great.
use Rattle.std.proofs.Common.{◌≡◌, ◌+◌, ◌*◌, ◌≤◌}
use Rattle.packing.specs.Clauses.{row_count, unit_in}
use Rattle.packing.proofs.Lengths.{total}
use Rattle.packing.proofs.reading.Rows.file_length.Given as goal

-- the bodies of the first i rows are added up
abbrev pub invariant-loop-i : goal.invariant-loop-i
invariant-loop-i l = record { sum : l.length ≡ 8 + 4 * row_count l.self + total l.self.edition (unit_in l.self) l.i; small : l.length ≤ 8 + 4 * row_count l.self + 46 * l.i }
