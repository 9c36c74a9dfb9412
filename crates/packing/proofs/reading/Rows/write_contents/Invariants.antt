-- What stands over the contents after some entries (`Front`), and where the next body begins.
use Rattle.std.proofs.Common.{◌≡◌, ◌+◌, ◌*◌, ◌≤◌}
use Rattle.rules.specs.Lists.{each}
use Rattle.rules.specs.Layout.{contents_from}
use Rattle.rules.proofs.Encoding.Front.{Front}
use Rattle.packing.specs.Clauses.{row_count, unit_in}
use Rattle.packing.proofs.Lengths.{total}
use Rattle.packing.proofs.reading.Rows.write_contents.Given as goal

-- the entries of the first i rows are written
abbrev pub invariant-loop-i : goal.invariant-loop-i
invariant-loop-i l =
    record {
      sum : l.offset ≡ 8 + 4 * row_count l.self + total l.self.edition (unit_in l.self) l.i;
      small : l.offset ≤ 8 + 4 * row_count l.self + 46 * l.i;
      front : Front l.initial.contents (contents_from l.self.edition (8 + 4 * row_count l.self) (each l.i (unit_in l.self))) l.contents (4 * l.i);
    }
