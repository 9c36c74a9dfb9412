-- What stands over the part after some bodies (`Front`), and where they end.
use Rattle.std.proofs.Common.{◌≡◌, ◌*◌, ◌≤◌}
use Rattle.rules.specs.Lists.{each}
use Rattle.rules.specs.Layout.{bodies_of}
use Rattle.rules.proofs.Encoding.Front.{Front}
use Rattle.packing.specs.Clauses.{unit_in}
use Rattle.packing.proofs.Lengths.{total}
use Rattle.packing.proofs.reading.Rows.write_bodies.Given as goal

-- the bodies of the first i rows are written
abbrev pub invariant-loop-i : goal.invariant-loop-i
invariant-loop-i l =
    record {
      sum : l.at ≡ total l.self.edition (unit_in l.self) l.i;
      small : l.at ≤ 46 * l.i;
      front : Front l.initial.part (bodies_of l.self.edition (each l.i (unit_in l.self))) l.part l.at;
    }
