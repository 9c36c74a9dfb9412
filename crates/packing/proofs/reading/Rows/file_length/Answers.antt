-- The length so far and the length of the next body are the length with one body more.
use Rattle.std.proofs.Common.{ap, arith}
use Rattle.rules.specs.Unit.{Unit}
use Rattle.packing.specs.Clauses.{unit_in}
use Rattle.packing.proofs.Lengths.{few-zones, total-more}
use Rattle.packing.proofs.reading.Rows.file_length.Goals as goal

pub body_length-length-requires : goal.body_length-length-requires
body_length-length-requires c = few-zones c.requires c.loop-i.i (omega arith) c.unit.ensures

pub loop-i-preserved : goal.loop-i-preserved
loop-i-preserved c =
    record {
      sum = omega (arith, total-more c.args.self.edition (unit_in c.args.self) c.loop-i.i, ap (λ (u : Unit). u.zone_count) c.unit.ensures);
      small = omega arith;
    }
