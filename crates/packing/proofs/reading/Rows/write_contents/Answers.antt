-- Each turn writes one entry behind those that stand there.
use Rattle.std.proofs.Common.{◌≡◌, ap, ◌∙◌, ◌+◌, ◌*◌, arith}
use Rattle.rules.specs.Layout.{contents_from}
use Rattle.rules.proofs.Encoding.Front.{front-none}
use Rattle.packing.specs.Clauses.{row_count, unit_in}
use Rattle.packing.proofs.Lengths.{size_of, few-zones, total-more}
use Rattle.packing.proofs.Written.{entry_next}
use Rattle.packing.proofs.reading.Rows.write_contents.Goals as goal

pub loop-i-init : goal.loop-i-init
unfolding contents_from
loop-i-init c = record { sum = omega arith; small = omega arith; front = front-none c.args.contents.now }

pub body_length-size-requires : goal.body_length-size-requires
body_length-size-requires c = few-zones c.requires.sound c.loop-i.i (omega arith) c.unit.ensures

pub loop-i-preserved : goal.loop-i-preserved
loop-i-preserved c =
    let l = c.loop-i in
    let e = c.args.self.edition in
    let units = unit_in c.args.self in
    let size = c.body_length-size in
    let is : size.result ≡ size_of e (units l.i) = size.ensures.0 ∙ ap (size_of e) c.unit.ensures in
    record {
      sum = omega (arith, total-more e units l.i);
      small = omega arith;
      front = entry_next e units (8 + 4 * row_count c.args.self) l.i l.offset size.result l.invariant.front c.write.ensures c.write-in-loop-i.ensures l.invariant.sum is;
    }
