-- Each turn writes one body behind those that stand there.
use Rattle.std.proofs.Common.{◌≡◌, ap, ◌∙◌, arith, length-take, length-drop}
use Rattle.rules.specs.Lists.{over}
use Rattle.rules.specs.Unit.{Unit}
use Rattle.rules.specs.Layout.{body_of_unit, bodies_of}
use Rattle.rules.proofs.Encoding.Front.{lent, front-none}
use Rattle.packing.specs.Clauses.{row_count, unit_in}
use Rattle.packing.proofs.Lengths.{size_of, few-zones, total-more, total_until}
use Rattle.packing.proofs.Written.{body-next}
use Rattle.packing.proofs.reading.Rows.write_bodies.Goals as goal

pub loop-i-init : goal.loop-i-init
unfolding bodies_of
loop-i-init c = record { sum = omega arith; small = omega arith; front = front-none c.args.part.now }

pub write_body-requires-clause-u_in_bounds : goal.write_body-requires-clause-u_in_bounds
write_body-requires-clause-u_in_bounds c =
    let a = c.args in
    simp (length-take, length-drop) (omega (arith, total_until a.self.edition (unit_in a.self) c.loop-i.i (row_count a.self) (omega arith), ap (λ (u : Unit). u.zone_count) c.unit-u.ensures))

pub body_length-at-requires : goal.body_length-at-requires
body_length-at-requires c = few-zones c.requires.sound c.loop-i.i (omega arith) c.unit-u.ensures

pub loop-i-preserved : goal.loop-i-preserved
loop-i-preserved c =
    let l = c.loop-i in
    let e = c.args.self.edition in
    let units = unit_in c.args.self in
    let row = c.unit-u.ensures in
    let size : c.body_length-at.result ≡ size_of e (units l.i) = c.body_length-at.ensures.0 ∙ ap (size_of e) row in
    record {
      sum = omega (arith, total-more e units l.i);
      small = omega arith;
      front = rw (← size) at (body-next c.requires.sound l.i (omega arith) c.write_body.new.part l.invariant.front (c.write_body.ensures ∙ ap (λ (u : Unit). over (body_of_unit e u) (lent l.at l.part)) row));
    }
