-- The quotient is rounded toward 0, so up for what is not above 0, and one more than the quotient of x − 1 for what is.
use Rattle.std.proofs.Common.{arith}
use Rattle.fields.proofs.Integers.{back, is_pos, is_minus, is_add, is_quot, kept, same, one-zero, fits-up, fits_dn, when_le, when_gt}
use Rattle.evaluation.proofs.Floor.{floor-is}
use Rattle.evaluation.proofs.totals.floor_of.Goals as goal

pub returns-then-dual-le0 : goal.returns-then-dual-le0
returns-then-dual-le0 c =
    let z = c.args.dual in
    let f = c.ranges.dual in
    let below = when_le (back f) (is_pos 0) c.if-dual-le0.true in
    let q = kept (is_quot (back f) 100000) (omega (arith, fits-up f)) (omega (arith, fits_dn f)) in
    same q (floor-is z) (omega (arith, below, one-zero z))

pub returns-else-dual-le0 : goal.returns-else-dual-le0
returns-else-dual-le0 c =
    let z = c.args.dual in
    let f = c.ranges.dual in
    let above = when_gt (back f) (is_pos 0) c.if-dual-le0.false in
    let less = kept (is_minus (back f) (is_pos 1)) (omega (arith, fits-up f)) (omega (arith, above)) in
    let q = kept (is_quot less 100000) (omega (arith, fits-up f)) (omega (arith, above)) in
    let r = kept (is_add q (is_pos 1)) (omega (arith, fits-up f)) (omega (arith, above)) in
    same r (floor-is z) (omega (arith, above, one-zero z))
