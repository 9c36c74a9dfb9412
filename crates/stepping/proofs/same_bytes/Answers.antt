-- `stepping::same_bytes` meets its contract: the loop counts the places that differ (`Comparing`).
use Rattle.std.proofs.Common.{◌≤◌, refl, sym, ap, ◌∙◌, Bool, true, false, not, eqb, length, get_or, arith}
use mir.Val.{bool_byte}
use lib.Seq.{length-take-le, get_or-take}
use Rattle.stepping.proofs.Comparing.{unequal_same, comparing_starts, comparing_more, comparing_ends}
use Rattle.stepping.proofs.same_bytes.Goals as goal

byte_small : (b : Bool) → bool_byte b ≤ 1
byte_small true = omega arith
byte_small false = omega arith

pub returns-then-file-length : goal.returns-then-file-length
returns-then-file-length c = sym (unequal_same _ _ (λ e. c.if-file-length.true (sym (ap length e) ∙ length-take-le c.args.length c.args.held.now c.requires)))

pub loop-i-init : goal.loop-i-init
loop-i-init c = comparing_starts _ _ (c.if-file-length.false ∙ sym (length-take-le c.args.length c.args.held.now c.requires))

pub overflow_add-different : goal.overflow_add-different
overflow_add-different c = omega (arith, c.loop-i.invariant.small, byte_small (not (eqb (get_or c.args.held.now c.loop-i.i 0) (get_or c.args.file.now c.loop-i.i 0))), c.loop-i-test.true, c.ranges.length)

pub loop-i-preserved : goal.loop-i-preserved
loop-i-preserved c =
    let held = c.args.held.now in
    let many = length-take-le c.args.length held c.requires in
    comparing_more _ _ (c.if-file-length.false ∙ sym many) c.loop-i.invariant _ _ (sym (get_or-take c.args.length held c.loop-i.i 0 c.loop-i-test.true)) refl (omega (arith, many, c.loop-i-test.true))

pub returns : goal.returns
returns c =
    let many = length-take-le c.args.length c.args.held.now c.requires in
    comparing_ends _ _ (c.if-file-length.false ∙ sym many) c.loop-i.invariant (omega (arith, many, c.loop-i-test.false))
