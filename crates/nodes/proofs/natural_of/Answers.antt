-- The greater of a number and 0 is its positive part.
use Rattle.std.proofs.Common.{◌≡◌, ℤ, pos, Bool, true, false, cond, w64, to_z, of_z, ap, refl, ◌∙◌, arith, rules}
use lib.IntN.{nat_abs}
use mir.Facts.{to_z-of_z}
use Rattle.std.specs.Prelude.{int_lt}
use Rattle.std.specs.Int.{int_max}
use Rattle.fields.specs.Integers.{positive_part, Is}
use Rattle.fields.proofs.Integers.{itself, is_pos, when_lt, when_ge, size_is, one-zero}
use Rattle.rules.proofs.Economics.Quantities.{natural-up}
use Rattle.nodes.proofs.natural_of.Goals as goal

greater : (z : ℤ) → Is (int_max z (pos 0)) (positive_part z) 0
greater z = by (int_lt (pos 0) z) refl
  where
    by : (b : Bool) → int_lt (pos 0) z ≡ b → Is (cond b z (pos 0)) (positive_part z) 0
    by true e = record { is = omega (arith, when_lt (is_pos 0) (itself z) e, one-zero z) }
    by false e = record { is = omega (arith, when_ge (is_pos 0) (itself z) e, one-zero z, (is_pos 0).is) }

pub returns : goal.returns
returns c =
    let z = c.args.z in
    let given : to_z w64 (of_z w64 z) ≡ z = to_z-of_z {w = w64} c.ranges.z in
    let kept : to_z w64 (of_z w64 c.max.result) ≡ c.max.result = to_z-of_z {w = w64} (search rules) in
    let value : c.max.result ≡ int_max z (pos 0) = cc (c.max.ensures.value, given) in
    ap nat_abs (kept ∙ value) ∙ size_is (greater z) (omega arith) ∙ omega (arith, natural-up z)
