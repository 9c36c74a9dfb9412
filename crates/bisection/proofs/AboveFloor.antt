-- The distance of a cost above a floor, in signed 64 bits.
use Prim.Native.Nat.{ℕ, ◌+◌, ◌-◌, ◌≤◌}
use native.Mathlib.Omega.{arith}
use mathlib.Core.Path.{◌≡◌, sym, ◌∙◌}
use lib.IntN.{ℤ, pos, nat_abs, ◌-ℤ◌}
use mir.Syntax.{w64}
use mir.Val.{SFits, to_z, of_z}
use mir.Facts.{to_z-of_z}
use Rattle.rules.specs.Numbers.{natural}
use Rattle.fields.specs.Integers.{positive_part, negative_part, Is}
use Rattle.fields.proofs.Integers.{itself, is_pos, is_minus, cast, kept, size_is, up_is, one-zero, ints}
use Rattle.rules.proofs.Economics.Quantities.{natural-up}
use Rattle.bisection.specs.Clauses.{Measurable}

module _ {cost : ℕ} {floor : ℤ} (s : Measurable cost floor) (fitted : SFits w64 floor) where
  abbrev computed : ℤ
  computed = to_z w64 cost -ℤ to_z w64 (of_z w64 floor)

  -- cost − floor, as it is computed; the floor lies between 0 and the cost
  between : (negative_part floor ≡ 0) × (positive_part floor ≤ cost)
  between = (omega (arith, ints, s.positive, is_pos 0, one-zero floor), omega (arith, ints, s.above, is_pos cost, s.positive, is_pos 0, one-zero floor))

  difference : Is computed (cost + 0) (0 + positive_part floor)
  difference =
      let read : Is (to_z w64 (of_z w64 floor)) (positive_part floor) 0 = record { is = rw (to_z-of_z {w = w64} fitted) (omega (arith, between)) } in
      is_minus (cast cost (omega (arith, s.range))) read

  again : Is (to_z w64 (of_z w64 computed)) (cost + 0) (0 + positive_part floor)
  again = kept difference (omega (arith, s.range)) (omega (arith, between, s.range))

  size : nat_abs (to_z w64 (of_z w64 computed)) ≡ cost - positive_part floor
  size = size_is again (omega (arith, between)) ∙ omega arith

  pub distance_is : nat_abs (to_z w64 (of_z w64 computed)) ≡ natural (pos cost -ℤ floor)
  distance_is = size ∙ sym (natural-up (pos cost -ℤ floor) ∙ up_is (is_minus (is_pos cost) (itself floor)) ∙ omega (arith, between))
