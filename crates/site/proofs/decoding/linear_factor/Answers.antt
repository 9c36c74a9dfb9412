use Rattle.std.proofs.Common.{◌≡◌, ◌+◌, ◌≤◌, sym, ◌∙◌, arith, rules, pos, ◌-ℤ◌, to_z, of_z}
use Rattle.std.proofs.Math.Facts.{to_z-of_z}
use lib.IntN.{nat_abs}
use mir.Syntax.{w32, w64}
use mir.Val.{SFits}
use Rattle.fields.specs.Integers.{positive_part, negative_part, Is}
use Rattle.fields.proofs.Integers.{itself, is_pos, is_minus, up_is, fits, fits-up, fits_dn, size_is, widened, ints}
use Rattle.rules.specs.Unit.{Unit, linear_factor}
use Rattle.rules.specs.Sound.{Sound}
use Rattle.rules.proofs.Economics.Quantities.{natural-up}
use Rattle.unit.specs.UnitHeld.{unit_held}
use Rattle.site.proofs.decoding.linear_factor.Goals as goal

-- the difference fits, and is not negative
factor_is : (u : Unit) → Sound u → SFits w32 u.b1 → nat_abs (to_z w64 (of_z w64 (pos 100000000 -ℤ to_z w64 (of_z w64 (to_z w32 (of_z w32 u.b1)))))) ≡ linear_factor u
unfolding linear_factor
factor_is u s narrow =
    let difference : Is (pos 100000000 -ℤ u.b1) (100000000 + negative_part u.b1) (0 + positive_part u.b1) = is_minus (is_pos 100000000) (itself u.b1) in
    let below : positive_part u.b1 ≤ 10000000 + negative_part u.b1 = omega (arith, ints, s.losses.range.greatest, is_pos 10000000) in
    let whole : SFits w64 (pos 100000000 -ℤ u.b1) = fits difference (omega (arith, fits_dn narrow)) (omega (arith, fits-up narrow)) in
    rw (widened narrow, to_z-of_z {w = w64} whole)
    (size_is difference (omega (arith, below)) ∙ sym (natural-up (pos 100000000 -ℤ u.b1) ∙ up_is difference))

pub returns : goal.returns
returns c = factor_is (unit_held c.args.u) c.requires (search rules)
