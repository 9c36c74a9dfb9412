-- The greater of two floors, as an unsigned number.
use Rattle.std.proofs.Common.{◌≡◌, ◌+◌, ℤ, w64, to_z, of_z, ap, ◌∙◌, rules}
use mathlib.Core.Path.{ap₂}
use mir.Facts.{to_z-of_z}
use Rattle.std.specs.Int.{int_max}
use Rattle.rules.specs.Numbers.{natural}
use Rattle.rules.specs.Choice.{floor}
use Rattle.nodes.proofs.TwoMultipliers.{natural-greater}
use Rattle.nodes.proofs.known_floor.Goals as goal

pub returns : goal.returns
returns c q h e =
    let m = c.args.x.multiplier in
    let low : to_z w64 (of_z w64 c.floor_at-lower.result) ≡ floor m q = to_z-of_z {w = w64} (search rules) ∙ c.floor_at-lower.ensures q h.low e in
    let high : to_z w64 (of_z w64 c.floor_at.result) ≡ floor (m + 1) q = to_z-of_z {w = w64} (search rules) ∙ c.floor_at.ensures q h.high e in
    let both : to_z w64 (of_z w64 c.max.result) ≡ int_max (floor m q) (floor (m + 1) q) = to_z-of_z {w = w64} (search rules) ∙ c.max.ensures.value ∙ ap₂ (λ (u v : ℤ). int_max u v) low high in
    c.natural_of.ensures ∙ ap natural both ∙ natural-greater (floor m q) (floor (m + 1) q)
