-- The dual value of sums of choices is the problem's.
use Rattle.std.proofs.Common.{◌≡◌, ℤ, w64, to_z, of_z, ap, ◌∙◌, rules}
use mir.Facts.{to_z-of_z}
use Rattle.rules.specs.Numbers.{divided_up}
use Rattle.rules.specs.Choice.{floor}
use Rattle.nodes.proofs.TwoMultipliers.{dual_summed}
use Rattle.nodes.proofs.floor_at.Goals as goal

pub returns : goal.returns
unfolding floor
returns c q h e =
    let kept : to_z w64 (of_z w64 c.dual_of.result) ≡ c.dual_of.result = to_z-of_z {w = w64} (search rules) in
    let read : to_z w64 (of_z w64 c.floor_of.result) ≡ c.floor_of.result = to_z-of_z {w = w64} (search rules) in
    read ∙ c.floor_of.ensures ∙ ap (λ (z : ℤ). divided_up z 100000) (kept ∙ dual_summed c.args.m q h e c.dual_of.ensures)
