-- As many decimals as count, or fewer; more (`Placing`).
use mathlib.Core.Bool.{true}
use Rattle.std.proofs.Common.{◌≡◌}
use Rattle.gencost.specs.Row.{digit}
use Rattle.gencost.proofs.Numbers.{every_drop}
use Rattle.gencost.proofs.Placing.{placed-few, placed-more}
use Rattle.gencost.proofs.Scale.placed.Goals as goal

pub returns-then-decimals-self : goal.returns-then-decimals-self
returns-then-decimals-self c =
    let a = c.args in
    placed-few a.digits.now a.decimals.now a.self.places a.self.limit c.if-decimals-self.true c.number_after-ones.ensures.0 c.number_after-n.ensures.0 c.power_of_ten.ensures c.held-result.ensures

pub returns : goal.returns
returns c =
    let a = c.args in
    let past = every_drop (λ x. digit x ≡ true) a.self.places a.decimals.now c.requires.1 in
    placed-more a.digits.now a.decimals.now a.self.places a.self.limit c.if-decimals-self.false past c.number_after-ones.ensures.0 c.number_after-result.ensures.0 c.all_zeros.ensures
