-- The choice in the unit's regions is the choice of every offer that the arrays hold there.
use Rattle.std.proofs.Common.{◌≡◌, ℕ, Bool, true, false, not, cond, eqb, refl, ap, ap₂, ◌∙◌}
use Rattle.std.specs.Int.{from_bool}
use Rattle.rules.specs.Unit.{cost, net}
use Rattle.evaluation.proofs.Offers.{choice-held}
use Rattle.sums.proofs.term_at.Goals as goal

counted : (alone : Bool) → from_bool (not alone) ≡ cond alone 0 1
counted true = refl
counted false = refl

pub returns : goal.returns
returns c o h =
    let both = choice-held h (c.curve_of.ensures.1 _ h.unit) c.choose-c.ensures.chosen in
    record {
      cost = c.cost_of.ensures _ h.unit ∙ ap (cost o.unit) both.0;
      net = c.net_of.ensures _ h.unit ∙ ap (net o.unit) both.0;
      ties = c.from.ensures ∙ counted _ ∙ ap₂ (λ (l r : ℕ). cond (eqb l r) 0 1) both.1 both.0;
    }
