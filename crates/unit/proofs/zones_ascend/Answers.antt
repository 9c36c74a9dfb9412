-- Each exit is what the zones from number k on say, and a step takes the next of them.
use Rattle.std.proofs.Common.{sym, ◌∙◌, arith, inl, inr}
use mathlib.Core.Logic.{⊎_elim}
use Rattle.rules.specs.Unit.{zones}
use Rattle.unit.proofs.Zones.{ascend-ends, ascend_fails, ascend-more}
use Rattle.unit.proofs.zones_ascend.Goals as goal

pub returns-then-lower-below : goal.returns-then-lower-below
unfolding zones
returns-then-lower-below c =
    let u = c.args.u in
    sym (c.loop-k.invariant ∙ ascend_fails u.edges u.zone_count c.loop-k.below c.loop-k.k u.greatest (omega arith) (⊎_elim (λ w. inl (omega arith)) (λ w. inr (omega arith, omega arith)) c.then-lower-below.either))

pub returns : goal.returns
unfolding zones
returns c = let u = c.args.u in sym (c.loop-k.invariant ∙ ascend-ends u.edges u.zone_count c.loop-k.below c.loop-k.k u.greatest (omega arith))

pub loop-k-preserved : goal.loop-k-preserved
loop-k-preserved c =
    let u = c.args.u in c.loop-k.invariant ∙ ascend-more u.edges u.zone_count c.loop-k.below c.loop-k.k u.greatest (omega arith) c.if-lower-below.false c.if-upper-lower.false
