-- Each unit's greatest output is where its last region ends; with the cost and net of that, the sums stay in range.
use Rattle.std.proofs.Common.{arith}
use Rattle.rules.specs.Lists.{greatest}
use Rattle.rules.proofs.Economics.Quantities.{cost-range, net-range}
use Rattle.evaluation.proofs.Offers.{greatest-held, greatest-small}
use Rattle.evaluation.proofs.Allocating.{offered, allocating_more, allocating_ends}
use Rattle.evaluation.proofs.totals.greatest_outputs.Goals as goal

pub overflow_add-cost : goal.overflow_add-cost
overflow_add-cost c =
    let o = offered _ c.requires.0 c.loop-i.invariant c.loop-i-test.true in
    omega (arith, c.loop-i.invariant.sized.cost, c.requires.0.holds.few, c.cost_of-cost.ensures _ o.unit, cost-range o.unit.sound (greatest-small o))

pub overflow_add-net : goal.overflow_add-net
overflow_add-net c =
    let o = offered _ c.requires.0 c.loop-i.invariant c.loop-i-test.true in
    omega (arith, c.loop-i.invariant.sized.net, c.requires.0.holds.few, c.net_of-net.ensures _ o.unit, net-range o.unit.sound (greatest-small o))

pub loop-i-preserved : goal.loop-i-preserved
loop-i-preserved c =
    let l = c.loop-i-test.true in
    let o = offered _ c.requires.0 c.loop-i.invariant l in
    allocating_more (λ o. greatest o.outputs) c.requires.0 c.loop-i.invariant l (greatest-small o) (λ q h. greatest-held (h.offers c.loop-i.i l)) c.cost_of-cost.ensures c.net_of-net.ensures

pub returns : goal.returns
returns c = allocating_ends _ c.requires.0 c.loop-i.invariant (omega (arith, c.loop-i.invariant.within, c.loop-i-test.false))
