-- Each unit's choice in its regions is its offer's choice, and the least output that ties with it the offer's; with the cost and net of the choice, the sums stay in range.
use Rattle.std.proofs.Common.{◌≡◌, arith, ◌∙◌}
use Rattle.std.proofs.Math.Seq.{drop-set-lt}
use Rattle.rules.specs.Choice.{choice, least_tied}
use Rattle.rules.proofs.Economics.Quantities.{cost-range, net-range}
use Rattle.evaluation.proofs.Offers.{choice-held, choice-small}
use Rattle.evaluation.proofs.Allocating.{offered, allocating_more, allocating_ends, filling_more, filling_ends, ties-more}
use Rattle.evaluation.proofs.totals.evaluate.Goals as goal

pub overflow_add-cost : goal.overflow_add-cost
overflow_add-cost c =
    let a = c.loop-i.invariant.allocating in
    let o = offered _ c.requires.0.held a c.loop-i-test.true in
    omega (arith, a.sized.cost, c.requires.0.held.holds.few, c.cost_of-cost.ensures _ o.unit, cost-range o.unit.sound (choice-small o c.choose-c.ensures.chosen))

pub overflow_add-net : goal.overflow_add-net
overflow_add-net c =
    let a = c.loop-i.invariant.allocating in
    let o = offered _ c.requires.0.held a c.loop-i-test.true in
    omega (arith, a.sized.net, c.requires.0.held.holds.few, c.net_of-net.ensures _ o.unit, net-range o.unit.sound (choice-small o c.choose-c.ensures.chosen))

pub loop-i-preserved : goal.loop-i-preserved
loop-i-preserved c =
    let v = c.loop-i.invariant in
    let l = c.loop-i-test.true in
    let small = choice-small (offered _ c.requires.0.held v.allocating l) c.choose-c.ensures.chosen in
    record {
      allocating = allocating_more (choice c.args.m) c.requires.0.held v.allocating l small (λ q h. (choice-held (h.offers c.loop-i.i l) (c.curve_of.ensures.1 _ (h.offers c.loop-i.i l).unit) c.choose-c.ensures.chosen).0) c.cost_of-cost.ensures c.net_of-net.ensures;
      filling = filling_more (least_tied c.args.m) v.filling l (λ q h. (choice-held (h.offers c.loop-i.i l) (c.curve_of.ensures.1 _ (h.offers c.loop-i.i l).unit) c.choose-c.ensures.chosen).1);
      ties = rw c.from-ties.ensures (ties-more v.ties (omega (arith, v.allocating.room, l)) (omega (arith, v.filling.room, l)) c.choose-c.result.tied c.choose-c.ensures.alone);
      beyond = drop-set-lt c.args.site.now.count c.loop-i.outputs c.loop-i.i c.choose-c.result.greatest l ∙ v.beyond;
    }

pub returns : goal.returns
returns c =
    let v = c.loop-i.invariant in
    let all : c.loop-i.i ≡ c.args.site.now.count = omega (arith, v.allocating.within, c.loop-i-test.false) in
    record {
      allocates = allocating_ends (choice c.args.m) c.requires.0.held v.allocating all;
      tied = filling_ends (least_tied c.args.m) v.filling all;
      alone = rw all at v.ties.alone;
      beyond = v.beyond;
    }
