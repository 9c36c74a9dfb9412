-- `judging::sum_outputs` meets its contract: each output more is summed as `Totalling` says, and one outside its unit's regions is not permitted.
use Rattle.std.proofs.Common.{arith}
use Rattle.judging.proofs.Summing.{not-given, cost_more, net_more, totalling_more, totalling_ends}
use Rattle.judging.proofs.sum_outputs.Goals as goal

pub returns-then-not-lies_within : goal.returns-then-not-lies_within
returns-then-not-lies_within c =
    not-given c.requires c.loop-i.invariant (omega (arith, c.loop-i-test.true, c.requires.each)) (rw (c.from-first.ensures, c.from-last.ensures) at (c.lies_within.ensures.outside c.if-not-lies_within.true))

pub overflow_add-cost : goal.overflow_add-cost
overflow_add-cost c =
    let inside = rw (c.from-first.ensures, c.from-last.ensures) at (c.lies_within.ensures.inside c.if-not-lies_within.false) in
    omega (arith, c.requires.held.holds.few, cost_more c.requires c.loop-i.invariant (omega (arith, c.loop-i-test.true, c.requires.each)) inside c.cost_of-cost.ensures)

pub overflow_add-net : goal.overflow_add-net
overflow_add-net c =
    let inside = rw (c.from-first.ensures, c.from-last.ensures) at (c.lies_within.ensures.inside c.if-not-lies_within.false) in
    omega (arith, c.requires.held.holds.few, net_more c.requires c.loop-i.invariant (omega (arith, c.loop-i-test.true, c.requires.each)) inside c.cost_of-cost.ensures c.net_of-net.ensures)

pub loop-i-preserved : goal.loop-i-preserved
loop-i-preserved c =
    let inside = rw (c.from-first.ensures, c.from-last.ensures) at (c.lies_within.ensures.inside c.if-not-lies_within.false) in
    totalling_more c.requires c.loop-i.invariant (omega (arith, c.loop-i-test.true, c.requires.each)) inside c.cost_of-cost.ensures c.net_of-net.ensures

pub returns : goal.returns
returns c = totalling_ends c.requires c.loop-i.invariant (omega (arith, c.loop-i.invariant.within, c.loop-i-test.false, c.requires.each))
