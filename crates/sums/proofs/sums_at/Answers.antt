-- With the terms of each unit the loop keeps what `Summing` says.
use Rattle.std.proofs.Common.{arith}
use Rattle.sums.proofs.Summed.{next-sized, summing_more}
use Rattle.sums.proofs.sums_at.Goals as goal

pub term_at-term-requires : goal.term_at-term-requires
term_at-term-requires c =
    let h = c.requires.held.holds in
    record { few = omega (arith, h.few, c.loop-i-test.true); multiplier = c.requires.multiplier; offer = _; holds = h.offers c.loop-i.i c.loop-i-test.true }

pub overflow_add-cost : goal.overflow_add-cost
overflow_add-cost c =
    let h = c.requires.held in
    omega (arith, h.holds.few, c.loop-i.invariant.sized.cost, (next-sized c.loop-i.invariant h c.loop-i-test.true c.term_at-term.ensures).cost)

pub overflow_add-net : goal.overflow_add-net
overflow_add-net c =
    let h = c.requires.held in
    omega (arith, h.holds.few, c.loop-i.invariant.sized.net, (next-sized c.loop-i.invariant h c.loop-i-test.true c.term_at-term.ensures).net)

pub overflow_add-ties : goal.overflow_add-ties
overflow_add-ties c =
    let h = c.requires.held in
    omega (arith, h.holds.few, c.loop-i.invariant.few, (next-sized c.loop-i.invariant h c.loop-i-test.true c.term_at-term.ensures).ties)

pub loop-i-preserved : goal.loop-i-preserved
loop-i-preserved c = summing_more c.loop-i.invariant c.requires.held c.loop-i-test.true c.term_at-term.ensures
