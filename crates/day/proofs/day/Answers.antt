-- `day::day`: what the call opens with (`Opens`) is what the slots ask, and what is made of them is the call by its definition.
use Rattle.std.proofs.Common.{arith, sym, ◌∙◌}
use Rattle.std.proofs.lemmas.Result.{err_from_is_err_and}
use lib.Seq.{length-take-le}
use Rattle.day.proofs.Opens.{refused-day, units, enough, lent, ready, is-day}
use Rattle.day.proofs.day.Goals as goal

pub returns-in_err-n : goal.returns-in_err-n
returns-in_err-n c =
    let p = err_from_is_err_and c.from_residual.result c.from_residual.ensures.1 in
    rw (p.1, p.2) (refused-day _ _ c.args.trace.now c.args.histories.now (sym c.begin.ensures ∙ c.in_err-n.was), omega arith)

pub slice_bounds-sets-end : goal.slice_bounds-sets-end
slice_bounds-sets-end c = let few = enough _ _ c.args.trace.now c.args.histories.now (sym c.begin.ensures ∙ c.in_ok-n.was) in omega (arith, few.0, few.1)

pub slice_bounds-sets-end-2 : goal.slice_bounds-sets-end-2
slice_bounds-sets-end-2 c =
    let few = enough _ _ c.args.trace.now c.args.histories.now (sym c.begin.ensures ∙ c.in_ok-n.was) in sym (length-take-le _ c.args.histories.now (omega (arith, few.0, few.1)))

pub set_first-requires : goal.set_first-requires
set_first-requires c =
    let opened = sym c.begin.ensures ∙ c.in_ok-n.was in rw (lent _ _ c.args.trace.now c.args.histories.now opened) (units _ _ c.args.trace.now c.args.histories.now opened)

pub slots-requires : goal.slots-requires
slots-requires c =
    let opened = sym c.begin.ensures ∙ c.in_ok-n.was in
    ready _ _ c.args.trace.now c.args.histories.now opened (omega (arith, lent _ _ c.args.trace.now c.args.histories.now opened)) c.set_first.ensures

pub returns : goal.returns
returns c =
    let opened = sym c.begin.ensures ∙ c.in_ok-n.was in (
      is-day _ _ c.args.trace.now c.args.histories.now opened c.set_first.ensures c.slots.ensures.0 (omega (arith, lent _ _ c.args.trace.now c.args.histories.now opened)),
      c.slots.ensures.1,
    )
