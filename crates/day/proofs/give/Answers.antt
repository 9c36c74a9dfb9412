-- `day::give`: each history as the slot leaves it (`Histories`).
use Rattle.std.proofs.Common.{◌<◌, get_or, arith, sym, ap, ◌∙◌}
use Rattle.rules.proofs.Lists.{every-at}
use Rattle.rules.proofs.Encoding.Front.{front-none}
use Rattle.day.specs.declared.History.{History}
use Rattle.day.specs.Day.{history_after}
use Rattle.day.specs.Clauses.{none}
use Rattle.day.proofs.Histories.{front-next, front-each, front-all, after-each}
use Rattle.day.proofs.give.Goals as goal

pub loop-i-init : goal.loop-i-init
loop-i-init c = front-none c.args.histories.now

pub after-requires : goal.after-requires
after-requires c =
    rw (front-next _ c.loop-i.invariant c.loop-i-test.true) (every-at (λ (h : History). h.starts < 65535) c.args.histories.now c.loop-i.i none c.requires.1 c.loop-i-test.true)

pub loop-i-preserved : goal.loop-i-preserved
loop-i-preserved c =
    let before = front-next _ c.loop-i.invariant c.loop-i-test.true in
    front-each _ c.loop-i.invariant (c.after.ensures ∙ ap (λ (h : History). history_after h (get_or c.args.outputs.now c.loop-i.i 0)) before) c.loop-i-test.true

pub returns : goal.returns
returns c =
    front-all _ c.loop-i.invariant (omega arith) ∙ sym (after-each c.args.histories.now c.args.outputs.now (omega (arith, c.requires.0)))
