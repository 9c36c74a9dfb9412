-- `panel::plan_day`: the call as C sees it, by whether its answer has a place (`Told`).
-- The length of a slice is read by `length-take`, so that a test of a part of the answers is answered by its length.
use Rattle.std.proofs.Common.{arith, ℤ}
use Rattle.std.proofs.lemmas.List.{length-take}
use Rattle.std.proofs.lemmas.Result.{err_from_is_err_and}
use Rattle.panel.proofs.Answers.{no-room, room}
use Rattle.panel.proofs.Told.{without_place, refused-told, total-told}
use Rattle.panel.proofs.plan_day.Goals as goal

pub returns-then-is_empty : goal.returns-then-is_empty
returns-then-is_empty c = without_place _ _ _ _ c.args.answers.now (omega (arith, length-take {A = ℤ}, no-room _ c.is_empty.ensures c.if-is_empty.true))

pub returns-in_err-total : goal.returns-in_err-total
returns-in_err-total c =
    let p = err_from_is_err_and c.from_residual.result c.from_residual.ensures.1 in
    rw (p.1, p.2) (refused-told _ _ _ _ c.args.answers.now (omega (arith, length-take {A = ℤ}, room _ c.is_empty.ensures c.if-is_empty.false)) c.day.ensures.0 c.in_err-total.was)

pub returns : goal.returns
returns c =
    total-told _ _ _ _ c.args.answers.now (omega (arith, length-take {A = ℤ}, room _ c.is_empty.ensures c.if-is_empty.false)) c.day.ensures.0 c.day.ensures.1 c.in_ok-total.was
