-- `panel::write_floored`: the call on slices, told to C.
use Rattle.std.proofs.lemmas.Result.{err_from_is_err_and}
use Rattle.std.proofs.Common.{arith, ◌≡◌, pos, w64, to_z, refl}
use mir.Facts.{to_z_pos}
use Rattle.sensitivity.proofs.Outcomes.{written-few, floors-short, floors-told}
use Rattle.answering.proofs.Telling.{one_written}
use Rattle.panel.proofs.Answers.{no-room, room}
use Rattle.panel.proofs.write_floored.Goals as goal

pub returns-then-is_empty : goal.returns-then-is_empty
returns-then-is_empty c = floors-short _ _ _ _ (no-room c.args.answers.now c.is_empty.ensures c.if-is_empty.true) refl

pub overflow_cast-answers : goal.overflow_cast-answers
overflow_cast-answers c = omega (arith, written-few _ _ _ c.floors.ensures c.in_ok-count.was)

pub returns-in_err-count : goal.returns-in_err-count
returns-in_err-count c =
    let raised = err_from_is_err_and c.from_residual.result c.from_residual.ensures.1 in
    rw (raised.1, raised.2) (floors-told _ _ _ _ (room _ c.is_empty.ensures c.if-is_empty.false) c.floors.ensures c.in_err-count.was refl refl)

pub returns : goal.returns
returns c =
    let place = room _ c.is_empty.ensures c.if-is_empty.false in
    let e : to_z w64 c.in_ok-count.count ≡ pos c.in_ok-count.count = to_z_pos w64 (omega (arith, written-few _ _ _ c.floors.ensures c.in_ok-count.was)) in
    floors-told _ _ _ _ place c.floors.ensures c.in_ok-count.was refl (rw e (one_written c.args.answers.now _ place))
