-- `panel::write_viewed`: the call on slices, told to C.
use Rattle.std.proofs.lemmas.Result.{err_from_is_err_and}
use Rattle.std.proofs.Common.{arith, ◌≡◌, pos, w64, to_z, refl}
use mir.Facts.{to_z_pos}
use Rattle.modbus.proofs.Answers.{answered-small, view_short, view_told}
use Rattle.answering.proofs.Telling.{one_written}
use Rattle.panel.proofs.Answers.{no-room, room}
use Rattle.panel.proofs.write_viewed.Goals as goal

pub returns-then-is_empty : goal.returns-then-is_empty
returns-then-is_empty c = view_short _ _ _ _ (no-room _ c.is_empty.ensures c.if-is_empty.true) refl

pub overflow_cast-lengths : goal.overflow_cast-lengths
overflow_cast-lengths c = omega (arith, answered-small _ _ _ c.view.ensures c.in_ok-length.was)

pub returns-in_err-length : goal.returns-in_err-length
returns-in_err-length c =
    let raised = err_from_is_err_and c.from_residual.result c.from_residual.ensures.1 in
    rw (raised.1, raised.2) (view_told _ _ _ _ (room _ c.is_empty.ensures c.if-is_empty.false) c.view.ensures c.in_err-length.was refl refl)

pub returns : goal.returns
returns c =
    let place = room _ c.is_empty.ensures c.if-is_empty.false in
    let e : to_z w64 c.in_ok-length.length ≡ pos c.in_ok-length.length = to_z_pos w64 (omega (arith, answered-small _ _ _ c.view.ensures c.in_ok-length.was)) in
    view_told _ _ _ _ place c.view.ensures c.in_ok-length.was refl (rw e (one_written c.args.lengths.now _ place))
