-- `panel::write_unpacked`: the call on slices, told to C (`Answers`).
use Rattle.std.proofs.lemmas.Result.{err_from_is_err_and}
use Rattle.std.proofs.Common.{arith, ◌≡◌, pos, w64, to_z, refl}
use mir.Facts.{to_z_pos}
use Rattle.panel.proofs.Answers.{two-written, unpack_short, unpack_told}
use Rattle.panel.proofs.write_unpacked.Goals as goal

pub returns-then-answers-lt2 : goal.returns-then-answers-lt2
returns-then-answers-lt2 c = unpack_short _ _ _ c.if-answers-lt2.true refl

pub returns-in_err-demand : goal.returns-in_err-demand
returns-in_err-demand c =
    let raised = err_from_is_err_and c.from_residual.result c.from_residual.ensures.1 in
    rw (raised.1, raised.2) (unpack_told _ _ _ c.if-answers-lt2.false c.unpack.ensures c.in_err-demand.was refl refl)

pub returns : goal.returns
returns c =
    let demand : to_z w64 c.in_ok-demand.field-0.demand ≡ pos c.in_ok-demand.field-0.demand = to_z_pos w64 (omega arith) in
    let count : to_z w64 c.in_ok-demand.field-0.count ≡ pos c.in_ok-demand.field-0.count = to_z_pos w64 (omega arith) in
    unpack_told _ _ _ c.if-answers-lt2.false c.unpack.ensures c.in_ok-demand.was refl
    (rw (demand, count) (two-written c.args.answers.now _ _ c.if-answers-lt2.false))
