-- `answering::tell_asked` meets its contract: six numbers, and the outputs into the lent rest (`Telling`).
use Rattle.std.proofs.Common.{◌≡◌, refl, ◌∷◌, map, length, ap, ◌∙◌, pos, to_z, w16, w64, Fits, arith, rules}
use mathlib.Core.Path.{subst⁻¹}
use mir.Facts.{to_z_pos}
use Rattle.rules.specs.Lists.{over}
use Rattle.stepping.specs.declared.Asked.{Asked}
use Rattle.answering.specs.Answers.{numbers_asked}
use Rattle.answering.proofs.Telling.{Small, asked-small, six_then, state-told}
use Rattle.answering.proofs.tell_asked.Goals as goal

pub overflow_cast-told-3 : goal.overflow_cast-told-3
overflow_cast-told-3 c = let small = subst⁻¹ Small c.ask-told.ensures (asked-small c.args.run.now) in omega (arith, small.cost)

pub overflow_cast-told-4 : goal.overflow_cast-told-4
overflow_cast-told-4 c = let small = subst⁻¹ Small c.ask-told.ensures (asked-small c.args.run.now) in omega (arith, small.gap)

pub overflow_cast-told-5 : goal.overflow_cast-told-5
overflow_cast-told-5 c = let small = subst⁻¹ Small c.ask-told.ensures (asked-small c.args.run.now) in omega (arith, small.surplus)

pub returns : goal.returns
returns c =
    let r = c.ask-told.result in
    let answers = c.args.answers.now in
    let small = subst⁻¹ Small c.ask-told.ensures (asked-small c.args.run.now) in
    let count : Fits w16 r.count = search rules in
    let evaluations : Fits w16 r.evaluations = search rules in
    let outputs : length r.outputs ≡ 32 = search rules in
    let spelled : over (to_z w64 c.number_of_state.result ∷ to_z w64 r.count ∷ to_z w64 r.evaluations ∷ to_z w64 r.cost ∷ to_z w64 r.gap ∷ to_z w64 r.surplus ∷ map pos r.outputs) answers ≡ over (numbers_asked r) answers = rw (
      state-told r.state c.number_of_state.ensures,
      to_z_pos w64 {n = r.count} (omega (arith, count.fits)),
      to_z_pos w64 {n = r.evaluations} (omega (arith, evaluations.fits)),
      to_z_pos w64 {n = r.cost} (omega (arith, small.cost)),
      to_z_pos w64 {n = r.gap} (omega (arith, small.gap)),
      to_z_pos w64 {n = r.surplus} (omega (arith, small.surplus)),
    ) refl in
    rw c.copy_from_slice.ensures.after
    (six_then answers _ _ _ _ _ _ r.outputs _ outputs (rw c.copy_from_slice.ensures.after at c.write_outputs.ensures) ∙ spelled ∙ ap (λ (a : Asked). over (numbers_asked a) answers) c.ask-told.ensures)
