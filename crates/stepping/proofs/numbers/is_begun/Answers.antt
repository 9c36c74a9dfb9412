-- `stepping::numbers::is_begun` meets its contract: its tests one after the other are those of the definition (`Fitting`).
use Rattle.std.proofs.Common.{◌≡◌, ap, sym, ◌∙◌, Bool, ◌&&◌, eqb}
use borrow.Author.Tests.{eq-eqb, ne_eqb}
use Rattle.stepping.specs.Runs.{run_in, stage_fits, amounts_fit, outputs_fit}
use Rattle.stepping.proofs.Fitting.{begun-tested}
use Rattle.stepping.proofs.Copying.{part-whole}
use Rattle.stepping.proofs.numbers.is_begun.Goals as goal
use Rattle.stepping.proofs.numbers.is_begun.Goals.{then-run-eq1, else-run-eq1, then-stage_fits, else-stage_fits}

pub returns-then-amounts_fit : goal.returns-then-amounts_fit
returns-then-amounts_fit c =
    let run = run_in c.args.run.now in
    let staged : c.if-run-eq1.value ≡ (eqb run.started 1 && stage_fits run.finished run.evaluations run.low) = elim c.if-run-eq1.branch [
      | then-run-eq1 w ↦ rw (eq-eqb run.started 1 w.if-run-eq1.true) (w.value-is ∙ w.stage_fits.ensures)
      | else-run-eq1 w ↦ rw (ne_eqb run.started 1 w.if-run-eq1.false) (w.value-is ∙ ne_eqb run.started 1 w.if-run-eq1.false)
    ] in
    let ranged : c.if-stage_fits.value ≡ (c.if-run-eq1.value && amounts_fit run.cost run.surplus run.floor run.count run.length) = elim c.if-stage_fits.branch [
      | then-stage_fits w ↦ rw w.if-stage_fits.true (w.value-is ∙ w.amounts_fit.ensures)
      | else-stage_fits w ↦ rw w.if-stage_fits.false (w.value-is ∙ w.if-stage_fits.false)
    ] in
    c.outputs_fit.ensures ∙ ap outputs_fit (part-whole 9 c.args.run.now) ∙ sym (begun-tested run staged ranged ∙ ap (λ (t : Bool). t && outputs_fit run.outputs) c.if-amounts_fit.true)

pub returns-else-amounts_fit : goal.returns-else-amounts_fit
returns-else-amounts_fit c =
    let run = run_in c.args.run.now in
    let staged : c.if-run-eq1.value ≡ (eqb run.started 1 && stage_fits run.finished run.evaluations run.low) = elim c.if-run-eq1.branch [
      | then-run-eq1 w ↦ rw (eq-eqb run.started 1 w.if-run-eq1.true) (w.value-is ∙ w.stage_fits.ensures)
      | else-run-eq1 w ↦ rw (ne_eqb run.started 1 w.if-run-eq1.false) (w.value-is ∙ ne_eqb run.started 1 w.if-run-eq1.false)
    ] in
    let ranged : c.if-stage_fits.value ≡ (c.if-run-eq1.value && amounts_fit run.cost run.surplus run.floor run.count run.length) = elim c.if-stage_fits.branch [
      | then-stage_fits w ↦ rw w.if-stage_fits.true (w.value-is ∙ w.amounts_fit.ensures)
      | else-stage_fits w ↦ rw w.if-stage_fits.false (w.value-is ∙ w.if-stage_fits.false)
    ] in
    c.if-amounts_fit.false ∙ sym (begun-tested run staged ranged ∙ ap (λ (t : Bool). t && outputs_fit run.outputs) c.if-amounts_fit.false)
