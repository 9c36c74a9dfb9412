-- `stepping::numbers::read` meets its contract: each number is that of its place.
use Rattle.std.proofs.Common.{◌≡◌, ℕ, ◌-◌, List, true, sym, ap, ◌∙◌}
use mathlib.Core.Path.{subst⁻¹}
use Rattle.stepping.specs.Runs.{run_in, outputs_fit}
use Rattle.stepping.proofs.Copying.{part-whole, part-long}
use Rattle.stepping.proofs.Fitting.{fitting}
use Rattle.stepping.proofs.numbers.read.Goals as goal

pub outputs_in-outputs-requires : goal.outputs_in-outputs-requires
outputs_in-outputs-requires c =
    let run = c.args.run.now in
    (part-long 9 run ∙ ap (λ (n : ℕ). n - 9) c.requires.0, subst⁻¹ (λ (l : List ℕ). outputs_fit l ≡ true) (part-whole 9 run) (fitting (run_in run) c.requires.1).outputs)

pub returns : goal.returns
returns c =
    let run = run_in c.args.run.now in
    λ i. record { started = sym (fitting run c.requires.1).started i; finished = run.finished; evaluations = run.evaluations; low = run.low; cost = run.cost; surplus = run.surplus; floor = run.floor; count = run.count; length = run.length; outputs = (c.outputs_in-outputs.ensures ∙ part-whole 9 c.args.run.now) i }
