-- `stepping::advance` meets its contract: each return is one end of the definition (`Endings`). (Goals and facts named for a condition that an edit of must-fail changes are cited without that name.)
use Rattle.std.proofs.Common.{◌≡◌, true, length, take, sym, ap, ◌∙◌, arith, rules}
use Rattle.std.proofs.lemmas.Result.{err_from_is_err_and}
use mathlib.Core.Path.{subst⁻¹}
use Rattle.rules.specs.Problem.{problem_in}
use Rattle.bisection.proofs.Starting.{holding}
use Rattle.stepping.specs.Runs.{Run, run_in, begun, same, evaluated}
use Rattle.stepping.proofs.Fitting.{fitting}
use Rattle.stepping.proofs.Endings.{advance-unstarted, advance-changed, advance-refused, advance-finished, advance-made}
use Rattle.stepping.proofs.advance.Goals as goal

pub returns-then-not-is_begun : goal.returns-then-not-is_begun
returns-then-not-is_begun c = advance-unstarted _ _ _ (sym c.is_begun.ensures ∙ c.if-not-is_begun.true)

pub read-before-requires : goal.read-before-requires
read-before-requires c = (search rules, sym c.is_begun.ensures ∙ c.if-not-is_begun.false)

pub same_bytes-requires : goal.same_bytes-requires
same_bytes-requires c =
    let run = run_in c.args.run.now in
    let long : length c.args.held.now ≡ 1608 = search rules in
    omega (arith, ap (λ (r : Run). r.length) c.read-before.ensures, (fitting run (sym c.is_begun.ensures ∙ c.if-not-is_begun.false)).length)

pub returns-then-not-same_bytes : goal.returns-then-not-same_bytes
returns-then-not-same_bytes c =
    let compared = c.same_bytes.ensures ∙ ap (λ (r : Run). same (take r.length c.args.held.now) c.args.file.now) c.read-before.ensures in
    advance-changed _ _ _ (sym c.is_begun.ensures ∙ c.if-not-is_begun.false) (sym compared ∙ c.if-not-same_bytes.true)

pub returns-in_err-first_best : goal.returns-in_err-first_best
returns-in_err-first_best c =
    let compared = c.same_bytes.ensures ∙ ap (λ (r : Run). same (take r.length c.args.held.now) c.args.file.now) c.read-before.ensures in
    let raised = err_from_is_err_and c.from_residual.result c.from_residual.ensures.1 in
    rw (raised.1, raised.2) (advance-refused _ _ _ (sym c.is_begun.ensures ∙ c.if-not-is_begun.false) (sym compared ∙ c.if-not-same_bytes.false) _ c.in_err-first_best.ensures)

pub returns-then-before-eq1 : goal.returns-then-before-eq1
returns-then-before-eq1 c =
    let compared = c.same_bytes.ensures ∙ ap (λ (r : Run). same (take r.length c.args.held.now) c.args.file.now) c.read-before.ensures in
    advance-finished _ _ _ (sym c.is_begun.ensures ∙ c.if-not-is_begun.false) (sym compared ∙ c.if-not-same_bytes.false) c.in_ok-first_best.ensures.accepted
    (sym (ap (λ (r : Run). r.finished) c.read-before.ensures) ∙ c.if-before-eq1.true)

pub evaluate_next-after-requires : goal.evaluate_next-after-requires
evaluate_next-after-requires c =
    record {
      begins = subst⁻¹ (λ (r : Run). begun r ≡ true) c.read-before.ensures (sym c.is_begun.ensures ∙ c.if-not-is_begun.false);
      unfinished = c.if-before-eq1.false;
      searchable = record { problem = problem_in c.args.file.now; holds = holding c.in_ok-first_best.ensures };
    }

pub returns : goal.returns
returns c =
    let q = problem_in c.args.file.now in
    let compared = c.same_bytes.ensures ∙ ap (λ (r : Run). same (take r.length c.args.held.now) c.args.file.now) c.read-before.ensures in
    let next = c.evaluate_next-after.ensures.held q (holding c.in_ok-first_best.ensures) ∙ ap (evaluated q) c.read-before.ensures in
    rw c.state_of.ensures
    (advance-made _ _ _ (sym c.is_begun.ensures ∙ c.if-not-is_begun.false) (sym compared ∙ c.if-not-same_bytes.false) c.in_ok-first_best.ensures.accepted
    (λ e. c.if-before-eq1.false (ap (λ (r : Run). r.finished) c.read-before.ensures ∙ e)) next c.write.ensures)
