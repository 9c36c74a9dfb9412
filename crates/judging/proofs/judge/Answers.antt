-- `judging::judge` meets its contract: each return is one end of the definition (`Judgements`). The length of a slice is read by `length-take`, so that a list that is cut is answered by its length.
use Rattle.std.proofs.Common.{sym, ◌∙◌, arith, ℕ, length-take}
use Rattle.std.proofs.lemmas.Result.{err_from_is_err_and}
use Rattle.bisection.proofs.Starting.{solving}
use Rattle.judging.proofs.Outcomes.{units-counted, held}
use Rattle.judging.proofs.Judgements.{judged-refused, judged-count, judged-held}
use Rattle.judging.proofs.judge.Goals as goal

pub returns-in_err-cost : goal.returns-in_err-cost
returns-in_err-cost c =
    let raised = err_from_is_err_and c.from_residual.result c.from_residual.ensures.1 in
    rw (raised.1, raised.2) (sym (judged-refused _ _ c.in_err-cost.ensures))

pub returns-then-outputs-site : goal.returns-then-outputs-site
returns-then-outputs-site c =
    let first = c.in_ok-cost.ensures in
    sym (judged-count _ _ first.accepted (λ e. omega (arith, c.if-outputs-site.true, e, units-counted first.site)))

pub judge_outputs-requires : goal.judge_outputs-requires
judge_outputs-requires c = (solving c.in_ok-cost.ensures, omega (arith, length-take {A = ℕ}, c.if-outputs-site.false))

pub returns : goal.returns
returns c =
    let first = c.in_ok-cost.ensures in
    sym (judged-held _ _ first.accepted (c.if-outputs-site.false ∙ units-counted first.site) _ (held first _ _ c.judge_outputs.ensures))
