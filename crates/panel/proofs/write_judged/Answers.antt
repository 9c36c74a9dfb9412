-- `panel::write_judged`: the call on slices, told to C (`Answers`).
use Rattle.std.proofs.lemmas.Result.{err_from_is_err_and}
use Rattle.std.proofs.Common.{arith, refl, sym, ◌∙◌}
use Rattle.panel.proofs.Answers.{judge-told, judgement-small}
use Rattle.panel.proofs.write_judged.Goals as goal

pub write_judgement-requires : goal.write_judgement-requires
write_judgement-requires c = record { room = omega arith; small = judgement-small _ _ c.in_ok-judgement.judgement (sym c.judge.ensures ∙ c.in_ok-judgement.was) }

pub returns-in_err-judgement : goal.returns-in_err-judgement
returns-in_err-judgement c =
    let raised = err_from_is_err_and c.from_residual.result c.from_residual.ensures.1 in
    rw (raised.1, raised.2) (judge-told _ _ _ (omega arith) c.judge.ensures c.in_err-judgement.was refl refl)

pub returns : goal.returns
returns c = judge-told _ _ _ (omega arith) c.judge.ensures c.in_ok-judgement.was refl c.write_judgement.ensures
