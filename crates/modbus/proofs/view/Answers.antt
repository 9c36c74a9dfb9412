-- The three refusals in their order, then the answer (`Answers`).
use Rattle.std.proofs.Common.{◌∙◌, sym}
use Rattle.modbus.proofs.Answers.{reply-refused, request_refused, answer-refused, answered}
use Rattle.modbus.proofs.view.Goals as goal

pub returns-then-reply_malformed : goal.returns-then-reply_malformed
returns-then-reply_malformed c = reply-refused _ _ _ (sym c.reply_malformed.ensures ∙ c.if-reply_malformed.true)

pub returns-then-request-ne5 : goal.returns-then-request-ne5
returns-then-request-ne5 c = request_refused _ _ _ (sym c.reply_malformed.ensures ∙ c.if-reply_malformed.false) c.if-request-ne5.true

pub returns-then-answer-lt252 : goal.returns-then-answer-lt252
returns-then-answer-lt252 c = answer-refused _ _ _ (sym c.reply_malformed.ensures ∙ c.if-reply_malformed.false) c.if-request-ne5.false c.if-answer-lt252.true

pub returns : goal.returns
returns c = answered _ _ _ (sym c.reply_malformed.ensures ∙ c.if-reply_malformed.false) c.if-request-ne5.false c.if-answer-lt252.false c.read_request.ensures c.write_answer.ensures
