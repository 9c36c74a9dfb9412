-- A row that is malformed, or what its numbers give (`Reading`).
use Rattle.std.proofs.Common.{◌∙◌, sym}
use Rattle.std.proofs.lemmas.Result.{err_from_is_err_and}
use Rattle.gencost.proofs.Reading.{read-refused, read-parsed}
use Rattle.gencost.proofs.read.Goals as goal

pub returns-in_err-numbers : goal.returns-in_err-numbers
returns-in_err-numbers c =
    let p = err_from_is_err_and c.from_residual.result c.from_residual.ensures.1 in
    rw (p.1, p.2) (read-refused _ c.parsed.result c.parsed.ensures c.in_err-numbers.ensures.ok_part c.in_err-numbers.ensures.value)

pub returns : goal.returns
returns c = c.judged.ensures ∙ read-parsed _ (sym c.in_ok-numbers.ensures.ok_part ∙ c.parsed.ensures)
