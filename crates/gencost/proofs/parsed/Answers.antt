-- Word by word (`Reading`).
use Rattle.std.proofs.Common.{arith, ◌∙◌, sym}
use borrow.Author.Tests.{eqb-true, eqb-false}
use Rattle.gencost.proofs.Reading.{parsed-short, parsed-empty, parsed-blank, parsed-ends, parsed-no-head, parsed-no-square, parsed-no-linear, parsed-no-constant}
use Rattle.gencost.proofs.parsed.Goals as goal
use Rattle.gencost.proofs.parsed.Goals.{then-row-gt-LONGEST-via-then-row-gt-LONGEST, then-row-gt-LONGEST-via-else-row-gt-LONGEST+then-is_empty, then-row-gt-LONGEST-via-else-row-gt-LONGEST+else-is_empty+then-is_blank}

pub returns-then-row-gt-LONGEST : goal.returns-then-row-gt-LONGEST
returns-then-row-gt-LONGEST c =
    elim c.then-row-gt-LONGEST.branch [
      | then-row-gt-LONGEST-via-then-row-gt-LONGEST w ↦ parsed-short _ (omega arith)
      | then-row-gt-LONGEST-via-else-row-gt-LONGEST+then-is_empty w ↦ parsed-empty _ (eqb-true _ 0 (sym w.is_empty.ensures ∙ w.if-is_empty.true))
      | then-row-gt-LONGEST-via-else-row-gt-LONGEST+else-is_empty+then-is_blank w ↦ parsed-blank _ (eqb-false _ 0 (sym w.is_empty.ensures ∙ w.if-is_empty.false)) (sym w.is_blank.ensures ∙ w.if-is_blank.true)
    ]

pub returns-in_err-rest : goal.returns-in_err-rest
returns-in_err-rest c = rw c.from_residual.ensures (parsed-no-head _ c.in_err-rest.ensures.none)

pub returns-in_err-square : goal.returns-in_err-square
returns-in_err-square c = rw c.from_residual-in_err-square.ensures (parsed-no-square _ c.in_ok-rest.ensures.some c.in_err-square.ensures.none)

pub returns-in_err-linear : goal.returns-in_err-linear
returns-in_err-linear c = rw c.from_residual-in_err-linear.ensures (parsed-no-linear _ c.in_ok-rest.ensures.some c.in_ok-square.ensures.some c.in_err-linear.ensures.none)

pub returns-in_err-constant : goal.returns-in_err-constant
returns-in_err-constant c = rw c.from_residual-in_err-constant.ensures (parsed-no-constant _ c.in_ok-rest.ensures.some c.in_ok-square.ensures.some c.in_ok-linear.ensures.some c.in_err-constant.ensures.none)

pub returns : goal.returns
returns c =
    c.then_some.ensures
    ∙ parsed-ends _ c.in_ok-rest.ensures.some c.in_ok-square.ensures.some c.in_ok-linear.ensures.some c.in_ok-constant.ensures.some (omega arith) (eqb-false _ 0 (sym c.is_empty.ensures ∙ c.if-is_empty.false)) (sym c.is_blank.ensures ∙ c.if-is_blank.false) c.is_empty-2.ensures
