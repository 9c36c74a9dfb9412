-- The forms that are numbers (`Scanning`).
use Rattle.std.proofs.Common.{arith, ◌∙◌, sym}
use Rattle.std.proofs.lemmas.Grind.{common_steps}
use Rattle.gencost.proofs.Grammar.{front, whole-digits}
use Rattle.gencost.proofs.Scanning.{digits-behind, scan-whole, scan-parted}
use Rattle.gencost.proofs.Scale.scan.Goals as goal

pub placed-requires : goal.placed-requires
placed-requires c = (whole-digits c.args.word.now c.leading_digits-point.ensures.value c.if-point-word.true, tt)

pub returns-then-point-word : goal.returns-then-point-word
returns-then-point-word c = scan-whole _ _ c.args.word.now c.leading_digits-point.ensures.value (λ z. omega arith) c.if-point-word.true c.placed.ensures

pub placed-requires-2 : goal.placed-requires-2
placed-requires-2 c =
    let w = c.args.word.now in
    (front w c.leading_digits-point.ensures.value, digits-behind w _ (sym c.all_digits.ensures ∙ c.if-not-all_digits.false))

pub returns : goal.returns
returns c =
    let n = c.leading_digits-point.ensures in
    scan-parted _ _ c.args.word.now n.value (λ z. omega arith) (omega (arith, n.within)) c.if-word-point-ne46.false (λ k. grind (arith, common_steps)) (sym c.all_digits.ensures ∙ c.if-not-all_digits.false) c.placed-2.ensures
