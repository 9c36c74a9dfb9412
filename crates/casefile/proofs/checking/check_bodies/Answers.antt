-- `casefile::checking::check_bodies` meets its contract.
use Rattle.std.proofs.Common.{arith, ap, ap₂, sym, ◌∙◌, length}
use Rattle.std.proofs.lemmas.Result.{err_from_is_err_and}
use Rattle.rules.specs.Refusal.{body_verdict}
use Rattle.casefile.proofs.Contents.{body-length, body-inside}
use Rattle.rules.proofs.Each.{checked-starts, checked-ends, checked_refused, checked-more}
use Rattle.casefile.proofs.Body.{verdict_at}
use Rattle.casefile.proofs.checking.check_bodies.Goals as goal

pub loop-i-init : goal.loop-i-init
loop-i-init c = (c.read-edition.ensures, checked-starts _ _)

pub body_of-requires : goal.body_of-requires
body_of-requires c = body-inside c.args.file.now c.requires.file_value c.loop-i.i (omega (arith, c.requires.head_read.units))

pub check_body-requires : goal.check_body-requires
check_body-requires c =
    let inside = body-inside c.args.file.now c.requires.file_value c.loop-i.i (omega (arith, c.requires.head_read.units)) in
    omega (arith, ap length c.body_of.ensures, body-length inside, inside.long)

pub returns-in_err-check_body : goal.returns-in_err-check_body
returns-in_err-check_body c =
    let told = err_from_is_err_and c.from_residual.result c.from_residual.ensures.1 in
    let checked = sym (ap₂ body_verdict c.loop-i.invariant.0 c.body_of.ensures) ∙ sym c.in_err-check_body.ensures in
    rw (told.1, told.2) (sym (checked_refused c.args.n (verdict_at c.args.file.now) c.loop-i.i c.loop-i.invariant.1 (omega arith) checked))

pub loop-i-preserved : goal.loop-i-preserved
loop-i-preserved c = (c.loop-i.invariant.0, checked-more c.args.n (verdict_at c.args.file.now) c.loop-i.i c.loop-i.invariant.1 (omega arith) (sym (ap₂ body_verdict c.loop-i.invariant.0 c.body_of.ensures) ∙ sym c.in_ok-check_body.ensures))

pub returns : goal.returns
returns c = sym (checked-ends c.args.n (verdict_at c.args.file.now) c.loop-i.i c.loop-i.invariant.1 (omega arith))
