use Rattle.std.proofs.Common.{length, ap, ap₂, sym, ◌∙◌, arith}
use Rattle.std.proofs.lemmas.Result.{err_from_is_err_and}
use Rattle.rules.specs.Layout.{unit_of_body}
use Rattle.rules.specs.Refusal.{zone_count_invalid, unit_verdict, body_verdict}
use Rattle.rules.proofs.Sound.{sound}
use Rattle.rules.proofs.Encoding.SoundFile.{sound-head}
use Rattle.casefile.proofs.Contents.{body-inside, body-length}
use Rattle.casefile.proofs.Body.{body-fits, zone_count_fits}
use Rattle.site.proofs.UnitsWritten.{units-more}
use Rattle.site.proofs.Decodes.{decoding_more, decoding_refused, decoding_ends_unserved, decoding_ends}
use Rattle.site.proofs.decoding.decode_bodies.Goals as goal

pub body_of-body-requires : goal.body_of-body-requires
body_of-body-requires c = body-inside c.args.file.now c.requires.contents c.loop-i.i (omega (arith, c.requires.units))

pub body_fits-requires : goal.body_fits-requires
body_fits-requires c =
    let inside = body-inside c.args.file.now c.requires.contents c.loop-i.i (omega (arith, c.requires.units)) in
    omega (arith, ap length c.body_of-body.ensures, body-length inside, inside.long)

pub returns-then-not-body_fits : goal.returns-then-not-body_fits
returns-then-not-body_fits c =
    decoding_refused c.loop-i.invariant c.requires (omega arith) (sym (ap₂ body_verdict c.requires.edition c.body_of-body.ensures) ∙ c.body_fits.ensures.misfits c.if-not-body_fits.true)

pub check_numbers-requires : goal.check_numbers-requires
check_numbers-requires c = ap zone_count_invalid c.read_body-u.ensures ∙ zone_count_fits _ _ (c.body_fits.ensures.fits c.if-not-body_fits.false).zones

pub returns-in_err-check_numbers : goal.returns-in_err-check_numbers
returns-in_err-check_numbers c =
    let raised = err_from_is_err_and c.from_residual.result c.from_residual.ensures.1 in
    let told =
    sym (ap₂ body_verdict c.requires.edition c.body_of-body.ensures) ∙ body-fits _ _ (c.body_fits.ensures.fits c.if-not-body_fits.false)
    ∙ sym (ap unit_verdict c.read_body-u.ensures) ∙ sym c.in_err-check_numbers.ensures in
    rw (raised.1, raised.2) (decoding_refused c.loop-i.invariant c.requires (omega arith) told)

pub write_unit-permitted-requires : goal.write_unit-permitted-requires
write_unit-permitted-requires c =
    record {
      sound = sound _ (sym c.in_ok-check_numbers.ensures);
      place = omega (arith, c.requires.units, ((sound-head c.args.file.now).0 c.requires.head).count-greatest);
    }

pub loop-i-preserved : goal.loop-i-preserved
loop-i-preserved c =
    let accepted =
    sym (ap₂ body_verdict c.requires.edition c.body_of-body.ensures) ∙ body-fits _ _ (c.body_fits.ensures.fits c.if-not-body_fits.false)
    ∙ sym (ap unit_verdict c.read_body-u.ensures) ∙ sym c.in_ok-check_numbers.ensures in
    decoding_more c.loop-i.invariant (omega arith) accepted (units-more c.loop-i.invariant.written (c.read_body-u.ensures ∙ ap₂ unit_of_body c.requires.edition c.body_of-body.ensures) c.write_unit-permitted.ensures.0)

pub returns-then-not-permitted : goal.returns-then-not-permitted
returns-then-not-permitted c = decoding_ends_unserved c.loop-i.invariant c.requires (omega arith) c.if-not-permitted.true

pub read-requires : goal.read-requires
read-requires c = omega (arith, (sound-head c.args.file.now).0 c.requires.head)

pub returns : goal.returns
returns c = rw c.read.ensures (decoding_ends c.loop-i.invariant c.requires (omega arith) c.if-not-permitted.false)
