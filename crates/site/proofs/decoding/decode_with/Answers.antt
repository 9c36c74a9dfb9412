use Rattle.std.proofs.Common.{◌≡◌, refl, ap₂, ◌∙◌, arith, rules}
use Rattle.rules.specs.Unit.{with_previous}
use Rattle.rules.proofs.Sound.{sound-previous}
use Rattle.rules.proofs.Encoding.SoundFile.{sound-file, unit_at_sound}
use Rattle.unit.specs.UnitHeld.{unit_held}
use Rattle.site.specs.Clauses.{unit_with}
use Rattle.site.proofs.UnitsWritten.{units-more, decoded}
use Rattle.site.proofs.decoding.decode_with.Goals as goal

pub offset_bounds-previous-i : goal.offset_bounds-previous-i
offset_bounds-previous-i c = omega (arith, c.requires.units, ((sound-file c.args.file.now).0 c.requires.accepted).head.count-greatest)

pub bounds-previous-i : goal.bounds-previous-i
bounds-previous-i c = omega (arith, c.requires.units, ((sound-file c.args.file.now).0 c.requires.accepted).head.count-greatest)

pub write_unit-all_permitted-requires : goal.write_unit-all_permitted-requires
write_unit-all_permitted-requires c =
    let file = (sound-file c.args.file.now).0 c.requires.accepted in
    let held : unit_held c.with_previous-u.result ≡ unit_with c.args.file.now c.args.previous.now c.loop-i.i = c.with_previous-u.ensures ∙ ap₂ with_previous c.read_unit.ensures refl in
    record {
      sound = rw held (sound-previous _ _ (unit_at_sound file c.loop-i.i (omega (arith, c.requires.units))) (c.requires.small c.loop-i.i (omega arith)));
      place = omega (arith, c.requires.units, file.head.count-greatest);
    }

pub loop-i-preserved : goal.loop-i-preserved
loop-i-preserved c = units-more c.loop-i.invariant (c.with_previous-u.ensures ∙ ap₂ with_previous c.read_unit.ensures refl) c.write_unit-all_permitted.ensures.0

pub returns : goal.returns
returns c =
    let e : c.args.n ≡ c.loop-i.i = omega arith in
    (decoded (rw e c.loop-i.invariant) (omega (arith, c.requires.units, ((sound-file c.args.file.now).0 c.requires.accepted).head.count-greatest)), search rules, search rules)
