-- `day::set_first`: each history from the unit of its set (`Histories`).
use Rattle.std.proofs.Common.{arith, sym, ap, ◌∙◌}
use Rattle.rules.specs.Lists.{each}
use Rattle.rules.specs.Unit.{Unit}
use Rattle.rules.specs.Layout.{count, unit_at, case_of}
use Rattle.rules.proofs.Lists.{map_each}
use Rattle.rules.proofs.Encoding.SoundFile.{sound-file, unit_at_sound}
use Rattle.day.specs.declared.History.{History}
use Rattle.day.proofs.Histories.{front-each, front-all}
use Rattle.day.proofs.set_first.Goals as goal

pub overflow_cast-history : goal.overflow_cast-history
overflow_cast-history c =
    let u = unit_at_sound ((sound-file c.args.file.now).0 c.requires.accepted) c.loop-i.i (omega (arith, c.requires.units)) in
    let e = ap (λ (v : Unit). v.previous) c.read_unit.ensures in
    omega (arith, u.previous, e)

pub loop-i-preserved : goal.loop-i-preserved
loop-i-preserved c = front-each _ c.loop-i.invariant (ap (λ (v : Unit). record { previous = v.previous; starts = 0 }) c.read_unit.ensures) c.loop-i-test.true

abbrev first_of : Unit → History
first_of u = record { previous = u.previous; starts = 0 }

pub returns : goal.returns
unfolding case_of
returns c =
    front-all _ c.loop-i.invariant (omega arith)
    ∙ ap (λ (n : _). each n (λ i. first_of (unit_at c.args.file.now i))) c.requires.units
    ∙ sym (map_each first_of (count c.args.file.now) (unit_at c.args.file.now))
