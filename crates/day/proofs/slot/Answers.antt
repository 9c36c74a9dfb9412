-- `day::slot`: what is made of the reply is the slot by its definition (`OneSlot`).
use Rattle.std.proofs.Common.{arith}
use Rattle.day.proofs.OneSlot.{refused-leaves, solved-leaves}
use Rattle.day.proofs.Folding.{units-few, started-few, one-cost}
use Rattle.day.proofs.slot.Goals as goal

pub give-requires : goal.give-requires
give-requires c = (units-few _ _ c.requires.0.sound, started-few c.requires.0)

pub returns-in-None : goal.returns-in-None
returns-in-None c = (refused-leaves _ _ _ c.in-None.ensures c.write_slot.ensures, omega arith)

pub returns-in-Some : goal.returns-in-Some
returns-in-Some c =
    let l = solved-leaves _ _ _ c.in-Some.ensures c.write_slot-in-Some.ensures c.give.ensures in (l, omega (arith, l.cost, one-cost c.requires.0))
