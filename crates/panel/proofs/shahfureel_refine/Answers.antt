-- `panel::shahfureel_refine`: the call on slices, told to C (`Answers`).
use Rattle.std.proofs.Common.{arith}
use Rattle.panel.proofs.Answers.{refine-told, refined-small}
use Rattle.panel.proofs.shahfureel_refine.Goals as goal

pub number_of-requires : goal.number_of-requires
number_of-requires c n e = omega (arith, refined-small _ _ _ c.refine.ensures e)

pub returns : goal.returns
returns c = refine-told _ _ _ c.refine.ensures c.number_of.ensures
