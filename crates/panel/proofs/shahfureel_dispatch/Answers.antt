-- `panel::shahfureel_dispatch`: the call on slices, told to C (`Answers`).
use Rattle.std.proofs.Common.{arith}
use Rattle.panel.proofs.Answers.{dispatch-told, replied-small}
use Rattle.panel.proofs.shahfureel_dispatch.Goals as goal

pub number_of-requires : goal.number_of-requires
number_of-requires c n e = omega (arith, replied-small _ _ c.dispatch.ensures.outcome e)

pub returns : goal.returns
returns c = dispatch-told _ _ c.dispatch.ensures.outcome c.number_of.ensures
