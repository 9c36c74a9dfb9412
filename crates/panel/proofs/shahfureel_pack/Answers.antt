-- `panel::shahfureel_pack`: the call on slices, told to C (`Answers`).
use Rattle.rules.specs.Calls.{panel_packed}
use Rattle.panel.proofs.Answers.{pack-told, packed-small}
use Rattle.panel.proofs.shahfureel_pack.Goals as goal

pub number_of-requires : goal.number_of-requires
number_of-requires c n e = packed-small 1 _ _ _ _ c.pack.ensures e

pub returns : goal.returns
unfolding panel_packed
returns c = pack-told _ c.pack.ensures c.number_of.ensures
