-- `panel::shahfureel_pack2`: the call on slices, told to C (`Answers`).
use Rattle.rules.specs.Calls.{panel_packed_2}
use Rattle.panel.proofs.Answers.{pack-told, packed-small}
use Rattle.panel.proofs.shahfureel_pack2.Goals as goal

pub number_of-requires : goal.number_of-requires
number_of-requires c n e = packed-small 2 _ _ _ _ c.pack2.ensures e

pub returns : goal.returns
unfolding panel_packed_2
returns c = pack-told _ c.pack2.ensures c.number_of.ensures
