-- `day::solve_slot`: the units are decoded, and the problem that the arrays hold is solved (`Solving`).
use Rattle.day.proofs.Folding.{units-few}
use Rattle.day.proofs.Solving.{previous-given, undecoded, searchable, solved}
use Rattle.day.proofs.solve_slot.Goals as goal

pub previous_outputs-previous-requires : goal.previous_outputs-previous-requires
previous_outputs-previous-requires c = units-few _ _ c.requires.sound

pub decode_with-requires : goal.decode_with-requires
decode_with-requires c = previous-given c.requires c.previous_outputs-previous.ensures

pub returns-then-not-decode_with : goal.returns-then-not-decode_with
returns-then-not-decode_with c = undecoded c.requires c.previous_outputs-previous.ensures c.decode_with.ensures.0 c.if-not-decode_with.true

pub solve_held-requires : goal.solve_held-requires
solve_held-requires c =
    rw (c.decode_with.ensures.1, c.decode_with.ensures.2) (searchable c.requires c.previous_outputs-previous.ensures c.decode_with.ensures.0 c.if-not-decode_with.false)

pub returns : goal.returns
returns c =
    solved c.requires c.previous_outputs-previous.ensures c.decode_with.ensures.0 c.if-not-decode_with.false c.solve_held.result (rw (c.decode_with.ensures.1, c.decode_with.ensures.2) at c.solve_held.ensures)
