-- `day::give`: the first i histories are those after the slot.
use Rattle.std.proofs.Common.{get_or}
use Rattle.rules.specs.Lists.{each}
use Rattle.rules.proofs.Encoding.Front.{Front}
use Rattle.day.specs.Day.{history_after}
use Rattle.day.specs.Clauses.{none}
use Rattle.day.proofs.give.Given as goal

abbrev pub invariant-loop-i : goal.invariant-loop-i
invariant-loop-i l =
    Front l.initial.histories (each l.i (λ j. history_after (get_or l.initial.histories j none) (get_or l.outputs j 0))) l.histories l.i
