-- `day::set_first`: the first i histories are set.
use Rattle.rules.specs.Lists.{each}
use Rattle.rules.specs.Layout.{unit_at}
use Rattle.rules.proofs.Encoding.Front.{Front}
use Rattle.day.proofs.set_first.Given as goal

abbrev pub invariant-loop-i : goal.invariant-loop-i
invariant-loop-i l =
    Front l.initial.histories (each l.i (λ j. record { previous = (unit_at l.file j).previous; starts = 0 })) l.histories l.i
