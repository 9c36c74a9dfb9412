-- `day::slots`: trace, histories and total are those after the first k slots.
use Rattle.day.proofs.Folding.{Folded, slots_of}
use Rattle.day.proofs.slots.Given as goal

abbrev pub invariant-loop-k : goal.invariant-loop-k
invariant-loop-k l =
    Folded l.initial.trace l.initial.histories l.k (slots_of l.file l.demands l.initial.histories l.k) l.trace l.histories l.total
