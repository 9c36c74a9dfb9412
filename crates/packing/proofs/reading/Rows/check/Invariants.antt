-- The rows so far are accepted (`Checked`).
use Rattle.rules.specs.Refusal.{unit_verdict}
use Rattle.rules.proofs.Each.{Checked}
use Rattle.packing.specs.Clauses.{row_count, unit_in}
use Rattle.packing.proofs.reading.Rows.check.Given as goal

abbrev pub invariant-loop-i : goal.invariant-loop-i
invariant-loop-i l = Checked (row_count l.self) (λ i. unit_verdict (unit_in l.self i)) l.i
