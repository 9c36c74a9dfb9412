-- The bodies that are passed are `Checked`.
use Rattle.std.proofs.Common.{◌≡◌}
use Rattle.rules.specs.Layout.{edition}
use Rattle.rules.proofs.Each.{Checked}
use Rattle.casefile.proofs.Body.{verdict_at}
use Rattle.casefile.proofs.checking.check_bodies.Given as goal

abbrev pub invariant-loop-i : goal.invariant-loop-i
invariant-loop-i l = (l.edition ≡ edition l.file) × Checked l.n (verdict_at l.file) l.i
