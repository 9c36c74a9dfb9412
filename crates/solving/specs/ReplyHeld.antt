-- What the code's `Reply` holds, as the rules' record.
use Rattle.std.specs.Prelude.{ℕ, take}
use Rattle.rules.specs.Bisection.{Reply}
use Rattle.solving.specs.declared.Reply as code

-- the reply for n units: the first n outputs are theirs
abbrev pub reply_held : ℕ → code.Reply → Reply
reply_held n r = record { evaluations = r.evaluations; cost = r.cost; gap = r.gap; surplus = r.surplus; outputs = take n r.outputs }
