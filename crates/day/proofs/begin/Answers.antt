-- `day::begin`: the file of a call that is not refused is accepted.
use Rattle.std.proofs.Common.{sym}
use Rattle.day.proofs.Opens.{accepts-day}
use Rattle.day.proofs.begin.Goals as goal

pub count-requires : goal.count-requires
count-requires c = (accepts-day _ _ _ _ (sym c.in_ok-verdict.ensures)).accepted
