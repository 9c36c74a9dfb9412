-- The gap is the cost less the floor, or 0 where that is higher.
use Rattle.std.proofs.Common.{◌≡◌, ◌-◌, arith}
use Rattle.std.specs.Prelude.{min}
use Rattle.refining.proofs.reply.stated.Goals as goal

pub returns : goal.returns
returns c = let e : c.saturating_sub.result ≡ c.args.s.cost - min c.args.s.cost c.args.s.floor = omega arith in rw e
