-- `day::previous_outputs`: one previous output more.
use Rattle.std.proofs.Common.{◌≢◌, ◌<◌, length, arith, below_more, get_or-set_other, get_or-set_same}
use lib.ListN.{length-set}
use Rattle.day.proofs.previous_outputs.Goals as goal

pub loop-i-preserved : goal.loop-i-preserved
loop-i-preserved c =
    let l = c.loop-i.invariant in
    let lt : c.loop-i.i < length c.loop-i.previous = omega arith in
    record {
      long = simp length-set l.long;
      held = below_more _ _ (λ k h. let ne : k ≢ c.loop-i.i = omega arith in rw get_or-set_other (l.held k h)) (rw get_or-set_same);
    }
