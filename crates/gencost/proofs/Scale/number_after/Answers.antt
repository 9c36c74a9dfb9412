-- One digit more (`Numbers`).
use Rattle.std.proofs.Common.{◌+◌, ◌*◌, ◌∙◌, ap, arith}
use Rattle.gencost.specs.Clauses.{held}
use Rattle.gencost.proofs.Numbers.{held-most, spelling_more}
use Rattle.gencost.proofs.Scale.number_after.Goals as goal

pub loop-digit-preserved : goal.loop-digit-preserved
loop-digit-preserved c =
    let n = c.loop-digit.n in
    record {
      most = rw c.held-n.ensures (held-most _ _);
      rest = spelling_more _ _ _ n c.loop-digit.digit-index (omega arith) c.loop-digit.invariant.rest (c.held-n.ensures ∙ ap (λ k. held c.args.self.limit (10 * n + k)) c.from.ensures);
    }
