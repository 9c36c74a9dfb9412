-- Each exit is what the entries from number i on say, and a step takes the next of them.
use Rattle.std.proofs.Common.{sym, ◌∙◌, arith, inl, inr}
use Rattle.casefile.proofs.Contents.{contents-misfit, contents-end, passed-more}
use Rattle.casefile.proofs.checking.contents_invalid.Goals as goal
use Rattle.casefile.proofs.checking.contents_invalid.Goals.{then-offset-at-via-then-offset-at, then-offset-at-via-else-offset-at+then-not-legal_size}

pub returns-then-offset-at : goal.returns-then-offset-at
returns-then-offset-at c =
    sym (contents-misfit c.args.file.now c.args.n c.loop-i.at c.loop-i.i c.loop-i.invariant (omega arith) (elim c.then-offset-at.branch [ then-offset-at-via-then-offset-at w ↦ inl (omega arith) | then-offset-at-via-else-offset-at+then-not-legal_size w ↦ inr (cc) ]))

pub loop-i-preserved : goal.loop-i-preserved
loop-i-preserved c =
    rw (c.from-offset.ensures ∙ c.read.ensures, c.from.ensures ∙ c.read-size.ensures) (passed-more c.args.file.now c.args.n c.loop-i.at c.loop-i.i c.loop-i.invariant (omega arith) (omega arith) (cc))

pub returns : goal.returns
returns c = sym (contents-end c.args.file.now c.args.n c.loop-i.at c.loop-i.i c.loop-i.invariant (omega arith))
