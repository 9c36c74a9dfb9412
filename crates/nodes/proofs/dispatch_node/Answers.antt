-- Step 1 decides, and the search dispatches; what is cheaper than the best is taken (`NodeEvaluated`).
use Rattle.std.proofs.Common.{take, ap, ◌∙◌}
use Rattle.solving.proofs.StepOne.{first-held}
use Rattle.nodes.proofs.NodeEvaluated.{takes_cheaper, takes_none, dispatched-first, seen_multiplier}
use Rattle.nodes.proofs.dispatch_node.Goals as goal
use Rattle.nodes.proofs.dispatch_node.Goals.{then-dispatch-known, else-dispatch-known}

pub search_node-requires : goal.search_node-requires
search_node-requires c = first-held c.in-Ok.ensures c.requires.0

pub returns : goal.returns
returns c =
    rw c.taken.ensures
    (record {
      multiplier = λ v e. seen_multiplier e c.search_node.ensures.multiplier;
      evaluates = λ d y h p held.
          let k = dispatched-first c.in-Ok.ensures c.search_node.ensures h in
          elim c.if-dispatch-known.branch [
            | then-dispatch-known w ↦ takes_cheaper k.0 held w.if-dispatch-known.true (ap (take c.args.site.now.count) w.best-is ∙ k.1)
            | else-dispatch-known w ↦ rw w.best-is (takes_none k.0 held w.if-dispatch-known.false)
          ];
    })
