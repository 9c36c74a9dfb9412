-- Closed, dispatched, or confirmed (`NodeEvaluated`). (What an edit of must-fail changes in a condition is cited without that condition's name.)
use Rattle.std.proofs.Common.{take, ap, refl, ◌∙◌, arith}
use Rattle.nodes.specs.Clauses.{Confirms}
use Rattle.nodes.proofs.NodeEvaluated.{known_proves, confirmed_dispatch, confirmed_outputs, takes_cheaper, takes_none, counts_only, seen_multiplier, sums-dualable}
use Rattle.nodes.proofs.evaluate_node.Goals as goal
use Rattle.nodes.proofs.evaluate_node.Goals.{then-cost-s, else-cost-s}

pub known_floor-floor-requires : goal.known_floor-floor-requires
known_floor-floor-requires c =
    let s = c.requires in
    (sums-dualable s.holds s.sums.low (omega (arith, s.multiplier)), sums-dualable s.holds s.sums.high (omega (arith, s.multiplier)))

-- closed
pub returns-then-floor-bound : goal.returns-then-floor-bound
returns-then-floor-bound c =
    let s = c.requires in
    record {
      multiplier = λ v e. (cc);
      evaluates = λ d y of p held. counts_only held (λ some. omega (arith, known_proves s.multiplier _ of.0 of.1 c.known_floor-floor.ensures some, held.cost)) refl c.counted.ensures;
    }

-- confirmed
pub returns : goal.returns
returns c =
    let s = c.requires in
    let known = c.known_floor-floor.ensures in
    let w : Confirms c.args.x.low c.args.x.high c.args.site.now.target = record { short = c.if-short-site.false; covers = c.if-net-site.false; alone = omega arith } in
    rw c.taken.ensures
    (record {
      multiplier = λ v e. seen_multiplier e s.multiplier;
      evaluates = λ d y of p held.
          elim c.if-cost-s.branch [
            | then-cost-s b ↦ takes_cheaper (confirmed_dispatch s.multiplier _ of.0 of.1 known w) held b.if-cost-s.true (ap (take c.args.site.now.count) b.best-is ∙ confirmed_outputs s.multiplier _ of.0 of.1 known w b.evaluate.ensures.allocates)
            | else-cost-s b ↦ rw b.best-is (takes_none (confirmed_dispatch s.multiplier _ of.0 of.1 known w) held b.if-cost-s.false)
          ];
    })
