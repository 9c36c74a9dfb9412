-- What the search found is the dispatch (`NodeEvaluated`).
use Rattle.std.proofs.Common.{◌≡◌, w64, ap, ◌∙◌, arith, rules}
use mir.Facts.{to_z-of_z}
use Rattle.rules.specs.Numbers.{natural}
use Rattle.rules.proofs.Economics.Solution.{best-covers}
use Rattle.evaluation.proofs.Offers.{held-proper}
use Rattle.nodes.proofs.NodeEvaluated.{searched-dispatch, searched-outputs}
use Rattle.nodes.proofs.search_node.Goals as goal

-- the best covers
pub overflow_sub-result : goal.overflow_sub-result
overflow_sub-result c =
    let s = c.requires in
    let q = s.problem in
    let r = (c.search-floor.ensures.held q s.holds s.greatest).found in
    omega (arith, best-covers q (held-proper s.holds.problem) s.solves, r.best.net, s.holds.demanded)

pub returns : goal.returns
returns c =
    let f = c.search-floor in
    let e : c.natural_of.result ≡ natural f.result.floor = c.natural_of.ensures ∙ ap natural (to_z-of_z {w = w64} (search rules)) in
    record {
      multiplier = c.next_multiplier.ensures;
      dispatches = λ q h solves g. (searched-dispatch f.ensures q h solves g e, searched-outputs f.ensures q h solves g);
    }
