-- `refining::refine` meets its contract: each return is one end of the definition (`Endings`).
use Rattle.std.proofs.Common.{ℕ, inl, inr, ap, ◌∙◌, arith}
use Rattle.std.proofs.lemmas.Result.{err_from_is_err_and}
use Rattle.rules.specs.Layout.{case_of}
use Rattle.site.specs.declared.Site.{Site}
use Rattle.branching.specs.Nodes.{root}
use Rattle.branching.proofs.Claims.{room-refused, budget_refused}
use Rattle.refining.specs.Clauses.{refined_held}
use Rattle.refining.proofs.NodesHeld.{node-problem}
use Rattle.refining.proofs.Endings.{root-held, refined-is, refused, replied}
use Rattle.refining.proofs.refine.Goals as goal
use Rattle.refining.proofs.refine.Goals.{then-budget-lt1-via-then-budget-lt1, then-budget-lt1-via-else-budget-lt1+then-budget-gt100000}

abbrev count_of : Site → ℕ
count_of s = s.count

pub returns-then-reply-lt94 : goal.returns-then-reply-lt94
returns-then-reply-lt94 c = room-refused _ _ _ c.if-reply-lt94.true

pub returns-then-budget-lt1 : goal.returns-then-budget-lt1
returns-then-budget-lt1 c =
    elim c.then-budget-lt1.branch [
      | then-budget-lt1-via-then-budget-lt1 w ↦ budget_refused _ _ _ c.if-reply-lt94.false (inl w.if-budget-lt1.true)
      | then-budget-lt1-via-else-budget-lt1+then-budget-gt100000 w ↦ budget_refused _ _ _ c.if-reply-lt94.false (inr w.if-budget-gt100000.true)
    ]

pub visit-s-requires : goal.visit-s-requires
visit-s-requires c =
    let s = case_of c.args.file.now in
    let held = root-held c.in_ok-cost.ensures in
    record { demand = s.demand; node = root s; held = held; sums = c.node_at-root.ensures.sums _ (node-problem held).problem; multiplier = omega (arith, c.node_at-root.ensures.multiplier) }

pub returns-in_err-cost : goal.returns-in_err-cost
returns-in_err-cost c =
    let raised = err_from_is_err_and c.from_residual.result c.from_residual.ensures.1 in
    rw (raised.1, raised.2) (refused _ _ _ (record { room = c.if-reply-lt94.false; least = c.if-budget-lt1.false; most = c.if-budget-gt100000.false }) _ c.in_err-cost.ensures)

pub write_refined-requires : goal.write_refined-requires
write_refined-requires c =
    let f = c.in_ok-cost.ensures in
    (omega (arith, ap count_of c.visit-s.ensures.kept, f.site.holds.few), c.if-reply-lt94.false)

pub returns : goal.returns
returns c =
    let f = c.in_ok-cost.ensures in
    let n = c.first_best.new.site.count in
    let sums = c.node_at-root.ensures.sums _ (node-problem (root-held f)).problem in
    let found = ap (refined_held n) c.stated.ensures ∙ refined-is f c.args.budget c.if-budget-lt1.false c.node_at-root.ensures.parent sums c.visit-s.ensures.visits in
    let is = ap (λ (k : ℕ). refined_held k c.stated.result) (ap count_of c.visit-s.ensures.kept) ∙ found in
    replied _ _ _ (record { room = c.if-reply-lt94.false; least = c.if-budget-lt1.false; most = c.if-budget-gt100000.false }) f.accepted _ c.stated.result is c.write_refined.ensures.0 c.write_refined.ensures.1
