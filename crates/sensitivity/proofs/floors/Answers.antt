-- `sensitivity::floors` meets its contract: each return is one end of the definition (`Outcomes`); the trace of one search gives every floor (`Tracing`).
use Rattle.std.proofs.Common.{rules, ◌≡◌, ◌≤◌, ℕ, List, map, length, ℤ, sym, ◌∙◌, arith}
use Rattle.std.proofs.lemmas.Result.{err_from_is_err_and}
use Rattle.rules.specs.Lists.{over}
use Rattle.rules.specs.Numbers.{divided_up, greatest_at}
use Rattle.rules.specs.Problem.{problem_in}
use Rattle.rules.specs.Bisection.{found}
use Rattle.rules.proofs.Demands.{valid-demands}
use Rattle.sensitivity.specs.Floors.{dual_for, floor_for}
use Rattle.sensitivity.proofs.Outcomes.{refused-demands, refused-short, refused-case, written}
use Rattle.sensitivity.proofs.Tracing.{search_traces, counted, small-target, traced}
use Rattle.sensitivity.proofs.floors.Goals as goal

pub returns-then-demands_invalid : goal.returns-then-demands_invalid
returns-then-demands_invalid c = refused-demands _ _ _ (sym c.demands_invalid.ensures ∙ c.if-demands_invalid.true)

pub returns-then-floors-demands : goal.returns-then-floors-demands
returns-then-floors-demands c = refused-short _ _ _ (sym c.demands_invalid.ensures ∙ c.if-demands_invalid.false) c.if-floors-demands.true

pub returns-in_err-cost : goal.returns-in_err-cost
returns-in_err-cost c =
    let raised = err_from_is_err_and c.from_residual.result c.from_residual.ensures.1 in
    rw (raised.1, raised.2) (refused-case _ _ _ (sym c.demands_invalid.ensures ∙ c.if-demands_invalid.false) (omega (arith, c.if-floors-demands.false)) c.in_err-cost.ensures)

pub write_floors-requires : goal.write_floors-requires
write_floors-requires c =
    let room : 36 ≤ length c.search-found.new.trace = search rules in
    let valid = valid-demands c.args.demands.now (sym c.demands_invalid.ensures ∙ c.if-demands_invalid.false) in
    (traced c.in_ok-cost.ensures c.search-found.ensures room, record { target = small-target c.in_ok-cost.ensures c.search-found.ensures room; valid = valid; room = omega (arith, c.if-floors-demands.false) })

-- the floors of the evaluated multipliers are the floors
floors-are : (file demands : List ℕ) (after before : List ℤ) → after ≡ over (map (λ e. greatest_at (λ m. divided_up (dual_for m (problem_in file) e) 100000) (found (problem_in file)).evaluated) demands) before → after ≡ over (map (floor_for (problem_in file)) demands) before
unfolding floor_for
floors-are file demands after before e = e

pub returns : goal.returns
returns c =
    let room : 36 ≤ length c.search-found.new.trace = search rules in
    let first = c.in_ok-cost.ensures in
    let file = c.args.file.now in
    written file c.args.demands.now c.args.floors.now (sym c.demands_invalid.ensures ∙ c.if-demands_invalid.false) (omega (arith, c.if-floors-demands.false)) first.accepted
    (floors-are file c.args.demands.now _ c.args.floors.now (c.write_floors.ensures.written (problem_in file) (found (problem_in file)).evaluated (search_traces first c.search-found.ensures room) (counted first c.search-found.ensures room) first.site.demanded))
