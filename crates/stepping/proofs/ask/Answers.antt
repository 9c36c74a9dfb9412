-- `stepping::ask` meets its contract: each return is one end of the definition (`Endings`).
use Rattle.std.proofs.Common.{◌≡◌, true, sym, ◌∙◌, arith, rules}
use mathlib.Core.Path.{subst⁻¹}
use Rattle.stepping.specs.Runs.{Run, begun}
use Rattle.stepping.specs.Clauses.{run_of}
use Rattle.stepping.proofs.Fitting.{fitting}
use Rattle.stepping.proofs.Endings.{ask-unstarted, ask-told}
use Rattle.stepping.proofs.ask.Goals as goal

pub returns-then-not-is_begun : goal.returns-then-not-is_begun
returns-then-not-is_begun c = sym (ask-unstarted _ (sym c.is_begun.ensures ∙ c.if-not-is_begun.true))

pub read-finished-requires : goal.read-finished-requires
read-finished-requires c = (search rules, sym c.is_begun.ensures ∙ c.if-not-is_begun.false)

pub overflow_cast-result : goal.overflow_cast-result
overflow_cast-result c = omega (arith, (fitting (run_of c.read-finished.result) (subst⁻¹ (λ (r : Run). begun r ≡ true) c.read-finished.ensures (sym c.is_begun.ensures ∙ c.if-not-is_begun.false))).few)

pub overflow_cast-result-2 : goal.overflow_cast-result-2
overflow_cast-result-2 c = omega (arith, (fitting (run_of c.read-finished.result) (subst⁻¹ (λ (r : Run). begun r ≡ true) c.read-finished.ensures (sym c.is_begun.ensures ∙ c.if-not-is_begun.false))).evaluations)

pub returns : goal.returns
returns c = ask-told _ (sym c.is_begun.ensures ∙ c.if-not-is_begun.false) c.read-finished.ensures c.state_of.ensures c.saturating_sub.ensures
