-- Start, advance and ask by where they end: each way out of the code is one case of its definition.
use Rattle.std.specs.Prelude.{Ok, Err}
use Prim.Native.Nat.{ℕ, ◌-◌, ◌≤◌}
use native.Mathlib.Omega.{arith}
use mathlib.Core.Path.{◌≡◌, sym, ap, ◌∙◌}
use mathlib.Core.Bool.{true, false, cond}
use mathlib.Core.List.{List}
use lib.Dec.{eqb}
use lib.ListN.{length, take, replicate}
use borrow.Author.Tests.{eq-eqb, ne_eqb}
use Rattle.rules.specs.Lists.{over}
use Rattle.rules.specs.Problem.{problem_in}
use Rattle.rules.specs.Bisection.{greatest_outputs}
use Rattle.rules.specs.Calls.{case_verdict}
use Rattle.rules.specs.declared.Refusal.{Refusal}
use Rattle.rules.specs.declared.Refusal.TheVariants.{CaseChanged}
use Rattle.rules.proofs.Demand3.{case-accepted}
use Rattle.rules.proofs.Economics.Solvable.{solvable-covers}
use Rattle.evaluation.specs.Clauses.{First}
use Rattle.bisection.proofs.Starting.{holding, greatest-held}
use Rattle.stepping.specs.declared.numbers.Numbers.{Numbers}
use Rattle.std.specs.Prelude.{Ok, Err}
use Rattle.stepping.specs.declared.State.{State}
use Rattle.stepping.specs.declared.Asked.{Asked}
use Rattle.stepping.specs.Runs.{Run, run_in, numbers_of, begun, held, same, run_from, start_ends, started, evaluated, state_told, advance_ends, advanced_by, asked}
use Rattle.stepping.specs.Clauses.{run_of}

-- the greatest outputs cover
pub first-covers : {file coefficients ends ranges outputs : List ℕ} {n t c w : ℕ} → First file coefficients ends ranges outputs n t c w → t ≤ w
unfolding greatest_outputs
first-covers {file} f = omega (arith, solvable-covers (problem_in file) (case-accepted file f.accepted).1, (greatest-held f).net, (holding f).demanded)

module _ (numbers bytes file : List ℕ) where
  -- ---- start

  pub start-refused : (r : Refusal) → case_verdict file ≡ Err r → started numbers bytes file ≡ record { answer = Err r; numbers = numbers; bytes = bytes }
  unfolding started start_ends
  start-refused r e = rw e

  pub start-begun : {coefficients ends ranges outputs : List ℕ} {n t c w : ℕ} → First file coefficients ends ranges outputs n t c w → {first : List ℕ} → first ≡ over (take n outputs) (replicate 32 0) → {after : List ℕ} → after ≡ numbers_of (run_of (record { finished = 0; evaluations = 0; low = 0; cost = c; surplus = w - t; floor = 0; count = n; length = length file; outputs = first })) → {copied : List ℕ} → copied ≡ over file bytes → started numbers bytes file ≡ record { answer = Ok tt; numbers = after; bytes = copied }
  unfolding started start_ends run_from
  start-begun {outputs = outputs} {n} {t} f e o z =
      let h = holding f in
      let g = greatest-held f in
      let same : take n outputs ≡ greatest_outputs (problem_in file) = ap (λ (k : ℕ). take k outputs) (sym h.problem.count) ∙ g.places in
      rw (f.accepted, o, z, e, same, g.cost, g.net, h.demanded, ← h.problem.count)

  -- ---- advance

  pub advance-unstarted : begun (run_in numbers) ≡ false → advanced_by numbers bytes file ≡ record { answer = Ok State.NotStarted; numbers = numbers }
  unfolding advanced_by
  advance-unstarted e = rw e

  -- other bytes than those held
  pub advance-changed : begun (run_in numbers) ≡ true → same (held numbers bytes) file ≡ false → advanced_by numbers bytes file ≡ record { answer = Err CaseChanged; numbers = numbers }
  unfolding advanced_by
  advance-changed b e = rw (b, e)

  module _ (b : begun (run_in numbers) ≡ true) (h : same (held numbers bytes) file ≡ true) where
    pub advance-refused : (r : Refusal) → case_verdict file ≡ Err r → advanced_by numbers bytes file ≡ record { answer = Err r; numbers = numbers }
    unfolding advanced_by advance_ends
    advance-refused r e = rw (b, h, e)

    module _ (a : case_verdict file ≡ Ok tt) where
      pub advance-finished : (run_in numbers).finished ≡ 1 → advanced_by numbers bytes file ≡ record { answer = Ok State.Finished; numbers = numbers }
      unfolding advanced_by advance_ends
      advance-finished e = rw (b, h, a, eq-eqb (run_in numbers).finished 1 e)

      -- one evaluation more
      module _ (u : (run_in numbers).finished ≡ 1 → ⊥) {next : Run} (e : next ≡ evaluated (problem_in file) (run_in numbers)) {after : List ℕ} (w : after ≡ numbers_of next) where
        pub advance-made : advanced_by numbers bytes file ≡ record { answer = state_told next.finished; numbers = after }
        unfolding advanced_by advance_ends
        advance-made = rw (b, h, a, ne_eqb (run_in numbers).finished 1 u, w, e)

-- ---- ask

module _ (numbers : List ℕ) where
  pub ask-unstarted : begun (run_in numbers) ≡ false → asked numbers ≡ record { state = State.NotStarted; count = 0; evaluations = 0; cost = 0; gap = 0; surplus = 0; outputs = replicate 32 0 }
  unfolding asked
  ask-unstarted e = rw e

  abbrev shown : Run → Asked
  shown r = record { state = cond (eqb r.finished 1) State.Finished State.Unfinished; count = r.count; evaluations = r.evaluations; cost = r.cost; gap = r.cost - r.floor; surplus = r.surplus; outputs = r.outputs }

  pub ask-begun : begun (run_in numbers) ≡ true → asked numbers ≡ shown (run_in numbers)
  unfolding asked
  ask-begun e = rw e

  pub ask-told : begun (run_in numbers) ≡ true → {k : Numbers} → run_of k ≡ run_in numbers → {s : State} {g : ℕ} → s ≡ cond (eqb k.finished 1) State.Finished State.Unfinished → g ≡ k.cost - k.floor → record { state = s; count = k.count; evaluations = k.evaluations; cost = k.cost; gap = g; surplus = k.surplus; outputs = k.outputs } ≡ asked numbers
  ask-told b {k} e i j = rw (i, j) (ap shown e) ∙ sym (ask-begun b)
