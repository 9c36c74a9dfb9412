-- The ways out of a judgement over a decoded site: an output that is not permitted, outputs that do not cover, and what is told of the others.
use Prim.Native.Nat.{ℕ, ◌-◌, ◌≤◌}
use native.Mathlib.Omega.{arith}
use mathlib.Core.Path.{◌≡◌, sym, ap₂, subst, ◌∙◌}
use mathlib.Core.List.{List}
use lib.IntN.{ℤ, pos, ◌-ℤ◌}
use lib.ListN.{length, length-map}
use Rattle.rules.specs.Numbers.{natural}
use Rattle.rules.specs.Layout.{case_of}
use Rattle.rules.specs.Problem.{offer, problem_of, problem_in, target}
use Rattle.rules.proofs.Economics.Solution.{floor_at_most, greatest_floor_not_negative}
use Rattle.site.specs.Clauses.{Site}
use Rattle.evaluation.proofs.Offers.{held-proper}
use Rattle.bisection.specs.declared.steps.Allocation as code-allocation
use Rattle.bisection.specs.declared.steps.Found as code-found
use Rattle.bisection.specs.Clauses.{Holding, Searches, Measurable, FirstHeld}
use Rattle.bisection.proofs.Starting.{holding, greatest-held}
use Rattle.evaluation.specs.Clauses.{First}
use Rattle.std.specs.Prelude.{Some, Option}
use Rattle.judging.specs.declared.Judgement.{Judgement}
use Rattle.judging.specs.Clauses.{SumHeld, JudgedOf, JudgedHeld}

module _ {coefficients ends ranges : List ℕ} {n t : ℕ} {first : code-allocation.Allocation} {ps : List ℕ} where
  module _ {c w : ℕ} (s : SumHeld coefficients ends ranges n ps c w) where
    module _ (covers : t ≤ w) {f : code-found.Found} {trace : List ℤ} (found : Searches (Holding coefficients ends ranges n t) n first f trace) where
      pub measurable : FirstHeld coefficients ends ranges n t first → Measurable c f.floor
      measurable v =
          let q = v.problem in
          let p = v.holds.problem in
          let sums = s.held q p in
          let floor = (found.held q v.holds v.greatest).found.floor in
          record {
            range = omega (arith, s.sized.cost, p.few);
            above = rw (floor, sums.cost) (floor_at_most q (held-proper p) v.solves ps sums.given (omega (arith, sums.net, v.holds.demanded)));
            positive = rw floor (greatest_floor_not_negative q (held-proper p) v.solves);
          }

      pub accepted : {d : ℕ} → d ≡ natural (pos c -ℤ f.floor) → JudgedHeld coefficients ends ranges n t first ps (Some (record { cost = c; surplus = w - t; distance = d }))
      accepted e q h g =
          let sums = s.held q h.problem in
          record {
            given = sums.given;
            covers = omega (arith, sums.net);
            cost = sums.cost;
            surplus = omega (arith, sums.net);
            distance = e ∙ ap₂ (λ (k : ℕ) (z : ℤ). natural (pos k -ℤ z)) sums.cost (found.held q h g).found.floor;
          }

-- ---- of a file: its problem is one that the arrays hold, with as many offers as the case has units

pub units-counted : {file coefficients ends ranges : List ℕ} {n t : ℕ} → Site file coefficients ends ranges n t → n ≡ length (case_of file).units
unfolding problem_of
units-counted {file} s = sym s.holds.count ∙ length-map (case_of file).units offer

pub held : {file coefficients ends ranges outputs : List ℕ} {n t c w : ℕ} (f : First file coefficients ends ranges outputs n t c w) (ps : List ℕ) (a : Option Judgement) → JudgedHeld coefficients ends ranges n t (record { outputs = outputs; cost = c; net = w }) ps a → JudgedOf (problem_in file) (target (problem_in file)) ps a
held {file} f ps a h = subst (λ (t : ℕ). JudgedOf (problem_in file) t ps a) f.site.demanded (h (problem_in file) (holding f) (greatest-held f))
