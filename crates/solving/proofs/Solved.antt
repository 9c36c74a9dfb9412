-- What the search found can be stated, and what is stated is the rules' solution.
use Prim.Native.Nat.{ℕ}
use mathlib.Core.List.{List}
use mathlib.Core.Path.{◌≡◌, subst}
use native.Mathlib.Omega.{arith}
use lib.IntN.{ℤ}
use Rattle.rules.specs.Bisection.{found, solve}
use Rattle.rules.proofs.Economics.Solution.{best-covers, floor_at_most_cost, greatest_floor_not_negative}
use Rattle.evaluation.proofs.Offers.{held-proper}
use Rattle.bisection.specs.declared.steps.Allocation as code-allocation
use Rattle.bisection.specs.declared.steps.Found as code-found
use Rattle.bisection.specs.Clauses.{Holding, Searches, FirstHeld}
use Rattle.solving.specs.declared.Reply as code-reply
use Rattle.solving.specs.ReplyHeld.{reply_held}
use Rattle.solving.specs.Clauses.{Stateable, States, Solves}

-- what the search found can be stated
pub stateable : {coefficients ends ranges : List ℕ} {n t : ℕ} {first : code-allocation.Allocation} (s : FirstHeld coefficients ends ranges n t first) {f : code-found.Found} {trace : List ℤ} → Searches (Holding coefficients ends ranges n t) n first f trace → Stateable t f
stateable {t = t} s {f} {trace} h =
    let q = s.problem in
    let p = s.holds.problem in
    let found = (h.held q s.holds s.greatest).found in
    let proper = held-proper p in
    record {
      covers = omega (arith, best-covers q proper s.solves, found.best.net, s.holds.demanded);
      measurable =
          record {
            range = omega (arith, h.sized.cost, p.few);
            above = rw (found.floor, found.best.cost) (floor_at_most_cost q proper s.solves);
            positive = rw found.floor (greatest_floor_not_negative q proper s.solves);
          };
    }

-- and what is stated is the rules' solution
pub solved : {coefficients ends ranges : List ℕ} {n t : ℕ} {first : code-allocation.Allocation} {f : code-found.Found} {r : code-reply.Reply} {trace : List ℤ} → States t f r → Searches (Holding coefficients ends ranges n t) n first f trace → Solves coefficients ends ranges n t first r
unfolding solve
solved {r = r} s h = record { held = λ q i g. subst (λ (k : ℕ). reply_held k r ≡ solve q) i.problem.count (s.held q i.demanded (found q) (h.held q i g).found) }
