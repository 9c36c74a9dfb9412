-- The reply that states what the search found.
use Prim.Native.Nat.{ℕ, ◌-◌}
use mathlib.Core.Path.{◌≡◌, ap₂, ◌∙◌}
use lib.IntN.{ℤ, pos, ◌-ℤ◌}
use Rattle.rules.specs.Numbers.{natural}
use Rattle.rules.specs.Bisection.{reply_of}
use Rattle.bisection.specs.declared.steps.Found as code-found
use Rattle.solving.specs.Clauses.{States}

-- with the distance of the cost above the floor as its gap
pub states : (t : ℕ) (f : code-found.Found) {gap : ℕ} → gap ≡ natural (pos f.best.cost -ℤ f.floor) → States t f (record { evaluations = f.evaluations; cost = f.best.cost; gap = gap; surplus = f.best.net - t; outputs = f.best.outputs })
unfolding reply_of
states t f e =
    record {
      held = λ q i g h. λ n.
          record {
            evaluations = h.evaluations n;
            cost = h.best.cost n;
            gap = (e ∙ ap₂ (λ (k : ℕ) (z : ℤ). natural (pos k -ℤ z)) h.best.cost h.floor) n;
            surplus = ap₂ (λ (k d : ℕ). k - d) h.best.net i n;
            outputs = h.best.places n;
          };
    }
