-- Demand 3, rules 16.8 to 16.14 of docs/SPECIFICATION.md, of a case file's bytes and of what dispatch answers and leaves in the reply. Of the code's types it names only the answer's enum.
use Rattle.std.specs.Prelude.{ℕ, ◌+◌, ◌*◌, ◌≤◌, true, List, ◌↔◌, ◌≡◌, ℤ, pos, ◌-ℤ◌, length, ◌≤ℤ◌, Ok, Err}
use Rattle.fields.specs.Field.{field}
use Rattle.rules.specs.Lists.{each}
use Rattle.rules.specs.Layout.{Case, case_of}
use Rattle.rules.specs.Refusal.{file_verdict}
use Rattle.rules.specs.Problem.{allocation, total_cost, total_net, covers, Problem, problem_of}
use Rattle.rules.specs.Choice.{selected, floor}
use Rattle.rules.specs.Bisection.{Reply, found}
use Rattle.rules.specs.Calls.{DispatchResult}
use Rattle.rules.specs.declared.Refusal.TheVariants.{NoAllocation}

-- the reply that bytes spell
unfoldable pub reply_in : List ℕ → Reply
reply_in s =
    record {
      evaluations = field s 2 2;
      cost = field s 4 8;
      gap = field s 12 8;
      surplus = field s 20 8;
      outputs = each (field s 0 2) (λ i. field s (28 + 2 * i) 2);
    }

-- outputs that someone gives the units: each permitted; together covering the demand after losses
abbrev pub Permitted : Case → List ℕ → Type 0
Permitted c ps = allocation c.units ps ≡ true

abbrev pub Covering : Case → List ℕ → Type 0
Covering c ps = covers c.demand (total_net c.units ps) ≡ true

-- z is a floor of some multiplier from 0 to 65,536, and none of them has a greater one
pub record GreatestFloor (q : Problem) (z : ℤ) : Type 0 where
  pub one : (m : ℕ) × (m ≤ 65536) × (floor m q ≡ z)
  pub greatest : (m : ℕ) → m ≤ 65536 → floor m q ≤ℤ z

-- what the reply claims as a lower bound
abbrev pub cost_less_gap : Reply → ℤ
cost_less_gap r = pos r.cost -ℤ pos r.gap

-- what holds of a reply to a case
pub record ReplyPromise (c : Case) (r : Reply) : Type 0 where
  -- (rule 16.10) the outputs are those that the search finds, each permitted, together covering
  pub bisection : r.outputs ≡ (found (problem_of c)).best
  pub permitted : Permitted c r.outputs
  pub covering : Covering c r.outputs
  -- and cost and surplus are stated as they are
  pub cost : r.cost ≡ total_cost c.units r.outputs
  pub surplus : 100000000 * c.demand + r.surplus ≡ total_net c.units r.outputs
  -- (rule 16.11, weak duality) no allocation that covers is cheaper than cost less gap
  pub nobody_spends_less : (ps : List ℕ) → Permitted c ps → Covering c ps → cost_less_gap r ≤ℤ pos (total_cost c.units ps)
  -- (rule 16.12) and no multiplier proves a better bound
  pub greatest_floor : GreatestFloor (problem_of c) (cost_less_gap r)
  -- (rule 16.13) no multiplier has a covering allocation that is cheaper than the reply
  -- (What the evaluation of a multiplier takes is `Choice.selected`: its choices, lowered where they cover.)
  pub cheapest : (m : ℕ) → m ≤ 65536 → Covering c (selected m (problem_of c)) → r.cost ≤ total_cost c.units (selected m (problem_of c))
  -- (rule 16.14) the evaluations are counted as the search makes them
  pub evaluations : r.evaluations ≡ length (found (problem_of c)).evaluated
  pub at_most_18 : r.evaluations ≤ 18

-- what holds of dispatch's answer for an accepted file
pub record Promise (file : List ℕ) (result : DispatchResult) : Type 0 where
  -- (rule 16.8) number 11 exactly where no allocation covers
  pub refuses : (result.answer ≡ Err NoAllocation) ↔ ((ps : List ℕ) → Permitted (case_of file) ps → Covering (case_of file) ps → ⊥)
  -- (rule 16.9) and else a reply
  pub replies : ¬ (result.answer ≡ Err NoAllocation) → result.answer ≡ Ok (28 + 2 * length (case_of file).units)
  pub reply : ¬ (result.answer ≡ Err NoAllocation) → ReplyPromise (case_of file) (reply_in result.reply)

-- of every accepted file (rule 4.8) and every reply buffer that is long enough
abbrev pub Demand3 : (List ℕ → List ℕ → DispatchResult) → Type 0
Demand3 dispatch = (file reply : List ℕ) → file_verdict file ≡ Ok tt → 92 ≤ length reply → Promise file (dispatch file reply)
