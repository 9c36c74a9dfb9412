-- Rules 24.12 to 24.16 of docs/SPECIFICATION.md (since S-11): what holds of the call, of a file's bytes and of the reply's. (Proved in proofs/Claims.)
use Rattle.std.specs.Prelude.{ℕ, ◌+◌, ◌*◌, ◌-◌, ◌≤◌, ◌<◌, List, ◌↔◌, ◌⊎◌, ◌≡◌, length, Ok, Err}
use Rattle.rules.specs.Layout.{Case, case_of}
use Rattle.rules.specs.Refusal.{file_verdict}
use Rattle.rules.specs.Problem.{total_cost, total_net}
use Rattle.rules.specs.Calls.{DispatchResult, dispatched}
use Rattle.rules.specs.Promise.{Permitted, Covering, reply_in}
use Rattle.rules.specs.declared.Refusal.{Refusal}
use Rattle.rules.specs.declared.Refusal.TheVariants.{BufferTooShort, NoAllocation, BudgetOutOfRange}
use Rattle.branching.specs.Branching.{search}
use Rattle.branching.specs.Nodes.{NodeUnit, splits, tree, RefinedReply}
use Rattle.branching.specs.Refining.{refined_in, refined}

-- ---- (rule 24.7) nothing but the budget ends a search: to count more regions than there are to split off changes nothing

abbrev pub LeftSuffices : Type 0
LeftSuffices =
    (d budget left : ℕ) (x : List NodeUnit) → splits x ≤ left → search (tree d) budget left x ≡ search (tree d) budget (splits x) x

-- ---- a call whose room and budget are in range

pub record Asked (budget : ℕ) (reply : List ℕ) : Type 0 where
  pub room : 94 ≤ length reply
  pub least : 1 ≤ budget
  pub most : budget ≤ 100000

-- (rule 24.9) the reply's room is asked for first, then the budget, whatever the file is; nothing is written
pub record RefusedFirst (file : List ℕ) (budget : ℕ) (reply : List ℕ) : Type 0 where
  pub short : length reply < 94 → refined file budget reply ≡ record { answer = Err BufferTooShort; reply = reply }
  pub out_of_range : 94 ≤ length reply → (budget < 1) ⊎ (100000 < budget) → refined file budget reply ≡ record { answer = Err BudgetOutOfRange; reply = reply }

abbrev pub RoomThenBudget : Type 0
RoomThenBudget = (file : List ℕ) (budget : ℕ) (reply : List ℕ) → RefusedFirst file budget reply

-- (rule 24.11) a length is 32 to 94, and every refusal's number below 30 (`Lengths.number_below_30`)
abbrev pub LengthsInRange : Type 0
LengthsInRange = (file : List ℕ) (budget : ℕ) (reply : List ℕ) (n : ℕ) → (refined file budget reply).answer ≡ Ok n → (32 ≤ n) × (n ≤ 94)

-- (rule 24.12) what holds of a reply to a case
pub record RefinedPromise (c : Case) (budget : ℕ) (r : RefinedReply) : Type 0 where
  -- each output is permitted, together they cover, and cost and surplus are stated as they are
  pub permitted : Permitted c r.outputs
  pub covering : Covering c r.outputs
  pub cost : r.cost ≡ total_cost c.units r.outputs
  pub surplus : 100000000 * c.demand + r.surplus ≡ total_net c.units r.outputs
  -- no allocation that covers is cheaper than cost less gap; so none is cheaper than a cost without a gap
  pub gap : r.gap ≤ r.cost
  pub nobody_spends_less : (ps : List ℕ) → Permitted c ps → Covering c ps → r.cost - r.gap ≤ total_cost c.units ps
  pub optimal : r.gap ≡ 0 → (ps : List ℕ) → Permitted c ps → Covering c ps → r.cost ≤ total_cost c.units ps
  -- the root is evaluated, and no more nodes than the budget
  pub root_evaluated : 1 ≤ r.nodes
  pub within_budget : r.nodes ≤ budget

-- of every accepted file: number 11 exactly where no allocation covers, and else a reply
pub record Refines (file : List ℕ) (budget : ℕ) (result : DispatchResult) : Type 0 where
  pub refuses : (result.answer ≡ Err NoAllocation) ↔ ((ps : List ℕ) → Permitted (case_of file) ps → Covering (case_of file) ps → ⊥)
  pub replies : ¬ (result.answer ≡ Err NoAllocation) → result.answer ≡ Ok (30 + 2 * length (case_of file).units)
  pub reply : ¬ (result.answer ≡ Err NoAllocation) → RefinedPromise (case_of file) budget (refined_in result.reply)

abbrev pub RefinesAccepted : Type 0
RefinesAccepted = (file : List ℕ) (budget : ℕ) (reply : List ℕ) → file_verdict file ≡ Ok tt → Asked budget reply → Refines file budget (refined file budget reply)

-- (rule 24.13) it refuses what dispatch refuses, with the same number
abbrev pub RefusesAsDispatch : Type 0
RefusesAsDispatch =
    (file : List ℕ) (budget : ℕ) (reply other : List ℕ) → Asked budget reply → 92 ≤ length other
    → (r : Refusal) → ((refined file budget reply).answer ≡ Err r) ↔ ((dispatched file other).answer ≡ Err r)

-- (rule 24.14) a budget of 1 is dispatch, to the last output
pub record LikeDispatch (units : ℕ) (result dispatch : DispatchResult) : Type 0 where
  pub replied : dispatch.answer ≡ Ok (28 + 2 * units)
  pub nodes : (refined_in result.reply).nodes ≡ 1
  pub cost : (refined_in result.reply).cost ≡ (reply_in dispatch.reply).cost
  pub gap : (refined_in result.reply).gap ≡ (reply_in dispatch.reply).gap
  pub surplus : (refined_in result.reply).surplus ≡ (reply_in dispatch.reply).surplus
  pub outputs : (refined_in result.reply).outputs ≡ (reply_in dispatch.reply).outputs

abbrev pub FirstNodeIsDispatch : Type 0
FirstNodeIsDispatch =
    (file reply other : List ℕ) (n : ℕ) → Asked 1 reply → 92 ≤ length other
    → (refined file 1 reply).answer ≡ Ok n
    → LikeDispatch (length (case_of file).units) (refined file 1 reply) (dispatched file other)

-- and none is worse than dispatch
pub record NoWorseThanDispatch (result dispatch : DispatchResult) : Type 0 where
  pub cost : (refined_in result.reply).cost ≤ (reply_in dispatch.reply).cost
  pub gap : (refined_in result.reply).gap ≤ (reply_in dispatch.reply).gap

abbrev pub EachBudgetNoWorse : Type 0
EachBudgetNoWorse =
    (file : List ℕ) (budget : ℕ) (reply other : List ℕ) (n : ℕ) → Asked budget reply → 92 ≤ length other
    → (refined file budget reply).answer ≡ Ok n
    → NoWorseThanDispatch (refined file budget reply) (dispatched file other)

-- (rule 24.15) a larger budget raises neither the cost nor the gap, whichever buffers the two are given
pub record NoWorse (less more : DispatchResult) : Type 0 where
  pub replied : more.answer ≡ less.answer
  pub cost : (refined_in more.reply).cost ≤ (refined_in less.reply).cost
  pub gap : (refined_in more.reply).gap ≤ (refined_in less.reply).gap

abbrev pub LargerBudgetNoWorse : Type 0
LargerBudgetNoWorse =
    (file : List ℕ) (budget larger : ℕ) (reply other : List ℕ) (n : ℕ) → Asked budget reply → Asked larger other → budget ≤ larger
    → (refined file budget reply).answer ≡ Ok n
    → NoWorse (refined file budget reply) (refined file larger other)

-- (rule 24.16) a search that ends before its budget is spent gives the same bytes with every larger one
abbrev pub EndedStaysSame : Type 0
EndedStaysSame =
    (file : List ℕ) (budget larger : ℕ) (reply : List ℕ) (n : ℕ) → Asked budget reply → Asked larger reply → budget ≤ larger
    → (refined file budget reply).answer ≡ Ok n
    → (refined_in (refined file budget reply).reply).nodes < budget
    → refined file larger reply ≡ refined file budget reply
