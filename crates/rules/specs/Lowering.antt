-- Rules 10.4, 10.5 and 16.18 of docs/SPECIFICATION.md (since S-6), as statements: what is lowered, what lowering keeps and saves, and that it goes further where there is more to spare. (They are proved in proofs/Saving.)
use Rattle.std.specs.Prelude.{ℕ, ◌+◌, ◌*◌, ◌≤◌, cond, List, ◌∷◌, ◌++◌, map, ◌↔◌, ◌≡◌, length, get_or, take, Ok}
use Rattle.rules.specs.Layout.{case_of}
use Rattle.rules.specs.Problem.{total_cost, total_net, covers, Offer, Problem, units_of, target, problem_in}
use Rattle.rules.specs.Choice.{choice, least_tied, choices, selected}
use Rattle.rules.specs.Calls.{DispatchResult, case_verdict}
use Rattle.rules.specs.Promise.{reply_in, Covering}

-- ---- (rule 10.5) at a multiplier of a problem, against the choices as they are

pub record Saves (m : ℕ) (q : Problem) : Type 0 where
  -- what an evaluation takes covers exactly where the choices do
  pub covers : (target q ≤ total_net (units_of q) (selected m q)) ↔ (target q ≤ total_net (units_of q) (choices m q))
  -- with no more net, at no more cost
  pub net : total_net (units_of q) (selected m q) ≤ total_net (units_of q) (choices m q)
  pub cost : total_cost (units_of q) (selected m q) ≤ total_cost (units_of q) (choices m q)
  -- and at the same price: both have the dual value of m
  pub tied : 100000 * total_cost (units_of q) (selected m q) + m * total_net (units_of q) (choices m q) ≡ 100000 * total_cost (units_of q) (choices m q) + m * total_net (units_of q) (selected m q)

-- of every case that step 1 accepts
abbrev pub LoweringSaves : Type 0
LoweringSaves = (file : List ℕ) → case_verdict file ≡ Ok tt → (m : ℕ) → Saves m (problem_in file)

-- (rule 10.4) where the choices cover: a unit o is at its least tied output if the whole covers with it there, the units before it as they are taken and those behind it at their choices; else it is at its choice
abbrev pub InFileOrder : ℕ → Problem → Type 0
InFileOrder m q =
    target q ≤ total_net (units_of q) (choices m q)
    → (before after : List Offer) (o : Offer)
    → q.offers ≡ before ++ (o ∷ after)
    → let tried = take (length before) (selected m q) ++ (least_tied m o ∷ map (choice m) after) in
    get_or (selected m q) (length before) 0 ≡ cond (covers q.demand (total_net (units_of q) tried)) (least_tied m o) (choice m o)

abbrev pub LowersInFileOrder : Type 0
LowersInFileOrder = (file : List ℕ) → case_verdict file ≡ Ok tt → (m : ℕ) → InFileOrder m (problem_in file)

-- the same case with a smaller demand: no more net, and at no more cost; and where the greater one is covered so is the smaller one
pub record MoreSlack (m d : ℕ) (q : Problem) : Type 0 where
  pub covers : target q ≤ total_net (units_of q) (selected m q) → target (record { demand = d; offers = q.offers }) ≤ total_net (units_of q) (selected m (record { demand = d; offers = q.offers }))
  pub net : total_net (units_of q) (selected m (record { demand = d; offers = q.offers })) ≤ total_net (units_of q) (selected m q)
  pub cost : total_cost (units_of q) (selected m (record { demand = d; offers = q.offers })) ≤ total_cost (units_of q) (selected m q)

abbrev pub LowersFurtherWithMoreToSpare : Type 0
LowersFurtherWithMoreToSpare = (file : List ℕ) → case_verdict file ≡ Ok tt → (m d : ℕ) → d ≤ (problem_in file).demand → MoreSlack m d (problem_in file)

-- ---- (rule 16.18) no multiplier has choices, as they are before lowering, that cover and are cheaper than the reply

abbrev pub ChoicesNotCheaper : (List ℕ → List ℕ → DispatchResult) → Type 0
ChoicesNotCheaper dispatch =
    (file reply : List ℕ) → case_verdict file ≡ Ok tt → 92 ≤ length reply → (m : ℕ) → m ≤ 65536 → Covering (case_of file) (choices m (problem_in file)) → (reply_in (dispatch file reply).reply).cost ≤ total_cost (case_of file).units (choices m (problem_in file))
