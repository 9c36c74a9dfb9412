-- Rules 20.2, 20.3 and 20.5 to 20.9 of docs/SPECIFICATION.md: what holds of every floor that the call writes, and what it refuses, as statements. (They are proved in proofs/Claims.)
use Rattle.std.specs.Prelude.{ℕ, ◌≤◌, ◌<◌, true, false, List, [], ◌∷◌, ◌≡◌, ◌↔◌, ℤ, pos, length, get_or, ◌≤ℤ◌, Ok, Err}
use Rattle.rules.specs.Demands.{demands_invalid}
use Rattle.rules.specs.Layout.{Case, case_of}
use Rattle.rules.specs.Problem.{Problem, total_cost, total_net, covers, problem_in}
use Rattle.rules.specs.Choice.{dual_value, greatest_floor}
use Rattle.rules.specs.Bisection.{found}
use Rattle.rules.specs.Calls.{dispatched}
use Rattle.rules.specs.Promise.{Permitted, cost_less_gap, reply_in}
use Rattle.rules.specs.declared.Refusal.{Refusal}
use Rattle.sensitivity.specs.Floors.{FloorsResult, PanelFloorsResult, number_of_floored, answers_of_floored}

-- (rule 20.3) the dual value carried to d is that of the same offers with demand d
abbrev pub CarriedDual : (ℕ → Problem → ℕ → ℤ) → Type 0
CarriedDual carried = (m : ℕ) (q : Problem) (d : ℕ) → carried m q d ≡ dual_value m (record { demand = d; offers = q.offers })

-- and the floor for d is the greatest of the floors of the same offers with demand d, over the multipliers that the search evaluates for the case's own
abbrev pub OfThatDemand : (Problem → ℕ → ℤ) → Type 0
OfThatDemand floor_of = (q : Problem) (d : ℕ) → floor_of q d ≡ greatest_floor (record { demand = d; offers = q.offers }) (found q).evaluated

-- floors for demands of a case
pub record Floors (c : Case) (demands : List ℕ) (floors : List ℤ) : Type 0 where
  -- (rule 20.5) whatever is permitted and covers a demand costs at least its floor
  pub nobody_spends_less : (i : ℕ) → i < length demands → (ps : List ℕ) → Permitted c ps → covers (get_or demands i 0) (total_net c.units ps) ≡ true → get_or floors i (pos 0) ≤ℤ pos (total_cost c.units ps)
  -- (rule 20.7) a greater demand has no smaller floor
  pub rises : (i j : ℕ) → i < length demands → j < length demands → get_or demands i 0 ≤ get_or demands j 0 → get_or floors i (pos 0) ≤ℤ get_or floors j (pos 0)
  -- (rule 20.9) no floor is negative
  pub not_negative : (i : ℕ) → i < length demands → pos 0 ≤ℤ get_or floors i (pos 0)

-- of every call that writes floors: there is one to a demand
abbrev pub Bounds : (List ℕ → List ℕ → List ℤ → FloorsResult) → Type 0
Bounds call =
    (file demands : List ℕ) (floors : List ℤ) (n : ℕ)
    → (call file demands floors).answer ≡ Ok n
    → (n ≡ length demands) × Floors (case_of file) demands (call file demands floors).floors

-- (rule 20.6) the floor for the case's own demand is the reply's cost less its gap
abbrev pub OwnDemand : (List ℕ → List ℕ → List ℤ → FloorsResult) → Type 0
OwnDemand call =
    (file demands buffer : List ℕ) (floors : List ℤ) (n k i : ℕ)
    → (call file demands floors).answer ≡ Ok n
    → (dispatched file buffer).answer ≡ Ok k
    → i < length demands
    → get_or demands i 0 ≡ (case_of file).demand
    → get_or (call file demands floors).floors i (pos 0) ≡ cost_less_gap (reply_in (dispatched file buffer).reply)

-- (rule 20.6) the floor for another demand is at most cost less gap of the reply to a file with that demand and the same units
abbrev pub NotAboveDispatch : (List ℕ → List ℕ → List ℤ → FloorsResult) → Type 0
NotAboveDispatch call =
    (file demands other buffer : List ℕ) (floors : List ℤ) (n k i : ℕ)
    → (call file demands floors).answer ≡ Ok n
    → (dispatched other buffer).answer ≡ Ok k
    → i < length demands
    → case_of other ≡ record { demand = get_or demands i 0; units = (case_of file).units }
    → get_or (call file demands floors).floors i (pos 0) ≤ℤ cost_less_gap (reply_in (dispatched other buffer).reply)

-- (rule 20.9) where the search evaluates 0 alone, all floors are alike
abbrev pub AlikeFromOne : (List ℕ → List ℕ → List ℤ → FloorsResult) → Type 0
AlikeFromOne call =
    (file demands : List ℕ) (floors : List ℤ) (n i j : ℕ)
    → (call file demands floors).answer ≡ Ok n
    → (found (problem_in file)).evaluated ≡ 0 ∷ []
    → i < length demands
    → j < length demands
    → get_or (call file demands floors).floors i (pos 0) ≡ get_or (call file demands floors).floors j (pos 0)

-- and it does so at demand 0
abbrev pub OneAtZero : Type 0
OneAtZero = (q : Problem) → q.demand ≡ 0 → (found q).evaluated ≡ 0 ∷ []

-- (rule 20.8) in C, where the list of answers has a place: the number, the floors and the answer of the call
abbrev pub ToldInC : (List ℕ → List ℕ → List ℤ → List ℤ → PanelFloorsResult) → (List ℕ → List ℕ → List ℤ → FloorsResult) → Type 0
ToldInC in_c call =
    (file demands : List ℕ) (floors answers : List ℤ)
    → 1 ≤ length answers
    → let result = call file demands floors in
    in_c file demands floors answers ≡ record { number = number_of_floored result.answer; floors = result.floors; answers = answers_of_floored result.answer answers }

-- (rule 20.2) where the demands are valid and there is room, it refuses what dispatch refuses, with the same number
abbrev pub RefusesAsDispatch : (List ℕ → List ℕ → List ℤ → FloorsResult) → Type 0
RefusesAsDispatch call =
    (file demands buffer : List ℕ) (floors : List ℤ) (r : Refusal)
    → demands_invalid demands ≡ false
    → length demands ≤ length floors
    → 92 ≤ length buffer
    → ((call file demands floors).answer ≡ Err r) ↔ ((dispatched file buffer).answer ≡ Err r)
