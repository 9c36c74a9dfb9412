-- Rules 19.3 to 19.6 of docs/SPECIFICATION.md: what holds of every judgement, as statements. (They are proved in proofs/Claims.)
use Rattle.std.specs.Prelude.{ℕ, ◌+◌, ◌*◌, List, ◌↔◌, ◌≡◌, pos, ◌-ℤ◌, length, ◌≤ℤ◌, Ok, Some, None, Result, Option}
use Rattle.rules.specs.Layout.{Case, case_of}
use Rattle.rules.specs.Problem.{total_cost, total_net, problem_of}
use Rattle.rules.specs.Refusal.{file_verdict}
use Rattle.rules.specs.Calls.{case_verdict, dispatched}
use Rattle.rules.specs.Promise.{Permitted, Covering, GreatestFloor, cost_less_gap, reply_in}
use Rattle.rules.specs.declared.Refusal.{Refusal}
use Rattle.judging.specs.declared.Judgement as code-judgement

-- what is told of accepted outputs
pub record Told (c : Case) (ps : List ℕ) (j : code-judgement.Judgement) : Type 0 where
  -- they are permitted and cover, and cost and surplus are stated as they are
  pub permitted : Permitted c ps
  pub covering : Covering c ps
  pub costs : j.cost ≡ total_cost c.units ps
  pub surplus-is : 100000000 * c.demand + j.surplus ≡ total_net c.units ps
  -- cost less distance is the greatest of the floors of all multipliers from 0 to 65,536, so that the distance is never negative
  pub greatest_floor : GreatestFloor (problem_of c) (pos j.cost -ℤ pos j.distance)
  -- and whatever is permitted and covers costs at least that
  pub nobody_spends_less : (qs : List ℕ) → Permitted c qs → Covering c qs → (pos j.cost -ℤ pos j.distance) ≤ℤ pos (total_cost c.units qs)

-- of a case that dispatch accepts, and a list with an output for each unit
pub record Judgement (c : Case) (ps : List ℕ) (a : Result (Option code-judgement.Judgement) Refusal) : Type 0 where
  -- accepted exactly where the outputs are permitted and cover, and else not accepted
  pub accepts : (Permitted c ps × Covering c ps) ↔ ((j : code-judgement.Judgement) × (a ≡ Ok (Some j)))
  pub rejects : (Permitted c ps → Covering c ps → ⊥) ↔ (a ≡ Ok None)
  pub tells : (j : code-judgement.Judgement) → a ≡ Ok (Some j) → Told c ps j

abbrev pub Judges : (List ℕ → List ℕ → Result (Option code-judgement.Judgement) Refusal) → Type 0
Judges judge =
    (file ps : List ℕ)
    → case_verdict file ≡ Ok tt
    → length ps ≡ length (case_of file).units
    → Judgement (case_of file) ps (judge file ps)

-- the outputs that dispatch replies, read from the reply's bytes, are accepted with exactly the reply's cost, surplus and gap
abbrev pub AcceptsDispatch : (List ℕ → List ℕ → Result (Option code-judgement.Judgement) Refusal) → Type 0
AcceptsDispatch judge =
    (file buffer : List ℕ) (n : ℕ)
    → (dispatched file buffer).answer ≡ Ok n
    → let r = reply_in (dispatched file buffer).reply in judge file r.outputs ≡ Ok (Some (record { cost = r.cost; surplus = r.surplus; distance = r.gap }))

-- and no accepted outputs cost less than the reply's cost less its gap
abbrev pub NotBelowDispatch : (List ℕ → List ℕ → Result (Option code-judgement.Judgement) Refusal) → Type 0
NotBelowDispatch judge =
    (file ps buffer : List ℕ) (n : ℕ) (j : code-judgement.Judgement)
    → (dispatched file buffer).answer ≡ Ok n
    → judge file ps ≡ Ok (Some j)
    → cost_less_gap (reply_in (dispatched file buffer).reply) ≤ℤ pos j.cost

-- of every accepted file (rule 4.8) and every list: accepted exactly where the outputs are permitted and cover
abbrev pub AcceptsExactly : (List ℕ → List ℕ → Result (Option code-judgement.Judgement) Refusal) → Type 0
AcceptsExactly judge =
    (file ps : List ℕ)
    → file_verdict file ≡ Ok tt
    → (Permitted (case_of file) ps × Covering (case_of file) ps) ↔ ((j : code-judgement.Judgement) × (judge file ps ≡ Ok (Some j)))

-- for one file, cost less distance is one number: the reply's cost less its gap
abbrev pub OneBound : (List ℕ → List ℕ → Result (Option code-judgement.Judgement) Refusal) → Type 0
OneBound judge =
    (file ps buffer : List ℕ) (n : ℕ) (j : code-judgement.Judgement)
    → (dispatched file buffer).answer ≡ Ok n
    → judge file ps ≡ Ok (Some j)
    → pos j.cost -ℤ pos j.distance ≡ cost_less_gap (reply_in (dispatched file buffer).reply)
