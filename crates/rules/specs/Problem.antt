-- Rules 8.1 to 8.4 of docs/SPECIFICATION.md. Units together: an allocation, its cost and net; and the dispatch problem, a demand and what each unit may be given.
-- Slots of a day, nodes of a search and other demands are problems too; a case is one of them.
use Rattle.std.specs.Prelude.{ℕ, suc, ◌+◌, ◌*◌, Bool, true, false, ◌&&◌, List, [], ◌∷◌, map, leb}
use Rattle.rules.specs.Lists.{each, filter}
use Rattle.rules.specs.Unit.{Unit, permitted, cost, net}
use Rattle.rules.specs.Layout.{Case, case_of}

-- ---- (rules 8.1, 8.2) An allocation is a dispatch of the units, whether it covers or not: a permitted output for each. Cost and net are sums over the units.

unfoldable pub allocation : List Unit → List ℕ → Bool
allocation [] [] = true
allocation [] (p ∷ ps) = false
allocation (u ∷ us) [] = false
allocation (u ∷ us) (p ∷ ps) = permitted u p && allocation us ps

unfoldable pub total_cost : List Unit → List ℕ → ℕ
total_cost [] ps = 0
total_cost (u ∷ us) [] = 0
total_cost (u ∷ us) (p ∷ ps) = cost u p + total_cost us ps

unfoldable pub total_net : List Unit → List ℕ → ℕ
total_net [] ps = 0
total_net (u ∷ us) [] = 0
total_net (u ∷ us) (p ∷ ps) = net u p + total_net us ps

-- (rule 8.3) the power balance as an inequality: a net covers d steps, after losses
abbrev pub covers : ℕ → ℕ → Bool
covers d n = leb (100000000 * d) n

-- ---- (rule 8.4) An offer is a unit with its feasible set, the outputs that it may be given; a problem is a demand and offers. A case is the problem where each unit offers all its permitted outputs.

pub record Offer : Type 0 where
  pub unit : Unit
  pub outputs : List ℕ

pub record Problem : Type 0 where
  pub demand : ℕ
  pub offers : List Offer

abbrev pub units_of : Problem → List Unit
units_of q = map (λ o. o.unit) q.offers

-- the net that covers the demand
abbrev pub target : Problem → ℕ
target q = 100000000 * q.demand

-- every output from 0 to greatest that is permitted
unfoldable pub offer : Unit → Offer
offer u = record { unit = u; outputs = filter (permitted u) (each (suc u.greatest) (λ p. p)) }

unfoldable pub problem_of : Case → Problem
problem_of c = record { demand = c.demand; offers = map offer c.units }

-- the problem in a file's bytes
abbrev pub problem_in : List ℕ → Problem
problem_in file = problem_of (case_of file)
