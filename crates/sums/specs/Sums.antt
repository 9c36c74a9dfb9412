-- Cost and net of the choices at a multiplier together, and how many units have a lower output that ties with their choice: as sums over the offers, so that one offer is exchanged by taking its terms off and adding those of another.
use Rattle.std.specs.Prelude.{ℕ, ◌≤◌, ◌<◌, ◌≡◌, cond, List, map, eqb}
use Rattle.rules.specs.Lists.{sum}
use Rattle.rules.specs.Unit.{cost, net}
use Rattle.rules.specs.Problem.{Offer, Problem}
use Rattle.rules.specs.Choice.{choice, least_tied}
use Rattle.site.specs.Site.{HoldsOffer, HoldsProblem}
use Rattle.sums.specs.declared.Totals.{Totals}

-- of one offer at m
abbrev pub cost_at : ℕ → Offer → ℕ
cost_at m o = cost o.unit (choice m o)

abbrev pub net_at : ℕ → Offer → ℕ
net_at m o = net o.unit (choice m o)

abbrev pub ties_at : ℕ → Offer → ℕ
ties_at m o = cond (eqb (least_tied m o) (choice m o)) 0 1

-- r has them of the offer o
pub record HoldsTerm (m : ℕ) (o : Offer) (r : Totals) : Type 0 where
  pub cost : r.cost ≡ cost_at m o
  pub net : r.net ≡ net_at m o
  pub ties : r.ties ≡ ties_at m o

-- r has their sums over some offers
pub record HoldsSums (m : ℕ) (os : List Offer) (r : Totals) : Type 0 where
  pub cost : r.cost ≡ sum (map (cost_at m) os)
  pub net : r.net ≡ sum (map (net_at m) os)
  pub ties : r.ties ≡ sum (map (ties_at m) os)

-- ---- what is asked and answered, of every offer and every problem that the arrays hold

-- unit i of the arrays is some offer, and m is in range
pub record TermHeld (coefficients ends ranges : List ℕ) (i m : ℕ) : Type 0 where
  pub few : i < 32
  pub multiplier : m ≤ 65536
  pub offer : Offer
  pub holds : HoldsOffer coefficients ends ranges i offer

abbrev pub Terms : List ℕ → List ℕ → List ℕ → ℕ → ℕ → Totals → Type 0
Terms coefficients ends ranges i m r = (o : Offer) → HoldsOffer coefficients ends ranges i o → HoldsTerm m o r

abbrev pub Sums : List ℕ → List ℕ → List ℕ → ℕ → ℕ → Totals → Type 0
Sums coefficients ends ranges n m r = (q : Problem) → HoldsProblem coefficients ends ranges n q → HoldsSums m q.offers r

-- ---- one unit exchanged

-- the terms old are taken off s before new are added, and all of it is in range, s over at most 32 units
pub record Exchangeable (s old new : Totals) : Type 0 where
  pub cost : old.cost ≤ s.cost
  pub net : old.net ≤ s.net
  pub ties : old.ties ≤ s.ties
  pub cost-small : s.cost ≤ 6432000000000
  pub net-small : s.net ≤ 35200000000000
  pub ties-few : s.ties ≤ 32
  pub new-cost : new.cost ≤ 201000000000
  pub new-net : new.net ≤ 1100000000000
  pub new-ties : new.ties ≤ 1
