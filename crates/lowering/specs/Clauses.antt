-- What lowering asks and answers (rule 10.4): of one unit, and of the units one by one.
use Rattle.std.specs.Prelude.{ℕ, ◌+◌, ◌-◌, ◌≤◌, ◌<◌, ◌≡◌, List, map, ◌⊎◌, length, get_or, take, drop, set}
use Rattle.rules.specs.Unit.{Unit, cost, net}
use Rattle.rules.specs.Problem.{Problem}
use Rattle.rules.specs.Choice.{choice, least_tied, lowered}
use Rattle.rules.specs.Offers.{Available}
use Rattle.site.specs.Site.{Coefficients, no_offer}
use Rattle.evaluation.specs.declared.Sums.{Sums}
use Rattle.evaluation.specs.Clauses.{HoldsOutputs, Sized}

-- ---- unit i, of which the array has the coefficients of some unit; its output is a part of the sums

pub record UnitLowerable (coefficients : List ℕ) (i : ℕ) (s : Sums) (l : ℕ) (outputs : List ℕ) : Type 0 where
  pub few : i < 32
  pub room : i < length outputs
  pub output : get_or outputs i 0 ≤ 10000
  pub least : l ≤ 10000
  pub sized : Sized 32 s
  pub unit : Unit
  pub holds : Coefficients coefficients i unit
  pub cost : cost unit (get_or outputs i 0) ≤ s.cost
  pub net : net unit (get_or outputs i 0) ≤ s.net

-- the net of the whole with the unit of output p lowered to l
abbrev pub net_lowered : Unit → ℕ → ℕ → ℕ → ℕ
net_lowered u w p l = w - net u p + net u l

pub record LowersUnit (coefficients : List ℕ) (i t : ℕ) (s : Sums) (l : ℕ) (before after : List ℕ) (r : Sums) : Type 0 where
  pub lowers : (u : Unit) → Coefficients coefficients i u → let p = get_or before i 0 in l < p → t ≤ net_lowered u s.net p l → (after ≡ set before i l) × (r.net ≡ net_lowered u s.net p l) × (r.cost ≡ s.cost - cost u p + cost u l)
  pub keeps : (u : Unit) → Coefficients coefficients i u → let p = get_or before i 0 in (p ≤ l) ⊎ (net_lowered u s.net p l < t) → (after ≡ before) × (r ≡ s)

-- ---- all units

-- the outputs are the choices of q at m, with cost and net s, and `least` has its least tied outputs
pub record HoldsChoices (coefficients : List ℕ) (n m : ℕ) (s : Sums) (least outputs : List ℕ) (q : Problem) : Type 0 where
  pub count : length q.offers ≡ n
  pub units : (i : ℕ) → i < n → Coefficients coefficients i (get_or q.offers i no_offer).unit
  pub available : (i : ℕ) → i < n → Available (get_or q.offers i no_offer)
  pub choices : HoldsOutputs q (map (choice m) q.offers) outputs s
  pub tied : take n least ≡ map (least_tied m) q.offers

pub record Lowerable (coefficients : List ℕ) (n : ℕ) (s : Sums) (ties : ℕ) (least outputs : List ℕ) : Type 0 where
  pub few : n ≤ 32
  pub sized : Sized n s
  pub room : n ≤ length outputs
  pub known : n ≤ length least
  pub multiplier : ℕ
  pub problem : Problem
  pub holds : HoldsChoices coefficients n multiplier s least outputs problem
  pub alone : ties ≡ 0 → take n least ≡ take n outputs

-- the outputs are the lowered ones, of every such problem; behind them the array is as it was
pub record Lowers (coefficients : List ℕ) (n t : ℕ) (s : Sums) (least before after : List ℕ) (r : Sums) : Type 0 where
  pub sized : Sized n r
  pub held : (q : Problem) (m : ℕ) → HoldsChoices coefficients n m s least before q → HoldsOutputs q (lowered m t s.net q.offers) after r
  pub beyond : drop n after ≡ drop n before
