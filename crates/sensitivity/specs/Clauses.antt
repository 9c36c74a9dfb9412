-- What the functions ask and answer of a trace: of every problem and list of multipliers whose dual values it has.
use Rattle.std.specs.Prelude.{ℕ, ◌≤◌, ◌<◌, ◌≡◌, List, map, ℤ, pos, ◌+ℤ◌, ◌*ℤ◌, length}
use Rattle.rules.specs.Lists.{over}
use Rattle.rules.specs.Demands.{ValidDemands}
use Rattle.rules.specs.Numbers.{divided_up, greatest_at}
use Rattle.rules.specs.Problem.{Problem, target}
use Rattle.rules.specs.Choice.{dual_value}
use Rattle.fields.specs.Integers.{positive_part, negative_part}
use Rattle.bisection.specs.Clauses.{multiplier_at, dual_at, Traces}
use Rattle.sensitivity.specs.Floors.{dual_for}

-- a multiplier and a dual value in range
pub record PairInRange (m d : ℤ) : Type 0 where
  pub multiplier : positive_part m ≤ 65536
  pub natural : negative_part m ≡ 0
  pub above : positive_part d ≤ 3000000000000000000
  pub below : negative_part d ≤ 3000000000000000000

-- a trace of so many pairs, at least one
pub record Traced (trace : List ℤ) (count : ℕ) : Type 0 where
  pub some : 1 ≤ count
  pub few : count ≤ 18
  pub room : 36 ≤ length trace
  pub pairs : (k : ℕ) → k < count → PairInRange (multiplier_at trace k) (dual_at trace k)

-- a difference of two nets that cover demands
pub record Shifted (shift : ℤ) : Type 0 where
  pub above : positive_part shift ≤ 32000000000000
  pub below : negative_part shift ≤ 32000000000000

-- the dual value of m carried by a difference of nets
abbrev pub carried : Problem → ℤ → ℕ → ℤ
carried q shift m = dual_value m q +ℤ pos m *ℤ shift

pub record GreatestDual (trace : List ℤ) (count : ℕ) (shift r : ℤ) : Type 0 where
  pub greatest : (q : Problem) (ms : List ℕ) → Traces q ms trace → length ms ≡ count → r ≡ greatest_at (carried q shift) ms

-- a list of demands for which there is room
pub record FloorsWritable (demands : List ℕ) (floors : List ℤ) (t : ℕ) : Type 0 where
  pub target : t ≤ 32000000000000
  pub valid : ValidDemands demands
  pub room : length demands ≤ length floors

pub record FloorsWritten (trace : List ℤ) (count t : ℕ) (demands : List ℕ) (before after : List ℤ) : Type 0 where
  pub written : (q : Problem) (ms : List ℕ) → Traces q ms trace → length ms ≡ count → t ≡ target q → after ≡ over (map (λ d. greatest_at (λ m. divided_up (dual_for m q d) 100000) ms) demands) before
