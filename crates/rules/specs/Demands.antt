-- Rules 20.1 and 21.1 of docs/SPECIFICATION.md: which lists of demands a call answers for, at most 96 demands, none above 320,000 steps.
use Rattle.std.specs.Prelude.{ℕ, ◌≤◌, Bool, not, ◌||◌, List, ltb, leb, length}
use Rattle.rules.specs.Lists.{all, Every}

abbrev pub demands_invalid : List ℕ → Bool
demands_invalid demands = ltb 96 (length demands) || not (all (λ d. leb d 320000) demands)

-- the others, as facts (`proofs/Demands`: a list that is not invalid is one of them)
pub record ValidDemands (demands : List ℕ) : Type 0 where
  pub few : length demands ≤ 96
  pub small : Every (λ d. d ≤ 320000) demands
