-- The regions of a unit as they stand in an array of plain numbers: low and high of region k at the places 2 × k and 2 × k + 1.
use Rattle.std.specs.Prelude.{ℕ, ◌+◌, ◌*◌, ◌≤◌, ◌<◌, ◌≡◌, List, get_or}
use Rattle.rules.specs.Lists.{each}
use Rattle.rules.specs.Regions.{Region}

-- the ends of region k
abbrev pub low : List ℕ → ℕ → ℕ
low ends k = get_or ends (2 * k) 0

abbrev pub high : List ℕ → ℕ → ℕ
high ends k = get_or ends (2 * k + 1) 0

-- from low to high
pub record Between (low high p : ℕ) : Type 0 where
  pub from : low ≤ p
  pub to : p ≤ high

-- the regions start .. next − 1 ascend and lie apart; each has running outputs only, or output 0 alone
pub record Ascending (ends : List ℕ) (start next : ℕ) : Type 0 where
  pub order : (k : ℕ) → start ≤ k → k < next → low ends k ≤ high ends k
  pub limit : (k : ℕ) → start ≤ k → k < next → high ends k ≤ 10000
  pub apart : (j k : ℕ) → start ≤ j → j < k → k < next → high ends j < low ends k
  pub stands : (k : ℕ) → start ≤ k → k < next → low ends k ≡ 0 → high ends k ≡ 0

-- p lies in one of the regions start .. next − 1
pub record Inside (ends : List ℕ) (start next p : ℕ) : Type 0 where
  pub region : ℕ
  pub from : start ≤ region
  pub to : region < next
  pub inside : Between (low ends region) (high ends region) p

-- the n regions of the array from number k on
abbrev pub held_from : List ℕ → ℕ → ℕ → List Region
held_from ends k n = each n (λ j. record { low = low ends (k + j); high = high ends (k + j) })
