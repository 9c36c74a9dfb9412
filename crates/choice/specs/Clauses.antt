-- What the functions on the way to a unit's choice ask and answer.
use Rattle.std.specs.Prelude.{ℕ, ◌-◌, ◌≤◌, ◌<◌, Bool, true, false, List, ◌≡◌, ℤ, ◌<ℤ◌}
use Rattle.rules.specs.Offers.{Chosen}
use Rattle.regions.specs.Regions.{low, high}
use Rattle.site.specs.Site.{Regions}
use Rattle.curve.specs.Curve.{height, InRange, Valley}
use Rattle.curve.specs.declared.Curve.{Curve}
use Rattle.choice.specs.declared.Choice.{Choice}

-- regions first to last that the arrays have
pub record Places (first last : ℕ) : Type 0 where
  pub some : first ≤ last
  pub few : last < 192

-- k is the first region whose high reaches v, or the last
pub record Reaching (ends : List ℕ) (first last v k : ℕ) : Type 0 where
  pub from : first ≤ k
  pub to : k ≤ last
  pub below : (j : ℕ) → first ≤ j → j < k → high ends j < v
  pub reaches : k < last → v ≤ high ends k

-- regions of running outputs
pub record Running (ends : List ℕ) (first last : ℕ) (c : Curve) : Type 0 where
  pub few : last < 192
  pub regions : Regions ends first last
  pub runs : 1 ≤ low ends first
  pub curve : InRange c

-- with the vertex between them, and whether the step into it is level
pub record Beside (ends : List ℕ) (first last : ℕ) (c : Curve) (v : ℕ) (tied : Bool) : Type 0 where
  pub running : Running ends first last c
  pub from : low ends first ≤ v
  pub to : v ≤ high ends last
  pub valley : Valley (height c) (low ends first) (high ends last) v
  pub level : tied ≡ true → height c v ≡ height c (v - 1)
  pub falls : tied ≡ false → height c v <ℤ height c (v - 1)

pub record Choosable (ends : List ℕ) (first last : ℕ) (c : Curve) : Type 0 where
  pub few : last < 192
  pub regions : Regions ends first last
  pub curve : InRange c

-- of the candidates of least cost the greatest and the least, which are one where they are not said to tie
pub record Gives (f : ℕ → ℤ) (Candidate : ℕ → Type 0) (r : Choice) : Type 0 where
  pub chosen : Chosen f Candidate r.greatest r.least
  pub alone : r.tied ≡ false → r.least ≡ r.greatest
