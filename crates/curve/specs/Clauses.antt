-- What the functions of a curve ask: unit i of the arrays, which is some unit's, at an output and at a multiplier.
use Rattle.std.specs.Prelude.{ℕ, ◌≤◌, ◌<◌, List}
use Rattle.rules.specs.Unit.{Unit}
use Rattle.site.specs.Site.{Coefficients}

pub record AtOutput (coefficients : List ℕ) (i p : ℕ) : Type 0 where
  pub few : i < 32
  pub output : p ≤ 10000
  pub unit : Unit
  pub holds : Coefficients coefficients i unit

pub record AtMultiplier (coefficients : List ℕ) (i m : ℕ) : Type 0 where
  pub few : i < 32
  pub multiplier : m ≤ 65536
  pub unit : Unit
  pub holds : Coefficients coefficients i unit
