-- What writing the regions of a unit leaves: the ends of its ramp window, the regions, and which places of the array are kept.
use Rattle.std.specs.Prelude.{ℕ, ◌+◌, ◌*◌, ◌-◌, ◌≤◌, ◌<◌, ◌≡◌, true, List, ◌↔◌, get_or}
use Rattle.rules.specs.Unit.{Unit, permitted}
use Rattle.rules.specs.Regions.{regions}
use Rattle.regions.specs.declared.Window.{Window}
use Rattle.regions.specs.Regions.{Ascending, Inside, held_from}

-- `after` is `before` at each place that is not one of from .. to − 1
pub record KeptOutside (from to : ℕ) (before after : List ℕ) : Type 0 where
  pub below : (k : ℕ) → k < from → get_or after k 0 ≡ get_or before k 0
  pub above : (k : ℕ) → to ≤ k → get_or after k 0 ≡ get_or before k 0

-- from previous − down, or from 0, to previous + up; without a previous output from 0 to greatest
pub record Ramped (greatest previous up down : ℕ) (w : Window) : Type 0 where
  pub none : previous ≡ 0 → (w.from ≡ 0) × (w.to ≡ greatest)
  pub some : 0 < previous → (w.from ≡ previous - down) × (w.to ≡ previous + up)

-- the permitted outputs of a unit are those in the regions start .. next − 1, which are its regions one by one
pub record RegionsWritten (u : Unit) (start : ℕ) (before after : List ℕ) (next : ℕ) : Type 0 where
  pub from : start ≤ next
  pub to : next ≤ start + 6
  pub ascending : Ascending after start next
  pub outputs : (p : ℕ) → (permitted u p ≡ true) ↔ Inside after start next p
  pub held : held_from after start (next - start) ≡ regions u
  pub kept : KeptOutside (2 * start) (2 * start + 12) before after
