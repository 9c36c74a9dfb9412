-- What `unit_verdict u ≡ Accepted` says of the numbers of u, as facts (`proofs/Sound` has it both ways).
use Rattle.std.specs.Prelude.{ℕ, ◌*◌, ◌≤◌, ◌<◌, ◌≡◌, true, pos, ◌+ℤ◌, get_or, ◌<ℤ◌}
use Rattle.rules.specs.Unit.{Unit, zones}
use Rattle.rules.specs.Refusal.{zones_ascend, starts_above}
use Rattle.rules.specs.Losses.{LinearLossInRange}

-- number 18
pub record SoundLosses (u : Unit) : Type 0 where
  pub range : LinearLossInRange u
  pub rises : (u.b1 +ℤ pos (19999 * u.b)) <ℤ pos 100000000

pub record Sound (u : Unit) : Type 0 where
  pub zone_count : u.zone_count ≤ 4
  pub unused : (k : ℕ) → 2 * u.zone_count ≤ k → get_or u.edges k 0 ≡ 0
  pub c0 : u.c0 ≤ 1000000000
  pub c1 : u.c1 ≤ 10000000
  pub c2 : u.c2 ≤ 1000
  pub b : u.b ≤ 5000
  pub losses : SoundLosses u
  pub least : 1 ≤ u.least
  pub range : u.least < u.greatest
  pub greatest : u.greatest ≤ 10000
  pub above : starts_above u.least (zones u) ≡ true
  pub ascend : zones_ascend u.least (zones u) u.greatest ≡ true
  pub previous : u.previous ≤ 10000
  pub up : u.up ≤ 10000
  pub down : u.down ≤ 10000
  pub mark : u.mark ≤ 1
