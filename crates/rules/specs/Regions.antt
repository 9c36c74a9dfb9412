-- Rule 5.6 of docs/SPECIFICATION.md. The regions of a unit: its permitted outputs as intervals that ascend.
use Rattle.std.specs.Prelude.{ℕ, suc, ◌+◌, ◌-◌, ◌≤◌, max, min, Bool, true, false, cond, ◌&&◌, ◌||◌, List, [], ◌∷◌, ◌++◌, map, ◌↔◌, ◌≡◌, leb, ltb, eqb, Ok}
use Rattle.rules.specs.Lists.{filter}
use Rattle.rules.specs.Unit.{Unit, Zone, zones, permitted}
use Rattle.rules.specs.Refusal.{unit_verdict}

-- the outputs from low to high
pub record Region : Type 0 where
  pub low : ℕ
  pub high : ℕ

abbrev pub in_region : ℕ → Region → Bool
in_region p r = leb r.low p && leb p r.high

abbrev pub in_some : ℕ → List Region → Bool
in_some p [] = false
in_some p (r ∷ rs) = in_region p r || in_some p rs

-- the running outputs as the zones part them: from the lower limit to the first zone, from zone to zone, from the last zone to the upper limit; edges belong to them
unfoldable pub intervals : ℕ → List Zone → ℕ → List Region
intervals below [] above = record { low = below; high = above } ∷ []
intervals below (z ∷ zs) above = record { low = below; high = z.lower } ∷ intervals z.upper zs above

-- what the ramp window leaves of one
abbrev pub windowed : Unit → Region → Region
windowed u r = cond (ltb 0 u.previous) (record { low = max r.low (u.previous - u.down); high = min r.high (u.previous + u.up) }) r

-- what it leaves of some, without those that are empty then (an interval of an accepted unit is not empty before)
abbrev pub left_of : Unit → List Region → List Region
left_of u rs = filter (λ r. leb r.low r.high) (map (windowed u) rs)

-- 0 if permitted, then upward the running intervals that the ramp window does not empty
unfoldable pub regions : Unit → List Region
regions u =
    let standing : List Region = cond (eqb u.mark 0) (record { low = 0; high = 0 } ∷ []) [] in
    standing ++ left_of u (intervals u.least (zones u) u.greatest)

-- ---- what is true of them (proved in proofs/Regions)

-- they ascend from b on, no two share an output, and none is empty
abbrev pub AscendFrom : ℕ → List Region → Type 0
AscendFrom b [] = record {}
AscendFrom b (r ∷ rs) = (b ≤ r.low) × (r.low ≤ r.high) × AscendFrom (suc r.high) rs

-- (rule 5.6) an output of an accepted unit is permitted exactly if it lies in one of its regions, which ascend
pub record RegionsOf (u : Unit) : Type 0 where
  pub outputs : (p : ℕ) → (permitted u p ≡ true) ↔ (in_some p (regions u) ≡ true)
  pub ascend : AscendFrom 0 (regions u)

abbrev pub RegionsHoldPermitted : Type 0
RegionsHoldPermitted = (u : Unit) → unit_verdict u ≡ Ok tt → RegionsOf u
