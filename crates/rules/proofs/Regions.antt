-- The permitted outputs of an accepted unit are those of its regions, which ascend (`Regions` in specs/): zone by zone, behind each zone what lies past its upper edge.
use mathlib.Core.Path.{◌≡◌, refl, sym, ◌∙◌}
use mathlib.Core.Bool.{Bool, true, false, cond, ◌&&◌, ◌||◌, true≢false}
use mathlib.Core.List.{List, [], ◌∷◌, ◌++◌}
use mathlib.Core.Logic.{◌⊎◌, inl, inr, ⊎_elim}
use Prim.Native.Nat.{ℕ, zero, suc, ◌+◌, ◌-◌, ◌≤◌, max, min}
use native.Mathlib.Omega.{arith}
use native.Mathlib.Decide.{dec_le}
use lib.Dec.{ltb, leb, eqb}
use borrow.Author.Tests.{le-leb, leb-true, eq-eqb, eqb-true}
use Rattle.rules.specs.Unit.{Unit, Zone, zones, permitted, in_ramp_window}
use Rattle.rules.specs.Refusal.{zones_ascend}
use Rattle.rules.specs.Regions.{Region, in_region, in_some, intervals, windowed, left_of, regions, AscendFrom, RegionsHoldPermitted}
use Rattle.rules.proofs.Verdicts.{either_way, and-true}
use Rattle.rules.specs.Sound.{Sound}
use Rattle.rules.proofs.Sound.{sound, zone-parts, ascending}
use Rattle.rules.proofs.Zones.{outside, before-zone, after-zone, within-zone}
use Rattle.rules.proofs.Economics.Outputs.{stands-permitted, runs-permitted}

-- ---- in one region, and in some

in_region_lem : {p : ℕ} {r : Region} → r.low ≤ p → p ≤ r.high → in_region p r ≡ true
in_region_lem {p} {r} h k = (and-true (leb r.low p) (leb p r.high)).1 (le-leb r.low p h, le-leb p r.high k)

in_bounds : (p : ℕ) (r : Region) → in_region p r ≡ true → (r.low ≤ p) × (p ≤ r.high)
in_bounds p r e = let both = (and-true (leb r.low p) (leb p r.high)).0 e in (leb-true r.low p both.0, leb-true p r.high both.1)

either : (a b : Bool) → (a || b) ≡ true → (a ≡ true) ⊎ (b ≡ true)
either true b e = inl refl
either false b e = inr e

some-later : (p : ℕ) (r : Region) (rs : List Region) → in_some p rs ≡ true → in_some p (r ∷ rs) ≡ true
some-later p r rs e = by (in_region p r)
  where
    by : (b : Bool) → (b || in_some p rs) ≡ true
    by true = refl
    by false = e

some-behind : (p : ℕ) (rs ss : List Region) → in_some p ss ≡ true → in_some p (rs ++ ss) ≡ true
some-behind p [] ss e = e
some-behind p (r ∷ rs) ss e = some-later p r (rs ++ ss) (some-behind p rs ss e)

-- ---- what the ramp window leaves of an interval

module _ (u : Unit) (p : ℕ) where
  -- p lies in it exactly where it lies in the interval and in the window
  windowed_in : (r : Region) → in_ramp_window u p ≡ true → r.low ≤ p → p ≤ r.high → ((windowed u r).low ≤ p) × (p ≤ (windowed u r).high)
  windowed_in r w h k = by (ltb 0 u.previous) w
    where
      by : (b : Bool) → cond b (leb (u.previous - u.down) p && leb p (u.previous + u.up)) true ≡ true → ((cond b (record { low = max r.low (u.previous - u.down); high = min r.high (u.previous + u.up) }) r).low ≤ p) × (p ≤ (cond b (record { low = max r.low (u.previous - u.down); high = min r.high (u.previous + u.up) }) r).high)
      by true e =
          let both = (and-true (leb (u.previous - u.down) p) (leb p (u.previous + u.up))).0 e in
          let from = leb-true (u.previous - u.down) p both.0 in
          let to = leb-true p (u.previous + u.up) both.1 in
          (omega arith, omega arith)
      by false e = (h, k)

  windowed-out : (r : Region) → (windowed u r).low ≤ p → p ≤ (windowed u r).high → (in_ramp_window u p ≡ true) × (r.low ≤ p) × (p ≤ r.high)
  windowed-out r h k = by (ltb 0 u.previous) h k
    where
      by : (b : Bool) → (cond b (record { low = max r.low (u.previous - u.down); high = min r.high (u.previous + u.up) }) r).low ≤ p → p ≤ (cond b (record { low = max r.low (u.previous - u.down); high = min r.high (u.previous + u.up) }) r).high → (cond b (leb (u.previous - u.down) p && leb p (u.previous + u.up)) true ≡ true) × (r.low ≤ p) × (p ≤ r.high)
      by true h k = ((and-true (leb (u.previous - u.down) p) (leb p (u.previous + u.up))).1 (le-leb (u.previous - u.down) p (omega arith), le-leb p (u.previous + u.up) (omega arith)), omega arith, omega arith)
      by false h k = (refl, h, k)

  left-first : (r : Region) (rs : List Region) → in_ramp_window u p ≡ true → r.low ≤ p → p ≤ r.high → in_some p (left_of u (r ∷ rs)) ≡ true
  left-first r rs w h k =
      let q = windowed_in r w h k in
      rw (le-leb (windowed u r).low (windowed u r).high (omega (arith, q.0, q.1))) (rw (in_region_lem {r = windowed u r} q.0 q.1) refl)

  left-later : (r : Region) (rs : List Region) → in_some p (left_of u rs) ≡ true → in_some p (left_of u (r ∷ rs)) ≡ true
  left-later r rs e = either_way (λ (ss : List Region). in_some p ss ≡ true) (leb (windowed u r).low (windowed u r).high) (λ _. some-later p (windowed u r) (left_of u rs) e) (λ _. e)

  left-parts : (r : Region) (rs : List Region) → in_some p (left_of u (r ∷ rs)) ≡ true → ((in_ramp_window u p ≡ true) × (r.low ≤ p) × (p ≤ r.high)) ⊎ (in_some p (left_of u rs) ≡ true)
  left-parts r rs = by (leb (windowed u r).low (windowed u r).high)
    where
      by : (b : Bool) → in_some p (cond b (windowed u r ∷ left_of u rs) (left_of u rs)) ≡ true → ((in_ramp_window u p ≡ true) × (r.low ≤ p) × (p ≤ r.high)) ⊎ (in_some p (left_of u rs) ≡ true)
      by true e = ⊎_elim (λ i. let q = in_bounds p (windowed u r) i in inl (windowed-out r q.0 q.1)) (λ i. inr i) (either (in_region p (windowed u r)) (in_some p (left_of u rs)) e)
      by false e = inr e

  -- ---- past a zone or before it

  in_interval : (below above : ℕ) (zs : List Zone) → in_ramp_window u p ≡ true → below ≤ p → p ≤ above → outside p zs ≡ true → in_some p (left_of u (intervals below zs above)) ≡ true
  unfolding intervals
  in_interval below above [] w h k o = left-first (record { low = below; high = above }) [] w h k
  in_interval below above (z ∷ zs) w h k o = by (dec_le z.upper p) (in_interval z.upper above zs w)
    where
      by : Dec (z.upper ≤ p) → (z.upper ≤ p → p ≤ above → outside p zs ≡ true → in_some p (left_of u (intervals z.upper zs above)) ≡ true) → in_some p (left_of u (record { low = below; high = z.lower } ∷ intervals z.upper zs above)) ≡ true
      by (yes m) f = left-later (record { low = below; high = z.lower }) (intervals z.upper zs above) (f m k (sym (after-zone p z zs m) ∙ o))
      by (no m) f = left-first (record { low = below; high = z.lower }) (intervals z.upper zs above) w h (within-zone p z zs (omega arith) o)

  -- an output of the intervals from below on
  record Outside (below above : ℕ) (zs : List Zone) : Type 0 where
    least : below ≤ p
    greatest : p ≤ above
    avoids : outside p zs ≡ true
    window : in_ramp_window u p ≡ true

  interval_in : (below above : ℕ) (zs : List Zone) → zones_ascend below zs above ≡ true → in_some p (left_of u (intervals below zs above)) ≡ true → Outside below above zs
  unfolding intervals zones_ascend
  interval_in below above [] a e = ⊎_elim (λ q. record { least = q.1; greatest = q.2; avoids = refl; window = q.0 }) (λ i. absurd (true≢false (sym i))) (left-parts (record { low = below; high = above }) [] e)
  interval_in below above (z ∷ zs) a e =
      let parts = zone-parts below above z zs a in
      let top = (ascending z.upper above zs parts.2).0 in
      ⊎_elim
      (λ q. record { least = q.1; greatest = omega (arith, q.2, parts, top); avoids = before-zone p below above z zs a q.2; window = q.0 })
      (λ i. let r = interval_in z.upper above zs parts.2 i in record { least = omega (arith, parts, r.least); greatest = r.greatest; avoids = after-zone p z zs r.least ∙ r.avoids; window = r.window })
      (left-parts (record { low = below; high = z.lower }) (intervals z.upper zs above) e)

-- ---- they ascend

ascend-lower : (a b : ℕ) (rs : List Region) → a ≤ b → AscendFrom b rs → AscendFrom a rs
ascend-lower a b [] h k = record {}
ascend-lower a b (r ∷ rs) h k = (omega (arith, k.0), k.1, k.2)

module _ (u : Unit) where
  narrower : (r : Region) → (r.low ≤ (windowed u r).low) × ((windowed u r).high ≤ r.high)
  narrower r = either_way (λ (w : Region). (r.low ≤ w.low) × (w.high ≤ r.high)) (ltb 0 u.previous) (λ _. (omega arith, omega arith)) (λ _. (omega arith, omega arith))

  left-ascend : (b : ℕ) (r : Region) (rs : List Region) → b ≤ r.low → AscendFrom (suc r.high) (left_of u rs) → AscendFrom b (left_of u rs) → AscendFrom b (left_of u (r ∷ rs))
  left-ascend b r rs h later all =
      either_way (AscendFrom b) (leb (windowed u r).low (windowed u r).high)
      (λ e. (omega (arith, (narrower r).0), leb-true (windowed u r).low (windowed u r).high e, ascend-lower (suc (windowed u r).high) (suc r.high) (left_of u rs) (omega (arith, (narrower r).1)) later))
      (λ _. all)

  intervals-ascend : (below above : ℕ) (zs : List Zone) → zones_ascend below zs above ≡ true → AscendFrom below (left_of u (intervals below zs above))
  unfolding intervals
  intervals-ascend below above [] a = left-ascend below (record { low = below; high = above }) [] (omega arith) (record {}) (record {})
  intervals-ascend below above (z ∷ zs) a =
      let parts = zone-parts below above z zs a in
      let rest = left_of u (intervals z.upper zs above) in
      let later = intervals-ascend z.upper above zs parts.2 in
      left-ascend below (record { low = below; high = z.lower }) (intervals z.upper zs above) (omega arith) (ascend-lower (suc z.lower) z.upper rest (omega (arith, parts)) later) (ascend-lower below z.upper rest (omega (arith, parts)) later)

-- ---- the regions of a unit

-- whatever is permitted, of any unit, lies in one
pub permitted-some : (u : Unit) (p : ℕ) → permitted u p ≡ true → in_some p (regions u) ≡ true
unfolding regions
permitted-some u zero e = let m = (stands-permitted u).0 e in rw (eq-eqb u.mark 0 m)
permitted-some u (suc p) e =
    let r = (runs-permitted u (suc p) (omega arith)).0 e in
    some-behind (suc p) (cond (eqb u.mark 0) (record { low = 0; high = 0 } ∷ []) []) _ (in_interval u (suc p) u.least u.greatest (zones u) r.window r.least r.greatest r.outside)

module _ {u : Unit} (s : Sound u) where
  abbrev running : List Region
  running = left_of u (intervals u.least (zones u) u.greatest)

  runs : (p : ℕ) → in_some p (left_of u (intervals u.least (zones u) u.greatest)) ≡ true → permitted u p ≡ true
  runs p e =
      let o = interval_in u p u.least u.greatest (zones u) s.ascend e in
      (runs-permitted u p (omega (arith, o.least, s.least))).1 (record { least = o.least; greatest = o.greatest; outside = o.avoids; window = o.window })

  -- what lies in one of an accepted unit is permitted
  pub some-permitted : (p : ℕ) → in_some p (regions u) ≡ true → permitted u p ≡ true
  unfolding regions
  some-permitted p = by (eqb u.mark 0) refl
    where
      by : (b : Bool) → eqb u.mark 0 ≡ b → in_some p (cond b (record { low = 0; high = 0 } ∷ []) [] ++ running) ≡ true → permitted u p ≡ true
      by true m e = ⊎_elim (λ i. let z : p ≡ 0 = omega (arith, in_bounds p (record { low = 0; high = 0 }) i) in rw z ((stands-permitted u).1 (eqb-true u.mark 0 m))) (runs p) (either (in_region p (record { low = 0; high = 0 })) (in_some p running) e)
      by false m e = runs p e

  pub regions-ascend : AscendFrom 0 (regions u)
  unfolding regions
  regions-ascend = by (eqb u.mark 0)
    where
      up : AscendFrom 1 (left_of u (intervals u.least (zones u) u.greatest))
      up = ascend-lower 1 u.least running s.least (intervals-ascend u u.least u.greatest (zones u) s.ascend)

      by : (b : Bool) → AscendFrom 0 (cond b (record { low = 0; high = 0 } ∷ []) [] ++ running)
      by true = (omega arith, omega arith, up)
      by false = ascend-lower 0 1 running (omega arith) up

pub regions_hold_permitted : RegionsHoldPermitted
regions_hold_permitted u e = let s = sound u e in record { outputs = λ p. (permitted-some u p, some-permitted s p); ascend = regions-ascend s }
