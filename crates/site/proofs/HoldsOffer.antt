-- What writing a unit does to what the arrays hold: another unit stays, since it stands in other places; and the unit itself is held, if it has a permitted output.
use mathlib.Core.Path.{◌≡◌, sym, ap₂, ◌∙◌}
use mathlib.Core.Bool.{true, false, true≢false}
use mathlib.Core.List.{List}
use mathlib.Core.Logic.{◌⊎◌, inl, inr, ◌↔◌}
use Prim.Native.Nat.{ℕ, ◌+◌, ◌*◌, ◌-◌, ◌≤◌, ◌<◌}
use native.Mathlib.Decide.{dec_lt}
use native.Mathlib.Omega.{arith}
use lib.ListN.{get_or}
use Rattle.rules.specs.Unit.{Unit}
use Rattle.rules.specs.Problem.{Offer, offer}
use Rattle.rules.specs.Offers.{Among}
use Rattle.rules.proofs.Lists.{each_same}
use Rattle.rules.proofs.Economics.Chosen.{none-among}
use Rattle.rules.proofs.Economics.Outputs.{offered-permitted, permitted-offered}
use Rattle.rules.proofs.Economics.Solvable.{offer-proper}
use Rattle.regions.specs.Regions.{low, high, Ascending, Inside}
use Rattle.regions.specs.Clauses.{KeptOutside, RegionsWritten}
use Rattle.regions.proofs.KeptOutside.{kept-all}
use Rattle.site.specs.Site.{first, last, Within, Regions, HoldsOffer, regions_at, HoldsUnit}
use Rattle.site.specs.Clauses.{CoefficientsWritten, RangeWritten, UnitWritten}

-- ---- the same in other arrays

-- t is s from place `from` to before place `to`
pub record Same (from to : ℕ) (s t : List ℕ) : Type 0 where
  pub equal : (k : ℕ) → from ≤ k → k < to → get_or t k 0 ≡ get_or s k 0

same : {from to from' to' : ℕ} {s t : List ℕ} → KeptOutside from to s t → (to' ≤ from) ⊎ (to ≤ from') → Same from' to' s t
same h (inl e) = record { equal = λ k a b. h.below k (omega arith) }
same h (inr e) = record { equal = λ k a b. h.above k (omega arith) }

-- regions depend on their own places only
module _ {ends ends' : List ℕ} {start next : ℕ} (b : Same (2 * start) (2 * next) ends ends') where
  low_same : (k : ℕ) → start ≤ k → k < next → low ends' k ≡ low ends k
  low_same k s t = b.equal (2 * k) (omega arith) (omega arith)

  high_same : (k : ℕ) → start ≤ k → k < next → high ends' k ≡ high ends k
  high_same k s t = b.equal (2 * k + 1) (omega arith) (omega arith)

  ascending-same : Ascending ends start next → Ascending ends' start next
  ascending-same h =
      record {
        order = λ k s t. rw (low_same k s t, high_same k s t) (h.order k s t);
        limit = λ k s t. rw (high_same k s t) (h.limit k s t);
        apart = λ j k s m t. rw (high_same j s (omega arith), low_same k (omega arith) t) (h.apart j k s m t);
        stands = λ k s t. rw (low_same k s t, high_same k s t) (h.stands k s t);
      }

  inside-same : (p : ℕ) → Inside ends start next p ↔ Inside ends' start next p
  inside-same p = (
    λ w. record { region = w.region; from = w.from; to = w.to; inside = rw (low_same w.region w.from w.to, high_same w.region w.from w.to) w.inside },
    λ w. record { region = w.region; from = w.from; to = w.to; inside = rw (low_same w.region w.from w.to, high_same w.region w.from w.to) at w.inside },
  )

-- a unit depends on its own places only
module _ {coefficients ends ranges coefficients' ends' ranges' : List ℕ} (i : ℕ) (a : Same (5 * i) (5 * i + 5) coefficients coefficients') (b : Same (2 * (6 * i)) (2 * (6 * i) + 12) ends ends') (c : Same (2 * i) (2 * i + 2) ranges ranges') where
  holds_same : (o : Offer) → HoldsOffer coefficients ends ranges i o → HoldsOffer coefficients' ends' ranges' i o
  holds_same o h =
      let first-same : first ranges' i ≡ first ranges i = c.equal (2 * i) (omega arith) (omega arith) in
      let last-same : last ranges' i ≡ last ranges i = c.equal (2 * i + 1) (omega arith) (omega arith) in
      let part : Same (2 * first ranges i) (2 * (last ranges i + 1)) ends ends' = record { equal = λ k s t. b.equal k (omega (arith, h.from)) (omega (arith, h.to)) } in
      record {
        proper = h.proper;
        unit =
            record {
              sound = h.unit.sound;
              c0 = a.equal (5 * i) (omega arith) (omega arith) ∙ h.unit.c0;
              c1 = a.equal (5 * i + 1) (omega arith) (omega arith) ∙ h.unit.c1;
              c2 = a.equal (5 * i + 2) (omega arith) (omega arith) ∙ h.unit.c2;
              b = a.equal (5 * i + 3) (omega arith) (omega arith) ∙ h.unit.b;
              factor = a.equal (5 * i + 4) (omega arith) (omega arith) ∙ h.unit.factor;
            };
        from = rw first-same h.from;
        to = rw last-same h.to;
        regions = rw (first-same, last-same) (record { some = h.regions.some; ascending = ascending-same part h.regions.ascending });
        outputs = λ p. (
          λ i. rw (first-same, last-same) ((inside-same part p).0 ((h.outputs p).0 i)),
          λ w. (h.outputs p).1 ((inside-same part p).1 (rw (first-same, last-same) at w)),
        );
      }

  regions-same : (o : Offer) → HoldsOffer coefficients ends ranges i o → regions_at ends' ranges' i ≡ regions_at ends ranges i
  regions-same o h =
      let first-same : first ranges' i ≡ first ranges i = c.equal (2 * i) (omega arith) (omega arith) in
      let last-same : last ranges' i ≡ last ranges i = c.equal (2 * i + 1) (omega arith) (omega arith) in
      let from = first ranges i in
      rw (first-same, last-same) (each_same (last ranges i + 1 - from) _ _ (λ j l. ap₂ (λ (x y : ℕ). record { low = x; high = y }) (b.equal (2 * (from + j)) (omega (arith, h.from)) (omega (arith, h.to))) (b.equal (2 * (from + j) + 1) (omega (arith, h.from)) (omega (arith, h.to)))))

  pub unit-same : (u : Unit) → HoldsUnit coefficients ends ranges i u → HoldsUnit coefficients' ends' ranges' i u
  unit-same u h = record { holds = holds_same (offer u) h.holds; regions = regions-same (offer u) h.holds ∙ h.regions }

-- ---- a unit is written

module _ {u : Unit} {i next : ℕ} {coefficients ends coefficients' ends' : List ℕ} (cs : CoefficientsWritten u i coefficients coefficients') (rs : RegionsWritten u (6 * i) ends ends' next) where
  others : {ranges ranges' : List ℕ} → KeptOutside (2 * i) (2 * i + 2) ranges ranges' → (j : ℕ) → (j ≡ i → ⊥) → (v : Unit) → HoldsUnit coefficients ends ranges j v → HoldsUnit coefficients' ends' ranges' j v
  others {ranges} {ranges'} kept j n = by (dec_lt j i)
    where
      by : Dec (j < i) → (v : Unit) → HoldsUnit coefficients ends ranges j v → HoldsUnit coefficients' ends' ranges' j v
      by (yes l) = unit-same j (same cs.kept (inl (omega arith))) (same rs.kept (inl (omega arith))) (same kept (inl (omega arith)))
      by (no l) = unit-same j (same cs.kept (inr (omega arith))) (same rs.kept (inr (omega arith))) (same kept (inr (omega arith)))

  -- no region: no output
  pub unit-none : next ≡ 6 * i → (ranges : List ℕ) → UnitWritten u i coefficients ends ranges coefficients' ends' ranges false
  unit-none e ranges =
      record {
        holds = λ t. absurd (true≢false (sym t));
        none = λ _. none-among (offer u).outputs (λ p m. let w = (rs.outputs p).0 (offered-permitted u p m) in omega (arith, w.from, w.to));
        others = others kept-all;
      }

  module _ (n : next ≡ 6 * i → ⊥) where
    some : 6 * i < next
    some = omega (arith, rs.from)

    counted : next - 1 + 1 ≡ next
    counted = omega (arith, some)

    regions : Regions ends' (6 * i) (next - 1)
    regions = record { some = omega (arith, some); ascending = rw counted rs.ascending }

    within : (p : ℕ) → Among p (offer u).outputs ↔ Within ends' (6 * i) (next - 1) p
    within p = (λ m. rw counted ((rs.outputs p).0 (offered-permitted u p m)), λ w. permitted-offered u p ((rs.outputs p).1 (rw counted at w)))

    pub unit-some : {ranges ranges' : List ℕ} → RangeWritten i (6 * i) (next - 1) ranges ranges' → UnitWritten u i coefficients ends ranges coefficients' ends' ranges' true
    unfolding offer
    unit-some r =
        record {
          holds = λ _.
              record {
                holds =
                    record {
                      proper = offer-proper u cs.holds.sound;
                      unit = cs.holds;
                      from = omega (arith, r.first);
                      to = omega (arith, r.last, rs.to, some);
                      regions = rw (r.first, r.last) regions;
                      outputs = λ p. (λ m. rw (r.first, r.last) ((within p).0 m), λ w. (within p).1 (rw (r.first, r.last) at w));
                    };
                regions = rw (r.first, r.last, counted) rs.held;
              };
          none = λ t. absurd (true≢false t);
          others = others r.kept;
        }
