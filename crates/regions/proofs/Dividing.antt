-- The regions of a unit zone by zone: what is permitted below a zone's upper edge, from what is permitted below the end of the zone before.
use mathlib.Core.Path.{◌≡◌, refl, sym, ap, ◌∙◌, subst}
use mathlib.Core.Bool.{true}
use mathlib.Core.List.{List, [], ◌∷◌, ◌++◌, append-nil}
use mathlib.Core.Logic.{◌⊎◌, inl, inr}
use Prim.Native.Nat.{ℕ, ◌+◌, ◌*◌, ◌-◌, ◌≤◌, ◌<◌, max, min}
use native.Mathlib.Decide.{dec_lt, ℕ_discrete}
use native.Mathlib.Omega.{arith}
use lib.Dec.{eqb}
use lib.ListN.{length, get_or, set, drop, length-set, drop_of_length-le}
use mir.Val.{bool_byte}
use borrow.Author.Tests.{eqb-true, eq-eqb}
use Rattle.rules.specs.Unit.{Unit, Zone, zone_at, zones, permitted}
use Rattle.rules.specs.Regions.{Region, intervals, left_of, regions}
use Rattle.rules.specs.Refusal.{zones_ascend}
use Rattle.rules.proofs.Lists.{length-each}
use Rattle.rules.specs.Sound.{Sound}
use Rattle.rules.proofs.Sound.{ascending as zones-ascending, zone-between, zone-parts}
use Rattle.rules.proofs.Economics.Outputs.{stands-permitted, runs-permitted, permitted-greatest}
use Rattle.regions.specs.declared.Window.{Window}
use Rattle.regions.specs.Regions.{low, high, Between, Ascending, Inside, held_from}
use Rattle.regions.specs.Clauses.{KeptOutside, RegionsWritten}
use Rattle.regions.proofs.Windowed.{Windowed}
use Rattle.regions.proofs.KeptOutside.{kept-all, kept_set, kept_then, first-written, second-written, both-kept}
use Rattle.regions.proofs.Ascending.{Pushable, Pushed, pushed, counted, push, at_most_one, one-true}
use Rattle.regions.proofs.HeldFrom.{held-standing, held_more}
use Rattle.rules.proofs.Zones.{outside, before-zone, after-zone, within-zone, next-zone}

-- the regions start .. next − 1 have the permitted outputs below `from`, where zone k − 1 ends or the running outputs begin
pub record Dividing (u : Unit) (start : ℕ) (before ends : List ℕ) (next from k : ℕ) : Type 0 where
  pub room : 2 * start + 12 ≤ length ends
  pub size : length ends ≡ length before
  pub starts : start ≤ next
  pub few : next ≤ start + k + 1
  pub kept : KeptOutside (2 * start) (2 * start + 12) before ends
  pub ascending : Ascending ends start next
  pub zone : k ≤ u.zone_count
  pub least : u.least ≤ from
  pub ascend : zones_ascend from (drop k (zones u)) u.greatest ≡ true
  pub below : (j : ℕ) → start ≤ j → j < next → high ends j < from
  pub offered : (p : ℕ) → Inside ends start next p → permitted u p ≡ true
  pub inside : (p : ℕ) → p < from → permitted u p ≡ true → Inside ends start next p
  pub held : held_from ends start (next - start) ++ left_of u (intervals from (drop k (zones u)) u.greatest) ≡ regions u
  pub passed : (p : ℕ) → from ≤ p → outside p (zones u) ≡ outside p (drop k (zones u))

-- the array with region `start` as 0..0
abbrev pub standing : List ℕ → ℕ → List ℕ
standing before start = set (set before (2 * start) 0) (2 * start + 1) 0

pub standing-kept : (before : List ℕ) (start : ℕ) → 2 * start + 12 ≤ length before → KeptOutside (2 * start) (2 * start + 12) before (standing before start)
standing-kept before start room =
    both-kept before (2 * start) (2 * start + 1) 0 0 (omega arith) (omega arith) (omega arith) (omega arith)

module _ {u : Unit} (s : Sound u) where
  -- ---- before any zone

  -- below the least running output only 0 is permitted
  only_zero : (p : ℕ) → p < u.least → permitted u p ≡ true → p ≡ 0
  only_zero p h e = by (ℕ_discrete p 0)
    where
      by : Dec (p ≡ 0) → p ≡ 0
      by (yes z) = z
      by (no n) = absurd (omega (arith, ((runs-permitted u p (omega arith)).0 e).least))

  module _ (start : ℕ) (before : List ℕ) (room : 2 * start + 12 ≤ length before) where
    -- region `start` is 0..0, and is counted if the unit may stand
    abbrev ends : List ℕ
    ends = standing before start

    abbrev next : ℕ
    next = start + bool_byte (eqb u.mark 0)

    few : next ≤ start + 1
    few = omega (arith, at_most_one (eqb u.mark 0))

    low-zero : low ends start ≡ 0
    low-zero = first-written before (2 * start) (2 * start + 1) 0 0 (omega arith) (omega arith)

    high_of : high ends start ≡ 0
    high_of = second-written before (2 * start) (2 * start + 1) 0 0 (omega arith) (omega arith)

    high_zero : (k : ℕ) → start ≤ k → k < next → high ends k ≡ 0
    high_zero k l h =
        let e : k ≡ start = omega (arith, few) in
        rw e (second-written before (2 * start) (2 * start + 1) 0 0 (omega arith) (omega arith))

    may_stand : (k : ℕ) → start ≤ k → k < next → u.mark ≡ 0
    may_stand k l h = eqb-true u.mark 0 (one-true (eqb u.mark 0) (omega arith))

    stands : (p : ℕ) → p < u.least → permitted u p ≡ true → Inside ends start next p
    stands p h e =
        let z = only_zero p h e in
        let m = (stands-permitted u).0 (subst (λ (q : ℕ). permitted u q ≡ true) z e) in
        record { region = start; from = omega arith; to = rw (eq-eqb u.mark 0 m) (omega arith); inside = record { from = omega (arith, low-zero); to = omega (arith, z) } }

    held_first : held_from (standing before start) start (start + bool_byte (eqb u.mark 0) - start) ++ left_of u (intervals u.least (zones u) u.greatest) ≡ regions u
    unfolding regions
    held_first = ap (λ (rs : List Region). rs ++ left_of u (intervals u.least (zones u) u.greatest)) (held-standing (standing before start) start low-zero (high_of) (eqb u.mark 0))

    pub dividing-starts : Dividing u start (standing before start) (standing before start) (start + bool_byte (eqb u.mark 0)) u.least 0
    dividing-starts =
        record {
          room = simp length-set room;
          size = refl;
          starts = omega arith;
          few = omega (arith, few);
          kept = kept-all;
          ascending =
              record {
                order = λ k l h. let e : k ≡ start = omega (arith, few) in rw e (omega (arith, low-zero));
                limit = λ k l h. omega (arith, high_zero k l h);
                apart = λ j k l i h. absurd (omega (arith, few));
                stands = λ k l h e. high_zero k l h;
              };
          zone = omega arith;
          least = omega arith;
          ascend = s.ascend;
          below = λ j l h. omega (arith, high_zero j l h, s.least);
          offered = λ p w. let z : p ≡ 0 = omega (arith, high_zero w.region w.from w.to, w.inside) in rw z ((stands-permitted u).1 (may_stand w.region w.from w.to));
          inside = stands;
          held = held_first;
          passed = λ p h. refl;
        }

-- ---- the next interval

-- a turn of the loop: from the end of zone k − 1 to `end`, where zone k begins or the running outputs end, cut to the ramp window
pub record Turn (u : Unit) (start : ℕ) (before ends : List ℕ) (next from k low high : ℕ) : Type 0 where
  pub sound : Sound u
  pub dividing : Dividing u start before ends next from k
  pub window : Window
  pub windowed : Windowed u window
  pub end : ℕ
  pub ends_at : (k < u.zone_count → end ≡ get_or u.edges (2 * k) 0) × (u.zone_count ≤ k → end ≡ u.greatest)
  pub lower : low ≡ max from window.from
  pub upper : high ≡ min end window.to

module _ {u : Unit} {start : ℕ} {before ends : List ℕ} {next from k low high : ℕ} (t : Turn u start before ends next from k low high) where
  abbrev s : Sound u
  s = t.sound

  abbrev d : Dividing u start before ends next from k
  d = t.dividing

  abbrev to : ℕ
  to = t.end

  end : to ≤ u.greatest
  end = by (dec_lt k u.zone_count)
    where
      by : Dec (k < u.zone_count) → to ≤ u.greatest
      by (yes l) = omega (arith, t.ends_at.0 l, zone-between s k l)
      by (no n) = omega (arith, t.ends_at.1 (omega arith))

  pub pushable : Pushable ends start next low high
  pushable =
      record {
        ascending = d.ascending;
        starts = d.starts;
        room = omega (arith, d.room, d.few, d.zone, s.zone_count);
        runs = omega (arith, s.least, d.least);
        lower = omega (arith, (zones-ascending from u.greatest (drop k (zones u)) d.ascend).0, s.greatest, t.windowed.limit);
        upper = omega (arith, end, s.greatest);
        below = λ j l i. omega (arith, d.below j l i);
      }

  abbrev ends' : List ℕ
  ends' = pushed ends next low high

  abbrev next' : ℕ
  next' = counted next low high

  q : Pushed ends start next low high ends' next'
  q = push pushable

  kept' : KeptOutside (2 * start) (2 * start + 12) before (pushed ends next low high)
  kept' =
      kept_set (2 * next + 1) high (omega (arith, d.starts)) (omega (arith, d.few, d.zone, s.zone_count))
      (kept_set (2 * next) low (omega (arith, d.starts)) (omega (arith, d.few, d.zone, s.zone_count)) d.kept)

  -- an output of the interval is permitted if it is outside the zones from k on
  permitted-next : (p : ℕ) → (p ≤ to → outside p (drop k (zones u)) ≡ true) → Inside ends start next p ⊎ Between low high p → permitted u p ≡ true
  permitted-next p f (inl i) = d.offered p i
  permitted-next p f (inr i) =
      (runs-permitted u p (omega (arith, s.least, d.least))).1
      (record {
        least = omega (arith, d.least);
        greatest = omega (arith, end);
        outside = d.passed p (omega arith) ∙ f (omega arith);
        window = (t.windowed.window p (omega (arith, end))).1 (record { from = omega arith; to = omega arith });
      })

  -- a permitted output is in the interval or below it, if it is not past its end
  in_next : (p : ℕ) → permitted u p ≡ true → (outside p (drop k (zones u)) ≡ true → p ≤ to) → Inside ends start next p ⊎ Between low high p
  in_next p m f = by (dec_lt p from)
    where
      by : Dec (p < from) → Inside ends start next p ⊎ Between low high p
      by (yes i) = inl (d.inside p i m)
      by (no n) =
          let r = (runs-permitted u p (omega (arith, s.least, d.least))).0 m in
          let i = (t.windowed.window p r.greatest).0 r.window in
          inr (record { from = omega (arith, i.from); to = omega (arith, i.to, f (sym (d.passed p (omega arith)) ∙ r.outside)) })

  -- behind zone k
  module _ (l : k < u.zone_count) where
    abbrev z : Zone
    z = zone_at u.edges k

    abbrev zs : List Zone
    zs = drop (k + 1) (zones u)

    ascend : zones_ascend from (z ∷ zs) u.greatest ≡ true
    ascend = rw (next-zone u k l) at d.ascend

    ordered : (from ≤ z.lower) × (z.lower < z.upper) × (zones_ascend z.upper zs u.greatest ≡ true)
    ordered = zone-parts from u.greatest z zs ascend

    held-here : held_from ends start (next - start) ++ left_of u (record { low = from; high = t.end } ∷ intervals z.upper zs u.greatest) ≡ regions u
    unfolding intervals
    held-here = rw (t.ends_at.0 l) (rw (next-zone u k l) at d.held)

    pub dividing-more : Dividing u start before (pushed ends next low high) (counted next low high) (get_or u.edges (2 * k + 1) 0) (k + 1)
    dividing-more =
        record {
          room = simp length-set d.room;
          size = simp length-set d.size;
          starts = omega (arith, d.starts, q.more);
          few = omega (arith, q.few, d.few);
          kept = kept';
          ascending = q.ascending;
          zone = omega arith;
          least = omega (arith, ordered, d.least);
          ascend = ordered.2;
          below = q.below z.upper (λ j m i. omega (arith, d.below j m i, ordered)) (omega (arith, ordered, t.ends_at.0 l));
          offered = λ p i. permitted-next p (λ h. rw (next-zone u k l) (before-zone p from u.greatest z zs ascend (omega (arith, t.ends_at.0 l)))) ((q.inside p).0 i);
          inside = λ p h m. (q.inside p).1 (in_next p m (λ f. omega (arith, t.ends_at.0 l, within-zone p z zs h (rw (next-zone u k l) at f))));
          held = rw (t.lower, t.upper) (held_more u t.window t.windowed ends start next from t.end (intervals z.upper zs u.greatest) (regions u) (omega (arith, d.room, d.few, d.zone, s.zone_count)) d.starts end held-here);
          passed = λ p h. d.passed p (omega (arith, ordered)) ∙ rw (next-zone u k l) (after-zone p z zs h);
        }

  -- behind the last zone
  module _ (l : k ≡ u.zone_count) where
    none_left : drop k (zones u) ≡ []
    unfolding zones
    none_left = drop_of_length-le (zones u) {i = k} (omega (arith, length-each u.zone_count (zone_at u.edges)))

    held-last : held_from ends start (next - start) ++ left_of u (record { low = from; high = t.end } ∷ []) ≡ regions u
    unfolding intervals
    held-last = rw (t.ends_at.1 (omega arith)) (rw none_left at d.held)

    pub dividing-ends : {entry : List ℕ} → KeptOutside (2 * start) (2 * start + 12) entry before → RegionsWritten u start entry (pushed ends next low high) (counted next low high)
    dividing-ends first =
        record {
          from = omega (arith, d.starts, q.more);
          to = omega (arith, q.few, d.few, s.zone_count);
          ascending = q.ascending;
          outputs = λ p. (
            λ m. (q.inside p).1 (in_next p m (λ f. omega (arith, t.ends_at.1 (omega arith), permitted-greatest u p m))),
            λ i. permitted-next p (λ h. rw none_left) ((q.inside p).0 i),
          );
          held = sym (append-nil (held_from (pushed ends next low high) start (counted next low high - start))) ∙ rw (t.lower, t.upper) (held_more u t.window t.windowed ends start next from t.end [] (regions u) (omega (arith, d.room, d.few, d.zone, s.zone_count)) d.starts end held-last);
          kept = kept_then first kept';
        }
