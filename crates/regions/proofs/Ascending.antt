-- One interval more behind the regions of a unit: it is written as region `next`, and counted if it has an output. The regions still ascend, and have the outputs of the interval besides their own.
use mathlib.Core.Path.{◌≡◌, refl}
use mathlib.Core.Bool.{Bool, true, false}
use mathlib.Core.List.{List}
use mathlib.Core.Logic.{◌⊎◌, inl, inr, ◌↔◌}
use Prim.Native.Nat.{ℕ, ◌+◌, ◌*◌, ◌≤◌, ◌<◌}
use native.Mathlib.Decide.{ℕ_discrete}
use native.Mathlib.Omega.{arith}
use lib.Dec.{leb}
use lib.ListN.{length, set}
use mir.Val.{bool_byte}
use borrow.Author.Tests.{leb-true, le-leb}
use Rattle.regions.specs.Regions.{low, high, Between, Ascending, Inside}
use Rattle.regions.specs.Clauses.{KeptOutside}
use Rattle.regions.proofs.KeptOutside.{first-written, second-written, both-kept}

-- from..to may be put behind the regions start .. next − 1
pub record Pushable (ends : List ℕ) (start next from to : ℕ) : Type 0 where
  pub ascending : Ascending ends start next
  pub starts : start ≤ next
  pub room : 2 * next + 2 ≤ length ends
  pub runs : 0 < from
  pub lower : from ≤ 10000
  pub upper : to ≤ 10000
  pub below : (j : ℕ) → start ≤ j → j < next → high ends j < from

-- the array then, and the region after the last
abbrev pub pushed : List ℕ → ℕ → ℕ → ℕ → List ℕ
pushed ends next from to = set (set ends (2 * next) from) (2 * next + 1) to

abbrev pub counted : ℕ → ℕ → ℕ → ℕ
counted next from to = next + bool_byte (leb from to)

-- what is then known of the regions start .. next' − 1 of ends'
pub record Pushed (ends : List ℕ) (start next from to : ℕ) (ends' : List ℕ) (next' : ℕ) : Type 0 where
  pub ascending : Ascending ends' start next'
  pub more : next ≤ next'
  pub few : next' ≤ next + 1
  pub inside : (p : ℕ) → Inside ends' start next' p ↔ (Inside ends start next p ⊎ Between from to p)
  pub below : (n : ℕ) → ((j : ℕ) → start ≤ j → j < next → high ends j < n) → to < n → (j : ℕ) → start ≤ j → j < next' → high ends' j < n

-- ---- a test as a number

pub at_most_one : (t : Bool) → bool_byte t ≤ 1
at_most_one true = omega arith
at_most_one false = omega arith

pub one-true : (t : Bool) → 1 ≤ bool_byte t → t ≡ true
one-true true h = refl
one-true false h = absurd (omega arith)

-- ---- the interval as a region

module _ {ends : List ℕ} {start next from to : ℕ} (h : Pushable ends start next from to) where
  abbrev ends' : List ℕ
  ends' = pushed ends next from to

  abbrev next' : ℕ
  next' = counted next from to

  few : next' ≤ next + 1
  few = omega (arith, at_most_one (leb from to))

  filled : next < next' → from ≤ to
  filled l = leb-true from to (one-true (leb from to) (omega arith))

  -- the new region, and the others
  low-new : low ends' next ≡ from
  low-new = first-written ends (2 * next) (2 * next + 1) from to (omega arith) (omega (arith, h.room))

  high-new : high ends' next ≡ to
  high-new = second-written ends (2 * next) (2 * next + 1) from to (omega arith) (omega (arith, h.room))

  old : KeptOutside (2 * next) (2 * next + 2) ends (pushed ends next from to)
  old = both-kept ends (2 * next) (2 * next + 1) from to (omega arith) (omega (arith, h.room)) (omega arith) (omega arith)

  -- what holds of the others, and of the new one if it has an output, holds of each
  each : (P : ℕ → ℕ → Type 0) → ((k : ℕ) → start ≤ k → k < next → P (low ends k) (high ends k)) → (from ≤ to → P from to) → (k : ℕ) → start ≤ k → k < next' → P (low ends' k) (high ends' k)
  each P f x k s i = by (ℕ_discrete k next)
    where
      by : Dec (k ≡ next) → P (low ends' k) (high ends' k)
      by (yes e) = rw (e, low-new, high-new) (x (filled (omega arith)))
      by (no n) =
          let j : k < next = omega (arith, few) in
          rw (old.below (2 * k) (omega arith), old.below (2 * k + 1) (omega arith)) (f k s j)

  apart : (j k : ℕ) → start ≤ j → j < k → k < next' → high ends' j < low ends' k
  apart j k s i l = by (ℕ_discrete k next)
    where
      by : Dec (k ≡ next) → high ends' j < low ends' k
      by (yes e) = rw (e, low-new, old.below (2 * j + 1) (omega arith)) (h.below j s (omega arith))
      by (no n) =
          let m : k < next = omega (arith, few) in
          rw (old.below (2 * j + 1) (omega arith), old.below (2 * k) (omega arith)) (h.ascending.apart j k s i m)

  into : (p : ℕ) → Inside ends' start next' p → Inside ends start next p ⊎ Between from to p
  into p w = by (ℕ_discrete w.region next)
    where
      by : Dec (w.region ≡ next) → Inside ends start next p ⊎ Between from to p
      by (yes e) = inr (rw (e, low-new, high-new) at w.inside)
      by (no n) =
          let j : w.region < next = omega (arith, w.to, few) in
          inl (record { region = w.region; from = w.from; to = j; inside = rw (old.below (2 * w.region) (omega arith), old.below (2 * w.region + 1) (omega arith)) at w.inside })

  back : (p : ℕ) → Inside ends start next p ⊎ Between from to p → Inside ends' start next' p
  back p (inl w) =
      record {
        region = w.region;
        from = w.from;
        to = omega (arith, w.to);
        inside = rw (old.below (2 * w.region) (omega (arith, w.to)), old.below (2 * w.region + 1) (omega (arith, w.to))) w.inside;
      }
  back p (inr i) =
      let l : from ≤ to = omega arith in
      record { region = next; from = h.starts; to = rw (le-leb from to l) (omega arith); inside = rw (low-new, high-new) i }

  pub push : Pushed ends start next from to (pushed ends next from to) (counted next from to)
  push =
      record {
        ascending =
            record {
              order = each (λ x y. x ≤ y) h.ascending.order (λ l. l);
              limit = each (λ x y. y ≤ 10000) h.ascending.limit (λ l. h.upper);
              apart = apart;
              stands = each (λ x y. x ≡ 0 → y ≡ 0) h.ascending.stands (λ l e. absurd (omega (arith, h.runs)));
            };
        more = omega arith;
        few = few;
        inside = λ p. (into p, back p);
        below = λ n f k. each (λ x y. y < n) f (λ l. k);
      }
