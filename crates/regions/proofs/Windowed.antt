-- The ramp window as an interval, where there is one.
use mathlib.Core.Path.{◌≡◌, ap₂}
use mathlib.Core.Bool.{true, ◌&&◌}
use mathlib.Core.Logic.{◌↔◌}
use Prim.Native.Nat.{ℕ, ◌+◌, ◌-◌, ◌≤◌, ◌<◌, max, min}
use native.Mathlib.Omega.{arith}
use native.Mathlib.Decide.{dec_lt}
use lib.Dec.{leb}
use borrow.Author.Tests.{lt-ltb, le-ltb, leb-true, le-leb}
use Rattle.rules.specs.Unit.{Unit, in_ramp_window}
use Rattle.rules.specs.Regions.{Region, windowed as cut_to}
use Rattle.rules.proofs.Verdicts.{and-true}
use Rattle.rules.specs.Sound.{Sound}
use Rattle.regions.specs.Regions.{Between}
use Rattle.regions.specs.declared.Window.{Window}
use Rattle.regions.specs.Clauses.{Ramped}

-- the running outputs that the ramp limits leave are those from w.from to w.to
pub record Windowed (u : Unit) (w : Window) : Type 0 where
  pub limit : w.from ≤ 10000
  pub cut : (a b : ℕ) → b ≤ u.greatest → cut_to u (record { low = a; high = b }) ≡ record { low = max a w.from; high = min b w.to }
  pub window : (p : ℕ) → p ≤ u.greatest → (in_ramp_window u p ≡ true) ↔ Between w.from w.to p

same : {a b c d : ℕ} → a ≡ c → b ≡ d → ◌≡◌ {A = Region} (record { low = a; high = b }) (record { low = c; high = d })
same e f = ap₂ (λ (x y : ℕ). record { low = x; high = y }) e f

module _ {u : Unit} {w : Window} (s : Sound u) (r : Ramped u.greatest u.previous u.up u.down w) where
  no_window : u.previous ≡ 0 → Windowed u w
  no_window e =
      let ends = r.none e in
      record { limit = omega (arith, ends); cut = λ a b h. rw (le-ltb 0 u.previous (omega arith)) (same (omega (arith, ends)) (omega (arith, ends))); window = λ p h. (λ _. record { from = omega (arith, ends); to = omega (arith, ends, h) }, λ _. rw (le-ltb 0 u.previous (omega arith))) }

  tests : (p : ℕ) → ((leb (u.previous - u.down) p && leb p (u.previous + u.up)) ≡ true) ↔ ((leb (u.previous - u.down) p ≡ true) × (leb p (u.previous + u.up) ≡ true))
  tests p = and-true (leb (u.previous - u.down) p) (leb p (u.previous + u.up))

  window : 0 < u.previous → Windowed u w
  window h =
      let ends = r.some h in
      record {
        limit = omega (arith, ends, s.previous);
        cut = λ a b k. rw (lt-ltb 0 u.previous h) (same (omega (arith, ends)) (omega (arith, ends)));
        window = λ p k. (
          λ t. let both = (tests p).0 (rw (lt-ltb 0 u.previous h) at t) in record { from = omega (arith, ends, leb-true (u.previous - u.down) p both.0); to = omega (arith, ends, leb-true p (u.previous + u.up) both.1) },
          λ i. rw (lt-ltb 0 u.previous h) ((tests p).1 (le-leb (u.previous - u.down) p (omega (arith, ends, i.from)), le-leb p (u.previous + u.up) (omega (arith, ends, i.to)))),
        );
      }

  pub windowed : Windowed u w
  windowed = by (dec_lt 0 u.previous)
    where
      by : Dec (0 < u.previous) → Windowed u w
      by (yes h) = window h
      by (no n) = no_window (omega arith)
