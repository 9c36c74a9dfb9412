-- An accepted unit is a sound one: `unit_verdict u ≡ Accepted` as facts of its numbers, both ways.
use Rattle.std.specs.Prelude.{Ok}
use Prim.Native.Nat.{ℕ, zero, suc, ◌+◌, ◌*◌, ◌/◌, ◌%◌, ◌≤◌, ◌<◌}
use native.Mathlib.Decide.{dec_lt}
use native.Mathlib.Omega.{arith}
use mathlib.Core.Path.{◌≡◌, refl, ◌∙◌}
use mathlib.Core.Bool.{true, false}
use mathlib.Core.List.{List, [], ◌∷◌}
use mathlib.Core.Logic.{◌↔◌}
use lib.Dec.{eqb}
use lib.ListN.{get_or, drop}
use lib.Seq.{get_or-drop}
use borrow.Author.Tests.{eqb-true, eq-eqb}
use Rattle.rules.specs.Unit.{Unit, Zone, zone_at, zones, with_previous}
use Rattle.rules.specs.Refusal.{zones_ascend, unused_edges_zero, losses_out_of_range, unit_verdict}
use Rattle.rules.specs.Sound.{Sound, SoundLosses}
use Rattle.rules.specs.Lists.{Every}
use Rattle.rules.proofs.Lists.{every-from, each-every, every_more, all-every}
use Rattle.rules.proofs.Verdicts.{accepts}

pub losses-sound : (u : Unit) → (losses_out_of_range u ≡ false) ↔ SoundLosses u
losses-sound u = (
  λ e. let ((least, greatest), rises) = simp accepts at e in record { range = record { least = least; greatest = greatest }; rises = rises },
  λ s. simp accepts ((s.range.least, s.range.greatest), s.rises),
)

-- ---- the unused edges

zero-from : (n : ℕ) (s : List ℕ) → Every (λ e. eqb e 0 ≡ true) (drop n s) → (k : ℕ) → n ≤ k → get_or s k 0 ≡ 0
zero-from zero [] p k h = refl
zero-from zero (e ∷ s) p zero h = eqb-true e 0 p.0
zero-from zero (e ∷ s) p (suc k) h = zero-from zero s p.1 k (omega arith)
zero-from (suc n) [] p k h = refl
zero-from (suc n) (e ∷ s) p zero h = absurd (omega arith)
zero-from (suc n) (e ∷ s) p (suc k) h = zero-from n s p k (omega arith)

module _ (u : Unit) where
  pub unused-zero : unused_edges_zero u ≡ true → (k : ℕ) → 2 * u.zone_count ≤ k → get_or u.edges k 0 ≡ 0
  unused-zero e = zero-from (2 * u.zone_count) u.edges ((all-every (λ e. eqb e 0) (drop (2 * u.zone_count) u.edges)).0 e)

  pub zero-unused : ((k : ℕ) → 2 * u.zone_count ≤ k → get_or u.edges k 0 ≡ 0) → unused_edges_zero u ≡ true
  zero-unused h =
      let rest = drop (2 * u.zone_count) u.edges in
      (all-every (λ e. eqb e 0) rest).1
      (every-from (λ e. eqb e 0 ≡ true) rest 0 (λ i k. eq-eqb _ 0 (get_or-drop (2 * u.zone_count) u.edges i 0 ∙ h (2 * u.zone_count + i) (omega arith))))

  -- ---- accepted and sound

  pub sound : unit_verdict u ≡ Ok tt → Sound u
  unfolding unit_verdict
  sound e =
      let ((zones, unused), ((((c0, c1), c2), b), (((loss-least, loss-greatest), rises), ((((least, range), greatest), (above, ascend)), (((previous, up), down), mark))))) = simp accepts at e in
      record {
        zone_count = zones;
        unused = unused-zero unused;
        c0 = c0;
        c1 = c1;
        c2 = c2;
        b = b;
        losses = record { range = record { least = loss-least; greatest = loss-greatest }; rises = rises };
        least = least;
        range = range;
        greatest = greatest;
        above = above;
        ascend = ascend;
        previous = previous;
        up = up;
        down = down;
        mark = mark;
      }

  pub sound-accepted : Sound u → unit_verdict u ≡ Ok tt
  unfolding unit_verdict
  sound-accepted s =
      simp accepts (
        (s.zone_count, zero-unused s.unused),
        (
          (((s.c0, s.c1), s.c2), s.b),
          (
            ((s.losses.range.least, s.losses.range.greatest), s.losses.rises),
            ((((s.least, s.range), s.greatest), (s.above, s.ascend)), (((s.previous, s.up), s.down), s.mark)),
          ),
        ),
      )

-- ---- the edges in use

-- a zone lies between two outputs
pub record ZoneBetween (low : ℕ) (z : Zone) (high : ℕ) : Type 0 where
  pub least : low ≤ z.lower
  pub order : z.lower < z.upper
  pub greatest : z.upper < high

-- the first zone, and those behind it
pub zone-parts : (low high : ℕ) (z : Zone) (zs : List Zone) → zones_ascend low (z ∷ zs) high ≡ true → (low ≤ z.lower) × (z.lower < z.upper) × (zones_ascend z.upper zs high ≡ true)
unfolding zones_ascend
zone-parts low high z zs e = let ((first, order), later) = simp accepts at e in (first, order, later)

pub ascending : (low high : ℕ) (zs : List Zone) → zones_ascend low zs high ≡ true → (low < high) × Every (λ z. ZoneBetween low z high) zs
unfolding zones_ascend
ascending low high [] e = (simp accepts at e, tt)
ascending low high (z ∷ zs) e =
    let (first, order, later) = zone-parts low high z zs e in
    let (rest, every) = ascending z.upper high zs later in (
      omega arith,
      (
        record { least = first; order = order; greatest = rest },
        every_more (λ y. ZoneBetween z.upper y high) (λ y. ZoneBetween low y high) (λ y p. omega arith) zs every,
      ),
    )

module _ {u : Unit} (s : Sound u) where
  -- both edges of zone k
  pub zone-between : (k : ℕ) → k < u.zone_count → ZoneBetween u.least (zone_at u.edges k) u.greatest
  unfolding zones
  zone-between k h =
      each-every (λ z. ZoneBetween u.least z u.greatest) u.zone_count (zone_at u.edges)
      (ascending u.least u.greatest (zones u) s.ascend).1 k h

  -- an edge in use lies between least and greatest
  pub edge-between : (k : ℕ) → k < 2 * u.zone_count → (u.least ≤ get_or u.edges k 0) × (get_or u.edges k 0 < u.greatest)
  edge-between k h = by (k % 2) refl
    where
      by : (r : ℕ) → k % 2 ≡ r → (u.least ≤ get_or u.edges k 0) × (get_or u.edges k 0 < u.greatest)
      by zero e = let lower : k ≡ 2 * (k / 2) = omega arith in rw lower (omega (arith, zone-between (k / 2) (omega arith)))
      by (suc zero) e = let upper : k ≡ 2 * (k / 2) + 1 = omega arith in rw upper (omega (arith, zone-between (k / 2) (omega arith)))
      by (suc (suc r)) e = absurd (omega arith)

  -- every edge, also the unused ones, which are zero
  pub edge-small : (k : ℕ) → get_or u.edges k 0 ≤ 10000
  edge-small k = by (dec_lt k (2 * u.zone_count))
    where
      by : Dec (k < 2 * u.zone_count) → get_or u.edges k 0 ≤ 10000
      by (yes h) = omega (arith, edge-between k h)
      by (no h) = omega (arith, s.unused k (omega arith))

-- ---- another previous output

pub sound-previous : (u : Unit) (p : ℕ) → Sound u → p ≤ 10000 → Sound (with_previous u p)
unfolding with_previous zones
sound-previous u p s h =
    record {
      zone_count = s.zone_count;
      unused = s.unused;
      c0 = s.c0;
      c1 = s.c1;
      c2 = s.c2;
      b = s.b;
      losses = record { range = record { least = s.losses.range.least; greatest = s.losses.range.greatest }; rises = s.losses.rises };
      least = s.least;
      range = s.range;
      greatest = s.greatest;
      above = s.above;
      ascend = s.ascend;
      previous = h;
      up = s.up;
      down = s.down;
      mark = s.mark;
    }
