-- Outputs against the zones of a unit, which ascend: below a zone, strictly inside it, and past it.
use mathlib.Core.Path.{◌≡◌, refl, sym, ◌∙◌}
use mathlib.Core.Bool.{Bool, true, false, not, ◌&&◌, true≢false}
use mathlib.Core.List.{List, [], ◌∷◌}
use Prim.Native.Nat.{ℕ, ◌+◌, ◌≤◌, ◌<◌}
use native.Mathlib.Decide.{dec_lt}
use native.Mathlib.Numerals.{add-one}
use native.Mathlib.Omega.{arith}
use lib.Dec.{ltb}
use lib.ListN.{drop}
use lib.Seq.{drop-cons}
use borrow.Author.Tests.{lt-ltb, le-ltb}
use Rattle.rules.specs.Lists.{all, Every}
use Rattle.rules.specs.Unit.{Unit, Zone, zone_at, zones, strictly_inside}
use Rattle.rules.specs.Refusal.{zones_ascend}
use Rattle.rules.proofs.Lists.{get_or_each, length-each}
use Rattle.rules.proofs.Sound.{ZoneBetween, zone-parts, ascending}

-- ---- a zone

-- at most the lower edge, and at least the upper edge: outside
not_inside_below : (p : ℕ) (z : Zone) → p ≤ z.lower → not (strictly_inside p z) ≡ true
not_inside_below p z h = rw (le-ltb z.lower p h)

not_inside_above : (p : ℕ) (z : Zone) → z.upper ≤ p → not (strictly_inside p z) ≡ true
not_inside_above p z h = by (ltb z.lower p)
  where
    by : (t : Bool) → not (t && ltb p z.upper) ≡ true
    by true = rw (le-ltb p z.upper h)
    by false = refl

inside-zone : (p : ℕ) (z : Zone) → z.lower < p → p < z.upper → not (strictly_inside p z) ≡ false
inside-zone p z h k = rw (lt-ltb z.lower p h, lt-ltb p z.upper k)

-- ---- some zones

abbrev pub outside : ℕ → List Zone → Bool
outside p zs = all (λ z. not (strictly_inside p z)) zs

-- below all of them
outside_below : (p low high : ℕ) (zs : List Zone) → Every (λ z. ZoneBetween low z high) zs → p ≤ low → outside p zs ≡ true
outside_below p low high [] e h = refl
outside_below p low high (z ∷ zs) e h = rw (not_inside_below p z (omega (arith, e.0.least))) (outside_below p low high zs e.1 h)

pub before-zone : (p from top : ℕ) (z : Zone) (zs : List Zone) → zones_ascend from (z ∷ zs) top ≡ true → p ≤ z.lower → outside p (z ∷ zs) ≡ true
before-zone p from top z zs a h =
    let parts = zone-parts from top z zs a in
    rw (not_inside_below p z h) (outside_below p z.upper top zs (ascending z.upper top zs parts.2).1 (omega (arith, parts.1)))

pub after-zone : (p : ℕ) (z : Zone) (zs : List Zone) → z.upper ≤ p → outside p (z ∷ zs) ≡ outside p zs
after-zone p z zs h = rw (not_inside_above p z h)

pub within-zone : (p : ℕ) (z : Zone) (zs : List Zone) → p < z.upper → outside p (z ∷ zs) ≡ true → p ≤ z.lower
within-zone p z zs h e = by (dec_lt z.lower p)
  where
    by : Dec (z.lower < p) → p ≤ z.lower
    by (yes k) = absurd (true≢false (sym e ∙ rw (inside-zone p z k h)))
    by (no n) = omega arith

-- zone k of a unit, and those behind it
pub next-zone : (u : Unit) (k : ℕ) → k < u.zone_count → drop k (zones u) ≡ zone_at u.edges k ∷ drop (k + 1) (zones u)
unfolding zones
next-zone u k h =
    drop-cons (zones u) k (zone_at u.edges k) (omega (arith, length-each u.zone_count (zone_at u.edges)))
    ∙ rw (get_or_each u.zone_count (zone_at u.edges) k (zone_at u.edges k) h, add-one k)
