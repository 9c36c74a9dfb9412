-- The arrays hold a node: then they hold its problem; and with the range of its first unit with several regions changed they hold its parts.
use mathlib.Core.Path.{◌≡◌, refl, sym, ap, ◌∙◌}
use mathlib.Core.Bool.{Bool, true, false, ◌||◌, true≢false}
use mathlib.Core.List.{List, [], ◌∷◌, map}
use Prim.Native.Nat.{ℕ, zero, suc, ◌+◌, ◌-◌, ◌≤◌, ◌<◌}
use native.Mathlib.Omega.{arith}
use native.Mathlib.Decide.{ℕ_discrete}
use lib.Dec.{leb}
use lib.ListN.{length, get_or, set, length-set, length-map}
use lib.Seq.{get_or-set_same, get_or-set_other}
use borrow.Author.Tests.{leb-true, le-leb, lt-ltb, le-ltb}
use Rattle.rules.specs.Lists.{each}
use Rattle.rules.specs.Regions.{Region, in_region, in_some}
use Rattle.rules.proofs.Verdicts.{and-true}
use Rattle.rules.proofs.Lists.{length-each, each_from}
use Rattle.regions.specs.Regions.{low, high, Inside, held_from}
use Rattle.site.specs.Site.{first, last, HoldsOffer, no_offer}
use Rattle.site.proofs.UnitsWritten.{mapped}
use Rattle.bisection.specs.Clauses.{Holding}
use Rattle.branching.specs.Nodes.{NodeUnit, offer_within, problem_at, has_several, lowest_of, rest_of, any_several, divided}
use Rattle.branching.proofs.Nodes.{offered, within-proper, some-lowest, some-rest}
use Rattle.std.proofs.Common.{None}
use Rattle.refining.specs.Clauses.{ranged, SeveralAt, FirstSeveral, HoldsNodeUnit, HoldsNode, NodeHeld, no_unit}
use Rattle.refining.proofs.Ranged.{ranged-first, ranged-last, ranged_first_other, ranged_last_other}

-- ---- p in one of the regions of an array

module _ (p : ℕ) where
  some-each : (n : ℕ) (f : ℕ → Region) → in_some p (each n f) ≡ true → (j : ℕ) × (j < n) × (in_region p (f j) ≡ true)
  some-each zero f e = absurd (true≢false (sym e))
  some-each (suc n) f e = by (in_region p (f 0)) refl e (some-each n (λ k. f (suc k)))
    where
      by : (b : Bool) → in_region p (f 0) ≡ b → (b || in_some p (each n (λ k. f (suc k)))) ≡ true → (in_some p (each n (λ k. f (suc k))) ≡ true → (j : ℕ) × (j < n) × (in_region p (f (suc j)) ≡ true)) → (j : ℕ) × (j < suc n) × (in_region p (f j) ≡ true)
      by true i e g = (0, omega arith, i)
      by false i e g = let r = g e in (suc r.0, omega (arith, r.1), r.2)

  each-some : (n : ℕ) (f : ℕ → Region) (j : ℕ) → j < n → in_region p (f j) ≡ true → in_some p (each n f) ≡ true
  each-some zero f j h e = absurd (omega arith)
  each-some (suc n) f zero h e = rw e
  each-some (suc n) f (suc j) h e = by (in_region p (f 0)) (each-some n (λ k. f (suc k)) j (omega arith) e)
    where
      by : (b : Bool) → in_some p (each n (λ k. f (suc k))) ≡ true → (b || in_some p (each n (λ k. f (suc k)))) ≡ true
      by true e = refl
      by false e = e

  some-inside : (ends : List ℕ) (k n : ℕ) → in_some p (held_from ends k n) ≡ true → Inside ends k (k + n) p
  some-inside ends k n e =
      let r = some-each n (λ j. record { low = low ends (k + j); high = high ends (k + j) }) e in
      let both = (and-true (leb (low ends (k + r.0)) p) (leb p (high ends (k + r.0)))).0 r.2 in
      record {
        region = k + r.0;
        from = omega arith;
        to = omega (arith, r.1);
        inside = record { from = leb-true _ _ both.0; to = leb-true _ _ both.1 };
      }

  inside-some : (ends : List ℕ) (k n : ℕ) → Inside ends k (k + n) p → in_some p (held_from ends k n) ≡ true
  inside-some ends k n w =
      let place : k + (w.region - k) ≡ w.region = omega (arith, w.from) in
      each-some n (λ j. record { low = low ends (k + j); high = high ends (k + j) }) (w.region - k) (omega (arith, w.from, w.to))
      (rw place ((and-true (leb (low ends w.region) p) (leb p (high ends w.region))).1 (le-leb _ _ w.inside.from, le-leb _ _ w.inside.to)))

-- ---- one unit

module _ {coefficients ends ranges : List ℕ} {i : ℕ} {h : NodeUnit} (u : HoldsNodeUnit coefficients ends ranges i h) where
  counted : first ranges i + (last ranges i + 1 - first ranges i) ≡ last ranges i + 1
  counted = omega (arith, u.ascending.some)

  pub unit-offer : HoldsOffer coefficients ends ranges i (offer_within h)
  unfolding offer_within
  unit-offer =
      record {
        proper = within-proper h u.unit.sound;
        unit = u.unit;
        from = u.from;
        to = u.to;
        regions = u.ascending;
        outputs = λ p. (
          λ m. rw (counted) at (some-inside p ends (first ranges i) (last ranges i + 1 - first ranges i) (rw u.regions ((offered h p).0 m).1)),
          λ w. let some : in_some p h.regions ≡ true = rw (← u.regions) (inside-some p ends (first ranges i) (last ranges i + 1 - first ranges i) (rw counted w)) in (offered h p).1 (u.permitted p some, some),
        );
      }

  several-length : length h.regions ≡ last ranges i + 1 - first ranges i
  several-length = ap length (sym u.regions) ∙ length-each (last ranges i + 1 - first ranges i) _

  pub one-region : first ranges i ≡ last ranges i → has_several h ≡ false
  one-region e = le-ltb 1 (length h.regions) (omega (arith, several-length))

  pub several-regions : (first ranges i ≡ last ranges i → ⊥) → has_several h ≡ true
  several-regions e = lt-ltb 1 (length h.regions) (omega (arith, several-length, u.ascending.some, e))

-- ---- all units

-- the problem of a node that is held
module _ {coefficients ends ranges : List ℕ} {n t d : ℕ} {x : List NodeUnit} (h : NodeHeld coefficients ends ranges n t d x) where
  pub node-problem : Holding coefficients ends ranges n t (problem_at d x)
  node-problem =
      record {
        problem =
            record {
              count = length-map x offer_within ∙ h.node.count;
              few = h.node.few;
              demand = h.demand;
              offers = λ i k. rw (mapped offer_within x i no_unit no_offer (omega (arith, h.node.count))) (unit-offer (h.node.units i k));
            };
        demanded = h.target;
      }

-- ---- the first unit with several regions

map-set : {A B : Type 0} (f : A → B) (xs : List A) (k : ℕ) (x : A) → map f (set xs k x) ≡ set (map f xs) k (f x)
map-set f [] k x = refl
map-set f (y ∷ ys) zero x = refl
map-set f (y ∷ ys) (suc k) x = ap (λ (zs : List _). f y ∷ zs) (map-set f ys k x)

none-several : (x : List NodeUnit) → ((j : ℕ) → j < length x → has_several (get_or x j no_unit) ≡ false) → any_several x ≡ false
none-several [] f = refl
none-several (h ∷ hs) f = rw (f 0 (omega arith)) (none-several hs (λ j k. f (suc j) (omega arith)))

-- unit k of x is the first one
module _ (x : List NodeUnit) where
  abbrev Before : ℕ → Type 0
  Before k = (j : ℕ) → j < k → has_several (get_or x j no_unit) ≡ false

any_at : (x : List NodeUnit) (k : ℕ) → Before x k → k < length x → has_several (get_or x k no_unit) ≡ true → any_several x ≡ true
any_at [] k b l e = absurd (omega arith)
any_at (h ∷ hs) zero b l e = rw e
any_at (h ∷ hs) (suc k) b l e = rw (b 0 (omega arith)) (any_at hs k (λ j m. b (suc j) (omega arith)) (omega arith) e)

divided-at : (part : List Region → List Region) (x : List NodeUnit) (k : ℕ) → Before x k → k < length x → has_several (get_or x k no_unit) ≡ true → divided part x ≡ set x k (record { unit = (get_or x k no_unit).unit; regions = part (get_or x k no_unit).regions })
unfolding divided
divided-at part [] k b l e = absurd (omega arith)
divided-at part (h ∷ hs) zero b l e = rw e
divided-at part (h ∷ hs) (suc k) b l e = rw (b 0 (omega arith)) (ap (λ (ys : List NodeUnit). h ∷ ys) (divided-at part hs k (λ j m. b (suc j) (omega arith)) (omega arith) e))

pub no_several : {coefficients ends ranges : List ℕ} {n : ℕ} {x : List NodeUnit} → HoldsNode coefficients ends ranges n x → FirstSeveral ranges n None → any_several x ≡ false
no_several {n = n} {x = x} h f = none-several x (λ j l. let under : j < n = omega (arith, h.count) in one-region (h.units j under) (f j under))

module _ {coefficients ends ranges : List ℕ} {n k : ℕ} {x : List NodeUnit} (h : HoldsNode coefficients ends ranges n x) (f : SeveralAt ranges n k) where
  none_before : Before x k
  none_before j l = one-region (h.units j (omega (arith, f.place))) (f.before j l)

  abbrev own : NodeUnit
  own = get_or x k no_unit

  abbrev a : ℕ
  a = first ranges k

  abbrev b : ℕ
  b = last ranges k

  unit : HoldsNodeUnit coefficients ends ranges k own
  unit = h.units k f.place

  pub ordered : a < b
  ordered = omega (arith, unit.ascending.some, f.several)

  pub any_several_lem : any_several x ≡ true
  any_several_lem = any_at x k none_before (omega (arith, h.count, f.place)) (several-regions unit (f.several))

  pub small : b < 192
  small = omega (arith, unit.to, h.few)

  -- the other offers are as they were
  offers_exchanged : (part : List Region → List Region) → map offer_within (divided part x) ≡ set (map offer_within x) k (get_or (map offer_within (divided part x)) k no_offer)
  offers_exchanged part =
      let h' : NodeUnit = record { unit = own.unit; regions = part own.regions } in
      let is = divided-at part x k none_before (omega (arith, h.count, f.place)) (several-regions unit (f.several)) in
      let here : get_or (map offer_within (set x k h')) k no_offer ≡ offer_within h' = mapped offer_within (set x k h') k no_unit no_offer (rw length-set (omega (arith, h.count, f.place))) ∙ ap offer_within (get_or-set_same x k h' no_unit (omega (arith, h.count, f.place))) in
      rw is (map-set offer_within x k h' ∙ ap (set (map offer_within x) k) (sym here))

  -- a part of the unit's regions, from c to e
  module _ (part : List Region → List Region) (less : (p : ℕ) (rs : List Region) → in_some p (part rs) ≡ true → in_some p rs ≡ true) (c e : ℕ) (from : a ≤ c) (order : c ≤ e) (to : e ≤ b) (regions : held_from ends c (e + 1 - c) ≡ part own.regions) where
    abbrev ranges' : List ℕ
    ranges' = ranged ranges k c e

    place : 0 < b
    place = omega (arith, ordered)

    new : HoldsNodeUnit coefficients ends ranges' k (record { unit = own.unit; regions = part own.regions })
    new =
        let first-is = ranged-first ranges k c e place in
        let last-is = ranged-last ranges k c e place in
        record {
          unit = unit.unit;
          from = omega (arith, first-is, unit.from);
          to = omega (arith, last-is, unit.to);
          ascending =
              rw (first-is, last-is)
              (record {
                some = order;
                ascending =
                    record {
                      order = λ j s t. unit.ascending.ascending.order j (omega arith) (omega arith);
                      limit = λ j s t. unit.ascending.ascending.limit j (omega arith) (omega arith);
                      apart = λ i j s m t. unit.ascending.ascending.apart i j (omega arith) m (omega arith);
                      stands = λ j s t. unit.ascending.ascending.stands j (omega arith) (omega arith);
                    };
              });
          regions = rw (first-is, last-is) regions;
          permitted = λ p s. unit.permitted p (less p own.regions s);
        }

    other : (i : ℕ) → (i ≡ k → ⊥) → (u : NodeUnit) → HoldsNodeUnit coefficients ends ranges i u → HoldsNodeUnit coefficients ends ranges' i u
    other i d u v =
        let first-is = ranged_first_other ranges k c e place i d in
        let last-is = ranged_last_other ranges k c e place i d in
        record {
          unit = v.unit;
          from = omega (arith, first-is, v.from);
          to = omega (arith, last-is, v.to);
          ascending = rw (first-is, last-is) v.ascending;
          regions = rw (first-is, last-is) v.regions;
          permitted = v.permitted;
        }

    part_held : HoldsNode coefficients ends ranges' n (divided part x)
    part_held =
        rw (divided-at part x k none_before (omega (arith, h.count, f.place)) (several-regions unit (f.several)))
        (record {
          count = rw length-set h.count;
          few = h.few;
          units = λ i l. at i l (ℕ_discrete i k);
        })
      where
        at : (i : ℕ) → i < n → Dec (i ≡ k) → HoldsNodeUnit coefficients ends ranges' i (get_or (set x k (record { unit = own.unit; regions = part own.regions })) i no_unit)
        at i l (yes d) = rw (d, get_or-set_same x k (record { unit = own.unit; regions = part own.regions }) no_unit (omega (arith, h.count, f.place))) new
        at i l (no d) = rw (get_or-set_other x k i (record { unit = own.unit; regions = part own.regions }) no_unit d) (other i d (get_or x i no_unit) (h.units i l))

  several : held_from ends a (b + 1 - a) ≡ record { low = low ends a; high = high ends a } ∷ held_from ends (a + 1) (b + 1 - (a + 1))
  several =
      let more : b + 1 - a ≡ suc (b + 1 - (a + 1)) = omega (arith, ordered) in
      let next : suc a ≡ a + 1 = omega arith in
      rw more (each_from (b + 1 - (a + 1)) a (λ j. record { low = low ends j; high = high ends j }) ∙ rw next)

  pub lowest-held : HoldsNode coefficients ends (ranged ranges k a a) n (divided lowest_of x)
  lowest-held = part_held lowest_of some-lowest a a (omega arith) (omega arith) (omega (arith, ordered)) one
    where
      one : held_from ends a (a + 1 - a) ≡ lowest_of own.regions
      one = let e : a + 1 - a ≡ 1 = omega arith in let z : a + 0 ≡ a = omega arith in rw (e, z, ← unit.regions, several)

  pub rest-held : HoldsNode coefficients ends (ranged ranges k (a + 1) b) n (divided rest_of x)
  rest-held = part_held rest_of some-rest (a + 1) b (omega arith) (omega (arith, ordered)) (omega arith) (rw (← unit.regions, several))

  -- the offers of the parts
  pub lowest_exchanged : map offer_within (divided lowest_of x) ≡ set (map offer_within x) k (get_or (map offer_within (divided lowest_of x)) k no_offer)
  lowest_exchanged = offers_exchanged lowest_of

  pub rest_exchanged : map offer_within (divided rest_of x) ≡ set (map offer_within x) k (get_or (map offer_within (divided rest_of x)) k no_offer)
  rest_exchanged = offers_exchanged rest_of
