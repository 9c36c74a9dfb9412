-- Zones that share an edge (`SharedEdges` in specs/). The rule as it was and the rule as it is part only where two neighbouring zones share an edge; and there the shared edge is a region of one output.
use Rattle.std.specs.Prelude.{Ok}
use Prim.Native.Nat.{ℕ, zero, suc, ◌+◌, ◌-◌, ◌%◌, ◌≤◌, ◌<◌, max, min}
use mathlib.Core.Bool.{Bool, true, false, cond, not, ◌&&◌, ◌||◌, true≢false}
use mathlib.Core.List.{List, [], ◌∷◌, ◌++◌, map}
use mathlib.Core.Logic.{◌⊎◌, inl, inr, ⊎_elim, ◌↔◌}
use mathlib.Core.Path.{◌≡◌, refl, sym, ap, ap₂, ◌∙◌, subst, subst⁻¹}
use native.Mathlib.Decide.{dec_lt}
use native.Mathlib.Omega.{arith}
use lib.Dec.{ltb, leb, eqb}
use lib.ListN.{length}
use borrow.Author.Tests.{lt-ltb, le-leb, leb-true, ltb-true, eq-eqb}
use Rattle.rules.specs.Lists.{each}
use Rattle.rules.specs.Unit.{Unit, Zone, zone_at, zones, permitted, strictly_inside, in_ramp_window}
use Rattle.rules.specs.Layout.{unit_of_body, body_length, edition, count, body, unit_at, units_of_rows}
use Rattle.rules.specs.Refusal.{◌refuses◌, ◌then◌, in_order, edition_verdict, head_verdict, contents_verdict, zones_ascend, starts_above, zone_count_invalid, coefficient_out_of_range, losses_out_of_range, limits_invalid, ramp_or_mark_out_of_range, unit_verdict, body_verdict, file_verdict, Verdict}
use Rattle.rules.specs.Regions.{Region, intervals, windowed, left_of, regions}
use Rattle.rules.specs.Problem.{problem_in}
use Rattle.rules.specs.Bisection.{solvable}
use Rattle.rules.specs.Calls.{case_verdict, dispatch_verdict, dispatch_ends, dispatched, price_verdict, price_ends, priced, file_length, pack_verdict, pack_ends, packed_in, packed, unpack_verdict, unpack_ends, unpacked}
use Rattle.rules.specs.SharedEdges.{InOrder, NineExactlyOutOfOrder, CallsAsBefore, zones_rise, limits_invalid_before, unit_verdict_by, unit_verdict_before, body_verdict_before, file_verdict_before, dispatched_before, priced_before, unpacked_before, pack_verdict_before, packed_before, shares_edge, NoSharedEdge, SameWithoutSharedEdge, AcceptedStays, SharedEdgePermitted}
use Rattle.rules.specs.declared.Refusal.TheVariants.{
  BufferTooShort,
  MultiplierOutOfRange,
  DemandOutOfRange,
  ZoneCountInvalid,
  CoefficientOutOfRange,
  LossesOutOfRange,
  LimitsInvalid,
  RampOrMarkOutOfRange,
  NoAllocation,
  RowsInvalid,
  FileBufferTooShort,
}
use Rattle.rules.proofs.Lists.{each_same}
use Rattle.rules.proofs.Verdicts.{or_false, and-true, not_is_false, either_way, refuses-accepted, then_accepted, in_order_each}
use Rattle.rules.proofs.Sound.{sound, zone-parts, ascending}
use Rattle.rules.proofs.Zones.{outside, before-zone, after-zone, within-zone}
use Rattle.rules.proofs.Economics.Outputs.{runs-permitted}

-- ---- zones in order, by the two rules

-- what rises strictly is in order
rise-ascend : (below above : ℕ) (zs : List Zone) → zones_rise below zs above ≡ true → (starts_above below zs ≡ true) × (zones_ascend below zs above ≡ true)
unfolding zones_ascend
rise-ascend below above [] e = (refl, e)
rise-ascend below above (z ∷ zs) e =
    let both = (and-true (ltb below z.lower && ltb z.lower z.upper) (zones_rise z.upper zs above)).0 e in
    let first = (and-true (ltb below z.lower) (ltb z.lower z.upper)).0 both.0 in
    (first.0, rw (le-leb below z.lower (omega (arith, ltb-true below z.lower first.0)), first.1, (rise-ascend z.upper above zs both.1).1))

-- what is in order and shares no edge rises strictly
ascend-rise : (below above : ℕ) (zs : List Zone) → shares_edge zs ≡ false → starts_above below zs ≡ true → zones_ascend below zs above ≡ true → zones_rise below zs above ≡ true
unfolding zones_ascend
ascend-rise below above [] s e a = a
ascend-rise below above (z ∷ []) s e a = let parts = zone-parts below above z [] a in rw (e, lt-ltb z.lower z.upper parts.1) parts.2
ascend-rise below above (z ∷ y ∷ zs) s e a =
    let parts = zone-parts below above z (y ∷ zs) a in
    let later = zone-parts z.upper above y zs parts.2 in
    let apart = (or_false (eqb z.upper y.lower) (shares_edge (y ∷ zs))).0 s in
    rw (e, lt-ltb z.lower z.upper parts.1) (ascend-rise z.upper above (y ∷ zs) apart.1 (lt-ltb z.upper y.lower (less z.upper y.lower apart.0 later.0)) parts.2)
  where
    less : (a b : ℕ) → eqb a b ≡ false → a ≤ b → a < b
    less a b n h = by (dec_lt a b)
      where
        by : Dec (a < b) → a < b
        by (yes k) = k
        by (no k) = absurd (true≢false (sym (eq-eqb a b (omega arith)) ∙ n))

-- two tests that hold of the same are the same
same_test : (a b : Bool) → (a ≡ true → b ≡ true) → (b ≡ true → a ≡ true) → a ≡ b
same_test true b f g = sym (f refl)
same_test false true f g = g refl
same_test false false f g = refl

-- ---- zones in order, by their places

-- of n zones f 0, f 1, .. from a number on
record AscendAt (n : ℕ) (f : ℕ → Zone) (from above : ℕ) : Type 0 where
  whole : from < above
  first : 0 < n → from ≤ (f 0).lower
  order : (k : ℕ) → k < n → (f k).lower < (f k).upper
  below : (k : ℕ) → k < n → (f k).upper < above
  next : (k : ℕ) → suc k < n → (f k).upper ≤ (f (suc k)).lower

ascend-at : (n : ℕ) (f : ℕ → Zone) (from above : ℕ) → zones_ascend from (each n f) above ≡ true → AscendAt n f from above
unfolding zones_ascend
ascend-at zero f from above a =
    record { whole = ltb-true from above a; first = λ h. absurd (omega arith); order = λ k h. absurd (omega arith); below = λ k h. absurd (omega arith); next = λ k h. absurd (omega arith) }
ascend-at (suc n) f from above a =
    let parts = zone-parts from above (f 0) (each n (λ k. f (suc k))) a in
    let r = ascend-at n (λ k. f (suc k)) (f 0).upper above parts.2 in
    record { whole = omega (arith, parts, r.whole); first = λ h. parts.0; order = order parts r; below = below r; next = next r }
  where
    order : (from ≤ (f 0).lower) × ((f 0).lower < (f 0).upper) × (zones_ascend (f 0).upper (each n (λ k. f (suc k))) above ≡ true) → AscendAt n (λ k. f (suc k)) (f 0).upper above → (k : ℕ) → k < suc n → (f k).lower < (f k).upper
    order parts r zero h = parts.1
    order parts r (suc k) h = r.order k (omega arith)

    below : AscendAt n (λ k. f (suc k)) (f 0).upper above → (k : ℕ) → k < suc n → (f k).upper < above
    below r zero h = r.whole
    below r (suc k) h = r.below k (omega arith)

    next : AscendAt n (λ k. f (suc k)) (f 0).upper above → (k : ℕ) → suc k < suc n → (f k).upper ≤ (f (suc k)).lower
    next r zero h = r.first (omega arith)
    next r (suc k) h = r.next k (omega arith)

at-ascend : (n : ℕ) (f : ℕ → Zone) (from above : ℕ) → AscendAt n f from above → zones_ascend from (each n f) above ≡ true
unfolding zones_ascend
at-ascend zero f from above r = lt-ltb from above r.whole
at-ascend (suc n) f from above r =
    rw (le-leb from (f 0).lower (r.first (omega arith)), lt-ltb (f 0).lower (f 0).upper (r.order 0 (omega arith)))
    (at-ascend n (λ k. f (suc k)) (f 0).upper above
    (record { whole = r.below 0 (omega arith); first = λ h. r.next 0 (omega arith); order = λ k h. r.order (suc k) (omega arith); below = λ k h. r.below (suc k) (omega arith); next = λ k h. r.next (suc k) (omega arith) }))

-- every lower edge is above what the first is above
above-all : (n : ℕ) (f : ℕ → Zone) (from above : ℕ) → AscendAt n f from above → from < (f 0).lower → (k : ℕ) → k < n → from < (f k).lower
above-all n f from above r first zero h = first
above-all n f from above r first (suc k) h = omega (arith, above-all n f from above r first k (omega arith), r.order k (omega arith), r.next k h)

starts-above : (n : ℕ) (f : ℕ → Zone) (least : ℕ) → (starts_above least (each n f) ≡ true) ↔ (0 < n → least < (f 0).lower)
starts-above zero f least = (λ e h. absurd (omega arith), λ h. refl)
starts-above (suc n) f least = (λ e h. ltb-true least (f 0).lower e, λ h. lt-ltb least (f 0).lower (h (omega arith)))

-- ---- a unit

module _ (u : Unit) where
  abbrev tests : Bool
  tests = leb 1 u.least && ltb u.least u.greatest && leb u.greatest 10000

  abbrev starts : Bool
  starts = starts_above u.least (zones u)

  abbrev ascends : Bool
  ascends = zones_ascend u.least (zones u) u.greatest

  limits-ordered : limits_invalid u ≡ false → InOrder u
  unfolding zones
  limits-ordered e =
      let both = (and-true tests (starts && ascends)).0 ((not_is_false (tests && (starts && ascends))).0 e) in
      let limits = (and-true (leb 1 u.least && ltb u.least u.greatest) (leb u.greatest 10000)).0 both.0 in
      let low = (and-true (leb 1 u.least) (ltb u.least u.greatest)).0 limits.0 in
      let fit = (and-true starts ascends).0 both.1 in
      let r = ascend-at u.zone_count (zone_at u.edges) u.least u.greatest fit.1 in
      let first = (starts-above u.zone_count (zone_at u.edges) u.least).0 fit.0 in
      record {
        least = leb-true 1 u.least low.0;
        range = ltb-true u.least u.greatest low.1;
        greatest = leb-true u.greatest 10000 limits.1;
        above = λ k h. above-all u.zone_count (zone_at u.edges) u.least u.greatest r (first (omega arith)) k h;
        order = r.order;
        below = r.below;
        next = r.next;
      }

  ordered-limits : InOrder u → limits_invalid u ≡ false
  unfolding zones
  ordered-limits o =
      let ordered = at-ascend u.zone_count (zone_at u.edges) u.least u.greatest (record { whole = o.range; first = λ h. omega (arith, o.above 0 h); order = o.order; below = o.below; next = o.next }) in
      let first = (starts-above u.zone_count (zone_at u.edges) u.least).1 (o.above 0) in
      (not_is_false (tests && (starts && ascends))).1
      ((and-true tests (starts && ascends)).1 (
        (and-true (leb 1 u.least && ltb u.least u.greatest) (leb u.greatest 10000)).1
            ((and-true (leb 1 u.least) (ltb u.least u.greatest)).1 (le-leb 1 u.least o.least, lt-ltb u.least u.greatest o.range), le-leb u.greatest 10000 o.greatest),
        (and-true starts ascends).1 (first, ordered),
      ))

pub nine_exactly : NineExactlyOutOfOrder
nine_exactly u = (limits-ordered u, ordered-limits u)

module _ (u : Unit) where
  abbrev fit : Bool
  fit = starts_above u.least (zones u) && zones_ascend u.least (zones u) u.greatest

  abbrev rise : Bool
  rise = zones_rise u.least (zones u) u.greatest

  abbrev limits : Bool
  limits = leb 1 u.least && ltb u.least u.greatest && leb u.greatest 10000

  rise-fit : rise ≡ true → fit ≡ true
  rise-fit e = (and-true (starts_above u.least (zones u)) (zones_ascend u.least (zones u) u.greatest)).1 (rise-ascend u.least u.greatest (zones u) e)

  same-limits : shares_edge (zones u) ≡ false → limits_invalid u ≡ limits_invalid_before u
  same-limits s =
      ap (λ (t : Bool). not (limits && t))
      (same_test fit rise
      (λ e. let both = (and-true (starts_above u.least (zones u)) (zones_ascend u.least (zones u) u.greatest)).0 e in ascend-rise u.least u.greatest (zones u) s both.0 both.1)
      rise-fit)

  stays-valid : limits_invalid_before u ≡ false → limits_invalid u ≡ false
  stays-valid e =
      let both = (and-true limits rise).0 ((not_is_false (limits && rise)).0 e) in
      (not_is_false (limits && fit)).1 ((and-true limits fit).1 (both.0, rise-fit both.1))

  verdict-by : unit_verdict u ≡ unit_verdict_by (limits_invalid u) u
  unfolding unit_verdict
  verdict-by = refl

  same-verdict : limits_invalid u ≡ limits_invalid_before u → unit_verdict u ≡ unit_verdict_before u
  same-verdict e = verdict-by ∙ ap (λ (t : Bool). unit_verdict_by t u) e

  stays-accepted : unit_verdict_before u ≡ Ok tt → unit_verdict u ≡ Ok tt
  stays-accepted e =
      let count = (then_accepted (zone_count_invalid u refuses ZoneCountInvalid) (coefficient_out_of_range u refuses CoefficientOutOfRange then losses_out_of_range u refuses LossesOutOfRange then limits_invalid_before u refuses LimitsInvalid then ramp_or_mark_out_of_range u refuses RampOrMarkOutOfRange)).0 e in
      let coefficients = (then_accepted (coefficient_out_of_range u refuses CoefficientOutOfRange) (losses_out_of_range u refuses LossesOutOfRange then limits_invalid_before u refuses LimitsInvalid then ramp_or_mark_out_of_range u refuses RampOrMarkOutOfRange)).0 count.1 in
      let losses = (then_accepted (losses_out_of_range u refuses LossesOutOfRange) (limits_invalid_before u refuses LimitsInvalid then ramp_or_mark_out_of_range u refuses RampOrMarkOutOfRange)).0 coefficients.1 in
      let before = (then_accepted (limits_invalid_before u refuses LimitsInvalid) (ramp_or_mark_out_of_range u refuses RampOrMarkOutOfRange)).0 losses.1 in
      let valid = (refuses-accepted (limits_invalid_before u) LimitsInvalid).0 before.0 in
      same-verdict (stays-valid valid ∙ sym valid) ∙ e

-- ---- a file, and rows

bodies-same : (e : ℕ) (s : List ℕ) → unit_verdict (unit_of_body e s) ≡ unit_verdict_before (unit_of_body e s) → body_verdict e s ≡ body_verdict_before e s
unfolding body_verdict
bodies-same e s h = ap (λ (v : Verdict). (ltb 4 (unit_of_body e s).zone_count || not (eqb (length s) (body_length e (unit_of_body e s).zone_count))) refuses ZoneCountInvalid then v) h

module _ (file : List ℕ) where
  abbrev now : ℕ → Verdict
  now i = body_verdict (edition file) (body file i)

  abbrev was : ℕ → Verdict
  was i = body_verdict_before (edition file) (body file i)

  same-file : ((i : ℕ) → i < count file → now i ≡ was i) → file_verdict file ≡ file_verdict_before file
  unfolding file_verdict
  same-file h = ap (λ (vs : List Verdict). head_verdict file then contents_verdict file then in_order vs) (each_same (count file) now was h)

  file_without : NoSharedEdge file → file_verdict file ≡ file_verdict_before file
  file_without n = same-file (λ i h. bodies-same (edition file) (body file i) (same-verdict (unit_at file i) (same-limits (unit_at file i) (n i h))))

  file-accepted : file_verdict_before file ≡ Ok tt → file_verdict file ≡ file_verdict_before file
  file-accepted e =
      let head = (then_accepted (head_verdict file) (contents_verdict file then in_order (each (count file) was))).0 e in
      let bodies = ((then_accepted (contents_verdict file) (in_order (each (count file) was))).0 head.1).1 in
      same-file
      (λ i h.
      let u = unit_at file i in
      let ok = (in_order_each (count file) was).0 bodies i h in
      let unit = ((then_accepted ((ltb 4 u.zone_count || not (eqb (length (body file i)) (body_length (edition file) u.zone_count))) refuses ZoneCountInvalid) (unit_verdict_before u)).0 ok).1 in
      bodies-same (edition file) (body file i) (stays-accepted u unit ∙ sym unit))

  same-price : file_verdict file ≡ file_verdict_before file → (m : ℕ) → priced file m ≡ priced_before file m
  unfolding priced price_verdict case_verdict
  same-price e m = ap (λ (v : Verdict). price_ends (ltb 65536 m refuses MultiplierOutOfRange then v then not (solvable (problem_in file)) refuses NoAllocation) file m) e

  same_unpack : file_verdict file ≡ file_verdict_before file → (rows : List ℕ) → unpacked file rows ≡ unpacked_before file rows
  unfolding unpacked unpack_verdict
  same_unpack e rows = ap (λ (v : Verdict). unpack_ends (ltb (length rows) 608 refuses BufferTooShort then edition_verdict 1 file then v) file rows) e

  same-dispatch : file_verdict file ≡ file_verdict_before file → (reply : List ℕ) → dispatched file reply ≡ dispatched_before file reply
  unfolding dispatched dispatch_verdict case_verdict
  same-dispatch e reply = ap (λ (v : Verdict). dispatch_ends (ltb (length reply) 92 refuses BufferTooShort then v then not (solvable (problem_in file)) refuses NoAllocation) file reply) e

calls_as_before : (file : List ℕ) → file_verdict file ≡ file_verdict_before file → CallsAsBefore file
calls_as_before file e = record { verdict = e; dispatches = same-dispatch file e; prices = same-price file e; unpacks = same_unpack file e }

units-accepted : (us : List Unit) → in_order (map unit_verdict_before us) ≡ Ok tt → in_order (map unit_verdict us) ≡ Ok tt
units-accepted [] e = refl
units-accepted (u ∷ us) e =
    let both = (then_accepted (unit_verdict_before u) (in_order (map unit_verdict_before us))).0 e in
    (then_accepted (unit_verdict u) (in_order (map unit_verdict us))).1 (stays-accepted u both.0, units-accepted us both.1)

rows-accepted : (d : ℕ) (rows file : List ℕ) → pack_verdict_before d rows file ≡ Ok tt → packed d rows file ≡ packed_before d rows file
unfolding packed_in pack_verdict
rows-accepted d rows file e =
    let us = units_of_rows rows [] in
    let form = (eqb (length rows) 0 || not (eqb (length rows % 19) 0) || ltb 608 (length rows)) refuses RowsInvalid in
    let demand = ltb 320000 d refuses DemandOutOfRange in
    let room = ltb (length file) (file_length 1 us) refuses FileBufferTooShort in
    let units = in_order (map unit_verdict_before us) in
    let first = (then_accepted form (demand then units then room)).0 e in
    let second = (then_accepted demand (units then room)).0 first.1 in
    let third = ((then_accepted units room).0 second.1).0 in
    ap (λ (v : Verdict). pack_ends (form then demand then v then room) 1 d rows [] file) (units-accepted us third ∙ sym third)

pub same_without_shared_edge : SameWithoutSharedEdge
same_without_shared_edge = record { units = same-limits; files = λ file n. calls_as_before file (file_without file n) }

pub accepted-stays : AcceptedStays
accepted-stays = record { units = stays-valid; files = λ file e. calls_as_before file (file-accepted file e); rows = rows-accepted }

-- ---- the shared edge

-- outside every zone, between the limits
module _ (y z : Zone) (behind : List Zone) (shared : y.upper ≡ z.lower) where
  point-outside : (from above : ℕ) (before : List Zone) → zones_ascend from (before ++ (y ∷ z ∷ behind)) above ≡ true → (from ≤ y.upper) × (y.upper ≤ above) × (outside y.upper (before ++ (y ∷ z ∷ behind)) ≡ true)
  point-outside from above [] a =
      let parts = zone-parts from above y (z ∷ behind) a in
      let next = zone-parts y.upper above z behind parts.2 in
      let top = (ascending z.upper above behind next.2).0 in
      (omega (arith, parts), omega (arith, next, top), after-zone y.upper y (z ∷ behind) (omega arith) ∙ before-zone y.upper y.upper above z behind parts.2 (omega arith))
  point-outside from above (x ∷ xs) a =
      let parts = zone-parts from above x (xs ++ (y ∷ z ∷ behind)) a in
      let later = point-outside x.upper above xs parts.2 in
      (omega (arith, parts, later.0), later.1, after-zone y.upper x (xs ++ (y ∷ z ∷ behind)) later.0 ∙ later.2)

inside-later : (y z : Zone) (behind : List Zone) (p : ℕ) (before : List Zone) → outside p (before ++ (y ∷ z ∷ behind)) ≡ true → outside p (y ∷ z ∷ behind) ≡ true
inside-later y z behind p [] e = e
inside-later y z behind p (x ∷ xs) e = inside-later y z behind p xs ((and-true (not (strictly_inside p x)) (outside p (xs ++ (y ∷ z ∷ behind)))).0 e).1

-- both zones lie above the lower limit, each with its edges in order
two-ordered : (y z : Zone) (behind : List Zone) (from above : ℕ) (before : List Zone) → zones_ascend from (before ++ (y ∷ z ∷ behind)) above ≡ true → (from ≤ y.lower) × (y.lower < y.upper) × (z.lower < z.upper)
two-ordered y z behind from above [] a =
    let parts = zone-parts from above y (z ∷ behind) a in
    (parts.0, parts.1, (zone-parts y.upper above z behind parts.2).1)
two-ordered y z behind from above (x ∷ xs) a =
    let parts = zone-parts from above x (xs ++ (y ∷ z ∷ behind)) a in
    let later = two-ordered y z behind x.upper above xs parts.2 in
    (omega (arith, parts, later.0), later.1, later.2)

-- r is one of some regions
record Has (r : Region) (rs : List Region) : Type 0 where
  front : List Region
  back : List Region
  parts : rs ≡ front ++ (r ∷ back)

has_behind : (r q : Region) (rs : List Region) → Has r rs → Has r (q ∷ rs)
has_behind r q rs h = record { front = q ∷ h.front; back = h.back; parts = ap (λ (xs : List Region). q ∷ xs) h.parts }

has_later : (u : Unit) (r q : Region) (rs : List Region) → Has r (left_of u rs) → Has r (left_of u (q ∷ rs))
has_later u r q rs h = either_way (Has r) (leb (windowed u q).low (windowed u q).high) (λ _. has_behind r (windowed u q) (left_of u rs) h) (λ _. h)

-- an output in the ramp window, as an interval, is not cut
whole : (u : Unit) (p : ℕ) → in_ramp_window u p ≡ true → ◌≡◌ {A = Region} (windowed u (record { low = p; high = p })) (record { low = p; high = p })
whole u p w = by (ltb 0 u.previous) w
  where
    by : (b : Bool) → cond b (leb (u.previous - u.down) p && leb p (u.previous + u.up)) true ≡ true → ◌≡◌ {A = Region} (cond b (record { low = max p (u.previous - u.down); high = min p (u.previous + u.up) }) (record { low = p; high = p })) (record { low = p; high = p })
    by true e =
        let both = (and-true (leb (u.previous - u.down) p) (leb p (u.previous + u.up))).0 e in
        let from = leb-true (u.previous - u.down) p both.0 in
        let to = leb-true p (u.previous + u.up) both.1 in
        ap₂ (λ (a b : ℕ). record { low = a; high = b }) (omega arith) (omega arith)
    by false e = refl

has_first : (u : Unit) (p : ℕ) (rs : List Region) → in_ramp_window u p ≡ true → Has (record { low = p; high = p }) (left_of u (record { low = p; high = p } ∷ rs))
has_first u p rs w =
    subst⁻¹ (λ (r : Region). Has (record { low = p; high = p }) (cond (leb r.low r.high) (r ∷ left_of u rs) (left_of u rs))) (whole u p w)
    (rw (le-leb p p (omega arith)) (record { front = []; back = left_of u rs; parts = refl }))

module _ (u : Unit) where
  has_point : (y z : Zone) (behind : List Zone) → y.upper ≡ z.lower → in_ramp_window u y.upper ≡ true → (from above : ℕ) (before : List Zone) → Has (record { low = y.upper; high = y.upper }) (left_of u (intervals from (before ++ (y ∷ z ∷ behind)) above))
  unfolding intervals
  has_point y z behind shared w from above [] =
      let rest = intervals z.upper behind above in
      has_later u (record { low = y.upper; high = y.upper }) (record { low = from; high = y.lower }) (record { low = y.upper; high = z.lower } ∷ rest)
      (subst (λ (p : ℕ). Has (record { low = y.upper; high = y.upper }) (left_of u (record { low = y.upper; high = p } ∷ intervals z.upper behind above))) shared (has_first u y.upper rest w))
  has_point y z behind shared w from above (x ∷ xs) =
      has_later u (record { low = y.upper; high = y.upper }) (record { low = from; high = x.lower }) (intervals x.upper (xs ++ (y ∷ z ∷ behind)) above) (has_point y z behind shared w x.upper above xs)

  regions-point : (y z : Zone) (before behind : List Zone) → zones u ≡ before ++ (y ∷ z ∷ behind) → y.upper ≡ z.lower → in_ramp_window u y.upper ≡ true → Has (record { low = y.upper; high = y.upper }) (regions u)
  unfolding regions
  regions-point y z before behind listed shared w =
      let running : Has (record { low = y.upper; high = y.upper }) (left_of u (intervals u.least (zones u) u.greatest)) = subst⁻¹ (λ (zs : List Zone). Has (record { low = y.upper; high = y.upper }) (left_of u (intervals u.least zs u.greatest))) listed (has_point y z behind shared w u.least u.greatest before) in
      by (eqb u.mark 0) running
    where
      by : (b : Bool) → Has (record { low = y.upper; high = y.upper }) (left_of u (intervals u.least (zones u) u.greatest)) → Has (record { low = y.upper; high = y.upper }) (cond b (record { low = 0; high = 0 } ∷ []) [] ++ left_of u (intervals u.least (zones u) u.greatest))
      by true h = has_behind (record { low = y.upper; high = y.upper }) (record { low = 0; high = 0 }) (left_of u (intervals u.least (zones u) u.greatest)) h
      by false h = h

at_or_below : (a b : ℕ) → a ≤ b → (a ≡ b) ⊎ (a < b)
at_or_below a b h = by (dec_lt a b)
  where
    by : Dec (a < b) → (a ≡ b) ⊎ (a < b)
    by (yes k) = inr k
    by (no k) = inl (omega arith)

pub shared_edge_permitted : SharedEdgePermitted
shared_edge_permitted u before behind y z accepted window listed shared =
    let s = sound u accepted in
    let ordered : zones_ascend u.least (before ++ (y ∷ z ∷ behind)) u.greatest ≡ true = subst (λ (zs : List Zone). zones_ascend u.least zs u.greatest ≡ true) listed s.ascend in
    let at = point-outside y z behind shared u.least u.greatest before ordered in
    let two = two-ordered y z behind u.least u.greatest before ordered in
    let has = regions-point u y z before behind listed shared window in
    let avoids : (p : ℕ) → 0 < p → permitted u p ≡ true → outside p (y ∷ z ∷ behind) ≡ true =
    λ p h k. inside-later y z behind p before (subst (λ (zs : List Zone). outside p zs ≡ true) listed ((runs-permitted u p h).0 k).outside) in
    record {
      edge = (runs-permitted u y.upper (omega (arith, s.least, at.0))).1 (record { least = at.0; greatest = at.1; outside = subst⁻¹ (λ (zs : List Zone). outside y.upper zs ≡ true) listed at.2; window = window });
      below = λ p e k. omega (arith, within-zone p y (z ∷ behind) (omega arith) (avoids p (omega (arith, s.least, two)) k), two);
      above = λ k.
          let o = avoids (suc y.upper) (omega arith) k in
          let later = ((and-true (not (strictly_inside (suc y.upper) y)) (outside (suc y.upper) (z ∷ behind))).0 o).1 in
          ⊎_elim (λ q. q) (λ q. absurd (omega (arith, within-zone (suc y.upper) z behind q later))) (at_or_below (suc y.upper) z.upper (omega (arith, two)));
      before = has.front;
      behind = has.back;
      region = has.parts;
    }
