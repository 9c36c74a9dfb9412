-- Dual bisection over any type of allocations finds the greatest floor and the cheapest covering choices of the multipliers 0 to 65,536, in at most 18 evaluations.
use mathlib.Core.Path.{◌≡◌, refl, ap, subst, subst⁻¹}
use mathlib.Core.List.{List, [], ◌∷◌, Memᴰ}
use mathlib.Core.Logic.{◌⊎◌, inl, inr, ⊎_elim}
use Prim.Native.Nat.{ℕ, zero, suc, ◌+◌, ◌/◌, ◌^◌, ◌≤◌, ◌<◌}
use native.Mathlib.Decide.{dec_le}
use native.Mathlib.Omega.{arith}
use lib.Dec.{leb, eqb}
use lib.IntN.{ℤ, pos}
use lib.ListN.{length}
use lib.Signed.{◌≤ℤ◌}
use borrow.Author.Tests.{leb-true, leb-false, eqb-true}
use Rattle.rules.specs.Numbers.{greatest_at}
use Rattle.rules.specs.Bisection.{Found, step4, step3, search}
use Rattle.rules.proofs.Verdicts.{either_way}
use Rattle.fields.proofs.Integers.{ints}
use Rattle.rules.proofs.Economics.Greatest.{each_more, greatest_of}
use Rattle.rules.proofs.Economics.Duality.{Relaxation, floor_at, costs-least, zero_costs_least, net-rises, cost-rises, weak_duality, floor-falls, floor-rises, equal-net, floor_zero_not_negative}

-- what is known of the multipliers evaluated so far: 0 is one of them, and none is above 65,536
pub record Seen (ms : List ℕ) : Type 0 where
  pub zero_seen : Memᴰ 0 ms
  pub within : (m : ℕ) → Memᴰ m ms → m ≤ 65536

-- after step 2
first-seen : Seen (0 ∷ [])
first-seen = record { zero_seen = mathlib.Core.List.Memᴰ.head refl; within = each_more (λ m. m ≤ 65536) (omega arith) (λ m h. absurd (mathlib.Core.List.Memᴰ.not-nil h)) }

-- after one evaluation more
seen_more : {m : ℕ} {ms : List ℕ} → m ≤ 65536 → Seen ms → Seen (m ∷ ms)
seen_more h p = record { zero_seen = mathlib.Core.List.Memᴰ.tail p.zero_seen; within = each_more (λ m. m ≤ 65536) h p.within }

-- ---- step 4

-- with ends 2 ^ (k + 1) apart the middle is 2 ^ k above the low end
pub middle-is : (k low : ℕ) → (low + (low + 2 ^ suc k)) / 2 ≡ low + 2 ^ k
middle-is k low = omega arith

-- so that, as the new low end, it has the same high end
pub same-high : (k low : ℕ) → low + 2 ^ suc k ≡ (low + (low + 2 ^ suc k)) / 2 + 2 ^ k
same-high k low = omega arith

module _ {X : Type 0} (choose : ℕ → X) (net : X → ℕ) (target : ℕ) where
  -- the ends of a bracket are evaluated: the choices of `low` do not cover, those of `high` do and are the best
  pub record Bracket (low high : ℕ) (best : X) (ms : List ℕ) : Type 0 where
    pub seen : Seen ms
    pub low-seen : Memᴰ low ms
    pub high-seen : Memᴰ high ms
    pub low-short : net (choose low) < target
    pub high-covers : target ≤ net (choose high)
    pub best-is : best ≡ choose high

  -- the best are the choices of an evaluated multiplier, and their net equals the target
  pub record Equal (m : ℕ) (best : X) (ms : List ℕ) : Type 0 where
    pub seen : Seen ms
    pub one_seen : Memᴰ m ms
    pub equal : net (choose m) ≡ target
    pub best-is : best ≡ choose m

  -- evaluating a middle
  module _ {low middle high : ℕ} {best : X} {ms : List ℕ} (p : Bracket low high best ms) (h : middle ≤ high) where
    middle-seen : Seen (middle ∷ ms)
    middle-seen = seen_more (omega (arith, p.seen.within high p.high-seen)) p.seen

    -- covering: it is the best and the new high
    lower-half : target ≤ net (choose middle) → Bracket low middle (choose middle) (middle ∷ ms)
    lower-half c =
        record {
          seen = middle-seen;
          low-seen = mathlib.Core.List.Memᴰ.tail p.low-seen;
          high-seen = mathlib.Core.List.Memᴰ.head refl;
          low-short = p.low-short;
          high-covers = c;
          best-is = refl;
        }

    -- not covering: it is the new low
    upper-half : net (choose middle) < target → Bracket middle high best (middle ∷ ms)
    upper-half c =
        record {
          seen = middle-seen;
          low-seen = mathlib.Core.List.Memᴰ.head refl;
          high-seen = mathlib.Core.List.Memᴰ.tail p.high-seen;
          low-short = c;
          high-covers = p.high-covers;
          best-is = p.best-is;
        }

    -- equal net: it is the best
    equal-middle : net (choose middle) ≡ target → Equal middle (choose middle) (middle ∷ ms)
    equal-middle e = record { seen = middle-seen; one_seen = mathlib.Core.List.Memᴰ.head refl; equal = e; best-is = refl }

  -- halving ends with equal net, or with adjacent ends
  abbrev pub Halved : Found X → Type 0
  Halved f = ((m : ℕ) × Equal m f.best f.evaluated) ⊎ ((low : ℕ) × Bracket low (suc low) f.best f.evaluated)

  -- by induction on the number of halvings
  pub halving-ends : (k low : ℕ) (best : X) (ms : List ℕ) → Bracket low (low + 2 ^ k) best ms → Halved (step4 choose net target k low best ms)
  unfolding step4
  halving-ends zero low best ms p =
      let e : low + 1 ≡ suc low = omega arith in
      inr (low, rw e at p)
  halving-ends (suc k) low best ms p =
      let high = low + 2 ^ suc k in
      let middle = (low + high) / 2 in
      let h : middle ≤ high = omega arith in
      let x = choose middle in
      either_way Halved (eqb (net x) target) (λ e. inl (middle, equal-middle p h (eqb-true (net x) target e)))
      (λ e. either_way Halved (leb target (net x))
      (λ c. halving-ends k low x (middle ∷ ms) (subst (λ (n : ℕ). Bracket low n x (middle ∷ ms)) (middle-is k low) (lower-half p h (leb-true target (net x) c))))
      (λ c. halving-ends k middle best (middle ∷ ms) (subst (λ (n : ℕ). Bracket middle n best (middle ∷ ms)) (same-high k low) (upper-half p h (leb-false target (net x) c)))))

  -- and evaluates at most one multiplier at each halving
  pub halving-few : (k low : ℕ) (best : X) (ms : List ℕ) → length (step4 choose net target k low best ms).evaluated ≤ length ms + k
  unfolding step4
  halving-few zero low best ms = omega arith
  halving-few (suc k) low best ms =
      let middle = (low + (low + 2 ^ suc k)) / 2 in
      let x = choose middle in
      let few : Found X → Type 0 = λ f. length f.evaluated ≤ length ms + suc k in
      either_way few (eqb (net x) target) (λ e. omega arith)
      (λ e. either_way few (leb target (net x)) (λ c. omega (arith, halving-few k low x (middle ∷ ms))) (λ c. omega (arith, halving-few k middle best (middle ∷ ms))))

-- ---- the whole search

-- what is shown of the search: f is its outcome
pub record Searched {X : Type 0} (Allowed : X → Type 0) (cost net : X → ℕ) (s target : ℕ) (choose : ℕ → X) (value : ℕ → ℤ) (first : X) (f : Found X) : Type 0 where
  -- the best are the first best, or the choices of a multiplier
  pub cases : (f.best ≡ first) ⊎ ((m : ℕ) × (m ≤ 65536) × (f.best ≡ choose m))
  pub allowed : Allowed f.best
  pub covers : target ≤ net f.best
  -- whatever is allowed and covers costs at least the greatest floor evaluated
  pub bound : (y : X) → Allowed y → target ≤ net y → greatest_at (floor_at value s) f.evaluated ≤ℤ pos (cost y)
  -- that is the greatest of the floors of all multipliers
  pub one : (m : ℕ) × (m ≤ 65536) × (floor_at value s m ≡ greatest_at (floor_at value s) f.evaluated)
  pub greatest : (m : ℕ) → m ≤ 65536 → floor_at value s m ≤ℤ greatest_at (floor_at value s) f.evaluated
  pub not_negative : pos 0 ≤ℤ greatest_at (floor_at value s) f.evaluated
  -- choices that cover cost at least as much as the best
  pub cheapest : (m : ℕ) → m ≤ 65536 → target ≤ net (choose m) → cost f.best ≤ cost (choose m)
  pub few : length f.evaluated ≤ 18

module _ {X : Type 0} {Allowed : X → Type 0} {cost net : X → ℕ} {s target : ℕ} {choose : ℕ → X} {value : ℕ → ℤ} (r : Relaxation Allowed cost net s target choose value) (first : X) (first-allowed : Allowed first) (first-covers : target ≤ net first) where
  -- how the search ends, whichever step stops it: the floor of each multiplier is at most that of one evaluated
  record Ending (f : Found X) : Type 0 where
    seen : Seen f.evaluated
    cases : (f.best ≡ first) ⊎ ((m : ℕ) × (m ≤ 65536) × (f.best ≡ choose m))
    covers : target ≤ net f.best
    highest : (n : ℕ) → n ≤ 65536 → (m : ℕ) × Memᴰ m f.evaluated × (floor_at value s n ≤ℤ floor_at value s m)
    cheapest : (n : ℕ) → n ≤ 65536 → target ≤ net (choose n) → cost f.best ≤ cost (choose n)

  -- step 2 stops
  zero-covers : target ≤ net (choose 0) → Ending (record { best = choose 0; evaluated = 0 ∷ [] })
  zero-covers c =
      record {
        seen = first-seen;
        cases = inr (0, omega arith, refl);
        covers = c;
        highest = λ n h. (0, mathlib.Core.List.Memᴰ.head refl, floor-falls r 0 n c (omega arith));
        cheapest = λ n h k. zero_costs_least r (choose n) (r.allowed n);
      }

  -- step 3 stops without cover
  none-covers : net (choose 65536) < target → Ending (record { best = first; evaluated = 65536 ∷ 0 ∷ [] })
  none-covers c =
      record {
        seen = seen_more (omega arith) first-seen;
        cases = inl refl;
        covers = first-covers;
        highest = λ n h. (65536, mathlib.Core.List.Memᴰ.head refl, floor-rises r 65536 n (omega arith) h);
        cheapest = λ n h k. absurd (omega (arith, net-rises r n 65536 h));
      }

  -- step 3 or step 4 stops at equal net
  equal-ends : (f : Found X) (m : ℕ) → Equal choose net target m f.best f.evaluated → Ending f
  equal-ends f m p =
      record {
        seen = p.seen;
        cases = inr (m, p.seen.within m p.one_seen, p.best-is);
        covers = omega (arith, ap net p.best-is, p.equal);
        highest = λ n h. (m, p.one_seen, rw (equal-net r m p.equal) (weak_duality r n (choose m) (r.allowed m) (omega (arith, p.equal))));
        cheapest = λ n h k. rw p.best-is (costs-least r m (choose n) (r.allowed n) (omega (arith, p.equal)));
      }

  -- step 4 stops at adjacent ends
  adjacent-ends : (f : Found X) (low : ℕ) → Bracket choose net target low (suc low) f.best f.evaluated → Ending f
  adjacent-ends f low p =
      record {
        seen = p.seen;
        cases = inr (suc low, p.seen.within (suc low) p.high-seen, p.best-is);
        covers = omega (arith, ap net p.best-is, p.high-covers);
        highest = λ n h. side n (dec_le n low);
        cheapest = λ n h k. rw p.best-is (dearer n k (dec_le n low));
      }
    where
      side : (n : ℕ) → Dec (n ≤ low) → (m : ℕ) × Memᴰ m f.evaluated × (floor_at value s n ≤ℤ floor_at value s m)
      side n (yes k) = (low, p.low-seen, floor-rises r low n (omega (arith, p.low-short)) k)
      side n (no k) = (suc low, p.high-seen, floor-falls r (suc low) n p.high-covers (omega arith))

      dearer : (n : ℕ) → target ≤ net (choose n) → Dec (n ≤ low) → cost (choose (suc low)) ≤ cost (choose n)
      dearer n c (yes k) = absurd (omega (arith, net-rises r n low k, p.low-short))
      dearer n c (no k) = cost-rises r (suc low) n (omega arith)

  -- step 4 stops
  halved_ends : (f : Found X) → Halved choose net target f → Ending f
  halved_ends f = ⊎_elim (λ h. equal-ends f h.0 h.1) (λ h. adjacent-ends f h.0 h.1)

  -- step 2 does not stop
  step3-ends : net (choose 0) < target → Ending (step3 choose net target first)
  unfolding step3
  step3-ends short =
      let x = choose 65536 in
      let ms : List ℕ = 65536 ∷ 0 ∷ [] in
      let seen : Seen ms = seen_more (omega arith) first-seen in
      let top_seen : Memᴰ 65536 ms = mathlib.Core.List.Memᴰ.head refl in
      let zero_seen : Memᴰ 0 ms = mathlib.Core.List.Memᴰ.tail (mathlib.Core.List.Memᴰ.head refl) in
      either_way Ending (leb target (net x)) (λ c. either_way Ending (eqb (net x) target)
      (λ e. equal-ends (record { best = x; evaluated = ms }) 65536 (record { seen = seen; one_seen = top_seen; equal = eqb-true (net x) target e; best-is = refl }))
      (λ e. halved_ends (step4 choose net target 16 0 x ms) (halving-ends choose net target 16 0 x ms (record { seen = seen; low-seen = zero_seen; high-seen = top_seen; low-short = short; high-covers = leb-true target (net x) c; best-is = refl }))))
      (λ c. none-covers (leb-false target (net x) c))

  -- whichever step stops
  search-ends : Ending (search choose net target first)
  unfolding search
  search-ends =
      let x = choose 0 in
      either_way Ending (leb target (net x)) (λ c. zero-covers (leb-true target (net x) c)) (λ c. step3-ends (leb-false target (net x) c))

  -- two evaluations, and at most 16 halvings
  search-few : length (search choose net target first).evaluated ≤ 18
  unfolding search step3
  search-few =
      let few : Found X → Type 0 = λ f. length f.evaluated ≤ 18 in
      let x = choose 65536 in
      either_way few (leb target (net (choose 0))) (λ c. omega arith)
      (λ c. either_way few (leb target (net x))
      (λ d. either_way few (eqb (net x) target) (λ e. omega arith) (λ e. omega (arith, halving-few choose net target 16 0 x (65536 ∷ 0 ∷ []))))
      (λ d. omega arith))

  -- 0 is evaluated, and nothing above 65,536
  pub evaluated-seen : Seen (search choose net target first).evaluated
  evaluated-seen = search-ends.seen

  -- the law of the dual bisection
  pub searched : Searched Allowed cost net s target choose value first (search choose net target first)
  searched =
      let p = search-ends in
      let top = greatest_of (floor_at value s) p.seen.zero_seen in
      record {
        cases = p.cases;
        allowed = ⊎_elim (λ e. subst⁻¹ Allowed e first-allowed) (λ h. subst⁻¹ Allowed h.2 (r.allowed h.0)) p.cases;
        covers = p.covers;
        bound = λ y a c. rw (← top.one.2) (weak_duality r top.one.0 y a c);
        one = (top.one.0, p.seen.within top.one.0 top.one.1, top.one.2);
        greatest = λ m h. omega (arith, ints, (p.highest m h).2, top.each (p.highest m h).0 (p.highest m h).1);
        not_negative = omega (arith, ints, floor_zero_not_negative r, top.each 0 p.seen.zero_seen);
        cheapest = p.cheapest;
        few = search-few;
      }

  -- where no allowed allocation has more net than the first best, the best never costs more than it
  pub below-first : ((y : X) → Allowed y → net y ≤ net first) → cost (search choose net target first).best ≤ cost first
  below-first top = ⊎_elim (λ e. omega (arith, ap cost e)) (λ h. omega (arith, ap cost h.2, costs-least r h.0 first first-allowed (top (choose h.0) (r.allowed h.0)))) search-ends.cases
