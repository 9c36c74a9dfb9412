-- Outputs in regions that ascend: where each lies beside a given region, and the choice among them from the vertex of the curve.
use mathlib.Core.Path.{◌≡◌, sym}
use mathlib.Core.Bool.{Bool, true, false}
use mathlib.Core.List.{List}
use mathlib.Core.Logic.{◌⊎◌, inl, inr}
use Prim.Native.Nat.{ℕ, ◌+◌, ◌*◌, ◌-◌, ◌≤◌, ◌<◌}
use native.Mathlib.Nat.{mul-le-mul_left}
use native.Mathlib.Decide.{dec_lt, dec_le, ℕ_discrete}
use native.Mathlib.Omega.{arith}
use lib.IntN.{ℤ}
use lib.ListN.{get_or}
use lib.Signed.{◌<ℤ◌, ≤ℤ_refl}
use Rattle.rules.specs.Choice.{better, earlier}
use Rattle.fields.specs.Integers.{positive_part, negative_part}
use Rattle.rules.specs.Offers.{Chosen}
use Rattle.rules.proofs.Economics.Chosen.{alike, agreed, single, lower-better, upper-better, both_tie}
use Rattle.regions.specs.Regions.{low, high}
use Rattle.site.specs.Site.{Within, Regions}
use Rattle.curve.specs.declared.Curve as code
use Rattle.curve.specs.Curve.{height, priced_at}
use Rattle.choice.specs.Clauses.{Reaching, Running, Beside, Choosable}
use Rattle.choice.proofs.Valley.{last-before, first-behind, compared, upper-only, both}
use Rattle.curve.proofs.Heights.{valley, flat, priced-running}

module _ {ends : List ℕ} {begin end : ℕ} (r : Regions ends begin end) where
  -- ---- ends of regions rise

  pub high-rises : (j k : ℕ) → begin ≤ j → j ≤ k → k ≤ end → high ends j ≤ high ends k
  high-rises j k f h t = by (ℕ_discrete j k)
    where
      by : Dec (j ≡ k) → high ends j ≤ high ends k
      by (yes e) = rw e (omega arith)
      by (no n) = omega (arith, r.ascending.apart j k f (omega arith) (omega arith), r.ascending.order k (omega arith) (omega arith))

  pub low-rises : (j k : ℕ) → begin ≤ j → j ≤ k → k ≤ end → low ends j ≤ low ends k
  low-rises j k f h t = by (ℕ_discrete j k)
    where
      by : Dec (j ≡ k) → low ends j ≤ low ends k
      by (yes e) = rw e (omega arith)
      by (no n) = omega (arith, r.ascending.apart j k f (omega arith) (omega arith), r.ascending.order j f (omega arith))

  -- ---- an output in them

  pub from_lowest : (p : ℕ) → Within ends begin end p → low ends begin ≤ p
  from_lowest p w = omega (arith, w.inside.from, low-rises begin w.region (omega arith) w.from (omega (arith, w.to)))

  pub to-highest : (p : ℕ) → Within ends begin end p → p ≤ high ends end
  to-highest p w = omega (arith, w.inside.to, high-rises w.region end w.from (omega (arith, w.to)) (omega arith))

  pub small : (p : ℕ) → Within ends begin end p → p ≤ 10000
  small p w = omega (arith, to-highest p w, r.ascending.limit end r.some (omega arith))

  pub lowest : Within ends begin end (low ends begin)
  lowest = let t : begin < end + 1 = omega (arith, r.some) in record { region = begin; from = omega arith; to = t; inside = record { from = omega arith; to = r.ascending.order begin (omega arith) t } }

  pub highest : Within ends begin end (high ends end)
  highest = record { region = end; from = r.some; to = omega arith; inside = record { from = r.ascending.order end r.some (omega arith); to = omega arith } }

  -- up to a region or from the next one on
  pub parted : (k : ℕ) → begin ≤ k → k < end → (p : ℕ) → Within ends begin end p → (p ≤ high ends k) ⊎ (low ends (k + 1) ≤ p)
  parted k f h p w = by (dec_le w.region k)
    where
      by : Dec (w.region ≤ k) → (p ≤ high ends k) ⊎ (low ends (k + 1) ≤ p)
      by (yes l) = inl (omega (arith, w.inside.to, high-rises w.region k w.from l (omega arith)))
      by (no l) = inr (omega (arith, w.inside.from, low-rises (k + 1) w.region (omega arith) (omega arith) (omega (arith, w.to))))

-- ---- beside the vertex, which region k reaches first

module _ {ends : List ℕ} {begin end : ℕ} {c : code.Curve} {v k : ℕ} {tied : Bool} (b : Beside ends begin end c v tied) (q : Reaching ends begin end v k) where
  abbrev r : Regions ends begin end
  r = b.running.regions

  reached : v ≤ high ends k
  reached = by (dec_lt k end)
    where
      by : Dec (k < end) → v ≤ high ends k
      by (yes h) = q.reaches h
      by (no h) = let e : k ≡ end = omega (arith, q.to) in rw e b.to

  here : low ends k ≤ v → Within ends begin end v
  here h = record { region = k; from = q.from; to = omega (arith, q.to); inside = record { from = h; to = reached } }

  -- with the output before it in the same region
  module _ (h : low ends k < v) where
    one-before : Within ends begin end (v - 1)
    one-before = record { region = k; from = q.from; to = omega (arith, q.to); inside = record { from = omega arith; to = omega (arith, reached) } }

    split : (p : ℕ) → Within ends begin end p → (p ≤ v - 1) ⊎ (v ≤ p)
    split p w = by (dec_lt p v)
      where
        by : Dec (p < v) → (p ≤ v - 1) ⊎ (v ≤ p)
        by (yes l) = inl (omega arith)
        by (no l) = inr (omega arith)

    pub alone : tied ≡ false → Chosen (height c) (Within ends begin end) v v
    alone e = upper-only b.valley (from_lowest r) (to-highest r) (v - 1) v one-before (here (omega arith)) (omega arith) (omega arith) split (b.falls e)

    pub tied_pair : tied ≡ true → Chosen (height c) (Within ends begin end) v (v - 1)
    tied_pair e = both b.valley (from_lowest r) (to-highest r) (v - 1) v one-before (here (omega arith)) (omega arith) (omega arith) split (b.level e)

  -- at the start of a region
  module _ (h : v ≤ low ends k) where
    pub lowest-only : k ≡ begin → Chosen (height c) (Within ends begin end) (low ends k) (low ends k)
    lowest-only e =
        rw e
        (first-behind b.valley (from_lowest r) (to-highest r) (low ends begin) (lowest r) (omega (arith, rw e at h)) (from_lowest r))

    module _ (n : k ≡ begin → ⊥) where
      pub behind-first : begin < k
      behind-first = by (ℕ_discrete begin k)
        where
          by : Dec (begin ≡ k) → begin < k
          by (yes e) = absurd (n (sym e))
          by (no m) = omega (arith, q.from)

      same-high : get_or ends (2 * k - 1) 0 ≡ high ends (k - 1)
      same-high = let e : 2 * k - 1 ≡ 2 * (k - 1) + 1 = omega (arith, behind-first) in rw e

      next : k - 1 + 1 ≡ k
      next = omega (arith, behind-first)

      pub before_small : get_or ends (2 * k - 1) 0 ≤ 10000
      before_small = omega (arith, same-high, r.ascending.limit (k - 1) (omega (arith, behind-first)) (omega (arith, q.to)))

      pub behind-small : low ends k ≤ 10000
      behind-small = omega (arith, r.ascending.order k q.from (omega (arith, q.to)), r.ascending.limit k q.from (omega (arith, q.to)))

      pub between-regions : Chosen (height c) (Within ends begin end) (better (height c) (get_or ends (2 * k - 1) 0) (low ends k)) (earlier (height c) (get_or ends (2 * k - 1) 0) (low ends k))
      between-regions =
          let f = behind-first in
          let last : Within ends begin end (high ends (k - 1)) = record { region = k - 1; from = omega arith; to = omega (arith, q.to); inside = record { from = r.ascending.order (k - 1) (omega arith) (omega (arith, q.to)); to = omega arith } } in
          let one : Within ends begin end (low ends k) = record { region = k; from = q.from; to = omega (arith, q.to); inside = record { from = omega arith; to = r.ascending.order k q.from (omega (arith, q.to)) } } in
          rw same-high
          (compared b.valley (from_lowest r) (to-highest r) (high ends (k - 1)) (low ends k) last one (q.below (k - 1) (omega arith) (omega arith)) h
          (λ p w. rw next at (parted r (k - 1) (omega arith) (omega (arith, q.to)) p w)))

-- ---- an end of running regions, where the vertex lies past it

module _ {ends : List ℕ} {begin end : ℕ} {c : code.Curve} (u : Running ends begin end c) where
  abbrev g : Regions ends begin end
  g = u.regions

  pub past-highest : 2 * (c.square * high ends end) + positive_part c.linear < c.square + negative_part c.linear → Chosen (height c) (Within ends begin end) (high ends end) (high ends end)
  past-highest h =
      last-before (valley c {from = low ends begin} {to = high ends end} {v = high ends end + 1} (λ q _ _ l. omega (arith, mul-le-mul_left c.square l)) (λ l. absurd (omega arith))) (from_lowest g) (to-highest g) (high ends end) (highest g) (omega arith) (to-highest g)

  pub before-lowest : c.square + negative_part c.linear < 2 * (c.square * low ends begin) + positive_part c.linear → Chosen (height c) (Within ends begin end) (low ends begin) (low ends begin)
  before-lowest h =
      first-behind (valley c {from = low ends begin} {to = high ends end} {v = low ends begin} (λ q f l _. absurd (omega arith)) (λ _. omega arith)) (from_lowest g) (to-highest g) (low ends begin) (lowest g) (omega arith) (from_lowest g)

  -- all of them, where the curve is flat
  pub all-tied : c.square ≡ 0 → positive_part c.linear ≡ negative_part c.linear → Chosen (height c) (Within ends begin end) (high ends end) (low ends begin)
  all-tied e f =
      record {
        candidate = highest g;
        tied = lowest g;
        level = flat c e f (low ends begin) (high ends end);
        least = λ p w. rw (flat c e f p (high ends end)) (≤ℤ_refl (height c (high ends end)));
        last = λ p w _. to-highest g p w;
        first = λ p w _. from_lowest g p w;
      }

  -- what is chosen by the curve is chosen by the priced cost
  pub running-chosen : {r l : ℕ} → Chosen (height c) (Within ends begin end) r l → Chosen (priced_at c) (Within ends begin end) r l
  running-chosen k = agreed (λ p w. sym (priced-running c p (omega (arith, from_lowest g p w, u.runs)))) k

-- ---- standing, and running

module _ {ends : List ℕ} {begin end : ℕ} {c : code.Curve} (u : Choosable ends begin end c) where
  abbrev s : Regions ends begin end
  s = u.regions

  pub runs : (high ends begin ≡ 0 → ⊥) → Running ends begin end c
  runs n =
      record {
        few = u.few;
        regions = s;
        runs = by (ℕ_discrete (low ends begin) 0);
        curve = u.curve;
      }
    where
      by : Dec (low ends begin ≡ 0) → 1 ≤ low ends begin
      by (yes e) = absurd (n (s.ascending.stands begin (omega arith) (omega (arith, s.some)) e))
      by (no m) = omega arith

  module _ (z : high ends begin ≡ 0) where
    nothing-below : low ends begin ≡ 0
    nothing-below = omega (arith, s.ascending.order begin (omega arith) (omega (arith, s.some)))

    pub only-stands : {f : ℕ → ℤ} → begin ≡ end → Chosen f (Within ends begin end) 0 0
    only-stands e = alike into back (single 0)
      where
        into : (p : ℕ) → p ≡ 0 → Within ends begin end p
        into p h = record { region = begin; from = omega arith; to = omega (arith, s.some); inside = record { from = omega (arith, nothing-below); to = omega (arith, z) } }

        back : (p : ℕ) → Within ends begin end p → p ≡ 0
        back p w = let f : end ≡ begin = sym e in omega (arith, to-highest s p w, rw (← f) at z)

    module _ (l : begin < end) where
      pub behind-standing : Running ends (begin + 1) end c
      behind-standing =
          record {
            few = u.few;
            regions =
                record {
                  some = omega arith;
                  ascending =
                      record {
                        order = λ k f t. s.ascending.order k (omega arith) t;
                        limit = λ k f t. s.ascending.limit k (omega arith) t;
                        apart = λ j k f h t. s.ascending.apart j k (omega arith) h t;
                        stands = λ k f t. s.ascending.stands k (omega arith) t;
                      };
                };
            runs = omega (arith, s.ascending.apart begin (begin + 1) (omega arith) (omega arith) (omega arith), z);
            curve = u.curve;
          }

      into : (p : ℕ) → (p ≡ 0) ⊎ Within ends (begin + 1) end p → Within ends begin end p
      into p (inl h) = record { region = begin; from = omega arith; to = omega (arith, s.some); inside = record { from = omega (arith, nothing-below); to = omega (arith, z) } }
      into p (inr w) = record { region = w.region; from = omega (arith, w.from); to = w.to; inside = w.inside }

      back : (p : ℕ) → Within ends begin end p → (p ≡ 0) ⊎ Within ends (begin + 1) end p
      back p w = by (ℕ_discrete w.region begin)
        where
          by : Dec (w.region ≡ begin) → (p ≡ 0) ⊎ Within ends (begin + 1) end p
          by (yes e) = inl (omega (arith, rw e at w.inside.to, z))
          by (no n) = inr (record { region = w.region; from = omega (arith, w.from); to = w.to; inside = w.inside })

      positive : (p q : ℕ) → p ≡ 0 → Within ends (begin + 1) end q → p < q
      positive p q e w = omega (arith, from_lowest behind-standing.regions q w, behind-standing.runs)

      module _ {f : ℕ → ℤ} {p l' : ℕ} (k : Chosen f (Within ends (begin + 1) end) p l') where
        pub stands-better : f 0 <ℤ f p → Chosen f (Within ends begin end) 0 0
        stands-better h = alike into back (lower-better (single 0) k positive h)

        pub runs-better : f p <ℤ f 0 → Chosen f (Within ends begin end) p l'
        runs-better h = alike into back (upper-better (single 0) k positive h)

        pub stands_or_runs : f p ≡ f 0 → Chosen f (Within ends begin end) p 0
        stands_or_runs h = alike into back (both_tie (single 0) k positive h)
