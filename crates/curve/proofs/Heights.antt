-- A unit's coefficients in the arrays: the range of all that is computed of them, for `omega`, which bounds no product itself; and the curve that they make, which is the unit's priced cost where it runs, and falls and rises by its steps.
use mathlib.Core.Path.{◌≡◌, refl, ap, subst, ◌∙◌}
use mathlib.Core.List.{List}
use Prim.Native.Nat.{ℕ, ◌+◌, ◌*◌, ◌-◌, ◌/◌, ◌%◌, ◌≤◌, ◌<◌}
use native.Mathlib.Nat.{le_refl, mul-le-mul, mul-le-mul_left, mul-le-mul_right, mul-div-le, mod-add-div, lt-mul-div-succ, le-div_iff_mul-le, div-lt_iff_lt-mul}
use native.Mathlib.Decide.{ℕ_discrete}
use native.Mathlib.Omega.{arith}
use lib.IntN.{ℤ, pos, ◌-ℤ◌}
use lib.Signed.{◌<ℤ◌}
use borrow.Author.Tests.{ne_eqb}
use mir.Syntax.{w64}
use mir.Val.{SFits, to_z, of_z}
use Rattle.rules.specs.Unit.{Unit, cost, linear_factor, net}
use Rattle.rules.specs.Choice.{priced_cost}
use Rattle.fields.specs.Integers.{Is, positive_part, negative_part}
use Rattle.fields.proofs.Integers.{is_pos, is-sub, is_minus, cast, fits, kept, same, under, up_is, dn_is}
use Rattle.rules.specs.Sound.{Sound}
use Rattle.rules.proofs.Economics.Quantities.{factor, cost-running, cost-standing, net-whole, priced-is}
use Rattle.site.specs.Site.{factor_at, c0_at, c1_at, c2_at, b_at, Coefficients}
use Rattle.curve.specs.declared.Curve as code
use Rattle.curve.specs.Curve.{height, priced_at, IsCurve, InRange, Valley}
use Rattle.curve.specs.Clauses.{AtOutput, AtMultiplier}

-- ---- numbers in range

-- the coefficients of unit i
pub record Limits (coefficients : List ℕ) (i : ℕ) : Type 0 where
  pub c0 : c0_at coefficients i ≤ 1000000000
  pub c1 : c1_at coefficients i ≤ 10000000
  pub c2 : c2_at coefficients i ≤ 1000
  pub b : b_at coefficients i ≤ 5000
  pub factor : factor_at coefficients i ≤ 110000000
  pub above : 19999 * b_at coefficients i < factor_at coefficients i

limits : {coefficients : List ℕ} {i : ℕ} {u : Unit} → Coefficients coefficients i u → Limits coefficients i
limits h =
    let s = h.sound in
    record { c0 = omega (arith, h.c0, s.c0); c1 = omega (arith, h.c1, s.c1); c2 = omega (arith, h.c2, s.c2); b = omega (arith, h.b, s.b); factor = omega (arith, h.factor, (factor s.losses).greatest); above = omega (arith, h.b, h.factor, (factor s.losses).above) }

-- at an output
pub record AtOutputRange (coefficients : List ℕ) (i p : ℕ) : Type 0 where
  pub limits : Limits coefficients i
  pub few : i < 32
  pub square : c2_at coefficients i * p ≤ 10000000
  pub slope : (c1_at coefficients i + c2_at coefficients i * p) * p ≤ 200000000000
  pub small : b_at coefficients i * p ≤ 50000000
  pub loss : b_at coefficients i * p ≤ factor_at coefficients i
  pub net : (factor_at coefficients i - b_at coefficients i * p) * p ≤ 1100000000000

pub at-output : {coefficients : List ℕ} {i p : ℕ} → AtOutput coefficients i p → AtOutputRange coefficients i p
at-output {coefficients} {i} {p} h =
    let l = limits h.holds in
    let square : c2_at coefficients i * p ≤ 1000 * 10000 = mul-le-mul l.c2 h.output in
    record {
      limits = l;
      few = h.few;
      square = square;
      slope = mul-le-mul {n₂ = 20000000} {m₂ = 10000} (omega (arith, l.c1, square)) h.output;
      small = mul-le-mul l.b h.output;
      loss = omega (arith, mul-le-mul (le_refl (b_at coefficients i)) h.output, l.above);
      net = mul-le-mul {n₂ = 110000000} {m₂ = 10000} (omega (arith, l.factor)) h.output;
    }

-- at a multiplier
pub record AtMultiplierRange (coefficients : List ℕ) (i m : ℕ) : Type 0 where
  pub limits : Limits coefficients i
  pub few : i < 32
  pub multiplier : m ≤ 65536
  pub loss : m * b_at coefficients i ≤ 327680000
  pub price : factor_at coefficients i * m ≤ 7208960000000

pub at-multiplier : {coefficients : List ℕ} {i m : ℕ} → AtMultiplier coefficients i m → AtMultiplierRange coefficients i m
at-multiplier h = let l = limits h.holds in record { limits = l; few = h.few; multiplier = h.multiplier; loss = mul-le-mul h.multiplier l.b; price = mul-le-mul l.factor h.multiplier }

-- ---- cost and net, as they are computed

module _ {coefficients : List ℕ} {i : ℕ} {u : Unit} (h : Coefficients coefficients i u) (p : ℕ) where
  pub cost-computed : 1 ≤ p → c0_at coefficients i + (c1_at coefficients i + c2_at coefficients i * p) * p ≡ cost u p
  cost-computed k = rw (h.c0, h.c1, h.c2) (omega (arith, cost-running u p k))

  pub net-computed : p ≤ 10000 → (factor_at coefficients i - b_at coefficients i * p) * p ≡ net u p
  net-computed k =
      let loss : u.b * p ≤ u.b * 10000 = mul-le-mul (le_refl u.b) k in
      let whole : (linear_factor u - u.b * p) + u.b * p ≡ linear_factor u = omega (arith, loss, (factor h.sound.losses).above) in
      rw (h.b, h.factor) (omega (arith, net-whole h.sound k, ap (λ (n : ℕ). n * p) whole))

-- ---- the curve, as it is computed

module _ {coefficients : List ℕ} {i m : ℕ} (h : AtMultiplier coefficients i m) where
  r : AtMultiplierRange coefficients i m
  r = at-multiplier h

  abbrev line : ℤ
  line = to_z w64 (100000 * c1_at coefficients i) -ℤ to_z w64 (factor_at coefficients i * m)

  line-is : Is line (100000 * c1_at coefficients i + 0) (0 + factor_at coefficients i * m)
  line-is = is_minus (cast _ (omega (arith, r.limits.c1))) (cast _ (omega (arith, r.price)))

  pub line-fits : SFits w64 line
  line-fits = fits line-is (omega (arith, r.limits.c1)) (omega (arith, r.price))

  line_read : Is (to_z w64 (of_z w64 line)) (100000 * c1_at coefficients i) (factor_at coefficients i * m)
  line_read = record { is = omega (arith, kept line-is (omega (arith, r.limits.c1)) (omega (arith, r.price))) }

  abbrev computed : code.Curve
  computed =
      record {
        square = 100000 * c2_at coefficients i + m * b_at coefficients i;
        linear = to_z w64 (of_z w64 line);
        constant = 100000 * c0_at coefficients i;
      }

  pub curve-computed : InRange computed × ((u : Unit) → Coefficients coefficients i u → IsCurve m u computed)
  curve-computed = (
    record {
      square = omega (arith, r.loss, r.limits.c2);
      above = omega (arith, up_is line_read, r.limits.c1);
      below = omega (arith, dn_is line_read, r.price);
      constant = omega (arith, r.limits.c0);
    },
    λ u k. record { square = rw (k.c2, k.b); linear = record { is = omega (arith, line_read, k.c1, ap (λ (n : ℕ). n * m) k.factor) }; constant = rw k.c0 },
  )

-- ---- the curve

pub height-is : (c : code.Curve) (p : ℕ) → Is (height c p) (c.square * (p * p) + positive_part c.linear * p + c.constant) (negative_part c.linear * p)
unfolding height
height-is c p = is-sub (c.square * (p * p) + positive_part c.linear * p + c.constant) (negative_part c.linear * p)

pub priced-running : (c : code.Curve) (p : ℕ) → 1 ≤ p → priced_at c p ≡ height c p
unfolding priced_at
priced-running c p h = rw (ne_eqb p 0 (λ e. omega arith))

pub priced-standing : (c : code.Curve) → priced_at c 0 ≡ pos 0
unfolding priced_at
priced-standing c = refl

-- at a running output it is the unit's priced cost
running-curve : {m : ℕ} {u : Unit} {c : code.Curve} → Sound u → IsCurve m u c → (p : ℕ) → 1 ≤ p → p ≤ 10000 → height c p ≡ priced_cost m u p
running-curve {m} {u} {c} s k p l h =
    let linear : positive_part c.linear * p + linear_factor u * m * p ≡ 100000 * u.c1 * p + negative_part c.linear * p = omega (arith, ap (λ (n : ℕ). n * p) k.linear.is) in
    let square : c.square * (p * p) ≡ (100000 * u.c2 + m * u.b) * (p * p) = ap (λ (n : ℕ). n * (p * p)) k.square in
    same (height-is c p) (priced-is m u p) (omega (arith, cost-running u p l, ap (λ (n : ℕ). m * n) (net-whole s h), linear, square, k.constant))

pub priced-curve : {m : ℕ} {u : Unit} {c : code.Curve} → Sound u → IsCurve m u c → (p : ℕ) → p ≤ 10000 → priced_at c p ≡ priced_cost m u p
priced-curve {m} {u} {c} s k p h = by (ℕ_discrete p 0)
  where
    by : Dec (p ≡ 0) → priced_at c p ≡ priced_cost m u p
    by (yes e) =
        let none : net u 0 ≡ 0 = omega (arith, net-whole s {p = 0} (omega arith)) in
        rw e (priced-standing c ∙ same (is_pos 0) (priced-is m u 0) (omega (arith, cost-standing u, ap (λ (n : ℕ). m * n) none)))
    by (no n) = priced-running c p (omega arith) ∙ running-curve s k p (omega arith) h

-- ---- its steps: it does not rise up to v, if the step into v does not, and rises from v, if the step out of v does

module _ (c : code.Curve) where
  abbrev a : ℕ
  a = c.square

  abbrev s : ℕ
  s = positive_part c.linear

  abbrev t : ℕ
  t = negative_part c.linear

  squared : (j : ℕ) → 0 < j → a * j ≤ a * (j * j)
  squared j h = omega (arith, mul-le-mul_left (a * j) h)

  rise : (r j : ℕ) → 0 < j → t < 2 * (a * r) + a + s → t * j + j ≤ a * (2 * (r * j) + j * j) + s * j
  rise r j h k = omega (arith, squared j h, mul-le-mul_right j k)

  fall : (p j : ℕ) → 0 < j → 2 * (a * (p + j)) + s < a + t → a * (2 * (p * j) + j * j) + s * j + j ≤ t * j
  fall p j h k = omega (arith, squared j h, mul-le-mul_right j k)

  -- the value at p, with n put for p
  value : (p n : ℕ) → p ≡ n → Is (height c p) (a * (n * n) + s * n + c.constant) (t * n)
  value p n e = subst (λ (m : ℕ). Is (height c p) (a * (m * m) + s * m + c.constant) (t * m)) e (height-is c p)

  rising : (p q : ℕ) → p < q → t < 2 * (a * p) + a + s → height c p <ℤ height c q
  rising p q l k =
      let e : q ≡ p + (q - p) = omega arith in
      under (value p p refl) (value q (p + (q - p)) e) (omega (arith, rise p (q - p) (omega arith) k))

  falling : (p q : ℕ) → p < q → 2 * (a * q) + s < a + t → height c q <ℤ height c p
  falling p q l k =
      let e : q ≡ p + (q - p) = omega arith in
      under (value q (p + (q - p)) e) (value p p refl) (omega (arith, fall p (q - p) (omega arith) (rw (← e) k)))

  pub valley : {from to v : ℕ} → ((q : ℕ) → from < q → q < v → q ≤ to → 2 * (a * q) + s < a + t) → (v < to → t < 2 * (a * v) + a + s) → Valley (height c) from to v
  valley {from} {to} {v} into out =
      record {
        falls = λ p q f l e h. falling p q l (into q (omega arith) h e);
        rises = λ p q f l e h. rising p q l (omega (arith, out (omega arith), mul-le-mul_left a h));
      }

  -- where the curve is flat
  pub flat : a ≡ 0 → s ≡ t → (p q : ℕ) → height c p ≡ height c q
  flat e f p q =
      same (height-is c p) (height-is c q) (omega (arith, ap (λ (n : ℕ). n * (p * p)) e, ap (λ (n : ℕ). n * (q * q)) e, ap (λ (n : ℕ). n * p) f, ap (λ (n : ℕ). n * q) f))

  -- the vertex, as a quotient
  module _ (positive : 0 < a) (h : s ≤ a + t) where
    abbrev vertex : ℕ
    vertex = (a + t - s) / (2 * a)

    pub vertex-valley : {from to : ℕ} → Valley (height c) from to ((a + t - s) / (2 * a))
    vertex-valley =
        valley {v = vertex} (λ q _ k _. omega (arith, mul-div-le (a + t - s) (2 * a), mul-le-mul_left (2 * a) k)) (λ _. omega (arith, lt-mul-div-succ (a + t - s) {b = 2 * a} (omega arith)))

    pub vertex-from : (p : ℕ) → 2 * (a * p) + s ≤ a + t → p ≤ (a + t - s) / (2 * a)
    vertex-from p k = (le-div_iff_mul-le {k = 2 * a} {x = p} {y = a + t - s} (omega arith)).1 (omega arith)

    pub vertex-to : (p : ℕ) → a + t ≤ 2 * (a * p) + s → (a + t - s) / (2 * a) ≤ p
    vertex-to p k = omega (arith, (div-lt_iff_lt-mul {k = 2 * a} {x = a + t - s} {y = p + 1} (omega arith)).1 (omega arith))

    -- the step into it is level where the quotient is exact, and else falls
    pub vertex-level : 1 ≤ vertex → (a + t - s) % (2 * a) ≡ 0 → height c vertex ≡ height c (vertex - 1)
    vertex-level k e =
        let p = vertex - 1 in
        let next : vertex ≡ p + 1 = omega arith in
        let exact : 2 * a * vertex ≡ a + t - s = omega (arith, mod-add-div (a + t - s) (2 * a)) in
        same (value vertex (p + 1) next) (value p p refl) (omega (arith, ap (λ (n : ℕ). 2 * a * n) next))

    pub vertex-falls : 1 ≤ vertex → 0 < (a + t - s) % (2 * a) → height c vertex <ℤ height c (vertex - 1)
    vertex-falls k e = falling (vertex - 1) vertex (omega arith) (omega (arith, mod-add-div (a + t - s) (2 * a)))
