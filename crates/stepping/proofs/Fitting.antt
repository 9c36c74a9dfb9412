-- What is known of a run that counts as started: each number's range, and, if it is unfinished, that its numbers are those of its stage.
use Prim.Native.Nat.{ℕ, zero, suc, ◌+◌, ◌-◌, ◌*◌, ◌^◌, ◌≤◌, ◌<◌}
use native.Mathlib.Omega.{arith}
use mathlib.Core.Path.{◌≡◌, refl, sym, ap, ◌∙◌}
use mathlib.Core.Bool.{Bool, true, false, true≢false, ◌&&◌, ◌||◌}
use mathlib.Core.List.{List, [], ◌∷◌}
use mathlib.Core.Logic.{◌⊎◌, inl, inr, ⊎_elim}
use lib.Dec.{leb, ltb, eqb}
use lib.ListN.{length, get_or}
use lib.Pow.{pow_mono, pow_pos}
use borrow.Author.Tests.{leb-true, ltb-true, eqb-true}
use Rattle.rules.specs.Lists.{all}
use Rattle.rules.proofs.Verdicts.{and-true}
use Rattle.bisection.specs.Clauses.{At}
use Rattle.stepping.specs.Runs.{Run, stage_at, stage_of, width_at, stage_fits, amounts_fit, outputs_fit, begun}
use Rattle.stepping.proofs.Widths.{width_power}

pub record Fitting (r : Run) : Type 0 where
  pub started : r.started ≡ 1
  pub stage : stage_fits r.finished r.evaluations r.low ≡ true
  pub evaluations : r.evaluations ≤ 18
  pub cost : r.cost ≤ 35200000000000
  pub surplus : r.surplus ≤ 35200000000000
  pub floor : r.floor ≤ 35200000000000
  pub some : 0 < r.count
  pub few : r.count ≤ 32
  pub length : r.length ≤ 1608
  pub outputs : outputs_fit r.outputs ≡ true

pub fitting : (r : Run) → begun r ≡ true → Fitting r
unfolding begun
fitting r e =
    let a = (and-true (eqb r.started 1) _).0 e in
    let b = (and-true (stage_fits r.finished r.evaluations r.low) _).0 a.1 in
    let c = (and-true (amounts_fit r.cost r.surplus r.floor r.count r.length) (outputs_fit r.outputs)).0 b.1 in
    let cost = (and-true (leb r.cost 35200000000000) _).0 c.0 in
    let surplus = (and-true (leb r.surplus 35200000000000) _).0 cost.1 in
    let floor = (and-true (leb r.floor 35200000000000) _).0 surplus.1 in
    let some = (and-true (ltb 0 r.count) _).0 floor.1 in
    let count = (and-true (leb r.count 32) (leb r.length 1608)).0 some.1 in
    record {
      started = eqb-true r.started 1 a.0;
      stage = b.0;
      evaluations = leb-true r.evaluations 18 ((and-true (leb r.evaluations 18) _).0 b.0).0;
      cost = leb-true r.cost 35200000000000 cost.0;
      surplus = leb-true r.surplus 35200000000000 surplus.0;
      floor = leb-true r.floor 35200000000000 floor.0;
      some = ltb-true 0 r.count some.0;
      few = leb-true r.count 32 count.0;
      length = leb-true r.length 1608 count.1;
      outputs = c.1;
    }

-- ---- and by its tests one after the other, as they are asked

and_regrouped : (a b c d : Bool) → (((a && b) && c) && d) ≡ (a && (b && (c && d)))
and_regrouped false b c d = refl
and_regrouped true false c d = refl
and_regrouped true true c d = refl

pub begun-tested : (r : Run) {x y : Bool} → x ≡ (eqb r.started 1 && stage_fits r.finished r.evaluations r.low) → y ≡ (x && amounts_fit r.cost r.surplus r.floor r.count r.length) → begun r ≡ (y && outputs_fit r.outputs)
unfolding begun
begun-tested r {x} {y} h k =
    let staged = stage_fits r.finished r.evaluations r.low in
    let ranged = amounts_fit r.cost r.surplus r.floor r.count r.length in
    sym (ap (λ (t : Bool). t && outputs_fit r.outputs) (k ∙ ap (λ (t : Bool). t && ranged) h) ∙ and_regrouped (eqb r.started 1) staged ranged (outputs_fit r.outputs))

-- one element of which a test holds
pub all-at : (test : ℕ → Bool) (s : List ℕ) (i : ℕ) → all test s ≡ true → i < length s → test (get_or s i 0) ≡ true
all-at test [] i e h = absurd (omega arith)
all-at test (x ∷ s) zero e h = ((and-true (test x) (all test s)).0 e).0
all-at test (x ∷ s) (suc i) e h = all-at test s i ((and-true (test x) (all test s)).0 e).1 (omega arith)

-- ---- an unfinished run

or_left : (a b : Bool) → a ≡ false → (a || b) ≡ true → b ≡ true
or_left true b f e = absurd (true≢false f)
or_left false b f e = e

-- its low end is 0, or leaves room for the width on both sides of the middle
low_fits : (w low : ℕ) → (eqb low 0 || leb (low + 2 * w) 65536) ≡ true → (low ≡ 0) ⊎ (low + 2 * w ≤ 65536)
low_fits w low h = by (eqb low 0) refl
  where
    by : (t : Bool) → eqb low 0 ≡ t → (low ≡ 0) ⊎ (low + 2 * w ≤ 65536)
    by true e = inl (eqb-true low 0 e)
    by false e = inr (leb-true (low + 2 * w) 65536 (or_left (eqb low 0) _ e h))

pub unfinished-fits : (f e low : ℕ) → stage_fits f e low ≡ true → eqb f 1 ≡ false → (f ≡ 0) × (e < 18) × ((low ≡ 0) ⊎ (low + 2 * width_at e ≤ 65536))
unfinished-fits f e low h u =
    let a = or_left (eqb f 1) _ u ((and-true (leb e 18) _).0 h).1 in
    let b = (and-true (eqb f 0) _).0 a in
    let c = (and-true (ltb e 18) _).0 b.1 in
    (eqb-true f 0 b.0, ltb-true e 18 c.0, low_fits (width_at e) low c.1)

at_stage : (e low : ℕ) → e < 18 → (low ≡ 0) ⊎ (low + 2 * width_at e ≤ 65536) → At (stage_at e low) low (width_at e) e
at_stage zero low h l =
    let w = width_power 0 17 refl in
    (⊎_elim (λ z. z) (λ z. absurd (omega (arith, w))) l, w, refl)
at_stage (suc zero) low h l =
    let w = width_power 1 16 refl in
    (⊎_elim (λ z. z) (λ z. absurd (omega (arith, w))) l, w, refl)
at_stage (suc (suc j)) low h l =
    let s : suc (suc j) + (15 - j) ≡ 17 = omega arith in
    let w = width_power (suc (suc j)) (15 - j) s in
    let small : 2 ^ (15 - j) ≤ 32768 = pow_mono {j = 15} (omega arith) in
    (refl, w, s, ⊎_elim (λ z. omega (arith, w, small)) (λ z. z) l)

pub unfinished-at : (r : Run) → Fitting r → eqb r.finished 1 ≡ false → At (stage_of r) r.low (width_at r.evaluations) r.evaluations
unfolding stage_of
unfinished-at r f u =
    let x = unfinished-fits r.finished r.evaluations r.low f.stage u in
    rw u (at_stage r.evaluations r.low x.1 x.2)

pub unfinished-width : (r : Run) → Fitting r → eqb r.finished 1 ≡ false → width_at r.evaluations ≡ 0 → ⊥
unfinished-width r f u z =
    let x = unfinished-fits r.finished r.evaluations r.low f.stage u in
    let w = width_power r.evaluations (17 - r.evaluations) (omega (arith, x.1)) in
    omega (arith, w, pow_pos (17 - r.evaluations))
