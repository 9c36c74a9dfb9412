-- A search stopped after any number of evaluations: how many it has made, what its best and its floors are worth by then, and when it is finished. Each law is shown of one evaluation more, and then of n by induction.
use mathlib.Core.Path.{◌≡◌, refl, sym, ap, ◌∙◌, subst⁻¹}
use mathlib.Core.Bool.{Bool, true, false, cond}
use mathlib.Core.List.{List, [], ◌∷◌}
use mathlib.Core.Logic.Dec
use Prim.Native.Nat.{ℕ, zero, suc, ◌+◌, ◌^◌, ◌≤◌, ◌<◌, max}
use native.Mathlib.Nat.{le_refl}
use native.Mathlib.Omega.{arith}
use lib.Dec.{eqb, leb}
use lib.IntN.{ℤ, pos}
use lib.ListN.{length}
use lib.Signed.{le_z, ◌≤ℤ◌}
use borrow.Author.Tests.{leb-true}
use Rattle.fields.proofs.Integers.{ints, itself, is_pos, one-zero, when_le, when_gt}
use Rattle.rules.specs.Lists.{True, Every}
use Rattle.rules.specs.Numbers.{natural, greatest_at}
use Rattle.rules.specs.Problem.{total_cost, total_net, Problem, units_of, target}
use Rattle.rules.specs.Offers.{Given, Proper}
use Rattle.rules.specs.Choice.{selected, dual_value, floor, greatest_floor}
use Rattle.rules.specs.Bisection.{Found, search, greatest_outputs, solvable, found}
use Rattle.rules.specs.Stages.{Stage, at_zero, at_top, halving, finished, next_multiplier, halving_left, Standing, evaluated_next, advanced, after}
use Rattle.stepping.specs.Claims.{greatest_so_far, after_of}
use Rattle.rules.proofs.Verdicts.{either_way}
use Rattle.rules.proofs.Economics.Quantities.{natural-up}
use Rattle.rules.proofs.Economics.Duality.{Relaxation, costs-least, zero_costs_least, cost-rises, weak_duality, floor_zero_not_negative}
use Rattle.rules.proofs.Economics.Stages.{FromZero, Seen, advanced-next, after-seen, after-finished}
use Rattle.rules.proofs.Economics.Allocations.{relaxation, greatest-given, greatest-net}
use Rattle.rules.proofs.Economics.Lowering.{selected-tied}
use Rattle.rules.proofs.Economics.Solvable.{solvable-available, solvable-covers}

-- ---- stages

-- the stage tells how many evaluations there were; finished, only that they were at most 18
abbrev pub Placed : Stage → ℕ → Type 0
Placed at_zero e = e ≡ 0
Placed at_top e = e ≡ 1
Placed (halving k low) e = (e + k ≡ 17) × (low + 2 ^ suc k ≤ 65536)
Placed finished e = e ≤ 18

pub done : (stage : Stage) → Dec (stage ≡ finished)
done at_zero = no (λ e. let z : ◌≡◌ {A = ℕ} 0 1 = cc in omega arith)
done at_top = no (λ e. let z : ◌≡◌ {A = ℕ} 0 1 = cc in omega arith)
done (halving k low) = no (λ e. let z : ◌≡◌ {A = ℕ} 0 1 = cc in omega arith)
done finished = yes refl

-- after 18 it is finished; the next multiplier is in range
placed-known : (stage : Stage) (e : ℕ) → Placed stage e → (18 ≤ e → stage ≡ finished) × (next_multiplier stage ≤ 65536)
placed-known at_zero e p = (λ h. absurd (omega (arith, p)), omega arith)
placed-known at_top e p = (λ h. absurd (omega (arith, p)), omega arith)
placed-known (halving k low) e p = (λ h. absurd (omega (arith, p.0)), omega (arith, p.1))
placed-known finished e p = (λ h. refl, omega arith)

placed-left : (k low e : ℕ) → e + k ≡ 17 → low + 2 ^ k ≤ 65536 → Placed (halving_left k low) (suc e)
placed-left zero low e p h = omega arith
placed-left (suc k) low e p h = (omega arith, h)

-- ---- one evaluation more

module _ {X : Type 0} (choose : ℕ → X) (net : X → ℕ) (target : ℕ) where
  abbrev stands : Stage → X → List ℕ → Standing X
  stands stage best ms = record { best = best; evaluated = ms; stage = stage }

  -- what holds of a standing, and of it with the next evaluation, holds whether or not it is finished
  either-stands : (P : Standing X → Type 0) (stage : Stage) (best : X) (ms : List ℕ) → let s = stands stage best ms in P s → P (evaluated_next choose net target stage s) → P (advanced choose net target s)
  unfolding advanced
  either-stands P at_zero best ms p e = e
  either-stands P at_top best ms p e = e
  either-stands P (halving k low) best ms p e = e
  either-stands P finished best ms p e = p

  either-advanced : (P : Standing X → Type 0) (s : Standing X) → P s → P (evaluated_next choose net target s.stage s) → P (advanced choose net target s)
  either-advanced P s = either-stands P s.stage s.best s.evaluated

  -- finished it stays as it is, and else one evaluation more is counted
  pub advanced-finished : (s : Standing X) → s.stage ≡ finished → advanced choose net target s ≡ s
  unfolding advanced
  advanced-finished s e = subst⁻¹ (λ (st : Stage). advanced choose net target (stands st s.best s.evaluated) ≡ stands st s.best s.evaluated) e refl

  pub advanced_counts : (s : Standing X) → (s.stage ≡ finished → ⊥) → length (advanced choose net target s).evaluated ≡ suc (length s.evaluated)
  advanced_counts s h = ap (λ (r : Standing X). length r.evaluated) (advanced-next choose net target s s.stage refl h)

  placed_by : (stage : Stage) (best : X) (ms : List ℕ) → Placed stage (length ms) → let s = advanced choose net target (stands stage best ms) in Placed s.stage (length s.evaluated)
  unfolding advanced
  placed_by at_zero best ms p = either_way (λ (st : Stage). Placed st (suc (length ms))) (leb target (net (choose 0))) (λ _. omega (arith, p)) (λ _. omega (arith, p))
  placed_by at_top best ms p =
      let x = choose 65536 in
      let placed : Stage → Type 0 = λ st. Placed st (suc (length ms)) in
      either_way placed (eqb (net x) target) (λ _. omega (arith, p)) (λ _. either_way placed (leb target (net x)) (λ _. (omega (arith, p), omega arith)) (λ _. omega (arith, p)))
  placed_by (halving k low) best ms p =
      let x = choose (low + 2 ^ k) in
      let placed : Stage → Type 0 = λ st. Placed st (suc (length ms)) in
      either_way placed (eqb (net x) target) (λ _. omega (arith, p.0))
      (λ _. either_way placed (leb target (net x)) (λ _. placed-left k low (length ms) p.0 (omega (arith, p.1))) (λ _. placed-left k (low + 2 ^ k) (length ms) p.0 (omega (arith, p.1))))
  placed_by finished best ms p = p

  pub advanced-placed : (s : Standing X) → Placed s.stage (length s.evaluated) → let r = advanced choose net target s in Placed r.stage (length r.evaluated)
  advanced-placed s p = placed_by s.stage s.best s.evaluated p

  -- ---- n evaluations

  module _ (first : X) where
    abbrev at : ℕ → Standing X
    at n = after choose net target n first

    pub after-placed : (n : ℕ) → let s = after choose net target n first in Placed s.stage (length s.evaluated)
    after-placed zero = refl
    after-placed (suc n) = advanced-placed (at n) (after-placed n)

    -- no multiplier is above 65,536
    pub after-multipliers : (n : ℕ) → Every (λ m. m ≤ 65536) (after choose net target n first).evaluated
    after-multipliers zero = tt
    after-multipliers (suc n) = either-advanced (λ s. Every (λ m. m ≤ 65536) s.evaluated) (at n) (after-multipliers n) ((placed-known (at n).stage (length (at n).evaluated) (after-placed n)).1, after-multipliers n)

    -- once it is finished nothing changes; until then every evaluation counts
    pub after-still : (n : ℕ) → (after choose net target n first).stage ≡ finished → after choose net target (suc n) first ≡ after choose net target n first
    after-still n e = advanced-finished (at n) e

    pub after_counts : (n : ℕ) → ((after choose net target n first).stage ≡ finished → ⊥) → length (after choose net target n first).evaluated ≡ n
    after_counts zero h = refl
    after_counts (suc n) h =
        let before : (at n).stage ≡ finished → ⊥ = λ e. h (ap (λ (s : Standing X). s.stage) (after-still n e) ∙ e) in
        advanced_counts (at n) before ∙ ap suc (after_counts n before)

    few : (n : ℕ) → length (at n).evaluated ≤ n
    few zero = omega arith
    few (suc n) = either-advanced (λ s. length s.evaluated ≤ suc n) (at n) (omega (arith, few n)) (omega (arith, few n))

    -- ---- it is finished from the number of evaluations of the whole search on, and not before

    abbrev whole : ℕ
    whole = length (search choose net target first).evaluated

    finished-whole : (n : ℕ) → (at n).stage ≡ finished → whole ≡ length (at n).evaluated
    finished-whole n e = ap (λ (f : Found X). length f.evaluated) (after-finished choose net target n first e).0

    -- by induction on how many are left of 18
    finished-by : (k n : ℕ) → 18 ≤ n + k → whole ≤ n → (at n).stage ≡ finished
    finished-by zero n h w = (Dec.not-not (done (at n).stage)).0 (λ c. c ((placed-known (at n).stage (length (at n).evaluated) (after-placed n)).0 (omega (arith, after_counts n c))))
    finished-by (suc k) n h w = (Dec.not-not (done (at n).stage)).0 (λ c. omega (arith, finished-whole (suc n) (finished-by k (suc n) (omega arith) (omega arith)), advanced_counts (at n) c, after_counts n c))

    pub finished_from : (n : ℕ) → length (search choose net target first).evaluated ≤ n → (after choose net target n first).stage ≡ finished
    finished_from n h = finished-by 18 n (omega arith) h

    pub not-finished : (n : ℕ) → n < length (search choose net target first).evaluated → (after choose net target n first).stage ≡ finished → ⊥
    not-finished n h e = omega (arith, few n, finished-whole n e)

    pub count_until : (n : ℕ) → n ≤ length (search choose net target first).evaluated → length (after choose net target n first).evaluated ≡ n
    count_until zero h = refl
    count_until (suc n) h = let c = not-finished n (omega arith) in advanced_counts (at n) c ∙ ap suc (after_counts n c)

    pub count-from : (n : ℕ) → length (search choose net target first).evaluated ≤ n → length (after choose net target n first).evaluated ≡ length (search choose net target first).evaluated
    count-from n h = sym (finished-whole n (finished_from n h))

    -- ---- until it is finished the best is the first best, or the choice of the upper end

    abbrev Kept : Stage → X → Type 0
    Kept at_zero best = best ≡ first
    Kept at_top best = best ≡ first
    Kept (halving k low) best = best ≡ choose (low + 2 ^ suc k)
    Kept finished best = True

    kept-left : (k low : ℕ) (best : X) → best ≡ choose (low + 2 ^ k) → Kept (halving_left k low) best
    kept-left zero low best e = tt
    kept-left (suc k) low best e = e

    both_ways : (P : Stage → X → Type 0) (t : Bool) {covering short : Stage} {x best : X} → P covering x → P short best → P (cond t covering short) (cond t x best)
    both_ways P true p q = p
    both_ways P false p q = q

    kept_by : (stage : Stage) (best : X) (ms : List ℕ) → Kept stage best → let s = advanced choose net target (stands stage best ms) in Kept s.stage s.best
    unfolding advanced
    kept_by at_zero best ms p = both_ways Kept (leb target (net (choose 0))) tt p
    kept_by at_top best ms p = let x = choose 65536 in either_way (λ (st : Stage). Kept st (cond (leb target (net x)) x best)) (eqb (net x) target) (λ _. tt) (λ _. both_ways Kept (leb target (net x)) refl tt)
    kept_by (halving k low) best ms p =
        let m = low + 2 ^ k in
        let x = choose m in
        let same : low + 2 ^ suc k ≡ m + 2 ^ k = omega arith in
        either_way (λ (st : Stage). Kept st (cond (leb target (net x)) x best)) (eqb (net x) target) (λ _. tt) (λ _. both_ways Kept (leb target (net x)) (kept-left k low x refl) (kept-left k m best (p ∙ ap choose same)))
    kept_by finished best ms p = tt

    after_kept : (n : ℕ) → Kept (at n).stage (at n).best
    after_kept zero = refl
    after_kept (suc n) = kept_by (at n).stage (at n).best (at n).evaluated (after_kept n)

-- ---- the best is allowed and covers

module _ {X : Type 0} {Allowed : X → Type 0} {cost net : X → ℕ} {s target : ℕ} {choose : ℕ → X} {value : ℕ → ℤ} (r : Relaxation Allowed cost net s target choose value) (first : X) (a : Allowed first) (c : target ≤ net first) (g : (y : X) → Allowed y → net y ≤ net first) where
  abbrev stood : ℕ → Standing X
  stood n = after choose net target n first

  abbrev next_of : ℕ → X
  next_of n = choose (next_multiplier (stood n).stage)

  pub after-allowed : (n : ℕ) → Allowed (after choose net target n first).best
  after-allowed zero = a
  after-allowed (suc n) = either-advanced choose net target (λ t. Allowed t.best) (stood n) (after-allowed n) (either_way Allowed (leb target (net (next_of n))) (λ _. r.allowed (next_multiplier (stood n).stage)) (λ _. after-allowed n))

  pub after-covers : (n : ℕ) → target ≤ net (after choose net target n first).best
  after-covers zero = c
  after-covers (suc n) = either-advanced choose net target (λ t. target ≤ net t.best) (stood n) (after-covers n) (either_way (λ (x : X). target ≤ net x) (leb target (net (next_of n))) (λ t. leb-true target (net (next_of n)) t) (λ _. after-covers n))

  next_cheaper : (stage : Stage) (best : X) → Allowed best → Kept choose net target first stage best → cost (choose (next_multiplier stage)) ≤ cost best
  next_cheaper at_zero best b k = zero_costs_least r best b
  next_cheaper at_top best b k = rw k (costs-least r 65536 first a (g (choose 65536) (r.allowed 65536)))
  next_cheaper (halving j low) best b k = rw k (cost-rises r (low + 2 ^ j) (low + 2 ^ suc j) (omega arith))
  next_cheaper finished best b k = zero_costs_least r best b

  -- it never costs more than before
  pub after_cheaper : (n : ℕ) → cost (after choose net target (suc n) first).best ≤ cost (after choose net target n first).best
  after_cheaper n =
      let x = (stood n).best in
      either-advanced choose net target (λ t. cost t.best ≤ cost x) (stood n) (le_refl (cost x)) (either_way (λ (y : X). cost y ≤ cost x) (leb target (net (next_of n))) (λ _. next_cheaper (stood n).stage x (after-allowed n) (after_kept choose net target first n)) (λ _. le_refl (cost x)))

-- ---- floors

-- the greater of a natural number and an integer
greater : (n : ℕ) (z : ℤ) → pos (max n (natural z)) ≡ cond (le_z z (pos n)) (pos n) z
greater n z =
    either_way (λ (y : ℤ). pos (max n (natural z)) ≡ y) (le_z z (pos n)) (λ e. omega (arith, ints, natural-up z, one-zero z, is_pos n, is_pos (max n (natural z)), when_le (itself z) (is_pos n) e))
    (λ e. omega (arith, ints, natural-up z, one-zero z, is_pos (max n (natural z)), when_gt (itself z) (is_pos n) e))

module _ (f : ℕ → ℤ) where
  -- with 0 evaluated first it is the greatest floor
  pub so_far_greatest : pos 0 ≤ℤ f 0 → (ms : List ℕ) → FromZero ms → pos (greatest_so_far f ms) ≡ greatest_at f ms
  unfolding greatest_at
  so_far_greatest h [] e = absurd e
  so_far_greatest h (m ∷ []) e = omega (arith, ints, natural-up (f m), one-zero (f m), is_pos 0, is_pos (max 0 (natural (f m))), subst⁻¹ (λ (k : ℕ). pos 0 ≤ℤ f k) e h)
  so_far_greatest h (m ∷ n ∷ ms) e = greater (greatest_so_far f (n ∷ ms)) (f m) ∙ ap (λ (z : ℤ). cond (le_z (f m) z) z (f m)) (so_far_greatest h (n ∷ ms) e)

  -- what no floor exceeds it does not exceed
  pub so_far_bounded : (b : ℕ) (ms : List ℕ) → ((m : ℕ) → f m ≤ℤ pos b) → greatest_so_far f ms ≤ b
  so_far_bounded b [] h = omega arith
  so_far_bounded b (m ∷ ms) h = omega (arith, ints, natural-up (f m), one-zero (f m), is_pos b, h m, so_far_bounded b ms h)

-- ---- of a problem

module _ (q : Problem) where
  -- it is finished from the number of evaluations of the whole search on, and not before

  pub after_of_finished : (n : ℕ) → length (found q).evaluated ≤ n → (after_of q n).stage ≡ finished
  unfolding found
  after_of_finished = finished_from (λ m. selected m q) (total_net (units_of q)) (target q) (greatest_outputs q)

  pub after_of_not_finished : (n : ℕ) → n < length (found q).evaluated → (after_of q n).stage ≡ finished → ⊥
  unfolding found
  after_of_not_finished = not-finished (λ m. selected m q) (total_net (units_of q)) (target q) (greatest_outputs q)

  pub after_of_count_until : (n : ℕ) → n ≤ length (found q).evaluated → length (after_of q n).evaluated ≡ n
  unfolding found
  after_of_count_until = count_until (λ m. selected m q) (total_net (units_of q)) (target q) (greatest_outputs q)

  pub after_of_count_from : (n : ℕ) → length (found q).evaluated ≤ n → length (after_of q n).evaluated ≡ length (found q).evaluated
  unfolding found
  after_of_count_from = count-from (λ m. selected m q) (total_net (units_of q)) (target q) (greatest_outputs q)

  -- finished it is what the whole search found
  finished-found : (n : ℕ) → (after_of q n).stage ≡ finished → (found q ≡ record { best = (after_of q n).best; evaluated = (after_of q n).evaluated }) × FromZero (after_of q n).evaluated
  unfolding found
  finished-found n e = after-finished (λ m. selected m q) (total_net (units_of q)) (target q) n (greatest_outputs q) e

  pub finished-best : (n : ℕ) → (after_of q n).stage ≡ finished → (after_of q n).best ≡ (found q).best
  finished-best n e = sym (ap (λ (f : Found (List ℕ)). f.best) (finished-found n e).0)

  pub finished-evaluated : (n : ℕ) → (after_of q n).stage ≡ finished → (after_of q n).evaluated ≡ (found q).evaluated
  finished-evaluated n e = sym (ap (λ (f : Found (List ℕ)). f.evaluated) (finished-found n e).0)

  pub finished-length : (n : ℕ) → (after_of q n).stage ≡ finished → length (after_of q n).evaluated ≡ length (found q).evaluated
  finished-length n e = ap length (finished-evaluated n e)

module _ (q : Problem) (proper : Every Proper q.offers) (solves : solvable q ≡ true) where
  relaxed : Relaxation (Given q.offers) (total_cost (units_of q)) (total_net (units_of q)) 100000 (target q) (λ m. selected m q) (λ m. dual_value m q)
  relaxed =
      let available = solvable-available q proper solves in
      relaxation q available (λ m. selected m q) (selected-tied q available)

  first-given : Given q.offers (greatest_outputs q)
  unfolding greatest_outputs
  first-given = greatest-given q.offers (solvable-available q proper solves)

  first-net : (ys : List ℕ) → Given q.offers ys → total_net (units_of q) ys ≤ total_net (units_of q) (greatest_outputs q)
  unfolding greatest_outputs
  first-net ys h = greatest-net q.offers ys proper h

  pub after_of_given : (n : ℕ) → Given q.offers (after_of q n).best
  after_of_given = after-allowed relaxed (greatest_outputs q) first-given (solvable-covers q solves) first-net

  pub after_of_covers : (n : ℕ) → target q ≤ total_net (units_of q) (after_of q n).best
  after_of_covers = after-covers relaxed (greatest_outputs q) first-given (solvable-covers q solves) first-net

  pub after_of_cheaper : (n : ℕ) → total_cost (units_of q) (after_of q (suc n)).best ≤ total_cost (units_of q) (after_of q n).best
  after_of_cheaper = after_cheaper relaxed (greatest_outputs q) first-given (solvable-covers q solves) first-net

  -- whatever covers costs at least the greatest floor so far
  pub after_of_floor : (n : ℕ) (ps : List ℕ) → Given q.offers ps → target q ≤ total_net (units_of q) ps → greatest_so_far (λ m. floor m q) (after_of q n).evaluated ≤ total_cost (units_of q) ps
  unfolding floor
  after_of_floor n ps h k = so_far_bounded (λ m. floor m q) (total_cost (units_of q) ps) (after_of q n).evaluated (λ m. weak_duality relaxed m ps h k)

  -- finished it is that of the whole search
  pub finished-floor : (n : ℕ) → (after_of q n).stage ≡ finished → pos (greatest_so_far (λ m. floor m q) (after_of q n).evaluated) ≡ greatest_floor q (found q).evaluated
  unfolding floor
  finished-floor n e = so_far_greatest (λ m. floor m q) (floor_zero_not_negative relaxed) (after_of q n).evaluated (finished-found q n e).1 ∙ ap (greatest_at (λ m. floor m q)) (finished-evaluated q n e)

-- from the first evaluation on it is that of the multipliers evaluated
some_from_zero : (st : Stage) (ms : List ℕ) → Seen st ms → 0 < length ms → FromZero ms
some_from_zero at_zero ms e h = absurd (omega (arith, ap length e))
some_from_zero at_top ms e h = subst⁻¹ FromZero e refl
some_from_zero (halving k low) ms e h = e
some_from_zero finished ms e h = e

pub so_far_evaluated : (q : Problem) → Every Proper q.offers → solvable q ≡ true → (n : ℕ) → 1 ≤ n → pos (greatest_so_far (λ m. floor m q) (after_of q n).evaluated) ≡ greatest_floor q (after_of q n).evaluated
unfolding floor
so_far_evaluated q proper solves n h = so_far_greatest (λ m. floor m q) (floor_zero_not_negative (relaxed q proper solves)) (after_of q n).evaluated (by (done (after_of q n).stage))
  where
    by : Dec ((after_of q n).stage ≡ finished) → FromZero (after_of q n).evaluated
    by (yes e) = (finished-found q n e).1
    by (no u) =
        let s = after_of q n in
        some_from_zero s.stage s.evaluated (after-seen (λ m. selected m q) (total_net (units_of q)) (target q) n (greatest_outputs q)) (omega (arith, after_counts (λ m. selected m q) (total_net (units_of q)) (target q) (greatest_outputs q) n u))

-- no floor so far falls
pub so_far_rises : (q : Problem) (f : ℕ → ℤ) (n : ℕ) → greatest_so_far f (after_of q n).evaluated ≤ greatest_so_far f (after_of q (suc n)).evaluated
so_far_rises q f n =
    let s = after_of q n in
    either-advanced (λ m. selected m q) (total_net (units_of q)) (target q) (λ (t : Standing (List ℕ)). greatest_so_far f s.evaluated ≤ greatest_so_far f t.evaluated) s (le_refl (greatest_so_far f s.evaluated)) (omega arith)
