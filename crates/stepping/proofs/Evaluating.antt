-- One evaluation of a run: the search is asked for one more (`Advancing`), and what it then holds is the run's next state by the definition.
-- The run's own best may be any outputs: the standing that the search is asked about has 33 zeros instead, which no allocation is, so that what it holds afterwards tells whether the evaluation covered.
use Prim.Native.Nat.{ℕ, suc, ◌+◌, ◌-◌, max, ◌≤◌, ◌<◌}
use native.Mathlib.Decide.{dec_le}
use native.Mathlib.Omega.{arith}
use mathlib.Core.Path.{◌≡◌, refl, sym, ap, ap₂, ◌∙◌, subst, subst⁻¹}
use mathlib.Core.Bool.{cond}
use mathlib.Core.List.{List, [], ◌∷◌, ◌++◌}
use mathlib.Core.Logic.{⊎_elim}
use lib.Dec.{leb, eqb}
use lib.IntN.{ℤ, pos, negsuc}
use lib.ListN.{length, drop, replicate, length-take}
use lib.Pow.{pow_pos}
use lib.Signed.{le_z}
use borrow.Author.Tests.{le-leb, lt-leb, ne_eqb, eq-eqb}
use Rattle.rules.specs.Numbers.{natural}
use Rattle.rules.specs.Problem.{Offer, Problem, total_net, units_of, target}
use Rattle.rules.specs.Choice.{selected, floor}
use Rattle.rules.specs.Stages.{Stage, at_zero, at_top, halving, finished, next_multiplier, Standing, stage_after, advanced, evaluated_next}
use Rattle.rules.specs.Offers.{Given}
use Rattle.rules.proofs.Economics.Allocations.{tied-given}
use Rattle.rules.proofs.Economics.Lowering.{selected-tied}
use Rattle.evaluation.proofs.Offers.{held-available}
use Rattle.rules.proofs.Economics.Stages.{advanced-next}
use Rattle.evaluation.specs.Clauses.{HoldsOutputs}
use Rattle.bisection.specs.declared.steps.SearchState as code-state
use Rattle.bisection.specs.declared.steps.Allocation as code-allocation
use Rattle.bisection.specs.Clauses.{Holding, Searchable, At, Begun, sums_of, HoldsBest, HoldsStanding, SearchesFrom}
use Rattle.bisection.proofs.Searching.{opened-stage}
use Rattle.bisection.proofs.Advancing.{once, advanced-once, all-places}
use Rattle.stepping.specs.declared.numbers.Numbers.{Numbers}
use Rattle.stepping.specs.Runs.{stage_of, width_at, flag, is_finished, low_of, evaluated}
use Rattle.stepping.specs.Clauses.{run_of}
use Rattle.stepping.proofs.Fitting.{Fitting, unfinished-at, unfinished-width}

-- the greater of a floor so far and another one
pub greater-floor : (n : ℕ) (z : ℤ) → cond (le_z z (pos n)) (pos n) z ≡ pos (max n (natural z))
unfolding natural
greater-floor n (pos m) = by (dec_le m n)
  where
    by : Dec (m ≤ n) → cond (leb m n) (pos n) (pos m) ≡ pos (max n m)
    by (yes h) = rw (le-leb m n h) (ap pos (omega arith))
    by (no h) = rw (lt-leb m n (omega arith)) (ap pos (omega arith))
greater-floor n (negsuc m) = ap pos (omega arith)

given-length : (os : List Offer) (ps : List ℕ) → Given os ps → length ps ≡ length os
given-length [] [] g = refl
given-length [] (p ∷ ps) g = absurd g
given-length (o ∷ os) [] g = absurd g
given-length (o ∷ os) (p ∷ ps) g = ap suc (given-length os ps g.1)

-- width 0 is the mark of a finished search, and such a one has low end 0
ends-flag : (low width e : ℕ) (st : Stage) → At st low width e → flag (eqb width 0) ≡ flag (is_finished st)
ends-flag low width e at_zero a = rw (ne_eqb width 0 (λ z. omega (arith, a)))
ends-flag low width e at_top a = rw (ne_eqb width 0 (λ z. omega (arith, a)))
ends-flag low width e (halving k l) a = rw (ne_eqb width 0 (λ z. omega (arith, a, pow_pos k)))
ends-flag low width e finished a = rw (eq-eqb width 0 a.0)

ends_low : (low width e : ℕ) (st : Stage) → At st low width e → (width ≡ 0 → low ≡ 0) → low ≡ low_of st
ends_low low width e at_zero a h = a.0
ends_low low width e at_top a h = a.0
ends_low low width e (halving k l) a h = a.0
ends_low low width e finished a h = h a.0

pub target_small : {coefficients ends ranges : List ℕ} {n t : ℕ} → Searchable coefficients ends ranges n t → t ≤ 32000000000000
target_small s = omega (arith, s.holds.demanded, s.holds.problem.demand)

-- ---- before it

-- a state with the run's numbers; z is its floor and w its width
abbrev pub state_of : Numbers → ℕ → ℤ → ℕ → code-state.SearchState
state_of k t z w = record { best = record { outputs = k.outputs; cost = k.cost; net = k.surplus + t }; floor = z; evaluations = k.evaluations; low = k.low; width = w; most = k.evaluations + 1 }

abbrev pub start_of : Numbers → ℕ → code-state.SearchState
start_of k t = state_of k t (pos k.floor) (width_at k.evaluations)

pub from_start : {H : Problem → Type 0} {n w : ℕ} {z : ℤ} {before trace : List ℤ} {r : code-state.SearchState} (k : Numbers) (t : ℕ) → z ≡ pos k.floor → w ≡ width_at k.evaluations → SearchesFrom H n (state_of k t z w) before r trace → SearchesFrom H n (start_of k t) before r trace
from_start {H} {n} {w} {z} {before} {trace} {r} k t e i s = subst (λ (x : ℤ). SearchesFrom H n (state_of k t x (width_at k.evaluations)) before r trace) e (subst (λ (x : ℕ). SearchesFrom H n (state_of k t z x) before r trace) i s)

-- the numbers of a run whose search stands so
abbrev pub numbers_from : code-state.SearchState → ℕ → ℕ → ℕ → Numbers
numbers_from r n t l = record { finished = flag (eqb r.width 0); evaluations = r.evaluations; low = r.low; cost = r.best.cost; surplus = r.best.net - t; floor = natural r.floor; count = n; length = l; outputs = r.best.outputs }

module _ (k : Numbers) (f : Fitting (run_of k)) (u : k.finished ≡ 1 → ⊥) where
  at : At (stage_of (run_of k)) k.low (width_at k.evaluations) k.evaluations
  at = unfinished-at (run_of k) f (ne_eqb k.finished 1 u)

  pub begins-at : (t : ℕ) (z : ℤ) {w : ℕ} → w ≡ width_at k.evaluations → Begun (state_of k t z w)
  begins-at t z e = record { asked = omega arith; stage = stage_of (run_of k); numbers = subst⁻¹ (λ (w : ℕ). At (stage_of (run_of k)) k.low w k.evaluations) e at }

  abbrev nowhere : Standing (List ℕ)
  nowhere = record { best = replicate 33 0; evaluated = []; stage = stage_of (run_of k) }

  -- ---- after it

  module _ {coefficients ends ranges : List ℕ} {n t : ℕ} {before : List ℤ} {r : code-state.SearchState} {trace : List ℤ} (w : SearchesFrom (Holding coefficients ends ranges n t) n (start_of k t) before r trace) (q : Problem) (h : Holding coefficients ends ranges n t q) where
    abbrev choose : ℕ → List ℕ
    choose m = selected m q

    abbrev net : List ℕ → ℕ
    net = total_net (units_of q)

    abbrev stage : Stage
    stage = stage_of (run_of k)

    abbrev taken : List ℕ
    taken = choose (next_multiplier stage)

    open_width : width_at k.evaluations ≡ 0 → ⊥
    open_width = unfinished-width (run_of k) f (ne_eqb k.finished 1 u)

    unfinished : stage ≡ finished → ⊥
    unfinished = opened-stage k.low (width_at k.evaluations) k.evaluations stage at open_width

    next-is : advanced choose net (target q) nowhere ≡ evaluated_next choose net (target q) stage nowhere
    next-is = advanced-next choose net (target q) nowhere stage refl unfinished

    held : HoldsStanding q n nowhere (start_of k t) before w.reached.stage (evaluated_next choose net (target q) stage nowhere) r trace
    held = subst (λ (g : Standing (List ℕ)). HoldsStanding q n nowhere (start_of k t) before w.reached.stage g r trace) next-is (advanced-once w refl open_width q h nowhere at)

    length_taken : length taken ≡ n
    length_taken = given-length q.offers taken (tied-given (next_multiplier stage) q.offers taken (selected-tied q (held-available h.problem) (next_multiplier stage))) ∙ h.problem.count

    -- it covered, or the best is the run's own
    covered : target q ≤ net taken → HoldsOutputs q taken r.best.outputs (sums_of r.best) × (drop n r.best.outputs ≡ drop n (replicate 32 0))
    covered c =
        let b : HoldsBest q n (replicate 33 0) (start_of k t).best taken r.best = rw (le-leb (target q) (net taken) c) at held.best in
        ⊎_elim (λ e. absurd (omega (arith, ap length e.0, length_taken, h.problem.few))) (λ e. e) b

    uncovered : net taken < target q → r.best ≡ (start_of k t).best
    uncovered c =
        let b : HoldsBest q n (replicate 33 0) (start_of k t).best (replicate 33 0) r.best = rw (lt-leb (target q) (net taken) c) at held.best in
        ⊎_elim (λ e. e.1) (λ e. absurd (omega (arith, ap length e.0.places, length-take (length q.offers) r.best.outputs, h.problem.count, h.problem.few))) b

    floor-is : r.floor ≡ pos (max k.floor (natural (floor (next_multiplier stage) q)))
    floor-is = held.floor (pos k.floor) refl ∙ greater-floor k.floor (floor (next_multiplier stage) q)

    -- the parts of the next state that do not ask whether it covered
    counted : r.evaluations ≡ k.evaluations + 1
    counted = w.reached.counted ∙ ap (λ (i : ℕ). k.evaluations + i) (once w refl open_width q h nowhere at)

    natural-floor : natural r.floor ≡ max k.floor (natural (floor (next_multiplier stage) q))
    unfolding natural
    natural-floor = ap natural floor-is

    pub floor-kept : r.floor ≡ pos (natural r.floor)
    floor-kept = floor-is ∙ ap pos (sym natural-floor)

    abbrev after : Stage
    after = stage_after net (target q) stage taken

    flagged : flag (eqb r.width 0) ≡ flag (is_finished after)
    flagged = ends-flag r.low r.width r.evaluations w.reached.stage w.reached.numbers ∙ ap (λ (st : Stage). flag (is_finished st)) (sym held.staged)

    lowered : r.low ≡ low_of after
    lowered = ends_low r.low r.width r.evaluations w.reached.stage w.reached.numbers w.low ∙ ap low_of (sym held.staged)

    by_cover : Dec (target q ≤ net taken) → (t ≤ r.best.net) × (run_of (numbers_from r n t k.length) ≡ evaluated q (run_of k))
    unfolding evaluated
    by_cover (yes c) =
        let b = covered c in (
          omega (arith, b.0.net, h.demanded),
          rw (le-leb (target q) (net taken) c) (λ i. record {
            started = 1;
            finished = flagged i;
            evaluations = counted i;
            low = lowered i;
            cost = b.0.cost i;
            surplus = ap₂ (λ (x y : ℕ). x - y) b.0.net h.demanded i;
            floor = natural-floor i;
            count = sym h.problem.count i;
            length = k.length;
            outputs = (all-places q n taken r.best.outputs (sums_of r.best) h.problem.count b.0 b.1 ∙ ap (λ (j : ℕ). taken ++ drop j (replicate 32 0)) (sym length_taken)) i;
          }),
        )
    by_cover (no c) =
        let b = uncovered (omega arith) in
        let same : r.best.net ≡ k.surplus + t = ap (λ (a : code-allocation.Allocation). a.net) b in (
          omega (arith, same),
          rw (lt-leb (target q) (net taken) (omega arith)) (λ i. record {
            started = 1;
            finished = flagged i;
            evaluations = counted i;
            low = lowered i;
            cost = (b i).cost;
            surplus = (ap (λ (x : ℕ). x - t) same ∙ sub_back) i;
            floor = natural-floor i;
            count = sym h.problem.count i;
            length = k.length;
            outputs = (b i).outputs;
          }),
        )
      where
        sub_back : k.surplus + t - t ≡ k.surplus
        sub_back = omega arith

    pub evaluates : (t ≤ r.best.net) × (run_of (numbers_from r n t k.length) ≡ evaluated q (run_of k))
    evaluates = by_cover (dec_le (target q) (net taken))
