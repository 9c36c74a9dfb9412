-- The search one evaluation at a time: what the loop keeps (`Reached`), by what an evaluation takes. H are the problems that the arrays hold, and t is the net that covers their demand.
use Prim.Native.Nat.{ℕ, zero, suc, ◌+◌, ◌/◌, ◌%◌, ◌^◌, ◌≤◌, ◌<◌}
use native.Mathlib.Nat.{pow-suc}
use native.Mathlib.Omega.{arith}
use mathlib.Core.Path.{◌≡◌, refl, sym, ap, ◌∙◌, subst, subst⁻¹}
use mathlib.Core.Bool.{cond}
use mathlib.Core.List.{List, ◌∷◌}
use mathlib.Core.Logic.{inl, inr}
use lib.Pow.{pow_pos}
use lib.IntN.{ℤ}
use lib.ListN.{length}
use lib.Signed.{le_z}
use borrow.Author.Tests.{eq-eqb, ne_eqb, le-leb, lt-leb}
use Rattle.rules.specs.Lists.{True}
use Rattle.rules.specs.Numbers.{divided_up}
use Rattle.rules.specs.Problem.{Problem, units_of, total_net, target}
use Rattle.rules.specs.Choice.{selected, dual_value, floor}
use Rattle.evaluation.specs.Clauses.{HoldsOutputs, Sized}
use Rattle.bisection.specs.declared.steps.Allocation as code-allocation
use Rattle.bisection.specs.declared.steps.SearchState as code-state
use Rattle.rules.specs.Stages.{Stage, at_zero, at_top, halving, finished, next_multiplier, halving_left, Standing, best_of, stage_after}
use Rattle.bisection.specs.Clauses.{sums_of, Selected, allocated, Selects, recorded, Traces, At, Begun, raised_floor, onward_of, HoldsBest, HoldsStanding, Reached, SearchesFrom}
use Rattle.bisection.proofs.Tracing.{recorded-length, traces_more}
use Rattle.rules.proofs.Economics.Stages.{advanced-next}

-- ---- the numbers of a stage

-- they are of no other stage
at_same : (low width e : ℕ) (s r : Stage) → At s low width e → At r low width e → s ≡ r
at_same low width e at_zero at_zero a b = refl
at_same low width e at_zero at_top a b = absurd (omega (arith, a, b))
at_same low width e at_zero (halving k l) a b = absurd (omega (arith, a, b))
at_same low width e at_zero finished a b = absurd (omega (arith, a, b))
at_same low width e at_top at_zero a b = absurd (omega (arith, a, b))
at_same low width e at_top at_top a b = refl
at_same low width e at_top (halving k l) a b = absurd (omega (arith, a, b))
at_same low width e at_top finished a b = absurd (omega (arith, a, b))
at_same low width e (halving k l) at_zero a b = absurd (omega (arith, a, b))
at_same low width e (halving k l) at_top a b = absurd (omega (arith, a, b))
at_same low width e (halving k l) (halving j i) a b =
    let same : k ≡ j = omega (arith, a, b) in
    let low : l ≡ i = omega (arith, a, b) in
    rw (same, low) refl
at_same low width e (halving k l) finished a b = absurd (omega (arith, a, b, pow_pos k))
at_same low width e finished at_zero a b = absurd (omega (arith, a, b))
at_same low width e finished at_top a b = absurd (omega (arith, a, b))
at_same low width e finished (halving k l) a b = absurd (omega (arith, a, b, pow_pos k))
at_same low width e finished finished a b = refl

-- width 0 is of a finished search
pub closed : (low width e : ℕ) (stage : Stage) → At stage low width e → width ≡ 0 → (stage ≡ finished) × (e ≤ 18)
closed low width e at_zero a z = absurd (omega (arith, a))
closed low width e at_top a z = absurd (omega (arith, a))
closed low width e (halving k l) a z = absurd (omega (arith, a, pow_pos k))
closed low width e finished a z = (refl, a.1)

-- of a search that is not finished
pub record Open (stage : Stage) (low width e : ℕ) : Type 0 where
  pub more : stage ≡ finished → ⊥
  pub within : low + width ≤ 131072
  pub next : (low + width) % 131072 ≡ next_multiplier stage
  pub multiplier : (low + width) % 131072 ≤ 65536
  pub few : e < 18

abbrev IsFinished : Stage → Type 0
IsFinished at_zero = ⊥
IsFinished at_top = ⊥
IsFinished (halving k l) = ⊥
IsFinished finished = True

unfinished : {stage : Stage} → (IsFinished stage → ⊥) → stage ≡ finished → ⊥
unfinished h e = h (subst⁻¹ IsFinished e tt)

open_by : (low width e : ℕ) (stage : Stage) → At stage low width e → (width ≡ 0 → ⊥) → Open stage low width e
open_by low width e at_zero a h = record { more = unfinished (λ z. z); within = omega (arith, a); next = omega (arith, a); multiplier = omega (arith, a); few = omega (arith, a) }
open_by low width e at_top a h = record { more = unfinished (λ z. z); within = omega (arith, a); next = omega (arith, a); multiplier = omega (arith, a); few = omega (arith, a) }
open_by low width e (halving k l) a h = record { more = unfinished (λ z. z); within = omega (arith, a); next = omega (arith, a); multiplier = omega (arith, a); few = omega (arith, a) }
open_by low width e finished a h = absurd (h a.0)

pub opened-stage : (low width e : ℕ) (stage : Stage) → At stage low width e → (width ≡ 0 → ⊥) → stage ≡ finished → ⊥
opened-stage low width e stage a h = (open_by low width e stage a h).more

-- the halving goes on, or has come to its end
left_at : (low width e : ℕ) (k l : ℕ) → low ≡ l → width ≡ 2 ^ k → e + k ≡ 17 → low + width ≤ 65536 → At (halving_left k l) low (width / 2) (e + 1)
left_at low width e zero l a b c d = (omega arith, omega arith)
left_at low width e (suc k) l a b c d = let f = b ∙ pow-suc 2 k in (a, omega arith, omega arith, omega arith)

-- ---- the stage after an evaluation

-- that covers, with more than the target
abbrev below : Stage → Stage
below at_zero = finished
below at_top = halving 15 0
below (halving k l) = halving_left k l
below finished = finished

-- that does not
abbrev above : Stage → Stage
above at_zero = at_top
above at_top = finished
above (halving k l) = halving_left k (l + 2 ^ k)
above finished = finished

below_at : (low width e : ℕ) (stage : Stage) → At stage low width e → (next_multiplier stage ≡ 0 → ⊥) → At (below stage) low (width / 2) (e + 1)
below_at low width e at_zero a h = absurd (h refl)
below_at low width e at_top a h = (a.0, omega (arith, a), omega (arith, a), omega (arith, a))
below_at low width e (halving k l) a h = left_at low width e k l a.0 a.1 a.2 (omega (arith, a))
below_at low width e finished a h = absurd (h refl)

above_at : (low width e : ℕ) (stage : Stage) → At stage low width e → (width ≡ 0 → ⊥) → (next_multiplier stage ≡ 65536 → ⊥) → At (above stage) ((low + width) % 131072) (width / 2) (e + 1)
above_at low width e at_zero a h n = (omega (arith, a), omega (arith, a), omega (arith, a))
above_at low width e at_top a h n = absurd (n refl)
above_at low width e (halving k l) a h n = left_at ((low + width) % 131072) width e k (l + 2 ^ k) (omega (arith, a)) a.1 a.2 (omega (arith, a))
above_at low width e finished a h n = absurd (h a.0)

module _ {X : Type 0} (net : X → ℕ) (t : ℕ) (x : X) where
  covers-zero : (stage : Stage) → next_multiplier stage ≡ 0 → t ≤ net x → stage_after net t stage x ≡ finished
  covers-zero at_zero n h = rw (le-leb t (net x) h) refl
  covers-zero at_top n h = absurd (omega (arith, n))
  covers-zero (halving k l) n h = absurd (omega (arith, n, pow_pos k))
  covers-zero finished n h = refl

  covers-equal : (stage : Stage) → net x ≡ t → stage_after net t stage x ≡ finished
  covers-equal at_zero h = rw (le-leb t (net x) (omega arith)) refl
  covers-equal at_top h = rw (eq-eqb (net x) t h) refl
  covers-equal (halving k l) h = rw (eq-eqb (net x) t h) refl
  covers-equal finished h = refl

  covers_more : (stage : Stage) → t < net x → stage_after net t stage x ≡ below stage
  covers_more at_zero h = rw (le-leb t (net x) (omega arith)) refl
  covers_more at_top h = rw (ne_eqb (net x) t (λ e. omega arith), le-leb t (net x) (omega arith)) refl
  covers_more (halving k l) h = rw (ne_eqb (net x) t (λ e. omega arith), le-leb t (net x) (omega arith)) refl
  covers_more finished h = refl

  short_of : (stage : Stage) → net x < t → stage_after net t stage x ≡ above stage
  short_of at_zero h = rw (lt-leb t (net x) h) refl
  short_of at_top h = rw (ne_eqb (net x) t (λ e. omega arith), lt-leb t (net x) h) refl
  short_of (halving k l) h = rw (ne_eqb (net x) t (λ e. omega arith), lt-leb t (net x) h) refl
  short_of finished h = refl

-- 65,536 is the next only before the halving
top-ends : (low width e : ℕ) (stage : Stage) → At stage low width e → (width ≡ 0 → ⊥) → next_multiplier stage ≡ 65536 → above stage ≡ finished
top-ends low width e at_zero a h n = absurd (omega (arith, n))
top-ends low width e at_top a h n = refl
top-ends low width e (halving k l) a h n = absurd (omega (arith, n, a, pow_pos k))
top-ends low width e finished a h n = refl

-- ---- what the loop keeps

module _ {H : Problem → Type 0} {n : ℕ} {start : code-state.SearchState} {before : List ℤ} where
  pub reached-starts : Begun start → Reached H n start before start before
  reached-starts b =
      record {
        stage = b.stage;
        rounds = 0;
        numbers = b.numbers;
        counted = omega arith;
        most = refl;
        sized = λ k l z. z;
        held = λ q i s a. record { best = inl (refl, refl); floor = λ z e. e; evaluations = λ e. e; traced = λ room e t. t; staged = at_same start.low start.width start.evaluations s.stage b.stage a b.numbers };
      }

  module _ {f : code-state.SearchState} {trace : List ℤ} (h : Reached H n start before f trace) (more : f.width ≡ 0 → ⊥) where
    pub opened : Open h.stage f.low f.width f.evaluations
    opened = open_by f.low f.width f.evaluations h.stage h.numbers more

    abbrev multiplier : ℕ
    multiplier = (f.low + f.width) % 131072

    -- ---- one evaluation more

    module _ {outputs : List ℕ} {s : Selected} (v : Selects H n multiplier outputs s) {t : ℕ} (demanded : (q : Problem) → H q → t ≡ target q) {trace' : List ℤ} (written : trace' ≡ recorded trace f.evaluations multiplier s.dual) where
      -- f with the floor and the count of the evaluation
      abbrev noted : code-allocation.Allocation → ℕ → ℕ → code-state.SearchState
      noted best low width =
          record {
            best = best;
            floor = cond (le_z (divided_up s.dual 100000) f.floor) f.floor (divided_up s.dual 100000);
            evaluations = f.evaluations + 1;
            low = low;
            width = width;
            most = f.most;
          }

      abbrev next : ℕ
      next = next_multiplier h.stage

      abbrev taken : Problem → List ℕ
      taken q = selected next q

      net-is : (q : Problem) → H q → s.net ≡ total_net (units_of q) (taken q)
      net-is q i = subst (λ (m : ℕ). s.net ≡ total_net (units_of q) (selected m q)) opened.next (v.taken q i).net

      dual-is : (q : Problem) → H q → s.dual ≡ dual_value next q
      dual-is q i = subst (λ (m : ℕ). s.dual ≡ dual_value m q) opened.next (v.dual q i)

      -- what becomes of the stage and of the best
      record After (stage : Stage) (a : code-allocation.Allocation) (q : Problem) : Type 0 where
        staged : stage_after (total_net (units_of q)) (target q) h.stage (taken q) ≡ stage
        best : (x₀ x : List ℕ) (a₀ : code-allocation.Allocation) → HoldsBest q n x₀ a₀ x f.best → HoldsBest q n x₀ a₀ (best_of (total_net (units_of q)) (target q) x (taken q)) a

      floor-more : (q : Problem) → H q → (z : ℤ) (ms : List ℕ) → f.floor ≡ raised_floor q z ms → (noted f.best 0 0).floor ≡ raised_floor q z (next ∷ ms)
      unfolding floor
      floor-more q i z ms e = rw (e, dual-is q i)

      turned : (a : code-allocation.Allocation) (low width : ℕ) (stage : Stage) → At stage low width (f.evaluations + 1) → ((k : ℕ) → n ≤ k → Sized k (sums_of start.best) → Sized k (sums_of a)) → ((q : Problem) → H q → After stage a q) → Reached H n start before (noted a low width) trace'
      turned a low width stage numbers sized each =
          record {
            stage = stage;
            rounds = suc h.rounds;
            numbers = numbers;
            counted = omega (arith, h.counted);
            most = h.most;
            sized = sized;
            held = λ q i r at.
                let g = onward_of q h.rounds r in
                let was = h.held q i r at in
                let one = each q i in
                subst⁻¹ (λ (x : Standing (List ℕ)). HoldsStanding q n r start before stage x (noted a low width) trace')
                (advanced-next (λ m. selected m q) (total_net (units_of q)) (target q) g h.stage was.staged opened.more)
                (record {
                  best = one.best r.best g.best start.best was.best;
                  floor = λ z e. floor-more q i z g.evaluated (was.floor z e);
                  evaluations = λ e. omega (arith, was.evaluations e);
                  traced = λ room e z.
                      let long : 36 ≤ length trace = omega (arith, ap length written, recorded-length trace f.evaluations multiplier s.dual) in
                      subst⁻¹ (Traces q (next ∷ g.evaluated)) written (traces_more q g.evaluated trace next multiplier f.evaluations s.dual (was.evaluations e) opened.next (omega (arith, opened.few)) (dual-is q i) (was.traced long e z));
                  staged = one.staged;
                });
          }

      -- a covering evaluation is the best
      covering : (low width : ℕ) (stage : Stage) → At stage low width (f.evaluations + 1) → t ≤ s.net → ((q : Problem) → H q → stage_after (total_net (units_of q)) (target q) h.stage (taken q) ≡ stage) → Reached H n start before (noted (allocated outputs s) low width) trace'
      covering low width stage numbers enough staged =
          turned (allocated outputs s) low width stage numbers (λ k l z. record { cost = omega (arith, v.sized.cost); net = omega (arith, v.sized.net) })
          (λ q i. record {
            staged = staged q i;
            best = λ x₀ x a₀ b. rw (le-leb (target q) (total_net (units_of q) (taken q)) (omega (arith, net-is q i, demanded q i)))
                (inr (subst (λ (m : ℕ). HoldsOutputs q (selected m q) outputs (sums_of (allocated outputs s))) opened.next (v.taken q i), v.beyond));
          })

      -- another leaves it
      uncovered : (low width : ℕ) (stage : Stage) → At stage low width (f.evaluations + 1) → s.net < t → ((q : Problem) → H q → stage_after (total_net (units_of q)) (target q) h.stage (taken q) ≡ stage) → Reached H n start before (noted f.best low width) trace'
      uncovered low width stage numbers short staged =
          turned f.best low width stage numbers h.sized
          (λ q i. record { staged = staged q i; best = λ x₀ x a₀ b. rw (lt-leb (target q) (total_net (units_of q) (taken q)) (omega (arith, net-is q i, demanded q i))) b })

      ended_at : At finished 0 0 (f.evaluations + 1)
      ended_at = (refl, omega (arith, opened.few))

      -- (rule 11.4) the choices of 0 cover
      pub stops_at_zero : multiplier ≡ 0 → t ≤ s.net → Reached H n start before (noted (allocated outputs s) 0 0) trace'
      stops_at_zero e enough =
          covering 0 0 finished ended_at enough
          (λ q i. covers-zero (total_net (units_of q)) (target q) (taken q) h.stage (omega (arith, opened.next)) (omega (arith, net-is q i, demanded q i)))

      -- (rules 11.7, 11.9) equal net
      pub stops-equal : s.net ≡ t → Reached H n start before (noted (allocated outputs s) 0 0) trace'
      stops-equal e =
          covering 0 0 finished ended_at (omega arith)
          (λ q i. covers-equal (total_net (units_of q)) (target q) (taken q) h.stage (omega (arith, net-is q i, demanded q i)))

      -- (rules 11.7, 11.10) more: the lower half is left
      pub goes_below : (multiplier ≡ 0 → ⊥) → t < s.net → Reached H n start before (noted (allocated outputs s) f.low (f.width / 2)) trace'
      goes_below e enough =
          covering f.low (f.width / 2) (below h.stage) (below_at f.low f.width f.evaluations h.stage h.numbers (λ z. e (opened.next ∙ z))) (omega arith)
          (λ q i. covers_more (total_net (units_of q)) (target q) (taken q) h.stage (omega (arith, net-is q i, demanded q i)))

      -- (rule 11.6) those of 65,536 do not cover
      pub stops_at_top : multiplier ≡ 65536 → s.net < t → Reached H n start before (noted f.best 0 0) trace'
      stops_at_top e short =
          uncovered 0 0 finished ended_at short
          (λ q i. short_of (total_net (units_of q)) (target q) (taken q) h.stage (omega (arith, net-is q i, demanded q i)) ∙ top-ends f.low f.width f.evaluations h.stage h.numbers more (sym opened.next ∙ e))

      -- (rules 11.5, 11.11) less: the upper half is left
      pub goes_above : (multiplier ≡ 65536 → ⊥) → s.net < t → Reached H n start before (noted f.best multiplier (f.width / 2)) trace'
      goes_above e short =
          uncovered multiplier (f.width / 2) (above h.stage) (above_at f.low f.width f.evaluations h.stage h.numbers more (λ z. e (opened.next ∙ z))) short
          (λ q i. short_of (total_net (units_of q)) (target q) (taken q) h.stage (omega (arith, net-is q i, demanded q i)))

  -- ---- where the loop is left

  module _ {f : code-state.SearchState} {trace : List ℤ} (h : Reached H n start before f trace) where
    -- adjacent ends, or finished before
    pub adjacent : f.width ≡ 0 → f.evaluations ≤ start.most → SearchesFrom H n start before (record { best = f.best; floor = f.floor; evaluations = f.evaluations; low = 0; width = 0; most = f.most }) trace
    adjacent e few =
        let w = closed f.low f.width f.evaluations h.stage h.numbers e in
        record {
          reached =
              record {
                stage = finished;
                rounds = h.rounds;
                numbers = (refl, w.1);
                counted = h.counted;
                most = h.most;
                sized = h.sized;
                held = λ q i s a.
                    let was = h.held q i s a in
                    record { best = was.best; floor = was.floor; evaluations = was.evaluations; traced = was.traced; staged = was.staged ∙ w.0 };
              };
          ended = inl refl;
          few = few;
          low = λ _. refl;
        }

    pub stopped : f.width ≡ 0 → f.low ≡ 0 → f.evaluations ≤ start.most → SearchesFrom H n start before f trace
    stopped e l few = record { reached = h; ended = inl e; few = few; low = λ _. l }

    -- no more evaluations
    pub spent : (f.width ≡ 0 → ⊥) → f.evaluations ≡ start.most → SearchesFrom H n start before f trace
    spent more e = record { reached = h; ended = inr e; few = omega arith; low = λ z. absurd (more z) }
