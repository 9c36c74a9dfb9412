-- The run of an accepted file after k advances: its numbers fit together, one evaluation of it is the run after k + 1, and so a run is where its operations lead.
use Rattle.std.specs.Prelude.{Ok, Err}
use Prim.Native.Nat.{ℕ, zero, suc, ◌+◌, ◌*◌, ◌^◌, ◌≤◌}
use native.Mathlib.Decide.{dec_le}
use native.Mathlib.Nat.{pow-suc}
use native.Mathlib.Numerals.{add-one}
use native.Mathlib.Omega.{arith}
use mathlib.Core.Path.{◌≡◌, refl, sym, ap, ap₂, ◌∙◌}
use mathlib.Core.Bool.{Bool, true, false, cond, ◌||◌}
use mathlib.Core.List.{List, [], ◌∷◌, ◌++◌}
use mathlib.Core.Logic.{◌⊎◌, inl, inr, ⊎_elim}
use lib.Dec.{leb, eqb}
use lib.ListN.{length, drop, replicate, length-map}
use lib.Pow.{pow_mono}
use lib.Seq.{take-append_seam}
use borrow.Author.Tests.{le-leb, lt-ltb}
use Rattle.rules.specs.Lists.{all, over, Every, True}
use Rattle.rules.specs.Layout.{case_of}
use Rattle.rules.specs.Sound.{Sound}
use Rattle.rules.specs.Offers.{Proper}
use Rattle.rules.specs.Refusal.{file_verdict, Verdict}
use Rattle.rules.specs.Problem.{Problem, total_cost, total_net, units_of, target, problem_in, problem_of, offer}
use Rattle.rules.specs.Promise.{Permitted}
use Rattle.rules.specs.Choice.{selected, floor}
use Rattle.rules.specs.Bisection.{solvable, greatest_outputs}
use Rattle.rules.specs.Stages.{Stage, at_zero, at_top, halving, finished, next_multiplier, Standing, evaluated_next}
use Rattle.rules.specs.Calls.{case_verdict}
use Rattle.rules.proofs.Verdicts.{and-true}
use Rattle.rules.proofs.Lists.{all-every, every_more, length-each}
use Rattle.rules.proofs.Demand3.{case-accepted, allocation-length, allocation-small}
use Rattle.rules.proofs.Replied.{few-units}
use Rattle.rules.proofs.Encoding.SoundFile.{sound-file, units-sound, accepted-length}
use Rattle.rules.proofs.Economics.Stages.{advanced-next}
use Rattle.rules.proofs.Economics.Solvable.{case-proper}
use Rattle.rules.proofs.Economics.Solution.{same-cost, same-net, given-permitted}
use Rattle.rules.proofs.Economics.Totals.{total_cost_range, total_net_range}
use Rattle.std.specs.Prelude.{Ok}
use Rattle.stepping.specs.declared.State.{State}
use Rattle.stepping.specs.Runs.{Run, stage_at, stage_of, width_at, flag, is_finished, low_of, stage_fits, outputs_fit, begun, run_from, evaluated, run_in, numbers_of, unstarted, state_told, held, same, StartResult, start_ends, started, AdvanceResult, advanced_by, Operation, start, advance, ask, Lent, lent_after, performed}
use Rattle.stepping.specs.Claims.{greatest_so_far, after_of, run_at, run_after, Course, none, since, start_turns, turned, course_of, Stands}
use Rattle.stepping.proofs.Widths.{width_power}
use Rattle.stepping.proofs.Endings.{advance-unstarted, advance-changed, advance-finished, advance-made}
use Rattle.stepping.proofs.Comparing.{same-equal, same-itself}
use Rattle.stepping.proofs.Progress.{done, Placed, after-placed, after-still, after_of_given, after_of_covers, after_of_floor}

-- ---- stages and numbers

halving-few : (k low : ℕ) → low + 2 ^ suc k ≤ 65536 → k ≤ 15
halving-few k low h = by (dec_le k 15)
  where
    by : Dec (k ≤ 15) → k ≤ 15
    by (yes l) = l
    by (no l) =
        let p : 2 ^ 17 ≤ 2 ^ suc k = pow_mono {i = 17} (omega arith) in
        absurd (omega (arith, p))

-- the stage of the run is the search's
stage-read : (st : Stage) (e : ℕ) → Placed st e → cond (eqb (flag (is_finished st)) 1) finished (stage_at e (low_of st)) ≡ st
stage-read at_zero e p = rw p
stage-read at_top e p = rw p
stage-read (halving k low) zero p = absurd (omega (arith, p.0, halving-few k low p.1))
stage-read (halving k low) (suc zero) p = absurd (omega (arith, p.0, halving-few k low p.1))
stage-read (halving k low) (suc (suc j)) p = ap (λ (i : ℕ). halving i low) (omega (arith, p.0))
stage-read finished e p = refl

or-true : (a : Bool) → (a || true) ≡ true
or-true true = refl
or-true false = refl

stage-fits : (st : Stage) (e : ℕ) → Placed st e → stage_fits (flag (is_finished st)) e (low_of st) ≡ true
stage-fits at_zero e p = rw p
stage-fits at_top e p = rw p
stage-fits (halving k low) e p =
    let w : low + 2 * width_at e ≤ 65536 = omega (arith, p.1, width_power e k p.0, pow-suc 2 k) in
    rw (le-leb e 18 (omega (arith, p.0)), lt-ltb e 18 (omega (arith, p.0)), le-leb (low + 2 * width_at e) 65536 w) (or-true (eqb low 0))
stage-fits finished e p = rw (le-leb e 18 p)

-- ---- tests of every element

module _ (test : ℕ → Bool) where
  all-behind : (n : ℕ) (s : List ℕ) → all test s ≡ true → all test (drop n s) ≡ true
  all-behind zero s e = e
  all-behind (suc n) [] e = e
  all-behind (suc n) (x ∷ s) e = all-behind n s ((and-true (test x) (all test s)).0 e).1

  all-over : (xs ys : List ℕ) → all test xs ≡ true → all test ys ≡ true → all test (xs ++ ys) ≡ true
  all-over [] ys e f = f
  all-over (x ∷ xs) ys e f =
      let both = (and-true (test x) (all test xs)).0 e in
      (and-true (test x) (all test (xs ++ ys))).1 (both.0, all-over xs ys both.1 f)

-- ---- of an accepted file

module _ (file : List ℕ) (accepted : case_verdict file ≡ Ok tt) where
  abbrev q : Problem
  q = problem_in file

  ok : (file_verdict file ≡ Ok tt) × (solvable q ≡ true)
  ok = case-accepted file accepted

  pub sound : Every Sound (case_of file).units
  sound = units-sound file ok.0

  pub proper : Every Proper q.offers
  proper = case-proper (case_of file) sound

  few : length (case_of file).units ≤ 32
  few = few-units file accepted

  some : 1 ≤ length (case_of file).units
  unfolding case_of
  some = rw length-each ((sound-file file).0 ok.0).head.count-least

  pub count-is : length q.offers ≡ length (case_of file).units
  unfolding problem_of
  count-is = length-map (case_of file).units offer

  module _ (k : ℕ) where
    abbrev s : Standing (List ℕ)
    s = after_of q k

    pub placed : Placed s.stage (length s.evaluated)
    placed = after-placed (λ m. selected m q) (total_net (units_of q)) (target q) (greatest_outputs q) k

    pub permitted : Permitted (case_of file) s.best
    permitted = given-permitted (case_of file) s.best (after_of_given q proper ok.1 k)

    small : Every (λ p. p ≤ 10000) s.best
    small = allocation-small (case_of file).units s.best sound permitted

    pub best-length : length s.best ≡ length (case_of file).units
    best-length = allocation-length (case_of file).units s.best permitted

    stage_is : stage_of (run_after file k) ≡ s.stage
    unfolding stage_of
    stage_is = stage-read s.stage (length s.evaluated) placed

    -- ---- its numbers are in range

    cost-small : total_cost (units_of q) s.best ≤ 6432000000000
    cost-small = omega (arith, same-cost (case_of file) s.best, total_cost_range (case_of file).units s.best sound small, few)

    net-small : total_net (units_of q) s.best ≤ 35200000000000
    net-small = omega (arith, same-net (case_of file) s.best, total_net_range (case_of file).units s.best sound small, few)

    pub floor-below : greatest_so_far (λ m. floor m q) s.evaluated ≤ total_cost (units_of q) s.best
    floor-below = after_of_floor q proper ok.1 k s.best (after_of_given q proper ok.1 k) (after_of_covers q proper ok.1 k)

    outputs-fit : outputs_fit (over s.best (replicate 32 0)) ≡ true
    outputs-fit =
        all-over (λ p. leb p 10000) s.best (drop (length s.best) (replicate 32 0))
        ((all-every (λ p. leb p 10000) s.best).1 (every_more (λ p. p ≤ 10000) (λ p. leb p 10000 ≡ true) (λ p h. le-leb p 10000 h) s.best small))
        (all-behind (λ p. leb p 10000) (length s.best) (replicate 32 0) refl)

    pub begins : begun (run_after file k) ≡ true
    unfolding begun
    begins =
        let r = run_after file k in
        rw (
          stage-fits s.stage (length s.evaluated) placed,
          le-leb r.cost 35200000000000 (omega (arith, cost-small)),
          le-leb r.surplus 35200000000000 (omega (arith, net-small)),
          le-leb r.floor 35200000000000 (omega (arith, cost-small, floor-below)),
          lt-ltb 0 r.count (omega (arith, some, count-is)),
          le-leb r.count 32 (omega (arith, few, count-is)),
          le-leb (length file) 1608 (accepted-length file ok.0).1,
        ) outputs-fit

    -- ---- one evaluation more

    abbrev next : Standing (List ℕ)
    next = evaluated_next (λ m. selected m q) (total_net (units_of q)) (target q) s.stage s

    abbrev taken : List ℕ
    taken = selected (next_multiplier s.stage) q

    by_cover : (t : Bool) → leb (target q) (total_net (units_of q) taken) ≡ t → evaluated q (run_after file k) ≡ run_at q (length file) next
    unfolding evaluated
    by_cover true e = rw (stage_is, e, add-one) refl
    by_cover false e = rw (stage_is, e, add-one) refl

    pub evaluated-more : (s.stage ≡ finished → ⊥) → evaluated q (run_after file k) ≡ run_after file (suc k)
    evaluated-more u = by_cover (leb (target q) (total_net (units_of q) taken)) refl ∙ ap (run_at q (length file)) (sym (advanced-next (λ m. selected m q) (total_net (units_of q)) (target q) s s.stage refl u))

    pub stays : s.stage ≡ finished → run_after file (suc k) ≡ run_after file k
    stays e = ap (run_at q (length file)) (after-still (λ m. selected m q) (total_net (units_of q)) (target q) (greatest_outputs q) k e)

  -- before the first evaluation
  pub from_start : run_from q (length file) ≡ run_after file 0
  unfolding run_from
  from_start = refl

-- ---- an operation leads on

finished_or_not : (st : Stage) → (st ≡ finished) ⊎ (is_finished st ≡ false)
finished_or_not at_zero = inr refl
finished_or_not at_top = inr refl
finished_or_not (halving k low) = inr refl
finished_or_not finished = inl refl

pub unfinished-flag : (st : Stage) → (st ≡ finished → ⊥) → is_finished st ≡ false
unfinished-flag st u = ⊎_elim (λ e. absurd (u e)) (λ e. e) (finished_or_not st)

module _ (file : List ℕ) (a : case_verdict file ≡ Ok tt) (k : ℕ) (bytes : List ℕ) (h : same (held (numbers_of (run_after file k)) bytes) file ≡ true) where
  abbrev run : Run
  run = run_after file k

  abbrev later : Run
  later = run_after file (suc k)

  by-stage : Dec ((after_of (problem_in file) k).stage ≡ finished) → advanced_by (numbers_of run) bytes file ≡ record { answer = state_told later.finished; numbers = numbers_of later }
  by-stage (yes e) =
      let flagged : run.finished ≡ 1 = ap (λ (st : Stage). flag (is_finished st)) e in
      let unmoved : later ≡ run = stays file a k e in
      let told : state_told later.finished ≡ Ok State.Finished = ap (λ (r : Run). state_told r.finished) unmoved ∙ ap state_told flagged in
      advance-finished (numbers_of run) bytes file (begins file a k) h a flagged ∙ (λ i. record { answer = sym told i; numbers = numbers_of (sym unmoved i) })
  by-stage (no u) =
      let flagged : run.finished ≡ 0 = ap flag (unfinished-flag (after_of (problem_in file) k).stage u) in
      advance-made (numbers_of run) bytes file (begins file a k) h a (λ z. omega (arith, flagged)) (sym (evaluated-more file a k u)) refl

  pub advanced-on : advanced_by (numbers_of run) bytes file ≡ record { answer = state_told later.finished; numbers = numbers_of later }
  advanced-on = by-stage (done (after_of (problem_in file) k).stage)

pub unstarted-not : begun (run_in unstarted) ≡ false
unfolding begun
unstarted-not = refl

-- what is known where operations lead
abbrev pub Known : Course → Type 0
Known none = True
Known (since f k) = case_verdict f ≡ Ok tt

abbrev lent_by : StartResult → Lent
lent_by s = record { numbers = s.numbers; bytes = s.bytes }

started-on : (v : Verdict) (file : List ℕ) → case_verdict file ≡ v → (c : Course) → Known c → (r : Lent) → Stands c r → Stands (start_turns v file c) (lent_by (start_ends v r.numbers r.bytes file)) × Known (start_turns v file c)
unfolding start_ends
started-on (Ok _) file e c h r s = (record { numbers = ap numbers_of (from_start file e); file = ap (λ (n : List ℕ). held n (over file r.bytes)) (ap numbers_of (from_start file e)) ∙ take-append_seam file (drop (length file) r.bytes) }, e)
started-on (Err x) file e c h r s = (s, h)

-- by whether the bytes are those held
advanced-led : (t : Bool) (f : List ℕ) (k : ℕ) → case_verdict f ≡ Ok tt → (r : Lent) → Stands (since f k) r → (file : List ℕ) → same f file ≡ t → let c = cond t (since f (suc k)) (since f k) in Stands c (record { numbers = (advanced_by r.numbers r.bytes file).numbers; bytes = r.bytes }) × Known c
advanced-led true f k h r s file e =
    let bytes = r.bytes in
    let run = numbers_of (run_after f k) in
    let holds : held run bytes ≡ f = ap (λ (n : List ℕ). held n bytes) (sym s.numbers) ∙ s.file in
    let moved : (advanced_by r.numbers bytes file).numbers ≡ numbers_of (run_after f (suc k)) = ap₂ (λ (n x : List ℕ). (advanced_by n bytes x).numbers) s.numbers (sym (same-equal f file e)) ∙ ap (λ (x : AdvanceResult). x.numbers) (advanced-on f h k bytes (ap (λ (x : List ℕ). same x f) holds ∙ same-itself f)) in
    (record { numbers = moved; file = ap (λ (n : List ℕ). held n bytes) moved ∙ holds }, h)
advanced-led false f k h r s file e =
    let bytes = r.bytes in
    let run = numbers_of (run_after f k) in
    let holds : held run bytes ≡ f = ap (λ (n : List ℕ). held n bytes) (sym s.numbers) ∙ s.file in
    let stayed : (advanced_by r.numbers bytes file).numbers ≡ run = ap (λ (n : List ℕ). (advanced_by n bytes file).numbers) s.numbers ∙ ap (λ (x : AdvanceResult). x.numbers) (advance-changed run bytes file (begins f h k) (ap (λ (x : List ℕ). same x file) holds ∙ e)) in
    (record { numbers = stayed; file = ap (λ (n : List ℕ). held n bytes) stayed ∙ holds }, h)

led : (c : Course) → Known c → (r : Lent) → Stands c r → (o : Operation) → Stands (turned c o) (lent_after r o) × Known (turned c o)
unfolding started
led c h r s (start file) = started-on (case_verdict file) file refl c h r s
led none h r s (advance file) =
    let stayed : (advanced_by r.numbers r.bytes file).numbers ≡ unstarted = ap (λ (n : List ℕ). (advanced_by n r.bytes file).numbers) s.numbers ∙ ap (λ (x : AdvanceResult). x.numbers) (advance-unstarted unstarted r.bytes file unstarted-not) in
    (record { numbers = stayed; file = ap (λ (n : List ℕ). held n r.bytes) (stayed ∙ sym s.numbers) ∙ s.file }, tt)
led (since f k) h r s (advance file) = advanced-led (same f file) f k h r s file refl
led none h r s ask = (s, h)
led (since f k) h r s ask = (s, h)

-- and a list of them
pub followed : (c : Course) → Known c → (r : Lent) → Stands c r → (os : List Operation) → Stands (course_of c os) (performed r os) × Known (course_of c os)
followed c h r s [] = (s, h)
followed c h r s (o ∷ os) =
    let one = led c h r s o in
    followed (turned c o) one.1 (lent_after r o) one.0 os
