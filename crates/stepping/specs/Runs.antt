-- Sections 22 and 23 of docs/SPECIFICATION.md: a search that its caller advances, one evaluation at a time, and which holds its case. What start, advance and ask answer and leave, of every run and every file.
-- A run is the state of such a search between two calls: 41 numbers and 1,608 bytes in two arrays that the caller lends.
use Rattle.std.specs.Prelude.{ℕ, zero, suc, ◌+◌, ◌-◌, ◌*◌, ◌/◌, ◌^◌, max, Bool, true, false, cond, ◌&&◌, ◌||◌, List, [], ◌∷◌, leb, eqb, ltb, length, get_or, take, drop, replicate, Result, Ok, Err}
use Rattle.rules.specs.Lists.{all, over}
use Rattle.rules.specs.Numbers.{natural}
use Rattle.rules.specs.Problem.{Problem, total_cost, total_net, units_of, target, problem_in}
use Rattle.rules.specs.Choice.{selected, floor}
use Rattle.rules.specs.Bisection.{greatest_outputs}
use Rattle.rules.specs.Stages.{Stage, at_zero, at_top, halving, finished, next_multiplier, stage_after}
use Rattle.rules.specs.Calls.{case_verdict}
use Rattle.rules.specs.declared.Refusal.{Refusal}
use Rattle.rules.specs.declared.Refusal.TheVariants.{CaseChanged}
use Rattle.rules.specs.Refusal.{Verdict}
use Rattle.stepping.specs.declared.State.{State}
use Rattle.stepping.specs.declared.Asked.{Asked}

-- ---- (rule 22.2) what a run's numbers stand for: where its search stands, and the best outputs and the greatest floor so far

pub record Run : Type 0 where
  pub started : ℕ
  pub finished : ℕ
  pub evaluations : ℕ
  pub low : ℕ
  pub cost : ℕ
  pub surplus : ℕ
  pub floor : ℕ
  pub count : ℕ
  pub length : ℕ
  pub outputs : List ℕ

abbrev pub run_in : List ℕ → Run
run_in numbers =
    record {
      started = get_or numbers 0 0;
      finished = get_or numbers 1 0;
      evaluations = get_or numbers 2 0;
      low = get_or numbers 3 0;
      cost = get_or numbers 4 0;
      surplus = get_or numbers 5 0;
      floor = get_or numbers 6 0;
      count = get_or numbers 7 0;
      length = get_or numbers 8 0;
      outputs = drop 9 numbers;
    }

abbrev pub numbers_of : Run → List ℕ
numbers_of r = r.started ∷ r.finished ∷ r.evaluations ∷ r.low ∷ r.cost ∷ r.surplus ∷ r.floor ∷ r.count ∷ r.length ∷ r.outputs

-- no start has made it: zeros
abbrev pub unstarted : List ℕ
unstarted = replicate 41 0

-- ---- (rule 22.3) where the search of a run stands: by the evaluations made, none, one, or from two on the halving; unless it is finished

abbrev pub stage_at : ℕ → ℕ → Stage
stage_at zero low = at_zero
stage_at (suc zero) low = at_top
stage_at (suc (suc j)) low = halving (15 - j) low

unfoldable pub stage_of : Run → Stage
stage_of r = cond (eqb r.finished 1) finished (stage_at r.evaluations r.low)

-- how far the next multiplier lies above low after so many evaluations: 65,536 after the first, 32,768 after the second (131,072 before the first)
unfoldable pub width_at : ℕ → ℕ
width_at evaluations = 131072 / 2 ^ evaluations

-- ---- (rule 22.4) a run counts as started only if its numbers fit together, as those of every run that a start has made do

-- an unfinished run has an evaluation left, and its upper end is at most 65,536, unless low is 0
abbrev pub stage_fits : ℕ → ℕ → ℕ → Bool
stage_fits f e low = leb e 18 && (eqb f 1 || (eqb f 0 && (ltb e 18 && (eqb low 0 || leb (low + 2 * width_at e) 65536))))

abbrev pub amounts_fit : ℕ → ℕ → ℕ → ℕ → ℕ → Bool
amounts_fit c s f n l = leb c 35200000000000 && (leb s 35200000000000 && (leb f 35200000000000 && (ltb 0 n && (leb n 32 && leb l 1608))))

abbrev pub outputs_fit : List ℕ → Bool
outputs_fit ps = all (λ p. leb p 10000) ps

unfoldable pub begun : Run → Bool
begun r =
    eqb r.started 1 && (stage_fits r.finished r.evaluations r.low && (amounts_fit r.cost r.surplus r.floor r.count r.length && outputs_fit r.outputs))

-- ---- (rules 23.1, 23.2) the file that a run holds: the first `length` of its bytes

abbrev pub held : List ℕ → List ℕ → List ℕ
held numbers bytes = take (run_in numbers).length bytes

abbrev pub same : List ℕ → List ℕ → Bool
same [] [] = true
same [] (y ∷ ys) = false
same (x ∷ xs) [] = false
same (x ∷ xs) (y ∷ ys) = eqb x y && same xs ys

abbrev pub flag : Bool → ℕ
flag b = cond b 1 0

abbrev pub is_finished : Stage → Bool
is_finished at_zero = false
is_finished at_top = false
is_finished (halving k low) = false
is_finished finished = true

-- the low end of a stage (0 where there is no halving)
abbrev pub low_of : Stage → ℕ
low_of at_zero = 0
low_of at_top = 0
low_of (halving k low) = low
low_of finished = 0

-- ---- (rule 22.5) start: the case is checked and step 1 made; the greatest outputs are the best so far, and the floor is 0

pub record StartResult : Type 0 where
  pub answer : Result (Unit {0}) Refusal
  pub numbers : List ℕ
  pub bytes : List ℕ

unfoldable pub run_from : Problem → ℕ → Run
run_from q l =
    let ps = greatest_outputs q in
    record {
      started = 1;
      finished = 0;
      evaluations = 0;
      low = 0;
      cost = total_cost (units_of q) ps;
      surplus = total_net (units_of q) ps - target q;
      floor = 0;
      count = length q.offers;
      length = l;
      outputs = over ps (replicate 32 0);
    }

unfoldable pub start_ends : Verdict → List ℕ → List ℕ → List ℕ → StartResult
start_ends (Err r) numbers bytes file = record { answer = Err r; numbers = numbers; bytes = bytes }
start_ends (Ok _) numbers bytes file = record { answer = Ok tt; numbers = numbers_of (run_from (problem_in file) (length file)); bytes = over file bytes }

-- (rule 23.1) an accepted start takes the file's bytes
unfoldable pub started : List ℕ → List ℕ → List ℕ → StartResult
started numbers bytes file = start_ends (case_verdict file) numbers bytes file

-- ---- (rule 22.6) advance: one evaluation. What it takes is the best where it covers; its floor is the greatest where it is greater

unfoldable pub evaluated : Problem → Run → Run
evaluated q r =
    let m = next_multiplier (stage_of r) in
    let ps = selected m q in
    let w = total_net (units_of q) ps in
    let covers = leb (target q) w in
    let next = stage_after (total_net (units_of q)) (target q) (stage_of r) ps in
    record {
      started = 1;
      finished = flag (is_finished next);
      evaluations = r.evaluations + 1;
      low = low_of next;
      cost = cond covers (total_cost (units_of q) ps) r.cost;
      surplus = cond covers (w - target q) r.surplus;
      floor = max r.floor (natural (floor m q));
      count = length q.offers;
      length = r.length;
      outputs = cond covers (over ps (replicate 32 0)) r.outputs;
    }

pub record AdvanceResult : Type 0 where
  pub answer : Result State Refusal
  pub numbers : List ℕ

abbrev pub state_told : ℕ → Result State Refusal
state_told f = Ok (cond (eqb f 1) State.Finished State.Unfinished)

-- a finished run stays as it is; else the state after the evaluation is told
unfoldable pub advance_ends : Verdict → List ℕ → List ℕ → AdvanceResult
advance_ends (Err x) numbers file = record { answer = Err x; numbers = numbers }
advance_ends (Ok _) numbers file =
    let next = evaluated (problem_in file) (run_in numbers) in
    cond (eqb (run_in numbers).finished 1) (record { answer = Ok State.Finished; numbers = numbers }) (record { answer = state_told next.finished; numbers = numbers_of next })

-- (rule 23.2) other bytes than those of the start are refused ahead of every other check
unfoldable pub advanced_by : List ℕ → List ℕ → List ℕ → AdvanceResult
advanced_by numbers bytes file =
    let not_started : AdvanceResult = record { answer = Ok State.NotStarted; numbers = numbers } in
    let changed : AdvanceResult = record { answer = Err CaseChanged; numbers = numbers } in
    cond (begun (run_in numbers)) (cond (same (held numbers bytes) file) (advance_ends (case_verdict file) numbers file) changed) not_started

-- ---- (rule 22.7) ask: the best so far, its cost and its distance above the greatest floor so far

unfoldable pub asked : List ℕ → Asked
asked numbers =
    let r = run_in numbers in
    let none : Asked = record { state = State.NotStarted; count = 0; evaluations = 0; cost = 0; gap = 0; surplus = 0; outputs = replicate 32 0 } in
    let some : Asked = record { state = cond (eqb r.finished 1) State.Finished State.Unfinished; count = r.count; evaluations = r.evaluations; cost = r.cost; gap = r.cost - r.floor; surplus = r.surplus; outputs = r.outputs } in
    cond (begun r) some none

-- ---- operations one after the other on one run

pub data Operation : Type 0 where
  start : List ℕ → Operation
  advance : List ℕ → Operation
  ask : Operation

pub data Answer : Type 0 where
  starts : Result (Unit {0}) Refusal → Answer
  advances : Result State Refusal → Answer
  asks : Asked → Answer

-- (an advance and an ask leave the bytes as they are)
pub record Lent : Type 0 where
  pub numbers : List ℕ
  pub bytes : List ℕ

abbrev pub answer_to : Lent → Operation → Answer
answer_to r (start file) = starts (started r.numbers r.bytes file).answer
answer_to r (advance file) = advances (advanced_by r.numbers r.bytes file).answer
answer_to r ask = asks (asked r.numbers)

abbrev pub lent_after : Lent → Operation → Lent
lent_after r (start file) = let s = started r.numbers r.bytes file in record { numbers = s.numbers; bytes = s.bytes }
lent_after r (advance file) = record { numbers = (advanced_by r.numbers r.bytes file).numbers; bytes = r.bytes }
lent_after r ask = r

abbrev pub answers_of : Lent → List Operation → List Answer
answers_of r [] = []
answers_of r (o ∷ os) = answer_to r o ∷ answers_of (lent_after r o) os

abbrev pub performed : Lent → List Operation → Lent
performed r [] = r
performed r (o ∷ os) = performed (lent_after r o) os
