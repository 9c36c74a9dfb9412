-- Rules 22.4, 22.7 to 22.11, 23.2 and 23.3 of docs/SPECIFICATION.md: what holds of every list of starts, advances and asks on one run, as statements. (They are proved in proofs/Claims.)
use Rattle.std.specs.Prelude.{ℕ, suc, ◌+◌, ◌*◌, ◌-◌, max, min, ◌≤◌, true, false, cond, List, [], ◌∷◌, ◌++◌, ◌≡◌, ◌↔◌, leb, ℤ, pos, length, take, replicate, ◌≤ℤ◌, Ok, Err}
use Rattle.rules.specs.Lists.{over, True}
use Rattle.rules.specs.Numbers.{natural}
use Rattle.rules.specs.Layout.{Case, case_of}
use Rattle.rules.specs.Problem.{Problem, total_cost, total_net, units_of, target, problem_in}
use Rattle.rules.specs.Choice.{selected, floor, greatest_floor}
use Rattle.rules.specs.Bisection.{Reply, greatest_outputs, found}
use Rattle.rules.specs.Stages.{Standing, after}
use Rattle.rules.specs.Calls.{case_verdict, dispatched}
use Rattle.rules.specs.Promise.{Permitted, Covering, cost_less_gap, reply_in}
use Rattle.rules.specs.declared.Refusal.{Refusal}
use Rattle.rules.specs.declared.Refusal.TheVariants.{CaseChanged}
use Rattle.rules.specs.Refusal.{Verdict}
use Rattle.stepping.specs.declared.State.{State}
use Rattle.stepping.specs.declared.Asked.{Asked}
use Rattle.stepping.specs.Runs.{Run, run_in, numbers_of, unstarted, flag, is_finished, low_of, begun, held, same, started, advanced_by, asked, Operation, start, advance, ask, Answer, starts, advances, asks, Lent, answers_of, performed}

-- ---- the run of a problem after k advances: what the search has after k evaluations, or after all of them if there are fewer

-- the greatest of some multipliers' floors, and of 0
abbrev pub greatest_so_far : (ℕ → ℤ) → List ℕ → ℕ
greatest_so_far f [] = 0
greatest_so_far f (m ∷ ms) = max (greatest_so_far f ms) (natural (f m))

abbrev pub after_of : Problem → ℕ → Standing (List ℕ)
after_of q k = after (λ m. selected m q) (total_net (units_of q)) (target q) k (greatest_outputs q)

-- a run whose search stands so
abbrev pub run_at : Problem → ℕ → Standing (List ℕ) → Run
run_at q l s =
    record {
      started = 1;
      finished = flag (is_finished s.stage);
      evaluations = length s.evaluated;
      low = low_of s.stage;
      cost = total_cost (units_of q) s.best;
      surplus = total_net (units_of q) s.best - target q;
      floor = greatest_so_far (λ m. floor m q) s.evaluated;
      count = length q.offers;
      length = l;
      outputs = over s.best (replicate 32 0);
    }

abbrev pub run_after : List ℕ → ℕ → Run
run_after file k = run_at (problem_in file) (length file) (after_of (problem_in file) k)

-- ---- (rule 22.8) where a list of operations leads: no start is accepted, or there are so many advances since the last accepted start, which was of this file

pub data Course : Type 0 where
  none : Course
  since : List ℕ → ℕ → Course

abbrev pub start_turns : Verdict → List ℕ → Course → Course
start_turns (Ok _) file c = since file 0
start_turns (Err r) file c = c

-- (an advance that is refused does not count)
abbrev pub turned : Course → Operation → Course
turned c (start file) = start_turns (case_verdict file) file c
turned none (advance file) = none
turned (since f k) (advance file) = cond (same f file) (since f (suc k)) (since f k)
turned c ask = c

abbrev pub course_of : Course → List Operation → Course
course_of c [] = c
course_of c (o ∷ os) = course_of (turned c o) os

-- no start among them is accepted
abbrev pub StartsRefused : List Operation → Type 0
StartsRefused [] = True
StartsRefused (start file ∷ os) = (case_verdict file ≡ Ok tt → ⊥) × StartsRefused os
StartsRefused (advance file ∷ os) = StartsRefused os
StartsRefused (ask ∷ os) = StartsRefused os

-- the numbers there, and the file held
abbrev pub numbers_at : Course → List ℕ
numbers_at none = unstarted
numbers_at (since f k) = numbers_of (run_after f k)

abbrev pub file_at : Course → List ℕ
file_at none = []
file_at (since f k) = f

pub record Stands (c : Course) (r : Lent) : Type 0 where
  pub numbers : r.numbers ≡ numbers_at c
  pub file : held r.numbers r.bytes ≡ file_at c

-- a run of zeros, with whatever bytes
abbrev pub zeros : List ℕ → Lent
zeros bytes = record { numbers = unstarted; bytes = bytes }

-- (rules 22.8, 23.3) a run is where its operations lead
abbrev pub Follows : Type 0
Follows = (bytes : List ℕ) (os : List Operation) → Stands (course_of none os) (performed (zeros bytes) os)

-- (rule 22.8) after an accepted start it does not matter what the run was before
abbrev pub StartForgets : Type 0
StartForgets =
    (r s : Lent) (file : List ℕ)
    → case_verdict file ≡ Ok tt
    → (os : List Operation)
    → ((performed r (start file ∷ os)).numbers ≡ (performed s (start file ∷ os)).numbers) × (answers_of r (start file ∷ os) ≡ answers_of s (start file ∷ os))

-- (rule 22.8) and until a start is accepted, a run that is not started stays as it is, and advances and asks say so
abbrev pub NotStarted : Type 0
NotStarted =
    (r : Lent)
    → begun (run_in r.numbers) ≡ false
    → (os : List Operation)
    → StartsRefused os
    → (performed r os ≡ r)
    × ((file : List ℕ) → (advanced_by r.numbers r.bytes file).answer ≡ Ok State.NotStarted)
    × ((asked r.numbers).state ≡ State.NotStarted)

-- ---- what holds k advances after the start of a file

-- the number of evaluations that dispatch makes
abbrev pub evaluations_of : List ℕ → ℕ
evaluations_of file = length (found (problem_in file)).evaluated

-- the reply that an ask spells
abbrev pub reply_asked : Asked → Reply
reply_asked a = record { evaluations = a.evaluations; cost = a.cost; gap = a.gap; surplus = a.surplus; outputs = take a.count a.outputs }

-- (rule 22.9) its outputs are permitted and cover, cost and surplus are theirs, and whoever covers spends at least cost less gap
pub record Best (c : Case) (r : Reply) : Type 0 where
  pub permitted : Permitted c r.outputs
  pub covering : Covering c r.outputs
  pub cost : r.cost ≡ total_cost c.units r.outputs
  pub surplus : 100000000 * c.demand + r.surplus ≡ total_net c.units r.outputs
  pub nobody_spends_less : (ps : List ℕ) → Permitted c ps → Covering c ps → cost_less_gap r ≤ℤ pos (total_cost c.units ps)

pub record Moment (file : List ℕ) (k : ℕ) (r : Lent) : Type 0 where
  -- (rule 22.8) it is finished exactly from dispatch's number of evaluations on, and ask and the next advance say so
  pub state : (asked r.numbers).state ≡ cond (leb (evaluations_of file) k) State.Finished State.Unfinished
  pub told : (advanced_by r.numbers r.bytes file).answer ≡ Ok (cond (leb (evaluations_of file) (suc k)) State.Finished State.Unfinished)
  -- (rule 23.3) it is refused exactly where the bytes differ, and then with 24
  pub refused : (other : List ℕ) (x : Refusal) → ((advanced_by r.numbers r.bytes other).answer ≡ Err x) ↔ ((x ≡ CaseChanged) × (other ≡ file → ⊥))
  pub evaluations : (asked r.numbers).evaluations ≡ min k (evaluations_of file)
  pub multipliers : evaluations_of file ≤ k → (after_of (problem_in file) k).evaluated ≡ (found (problem_in file)).evaluated
  pub count : (asked r.numbers).count ≡ length (case_of file).units
  -- (rule 22.4) its numbers fit together
  pub fits : begun (run_in r.numbers) ≡ true
  -- (rule 22.7) the gap is to the greatest floor so far, which is 0 before the first evaluation
  pub gap : (asked r.numbers).gap + greatest_so_far (λ m. floor m (problem_in file)) (after_of (problem_in file) k).evaluated ≡ (asked r.numbers).cost
  pub greatest : 1 ≤ k → pos (greatest_so_far (λ m. floor m (problem_in file)) (after_of (problem_in file) k).evaluated) ≡ greatest_floor (problem_in file) (after_of (problem_in file) k).evaluated
  -- (rule 22.9)
  pub best : Best (case_of file) (reply_asked (asked r.numbers))
  -- (rule 22.10) finished, it has what the bytes of dispatch's reply spell
  pub equal : evaluations_of file ≤ k → (reply : List ℕ) → 92 ≤ length reply → reply_asked (asked r.numbers) ≡ reply_in (dispatched file reply).reply

-- of every list that leads there
abbrev pub EachMoment : Type 0
EachMoment = (bytes : List ℕ) (os : List Operation) (file : List ℕ) (k : ℕ) → course_of none os ≡ since file k → Moment file k (performed (zeros bytes) os)

-- (rule 22.9) between two accepted starts cost never rises and floor never falls
abbrev pub Improves : Type 0
Improves =
    (bytes : List ℕ) (os more : List Operation)
    → StartsRefused more
    → let r = run_in (performed (zeros bytes) os).numbers in let s = run_in (performed (zeros bytes) (os ++ more)).numbers in (s.cost ≤ r.cost) × (r.floor ≤ s.floor)

-- ---- what holds of any numbers

-- (rule 22.10) a finished run stays as it is
abbrev pub FinishedStays : Type 0
FinishedStays = (numbers bytes file : List ℕ) → (run_in numbers).finished ≡ 1 → (advanced_by numbers bytes file).numbers ≡ numbers

-- (rule 22.10) asks can be left out of a list: no other answer changes, nor does the run
abbrev pub without_asks : List Operation → List Operation
without_asks [] = []
without_asks (start file ∷ os) = start file ∷ without_asks os
without_asks (advance file ∷ os) = advance file ∷ without_asks os
without_asks (ask ∷ os) = without_asks os

abbrev pub other_answers : List Answer → List Answer
other_answers [] = []
other_answers (starts x ∷ xs) = starts x ∷ other_answers xs
other_answers (advances x ∷ xs) = advances x ∷ other_answers xs
other_answers (asks x ∷ xs) = other_answers xs

abbrev pub AsksChangeNothing : Type 0
AsksChangeNothing = (r : Lent) (os : List Operation) → (answers_of r (without_asks os) ≡ other_answers (answers_of r os)) × (performed r (without_asks os) ≡ performed r os)

-- nor does an ask, wherever it stands, change the answer of another ask
abbrev pub AskChangesNothing : Type 0
AskChangesNothing =
    (r : Lent) (os more : List Operation)
    → (performed r (os ++ ask ∷ more) ≡ performed r (os ++ more))
    × (answers_of r (os ++ more) ≡ answers_of r os ++ answers_of (performed r os) more)
    × (answers_of r (os ++ ask ∷ more) ≡ answers_of r os ++ (asks (asked (performed r os).numbers) ∷ answers_of (performed r os) more))

-- (rules 22.11, 23.2) what is refused, or not started, leaves everything as it was. A start is refused exactly as dispatch refuses. An advance of a started run is refused with 24 where the bytes differ, and else as a start
pub record RefusalsKeep (numbers bytes file : List ℕ) : Type 0 where
  pub start : (r : Refusal) → (started numbers bytes file).answer ≡ Err r → ((started numbers bytes file).numbers ≡ numbers) × ((started numbers bytes file).bytes ≡ bytes)
  pub advance : (r : Refusal) → (advanced_by numbers bytes file).answer ≡ Err r → (advanced_by numbers bytes file).numbers ≡ numbers
  pub unstarted : (advanced_by numbers bytes file).answer ≡ Ok State.NotStarted → (advanced_by numbers bytes file).numbers ≡ numbers
  pub as_dispatch : (reply : List ℕ) → 92 ≤ length reply → (r : Refusal) → ((started numbers bytes file).answer ≡ Err r) ↔ ((dispatched file reply).answer ≡ Err r)
  pub changed : begun (run_in numbers) ≡ true → (held numbers bytes ≡ file → ⊥) → advanced_by numbers bytes file ≡ record { answer = Err CaseChanged; numbers = numbers }
  pub as_start : begun (run_in numbers) ≡ true → held numbers bytes ≡ file → (r : Refusal) → ((advanced_by numbers bytes file).answer ≡ Err r) ↔ ((started numbers bytes file).answer ≡ Err r)

abbrev pub Keeps : Type 0
Keeps = (numbers bytes file : List ℕ) → RefusalsKeep numbers bytes file
