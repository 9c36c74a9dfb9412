-- Closed cases of runs (sections 22 and 23 of docs/SPECIFICATION.md): calls, what each tells, the cases and runs that rows are made of. `Watches`, `Sequences` and `Limits` have the rows.
use Rattle.std.specs.Prelude.{ℕ, List, [], ◌∷◌, ◌++◌, map, replicate, Ok, Err}
use Rattle.std.specs.Prelude as prelude
use Rattle.rules.specs.Lists.{over}
use Rattle.rules.specs.Layout.{file_of}
use Rattle.rules.specs.Refusal.{number_of}
use Rattle.rules.specs.TableRows.{Row}
use Rattle.rules.specs.Cases as cases
use Rattle.rules.specs.CaseFiles.{u5, put, U, marked, costing}
use Rattle.rules.specs.declared.Refusal.{Refusal}
use Rattle.stepping.specs.declared.State.{State}
use Rattle.stepping.specs.Runs.{stage_of, width_at, begun, run_from, start_ends, started, evaluated, advance_ends, advanced_by, asked, Operation, Answer, starts, advances, asks, Lent, answers_of, performed}

pub data Call : Type 0 where
  -- the run's numbers, its bytes, and the operations on it one after the other
  from : List ℕ → List ℕ → List Operation → Call

-- what one operation tells
pub data Told : Type 0 where
  begins : Told
  unfinished : Told
  finished : Told
  not_started : Told
  refuses : ℕ → Told
  -- state, count, evaluations, cost, gap, surplus, all 32 outputs
  shows : State → ℕ → ℕ → ℕ → ℕ → ℕ → List ℕ → Told

pub data Result : Type 0 where
  -- what each operation tells, and the run's numbers and bytes after the last
  leaves : List Told → List ℕ → List ℕ → Result

abbrev pub of_started : prelude.Result (Unit {0}) Refusal → Told
of_started (Ok u) = begins
of_started (Err r) = refuses (number_of r)

abbrev pub of_advanced : prelude.Result State Refusal → Told
of_advanced (Ok State.Unfinished) = unfinished
of_advanced (Ok State.Finished) = finished
of_advanced (Ok State.NotStarted) = not_started
of_advanced (Err r) = refuses (number_of r)

abbrev pub told : Answer → Told
told (starts s) = of_started s
told (advances a) = of_advanced a
told (asks a) = shows a.state a.count a.evaluations a.cost a.gap a.surplus a.outputs

abbrev pub lent : List ℕ → List ℕ → Lent
lent numbers held = record { numbers = numbers; bytes = held }

abbrev pub left : List Told → Lent → Result
left answers r = leaves answers r.numbers r.bytes

-- what the rules give
unfoldable pub answer : Call → Result
unfolding cases.answer stage_of width_at begun run_from start_ends started evaluated advance_ends advanced_by asked
answer (from numbers held operations) = left (map told (answers_of (lent numbers held) operations)) (performed (lent numbers held) operations)

-- ---- cases: U with another demand; U that must run, d 0; two dear units, which 65,536 does not make cover; U twice

abbrev pub of_u : ℕ → List ℕ
of_u d = put 7 (d ∷ []) u5

abbrev pub must_run : List ℕ
must_run = file_of 0 (marked 1 0 0 0 ∷ [])

abbrev pub dear : List ℕ
dear = file_of 15 (costing 500000000 10000 1000 0 ∷ costing 1000000000 10000 1000 0 ∷ [])

abbrev pub twice : List ℕ
twice = file_of 5 (U ∷ U ∷ [])

-- ---- held bytes: a file, and bytes 255 behind it

abbrev pub room : ℕ → List ℕ
room n = replicate n 255

abbrev pub held_u : List ℕ
held_u = u5 ++ room 2

-- ---- runs: those of U, d 5, after 14, 15 and 18 evaluations

abbrev pub padded : List ℕ → List ℕ
padded ps = over ps (replicate 32 0)

-- a run with 1 for started: finished, evaluations, low, cost, surplus, floor, count, length, the first outputs
abbrev pub run : ℕ → ℕ → ℕ → ℕ → ℕ → ℕ → ℕ → ℕ → List ℕ → List ℕ
run ends evaluations low cost surplus floor count size ps = 1 ∷ ends ∷ evaluations ∷ low ∷ cost ∷ surplus ∷ floor ∷ count ∷ size ∷ padded ps

abbrev pub midway : List ℕ
midway = run 0 14 16 200000 500000000 71000 1 42 (10 ∷ [])

abbrev pub further : List ℕ
further = run 0 15 16 119000 200000000 71000 1 42 (7 ∷ [])

abbrev pub ended : List ℕ
ended = run 1 18 0 119000 200000000 77000 1 42 (7 ∷ [])

-- ---- what an ask tells: count, evaluations, cost, gap, surplus, the first outputs

abbrev pub none : Told
none = shows State.NotStarted 0 0 0 0 0 (replicate 32 0)

abbrev pub unfinished_at : ℕ → ℕ → ℕ → ℕ → ℕ → List ℕ → Told
unfinished_at count evaluations cost gap surplus ps = shows State.Unfinished count evaluations cost gap surplus (padded ps)

abbrev pub finished_at : ℕ → ℕ → ℕ → ℕ → ℕ → List ℕ → Told
finished_at count evaluations cost gap surplus ps = shows State.Finished count evaluations cost gap surplus (padded ps)

abbrev pub midway_shown : Told
midway_shown = unfinished_at 1 14 200000 129000 500000000 (10 ∷ [])

abbrev pub further_shown : Told
further_shown = unfinished_at 1 15 119000 48000 200000000 (7 ∷ [])

abbrev pub ended_shown : Told
ended_shown = finished_at 1 18 119000 42000 200000000 (7 ∷ [])

-- ---- rows

-- numbers and bytes before, and after
abbrev pub on : List ℕ → List ℕ → List Operation → List Told → List ℕ → List ℕ → Row Call Result
on numbers held operations answers numbers_after held_after = record { call = from numbers held operations; result = leaves answers numbers_after held_after }

-- with every byte as it was
abbrev pub holds : List ℕ → List ℕ → List Operation → List Told → List ℕ → Row Call Result
holds numbers held operations answers after = on numbers held operations answers after held

-- and every number
abbrev pub kept : List ℕ → List ℕ → List Operation → List Told → Row Call Result
kept numbers held operations answers = on numbers held operations answers numbers held
