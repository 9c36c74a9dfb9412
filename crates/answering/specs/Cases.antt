-- Rule 23.4 of docs/SPECIFICATION.md: start, advance and ask of a run in C, case by case. Above each row stands the wrong rule that it shows.
use Rattle.std.specs.Prelude.{ℕ, List, [], ◌∷◌, ◌++◌, refl, ℤ, pos, negsuc, replicate}
use Rattle.rules.specs.Lists.{over}
use Rattle.rules.specs.TableRows.{Row, Holds}
use Rattle.rules.specs.Cases as cases
use Rattle.rules.specs.CaseFiles.{u5, short_head}
use Rattle.stepping.specs.Runs as runs
use Rattle.stepping.specs.Runs.{unstarted}
use Rattle.answering.specs.Answers.{panel_started, panel_advanced, panel_asked}

pub data Call : Type 0 where
  -- the run's numbers and bytes, and the file
  starts : List ℕ → List ℕ → List ℕ → Call
  -- the same, and the lent answers
  advances : List ℕ → List ℕ → List ℕ → List ℤ → Call
  -- the run's numbers, and the lent answers
  asks : List ℕ → List ℤ → Call

pub data Result : Type 0 where
  -- the number, the run's numbers and bytes
  begins : ℕ → List ℕ → List ℕ → Result
  -- the number, the run's numbers, the answers
  moves : ℕ → List ℕ → List ℤ → Result
  -- the number, the answers
  tells : ℕ → List ℤ → Result

-- what the rules give
unfoldable pub answer : Call → Result
unfolding cases.answer runs.stage_of runs.width_at runs.begun runs.run_from runs.start_ends runs.started runs.evaluated runs.advance_ends runs.advanced_by runs.asked panel_started panel_advanced panel_asked
answer (starts numbers bytes file) = let r = panel_started numbers bytes file in begins r.number r.numbers r.bytes
answer (advances numbers bytes file answers) = let r = panel_advanced numbers bytes file answers in moves r.number r.numbers r.answers
answer (asks numbers answers) = let r = panel_asked numbers answers in tells r.number r.answers

-- the run of U, d 5, which has 42 bytes, after 14, 15 and 18 evaluations
abbrev pub run : ℕ → ℕ → ℕ → ℕ → ℕ → ℕ → ℕ → List ℕ
run f e low cost surplus floor p = 1 ∷ f ∷ e ∷ low ∷ cost ∷ surplus ∷ floor ∷ 1 ∷ 42 ∷ over (p ∷ []) (replicate 32 0)

abbrev pub midway : List ℕ
midway = run 0 14 16 200000 500000000 71000 10

abbrev pub further : List ℕ
further = run 0 15 16 119000 200000000 71000 7

abbrev pub ended : List ℕ
ended = run 1 18 0 119000 200000000 77000 7

-- lent answers
abbrev pub nines : ℕ → List ℤ
nines n = replicate n (negsuc 8)

abbrev pub row : Call → Result → Row Call Result
row c r = record { call = c; result = r }

unfoldable pub panel_forms : List (Row Call Result)
panel_forms =
    -- a refused start that returns 0, or changes the run
    row (starts midway u5 short_head) (begins 2 midway u5)
    -- an accepted start that returns another number
    ∷ row (starts unstarted (replicate 44 255) u5) (begins 0 (run 0 0 0 200000 500000000 0 10) (u5 ++ (255 ∷ 255 ∷ [])))
    -- no room behind not started
    ∷ row (advances unstarted [] u5 []) (moves 1 unstarted [])
    -- no room behind other bytes; one evaluation made all the same
    ∷ row (advances midway u5 short_head []) (moves 1 midway [])
    ∷ row (advances midway u5 u5 []) (moves 1 midway [])
    -- not started by a number, or by another state; the place behind touched
    ∷ row (advances unstarted [] u5 (nines 2)) (moves 0 unstarted (pos 0 ∷ nines 1))
    -- unfinished and finished the other way round
    ∷ row (advances midway u5 u5 (nines 2)) (moves 0 further (pos 1 ∷ nines 1))
    ∷ row (advances ended u5 u5 (nines 2)) (moves 0 ended (pos 2 ∷ nines 1))
    -- a refusal that touches the answers
    ∷ row (advances ended u5 short_head (nines 2)) (moves 24 ended (nines 2))
    -- an ask with 37 places; one that touches a place behind; gap and surplus the other way round; outputs alone
    ∷ row (asks further (nines 37)) (tells 1 (nines 37))
    ∷ row (asks further (nines 39)) (tells 0 (pos 1 ∷ pos 1 ∷ pos 15 ∷ pos 119000 ∷ pos 48000 ∷ pos 200000000 ∷ pos 7 ∷ (replicate 31 (pos 0) ++ nines 1)))
    ∷ row (asks ended (nines 38)) (tells 0 (pos 2 ∷ pos 1 ∷ pos 18 ∷ pos 119000 ∷ pos 42000 ∷ pos 200000000 ∷ pos 7 ∷ replicate 31 (pos 0)))
    -- a run that is not started refused
    ∷ row (asks unstarted (nines 38)) (tells 0 (replicate 38 (pos 0)))
    ∷ []

pub panel_forms_hold : Holds answer panel_forms
unfolding answer panel_forms
panel_forms_hold = refl
