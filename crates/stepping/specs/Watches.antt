-- Section 22 of docs/SPECIFICATION.md: runs watched from their start to their end, each asked after every evaluation. Above each row stands the wrong rule that it shows.
use Rattle.std.specs.Prelude.{ℕ, suc, ◌+◌, List, [], ◌∷◌, ◌++◌, refl, length, replicate}
use Rattle.rules.specs.Layout.{file_of}
use Rattle.rules.specs.TableRows.{Row, Holds}
use Rattle.rules.specs.CaseFiles.{u5, put, with_linear_loss, lossy}
use Rattle.stepping.specs.declared.State.{State}
use Rattle.stepping.specs.Runs.{unstarted, Operation, start, advance, ask}
use Rattle.stepping.specs.Cases.{Call, Told, Result, answer, of_u, must_run, dear, twice, room, padded, run, ended, on, begins, unfinished, finished, shows}

-- a look at a best so far: cost, gap, surplus, outputs
pub record Look : Type 0 where
  pub cost : ℕ
  pub gap : ℕ
  pub surplus : ℕ
  pub outputs : List ℕ

-- so many looks that are equal
abbrev pub times : ℕ → ℕ → ℕ → ℕ → List ℕ → List Look
times n cost gap surplus ps = replicate n (record { cost = cost; gap = gap; surplus = surplus; outputs = ps })

abbrev pub looked_at : List ℕ → List Look → List Operation
looked_at file [] = []
looked_at file (l ∷ ls) = advance file ∷ ask ∷ looked_at file ls

abbrev pub look_shown : State → ℕ → Look → Told
look_shown s evaluations l = shows s (length l.outputs) evaluations l.cost l.gap l.surplus (padded l.outputs)

-- looks from before that many evaluations on: unfinished up to the last, which is finished, and the same after one advance more
abbrev pub looks_shown : ℕ → List Look → List Told
looks_shown k [] = []
looks_shown k (l ∷ []) = look_shown State.Finished k l ∷ finished ∷ look_shown State.Finished k l ∷ []
looks_shown k (l ∷ m ∷ []) = look_shown State.Unfinished k l ∷ finished ∷ looks_shown (suc k) (m ∷ [])
looks_shown k (l ∷ m ∷ n ∷ ls) = look_shown State.Unfinished k l ∷ unfinished ∷ looks_shown (suc k) (m ∷ n ∷ ls)

-- a run of a case, asked at its start and after each advance, as often as it is evaluated and once more: the looks, and its numbers at the end. It holds the case, and the bytes behind it are untouched
abbrev pub watched : List ℕ → List Look → List ℕ → Row Call Result
watched file looks after = on unstarted (room (length file + 2)) (start file ∷ ask ∷ looked_at file looks) (begins ∷ looks_shown 0 looks) after (file ++ room 2)

unfoldable pub watches : List (Row Call Result)
watches =
    -- a floor before the first evaluation; an ask that evaluates or counts; finished told one advance early, or only by the advance after; the state before the evaluation told; a choice that does not cover taken as best; a finished run that goes on
    watched u5
    (times 13 200000 200000 500000000 (10 ∷ []) ++ times 1 200000 160000 500000000 (10 ∷ []) ++ times 1 200000 129000 500000000 (10 ∷ []) ++ times 1 119000 48000 200000000 (7 ∷ []) ++ times 2 119000 43000 200000000 (7 ∷ []) ++ times 1 119000 42000 200000000 (7 ∷ []))
    ended
    -- the floor of the last evaluation alone: gaps of 14,000 and 13,000 at the end
    ∷ watched (of_u 1)
    (times 14 200000 200000 900000000 (10 ∷ []) ++ times 1 39000 32000 200000000 (3 ∷ []) ++ times 1 39000 31000 200000000 (3 ∷ []) ++ times 3 24000 12000 100000000 (2 ∷ []))
    (run 1 18 0 24000 100000000 12000 1 42 (2 ∷ []))
    -- no end at 0; the greatest outputs kept where 0 covers
    ∷ watched (of_u 0) (times 1 200000 200000 1000000000 (10 ∷ []) ++ times 1 0 0 0 (0 ∷ [])) (run 1 1 0 0 0 0 1 42 [])
    -- the floor of 0 taken for 0
    ∷ watched must_run (times 1 200000 200000 1000000000 (10 ∷ []) ++ times 1 24000 0 200000000 (2 ∷ [])) (run 1 1 0 24000 200000000 24000 1 42 (2 ∷ []))
    -- no end at 65,536 without cover
    ∷ watched dear
    (times 2 1500400000 1500400000 500000000 (10 ∷ 10 ∷ []) ++ times 1 1500400000 672520000 500000000 (10 ∷ 10 ∷ []))
    (run 1 2 0 1500400000 500000000 827880000 2 76 (10 ∷ 10 ∷ []))
    -- no end at equal net of 65,536
    ∷ watched (of_u 10) (times 2 200000 200000 0 (10 ∷ []) ++ times 1 200000 0 0 (10 ∷ [])) (run 1 2 0 200000 0 200000 1 42 (10 ∷ []))
    -- no end at equal net of a middle
    ∷ watched (of_u 2)
    (times 14 200000 200000 800000000 (10 ∷ []) ++ times 2 39000 16000 100000000 (3 ∷ []) ++ times 1 24000 0 0 (2 ∷ []))
    (run 1 16 0 24000 0 24000 1 42 (2 ∷ []))
    -- ties not lowered; one unit's outputs
    ∷ watched twice
    (times 14 400000 400000 1500000000 (10 ∷ 10 ∷ []) ++ times 4 78000 16000 100000000 (3 ∷ 3 ∷ []) ++ times 1 63000 0 0 (2 ∷ 3 ∷ []))
    (run 1 18 0 63000 0 63000 2 76 (2 ∷ 3 ∷ []))
    -- losses left out; floors rounded down
    ∷ watched (file_of 5 (lossy ∷ []))
    (times 13 200000 200000 499999900 (10 ∷ []) ++ times 1 200000 159999 499999900 (10 ∷ []) ++ times 1 200000 128999 499999900 (10 ∷ []) ++ times 1 119000 47999 199999951 (7 ∷ []) ++ times 2 119000 42999 199999951 (7 ∷ []) ++ times 1 119000 41999 199999951 (7 ∷ []))
    (run 1 18 0 119000 199999951 77001 1 42 (7 ∷ []))
    -- edition 2 refused, or its b1 left out
    ∷ watched (put 7 (0x0B ∷ []) (with_linear_loss 0xFF 0x67 0x69 0x80))
    (times 2 200000 200000 0 (10 ∷ []) ++ times 1 200000 0 0 (10 ∷ []))
    (run 1 2 0 200000 0 200000 1 46 (10 ∷ []))
    ∷ []

pub watches_hold : Holds answer watches
unfolding answer watches
watches_hold = refl
