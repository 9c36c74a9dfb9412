-- Section 22 of docs/SPECIFICATION.md: operations on a run in other orders, refused ones among them. Above each row stands the wrong rule that it shows.
use Rattle.std.specs.Prelude.{List, [], ◌∷◌, ◌++◌, refl, replicate, drop}
use Rattle.rules.specs.TableRows.{Row, Holds}
use Rattle.rules.specs.CaseFiles.{u5, short_head, put}
use Rattle.stepping.specs.Runs.{unstarted, start, advance, ask}
use Rattle.stepping.specs.Cases.{Call, Result, answer, of_u, must_run, twice, room, held_u, run, midway, further, ended, none, unfinished_at, finished_at, midway_shown, further_shown, ended_shown, on, holds, kept, begins, unfinished, finished, not_started, refuses}

unfoldable pub sequences : List (Row Call Result)
sequences =
    -- an advance or an ask that starts a run; anything but zeros shown of none; a refusal ahead of "not started"
    kept unstarted (room 44) (ask ∷ advance u5 ∷ advance short_head ∷ advance (of_u 11) ∷ ask ∷ [])
    (none ∷ not_started ∷ not_started ∷ not_started ∷ none ∷ [])
    -- a refused start that starts a run, or that takes the bytes
    ∷ kept unstarted (room 44) (start (of_u 11) ∷ ask ∷ advance u5 ∷ start short_head ∷ advance u5 ∷ ask ∷ [])
    (refuses 11 ∷ none ∷ not_started ∷ refuses 2 ∷ not_started ∷ none ∷ [])
    -- what only an ask brings about
    ∷ on unstarted (room 44) (start (of_u 10) ∷ advance (of_u 10) ∷ advance (of_u 10) ∷ advance (of_u 10) ∷ [])
    (begins ∷ unfinished ∷ finished ∷ finished ∷ []) (run 1 2 0 200000 0 200000 1 42 (10 ∷ [])) ((of_u 10) ++ room 2)
    -- a second start that keeps the old best (24,000), floor (gap 176,000) or state, or that goes on with 65,536
    ∷ on unstarted (room 44) (start must_run ∷ advance must_run ∷ start u5 ∷ ask ∷ advance u5 ∷ ask ∷ [])
    (begins ∷ finished ∷ begins ∷ unfinished_at 1 0 200000 200000 500000000 (10 ∷ []) ∷ unfinished ∷ unfinished_at 1 1 200000 200000 500000000 (10 ∷ []) ∷ []) (run 0 1 0 200000 500000000 0 1 42 (10 ∷ [])) held_u
    -- a second start that leaves outputs of the old run behind its own; one that clears the held bytes behind its file
    ∷ on unstarted (room 80) (start twice ∷ start u5 ∷ [])
    (begins ∷ begins ∷ []) (run 0 0 0 200000 500000000 0 1 42 (10 ∷ [])) (u5 ++ drop 42 twice ++ room 4)
    -- a start with the same case that does nothing
    ∷ on unstarted (room 44) (start (of_u 10) ∷ advance (of_u 10) ∷ advance (of_u 10) ∷ start (of_u 10) ∷ ask ∷ advance (of_u 10) ∷ ask ∷ [])
    (begins ∷ unfinished ∷ finished ∷ begins ∷ unfinished_at 1 0 200000 200000 0 (10 ∷ []) ∷ unfinished ∷ unfinished_at 1 1 200000 200000 0 (10 ∷ []) ∷ []) (run 0 1 0 200000 0 0 1 42 (10 ∷ [])) ((of_u 10) ++ room 2)
    -- a start in the halving that does nothing, or keeps low
    ∷ holds midway held_u (start u5 ∷ []) (begins ∷ []) (run 0 0 0 200000 500000000 0 1 42 (10 ∷ []))
    -- a start that asks what the run was
    ∷ on (replicate 41 18446744073709551615) (room 44) (start u5 ∷ []) (begins ∷ []) (run 0 0 0 200000 500000000 0 1 42 (10 ∷ [])) held_u
    -- a refused start that clears the run or restarts it: with 11
    ∷ on unstarted (room 44) (start u5 ∷ advance u5 ∷ start (of_u 11) ∷ ask ∷ advance u5 ∷ ask ∷ [])
    (begins ∷ unfinished ∷ refuses 11 ∷ unfinished_at 1 1 200000 200000 500000000 (10 ∷ []) ∷ unfinished ∷ unfinished_at 1 2 200000 200000 500000000 (10 ∷ []) ∷ []) (run 0 2 0 200000 500000000 0 1 42 (10 ∷ [])) held_u
    -- with 2
    ∷ holds midway held_u (start short_head ∷ ask ∷ advance u5 ∷ ask ∷ []) (refuses 2 ∷ midway_shown ∷ unfinished ∷ further_shown ∷ []) further
    -- of a finished run
    ∷ kept ended held_u (start (of_u 11) ∷ start short_head ∷ ask ∷ []) (refuses 11 ∷ refuses 2 ∷ ended_shown ∷ [])
    -- of numbers that no start has made
    ∷ kept (replicate 41 9) held_u (start (of_u 11) ∷ start short_head ∷ ask ∷ []) (refuses 11 ∷ refuses 2 ∷ none ∷ [])
    -- a refused advance that counts, evaluates or clears
    ∷ holds midway held_u (advance short_head ∷ advance (of_u 11) ∷ ask ∷ advance u5 ∷ ask ∷ [])
    (refuses 24 ∷ refuses 24 ∷ midway_shown ∷ unfinished ∷ further_shown ∷ []) further
    -- finished told ahead of a refusal; a finished run that takes another case
    ∷ kept ended held_u (advance short_head ∷ advance (of_u 11) ∷ advance u5 ∷ advance must_run ∷ ask ∷ [])
    (refuses 24 ∷ refuses 24 ∷ finished ∷ refuses 24 ∷ ended_shown ∷ [])
    -- finished told ahead of the file's checks, where that file is held
    ∷ kept (put 8 (7 ∷ []) ended) (short_head ++ room 2) (advance short_head ∷ ask ∷ []) (refuses 2 ∷ ended_shown ∷ [])
    ∷ kept ended ((of_u 11) ++ room 2) (advance (of_u 11) ∷ ask ∷ []) (refuses 11 ∷ ended_shown ∷ [])
    -- another good case evaluated, not refused with 24
    ∷ on unstarted (room 44) (start u5 ∷ advance must_run ∷ ask ∷ [])
    (begins ∷ refuses 24 ∷ unfinished_at 1 0 200000 200000 500000000 (10 ∷ []) ∷ []) (run 0 0 0 200000 500000000 0 1 42 (10 ∷ [])) held_u
    -- one of more units
    ∷ on unstarted (room 44) (start u5 ∷ advance twice ∷ ask ∷ advance twice ∷ ask ∷ [])
    (begins ∷ refuses 24 ∷ unfinished_at 1 0 200000 200000 500000000 (10 ∷ []) ∷ refuses 24 ∷ unfinished_at 1 0 200000 200000 500000000 (10 ∷ []) ∷ []) (run 0 0 0 200000 500000000 0 1 42 (10 ∷ [])) held_u
    -- or of fewer
    ∷ on unstarted (room 80) (start twice ∷ advance u5 ∷ ask ∷ [])
    (begins ∷ refuses 24 ∷ unfinished_at 2 0 400000 400000 1500000000 (10 ∷ 10 ∷ []) ∷ []) (run 0 0 0 400000 1500000000 0 2 76 (10 ∷ 10 ∷ [])) (twice ++ room 4)
    -- of another demand
    ∷ on unstarted (room 44) (start u5 ∷ advance (of_u 10) ∷ ask ∷ [])
    (begins ∷ refuses 24 ∷ unfinished_at 1 0 200000 200000 500000000 (10 ∷ []) ∷ []) (run 0 0 0 200000 500000000 0 1 42 (10 ∷ [])) held_u
    -- the run's numbers taken for the held case's: its best, where the case has another
    ∷ holds (run 0 0 0 200000 500000000 0 1 42 (10 ∷ [])) (must_run ++ room 2) (advance must_run ∷ ask ∷ [])
    (finished ∷ finished_at 1 1 24000 0 200000000 (2 ∷ []) ∷ []) (run 1 1 0 24000 200000000 24000 1 42 (2 ∷ []))
    -- its count, where the case has more units
    ∷ holds (run 0 0 0 200000 500000000 0 1 76 (10 ∷ [])) (twice ++ room 2) (advance twice ∷ ask ∷ advance twice ∷ ask ∷ [])
    (unfinished ∷ unfinished_at 2 1 200000 200000 500000000 (10 ∷ []) ∷ unfinished ∷ unfinished_at 2 2 400000 400000 1500000000 (10 ∷ 10 ∷ []) ∷ []) (run 0 2 0 400000 1500000000 0 2 76 (10 ∷ 10 ∷ []))
    -- or fewer: outputs behind the count cleared, or not told
    ∷ holds (run 0 0 0 400000 1500000000 0 2 42 (10 ∷ 10 ∷ [])) held_u (advance u5 ∷ ask ∷ [])
    (unfinished ∷ unfinished_at 1 1 400000 400000 1500000000 (10 ∷ 10 ∷ []) ∷ []) (run 0 1 0 400000 1500000000 0 1 42 (10 ∷ 10 ∷ []))
    -- the surplus of a best that stays reckoned with the case's demand
    ∷ holds (run 0 0 0 200000 500000000 0 1 42 (10 ∷ [])) ((of_u 10) ++ room 2) (advance (of_u 10) ∷ ask ∷ [])
    (unfinished ∷ unfinished_at 1 1 200000 200000 500000000 (10 ∷ []) ∷ []) (run 0 1 0 200000 500000000 0 1 42 (10 ∷ []))
    ∷ []

pub sequences_hold : Holds answer sequences
unfolding answer sequences
sequences_hold = refl
