-- Sections 22 and 23 of docs/SPECIFICATION.md: runs at their limits, case by case: numbers that are no started run and those that just are one, files that are refused, bytes that are not those held, and the longest file. Above each row stands the wrong rule that it shows.
use Rattle.std.specs.Prelude.{ℕ, zero, suc, ◌+◌, List, [], ◌∷◌, ◌++◌, refl, length, replicate, take, drop}
use Rattle.fields.specs.Field.{bytes}
use Rattle.rules.specs.Layout.{file_of}
use Rattle.rules.specs.TableRows.{Row, Holds}
use Rattle.rules.specs.CaseFiles.{u5, short_head, other_edition, no_unit, demand_above, byte_too_many, no_zone, linear_cost_above, edge_at_least, other_mark, put, copies, with_linear_loss, zoned}
use Rattle.stepping.specs.Runs.{unstarted, start, advance, ask}
use Rattle.stepping.specs.Cases.{Call, begins, unfinished, finished, not_started, refuses, Result, answer, of_u, must_run, dear, twice, room, held_u, padded, run, midway, further, ended, none, unfinished_at, finished_at, midway_shown, further_shown, ended_shown, on, holds, kept}

-- ---- the longest file

-- 32 units of four zones in edition 2, d 5, by the last of its 1,608 bytes: the head, the places and lengths of the bodies, 31 bodies, and the last one
abbrev pub placed : ℕ → ℕ → List ℕ
placed zero at = []
placed (suc n) at = bytes 2 at ++ bytes 2 46 ++ placed n (at + 46)

abbrev pub four_zones : List ℕ
four_zones =
    0x00 ∷ 0x00 ∷ 0x00 ∷ 0x00 ∷ 0x00 ∷ 0x00 ∷ 0x27 ∷ 0x10 ∷ 0x03 ∷ 0xE8 ∷ 0x00 ∷ 0x00 ∷ 0x00 ∷ 0x02 ∷ 0x00 ∷ 0x0C ∷ 0x00 ∷ 0x00 ∷ 0x00 ∷ 0x00 ∷ 0x00 ∷ 0x00 ∷ 0x00 ∷ 0x00
    ∷ 0x00 ∷ 0x04 ∷ 0x00 ∷ 0x00 ∷ 0x00 ∷ 0x00 ∷ 0x00 ∷ 0x03 ∷ 0x00 ∷ 0x04 ∷ 0x00 ∷ 0x05 ∷ 0x00 ∷ 0x06 ∷ 0x00 ∷ 0x07 ∷ 0x00 ∷ 0x08 ∷ 0x00 ∷ 0x09 ∷ 0x00 ∷ 0x0A ∷ []

abbrev pub largest : ℕ → List ℕ
largest last = (0x00 ∷ 0x02 ∷ 0x00 ∷ 0x20 ∷ 0x00 ∷ 0x00 ∷ 0x00 ∷ 0x05 ∷ []) ++ placed 32 136 ++ copies 31 four_zones ++ put 45 (last ∷ []) four_zones

-- ---- rows

-- not started, for an ask and for an advance with what is held
abbrev pub unfit : List ℕ → Row Call Result
unfit numbers = kept numbers held_u (ask ∷ advance u5 ∷ []) (none ∷ not_started ∷ [])

-- refused, by a start and by an advance of a run that holds it
abbrev pub refused : List ℕ → ℕ → Row Call Result
refused file number = kept (put 8 (length file ∷ []) midway) (file ++ room 2) (start file ∷ advance file ∷ []) (refuses number ∷ refuses number ∷ [])

-- other bytes: refused with 24, and the run goes on with its own
abbrev pub changed : List ℕ → Row Call Result
changed file = holds midway held_u (advance file ∷ ask ∷ advance u5 ∷ ask ∷ []) (refuses 24 ∷ midway_shown ∷ unfinished ∷ further_shown ∷ []) further

unfoldable pub unfits : List (Row Call Result)
unfits =
    -- started: any number but 1 taken for it; its lower 32 bits alone
    unfit (put 0 (0 ∷ []) midway)
    ∷ unfit (put 0 (2 ∷ []) midway)
    ∷ unfit (put 0 (4294967297 ∷ []) midway)
    -- finished: 2 taken for 1, or for 0
    ∷ unfit (put 1 (2 ∷ []) ended)
    ∷ unfit (put 1 (2 ∷ []) midway)
    -- evaluations of a finished run: 19; the lower 16 bits alone
    ∷ unfit (put 2 (19 ∷ []) ended)
    ∷ unfit (put 2 (65554 ∷ []) ended)
    -- of an unfinished one: 18, after which nothing is left; the lower 16 bits alone
    ∷ unfit (put 1 (0 ∷ []) ended)
    ∷ unfit (put 1 (0 ∷ 65553 ∷ []) ended)
    -- low: the next multiplier 65,537
    ∷ unfit (put 2 (17 ∷ 65536 ∷ []) midway)
    -- the next multiplier 65,536, which is no middle
    ∷ unfit (put 2 (17 ∷ 65535 ∷ []) midway)
    -- the next multiplier 65,529, but the high end 65,537
    ∷ unfit (put 3 (65521 ∷ []) midway)
    -- the high end in 64 bits alone: 0
    ∷ unfit (put 3 (18446744073709551600 ∷ []) midway)
    -- low before the halving
    ∷ unfit (put 2 (0 ∷ 5 ∷ []) midway)
    ∷ unfit (put 2 (1 ∷ 5 ∷ []) midway)
    -- the first middle at 65,536, of a case that 65,536 does not cover
    ∷ kept (run 0 2 32768 200000 500000000 71000 1 76 (10 ∷ [])) (dear ++ room 2) (ask ∷ advance dear ∷ []) (none ∷ not_started ∷ [])
    -- the second middle above 49,152
    ∷ unfit (put 2 (3 ∷ 32769 ∷ []) midway)
    -- cost, surplus or floor above 35,200,000,000,000; a floor taken for a negative number
    ∷ unfit (put 4 (35200000000001 ∷ []) midway)
    ∷ unfit (put 5 (35200000000001 ∷ []) midway)
    ∷ unfit (put 6 (35200000000001 ∷ []) midway)
    ∷ unfit (put 6 (18446744073709551615 ∷ []) midway)
    -- amounts of a finished run not looked at
    ∷ unfit (put 4 (35200000000001 ∷ []) ended)
    -- count 0 or 33; its lower 16 bits alone
    ∷ unfit (put 7 (0 ∷ []) midway)
    ∷ unfit (put 7 (33 ∷ []) midway)
    ∷ unfit (put 7 (65537 ∷ []) midway)
    -- an output above 10,000; the last one, behind the count, not looked at; the lower 16 bits alone
    ∷ unfit (put 9 (10001 ∷ []) midway)
    ∷ unfit (put 40 (10001 ∷ []) midway)
    ∷ unfit (put 9 (65543 ∷ []) midway)
    -- length: 1,609; its lower 16 or 32 bits alone; taken for a negative number
    ∷ unfit (put 8 (1609 ∷ []) midway)
    ∷ unfit (put 8 (65578 ∷ []) midway)
    ∷ unfit (put 8 (4294967338 ∷ []) midway)
    ∷ unfit (put 8 (18446744073709551615 ∷ []) midway)
    -- length of a finished run not looked at
    ∷ unfit (put 8 (1609 ∷ []) ended)
    ∷ []

unfoldable pub fits : List (Row Call Result)
fits =
    -- a run refused that fits, though no start has made it; low moved on cover
    holds midway held_u (ask ∷ advance u5 ∷ ask ∷ []) (midway_shown ∷ unfinished ∷ further_shown ∷ []) further
    -- 18 evaluations of a finished run refused
    ∷ kept ended held_u (ask ∷ []) (ended_shown ∷ [])
    -- low of a finished run looked at; a finished run without evaluations refused
    ∷ kept (put 2 (0 ∷ 18446744073709551615 ∷ []) ended) held_u (ask ∷ advance u5 ∷ []) (finished_at 1 0 119000 42000 200000000 (7 ∷ []) ∷ finished ∷ [])
    -- 17 evaluations of an unfinished run refused, or not finished by one more
    ∷ holds (put 1 (0 ∷ 17 ∷ 20 ∷ []) ended) held_u (ask ∷ advance u5 ∷ ask ∷ [])
    (unfinished_at 1 17 119000 42000 200000000 (7 ∷ []) ∷ finished ∷ ended_shown ∷ []) ended
    -- the greatest low refused: of 17 evaluations, of 14, 3 and 2
    ∷ holds (put 2 (17 ∷ 65534 ∷ []) midway) held_u (ask ∷ advance u5 ∷ ask ∷ [])
    (unfinished_at 1 17 200000 129000 500000000 (10 ∷ []) ∷ finished ∷ finished_at 1 18 200000 129000 500000000 (10 ∷ []) ∷ []) (run 1 18 0 200000 500000000 71000 1 42 (10 ∷ []))
    ∷ kept (put 3 (65520 ∷ []) midway) held_u (ask ∷ []) (midway_shown ∷ [])
    ∷ holds (put 2 (3 ∷ 32768 ∷ []) midway) held_u (ask ∷ advance u5 ∷ advance dear ∷ [])
    (unfinished_at 1 3 200000 129000 500000000 (10 ∷ []) ∷ unfinished ∷ refuses 24 ∷ []) (run 0 4 32768 200000 500000000 71000 1 42 (10 ∷ []))
    ∷ holds (run 0 4 32768 200000 500000000 71000 1 76 (10 ∷ [])) (dear ++ room 2) (advance dear ∷ [])
    (unfinished ∷ []) (run 0 5 40960 200000 500000000 614400000 2 76 (10 ∷ []))
    ∷ holds (put 2 (2 ∷ 0 ∷ []) midway) held_u (ask ∷ advance u5 ∷ [])
    (unfinished_at 1 2 200000 129000 500000000 (10 ∷ []) ∷ unfinished ∷ []) (run 0 3 0 200000 500000000 71000 1 42 (10 ∷ []))
    -- an amount, the count, the length or an output refused at its limit
    ∷ kept (run 0 14 16 35200000000000 35200000000000 35200000000000 32 1608 (replicate 32 10000)) held_u (ask ∷ [])
    (unfinished_at 32 14 35200000000000 0 35200000000000 (replicate 32 10000) ∷ [])
    -- a gap below 0, or in 64 bits alone; a floor that falls
    ∷ holds (put 6 (200001 ∷ []) midway) held_u (ask ∷ advance u5 ∷ ask ∷ [])
    (unfinished_at 1 14 200000 0 500000000 (10 ∷ []) ∷ unfinished ∷ unfinished_at 1 15 119000 0 200000000 (7 ∷ []) ∷ []) (run 0 15 16 119000 200000000 200001 1 42 (7 ∷ []))
    -- outputs behind the count not told; kept where the best is replaced
    ∷ holds (put 40 (10000 ∷ []) midway) held_u (ask ∷ advance u5 ∷ ask ∷ [])
    (unfinished_at 1 14 200000 129000 500000000 (put 31 (10000 ∷ []) (padded (10 ∷ []))) ∷ unfinished ∷ further_shown ∷ []) further
    ∷ []

unfoldable pub refusals : List (Row Call Result)
refusals =
    -- each check of the case left out at a start or at an advance, or made with another number
    refused short_head 2
    ∷ refused other_edition 3
    ∷ refused no_unit 4
    ∷ refused demand_above 5
    ∷ refused byte_too_many 6
    ∷ refused no_zone 7
    ∷ refused linear_cost_above 8
    ∷ refused (with_linear_loss 0x00 0x98 0x96 0x81) 18
    ∷ refused edge_at_least 9
    ∷ refused other_mark 10
    -- step 1 left out
    ∷ refused (of_u 11) 11
    -- one of these checks ahead of 24, of a run that holds another file
    ∷ kept midway held_u (advance short_head ∷ advance other_edition ∷ advance no_unit ∷ advance demand_above ∷ advance byte_too_many ∷ advance no_zone ∷ advance linear_cost_above ∷ advance (with_linear_loss 0x00 0x98 0x96 0x81) ∷ advance edge_at_least ∷ advance other_mark ∷ advance (of_u 11) ∷ [])
    (refuses 24 ∷ refuses 24 ∷ refuses 24 ∷ refuses 24 ∷ refuses 24 ∷ refuses 24 ∷ refuses 24 ∷ refuses 24 ∷ refuses 24 ∷ refuses 24 ∷ refuses 24 ∷ [])
    ∷ []

unfoldable pub changes : List (Row Call Result)
changes =
    -- lengths alone compared; all but the head, where the units are the same and the demand is another
    changed (of_u 10)
    ∷ changed (of_u 4)
    -- the common front alone, of a file with a byte more; all that is lent, where the bytes more are those behind the held ones
    ∷ changed byte_too_many
    ∷ changed (u5 ++ (255 ∷ []))
    ∷ changed (u5 ++ room 2)
    -- of a file with a byte less, or of none; the common end
    ∷ changed (take 41 u5)
    ∷ changed []
    ∷ changed (drop 1 u5)
    -- the head alone; all but the last body; sums of bytes
    ∷ changed (file_of 5 (zoned 5 6 ∷ []))
    -- all but the last byte
    ∷ changed (put 41 (8 ∷ []) u5)
    -- all but the first byte, but the edition, or but the places of bodies
    ∷ changed (put 0 (1 ∷ []) u5)
    ∷ changed (put 1 (2 ∷ []) u5)
    ∷ changed (put 8 (1 ∷ []) u5)
    -- all but the middle of the last body: its b is 1
    ∷ holds (run 0 0 0 400000 1500000000 0 2 76 (10 ∷ 10 ∷ [])) (twice ++ room 2) (advance (put 57 (1 ∷ []) twice) ∷ advance twice ∷ ask ∷ [])
    (refuses 24 ∷ unfinished ∷ unfinished_at 2 1 400000 400000 1500000000 (10 ∷ 10 ∷ []) ∷ []) (run 0 1 0 400000 1500000000 0 2 76 (10 ∷ 10 ∷ []))
    -- as many bytes as the file has, of a longer one that is held
    ∷ kept (run 0 0 0 400000 1500000000 0 2 76 (10 ∷ 10 ∷ [])) (twice ++ room 2) (advance (take 42 twice) ∷ advance short_head ∷ ask ∷ [])
    (refuses 24 ∷ refuses 24 ∷ unfinished_at 2 0 400000 400000 1500000000 (10 ∷ 10 ∷ []) ∷ [])
    -- differing bytes counted in 8 bits alone: 256 of them
    ∷ kept (put 8 (256 ∷ []) midway) (replicate 256 0) (advance (replicate 256 1) ∷ ask ∷ []) (refuses 24 ∷ midway_shown ∷ [])
    -- a run that holds no byte: any file taken for its own; 24 for the same
    ∷ kept (put 8 (0 ∷ []) midway) held_u (advance u5 ∷ advance [] ∷ ask ∷ []) (refuses 24 ∷ refuses 2 ∷ midway_shown ∷ [])
    -- the bytes behind the held ones compared
    ∷ holds midway (u5 ++ drop 42 twice ++ room 4) (advance u5 ∷ advance twice ∷ []) (unfinished ∷ refuses 24 ∷ []) further
    -- 24 behind the file's checks: 2, or 11
    ∷ on unstarted (room 44) (start u5 ∷ advance short_head ∷ advance (of_u 11) ∷ advance u5 ∷ ask ∷ [])
    (begins ∷ refuses 24 ∷ refuses 24 ∷ unfinished ∷ unfinished_at 1 1 200000 200000 500000000 (10 ∷ []) ∷ []) (run 0 1 0 200000 500000000 0 1 42 (10 ∷ [])) held_u
    -- finished told ahead of 24; 24 that clears a finished run
    ∷ kept ended held_u (advance must_run ∷ advance (of_u 10) ∷ advance twice ∷ advance u5 ∷ ask ∷ [])
    (refuses 24 ∷ refuses 24 ∷ refuses 24 ∷ finished ∷ ended_shown ∷ [])
    -- 24 for a run that is not started: with zeros, with numbers that do not fit
    ∷ kept unstarted held_u (advance must_run ∷ advance twice ∷ advance [] ∷ advance short_head ∷ advance (u5 ++ room 2) ∷ ask ∷ [])
    (not_started ∷ not_started ∷ not_started ∷ not_started ∷ not_started ∷ none ∷ [])
    ∷ kept (put 4 (35200000000001 ∷ []) midway) held_u (advance must_run ∷ advance [] ∷ advance short_head ∷ advance (of_u 11) ∷ ask ∷ [])
    (not_started ∷ not_started ∷ not_started ∷ not_started ∷ none ∷ [])
    -- 24 that counts, finishes or clears; an advance that takes the bytes it is handed
    ∷ on unstarted (room 44) (start u5 ∷ advance must_run ∷ ask ∷ advance must_run ∷ advance u5 ∷ ask ∷ [])
    (begins ∷ refuses 24 ∷ unfinished_at 1 0 200000 200000 500000000 (10 ∷ []) ∷ refuses 24 ∷ unfinished ∷ unfinished_at 1 1 200000 200000 500000000 (10 ∷ []) ∷ []) (run 0 1 0 200000 500000000 0 1 42 (10 ∷ [])) held_u
    -- a refused start that takes the bytes: with 11, with 2
    ∷ holds midway held_u (start (of_u 11) ∷ advance (of_u 11) ∷ advance u5 ∷ ask ∷ []) (refuses 11 ∷ refuses 24 ∷ unfinished ∷ further_shown ∷ []) further
    ∷ holds midway held_u (start short_head ∷ advance short_head ∷ advance u5 ∷ ask ∷ []) (refuses 2 ∷ refuses 24 ∷ unfinished ∷ further_shown ∷ []) further
    -- of a finished run
    ∷ kept ended held_u (start (of_u 11) ∷ advance (of_u 11) ∷ start short_head ∷ advance short_head ∷ advance u5 ∷ ask ∷ [])
    (refuses 11 ∷ refuses 24 ∷ refuses 2 ∷ refuses 24 ∷ finished ∷ ended_shown ∷ [])
    -- an accepted start with the same file that does not begin anew
    ∷ holds midway held_u (start u5 ∷ advance u5 ∷ ask ∷ [])
    (begins ∷ unfinished ∷ unfinished_at 1 1 200000 200000 500000000 (10 ∷ []) ∷ []) (run 0 1 0 200000 500000000 0 1 42 (10 ∷ []))
    ∷ holds ended held_u (start u5 ∷ advance u5 ∷ ask ∷ [])
    (begins ∷ unfinished ∷ unfinished_at 1 1 200000 200000 500000000 (10 ∷ []) ∷ []) (run 0 1 0 200000 500000000 0 1 42 (10 ∷ []))
    -- an accepted start that keeps the old bytes; 24 at a start
    ∷ on midway held_u (start must_run ∷ advance u5 ∷ ask ∷ advance must_run ∷ ask ∷ [])
    (begins ∷ refuses 24 ∷ unfinished_at 1 0 200000 200000 1000000000 (10 ∷ []) ∷ finished ∷ finished_at 1 1 24000 0 200000000 (2 ∷ []) ∷ []) (run 1 1 0 24000 200000000 24000 1 42 (2 ∷ [])) (must_run ++ room 2)
    -- one that keeps the old length: with a shorter file, and with a longer one
    ∷ on unstarted (room 80) (start twice ∷ start u5 ∷ advance twice ∷ advance u5 ∷ ask ∷ [])
    (begins ∷ begins ∷ refuses 24 ∷ unfinished ∷ unfinished_at 1 1 200000 200000 500000000 (10 ∷ []) ∷ []) (run 0 1 0 200000 500000000 0 1 42 (10 ∷ [])) (u5 ++ drop 42 twice ++ room 4)
    ∷ on unstarted (room 80) (start u5 ∷ start twice ∷ advance u5 ∷ advance twice ∷ ask ∷ [])
    (begins ∷ begins ∷ refuses 24 ∷ unfinished ∷ unfinished_at 2 1 400000 400000 1500000000 (10 ∷ 10 ∷ []) ∷ []) (run 0 1 0 400000 1500000000 0 2 76 (10 ∷ 10 ∷ [])) (twice ++ room 4)
    -- a start with the first file again that goes on where that one stood, or keeps the second file
    ∷ holds midway held_u (start must_run ∷ start u5 ∷ advance must_run ∷ advance u5 ∷ ask ∷ [])
    (begins ∷ begins ∷ refuses 24 ∷ unfinished ∷ unfinished_at 1 1 200000 200000 500000000 (10 ∷ []) ∷ []) (run 0 1 0 200000 500000000 0 1 42 (10 ∷ []))
    ∷ []

unfoldable pub largests : List (Row Call Result)
largests =
    -- a file of 1,608 bytes not accepted or not held; its last byte not compared
    on unstarted (room 1608) (start (largest 10) ∷ advance (largest 11) ∷ ask ∷ [])
    (begins ∷ refuses 24 ∷ unfinished_at 32 0 8448000 8448000 37900000000 (replicate 32 12) ∷ []) (run 0 0 0 8448000 37900000000 0 32 1608 (replicate 32 12)) (largest 10)
    -- a run of length 1,608 not started; finished told ahead of 24
    ∷ kept (run 1 18 0 72000 100000000 60000 32 1608 (replicate 29 0 ++ (2 ∷ 2 ∷ 2 ∷ []))) (largest 10) (ask ∷ advance (largest 11) ∷ advance (largest 10) ∷ [])
    (finished_at 32 18 72000 12000 100000000 (replicate 29 0 ++ (2 ∷ 2 ∷ 2 ∷ [])) ∷ refuses 24 ∷ finished ∷ [])
    -- a length of 1,609 started
    ∷ kept (run 1 18 0 72000 100000000 60000 32 1609 (replicate 29 0 ++ (2 ∷ 2 ∷ 2 ∷ []))) (largest 10) (ask ∷ advance (largest 10) ∷ [])
    (none ∷ not_started ∷ [])
    ∷ []

pub unfits_hold : Holds answer unfits
unfolding answer unfits
unfits_hold = refl

pub fits_hold : Holds answer fits
unfolding answer fits
fits_hold = refl

pub refusals_hold : Holds answer refusals
unfolding answer refusals
refusals_hold = refl

pub changes_hold : Holds answer changes
unfolding answer changes
changes_hold = refl

pub largests_hold : Holds answer largests
unfolding answer largests
largests_hold = refl
