-- Rule 20.10 of docs/SPECIFICATION.md: floors for other demands, case by case. Above each row stands the wrong rule that it shows. A lent list has 9 in each place, so that an untouched one shows.
use Rattle.std.specs.Prelude.{ℕ, ◌+◌, ◌*◌, List, [], ◌∷◌, ◌++◌, map, refl, ℤ, pos, neg_ℤ, length, replicate, Ok, Err, Result}
use Rattle.rules.specs.Lists.{each}
use Rattle.rules.specs.Layout.{file_of}
use Rattle.rules.specs.Refusal.{number_of}
use Rattle.rules.specs.TableRows.{Row, Holds}
use Rattle.rules.specs.Cases as cases
use Rattle.rules.specs.CaseFiles.{u5, site, short_head, other_edition, no_unit, demand_above, byte_too_many, no_zone, linear_cost_above, edge_at_least, other_mark, put, with_linear_loss, U, lossy, marked, costing, priced-at, shared_edge_file}
use Rattle.rules.specs.declared.Refusal.{Refusal}
use Rattle.sensitivity.specs.Floors.{dual_for, floor_for, floors_verdict, floors_end, floored, panel_floored}

pub data Call : Type 0 where
  -- the file, the demands, and how many places are lent
  ask : List ℕ → List ℕ → ℕ → Call
  -- as C sees it: the lent list of answers comes last
  panel_ask : List ℕ → List ℕ → ℕ → List ℤ → Call

pub data Answer : Type 0 where
  -- how many floors are written, and the whole list
  writes : ℕ → List ℤ → Answer
  -- the refusal's number, and the whole list
  refuses : ℕ → List ℤ → Answer
  -- the number that C gets, the whole list, and the lent answers
  returns : ℕ → List ℤ → List ℤ → Answer

abbrev pub lent : ℕ → List ℤ
lent room = replicate room (pos 9)

abbrev pub of_floored : Result ℕ Refusal → List ℤ → Answer
of_floored (Ok n) floors = writes n floors
of_floored (Err r) floors = refuses (number_of r) floors

-- what the rules give
unfoldable pub answer : Call → Answer
unfolding cases.answer dual_for floor_for floors_verdict floors_end floored panel_floored
answer (ask file demands room) = let r = floored file demands (lent room) in of_floored r.answer r.floors
answer (panel_ask file demands room answers) = let r = panel_floored file demands (lent room) answers in returns r.number r.floors r.answers

-- as many places as demands, all written
abbrev pub floors : List ℕ → List ℤ
floors ns = map pos ns

-- refused, with the list as it was
abbrev pub refused : List ℕ → List ℕ → ℕ → ℕ → Row Call Answer
refused file demands room number = record { call = ask file demands room; result = refuses number (lent room) }

-- a floor for each demand, in as many places
abbrev pub written : List ℕ → List ℕ → List ℕ → Row Call Answer
written file demands ns = record { call = ask file demands (length demands); result = writes (length demands) (floors ns) }

unfoldable pub forecasts : List (Row Call Answer)
forecasts =
    -- the demands of the request; a refusal, or 0, where nothing covers
    written u5 (0 ∷ 5 ∷ 7 ∷ 10 ∷ 320000 ∷ []) (0 ∷ 77000 ∷ 119000 ∷ 200000 ∷ 20970864840000 ∷ [])
    -- the difference of the demands the wrong way round, or without its sign; a new search for each demand, which has 24,000 for 2
    ∷ written u5 (each 13 (λ k. k)) (0 ∷ 7000 ∷ 23000 ∷ 39000 ∷ 56000 ∷ 77000 ∷ 98000 ∷ 119000 ∷ 143000 ∷ 168000 ∷ 200000 ∷ 65736000 ∷ 131272000 ∷ [])
    -- an edge that two zones share left out of the floors
    ∷ written (shared_edge_file 7) (5 ∷ 7 ∷ 8 ∷ []) (71000 ∷ 119000 ∷ 143000 ∷ [])
    -- floors sorted, or repeated demands left out
    ∷ written u5 (10 ∷ 0 ∷ 7 ∷ 7 ∷ 5 ∷ 0 ∷ 10 ∷ []) (200000 ∷ 0 ∷ 119000 ∷ 119000 ∷ 77000 ∷ 0 ∷ 200000 ∷ [])
    -- places behind the floors touched
    ∷ record { call = ask u5 (5 ∷ []) 3; result = writes 1 (pos 77000 ∷ pos 9 ∷ pos 9 ∷ []) }
    -- an empty list refused
    ∷ written u5 [] []
    -- an empty list, and a place touched
    ∷ record { call = ask u5 [] 2; result = writes 0 (pos 9 ∷ pos 9 ∷ []) }
    -- 96 demands refused, or the last left out
    ∷ written u5 (each 96 (λ k. k)) ((0 ∷ 7000 ∷ 23000 ∷ 39000 ∷ 56000 ∷ 77000 ∷ 98000 ∷ 119000 ∷ 143000 ∷ 168000 ∷ []) ++ each 86 (λ k. 200000 + 65536000 * k))
    -- multipliers beside the one evaluated, where step 2 ends
    ∷ written (file_of 0 (U ∷ [])) (0 ∷ 5 ∷ 320000 ∷ []) (0 ∷ 0 ∷ 0 ∷ [])
    -- the same, at a cost
    ∷ written (file_of 0 (marked 1 0 0 0 ∷ [])) (0 ∷ 5 ∷ 10 ∷ 320000 ∷ []) (24000 ∷ 24000 ∷ 24000 ∷ 24000 ∷ [])
    -- every multiplier, where step 3 ends and two are evaluated
    ∷ written (file_of 10 (U ∷ [])) (0 ∷ 5 ∷ 9 ∷ 10 ∷ 11 ∷ 320000 ∷ []) (0 ∷ 0 ∷ 0 ∷ 200000 ∷ 65736000 ∷ 20970864840000 ∷ [])
    -- step 3 going on where its net is just the demand: 245,760,000 for 5
    ∷ written (file_of 10 (costing 500000000 10000 1000 0 ∷ [])) (0 ∷ 1 ∷ 5 ∷ 9 ∷ 10 ∷ 11 ∷ []) (0 ∷ 0 ∷ 172520000 ∷ 434664000 ∷ 500200000 ∷ 565736000 ∷ [])
    -- step 3 going on where 65,536 does not cover: 245,760,000 for 5
    ∷ written (file_of 15 (costing 500000000 10000 1000 0 ∷ costing 1000000000 10000 1000 0 ∷ [])) (0 ∷ 5 ∷ 10 ∷ 15 ∷ 20 ∷ []) (0 ∷ 172520000 ∷ 500200000 ∷ 827880000 ∷ 1155560000 ∷ [])
    -- the first middle left out
    ∷ written (file_of 5 (U ∷ costing 500000000 10000 1000 0 ∷ [])) (5 ∷ 12 ∷ 14 ∷ 15 ∷ 20 ∷ []) (77000 ∷ 65736000 ∷ 131272000 ∷ 172720000 ∷ 500400000 ∷ [])
    -- step 4 going on where the lowered net is just the demand, at 16: 12,000 for 1; the least output on a tie: 102,000 for 7
    ∷ written (file_of 5 (priced-at 11000 1000 ∷ priced-at 11000 1000 ∷ [])) (each 9 (λ k. k)) (0 ∷ 4000 ∷ 20000 ∷ 36000 ∷ 52000 ∷ 68000 ∷ 84000 ∷ 100000 ∷ 116000 ∷ [])
    -- the last multiplier alone, 11
    ∷ written (file_of 1 (U ∷ [])) (0 ∷ 1 ∷ 2 ∷ 3 ∷ 5 ∷ 10 ∷ []) (0 ∷ 12000 ∷ 24000 ∷ 39000 ∷ 71000 ∷ 200000 ∷ [])
    -- the multiplier alone that is best for the case's own demand
    ∷ written (file_of 2 (U ∷ [])) (0 ∷ 1 ∷ 2 ∷ 3 ∷ 4 ∷ 7 ∷ []) (0 ∷ 12000 ∷ 24000 ∷ 39000 ∷ 55000 ∷ 104000 ∷ [])
    -- rounded down
    ∷ written (file_of 5 (lossy ∷ [])) (0 ∷ 4 ∷ 5 ∷ 7 ∷ 9 ∷ 10 ∷ []) (0 ∷ 56001 ∷ 77001 ∷ 119001 ∷ 168001 ∷ 200066 ∷ [])
    -- rounded down, or to the nearest, below the case's own demand
    ∷ written (file_of 9 (lossy ∷ [])) (1 ∷ 8 ∷ 9 ∷ 10 ∷ []) (7001 ∷ 143001 ∷ 171001 ∷ 200066 ∷ [])
    -- one unit's part
    ∷ written (file_of 5 (U ∷ U ∷ [])) (0 ∷ 4 ∷ 5 ∷ 6 ∷ 14 ∷ 20 ∷ 21 ∷ []) (0 ∷ 48000 ∷ 63000 ∷ 78000 ∷ 208000 ∷ 400000 ∷ 65936000 ∷ [])
    -- the gap taken for 0: dispatch costs 353,000 here
    ∷ written (file_of 9 (costing 5000 10000 1000 0 ∷ costing 60000 10000 1000 0 ∷ [])) (7 ∷ 8 ∷ 9 ∷ 10 ∷ 11 ∷ 20 ∷ []) (124000 ∷ 149000 ∷ 174000 ∷ 199000 ∷ 224000 ∷ 465000 ∷ [])
    -- a constant cost left out, or the second unit's losses
    ∷ written (site 15) (0 ∷ 12 ∷ 15 ∷ 18 ∷ 27 ∷ 28 ∷ []) (169000 ∷ 251478 ∷ 324523 ∷ 405013 ∷ 703284 ∷ 66239284 ∷ [])
    -- the case's own demand written for every demand
    ∷ written (site 26) (12 ∷ 15 ∷ 26 ∷ 27 ∷ []) (205703 ∷ 301703 ∷ 663748 ∷ 703284 ∷ [])
    -- a negative b1 left out
    ∷ written (with_linear_loss 0xFF 0x67 0x69 0x80) (0 ∷ 4 ∷ 5 ∷ 6 ∷ 7 ∷ 11 ∷ 12 ∷ []) (0 ∷ 49600 ∷ 67400 ∷ 86400 ∷ 105400 ∷ 200000 ∷ 65736000 ∷ [])
    -- a positive b1 left out
    ∷ written (with_linear_loss 0x00 0x98 0x96 0x80) (0 ∷ 4 ∷ 5 ∷ 6 ∷ 7 ∷ 9 ∷ 10 ∷ []) (0 ∷ 65200 ∷ 88200 ∷ 111800 ∷ 135800 ∷ 200000 ∷ 65736000 ∷ [])
    ∷ []

unfoldable pub refusals : List (Row Call Answer)
refusals =
    -- 97 demands accepted
    refused u5 (each 97 (λ k. k)) 97 20
    -- 21 before 20, for their number
    ∷ refused u5 (each 97 (λ k. k)) 0 20
    -- 320,001 accepted
    ∷ refused u5 (320001 ∷ []) 1 20
    -- the last entry not looked at
    ∷ refused u5 (5 ∷ 7 ∷ 320001 ∷ []) 3 20
    -- the first entry not looked at
    ∷ refused u5 (320001 ∷ 5 ∷ 7 ∷ []) 3 20
    -- only the entries looked at for which there is a place; 21 before 20
    ∷ refused u5 (5 ∷ 320001 ∷ []) 1 20
    -- an entry cut to 16 bits, 5
    ∷ refused u5 (327685 ∷ []) 1 20
    -- an entry taken for a negative number
    ∷ refused u5 (4294967295 ∷ []) 1 20
    -- a place too few
    ∷ refused u5 (5 ∷ 7 ∷ []) 1 21
    -- no place
    ∷ refused u5 (5 ∷ []) 0 21
    -- 95 places for 96 demands
    ∷ refused u5 (each 96 (λ k. k)) 95 21
    -- 2 before 20
    ∷ refused short_head (320001 ∷ []) 0 20
    -- 2 before 21
    ∷ refused short_head (5 ∷ []) 0 21
    -- 11 before 20
    ∷ refused (put 7 (0x0B ∷ []) u5) (320001 ∷ []) 1 20
    -- 11 before 21
    ∷ refused (put 7 (0x0B ∷ []) u5) (5 ∷ 7 ∷ []) 1 21
    -- the case not checked where there is no demand
    ∷ refused short_head [] 0 2
    -- nor its edition
    ∷ refused other_edition [] 1 3
    -- nor its bodies
    ∷ refused edge_at_least [] 1 9
    -- step 1 not made where there is no demand
    ∷ refused (put 7 (0x0B ∷ []) u5) [] 1 11
    -- each check of the case left out
    ∷ refused short_head (5 ∷ []) 1 2
    ∷ refused other_edition (5 ∷ []) 1 3
    ∷ refused no_unit (5 ∷ []) 1 4
    -- the case's own demand not checked
    ∷ refused demand_above (5 ∷ []) 1 5
    ∷ refused byte_too_many (5 ∷ []) 1 6
    ∷ refused no_zone (5 ∷ []) 1 7
    ∷ refused linear_cost_above (5 ∷ []) 1 8
    ∷ refused (with_linear_loss 0x00 0x98 0x96 0x81) (5 ∷ []) 1 18
    ∷ refused edge_at_least (5 ∷ []) 1 9
    ∷ refused other_mark (5 ∷ []) 1 10
    -- step 1 made with the demand that is asked for
    ∷ refused (put 7 (0x0B ∷ []) u5) (5 ∷ []) 1 11
    ∷ []

pub forecasts_hold : Holds answer forecasts
unfolding answer forecasts
forecasts_hold = refl

pub refusals_hold : Holds answer refusals
unfolding answer refusals
refusals_hold = refl

-- ---- as C sees it

unfoldable pub panel_forms : List (Row Call Answer)
panel_forms =
    -- the number of floors returned, or not told; a second answer written
    record { call = panel_ask u5 (5 ∷ 7 ∷ []) 3 (pos 8 ∷ pos 8 ∷ []); result = returns 0 (pos 77000 ∷ pos 119000 ∷ pos 9 ∷ []) (pos 2 ∷ pos 8 ∷ []) }
    -- one place taken for none
    ∷ record { call = panel_ask u5 [] 0 (neg_ℤ (pos 8) ∷ []); result = returns 0 [] (pos 0 ∷ []) }
    -- floors written before 1
    ∷ record { call = panel_ask u5 (5 ∷ []) 1 []; result = returns 1 (pos 9 ∷ []) [] }
    -- 20 before 1
    ∷ record { call = panel_ask u5 (320001 ∷ []) 1 []; result = returns 1 (pos 9 ∷ []) [] }
    -- 21 before 1
    ∷ record { call = panel_ask u5 (5 ∷ []) 0 []; result = returns 1 [] [] }
    -- 2 before 1
    ∷ record { call = panel_ask short_head [] 0 []; result = returns 1 [] [] }
    -- answers written at a refusal, 20
    ∷ record { call = panel_ask u5 (320001 ∷ []) 1 (pos 8 ∷ []); result = returns 20 (pos 9 ∷ []) (pos 8 ∷ []) }
    -- 21
    ∷ record { call = panel_ask u5 (5 ∷ []) 0 (pos 8 ∷ []); result = returns 21 [] (pos 8 ∷ []) }
    -- 11
    ∷ record { call = panel_ask (put 7 (0x0B ∷ []) u5) (5 ∷ []) 1 (pos 8 ∷ []); result = returns 11 (pos 9 ∷ []) (pos 8 ∷ []) }
    ∷ []

pub panel_forms_hold : Holds answer panel_forms
unfolding answer panel_forms
panel_forms_hold = refl
