-- Rule 17.5 of docs/SPECIFICATION.md: tied outputs and lowering (since S-6), case by case. Above each row stands the wrong rule that it shows.
use Rattle.std.specs.Prelude.{ℕ, true, false, List, [], ◌∷◌, ◌++◌, refl, pos, replicate, drop}
use Rattle.rules.specs.Unit.{Unit}
use Rattle.rules.specs.Layout.{file_of, unit_of_row}
use Rattle.rules.specs.Problem.{offer}
use Rattle.rules.specs.TableRows.{Row, Holds}
use Rattle.rules.specs.Cases.{Call, Answer, answer, reply, dispatch, price, solve_offers, values, solves}
use Rattle.rules.specs.CaseFiles.{put, with_linear_loss, unit, U, priced-at, marked, zoned, costing, largest_losses}

-- U without its zone, with other costs and another mark
abbrev pub zoneless : ℕ → ℕ → ℕ → Unit
zoneless c1 c2 mark = unit_of_row (0 ∷ c1 ∷ c2 ∷ 0 ∷ 2 ∷ 10 ∷ 0 ∷ 0 ∷ 0 ∷ mark ∷ 0 ∷ replicate 8 0)

-- U that costs the same at every running output, so much that standing ties with 10 at 65,536
abbrev pub constant : Unit
constant = costing 655360000 0 0 0

-- a unit with one permitted output, 1, and losses
abbrev pub fixed : Unit
fixed = unit_of_row (0 ∷ 10000 ∷ 1000 ∷ 1 ∷ 1 ∷ 10 ∷ 1 ∷ 0 ∷ 0 ∷ 1 ∷ 0 ∷ replicate 8 0)

-- two files of edition 2 with one unit each (`CaseFiles.with_linear_loss`) as one, with demand d
abbrev pub pair2 : ℕ → List ℕ → List ℕ → List ℕ
pair2 d first second =
    (0x00 ∷ 0x02 ∷ 0x00 ∷ 0x02 ∷ 0x00 ∷ 0x00 ∷ 0x00 ∷ d ∷ 0x00 ∷ 0x10 ∷ 0x00 ∷ 0x22 ∷ 0x00 ∷ 0x32 ∷ 0x00 ∷ 0x22 ∷ []) ++ drop 12 first ++ drop 12 second

unfoldable pub lowerings : List (Row Call Answer)
lowerings =
    -- all lowered, or none: of 2 and 3, which tie at 15, one unit takes 2
    record { call = dispatch (file_of 8 (U ∷ U ∷ U ∷ [])); result = reply (2 ∷ 3 ∷ 3 ∷ []) 102000 0 18 0 }
    -- only the first lowered, or the last units first
    ∷ record { call = dispatch (file_of 7 (U ∷ U ∷ U ∷ [])); result = reply (2 ∷ 2 ∷ 3 ∷ []) 87000 0 18 0 }
    -- no tie across a zone: 4 and 7 at 21
    ∷ record { call = dispatch (file_of 11 (U ∷ U ∷ [])); result = reply (4 ∷ 7 ∷ []) 175000 0 18 0 }
    -- no tie across a zone with nothing inside: 4 and 5 at 19
    ∷ record { call = dispatch (file_of 9 (zoned 4 5 ∷ zoned 4 5 ∷ [])); result = reply (4 ∷ 5 ∷ []) 131000 0 18 0 }
    -- lowering ended by the first unit that stays: 7 stays, since 4 and 6 do not cover, and then 6 goes to 5
    ∷ record { call = dispatch (file_of 12 (U ∷ zoneless 10000 1000 0 ∷ [])); result = reply (7 ∷ 5 ∷ []) 194000 0 18 0 }
    -- cover asked without earlier lowerings: 7 goes to 4, and then 6 stays
    ∷ record { call = dispatch (file_of 10 (U ∷ zoneless 10000 1000 0 ∷ [])); result = reply (4 ∷ 6 ∷ []) 152000 0 18 0 }
    -- the greatest saving first: in this order 6 goes to 5, and then 7 stays
    ∷ record { call = dispatch (file_of 10 (zoneless 10000 1000 0 ∷ U ∷ [])); result = reply (5 ∷ 7 ∷ []) 194000 42000 18 200000000 }
    -- not lowered at 0: a costless unit stands
    ∷ record { call = dispatch (file_of 0 (priced-at 0 0 ∷ [])); result = reply (0 ∷ []) 0 0 1 0 }
    -- a flat cost lowered by a step, or below the least running output
    ∷ record { call = dispatch (file_of 0 (zoneless 0 0 1 ∷ [])); result = reply (2 ∷ []) 0 0 1 200000000 }
    -- not lowered at 0 where two units could be: the first alone
    ∷ record { call = dispatch (file_of 10 (priced-at 0 0 ∷ priced-at 0 0 ∷ [])); result = reply (0 ∷ 10 ∷ []) 0 0 1 0 }
    -- a tied output between: 7 and 8 would cover
    ∷ record { call = dispatch (file_of 15 (priced-at 0 0 ∷ priced-at 0 0 ∷ [])); result = reply (10 ∷ 10 ∷ []) 0 0 1 500000000 }
    -- not lowered at 65,536, or its equal net not seen there
    ∷ record { call = dispatch (file_of 10 (constant ∷ constant ∷ [])); result = reply (0 ∷ 10 ∷ []) 655360000 0 2 0 }
    -- lowered at 65,536, more than enough: the search goes on
    ∷ record { call = dispatch (file_of 9 (constant ∷ constant ∷ [])); result = reply (0 ∷ 10 ∷ []) 655360000 65536000 18 100000000 }
    -- lowered short of cover at 65,536, and taken
    ∷ record { call = dispatch (file_of 11 (constant ∷ constant ∷ [])); result = reply (10 ∷ 10 ∷ []) 1310720000 589824000 18 900000000 }
    -- equal net asked of the choices as they are: 3 and 3 at 16 become 2 and 3, and the search ends
    ∷ record { call = dispatch (file_of 5 (priced-at 11000 1000 ∷ priced-at 11000 1000 ∷ [])); result = reply (2 ∷ 3 ∷ []) 68000 0 14 0 }
    -- standing no tied output: 0 and 2 at 12
    ∷ record { call = dispatch (file_of 2 (U ∷ U ∷ [])); result = reply (0 ∷ 2 ∷ []) 24000 0 16 0 }
    -- both lowered to 0
    ∷ record { call = dispatch (file_of 1 (U ∷ U ∷ [])); result = reply (0 ∷ 2 ∷ []) 24000 12000 18 100000000 }
    -- the first lowered to 0 short of cover, and taken
    ∷ record { call = dispatch (file_of 3 (U ∷ U ∷ [])); result = reply (2 ∷ 2 ∷ []) 48000 12000 18 100000000 }
    -- a flat cost: an output between 2 and 10 taken
    ∷ record { call = dispatch (file_of 15 (zoneless 10000 0 1 ∷ zoneless 10000 0 1 ∷ [])); result = reply (10 ∷ 10 ∷ []) 200000 50000 18 500000000 }
    -- a flat cost: lowered by one step only
    ∷ record { call = dispatch (file_of 12 (zoneless 10000 0 1 ∷ zoneless 10000 0 1 ∷ [])); result = reply (2 ∷ 10 ∷ []) 120000 0 17 0 }
    -- the least output that covers: 0 and every running output tie at 10
    ∷ record { call = dispatch (file_of 5 (priced-at 10000 0 ∷ [])); result = reply (10 ∷ []) 100000 50000 18 500000000 }
    -- 2 taken, which ties at 15 with 0 and 3
    ∷ record { call = dispatch (file_of 5 (costing 6000 10000 1000 0 ∷ costing 6000 10000 1000 0 ∷ [])); result = reply (3 ∷ 3 ∷ []) 90000 15000 18 100000000 }
    -- the first lowered to 2, which ties at 15 with 0 and 3
    ∷ record { call = dispatch (file_of 5 (costing 6000 10000 1000 0 ∷ costing 6000 10000 1000 0 ∷ costing 6000 10000 1000 0 ∷ [])); result = reply (0 ∷ 3 ∷ 3 ∷ []) 90000 15000 18 100000000 }
    -- units that must run, or ran before, not lowered
    ∷ record { call = dispatch (file_of 5 (marked 1 3 1 1 ∷ marked 1 3 1 1 ∷ [])); result = reply (2 ∷ 3 ∷ []) 63000 0 18 0 }
    -- the least priced cost sought outside the ramp window: 2 would be chosen at 0
    ∷ record { call = dispatch (file_of 5 (marked 1 3 1 0 ∷ marked 1 3 1 0 ∷ [])); result = reply (3 ∷ 3 ∷ []) 78000 0 1 100000000 }
    -- lowered short of cover, and taken: 2 and 3 net 260 less than 5 steps
    ∷ record { call = dispatch (file_of 5 (unit 994999 1000 20 0 0 0 0 4 7 ∷ unit 994999 1000 20 0 0 0 0 4 7 ∷ [])); result = reply (3 ∷ 3 ∷ []) 5987994 999996 18 99999640 }
    -- the tie found, or cover asked, without losses
    ∷ record { call = dispatch (file_of 4 (unit 994999 1000 20 0 0 0 0 4 7 ∷ unit 994999 1000 20 0 0 0 0 4 7 ∷ [])); result = reply (2 ∷ 3 ∷ []) 4987995 999997 18 99999740 }
    -- the first best lowered: step 3 does not cover, and the second unit stays at 10, although 0 would cover too
    ∷ record { call = solve_offers 5000 (record { unit = largest_losses.unit; outputs = 9000 ∷ 10000 ∷ [] } ∷ offer constant ∷ []); result = solves (10000 ∷ 10 ∷ []) 200655360000 26378560000 2 1000000000 }
    -- pricing: cover asked of the least tied outputs, 4 and 4
    ∷ record { call = price (file_of 10 (U ∷ U ∷ [])) 21; result = values (pos 15400000000) true }
    -- pricing: covered where 7 and 7 do not cover
    ∷ record { call = price (file_of 15 (U ∷ U ∷ [])) 21; result = values (pos 25900000000) false }
    -- ended by a unit without a tied output; lowered only if all units have one; a net of one less taken for cover
    ∷ record { call = dispatch (file_of 5 (fixed ∷ U ∷ U ∷ [])); result = reply (1 ∷ 2 ∷ 3 ∷ []) 74000 14999 18 99999999 }
    -- only the first two or three units looked at, or at most that many lowered
    ∷ record { call = dispatch (file_of 11 (U ∷ U ∷ U ∷ U ∷ U ∷ [])); result = reply (2 ∷ 2 ∷ 2 ∷ 2 ∷ 3 ∷ []) 135000 0 18 0 }
    -- as many units as possible lowered: 7, 5 and 5 would cover
    ∷ record { call = dispatch (file_of 16 (U ∷ zoneless 10000 1000 0 ∷ zoneless 10000 1000 0 ∷ [])); result = reply (4 ∷ 6 ∷ 6 ∷ []) 248000 0 18 0 }
    -- one tied unit among several not lowered
    ∷ record { call = dispatch (file_of 4 (marked 1 1 1 0 ∷ priced-at 11000 1000 ∷ [])); result = reply (2 ∷ 2 ∷ []) 50000 0 14 0 }
    -- the ramp window asked of a tied 0
    ∷ record { call = dispatch (file_of 2 (marked 0 3 1 1 ∷ marked 0 3 1 1 ∷ [])); result = reply (0 ∷ 2 ∷ []) 24000 0 16 0 }
    -- lowered to a tied output outside the ramp window
    ∷ record { call = dispatch (file_of 8 (marked 1 3 1 0 ∷ U ∷ U ∷ [])); result = reply (3 ∷ 2 ∷ 3 ∷ []) 102000 0 18 0 }
    -- lowered in the order of c1 or of b, or with another unit's net
    ∷ record { call = dispatch (file_of 4 (priced-at 995000 1000 ∷ unit 994999 1000 20 0 0 0 0 4 7 ∷ [])); result = reply (2 ∷ 3 ∷ []) 4987997 999998 18 99999820 }
    -- the same
    ∷ record { call = dispatch (file_of 4 (unit 994999 1000 20 0 0 0 0 4 7 ∷ priced-at 995000 1000 ∷ [])); result = reply (2 ∷ 3 ∷ []) 4987998 999999 18 99999920 }
    -- lowered in the order of c0, or those first that can stand
    ∷ record { call = dispatch (file_of 3 (U ∷ costing 6000 10000 1000 0 ∷ [])); result = reply (2 ∷ 3 ∷ []) 69000 30000 18 200000000 }
    -- the same the other way round
    ∷ record { call = dispatch (file_of 3 (costing 6000 10000 1000 0 ∷ U ∷ [])); result = reply (0 ∷ 3 ∷ []) 39000 0 18 0 }
    -- units that must run lowered last
    ∷ record { call = dispatch (file_of 5 (marked 1 0 0 0 ∷ U ∷ [])); result = reply (2 ∷ 3 ∷ []) 63000 0 18 0 }
    -- units that must run lowered first
    ∷ record { call = dispatch (file_of 5 (U ∷ marked 1 0 0 0 ∷ [])); result = reply (2 ∷ 3 ∷ []) 63000 0 18 0 }
    -- not lowered at the first middle
    ∷ record { call = dispatch (file_of 10 (costing 327680000 0 0 0 ∷ costing 327680000 0 0 0 ∷ [])); result = reply (0 ∷ 10 ∷ []) 327680000 0 3 0 }
    -- what nearly ties taken for tied: at 17 the priced cost of 3 is 1 above that of 4
    ∷ record { call = dispatch (file_of 6 (unit 9997 1000 2521 0 0 0 0 4 7 ∷ unit 9997 1000 2521 0 0 0 0 4 7 ∷ [])); result = reply (4 ∷ 4 ∷ []) 111976 33986 18 199919328 }
    -- the net of the whole carried on without b
    ∷ record { call = dispatch (file_of 2 (unit_of_row (1 ∷ 7999 ∷ 1000 ∷ 2500 ∷ 2 ∷ 10 ∷ 0 ∷ 0 ∷ 0 ∷ 0 ∷ 1 ∷ 4 ∷ 7 ∷ replicate 6 0) ∷ priced-at 8000 1000 ∷ [])); result = reply (0 ∷ 2 ∷ []) 20000 0 17 0 }
    -- the net of the whole carried on without b1: b1 6,250,000 and c0 6,000; b1 0 and c0 9,000
    ∷ record { call = dispatch (pair2 0x03 (put 12 (0x00 ∷ 0x00 ∷ 0x17 ∷ 0x70 ∷ []) (with_linear_loss 0x00 0x5F 0x5E 0x10)) (put 12 (0x00 ∷ 0x00 ∷ 0x23 ∷ 0x28 ∷ []) (with_linear_loss 0x00 0x00 0x00 0x00))); result = reply (0 ∷ 3 ∷ []) 48000 0 14 0 }
    -- the tie found without b1: −6,250,000 and 6,250,000
    ∷ record { call = dispatch (pair2 0x06 (with_linear_loss 0xFF 0xA0 0xA1 0xF0) (with_linear_loss 0x00 0x5F 0x5E 0x10)); result = reply (3 ∷ 3 ∷ []) 78000 0 14 0 }
    -- the same in the other order
    ∷ record { call = dispatch (pair2 0x06 (with_linear_loss 0x00 0x5F 0x5E 0x10) (with_linear_loss 0xFF 0xA0 0xA1 0xF0)); result = reply (2 ∷ 4 ∷ []) 80000 2000 18 12500000 }
    -- units of the first best sent to their choice of 65,536 where the whole then covers
    ∷ record { call = solve_offers 9999 (record { unit = largest_losses.unit; outputs = 9000 ∷ 10000 ∷ [] } ∷ largest_losses ∷ []); result = solves (10000 ∷ 10000 ∷ []) 400000000000 25848718892 2 100000000 }
    ∷ []

pub lowerings_hold : Holds answer lowerings
unfolding answer lowerings
lowerings_hold = refl
