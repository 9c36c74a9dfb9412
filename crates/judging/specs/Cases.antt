-- Rule 19.8 of docs/SPECIFICATION.md: judgements, case by case. Above each row stands the wrong rule that it shows. (They are proved in proofs/Cases: the floors of all 65,537 multipliers are not computed, but known by a law.)
use Rattle.std.specs.Prelude.{ℕ, List, [], ◌∷◌, ℤ, pos, neg_ℤ, Ok, Err, Some, None, Result, Option}
use Rattle.rules.specs.Unit.{Unit}
use Rattle.rules.specs.Layout.{file_of}
use Rattle.rules.specs.TableRows.{Row}
use Rattle.rules.specs.CaseFiles.{u5, site, site2, put, short_head, other_edition, no_unit, demand_above, byte_too_many, no_zone, linear_cost_above, edge_at_least, other_mark, with_linear_loss, U, lossy, marked, costing, shared_edge_file}
use Rattle.rules.specs.declared.Refusal.{Refusal}
use Rattle.rules.specs.declared.Refusal.TheVariants.{
  FileTooShort,
  EditionUnknown,
  CountOutOfRange,
  DemandOutOfRange,
  ContentsInvalid,
  ZoneCountInvalid,
  CoefficientOutOfRange,
  LimitsInvalid,
  RampOrMarkOutOfRange,
  NoAllocation,
  LossesOutOfRange,
  OutputCountInvalid,
}
use Rattle.judging.specs.declared.Judgement.{Judgement}
use Rattle.judging.specs.Judging.{judged, panel_judged}

pub data Call : Type 0 where
  -- the file and the outputs
  judge : List ℕ → List ℕ → Call
  -- as C sees it: the lent list comes last
  panel_judge : List ℕ → List ℕ → List ℤ → Call

pub data Answer : Type 0 where
  tells : Result (Option Judgement) Refusal → Answer
  -- the number that C gets, and the lent list
  returns : ℕ → List ℤ → Answer

abbrev pub accepted : ℕ → ℕ → ℕ → Answer
accepted cost surplus distance = tells (Ok (Some (record { cost = cost; surplus = surplus; distance = distance })))

abbrev pub not_accepted : Answer
not_accepted = tells (Ok None)

abbrev pub refused : Refusal → Answer
refused r = tells (Err r)

-- what the rules give
unfoldable pub answer : Call → Answer
answer (judge file outputs) = tells (judged file outputs)
answer (panel_judge file outputs answers) = let r = panel_judged file outputs answers in returns r.number r.answers

abbrev pub four_zones : Unit
four_zones = record { c0 = 0; c1 = 10000; c2 = 1000; b = 0; b1 = pos 0; least = 2; greatest = 20; previous = 0; up = 0; down = 0; mark = 0; zone_count = 4; edges = 4 ∷ 6 ∷ 8 ∷ 10 ∷ 12 ∷ 14 ∷ 16 ∷ 18 ∷ [] }

unfoldable pub judgements : List (Row Call Answer)
judgements =
    -- dispatch's own outputs at another cost, surplus or distance
    record { call = judge u5 (7 ∷ []); result = accepted 119000 200000000 42000 }
    -- the distance of the reply told of every list
    ∷ record { call = judge u5 (8 ∷ []); result = accepted 144000 300000000 67000 }
    -- cover not asked
    ∷ record { call = judge u5 (4 ∷ []); result = not_accepted }
    -- zones not asked
    ∷ record { call = judge (file_of 5 (U ∷ [])) (5 ∷ []); result = not_accepted }
    -- a lower edge taken as prohibited; cover asked of a larger net
    ∷ record { call = judge (file_of 4 (U ∷ [])) (4 ∷ []); result = accepted 56000 0 0 }
    -- an upper edge taken as prohibited
    ∷ record { call = judge (file_of 7 (U ∷ [])) (7 ∷ []); result = accepted 119000 0 0 }
    -- an edge that two zones share taken as prohibited
    ∷ record { call = judge (shared_edge_file 7) (7 ∷ []); result = accepted 119000 0 0 }
    -- its neighbours taken as permitted
    ∷ record { call = judge (shared_edge_file 5) (6 ∷ []); result = not_accepted }
    ∷ record { call = judge (shared_edge_file 5) (8 ∷ []); result = not_accepted }
    -- the last step before cover taken for it
    ∷ record { call = judge (file_of 10 (U ∷ [])) (9 ∷ []); result = not_accepted }
    -- the greatest output prohibited
    ∷ record { call = judge (file_of 10 (U ∷ [])) (10 ∷ []); result = accepted 200000 0 0 }
    -- an output above the greatest
    ∷ record { call = judge (file_of 10 (U ∷ [])) (11 ∷ []); result = not_accepted }
    -- an output below the least
    ∷ record { call = judge (file_of 1 (U ∷ [])) (1 ∷ []); result = not_accepted }
    -- the distance to the last floor only
    ∷ record { call = judge (file_of 1 (U ∷ [])) (2 ∷ []); result = accepted 24000 100000000 12000 }
    -- the same, of outputs that are not dispatch's
    ∷ record { call = judge (file_of 1 (U ∷ [])) (3 ∷ []); result = accepted 39000 200000000 27000 }
    -- an output taken modulo 65,536
    ∷ record { call = judge u5 (65543 ∷ []); result = not_accepted }
    -- a large output cut to the greatest; modulo 65,536 below 2 ^ 31 alone
    ∷ record { call = judge u5 (2147483655 ∷ []); result = not_accepted }
    ∷ record { call = judge u5 (4294967295 ∷ []); result = not_accepted }
    -- standing accepted of a unit that must run
    ∷ record { call = judge (file_of 0 (marked 1 0 0 0 ∷ [])) (0 ∷ []); result = not_accepted }
    -- the least output refused
    ∷ record { call = judge (file_of 0 (marked 1 0 0 0 ∷ [])) (2 ∷ []); result = accepted 24000 200000000 0 }
    -- standing refused of a unit that may stand
    ∷ record { call = judge (file_of 0 (U ∷ [])) (0 ∷ []); result = accepted 0 0 0 }
    -- an empty list accepted
    ∷ record { call = judge u5 []; result = refused OutputCountInvalid }
    -- a list that is too long cut
    ∷ record { call = judge u5 (7 ∷ 7 ∷ []); result = refused OutputCountInvalid }
    -- a missing output read as 0
    ∷ record { call = judge (file_of 5 (U ∷ U ∷ [])) (7 ∷ []); result = refused OutputCountInvalid }
    -- 19 before 11
    ∷ record { call = judge (file_of 11 (U ∷ [])) []; result = refused NoAllocation }
    -- no step 1
    ∷ record { call = judge (file_of 11 (U ∷ [])) (10 ∷ []); result = refused NoAllocation }
    -- 19 before 2
    ∷ record { call = judge short_head []; result = refused FileTooShort }
    -- 19 before 3
    ∷ record { call = judge other_edition []; result = refused EditionUnknown }
    -- 19 before 4
    ∷ record { call = judge no_unit (7 ∷ []); result = refused CountOutOfRange }
    -- 19 before 5
    ∷ record { call = judge demand_above []; result = refused DemandOutOfRange }
    -- 19 before 6
    ∷ record { call = judge byte_too_many []; result = refused ContentsInvalid }
    -- 19 before 7
    ∷ record { call = judge no_zone []; result = refused ZoneCountInvalid }
    -- 19 before 8
    ∷ record { call = judge linear_cost_above []; result = refused CoefficientOutOfRange }
    -- 19 before 9
    ∷ record { call = judge edge_at_least []; result = refused LimitsInvalid }
    -- 19 before 10
    ∷ record { call = judge other_mark []; result = refused RampOrMarkOutOfRange }
    -- 19 before 18
    ∷ record { call = judge (with_linear_loss 0x00 0x98 0x96 0x81) []; result = refused LossesOutOfRange }
    -- dispatch's own outputs of two units at another cost, surplus or distance
    ∷ record { call = judge (file_of 5 (U ∷ U ∷ [])) (2 ∷ 3 ∷ []); result = accepted 63000 0 0 }
    -- outputs dearer than dispatch's told at dispatch's cost or distance
    ∷ record { call = judge (file_of 5 (U ∷ U ∷ [])) (3 ∷ 3 ∷ []); result = accepted 78000 100000000 15000 }
    -- cover asked of each output
    ∷ record { call = judge (file_of 5 (U ∷ U ∷ [])) (7 ∷ 0 ∷ []); result = accepted 119000 200000000 56000 }
    -- cover not asked of the sum
    ∷ record { call = judge (file_of 5 (U ∷ U ∷ [])) (2 ∷ 2 ∷ []); result = not_accepted }
    -- losses left out of the surplus; a floor rounded down
    ∷ record { call = judge (file_of 5 (lossy ∷ [])) (8 ∷ []); result = accepted 144000 299999936 66999 }
    -- losses left out of the cover
    ∷ record { call = judge (file_of 7 (lossy ∷ [])) (7 ∷ []); result = not_accepted }
    -- the ramp window's lower end prohibited
    ∷ record { call = judge (file_of 0 (marked 1 5 1 1 ∷ [])) (4 ∷ []); result = accepted 56000 400000000 0 }
    -- the ramp window not asked of the greatest output
    ∷ record { call = judge (file_of 0 (marked 1 5 1 1 ∷ [])) (10 ∷ []); result = not_accepted }
    -- the ramp window not asked
    ∷ record { call = judge (file_of 0 (marked 1 5 1 1 ∷ [])) (7 ∷ []); result = not_accepted }
    -- the ramp window asked of output 0
    ∷ record { call = judge (file_of 0 (marked 0 5 3 0 ∷ [])) (0 ∷ []); result = accepted 0 0 0 }
    -- c0 charged to a unit that stands
    ∷ record { call = judge (file_of 9 (costing 5000 10000 1000 0 ∷ costing 60000 10000 1000 0 ∷ [])) (9 ∷ 0 ∷ []); result = accepted 176000 0 2000 }
    -- one unit's regions or coefficients for all
    ∷ record { call = judge (site 26) (15 ∷ 12 ∷ []); result = accepted 702747 99999181 38999 }
    -- the outputs in another order
    ∷ record { call = judge (site 26) (12 ∷ 15 ∷ []); result = not_accepted }
    -- an edge that the ramp window reaches prohibited
    ∷ record { call = judge (site 15) (7 ∷ 9 ∷ []); result = accepted 353012 99999772 28489 }
    -- the second zone's lower edge prohibited
    ∷ record { call = judge (site 15) (11 ∷ 5 ∷ []); result = accepted 365232 99999612 40709 }
    -- the second zone left out
    ∷ record { call = judge (site 15) (12 ∷ 4 ∷ []); result = not_accepted }
    -- b1 left out of the surplus; only the last floor
    ∷ record { call = judge (site2 15) (7 ∷ 9 ∷ []); result = accepted 353012 91999772 24784 }
    -- b1 left out of the cover: 10 steps net 11
    ∷ record { call = judge (put 7 (0x0B ∷ []) (with_linear_loss 0xFF 0x67 0x69 0x80)) (10 ∷ []); result = accepted 200000 0 0 }
    -- losses counted twice in the cover
    ∷ record { call = judge (put 7 (0x09 ∷ []) (with_linear_loss 0x00 0x98 0x96 0x80)) (10 ∷ []); result = accepted 200000 0 0 }
    -- b1 left out of the cover: 2 steps net 1.8
    ∷ record { call = judge (put 7 (0x02 ∷ []) (with_linear_loss 0x00 0x98 0x96 0x80)) (2 ∷ []); result = not_accepted }
    -- only the first output's permission asked
    ∷ record { call = judge (file_of 5 (U ∷ U ∷ [])) (3 ∷ 5 ∷ []); result = not_accepted }
    -- below the ramp window
    ∷ record { call = judge (file_of 0 (marked 1 5 1 1 ∷ [])) (3 ∷ []); result = not_accepted }
    -- the previous output taken as permitted though a zone prohibits it
    ∷ record { call = judge (file_of 0 (marked 1 5 1 1 ∷ [])) (5 ∷ []); result = not_accepted }
    -- standing accepted of a unit that must run and ran
    ∷ record { call = judge (file_of 0 (marked 1 5 1 1 ∷ [])) (0 ∷ []); result = not_accepted }
    -- previous less down below 0
    ∷ record { call = judge (file_of 3 (marked 0 3 2 5 ∷ [])) (4 ∷ []); result = accepted 56000 100000000 17000 }
    -- the multiplier 65,536 left out
    ∷ record { call = judge (file_of 5 (costing 1000000000 10000 1000 0 ∷ [])) (7 ∷ []); result = accepted 1000119000 200000000 672439000 }
    -- 32 bits for cost, surplus or distance; units behind the second left out
    ∷ record { call = judge (file_of 0 (costing 1000000000 10000 1000 0 ∷ costing 1000000000 10000 1000 0 ∷ costing 1000000000 10000 1000 0 ∷ costing 1000000000 10000 1000 0 ∷ costing 1000000000 10000 1000 0 ∷ [])) (10 ∷ 10 ∷ 10 ∷ 10 ∷ 10 ∷ []); result = accepted 5001000000 5000000000 5001000000 }
    -- the cost of a third unit left out
    ∷ record { call = judge (file_of 9 (U ∷ U ∷ U ∷ [])) (3 ∷ 3 ∷ 3 ∷ []); result = accepted 117000 0 0 }
    -- permission of units behind the second not asked
    ∷ record { call = judge (file_of 9 (U ∷ U ∷ U ∷ [])) (3 ∷ 3 ∷ 5 ∷ []); result = not_accepted }
    -- distance 0 where multiplier 0's choices cover
    ∷ record { call = judge (file_of 0 (U ∷ [])) (2 ∷ []); result = accepted 24000 200000000 24000 }
    -- an output not permitted told before 11
    ∷ record { call = judge (file_of 11 (U ∷ [])) (5 ∷ []); result = refused NoAllocation }
    -- an output not permitted told before 19
    ∷ record { call = judge u5 (5 ∷ 5 ∷ []); result = refused OutputCountInvalid }
    ∷ record { call = judge (file_of 5 (U ∷ U ∷ [])) (5 ∷ []); result = refused OutputCountInvalid }
    -- zeros behind the outputs cut
    ∷ record { call = judge u5 (7 ∷ 0 ∷ []); result = refused OutputCountInvalid }
    -- step 1 asks only for cover
    ∷ record { call = judge (file_of 0 (marked 1 5 0 0 ∷ [])) (5 ∷ []); result = refused NoAllocation }
    -- 2 ^ 32 less 1 taken for −1, or for standing
    ∷ record { call = judge (file_of 0 (U ∷ [])) (4294967295 ∷ []); result = not_accepted }
    -- the first of two zones left out
    ∷ record { call = judge (site 15) (6 ∷ 10 ∷ []); result = not_accepted }
    -- the third and the fourth zone left out
    ∷ record { call = judge (file_of 5 (four_zones ∷ [])) (13 ∷ []); result = not_accepted }
    ∷ record { call = judge (file_of 5 (four_zones ∷ [])) (17 ∷ []); result = not_accepted }
    ∷ record { call = judge (file_of 5 (four_zones ∷ [])) (11 ∷ []); result = accepted 231000 600000000 155000 }
    ∷ []

-- ---- as C sees them

-- four answers, and one more
abbrev pub four : List ℤ
four = neg_ℤ (pos 1) ∷ neg_ℤ (pos 2) ∷ neg_ℤ (pos 3) ∷ neg_ℤ (pos 4) ∷ []

abbrev pub five : List ℤ
five = neg_ℤ (pos 1) ∷ neg_ℤ (pos 2) ∷ neg_ℤ (pos 3) ∷ neg_ℤ (pos 4) ∷ neg_ℤ (pos 5) ∷ []

unfoldable pub panel_judgements : List (Row Call Answer)
panel_judgements =
    -- three answers accepted
    record { call = panel_judge u5 (7 ∷ []) (pos 8 ∷ pos 8 ∷ pos 8 ∷ []); result = returns 1 (pos 8 ∷ pos 8 ∷ pos 8 ∷ []) }
    -- 2 or 19 before 1
    ∷ record { call = panel_judge short_head [] (pos 8 ∷ pos 8 ∷ pos 8 ∷ []); result = returns 1 (pos 8 ∷ pos 8 ∷ pos 8 ∷ []) }
    -- no answer accepted
    ∷ record { call = panel_judge u5 (7 ∷ []) []; result = returns 1 [] }
    -- an answer of 32 bits
    ∷ record { call = panel_judge (file_of 0 (costing 1000000000 10000 1000 0 ∷ costing 1000000000 10000 1000 0 ∷ costing 1000000000 10000 1000 0 ∷ costing 1000000000 10000 1000 0 ∷ costing 1000000000 10000 1000 0 ∷ [])) (10 ∷ 10 ∷ 10 ∷ 10 ∷ 10 ∷ []) four; result = returns 0 (pos 1 ∷ pos 5001000000 ∷ pos 5000000000 ∷ pos 5001000000 ∷ []) }
    -- four answers taken for too few
    ∷ record { call = panel_judge u5 (7 ∷ []) four; result = returns 0 (pos 1 ∷ pos 119000 ∷ pos 200000000 ∷ pos 42000 ∷ []) }
    -- the answers in another order; a fifth written
    ∷ record { call = panel_judge u5 (8 ∷ []) five; result = returns 0 (pos 1 ∷ pos 144000 ∷ pos 300000000 ∷ pos 67000 ∷ neg_ℤ (pos 5) ∷ []) }
    -- cost, surplus or distance told of outputs that do not cover, or the list left as it was
    ∷ record { call = panel_judge u5 (4 ∷ []) five; result = returns 0 (pos 0 ∷ pos 0 ∷ pos 0 ∷ pos 0 ∷ neg_ℤ (pos 5) ∷ []) }
    -- the same of an output that is not permitted
    ∷ record { call = panel_judge u5 (5 ∷ []) five; result = returns 0 (pos 0 ∷ pos 0 ∷ pos 0 ∷ pos 0 ∷ neg_ℤ (pos 5) ∷ []) }
    -- the answers written before a refusal; 19 before 11
    ∷ record { call = panel_judge u5 [] four; result = returns 19 four }
    ∷ record { call = panel_judge (file_of 11 (U ∷ [])) [] four; result = returns 11 four }
    ∷ []
