-- Rule 21.10 of docs/SPECIFICATION.md: days, case by case. Above each row stands the wrong rule that it shows. Each lent byte is 255 and each of 33 lent records is 9 and 9, so that what is untouched shows.
use Rattle.std.specs.Prelude.{ℕ, ◌+◌, ◌*◌, ◌-◌, List, [], ◌∷◌, ◌++◌, refl, ℤ, pos, length, replicate, Result, Ok, Err}
use Rattle.rules.specs.Unit.{Unit}
use Rattle.rules.specs.Layout.{file_of}
use Rattle.rules.specs.Refusal.{number_of, number_of_verdict}
use Rattle.rules.specs.TableRows.{Row, Holds}
use Rattle.rules.specs.Cases as cases
use Rattle.rules.specs.CaseFiles.{u5, short_head, other_edition, no_unit, demand_above, byte_too_many, no_zone, linear_cost_above, edge_at_least, other_mark, put, with_linear_loss, U, lossy, marked}
use Rattle.rules.specs.Unit as units
use Rattle.day.specs.declared.History.{History}
use Rattle.rules.specs.declared.Refusal.{Refusal}
use Rattle.day.specs.Claims.{joined}
use Rattle.day.specs.Day.{slot_case, slot_bytes, one_slot, slots_more, day_of, day_verdict, day_ends, scheduled, panel_scheduled}

pub data Call : Type 0 where
  -- the file, the demands, and how many bytes and records are lent
  plan : List ℕ → List ℕ → ℕ → ℕ → Call
  -- the verdict alone, of so many demands of 0
  verdict : List ℕ → List ℕ → ℕ → ℕ → Call
  -- as C sees it: the lent list of answers comes last
  panel_plan : List ℕ → List ℕ → ℕ → ℕ → List ℤ → Call

pub data Answer : Type 0 where
  -- the total, the whole trace and all records
  plans : ℕ → List ℕ → List History → Answer
  -- the refusal's number, and the same
  refuses : ℕ → List ℕ → List History → Answer
  -- 0, or the refusal's number
  checks : ℕ → Answer
  -- the number that C gets, and the same with the lent answers
  returns : ℕ → List ℕ → List History → List ℤ → Answer

abbrev pub history : ℕ → ℕ → History
history p s = record { previous = p; starts = s }

abbrev pub bytes_lent : ℕ → List ℕ
bytes_lent room = replicate room 255

abbrev pub records_lent : ℕ → List History
records_lent n = replicate n (history 9 9)

abbrev pub of_scheduled : Result ℕ Refusal → List ℕ → List History → Answer
of_scheduled (Ok t) trace histories = plans t trace histories
of_scheduled (Err r) trace histories = refuses (number_of r) trace histories

-- what the rules give
unfoldable pub answer : Call → Answer
unfolding cases.answer units.with_previous slot_case one_slot slots_more day_of day_verdict day_ends scheduled panel_scheduled
answer (plan file demands room records) = let r = scheduled file demands (bytes_lent room) (records_lent records) in of_scheduled r.answer r.trace r.histories
answer (verdict file demands room records) = checks (number_of_verdict (day_verdict file demands room records))
answer (panel_plan file demands room records answers) = let r = panel_scheduled file demands (bytes_lent room) (records_lent records) answers in returns r.number r.trace r.histories r.answers

-- ---- rows: three bytes more than the slots take, and 33 records

abbrev pub solved : ℕ → ℕ → List ℕ
solved cost gap = slot_bytes 0 cost gap

abbrev pub eleven : List ℕ
eleven = slot_bytes 11 0 0

abbrev pub planned : List ℕ → List ℕ → ℕ → List (List ℕ) → List History → Row Call Answer
planned file demands total slots histories =
    record { call = plan file demands (18 * length demands + 3) 33; result = plans total (joined slots ++ bytes_lent 3) (histories ++ records_lent (33 - length histories)) }

-- refused, with everything as it was
abbrev pub refused : List ℕ → List ℕ → ℕ → ℕ → ℕ → Row Call Answer
refused file demands room records number = record { call = plan file demands room records; result = refuses number (bytes_lent room) (records_lent records) }

-- U that must run, with a constant cost of 1,000,000,000 and no ramp limit
abbrev pub dear : Unit
dear = let u = marked 1 0 10000 10000 in
    record {
      c0 = 1000000000;
      c1 = u.c1;
      c2 = u.c2;
      b = u.b;
      b1 = u.b1;
      least = u.least;
      greatest = u.greatest;
      previous = u.previous;
      up = u.up;
      down = u.down;
      mark = u.mark;
      zone_count = u.zone_count;
      edges = u.edges;
    }

unfoldable pub days : List (Row Call Answer)
days =
    -- the case's own ramp window in every slot (39,000 for 3); a refused slot that moves the histories; a start counted from above 0
    planned u5 (5 ∷ 0 ∷ 10 ∷ 11 ∷ 3 ∷ []) 519000 (solved 119000 42000 ∷ solved 0 0 ∷ solved 200000 0 ∷ eleven ∷ solved 200000 140000 ∷ []) (history 10 2 ∷ [])
    -- the case's own demand dispatched, or refused with 11
    ∷ planned (put 7 (0x0B ∷ []) u5) (5 ∷ []) 119000 (solved 119000 42000 ∷ []) (history 7 1 ∷ [])
    -- an empty list that leaves the records alone
    ∷ planned (file_of 5 (marked 0 7 1 1 ∷ [])) [] 0 [] (history 7 0 ∷ [])
    -- a window kept over a stop
    ∷ planned u5 (2 ∷ 0 ∷ 10 ∷ []) 224000 (solved 24000 0 ∷ solved 0 0 ∷ solved 200000 0 ∷ []) (history 10 2 ∷ [])
    -- a refused slot taken for a stop
    ∷ planned (file_of 5 (marked 0 0 10000 10000 ∷ [])) (5 ∷ 11 ∷ 5 ∷ []) 238000 (solved 119000 42000 ∷ eleven ∷ solved 119000 42000 ∷ []) (history 7 1 ∷ [])
    -- a start counted at the first slot whatever the case's previous output
    ∷ planned (file_of 5 (marked 0 7 10000 10000 ∷ [])) (5 ∷ 0 ∷ 5 ∷ []) 238000 (solved 119000 42000 ∷ solved 0 0 ∷ solved 119000 42000 ∷ []) (history 7 1 ∷ [])
    -- none counted at the first slot
    ∷ planned u5 (5 ∷ []) 119000 (solved 119000 42000 ∷ []) (history 7 1 ∷ [])
    -- a day that ends at its first refused slot
    ∷ planned (file_of 5 (marked 1 0 0 0 ∷ [])) (2 ∷ 10 ∷ 2 ∷ []) 48000 (solved 24000 0 ∷ eleven ∷ solved 24000 0 ∷ []) (history 2 1 ∷ [])
    -- a unit without a permitted output that refuses the call
    ∷ planned (file_of 5 (marked 1 5 0 0 ∷ [])) (0 ∷ 5 ∷ []) 0 (eleven ∷ eleven ∷ []) (history 5 0 ∷ [])
    -- up for down
    ∷ planned (file_of 5 (marked 0 5 3 0 ∷ [])) (7 ∷ 8 ∷ []) 263000 (solved 119000 0 ∷ solved 144000 0 ∷ []) (history 8 0 ∷ [])
    -- ties not lowered in a slot
    ∷ planned (file_of 5 (U ∷ U ∷ [])) (5 ∷ 5 ∷ 0 ∷ 5 ∷ []) 189000 (solved 63000 0 ∷ solved 63000 0 ∷ solved 0 0 ∷ solved 63000 0 ∷ []) (history 2 2 ∷ history 3 2 ∷ [])
    -- one unit's history for the other's
    ∷ planned (file_of 5 (marked 0 7 1 1 ∷ marked 0 0 3 3 ∷ [])) (8 ∷ 9 ∷ []) 316000 (solved 158000 34000 ∷ solved 158000 17000 ∷ []) (history 7 0 ∷ history 3 1 ∷ [])
    -- losses left out
    ∷ planned (file_of 5 (lossy ∷ [])) (5 ∷ 10 ∷ 11 ∷ []) 119000 (solved 119000 41999 ∷ eleven ∷ eleven ∷ []) (history 7 1 ∷ [])
    -- a total in 32 bits
    ∷ planned (file_of 5 (dear ∷ [])) (5 ∷ 5 ∷ 5 ∷ 5 ∷ 5 ∷ []) 5000595000 (solved 1000119000 42000 ∷ solved 1000119000 42000 ∷ solved 1000119000 42000 ∷ solved 1000119000 42000 ∷ solved 1000119000 42000 ∷ []) (history 7 1 ∷ [])
    -- a refused slot's greatest outputs taken as previous: 238,000
    ∷ planned (file_of 5 (marked 0 0 3 3 ∷ [])) (7 ∷ 11 ∷ 4 ∷ []) 175000 (solved 119000 0 ∷ eleven ∷ solved 56000 0 ∷ []) (history 4 1 ∷ [])
    -- edition 2 refused, or its b1 left out
    ∷ planned (with_linear_loss 0xFF 0x67 0x69 0x80) (5 ∷ 11 ∷ 12 ∷ []) 119000 (solved 119000 51600 ∷ eleven ∷ eleven ∷ []) (history 7 1 ∷ [])
    -- low byte first, cost and gap swapped, a status of one byte: 18 bytes literally, and 3 untouched
    ∷ record {
      call = plan u5 (5 ∷ []) 21 32;
      result =
          plans 119000
          (0x00 ∷ 0x00 ∷ 0x00 ∷ 0x00 ∷ 0x00 ∷ 0x00 ∷ 0x00 ∷ 0x01 ∷ 0xD0 ∷ 0xD8 ∷ 0x00 ∷ 0x00 ∷ 0x00 ∷ 0x00 ∷ 0x00 ∷ 0x00 ∷ 0xA4 ∷ 0x10 ∷ 255 ∷ 255 ∷ 255 ∷ [])
          (history 7 1 ∷ records_lent 31);
    }
    -- a refused slot's bytes left as they were, or its status elsewhere
    ∷ record {
      call = plan u5 (11 ∷ []) 18 32;
      result = plans 0 (0x00 ∷ 0x0B ∷ replicate 16 0) (history 0 0 ∷ records_lent 31);
    }
    ∷ []

unfoldable pub refusals : List (Row Call Answer)
refusals =
    -- 320,001 accepted
    refused u5 (320001 ∷ []) 18 32 22
    -- the last entry not looked at
    ∷ refused u5 (5 ∷ 7 ∷ 320001 ∷ []) 54 32 22
    -- 23 before 22
    ∷ refused u5 (320001 ∷ []) 17 32 22
    ∷ refused u5 (320001 ∷ []) 18 31 22
    -- a byte too few accepted
    ∷ refused u5 (5 ∷ []) 17 32 23
    ∷ refused u5 (5 ∷ 7 ∷ []) 35 32 23
    -- histories asked for the case's sets, not 32
    ∷ refused u5 (5 ∷ []) 18 31 23
    -- no histories asked where there is no demand
    ∷ refused u5 [] 0 31 23
    -- 2 before 22
    ∷ refused short_head (320001 ∷ []) 18 32 22
    -- 2 before 23
    ∷ refused short_head (5 ∷ []) 17 32 23
    ∷ refused short_head (5 ∷ []) 18 31 23
    -- the case not checked where there is no demand; the records set all the same
    ∷ refused short_head [] 0 32 2
    ∷ refused edge_at_least [] 0 32 9
    -- each check of the case left out
    ∷ refused short_head (5 ∷ []) 18 32 2
    ∷ refused other_edition (5 ∷ []) 18 32 3
    ∷ refused no_unit (5 ∷ []) 18 32 4
    -- the case's own demand not checked
    ∷ refused demand_above (5 ∷ []) 18 32 5
    ∷ refused byte_too_many (5 ∷ []) 18 32 6
    ∷ refused no_zone (5 ∷ []) 18 32 7
    ∷ refused linear_cost_above (5 ∷ []) 18 32 8
    ∷ refused (with_linear_loss 0x00 0x98 0x96 0x81) (5 ∷ []) 18 32 18
    ∷ refused edge_at_least (5 ∷ []) 18 32 9
    ∷ refused other_mark (5 ∷ []) 18 32 10
    -- 97 demands accepted
    ∷ record { call = verdict u5 (replicate 97 0) 1746 32; result = checks 22 }
    -- the number of demands asked behind room or file
    ∷ record { call = verdict u5 (replicate 97 0) 0 0; result = checks 22 }
    ∷ record { call = verdict short_head (replicate 97 0) 1746 32; result = checks 22 }
    -- 320,000 refused
    ∷ record { call = verdict u5 (320000 ∷ []) 18 32; result = checks 0 }
    -- 96 demands refused
    ∷ record { call = verdict u5 (replicate 96 0) 1728 32; result = checks 0 }
    -- a byte a demand asked
    ∷ record { call = verdict u5 (replicate 96 0) 1727 32; result = checks 23 }
    -- 11 told for the call
    ∷ record { call = verdict (put 7 (0x0B ∷ []) u5) (5 ∷ []) 18 32; result = checks 0 }
    ∷ []

unfoldable pub panel_forms : List (Row Call Answer)
panel_forms =
    -- the total returned, or a second answer written
    record { call = panel_plan u5 (5 ∷ []) 18 32 (pos 8 ∷ pos 8 ∷ []); result = returns 0 (solved 119000 42000) (history 7 1 ∷ records_lent 31) (pos 119000 ∷ pos 8 ∷ []) }
    -- no place for the total: something written, or another number first
    ∷ record { call = panel_plan u5 (5 ∷ []) 18 32 []; result = returns 1 (bytes_lent 18) (records_lent 32) [] }
    ∷ record { call = panel_plan u5 (320001 ∷ []) 0 0 []; result = returns 1 [] [] [] }
    ∷ record { call = panel_plan short_head (5 ∷ []) 18 32 []; result = returns 1 (bytes_lent 18) (records_lent 32) [] }
    -- an answer written at a refusal
    ∷ record { call = panel_plan u5 (320001 ∷ []) 18 32 (pos 8 ∷ []); result = returns 22 (bytes_lent 18) (records_lent 32) (pos 8 ∷ []) }
    ∷ record { call = panel_plan short_head (5 ∷ []) 18 32 (pos 8 ∷ []); result = returns 2 (bytes_lent 18) (records_lent 32) (pos 8 ∷ []) }
    ∷ []

pub days_hold : Holds answer days
unfolding answer days
days_hold = refl

pub refusals_hold : Holds answer refusals
unfolding answer refusals
refusals_hold = refl

pub panel_forms_hold : Holds answer panel_forms
unfolding answer panel_forms
panel_forms_hold = refl
