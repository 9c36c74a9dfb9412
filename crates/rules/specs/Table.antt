-- Rules 17.1 and 17.3 of docs/SPECIFICATION.md: the example cases and both pricings as one table, `table`, from the file's bytes to the reply's, and one theorem.
-- The other lists tell apart rules which that table does not: `further` (dispatches, pricings, packings, unpackings), `standing` (what a unit costs that stands), `panel_forms` (the calls as C sees them), `searches` (steps 2 to 4 by themselves), `divisions` (the regions of a unit). Above each of their rows stands the wrong rule that it shows.
use Rattle.std.specs.Prelude.{◌+◌, true, false, List, [], ◌∷◌, ◌++◌, refl, pos, neg_ℤ, replicate, drop}
use Rattle.rules.specs.Lists.{each, over}
use Rattle.rules.specs.Layout.{file_of, unit_of_row}
use Rattle.rules.specs.TableRows.{Row, Holds}
use Rattle.rules.specs.Cases.{Call, Answer, answer, buffer, reply, dispatch, price, pack, check, dispatch_into, pack_into, unpack_into, panel_dispatch, panel_price, panel_pack, panel_unpack, allocate, search_for, solve_offers, divide, writes, refuses, values, checks, reads, returns, allocates, finds, solves, divides}
use Rattle.rules.specs.CaseFiles.{u5, u5_reply, site, site_reply, u10_reply, row_of_u, rows_of_site, put, short_head, other_mark, largest_losses, rows_buffer, answers, unit, U, lossy, priced-at, marked, zoned, costing}

unfoldable pub table : List (Row Call Answer)
table =
    record { call = dispatch u5; result = writes 30 (over u5_reply buffer) }
    ∷ record { call = dispatch (file_of 0 (U ∷ [])); result = reply (0 ∷ []) 0 0 1 0 }
    ∷ record { call = dispatch (file_of 0 (marked 1 0 0 0 ∷ [])); result = reply (2 ∷ []) 24000 0 1 200000000 }
    ∷ record { call = dispatch (file_of 10 (U ∷ [])); result = reply (10 ∷ []) 200000 0 2 0 }
    ∷ record { call = dispatch (file_of 11 (U ∷ [])); result = refuses 11 buffer }
    ∷ record { call = dispatch (file_of 10 (lossy ∷ [])); result = refuses 11 buffer }
    ∷ record { call = dispatch (file_of 5 (U ∷ U ∷ [])); result = reply (2 ∷ 3 ∷ []) 63000 0 18 0 }
    ∷ record { call = dispatch (file_of 0 (marked 1 5 1 1 ∷ [])); result = reply (4 ∷ []) 56000 0 1 400000000 }
    ∷ record { call = dispatch (file_of 0 (marked 1 5 0 0 ∷ [])); result = refuses 11 buffer }
    ∷ record { call = dispatch (file_of 5 (zoned 2 7 ∷ [])); result = refuses 9 buffer }
    ∷ record { call = check (file_of 5 (zoned 3 7 ∷ [])); result = checks 0 }
    ∷ record { call = price u5 21; result = values (pos 7700000000) true }
    ∷ record { call = price u5 65536; result = values (neg_ℤ (pos 32748000000000)) true }
    ∷ []

unfoldable pub further : List (Row Call Answer)
further =
    -- a floor rounded down
    record { call = dispatch (file_of 5 (lossy ∷ [])); result = reply (7 ∷ []) 119000 41999 18 199999951 }
    -- a floor rounded to the nearest, or up from 2 above a whole quotient: the dual value of 21 is 1 above one
    ∷ record { call = dispatch (file_of 5 (unit 9665 1000 1069 0 0 0 0 4 7 ∷ [])); result = reply (7 ∷ []) 116655 41988 18 199947619 }
    -- only the last floor
    ∷ record { call = dispatch (file_of 1 (U ∷ [])); result = reply (2 ∷ []) 24000 12000 18 100000000 }
    -- no stop at equal net in step 4
    ∷ record { call = dispatch (file_of 2 (U ∷ [])); result = reply (2 ∷ []) 24000 0 16 0 }
    -- the floor of 0 left out
    ∷ record { call = dispatch (file_of 5 (priced-at 1 0 ∷ [])); result = reply (10 ∷ []) 10 10 18 500000000 }
    -- the ramp window asked of output 0
    ∷ record { call = dispatch (file_of 0 (marked 0 10 0 0 ∷ [])); result = reply (0 ∷ []) 0 0 1 0 }
    -- a zone skipped where the ramp window cuts a part of it
    ∷ record { call = dispatch (file_of 0 (marked 1 5 3 0 ∷ [])); result = reply (7 ∷ []) 119000 0 1 700000000 }
    -- no ramp window at previous 1
    ∷ record { call = dispatch (file_of 3 (marked 1 1 1 0 ∷ [])); result = refuses 11 buffer }
    -- a unit with one permitted output taken for one without
    ∷ record { call = dispatch (file_of 2 (marked 1 1 1 0 ∷ [])); result = reply (2 ∷ []) 24000 0 1 0 }
    -- a down step above the previous output taken for an empty window
    ∷ record { call = dispatch (file_of 0 (marked 1 5 0 10 ∷ [])); result = reply (2 ∷ []) 24000 0 1 200000000 }
    -- the ramp window up to previous + up + 1
    ∷ record { call = dispatch (site 27); result = refuses 11 buffer }
    -- c0 left out where a unit runs, or charged where it stands
    ∷ record { call = dispatch (site 0); result = reply (7 ∷ 0 ∷ []) 169000 0 1 699999853 }
    -- the second zone left out, or one kind of unit
    ∷ record { call = dispatch (site 23); result = reply (13 ∷ 12 ∷ []) 626747 67999 18 199999349 }
    -- the evaluations 18 in the bytes of each reply
    ∷ record { call = dispatch (file_of 10 (U ∷ [])); result = writes 30 (u10_reply ++ replicate 62 255) }
    -- a window that ends below previous + up; one unit, or its outputs from the last, in the bytes of each reply
    ∷ record { call = dispatch (site 26); result = writes 32 (site_reply ++ replicate 60 255) }
    -- bytes past the reply moved or changed
    ∷ record { call = dispatch_into u5 (each 95 (λ k. k)); result = writes 30 (u5_reply ++ each 65 (λ k. 30 + k)) }
    -- the upper edge taken wherever the vertex lies in a zone
    ∷ record { call = price u5 20; result = values (pos 7600000000) false }
    -- pricing asks cover of d + 1, or a net above the demand
    ∷ record { call = price (file_of 10 (U ∷ [])) 65536; result = values (pos 20000000000) true }
    -- a net one below the demand covers
    ∷ record { call = dispatch (put 4 (0x00 ∷ 0x00 ∷ 0x00 ∷ 0x01 ∷ []) (put 22 (0x00 ∷ 0x01 ∷ 0x00 ∷ 0x01 ∷ []) (put 28 (0x00 ∷ 0x01 ∷ []) u5))); result = refuses 11 buffer }
    -- the order of a row's numbers
    ∷ record { call = pack 5 row_of_u; result = writes 42 (u5 ++ replicate 50 255) }
    -- the order of a row's numbers, where all are unlike
    ∷ record { call = pack 26 rows_of_site; result = writes 76 (site 26 ++ replicate 16 255) }
    -- 30 bytes asked for each body
    ∷ record { call = pack_into 5 (drop 19 rows_of_site) (replicate 38 255); result = writes 38 ((0x00 ∷ 0x01 ∷ 0x00 ∷ 0x01 ∷ 0x00 ∷ 0x00 ∷ 0x00 ∷ 0x05 ∷ 0x00 ∷ 0x0C ∷ 0x00 ∷ 0x1A ∷ []) ++ drop 50 (site 26)) }
    -- a buffer as long as the file taken for too short
    ∷ record { call = pack_into 26 rows_of_site (replicate 76 255); result = writes 76 (site 26) }
    -- the order of a row's numbers in unpacking, unused edges not zero, or the demand and the count changed places
    ∷ record { call = unpack_into (site 26) rows_buffer; result = reads 26 2 (rows_of_site ++ replicate 570 9) }
    -- an output that is not permitted allocated
    ∷ record { call = allocate (U ∷ U ∷ []) (3 ∷ 5 ∷ []); result = allocates false }
    -- a unit without an output allocated
    ∷ record { call = allocate (U ∷ U ∷ []) (3 ∷ []); result = allocates false }
    -- an output without a unit allocated
    ∷ record { call = allocate (U ∷ U ∷ []) (3 ∷ 4 ∷ 0 ∷ []); result = allocates false }
    -- permitted outputs not allocated
    ∷ record { call = allocate (U ∷ U ∷ []) (3 ∷ 4 ∷ []); result = allocates true }
    ∷ []

-- A unit that stands costs nothing (rule 6.2, since S-1).
unfoldable pub standing : List (Row Call Answer)
standing =
    -- c0 charged to a unit that stands
    record { call = dispatch (file_of 0 (costing 50000 10000 1000 0 ∷ [])); result = reply (0 ∷ []) 0 0 1 0 }
    -- c0 charged to a unit that is stopped
    ∷ record { call = dispatch (file_of 0 (unit_of_row (put 0 (50000 ∷ []) (put 6 (10 ∷ []) row_of_u)) ∷ [])); result = reply (0 ∷ []) 0 0 1 0 }
    -- output 1 taken for standing
    ∷ record { call = dispatch (file_of 0 (unit_of_row (put 0 (50000 ∷ []) (put 4 (1 ∷ []) (put 9 (1 ∷ []) row_of_u))) ∷ [])); result = reply (1 ∷ []) 61000 0 1 100000000 }
    -- c0 left out of what a unit that must run costs
    ∷ record { call = dispatch (file_of 0 (costing 50000 10000 1000 1 ∷ [])); result = reply (2 ∷ []) 74000 0 1 200000000 }
    -- c0 left out of the choice: both would run
    ∷ record { call = dispatch (file_of 7 (costing 5000 10000 1000 0 ∷ costing 60000 10000 1000 0 ∷ [])); result = reply (7 ∷ 0 ∷ []) 124000 0 15 0 }
    -- the same, or the first unit preferred
    ∷ record { call = dispatch (file_of 7 (costing 60000 10000 1000 0 ∷ costing 5000 10000 1000 0 ∷ [])); result = reply (0 ∷ 7 ∷ []) 124000 0 15 0 }
    -- whatever has a c0 stands where others can cover: running at its least, 25,000, it saves 32,000 of what U would cost at 4
    ∷ record { call = dispatch (file_of 4 (U ∷ costing 1000 10000 1000 0 ∷ [])); result = reply (2 ∷ 2 ∷ []) 49000 0 17 0 }
    -- c0 of the units that stand in the floor
    ∷ record { call = dispatch (file_of 9 (costing 5000 10000 1000 0 ∷ costing 60000 10000 1000 0 ∷ [])); result = reply (8 ∷ 8 ∷ []) 353000 179000 18 700000000 }
    -- c0 of a unit that stands in the dual value, or none of one that runs: 8 and 0 are chosen; the floor is 174,000, the greatest: 353,000 − 179,000 of the row above
    ∷ record { call = price (file_of 9 (costing 5000 10000 1000 0 ∷ costing 60000 10000 1000 0 ∷ [])) 25; result = values (pos 17400000000) false }
    -- c0 in the dual value where nothing runs
    ∷ record { call = price (file_of 5 (costing 50000 10000 1000 0 ∷ [])) 0; result = values (pos 0) false }
    -- standing preferred on a tie with running
    ∷ record { call = price (file_of 5 (costing 10000 0 0 0 ∷ [])) 1; result = values (pos 500000000) true }
    ∷ []

unfoldable pub panel_forms : List (Row Call Answer)
panel_forms =
    -- dispatch does not return the length
    record { call = panel_dispatch u5 buffer; result = returns 30 (u5_reply ++ replicate 62 255) [] }
    -- dispatch does not return the refusal number, or writes before it refuses
    ∷ record { call = panel_dispatch other_mark buffer; result = returns 10 buffer [] }
    -- packing does not return the length
    ∷ record { call = panel_pack 5 row_of_u buffer; result = returns 42 (u5 ++ replicate 50 255) [] }
    -- packing does not return the refusal number, or writes before it refuses
    ∷ record { call = panel_pack 5 row_of_u (replicate 41 255); result = returns 13 (replicate 41 255) [] }
    -- the flag before the dual value; a third answer written
    ∷ record { call = panel_price u5 21 answers; result = returns 0 [] (pos 7700000000 ∷ pos 1 ∷ neg_ℤ (pos 3) ∷ []) }
    -- 1 for not covered
    ∷ record { call = panel_price u5 20 answers; result = returns 0 [] (pos 7600000000 ∷ pos 0 ∷ neg_ℤ (pos 3) ∷ []) }
    -- a list of two answers taken for too short; a dual value without its sign
    ∷ record { call = panel_price u5 65536 (pos 8 ∷ pos 9 ∷ []); result = returns 0 [] (neg_ℤ (pos 32748000000000) ∷ pos 1 ∷ []) }
    -- the answers written before a refusal
    ∷ record { call = panel_price (put 7 (0x0B ∷ []) u5) 0 answers; result = returns 11 [] answers }
    -- pricing: 1 before 14
    ∷ record { call = panel_price short_head 65537 (pos 8 ∷ []); result = returns 14 [] (pos 8 ∷ []) }
    -- pricing: 2 before 1
    ∷ record { call = panel_price short_head 65536 (pos 8 ∷ []); result = returns 1 [] (pos 8 ∷ []) }
    -- pricing: 2 before 14
    ∷ record { call = panel_price short_head 65537 answers; result = returns 14 [] answers }
    -- pricing without the check of the head
    ∷ record { call = panel_price short_head 65536 answers; result = returns 2 [] answers }
    -- the count before the demand; a third answer written; the rows not written, or more than them
    ∷ record { call = panel_unpack (site 26) rows_buffer answers; result = returns 0 (rows_of_site ++ replicate 570 9) (pos 26 ∷ pos 2 ∷ neg_ℤ (pos 3) ∷ []) }
    -- a list of two answers taken for too short
    ∷ record { call = panel_unpack u5 rows_buffer (pos 8 ∷ pos 9 ∷ []); result = returns 0 (row_of_u ++ replicate 589 9) (pos 5 ∷ pos 1 ∷ []) }
    -- the rows or the answers written before a refusal
    ∷ record { call = panel_unpack other_mark rows_buffer answers; result = returns 10 rows_buffer answers }
    -- unpacking: 2 before the 1 of the answers
    ∷ record { call = panel_unpack short_head rows_buffer (pos 8 ∷ []); result = returns 1 rows_buffer (pos 8 ∷ []) }
    -- unpacking: 2 before the 1 of the rows
    ∷ record { call = panel_unpack short_head (replicate 607 9) answers; result = returns 1 (replicate 607 9) answers }
    ∷ []

unfoldable pub searches : List (Row Call Answer)
searches =
    -- step 2 evaluates another multiplier than 0; step 3 made where step 2 covers
    record { call = search_for 0; result = finds 0 (0 ∷ []) }
    -- step 2 covers with a net below the target; the search ends before high − low is 1
    ∷ record { call = search_for 1; result = finds 1 (1 ∷ 2 ∷ 4 ∷ 8 ∷ 16 ∷ 32 ∷ 64 ∷ 128 ∷ 256 ∷ 512 ∷ 1024 ∷ 2048 ∷ 4096 ∷ 8192 ∷ 16384 ∷ 32768 ∷ 65536 ∷ 0 ∷ []) }
    -- no stop at equal net in the first middle
    ∷ record { call = search_for 65536; result = finds 32768 (32768 ∷ 65536 ∷ 0 ∷ []) }
    -- the best of the wrong half
    ∷ record { call = search_for 43691; result = finds 21846 (21845 ∷ 21846 ∷ 21844 ∷ 21848 ∷ 21840 ∷ 21856 ∷ 21824 ∷ 21888 ∷ 21760 ∷ 22016 ∷ 21504 ∷ 22528 ∷ 20480 ∷ 24576 ∷ 16384 ∷ 32768 ∷ 65536 ∷ 0 ∷ []) }
    -- step 3 evaluates another multiplier than 65,536
    ∷ record { call = search_for 131071; result = finds 65536 (65535 ∷ 65534 ∷ 65532 ∷ 65528 ∷ 65520 ∷ 65504 ∷ 65472 ∷ 65408 ∷ 65280 ∷ 65024 ∷ 64512 ∷ 63488 ∷ 61440 ∷ 57344 ∷ 49152 ∷ 32768 ∷ 65536 ∷ 0 ∷ []) }
    -- no stop at equal net in step 3
    ∷ record { call = search_for 131072; result = finds 65536 (65536 ∷ 0 ∷ []) }
    -- step 3 goes on without cover, or ends with its own choices
    ∷ record { call = search_for 131073; result = finds 70000 (65536 ∷ 0 ∷ []) }
    -- the best of a step 3 without cover is not the greatest outputs
    ∷ record { call = solve_offers 5000 (largest_losses ∷ []); result = solves (10000 ∷ []) 200000000000 59982892 2 0 }
    ∷ []

unfoldable pub divisions : List (Row Call Answer)
divisions =
    -- 0 left out or put behind the running intervals, or a zone offered
    record { call = divide U; result = divides (0 ∷ 0 ∷ 2 ∷ 4 ∷ 7 ∷ 10 ∷ []) }
    -- a zone that has no output strictly inside is no border
    ∷ record { call = divide (zoned 4 5); result = divides (0 ∷ 0 ∷ 2 ∷ 4 ∷ 5 ∷ 10 ∷ []) }
    -- an interval that the ramp window empties kept, or one that it cuts left whole
    ∷ record { call = divide (marked 1 5 3 0); result = divides (7 ∷ 8 ∷ []) }
    -- an interval of one output left out
    ∷ record { call = divide (marked 1 1 1 0); result = divides (2 ∷ 2 ∷ []) }
    -- the ramp window asked of 0
    ∷ record { call = divide (marked 0 5 0 0); result = divides (0 ∷ 0 ∷ []) }
    -- a down step above the previous output taken for an empty window
    ∷ record { call = divide (marked 1 5 0 10); result = divides (2 ∷ 4 ∷ []) }
    -- a border without an inside left out where there is a ramp window
    ∷ record { call = divide (unit 10000 1000 0 4 1 1 1 4 5); result = divides (3 ∷ 4 ∷ 5 ∷ 5 ∷ []) }
    -- a unit without a permitted output given a region
    ∷ record { call = divide (marked 1 5 0 0); result = divides [] }
    -- no running interval where there is no zone
    ∷ record { call = divide (unit_of_row (0 ∷ 10000 ∷ 1000 ∷ 0 ∷ 2 ∷ 10 ∷ replicate 13 0)); result = divides (0 ∷ 0 ∷ 2 ∷ 10 ∷ []) }
    -- what lies between two zones left out
    ∷ record { call = divide (unit_of_row (0 ∷ 10000 ∷ 1000 ∷ 0 ∷ 2 ∷ 10 ∷ 0 ∷ 0 ∷ 0 ∷ 1 ∷ 2 ∷ 3 ∷ 4 ∷ 6 ∷ 9 ∷ replicate 4 0)); result = divides (2 ∷ 3 ∷ 4 ∷ 6 ∷ 9 ∷ 10 ∷ []) }
    ∷ []

pub table-holds : Holds answer table
unfolding answer table
table-holds = refl

pub further-holds : Holds answer further
unfolding answer further
further-holds = refl

pub standing-holds : Holds answer standing
unfolding answer standing
standing-holds = refl

pub panel_forms_hold : Holds answer panel_forms
unfolding answer panel_forms
panel_forms_hold = refl

pub searches_hold : Holds answer searches
unfolding answer searches
searches_hold = refl

pub divisions_hold : Holds answer divisions
unfolding answer divisions
divisions_hold = refl
