-- The refusals (rules 4.1 to 4.8), case by case: `limits` (the last accepted value of each field and the first refused one), `refusals` (each number from each call that gives it), `orders` (an input that breaks two rules gets the number of the earlier check). Above each row stands the wrong rule that it shows.
use Rattle.std.specs.Prelude.{List, [], ◌∷◌, ◌++◌, refl, replicate, take}
use Rattle.rules.specs.Layout.{file_of}
use Rattle.rules.specs.TableRows.{Row, Holds}
use Rattle.rules.specs.Cases.{Call, Answer, answer, buffer, dispatch, price, pack, check, dispatch_into, pack_into, unpack_into, writes, refuses, checks}
use Rattle.rules.specs.CaseFiles.{u5, site, row_of_u, rows_of_site, at_limits, put, copies, short_head, other_edition, no_unit, demand_above, byte_too_many, no_zone, linear_cost_above, edge_at_least, other_mark, rows_buffer, U, zoned}

unfoldable pub limits : List (Row Call Answer)
limits =
    -- a limit lower than that of rule 2.6; for least, a higher one
    record { call = check at_limits; result = checks 0 }
    -- d up to 320,001
    ∷ record { call = check (put 4 (0x00 ∷ 0x04 ∷ 0xE2 ∷ 0x01 ∷ []) at_limits); result = checks 5 }
    -- 32 units not accepted (6, not 4: this file has one)
    ∷ record { call = check (put 2 (0x00 ∷ 0x20 ∷ []) at_limits); result = checks 6 }
    -- 32 units not accepted, or not each read
    ∷ record { call = check (file_of 5 (replicate 32 U)); result = checks 0 }
    -- 33 units
    ∷ record { call = check (put 2 (0x00 ∷ 0x21 ∷ []) at_limits); result = checks 4 }
    -- c0 up to 1,000,000,001
    ∷ record { call = check (put 12 (0x3B ∷ 0x9A ∷ 0xCA ∷ 0x01 ∷ []) at_limits); result = checks 8 }
    -- c1 up to 10,000,001
    ∷ record { call = check (put 16 (0x00 ∷ 0x98 ∷ 0x96 ∷ 0x81 ∷ []) at_limits); result = checks 8 }
    -- c2 up to 1,001
    ∷ record { call = check (put 20 (0x03 ∷ 0xE9 ∷ []) at_limits); result = checks 8 }
    -- b up to 5,001
    ∷ record { call = check (put 22 (0x13 ∷ 0x89 ∷ []) at_limits); result = checks 8 }
    -- least 0
    ∷ record { call = check (put 24 (0x00 ∷ 0x00 ∷ []) at_limits); result = checks 9 }
    -- greatest up to 10,001
    ∷ record { call = check (put 26 (0x27 ∷ 0x11 ∷ []) at_limits); result = checks 9 }
    -- previous up to 10,001
    ∷ record { call = check (put 28 (0x27 ∷ 0x11 ∷ []) at_limits); result = checks 10 }
    -- up step up to 10,001
    ∷ record { call = check (put 30 (0x27 ∷ 0x11 ∷ []) at_limits); result = checks 10 }
    -- down step up to 10,001
    ∷ record { call = check (put 32 (0x27 ∷ 0x11 ∷ []) at_limits); result = checks 10 }
    -- mark 2
    ∷ record { call = check (put 34 (0x00 ∷ 0x02 ∷ []) at_limits); result = checks 10 }
    -- a zone without length
    ∷ record { call = check (put 40 (0x00 ∷ 0x02 ∷ []) at_limits); result = checks 9 }
    -- an upper edge not held against greatest
    ∷ record { call = check (file_of 5 (zoned 4 10 ∷ [])); result = checks 9 }
    -- least not held against greatest where there is no zone
    ∷ record { call = check (put 64 (0x00 ∷ 0x03 ∷ []) (site 26)); result = checks 9 }
    -- a body of 38 bytes not accepted
    ∷ record { call = check (take 50 (put 10 (0x00 ∷ 0x26 ∷ []) (put 36 (0x00 ∷ 0x03 ∷ []) at_limits))); result = checks 0 }
    -- a head of 8 bytes refused (6, not 2: it has no contents)
    ∷ record { call = check (take 8 u5); result = checks 6 }
    -- a body of 22 bytes
    ∷ record { call = check (take 34 (put 10 (0x00 ∷ 0x16 ∷ []) u5)); result = checks 6 }
    -- a body of 28 bytes
    ∷ record { call = check (take 40 (put 10 (0x00 ∷ 0x1C ∷ []) u5)); result = checks 6 }
    -- a body of 46 bytes
    ∷ record { call = check (put 10 (0x00 ∷ 0x2E ∷ []) at_limits ++ (0x00 ∷ 0x00 ∷ 0x00 ∷ 0x00 ∷ [])); result = checks 6 }
    -- body 1 behind 8 + 4n
    ∷ record { call = check (put 8 (0x00 ∷ 0x0D ∷ []) u5 ++ (0x00 ∷ [])); result = checks 6 }
    -- body 1 before 8 + 4n
    ∷ record { call = check (take 41 (put 8 (0x00 ∷ 0x0B ∷ []) u5)); result = checks 6 }
    -- a later body before the end of the one before
    ∷ record { call = check (take 75 (put 12 (0x00 ∷ 0x31 ∷ []) (site 26))); result = checks 6 }
    -- the file's end not held against the last body's, below it
    ∷ record { call = check (take 41 u5); result = checks 6 }
    -- the second unit's z not held against its length
    ∷ record { call = check (put 74 (0x00 ∷ 0x01 ∷ []) (site 26)); result = checks 7 }
    -- 32 rows not accepted, or read as more rows (13: the buffer has 92 bytes)
    ∷ record { call = pack 5 (copies 32 row_of_u); result = refuses 13 buffer }
    -- 33 rows
    ∷ record { call = pack 5 (copies 33 row_of_u); result = refuses 12 buffer }
    -- packing with d 320,000 refused
    ∷ record { call = pack 320000 row_of_u; result = writes 42 (put 4 (0x00 ∷ 0x04 ∷ 0xE2 ∷ 0x00 ∷ []) u5 ++ replicate 50 255) }
    ∷ []

-- Each number from 1 to 14, from each call that gives it (pricing's 1 is C's alone: `panel_forms`).
unfoldable pub refusals : List (Row Call Answer)
refusals =
    -- dispatch accepts a reply of 91 bytes
    record { call = dispatch_into u5 (replicate 91 255); result = refuses 1 (replicate 91 255) }
    -- dispatch accepts a head of 7 bytes
    ∷ record { call = dispatch short_head; result = refuses 2 buffer }
    -- dispatch accepts edition 3
    ∷ record { call = dispatch other_edition; result = refuses 3 buffer }
    -- dispatch accepts no unit
    ∷ record { call = dispatch no_unit; result = refuses 4 buffer }
    -- dispatch accepts d 320,001
    ∷ record { call = dispatch demand_above; result = refuses 5 buffer }
    -- dispatch accepts a byte behind the last body
    ∷ record { call = dispatch byte_too_many; result = refuses 6 buffer }
    -- dispatch accepts z that does not fit the length
    ∷ record { call = dispatch no_zone; result = refuses 7 buffer }
    -- dispatch accepts c1 above its limit
    ∷ record { call = dispatch linear_cost_above; result = refuses 8 buffer }
    -- dispatch accepts a lower edge equal to least
    ∷ record { call = dispatch edge_at_least; result = refuses 9 buffer }
    -- dispatch accepts mark 2
    ∷ record { call = dispatch other_mark; result = refuses 10 buffer }
    -- dispatch without step 1
    ∷ record { call = dispatch (put 7 (0x0B ∷ []) u5); result = refuses 11 buffer }
    -- pricing accepts m 65,537
    ∷ record { call = price u5 65537; result = refuses 14 [] }
    -- pricing accepts a head of 7 bytes
    ∷ record { call = price short_head 0; result = refuses 2 [] }
    -- pricing accepts edition 3
    ∷ record { call = price other_edition 0; result = refuses 3 [] }
    -- pricing accepts no unit
    ∷ record { call = price no_unit 0; result = refuses 4 [] }
    -- pricing accepts d 320,001
    ∷ record { call = price demand_above 0; result = refuses 5 [] }
    -- pricing accepts a byte behind the last body
    ∷ record { call = price byte_too_many 0; result = refuses 6 [] }
    -- pricing accepts z that does not fit the length
    ∷ record { call = price no_zone 0; result = refuses 7 [] }
    -- pricing accepts c1 above its limit
    ∷ record { call = price linear_cost_above 0; result = refuses 8 [] }
    -- pricing accepts a lower edge equal to least
    ∷ record { call = price edge_at_least 0; result = refuses 9 [] }
    -- pricing accepts mark 2
    ∷ record { call = price other_mark 0; result = refuses 10 [] }
    -- pricing without step 1
    ∷ record { call = price (put 7 (0x0B ∷ []) u5) 0; result = refuses 11 [] }
    -- unpacking accepts rows of 607 numbers
    ∷ record { call = unpack_into u5 (replicate 607 9); result = refuses 1 (replicate 607 9) }
    -- unpacking accepts a head of 7 bytes
    ∷ record { call = unpack_into short_head rows_buffer; result = refuses 2 rows_buffer }
    -- unpacking accepts edition 3
    ∷ record { call = unpack_into other_edition rows_buffer; result = refuses 3 rows_buffer }
    -- unpacking accepts no unit
    ∷ record { call = unpack_into no_unit rows_buffer; result = refuses 4 rows_buffer }
    -- unpacking accepts d 320,001
    ∷ record { call = unpack_into demand_above rows_buffer; result = refuses 5 rows_buffer }
    -- unpacking accepts a byte behind the last body
    ∷ record { call = unpack_into byte_too_many rows_buffer; result = refuses 6 rows_buffer }
    -- unpacking accepts z that does not fit the length
    ∷ record { call = unpack_into no_zone rows_buffer; result = refuses 7 rows_buffer }
    -- unpacking accepts c1 above its limit
    ∷ record { call = unpack_into linear_cost_above rows_buffer; result = refuses 8 rows_buffer }
    -- unpacking accepts a lower edge equal to least
    ∷ record { call = unpack_into edge_at_least rows_buffer; result = refuses 9 rows_buffer }
    -- unpacking accepts mark 2
    ∷ record { call = unpack_into other_mark rows_buffer; result = refuses 10 rows_buffer }
    -- packing accepts no row
    ∷ record { call = pack 5 []; result = refuses 12 buffer }
    -- packing accepts 18 numbers
    ∷ record { call = pack 5 (take 18 row_of_u); result = refuses 12 buffer }
    -- packing accepts 20 numbers
    ∷ record { call = pack 5 (row_of_u ++ (0 ∷ [])); result = refuses 12 buffer }
    -- packing accepts d 320,001
    ∷ record { call = pack 320001 row_of_u; result = refuses 5 buffer }
    -- packing accepts five zones
    ∷ record { call = pack 5 (put 10 (5 ∷ []) row_of_u); result = refuses 7 buffer }
    -- packing accepts edges without a zone
    ∷ record { call = pack 5 (put 10 (0 ∷ []) row_of_u); result = refuses 7 buffer }
    -- packing accepts an edge behind the last zone
    ∷ record { call = pack 5 (put 13 (8 ∷ []) row_of_u); result = refuses 7 buffer }
    -- packing accepts a last edge that is not in use
    ∷ record { call = pack 5 (put 18 (8 ∷ []) row_of_u); result = refuses 7 buffer }
    -- packing accepts c1 above its limit
    ∷ record { call = pack 5 (put 1 (10000001 ∷ []) row_of_u); result = refuses 8 buffer }
    -- packing accepts a lower edge equal to least
    ∷ record { call = pack 5 (put 11 (2 ∷ []) row_of_u); result = refuses 9 buffer }
    -- packing accepts mark 2
    ∷ record { call = pack 5 (put 9 (2 ∷ []) row_of_u); result = refuses 10 buffer }
    -- packing accepts a buffer one byte too short
    ∷ record { call = pack_into 26 rows_of_site (replicate 75 255); result = refuses 13 (replicate 75 255) }
    ∷ []

-- Each input breaks two rules.
unfoldable pub orders : List (Row Call Answer)
orders =
    -- dispatch: 2 before 1
    record { call = dispatch_into short_head (replicate 91 255); result = refuses 1 (replicate 91 255) }
    -- unpacking: 2 before 1
    ∷ record { call = unpack_into short_head (replicate 607 9); result = refuses 1 (replicate 607 9) }
    -- pricing: 2 before 14
    ∷ record { call = price short_head 65537; result = refuses 14 [] }
    -- 3 before 2
    ∷ record { call = dispatch (take 7 other_edition); result = refuses 2 buffer }
    -- 4 before 3
    ∷ record { call = dispatch (put 2 (0x00 ∷ 0x00 ∷ []) other_edition); result = refuses 3 buffer }
    -- 5 before 4
    ∷ record { call = dispatch (put 2 (0x00 ∷ 0x00 ∷ []) demand_above); result = refuses 4 buffer }
    -- 6 before 5
    ∷ record { call = dispatch (demand_above ++ (0x00 ∷ [])); result = refuses 5 buffer }
    -- 7 before 6
    ∷ record { call = dispatch (no_zone ++ (0x00 ∷ [])); result = refuses 6 buffer }
    -- 8 before 7, where z does not fit the length
    ∷ record { call = dispatch (put 36 (0x00 ∷ 0x00 ∷ []) linear_cost_above); result = refuses 7 buffer }
    -- 9 before 8
    ∷ record { call = dispatch (put 38 (0x00 ∷ 0x02 ∷ []) linear_cost_above); result = refuses 8 buffer }
    -- 10 before 9
    ∷ record { call = dispatch (put 38 (0x00 ∷ 0x02 ∷ []) other_mark); result = refuses 9 buffer }
    -- 11 before 10
    ∷ record { call = dispatch (put 7 (0x0B ∷ []) other_mark); result = refuses 10 buffer }
    -- number by number: unit 2's 7 before unit 1's 10
    ∷ record { call = dispatch (put 74 (0x00 ∷ 0x01 ∷ []) (put 38 (0x00 ∷ 0x02 ∷ []) (site 26))); result = refuses 10 buffer }
    -- pricing: 11 before 10
    ∷ record { call = price (put 7 (0x0B ∷ []) other_mark) 0; result = refuses 10 [] }
    -- packing: 5 before 12
    ∷ record { call = pack 320001 []; result = refuses 12 buffer }
    -- packing: 7 before 5
    ∷ record { call = pack 320001 (put 10 (5 ∷ []) row_of_u); result = refuses 5 buffer }
    -- packing: 8 before 7
    ∷ record { call = pack 5 (put 1 (10000001 ∷ []) (put 13 (8 ∷ []) row_of_u)); result = refuses 7 buffer }
    -- packing: 9 before 8
    ∷ record { call = pack 5 (put 1 (10000001 ∷ []) (put 11 (2 ∷ []) row_of_u)); result = refuses 8 buffer }
    -- packing: 10 before 9
    ∷ record { call = pack 5 (put 9 (2 ∷ []) (put 11 (2 ∷ []) row_of_u)); result = refuses 9 buffer }
    -- packing number by number: row 2's 7 before row 1's 10
    ∷ record { call = pack 26 (put 9 (2 ∷ []) (put 29 (5 ∷ []) rows_of_site)); result = refuses 10 buffer }
    -- packing: 13 before 10
    ∷ record { call = pack_into 5 (put 9 (2 ∷ []) row_of_u) (replicate 41 255); result = refuses 10 (replicate 41 255) }
    ∷ []

pub limits_hold : Holds answer limits
unfolding answer limits
limits_hold = refl

pub refusals_hold : Holds answer refusals
unfolding answer refusals
refusals_hold = refl

pub orders_hold : Holds answer orders
unfolding answer orders
orders_hold = refl
