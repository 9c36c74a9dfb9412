-- Rule 17.4 of docs/SPECIFICATION.md: edition 2 (since S-4), case by case: `linear_losses` (what b1 does to dispatch and pricing), `edition_limits` (the last accepted value and the first refused one), `edition_refusals` (18 and 3, and their places in the order). Above each row stands the wrong rule that it shows.
use Rattle.std.specs.Prelude.{◌+◌, ◌*◌, ◌%◌, true, false, cond, List, [], ◌∷◌, ◌++◌, refl, eqb, pos, neg_ℤ, replicate, take, drop}
use Rattle.fields.specs.Field.{bytes_of_each}
use Rattle.rules.specs.Lists.{over, each}
use Rattle.rules.specs.TableRows.{Row, Holds}
use Rattle.rules.specs.Cases.{Call, Answer, answer, buffer, reply, dispatch, price, pack, check, unpack_into, panel_dispatch, panel_price, panel_unpack, writes, refuses, values, checks, returns}
use Rattle.rules.specs.CaseFiles.{u5, u5_reply, row_of_u, at_limits, put, copies, with_linear_loss, site2, site_2_reply, in_edition_2, rows_buffer, answers}

unfoldable pub linear_losses : List (Row Call Answer)
linear_losses =
    -- edition 2 not accepted, or read otherwise than edition 1 where b1 is 0
    record { call = dispatch (with_linear_loss 0x00 0x00 0x00 0x00); result = writes 30 (over u5_reply buffer) }
    -- b1 of one unit or of one sign left out; the edges read at 26; the second body read as if it had a zone
    ∷ record { call = dispatch (site2 26); result = writes 32 (site_2_reply ++ replicate 60 255) }
    -- b1 added to net, or charged to a unit that stands
    ∷ record { call = dispatch (site2 0); result = reply (7 ∷ 0 ∷ []) 169000 0 1 664999853 }
    -- b1 left out of the floors
    ∷ record { call = dispatch (site2 23); result = reply (13 ∷ 12 ∷ []) 626747 61349 18 170999349 }
    -- step 1 with the negative b1 alone, or with b1 added
    ∷ record { call = dispatch (site2 27); result = refuses 11 buffer }
    -- pricing without b1
    ∷ record { call = price (site2 23) 30; result = values (pos 55895710290) false }
    -- b1 left out of the least priced costs, where both units run
    ∷ record { call = price (site2 26) 65536; result = values (neg_ℤ (pos 3927367626016)) true }
    -- the edges read at 26, where b1 stands: 4 and 7
    ∷ record { call = dispatch (put 42 (0x00 ∷ 0x03 ∷ 0x00 ∷ 0x08 ∷ []) (with_linear_loss 0x00 0x04 0x00 0x07)); result = reply (8 ∷ []) 144000 62834 18 297902792 }
    -- b1 read low byte first, as 1 and not 16,777,216 (18)
    ∷ record { call = check (with_linear_loss 0x01 0x00 0x00 0x00); result = checks 18 }
    -- net with 100,000,000 for a negative b1: 10 steps net 11
    ∷ record { call = dispatch (put 7 (0x0B ∷ []) (with_linear_loss 0xFF 0x67 0x69 0x80)); result = reply (10 ∷ []) 200000 0 2 0 }
    -- a b1 of −1 taken for a large one
    ∷ record { call = dispatch (put 7 (0x0A ∷ []) (with_linear_loss 0xFF 0xFF 0xFF 0xFF)); result = reply (10 ∷ []) 200000 0 18 10 }
    -- a b1 of 1 left out: 10 steps net 10 less 10 hundred-millionths
    ∷ record { call = dispatch (put 7 (0x0A ∷ []) (with_linear_loss 0x00 0x00 0x00 0x01)); result = refuses 11 buffer }
    -- b1 left out where it is negative: 7 steps net 7.7
    ∷ record { call = dispatch (with_linear_loss 0xFF 0x67 0x69 0x80); result = reply (7 ∷ []) 119000 51600 18 270000000 }
    -- b1 left out where it is positive: 7 steps net 6.3
    ∷ record { call = dispatch (with_linear_loss 0x00 0x98 0x96 0x80); result = reply (7 ∷ []) 119000 30800 18 130000000 }
    -- one of the two loss terms left out: b 5,000, b1 4,999
    ∷ record { call = dispatch (put 22 (0x13 ∷ 0x88 ∷ []) (with_linear_loss 0x00 0x00 0x13 0x87)); result = reply (7 ∷ []) 119000 41979 18 199720007 }
    -- b1 −1 left out of the tie at 21: 7 steps net more and are chosen
    ∷ record { call = price (with_linear_loss 0xFF 0xFF 0xFF 0xFF) 21; result = values (pos 7699999853) true }
    -- b1 1 left out of the tie at 21: 4 steps are chosen
    ∷ record { call = price (with_linear_loss 0x00 0x00 0x00 0x01) 21; result = values (pos 7700000084) false }
    -- one b1 for both units, or each other's
    ∷ record { call = dispatch ((0x00 ∷ 0x02 ∷ 0x00 ∷ 0x02 ∷ 0x00 ∷ 0x00 ∷ 0x00 ∷ 0x05 ∷ 0x00 ∷ 0x10 ∷ 0x00 ∷ 0x22 ∷ 0x00 ∷ 0x32 ∷ 0x00 ∷ 0x22 ∷ []) ++ drop 12 (with_linear_loss 0x00 0x98 0x96 0x80) ++ drop 12 (with_linear_loss 0xFF 0x67 0x69 0x80)); result = reply (2 ∷ 3 ∷ []) 63000 1400 18 10000000 }
    -- pricing: cover or step 1 without b1
    ∷ record { call = price (put 7 (0x0B ∷ []) (with_linear_loss 0xFF 0x67 0x69 0x80)) 65536; result = values (pos 20000000000) true }
    -- pricing without step 1 in edition 2
    ∷ record { call = price (put 7 (0x0A ∷ []) (with_linear_loss 0x00 0x00 0x00 0x01)) 0; result = refuses 11 [] }
    ∷ []

unfoldable pub edition_limits : List (Row Call Answer)
edition_limits =
    -- b1 10,000,000 refused
    record { call = check (with_linear_loss 0x00 0x98 0x96 0x80); result = checks 0 }
    -- b1 up to 10,000,001
    ∷ record { call = check (with_linear_loss 0x00 0x98 0x96 0x81); result = checks 18 }
    -- b1 −10,000,000 refused, or b1 read unsigned
    ∷ record { call = check (with_linear_loss 0xFF 0x67 0x69 0x80); result = checks 0 }
    -- b1 down to −10,000,001
    ∷ record { call = check (with_linear_loss 0xFF 0x67 0x69 0x7F); result = checks 18 }
    -- neither limit nor sum asked of b1
    ∷ record { call = check (with_linear_loss 0x7F 0xFF 0xFF 0xFF); result = checks 18 }
    -- b1 down to the least signed number
    ∷ record { call = check (with_linear_loss 0x80 0x00 0x00 0x00); result = checks 18 }
    -- b1 + 19,999 × b refused at 99,999,999: b 5,000, b1 4,999
    ∷ record { call = check (put 22 (0x13 ∷ 0x88 ∷ []) (with_linear_loss 0x00 0x00 0x13 0x87)); result = checks 0 }
    -- b1 + 19,999 × b up to 100,000,000, or 19,998 × b: b 5,000, b1 5,000
    ∷ record { call = check (put 22 (0x13 ∷ 0x88 ∷ []) (with_linear_loss 0x00 0x00 0x13 0x88)); result = checks 18 }
    -- the sum asked of b1's size: b 5,000, b1 −10,000,000
    ∷ record { call = check (put 22 (0x13 ∷ 0x88 ∷ []) (with_linear_loss 0xFF 0x67 0x69 0x80)); result = checks 0 }
    -- growth asked up to the unit's own greatest output, 10: b 4,501, b1 10,000,000
    ∷ record { call = check (put 22 (0x11 ∷ 0x95 ∷ []) (with_linear_loss 0x00 0x98 0x96 0x80)); result = checks 18 }
    -- b 4,500 with b1 10,000,000 refused
    ∷ record { call = check (put 22 (0x11 ∷ 0x94 ∷ []) (with_linear_loss 0x00 0x98 0x96 0x80)); result = checks 0 }
    -- a body of 46 bytes in edition 2 not accepted
    ∷ record { call = check (in_edition_2 0x2E (0x00 ∷ 0x00 ∷ 0x00 ∷ 0x00 ∷ []) at_limits); result = checks 0 }
    -- a body of 50 bytes in edition 2
    ∷ record { call = check (in_edition_2 0x32 (0x00 ∷ 0x00 ∷ 0x00 ∷ 0x00 ∷ []) at_limits ++ (0x00 ∷ 0x00 ∷ 0x00 ∷ 0x00 ∷ [])); result = checks 6 }
    -- a body of 26 bytes in edition 2
    ∷ record { call = check (take 38 (put 10 (0x00 ∷ 0x1A ∷ []) (put 36 (0x00 ∷ 0x00 ∷ []) (with_linear_loss 0x00 0x00 0x00 0x00)))); result = checks 6 }
    -- z held against 26 + 4z in edition 2 (34 is 30 + 4)
    ∷ record { call = check (put 36 (0x00 ∷ 0x02 ∷ []) (with_linear_loss 0x00 0x00 0x00 0x00)); result = checks 7 }
    -- z held against 30 + 4z in edition 1
    ∷ record { call = check (put 0 (0x00 ∷ 0x01 ∷ []) (with_linear_loss 0x00 0x00 0x00 0x00)); result = checks 7 }
    -- edition 0
    ∷ record { call = check (put 0 (0x00 ∷ 0x00 ∷ []) u5); result = checks 3 }
    -- edition 3
    ∷ record { call = check (put 0 (0x00 ∷ 0x03 ∷ []) (with_linear_loss 0x00 0x00 0x00 0x00)); result = checks 3 }
    -- the edition's first byte left out
    ∷ record { call = check (put 0 (0x01 ∷ 0x02 ∷ []) (with_linear_loss 0x00 0x00 0x00 0x00)); result = checks 3 }
    -- a body of 42 bytes in edition 2 not accepted
    ∷ record { call = check (take 54 (put 36 (0x00 ∷ 0x03 ∷ []) (in_edition_2 0x2A (0x00 ∷ 0x00 ∷ 0x00 ∷ 0x00 ∷ []) at_limits))); result = checks 0 }
    -- a body of 32 bytes in edition 2
    ∷ record { call = check (take 44 (put 10 (0x00 ∷ 0x20 ∷ []) (with_linear_loss 0x00 0x00 0x00 0x00))); result = checks 6 }
    -- a file of 1,608 bytes, or 32 units in edition 2, not accepted
    ∷ record { call = check ((0x00 ∷ 0x02 ∷ 0x00 ∷ 0x20 ∷ 0x00 ∷ 0x00 ∷ 0x00 ∷ 0x05 ∷ []) ++ bytes_of_each 2 (each 64 (λ k. cond (eqb (k % 2) 0) (136 + 23 * k) 46)) ++ copies 32 (drop 12 (in_edition_2 0x2E (0x00 ∷ 0x00 ∷ 0x00 ∷ 0x00 ∷ []) at_limits))); result = checks 0 }
    -- 33 units in edition 2
    ∷ record { call = check (put 2 (0x00 ∷ 0x21 ∷ []) (with_linear_loss 0x00 0x00 0x00 0x00)); result = checks 4 }
    -- d 320,001 in edition 2
    ∷ record { call = check (put 4 (0x00 ∷ 0x04 ∷ 0xE2 ∷ 0x01 ∷ []) (with_linear_loss 0x00 0x00 0x00 0x00)); result = checks 5 }
    -- offsets not checked in edition 2
    ∷ record { call = check (put 8 (0x00 ∷ 0x0D ∷ []) (with_linear_loss 0x00 0x00 0x00 0x00) ++ (0x00 ∷ [])); result = checks 6 }
    ∷ []

unfoldable pub edition_refusals : List (Row Call Answer)
edition_refusals =
    -- dispatch accepts b1 10,000,001, or writes before it refuses
    record { call = dispatch (with_linear_loss 0x00 0x98 0x96 0x81); result = refuses 18 buffer }
    -- pricing accepts b1 10,000,001
    ∷ record { call = price (with_linear_loss 0x00 0x98 0x96 0x81) 0; result = refuses 18 [] }
    -- C's dispatch gives another number
    ∷ record { call = panel_dispatch (with_linear_loss 0x00 0x98 0x96 0x81) buffer; result = returns 18 buffer [] }
    -- C's pricing gives another number, or writes before it refuses
    ∷ record { call = panel_price (with_linear_loss 0x00 0x98 0x96 0x81) 0 answers; result = returns 18 [] answers }
    -- 18 before 7
    ∷ record { call = dispatch (put 36 (0x00 ∷ 0x02 ∷ []) (with_linear_loss 0x00 0x98 0x96 0x81)); result = refuses 7 buffer }
    -- 18 before 8
    ∷ record { call = dispatch (put 16 (0x00 ∷ 0x98 ∷ 0x96 ∷ 0x81 ∷ []) (with_linear_loss 0x00 0x98 0x96 0x81)); result = refuses 8 buffer }
    -- 18 before 8, where b above its limit makes the sum too large: b 5,001, b1 5,000
    ∷ record { call = dispatch (put 22 (0x13 ∷ 0x89 ∷ []) (with_linear_loss 0x00 0x00 0x13 0x88)); result = refuses 8 buffer }
    -- 9 before 18: least 0
    ∷ record { call = dispatch (put 24 (0x00 ∷ 0x00 ∷ []) (with_linear_loss 0x00 0x98 0x96 0x81)); result = refuses 18 buffer }
    -- 10 before 18
    ∷ record { call = dispatch (put 34 (0x00 ∷ 0x02 ∷ []) (with_linear_loss 0x00 0x98 0x96 0x81)); result = refuses 18 buffer }
    -- 11 before 18
    ∷ record { call = dispatch (put 7 (0x0B ∷ []) (with_linear_loss 0x00 0x98 0x96 0x81)); result = refuses 18 buffer }
    -- number by number: unit 2's 18 before unit 1's 10
    ∷ record { call = dispatch (put 38 (0x00 ∷ 0x02 ∷ []) (put 80 (0x7F ∷ []) (site2 26))); result = refuses 10 buffer }
    -- number by number: unit 2's 7 before unit 1's 18
    ∷ record { call = dispatch (put 42 (0x7F ∷ []) (put 78 (0x00 ∷ 0x01 ∷ []) (site2 26))); result = refuses 18 buffer }
    -- the same of U twice, with mark 2 in the first and b1 10,000,001 in the second
    ∷ record { call = dispatch ((0x00 ∷ 0x02 ∷ 0x00 ∷ 0x02 ∷ 0x00 ∷ 0x00 ∷ 0x00 ∷ 0x05 ∷ 0x00 ∷ 0x10 ∷ 0x00 ∷ 0x22 ∷ 0x00 ∷ 0x32 ∷ 0x00 ∷ 0x22 ∷ []) ++ drop 12 (put 34 (0x00 ∷ 0x02 ∷ []) (with_linear_loss 0x00 0x00 0x00 0x00)) ++ drop 12 (with_linear_loss 0x00 0x98 0x96 0x81)); result = refuses 10 buffer }
    -- unit 2's b1 not looked at
    ∷ record { call = dispatch (put 80 (0x7F ∷ []) (site2 26)); result = refuses 18 buffer }
    -- unpacking accepts edition 2
    ∷ record { call = unpack_into (site2 26) rows_buffer; result = refuses 3 rows_buffer }
    -- unpacking: 4 before 3 in edition 2
    ∷ record { call = unpack_into (put 2 (0x00 ∷ 0x00 ∷ []) (site2 26)) rows_buffer; result = refuses 3 rows_buffer }
    -- unpacking: 6 before 3 in edition 2
    ∷ record { call = unpack_into (take 83 (site2 26)) rows_buffer; result = refuses 3 rows_buffer }
    -- unpacking accepts a negative b1
    ∷ record { call = unpack_into (with_linear_loss 0xFF 0x67 0x69 0x80) rows_buffer; result = refuses 3 rows_buffer }
    -- unpacking: 18 before 3
    ∷ record { call = unpack_into (with_linear_loss 0x00 0x98 0x96 0x81) rows_buffer; result = refuses 3 rows_buffer }
    -- unpacking: 3 before 2
    ∷ record { call = unpack_into (take 7 (site2 26)) rows_buffer; result = refuses 2 rows_buffer }
    -- unpacking: 3 before 1
    ∷ record { call = unpack_into (site2 26) (replicate 607 9); result = refuses 1 (replicate 607 9) }
    -- C's unpacking accepts edition 2
    ∷ record { call = panel_unpack (site2 26) rows_buffer answers; result = returns 3 rows_buffer answers }
    -- packing refuses b 5,000 with 18
    ∷ record { call = pack 5 (put 3 (5000 ∷ []) row_of_u); result = writes 42 (put 22 (0x13 ∷ 0x88 ∷ []) u5 ++ replicate 50 255) }
    -- 9 not asked in edition 2
    ∷ record { call = dispatch (put 42 (0x00 ∷ 0x02 ∷ []) (with_linear_loss 0x00 0x00 0x00 0x00)); result = refuses 9 buffer }
    -- unpacking accepts edition 2 where each b1 is 0
    ∷ record { call = unpack_into (with_linear_loss 0x00 0x00 0x00 0x00) rows_buffer; result = refuses 3 rows_buffer }
    -- unpacking: 5 before 3 in edition 2
    ∷ record { call = unpack_into (put 4 (0x00 ∷ 0x04 ∷ 0xE2 ∷ 0x01 ∷ []) (site2 26)) rows_buffer; result = refuses 3 rows_buffer }
    -- C's unpacking: 3 before the 1 of the answers
    ∷ record { call = panel_unpack (site2 26) rows_buffer (pos 8 ∷ []); result = returns 1 rows_buffer (pos 8 ∷ []) }
    -- body 1 checked before entry 2
    ∷ record { call = dispatch (put 12 (0x00 ∷ 0x55 ∷ []) (put 42 (0x7F ∷ []) (site2 26))); result = refuses 6 buffer }
    -- packing: 18 before 8
    ∷ record { call = pack 5 (put 3 (5001 ∷ []) row_of_u); result = refuses 8 buffer }
    ∷ []

pub linear_losses_hold : Holds answer linear_losses
unfolding answer linear_losses
linear_losses_hold = refl

pub edition_limits_hold : Holds answer edition_limits
unfolding answer edition_limits
edition_limits_hold = refl

pub edition_refusals_hold : Holds answer edition_refusals
unfolding answer edition_refusals
edition_refusals_hold = refl
