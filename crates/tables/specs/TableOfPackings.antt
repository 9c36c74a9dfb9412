-- Rules 3.6, 4.3 and 13.7 of docs/SPECIFICATION.md: packing in edition 2, case by case: `packings` (what is written, and the last accepted b1), `packing_refusals` (each number, the first refused b1, and the places of 18 and of the b1 list's own check in the order). Above each row stands the wrong rule that it shows.
use Rattle.std.specs.Prelude.{List, [], ◌∷◌, ◌++◌, refl, pos, neg_ℤ, replicate, take}
use Rattle.rules.specs.Lists.{over}
use Rattle.rules.specs.TableRows.{Row, Holds}
use Rattle.rules.specs.Cases.{Call, Answer, answer, buffer, pack_2_into, panel_pack_2, writes, refuses, returns}
use Rattle.rules.specs.CaseFiles.{row_of_u, rows_of_site, put, copies, with_linear_loss, site2}

unfoldable pub packings : List (Row Call Answer)
packings =
    -- edition 1 written; the bytes behind the file touched
    record { call = pack_2_into 5 row_of_u (pos 0 ∷ []) buffer; result = writes 46 (over (with_linear_loss 0x00 0x00 0x00 0x00) buffer) }
    -- a negative b1 written by its size, or the last accepted one refused
    ∷ record { call = pack_2_into 5 row_of_u (neg_ℤ (pos 10000000) ∷ []) buffer; result = writes 46 (over (with_linear_loss 0xFF 0x67 0x69 0x80) buffer) }
    -- b1 −1 written in fewer bytes
    ∷ record { call = pack_2_into 5 row_of_u (neg_ℤ (pos 1) ∷ []) buffer; result = writes 46 (over (with_linear_loss 0xFF 0xFF 0xFF 0xFF) buffer) }
    -- b1 10,000,000 refused, or its low byte written first
    ∷ record { call = pack_2_into 5 row_of_u (pos 10000000 ∷ []) buffer; result = writes 46 (over (with_linear_loss 0x00 0x98 0x96 0x80) buffer) }
    -- b1 + 19,999 × b refused at 99,999,999: b 5,000, b1 4,999
    ∷ record { call = pack_2_into 5 (put 3 (5000 ∷ []) row_of_u) (pos 4999 ∷ []) buffer; result = writes 46 (over (put 22 (0x13 ∷ 0x88 ∷ []) (with_linear_loss 0x00 0x00 0x13 0x87)) buffer) }
    -- one b1 for both rows, or each other's; a buffer that just has room refused
    ∷ record { call = pack_2_into 26 rows_of_site (pos 5000000 ∷ neg_ℤ (pos 3000000) ∷ []) (replicate 84 255); result = writes 84 (site2 26) }
    -- C gets another number
    ∷ record { call = panel_pack_2 26 rows_of_site (pos 5000000 ∷ neg_ℤ (pos 3000000) ∷ []) buffer; result = returns 84 (over (site2 26) buffer) [] }
    ∷ []

unfoldable pub packing_refusals : List (Row Call Answer)
packing_refusals =
    -- no row accepted
    record { call = pack_2_into 5 [] [] buffer; result = refuses 12 buffer }
    -- 18 numbers accepted
    ∷ record { call = pack_2_into 5 (take 18 row_of_u) [] buffer; result = refuses 12 buffer }
    -- 20 numbers accepted
    ∷ record { call = pack_2_into 5 (row_of_u ++ (0 ∷ [])) (pos 0 ∷ []) buffer; result = refuses 12 buffer }
    -- 33 rows accepted
    ∷ record { call = pack_2_into 5 (copies 33 row_of_u) (replicate 33 (pos 0)) buffer; result = refuses 12 buffer }
    -- a row without a b1 taken for b1 0
    ∷ record { call = pack_2_into 5 row_of_u [] buffer; result = refuses 12 buffer }
    -- a b1 for the first row alone
    ∷ record { call = pack_2_into 26 rows_of_site (pos 0 ∷ []) buffer; result = refuses 12 buffer }
    -- a b1 too many
    ∷ record { call = pack_2_into 5 row_of_u (pos 0 ∷ pos 0 ∷ []) buffer; result = refuses 12 buffer }
    -- d 320,001 accepted
    ∷ record { call = pack_2_into 320001 row_of_u (pos 0 ∷ []) buffer; result = refuses 5 buffer }
    -- five zones accepted
    ∷ record { call = pack_2_into 5 (put 10 (5 ∷ []) row_of_u) (pos 0 ∷ []) buffer; result = refuses 7 buffer }
    -- an unused edge that is not zero accepted
    ∷ record { call = pack_2_into 5 (put 13 (8 ∷ []) row_of_u) (pos 0 ∷ []) buffer; result = refuses 7 buffer }
    -- c1 above its limit accepted
    ∷ record { call = pack_2_into 5 (put 1 (10000001 ∷ []) row_of_u) (pos 0 ∷ []) buffer; result = refuses 8 buffer }
    -- b1 10,000,001 accepted
    ∷ record { call = pack_2_into 5 row_of_u (pos 10000001 ∷ []) buffer; result = refuses 18 buffer }
    -- b1 −10,000,001 accepted
    ∷ record { call = pack_2_into 5 row_of_u (neg_ℤ (pos 10000001) ∷ []) buffer; result = refuses 18 buffer }
    -- b1 + 19,999 × b up to 100,000,000: b 5,000, b1 5,000
    ∷ record { call = pack_2_into 5 (put 3 (5000 ∷ []) row_of_u) (pos 5000 ∷ []) buffer; result = refuses 18 buffer }
    -- the second row's b1 not looked at
    ∷ record { call = pack_2_into 26 rows_of_site (pos 0 ∷ pos 10000001 ∷ []) buffer; result = refuses 18 buffer }
    -- a lower edge equal to least accepted
    ∷ record { call = pack_2_into 5 (put 11 (2 ∷ []) row_of_u) (pos 0 ∷ []) buffer; result = refuses 9 buffer }
    -- mark 2 accepted
    ∷ record { call = pack_2_into 5 (put 9 (2 ∷ []) row_of_u) (pos 0 ∷ []) buffer; result = refuses 10 buffer }
    -- the length of edition 1 asked for: a buffer one byte too short accepted
    ∷ record { call = pack_2_into 5 row_of_u (pos 0 ∷ []) (replicate 45 255); result = refuses 13 (replicate 45 255) }
    -- 5 before the 12 of the b1 list
    ∷ record { call = pack_2_into 320001 row_of_u [] buffer; result = refuses 12 buffer }
    -- 18 before 5
    ∷ record { call = pack_2_into 320001 row_of_u (pos 10000001 ∷ []) buffer; result = refuses 5 buffer }
    -- 18 before 7
    ∷ record { call = pack_2_into 5 (put 10 (5 ∷ []) row_of_u) (pos 10000001 ∷ []) buffer; result = refuses 7 buffer }
    -- 18 before 8
    ∷ record { call = pack_2_into 5 (put 1 (10000001 ∷ []) row_of_u) (pos 10000001 ∷ []) buffer; result = refuses 8 buffer }
    -- 18 before 8, where b above its limit makes the sum too large: b 5,001, b1 0
    ∷ record { call = pack_2_into 5 (put 3 (5001 ∷ []) row_of_u) (pos 0 ∷ []) buffer; result = refuses 8 buffer }
    -- 9 before 18
    ∷ record { call = pack_2_into 5 (put 11 (2 ∷ []) row_of_u) (pos 10000001 ∷ []) buffer; result = refuses 18 buffer }
    -- 10 before 18
    ∷ record { call = pack_2_into 5 (put 9 (2 ∷ []) row_of_u) (pos 10000001 ∷ []) buffer; result = refuses 18 buffer }
    -- 10 before 9
    ∷ record { call = pack_2_into 5 (put 9 (2 ∷ []) (put 11 (2 ∷ []) row_of_u)) (pos 0 ∷ []) buffer; result = refuses 9 buffer }
    -- number by number: row 2's 18 before row 1's 10
    ∷ record { call = pack_2_into 26 (put 9 (2 ∷ []) rows_of_site) (pos 0 ∷ pos 10000001 ∷ []) buffer; result = refuses 10 buffer }
    -- number by number: row 2's 7 before row 1's 18
    ∷ record { call = pack_2_into 26 (put 29 (5 ∷ []) rows_of_site) (pos 10000001 ∷ pos 0 ∷ []) buffer; result = refuses 18 buffer }
    -- 13 before 18
    ∷ record { call = pack_2_into 5 row_of_u (pos 10000001 ∷ []) (replicate 45 255); result = refuses 18 (replicate 45 255) }
    -- C gets another number, or a write before the refusal
    ∷ record { call = panel_pack_2 5 row_of_u (pos 10000001 ∷ []) buffer; result = returns 18 buffer [] }
    ∷ []

pub packings_hold : Holds answer packings
unfolding answer packings
packings_hold = refl

pub packing_refusals_hold : Holds answer packing_refusals
unfolding answer packing_refusals
packing_refusals_hold = refl
